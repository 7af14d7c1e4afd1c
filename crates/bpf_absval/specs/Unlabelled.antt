-- Forgetting a label: no value has it.
use Rattle.std.specs.Prelude.{ℕ, ◌==◌, if◌then◌else◌, Bool, false, Option, Some, None}
use Rattle.bpf_absval.specs.declared.value.AbsVal.{AbsVal}
use Rattle.bpf_absval.specs.declared.value.AbsVal.TheVariants as abs
use Rattle.bpf_absval.specs.declared.value.Label.{Label}
use Rattle.bpf_absval.specs.declared.slot.AbsSlot.{AbsSlot}
use Rattle.bpf_absval.specs.declared.slot.AbsSlot.TheVariants as slot

-- the label, unless it is the forgotten one
abbrev pub drop_label : ℕ → Option Label → Option Label
drop_label label None = None
drop_label label (Some l) = (if l.label == label then None else Some l)

-- the value without the label
abbrev pub unlabelled : ℕ → AbsVal → AbsVal
unlabelled label (abs.Frame offset l) = abs.Frame offset (drop_label label l)
unlabelled label v = v

-- the slot without the label
abbrev pub slot_unlabelled : ℕ → AbsSlot → AbsSlot
slot_unlabelled label (slot.Stored v) = slot.Stored (unlabelled label v)
slot_unlabelled label s = s

-- it is that label
abbrev pub is_label : ℕ → Option Label → Bool
is_label label None = false
is_label label (Some l) = l.label == label

-- whether the value has the label
abbrev pub has_label : ℕ → AbsVal → Bool
has_label label (abs.Frame offset l) = is_label label l
has_label label v = false

-- whether what the slot stores has the label
abbrev pub slot_has_label : ℕ → AbsSlot → Bool
slot_has_label label (slot.Stored v) = has_label label v
slot_has_label label s = false

-- ---- whichever label it has

-- the value without a label
abbrev pub bare : AbsVal → AbsVal
bare (abs.Frame offset l) = abs.Frame offset None
bare v = v

-- the slot without a label
abbrev pub slot_bare : AbsSlot → AbsSlot
slot_bare (slot.Stored v) = slot.Stored (bare v)
slot_bare s = s
