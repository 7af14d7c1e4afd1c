-- Well-formed abstract values.
use Rattle.bpf_absnum.specs.Laws.{IsNum}
use Rattle.bpf_absval.specs.declared.value.AbsVal.{AbsVal}
use Rattle.bpf_absval.specs.declared.value.AbsVal.TheVariants as abs
use Rattle.bpf_absval.specs.declared.slot.AbsSlot.{AbsSlot}
use Rattle.bpf_absval.specs.declared.slot.AbsSlot.TheVariants as slot

-- its number or offset is well formed
abbrev pub IsVal : AbsVal → Type 0
IsVal (abs.Number a) = IsNum a
IsVal (abs.Frame offset label) = IsNum offset
IsVal (abs.Pointer at offset) = IsNum offset
IsVal v = Unit {0}

-- the value that it stores is well formed
abbrev pub IsSlot : AbsSlot → Type 0
IsSlot (slot.Stored v) = IsVal v
IsSlot s = Unit {0}
