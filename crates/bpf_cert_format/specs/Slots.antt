-- The slots of a stack, of which some are known.
use Rattle.std.specs.Prelude.{List, [], ◌∷◌, replicate, slice_set}
use Rattle.bpf_absval.specs.declared.slot.AbsSlot.{AbsSlot}
use Rattle.bpf_absval.specs.declared.slot.AbsSlot.TheVariants.{Unset}
use Rattle.bpf_cert_format.specs.declared.slots.KnownSlot.{KnownSlot}

-- 64 slots of which nothing is known
abbrev pub no_slots : List AbsSlot
no_slots = replicate 64 Unset

-- the slots after these were set, one after the other
abbrev pub slots_after : List AbsSlot → List KnownSlot → List AbsSlot
slots_after slots [] = slots
slots_after slots (k ∷ ks) = slots_after (slice_set slots k.index k.slot) ks
