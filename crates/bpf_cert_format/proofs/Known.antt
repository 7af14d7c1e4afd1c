-- Slots that are set one after the other.
use Rattle.std.proofs.Common.{◌≡◌, ℕ, ◌+◌, ◌<◌, List, [], ◌∷◌, ◌++◌, length, take, set, get_or, refl, sym, ap, ◌∙◌}
use Rattle.std.proofs.lemmas.List.{take_more, length-set, length-replicate}
use Rattle.bpf_absval.specs.declared.slot.AbsSlot.{AbsSlot}
use Rattle.bpf_absval.specs.declared.slot.AbsSlot.TheVariants.{Unset}
use Rattle.bpf_cert_format.specs.declared.slots.KnownSlot.{KnownSlot}
use Rattle.bpf_cert_format.specs.Slots.{no_slots, slots_after}

-- one set after the others
pub one_more : (slots : List AbsSlot) (ks : List KnownSlot) (k : KnownSlot) → slots_after slots (ks ++ k ∷ []) ≡ set (slots_after slots ks) k.index k.slot
one_more slots [] k = refl
one_more slots (j ∷ ks) k = one_more (set slots j.index j.slot) ks k

-- the next one of a list
pub taken_more : (slots : List AbsSlot) (ks : List KnownSlot) (i : ℕ) (k : KnownSlot) → i < length ks → k ≡ get_or ks i k → slots_after slots (take (i + 1) ks) ≡ set (slots_after slots (take i ks)) k.index k.slot
taken_more slots ks i k lt is =
    ap (slots_after slots) (take_more ks i k lt) ∙ one_more slots (take i ks) (get_or ks i k)
    ∙ ap (λ (j : KnownSlot). set (slots_after slots (take i ks)) j.index j.slot) (sym is)

after_length : (slots : List AbsSlot) (ks : List KnownSlot) → length (slots_after slots ks) ≡ length slots
after_length slots [] = refl
after_length slots (k ∷ ks) = after_length (set slots k.index k.slot) ks ∙ length-set slots k.index k.slot

-- there are 64
pub all_known : (slots : List AbsSlot) (ks : List KnownSlot) → slots ≡ slots_after no_slots ks → length slots ≡ 64
all_known slots ks e = ap length e ∙ after_length no_slots ks ∙ length-replicate 64 Unset
