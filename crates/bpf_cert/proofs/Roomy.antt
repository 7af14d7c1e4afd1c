-- Bytes known to follow rising labels, added one after the other.
use Rattle.std.proofs.Common.{◌≡◌, ℕ, zero, suc, ◌+◌, ◌<◌, false, eqb, List, [], ◌∷◌, ◌++◌, length, take, get_or, refl, sym, ◌∙◌, ap, arith}
use Rattle.std.specs.Prelude.{nat_lt}
use Rattle.std.proofs.lemmas.Bool.{ne_eqb, le-ltb}
use Rattle.std.proofs.lemmas.List.{take_more}
use Rattle.bpf_absval.specs.declared.room.Room.{Room}
use Rattle.bpf_absval.specs.Rooms.{raised}
use Rattle.bpf_cert_format.specs.Fits.{Rise}

-- each label of a list is below this one
unfoldable Below : ℕ → List Room → Type 0
Below n [] = Unit {0}
Below n (r ∷ rs) = (r.label < n) × Below n rs

raised_new : (rs : List Room) (label size : ℕ) → Below label rs → raised rs label size ≡ rs ++ record { label = label; size = size } ∷ []
unfolding raised Below
raised_new [] label size h = refl
raised_new (r ∷ rs) label size h =
    let other : eqb r.label label ≡ false = ne_eqb _ _ (λ e. let lt = h.0 in omega (arith, lt, e)) in
    let behind : nat_lt label r.label ≡ false = le-ltb label r.label (let lt = h.0 in omega (arith, lt)) in
    rw (other, behind) (ap (λ (xs : List Room). r ∷ xs) (raised_new rs label size h.1))

above_front : (above : ℕ) (rs : List Room) (i : ℕ) (d : Room) → i < length rs → Rise above rs → above < (get_or rs i d).label
unfolding Rise
above_front above [] i d lt h = absurd (omega (arith, lt))
above_front above (r ∷ rs) zero d lt h = h.0
above_front above (r ∷ rs) (suc i) d lt h = let e = above_front r.label rs i d (omega (arith, lt)) h.3 in let f = h.0 in omega (arith, e, f)

below_next : (above : ℕ) (rs : List Room) (i : ℕ) (d : Room) → i < length rs → Rise above rs → Below (get_or rs i d).label (take i rs)
unfolding Rise Below
below_next above [] i d lt h = absurd (omega (arith, lt))
below_next above (r ∷ rs) zero d lt h = tt
below_next above (r ∷ rs) (suc i) d lt h = (above_front r.label rs i d (omega (arith, lt)) h.3, below_next r.label rs i d (omega (arith, lt)) h.3)

pub room_more : (rs : List Room) (i : ℕ) (d : Room) → i < length rs → Rise 0 rs → raised (take i rs) (get_or rs i d).label (get_or rs i d).size ≡ take (i + 1) rs
room_more rs i d lt h = raised_new (take i rs) (get_or rs i d).label (get_or rs i d).size (below_next 0 rs i d lt h) ∙ sym (take_more rs i d lt)
