-- Labels that rise, as a loop checks it.
use Rattle.std.proofs.Common.{◌≡◌, ℕ, suc, ◌+◌, ◌≤◌, ◌<◌, true, false, List, [], ◌∷◌, length, drop, get_or, refl, sym, ap, ◌∙◌, arith, drop-cons}
use Rattle.std.specs.Prelude.{◌&&◌, nat_lt, nat_le}
use Rattle.std.proofs.lemmas.List.{drop_all}
use Rattle.bpf_absval.specs.declared.room.Room.{Room}
use Rattle.bpf_cert_format.specs.Reading.{are_rising}

abbrev none : Room
none = record { label = 0; size = 0 }

step : (above : ℕ) (rooms : List Room) (i : ℕ) → i < length rooms →
    are_rising above (drop i rooms) ≡ nat_lt above (get_or rooms i none).label && nat_le (get_or rooms i none).size 2400 && are_rising (get_or rooms i none).label (drop (i + 1) rooms)
unfolding are_rising
step above rooms i lt =
    let e : drop i rooms ≡ get_or rooms i none ∷ drop (suc i) rooms = drop-cons rooms i none lt in
    let more : suc i ≡ i + 1 = omega arith in
    ap (are_rising above) e ∙ ap (λ (k : ℕ). nat_lt above (get_or rooms i none).label && nat_le (get_or rooms i none).size 2400 && are_rising (get_or rooms i none).label (drop k rooms)) more

pub low_label : (above : ℕ) (rooms : List Room) (i : ℕ) → i < length rooms → (get_or rooms i none).label ≤ above → are_rising above (drop i rooms) ≡ false
low_label above rooms i lt low =
    let a : nat_lt above (get_or rooms i none).label ≡ false = grind arith in
    step above rooms i lt ∙ rw a refl

pub large_room : (above : ℕ) (rooms : List Room) (i : ℕ) → i < length rooms → above < (get_or rooms i none).label → 2400 < (get_or rooms i none).size → are_rising above (drop i rooms) ≡ false
large_room above rooms i lt up large =
    let a : nat_lt above (get_or rooms i none).label ≡ true = grind arith in
    let b : nat_le (get_or rooms i none).size 2400 ≡ false = grind arith in
    step above rooms i lt ∙ rw (a, b) refl

pub goes_on : (above : ℕ) (rooms : List Room) (i : ℕ) → i < length rooms → above < (get_or rooms i none).label → (get_or rooms i none).size ≤ 2400 →
    are_rising (get_or rooms i none).label (drop (i + 1) rooms) ≡ are_rising above (drop i rooms)
goes_on above rooms i lt up small =
    let a : nat_lt above (get_or rooms i none).label ≡ true = grind arith in
    let b : nat_le (get_or rooms i none).size 2400 ≡ true = grind arith in
    sym (step above rooms i lt ∙ rw (a, b) refl)

pub at_end : (above : ℕ) (rooms : List Room) (i : ℕ) → length rooms ≤ i → are_rising above (drop i rooms) ≡ true
unfolding are_rising
at_end above rooms i le = let e : drop i rooms ≡ [] = drop_all i rooms le in ap (are_rising above) e
