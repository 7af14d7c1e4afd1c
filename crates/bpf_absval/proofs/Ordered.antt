-- Rooms in the order of their labels: what a room changes before and after a label.
use Rattle.std.proofs.Common.{◌≡◌, ◌≢◌, ℕ, ◌+◌, ◌<◌, ◌≤◌, ◌==◌, not, max, List, [], ◌∷◌, ◌++◌, Bool, true, false, Some, None, refl, ap, sym, ◌∙◌, arith, if◌then◌else◌}
use Rattle.std.specs.Prelude.{nat_lt}
use Rattle.std.proofs.lemmas.Bool.{eq-eqb, eqb-true, eqb-false, ltb-true, ltb-false, lt-ltb, le-ltb, ne_eqb, cond_both}
use Rattle.std.proofs.lemmas.List.Elements.{filter-append}
use Rattle.bpf_absval.specs.declared.room.Room.{Room}
use Rattle.bpf_absval.specs.Rooms.{find_room, raised, rooms_without, Between}

-- ---- where labels are

pub between_from : (low from end : ℕ) (rs : List Room) → low ≤ from → Between from end rs → Between low end rs
unfolding Between
between_from low from end [] lower h = tt
between_from low from end (r ∷ rs) lower h = (omega (arith, lower, h.0), h.1, h.2)

pub between_to : (low to end : ℕ) (rs : List Room) → to ≤ end → Between low to rs → Between low end rs
unfolding Between
between_to low to end [] higher h = tt
between_to low to end (r ∷ rs) higher h = (h.0, omega (arith, higher, h.1), between_to (r.label + 1) to end rs higher h.2)

pub between_both : (low split end : ℕ) (l r : List Room) → low ≤ split → split ≤ end → Between low split l → Between split end r → Between low end (l ++ r)
unfolding Between
between_both low split end [] r begins ends h k = between_from low split end r begins k
between_both low split end (x ∷ l) r begins ends h k =
    (h.0, omega (arith, ends, h.1), between_both (x.label + 1) split end l r (omega (arith, h.1)) ends h.2 k)

pub between_raised : (low end label n : ℕ) (rs : List Room) → low ≤ label → label < end → Between low end rs → Between low end (raised rs label n)
unfolding Between raised
between_raised low end label n [] begins ends h = (begins, ends, tt)
between_raised low end label n (r ∷ rs) begins ends h =
    let new : Room = record { label = label; size = n } in
    cond_both (r.label == label) (record r { size = max r.size n } ∷ rs) (if nat_lt label r.label then new ∷ r ∷ rs else r ∷ raised rs label n) (Between low end)
    (λ same. (h.0, h.1, h.2))
    (λ other. cond_both (nat_lt label r.label) (new ∷ r ∷ rs) (r ∷ raised rs label n) (Between low end)
    (λ lower. (begins, ends, (omega (arith, ltb-true label r.label lower), h.1, h.2)))
    (λ higher.
    let next : r.label + 1 ≤ label = omega (arith, ltb-false label r.label higher, eqb-false r.label label other) in
    (h.0, h.1, between_raised (r.label + 1) end label n rs next ends h.2)))

pub between_without : (low end label : ℕ) (rs : List Room) → Between low end rs → Between low end (rooms_without label rs)
unfolding Between
between_without low end label [] h = tt
between_without low end label (r ∷ rs) h =
    let rest = between_without (r.label + 1) end label rs h.2 in
    cond_both (not (r.label == label)) (r ∷ rooms_without label rs) (rooms_without label rs) (Between low end)
    (λ kept. (h.0, h.1, rest))
    (λ gone. between_from low (r.label + 1) end (rooms_without label rs) (omega (arith, h.0)) rest)

-- ---- a label below all rooms of a list

differs : (label from : ℕ) (r : Room) → from ≤ r.label → label < from → (r.label == label) ≡ false
differs label from r begins lower = ne_eqb r.label label (λ e. omega (arith, begins, lower, e))

find_below : (from end label : ℕ) (rs : List Room) → Between from end rs → label < from → find_room rs label ≡ None
unfolding Between find_room
find_below from end label [] h lower = refl
find_below from end label (r ∷ rs) h lower =
    rw (differs label from r h.0 lower) (find_below (r.label + 1) end label rs h.2 (omega (arith, h.0, lower)))

without_below : (from end label : ℕ) (rs : List Room) → Between from end rs → label < from → rooms_without label rs ≡ rs
unfolding Between
without_below from end label [] h lower = refl
without_below from end label (r ∷ rs) h lower =
    rw (differs label from r h.0 lower) (ap (λ (xs : List Room). r ∷ xs) (without_below (r.label + 1) end label rs h.2 (omega (arith, h.0, lower))))

-- the label's room comes first
pub raised_below : (from end label n : ℕ) (rs : List Room) → Between from end rs → label < from → raised rs label n ≡ record { label = label; size = n } ∷ rs
unfolding Between raised
raised_below from end label n [] h lower = refl
raised_below from end label n (r ∷ rs) h lower =
    rw (differs label from r h.0 lower, lt-ltb label r.label (omega (arith, h.0, lower))) refl

-- ---- two lists separated by a label: a lower one concerns the first, another the second

pub find_left : (split end label : ℕ) (l r : List Room) → Between split end r → label < split → find_room (l ++ r) label ≡ find_room l label
unfolding find_room
find_left split end label [] r h lower = find_below split end label r h lower
find_left split end label (x ∷ l) r h lower =
    ap (λ o. if x.label == label then Some x.size else o) (find_left split end label l r h lower)

pub find_right : (low split label : ℕ) (l r : List Room) → Between low split l → split ≤ label → find_room (l ++ r) label ≡ find_room r label
unfolding Between find_room
find_right low split label [] r h higher = refl
find_right low split label (x ∷ l) r h higher =
    let other : (x.label == label) ≡ false = ne_eqb x.label label (λ e. omega (arith, h.1, higher, e)) in
    rw other (find_right (x.label + 1) split label l r h.2 higher)

pub raised_left : (split end label n : ℕ) (l r : List Room) → Between split end r → label < split → raised (l ++ r) label n ≡ raised l label n ++ r
unfolding raised
raised_left split end label n [] r h lower = raised_below split end label n r h lower
raised_left split end label n (x ∷ l) r h lower =
    by_tests (x.label == label) (nat_lt label x.label) refl refl (raised_left split end label n l r h lower)
  where
    by_tests : (here lower : Bool) → (x.label == label) ≡ here → nat_lt label x.label ≡ lower → raised (l ++ r) label n ≡ raised l label n ++ r
        → raised (x ∷ (l ++ r)) label n ≡ raised (x ∷ l) label n ++ r
    by_tests true low is below rest = rw is refl
    by_tests false true is below rest = rw (is, below) refl
    by_tests false false is below rest = rw (is, below) (ap (λ (xs : List Room). x ∷ xs) rest)

pub raised_right : (low split label n : ℕ) (l r : List Room) → Between low split l → split ≤ label → raised (l ++ r) label n ≡ l ++ raised r label n
unfolding Between raised
raised_right low split label n [] r h higher = refl
raised_right low split label n (x ∷ l) r h higher =
    let other : (x.label == label) ≡ false = ne_eqb x.label label (λ e. omega (arith, h.1, higher, e)) in
    let behind : nat_lt label x.label ≡ false = le-ltb label x.label (omega (arith, h.1, higher)) in
    rw (other, behind) (ap (λ (xs : List Room). x ∷ xs) (raised_right (x.label + 1) split label n l r h.2 higher))

pub without_left : (split end label : ℕ) (l r : List Room) → Between split end r → label < split → rooms_without label (l ++ r) ≡ rooms_without label l ++ r
without_left split end label l r h lower =
    filter-append (λ (r : Room). not (r.label == label)) l r ∙ ap (λ (xs : List Room). rooms_without label l ++ xs) (without_below split end label r h lower)

without_above : (low split label : ℕ) (l : List Room) → Between low split l → split ≤ label → rooms_without label l ≡ l
unfolding Between
without_above low split label [] h higher = refl
without_above low split label (x ∷ l) h higher =
    let other : (x.label == label) ≡ false = ne_eqb x.label label (λ e. omega (arith, h.1, higher, e)) in
    rw other (ap (λ (xs : List Room). x ∷ xs) (without_above (x.label + 1) split label l h.2 higher))

pub without_right : (low split label : ℕ) (l r : List Room) → Between low split l → split ≤ label → rooms_without label (l ++ r) ≡ l ++ rooms_without label r
without_right low split label l r h higher =
    filter-append (λ (r : Room). not (r.label == label)) l r ∙ ap (λ (xs : List Room). xs ++ rooms_without label r) (without_above low split label l h higher)

-- ---- no change

some_none : (n : ℕ) → Some n ≡ None → ⊥
some_none n e = cc

same_size : (m n : ℕ) → Some m ≡ Some n → m ≡ n
same_size m n e = cc

-- as many bytes are already known
pub raised_known : (low end label n known : ℕ) (rs : List Room) → Between low end rs → Some known ≡ find_room rs label → n ≤ known → raised rs label n ≡ rs
unfolding Between find_room raised
raised_known low end label n known [] h found enough = absurd (some_none known found)
raised_known low end label n known (r ∷ rs) h found enough =
    by_tests (r.label == label) (nat_lt label r.label) refl refl (λ there. raised_known (r.label + 1) end label n known rs h.2 there enough)
  where
    by_tests : (here lower : Bool) → (r.label == label) ≡ here → nat_lt label r.label ≡ lower → (Some known ≡ find_room rs label → raised rs label n ≡ rs)
        → raised (r ∷ rs) label n ≡ r ∷ rs
    by_tests true lower is below rest =
        let size : known ≡ r.size = same_size known r.size (rw is at found) in
        let most : max r.size n ≡ r.size = omega (arith, size, enough) in
        rw (is, most) refl
    by_tests false true is below rest =
        let none = find_below (r.label + 1) end label rs h.2 (omega (arith, ltb-true label r.label below)) in
        absurd (some_none known ((rw is at found) ∙ none))
    by_tests false false is below rest =
        rw (is, below) (ap (λ (xs : List Room). r ∷ xs) (rest (rw is at found)))

pub without_unknown : (label : ℕ) (rs : List Room) → find_room rs label ≡ None → rooms_without label rs ≡ rs
unfolding find_room
without_unknown label [] none = refl
without_unknown label (r ∷ rs) none = by_test (r.label == label) refl (without_unknown label rs)
  where
    by_test : (here : Bool) → (r.label == label) ≡ here → (find_room rs label ≡ None → rooms_without label rs ≡ rs) → rooms_without label (r ∷ rs) ≡ r ∷ rs
    by_test true is rest = absurd (some_none r.size (rw is at none))
    by_test false is rest = rw is (ap (λ (xs : List Room). r ∷ xs) (rest (rw is at none)))

-- the label's room comes last
pub raised_above : (low split label n : ℕ) (l : List Room) → Between low split l → split ≤ label → raised l label n ≡ l ++ record { label = label; size = n } ∷ []
unfolding Between raised
raised_above low split label n [] h higher = refl
raised_above low split label n (x ∷ l) h higher =
    let other : (x.label == label) ≡ false = ne_eqb x.label label (λ e. omega (arith, h.1, higher, e)) in
    let behind : nat_lt label x.label ≡ false = le-ltb label x.label (omega (arith, h.1, higher)) in
    rw (other, behind) (ap (λ (xs : List Room). x ∷ xs) (raised_above (x.label + 1) split label n l h.2 higher))

-- ---- one room among others

-- the room of a label that had none
pub found_raised : (label n : ℕ) (rs : List Room) → find_room rs label ≡ None → Some n ≡ find_room (raised rs label n) label
unfolding find_room raised
found_raised label n [] none = rw (eq-eqb label label refl) refl
found_raised label n (r ∷ rs) none = by_tests (r.label == label) (nat_lt label r.label) refl refl (found_raised label n rs)
  where
    by_tests : (here lower : Bool) → (r.label == label) ≡ here → nat_lt label r.label ≡ lower → (find_room rs label ≡ None → Some n ≡ find_room (raised rs label n) label)
        → Some n ≡ find_room (raised (r ∷ rs) label n) label
    by_tests true lower is below rest = absurd (some_none r.size (rw is at none))
    by_tests false true is below rest = rw (is, below, eq-eqb label label refl) refl
    by_tests false false is below rest = rw (is, below, is) (rest (rw is at none))

pub others_raised : (label other n : ℕ) (rs : List Room) → label ≢ other → find_room (raised rs label n) other ≡ find_room rs other
unfolding find_room raised
others_raised label other n [] apart = rw (ne_eqb label other apart) refl
others_raised label other n (r ∷ rs) apart = by_tests (r.label == label) (nat_lt label r.label) refl refl (others_raised label other n rs apart)
  where
    by_tests : (here lower : Bool) → (r.label == label) ≡ here → nat_lt label r.label ≡ lower → find_room (raised rs label n) other ≡ find_room rs other
        → find_room (raised (r ∷ rs) label n) other ≡ find_room (r ∷ rs) other
    by_tests true lower is below rest =
        let different : (r.label == other) ≡ false = ne_eqb r.label other (λ e. apart (sym (eqb-true r.label label is) ∙ e)) in
        rw (is, different) refl
    by_tests false true is below rest = rw (is, below, ne_eqb label other apart) refl
    by_tests false false is below rest = rw (is, below) (ap (λ o. if r.label == other then Some r.size else o) rest)

pub raised_twice : (label m n : ℕ) (rs : List Room) → raised (raised rs label m) label n ≡ raised rs label (max m n)
unfolding raised
raised_twice label m n [] = rw (eq-eqb label label refl) refl
raised_twice label m n (r ∷ rs) = by_tests (r.label == label) (nat_lt label r.label) refl refl (raised_twice label m n rs)
  where
    by_tests : (here lower : Bool) → (r.label == label) ≡ here → nat_lt label r.label ≡ lower → raised (raised rs label m) label n ≡ raised rs label (max m n)
        → raised (raised (r ∷ rs) label m) label n ≡ raised (r ∷ rs) label (max m n)
    by_tests true lower is below rest =
        let most : max (max r.size m) n ≡ max r.size (max m n) = omega arith in
        rw (is, is, most) refl
    by_tests false true is below rest = rw (is, below, eq-eqb label label refl) refl
    by_tests false false is below rest = rw (is, below, is, below) (ap (λ (xs : List Room). r ∷ xs) rest)

-- a room added and removed again
pub without_raised : (label n : ℕ) (rs : List Room) → find_room rs label ≡ None → rooms_without label (raised rs label n) ≡ rs
unfolding find_room raised
without_raised label n [] none = rw (eq-eqb label label refl) refl
without_raised label n (r ∷ rs) none = by_tests (r.label == label) (nat_lt label r.label) refl refl (without_raised label n rs)
  where
    by_tests : (here lower : Bool) → (r.label == label) ≡ here → nat_lt label r.label ≡ lower → (find_room rs label ≡ None → rooms_without label (raised rs label n) ≡ rs)
        → rooms_without label (raised (r ∷ rs) label n) ≡ r ∷ rs
    by_tests true lower is below rest = absurd (some_none r.size (rw is at none))
    by_tests false true is below rest =
        rw (is, below, eq-eqb label label refl, is) (ap (λ (xs : List Room). r ∷ xs) (without_unknown label rs (rw is at none)))
    by_tests false false is below rest = rw (is, below, is) (ap (λ (xs : List Room). r ∷ xs) (rest (rw is at none)))

-- another room is removed, before or after
pub without_other : (low end label other n : ℕ) (rs : List Room) → Between low end rs → label ≢ other → rooms_without other (raised rs label n) ≡ raised (rooms_without other rs) label n
unfolding Between raised
without_other low end label other n [] h apart = rw (ne_eqb label other apart) refl
without_other low end label other n (r ∷ rs) h apart =
    by_tests (r.label == label) (nat_lt label r.label) (r.label == other) refl refl refl (without_other (r.label + 1) end label other n rs h.2 apart)
  where
    by_tests : (here lower gone : Bool) → (r.label == label) ≡ here → nat_lt label r.label ≡ lower → (r.label == other) ≡ gone
        → rooms_without other (raised rs label n) ≡ raised (rooms_without other rs) label n
        → rooms_without other (raised (r ∷ rs) label n) ≡ raised (rooms_without other (r ∷ rs)) label n
    by_tests true lower true is below out rest = absurd (apart (sym (eqb-true r.label label is) ∙ eqb-true r.label other out))
    by_tests true lower false is below out rest = rw (is, out, is) refl
    by_tests false true true is below out rest =
        let behind = between_without (r.label + 1) end other rs h.2 in
        let lower : label < r.label + 1 = omega (arith, ltb-true label r.label below) in
        rw (is, below, ne_eqb label other apart, out) (sym (raised_below (r.label + 1) end label n (rooms_without other rs) behind lower))
    by_tests false true false is below out rest = rw (is, below, ne_eqb label other apart, out, is, below) refl
    by_tests false false true is below out rest = rw (is, below, out) rest
    by_tests false false false is below out rest = rw (is, below, out, is, below) (ap (λ (xs : List Room). r ∷ xs) rest)
