-- A tree of one room, and a fork of two sides.
use Rattle.std.proofs.Common.{◌≡◌, ◌≢◌, ℕ, ◌+◌, ◌<◌, ◌≤◌, max, List, [], ◌∷◌, ◌++◌, Some, None, refl, ap, sym, arith}
use Rattle.std.proofs.lemmas.Bool.{eq-eqb, ne_eqb}
use Rattle.bpf_absval.specs.declared.room.Room.{Room}
use Rattle.bpf_absval.specs.Rooms.{find_room, raised, rooms_without, Between}
use Rattle.bpf_absval.specs.Leaves.{IsParted, IsFork}
use Rattle.bpf_absval.proofs.Ordered.{between_both, between_raised, between_without, find_left, find_right, raised_left, raised_right, without_left, without_right}

-- ---- no room and one room

pub none_between : (low end : ℕ) → Between low end []
unfolding Between
none_between low end = tt

pub none_found : (label : ℕ) → None ≡ find_room [] label
unfolding find_room
none_found label = refl

pub none_raised : (label n : ℕ) → record { label = label; size = n } ∷ [] ≡ raised [] label n
unfolding raised
none_raised label n = refl

pub one_between : (r : Room) → Between r.label (r.label + 1) (r ∷ [])
unfolding Between
one_between r = (omega arith, omega arith, tt)

pub one_found : (r : Room) (label : ℕ) → r.label ≡ label → Some r.size ≡ find_room (r ∷ []) label
unfolding find_room
one_found r label e = rw (eq-eqb r.label label e) refl

pub one_other : (r : Room) (label : ℕ) → r.label ≢ label → None ≡ find_room (r ∷ []) label
unfolding find_room
one_other r label apart = rw (ne_eqb r.label label apart) refl

pub one_raised : (r : Room) (label n : ℕ) → r.label ≡ label → record { label = label; size = max r.size n } ∷ [] ≡ raised (r ∷ []) label n
unfolding raised
one_raised r label n e =
    rw (eq-eqb r.label label e) (ap (λ (k : ℕ). let x : Room = record { label = k; size = max r.size n } in x ∷ []) (sym e))

-- ---- a fork: the list d of all its rooms, those of its sides l and r

pub fork_between : (low split high : ℕ) (l r : List Room) → IsFork low split high l r → Between low (high + 1) (l ++ r)
fork_between low split high l r h =
    between_both low split (high + 1) l r h.parted.begins (omega (arith, h.parted.ends)) h.parted.lower h.parted.upper

pub fork_find_left : (d l r : List Room) (low split high label : ℕ) → d ≡ l ++ r → IsFork low split high l r → label < split → find_room l label ≡ find_room d label
fork_find_left d l r low split high label is h lower = rw is (sym (find_left split (high + 1) label l r h.parted.upper lower))

pub fork_find_right : (d l r : List Room) (low split high label : ℕ) → d ≡ l ++ r → IsFork low split high l r → split ≤ label → find_room r label ≡ find_room d label
fork_find_right d l r low split high label is h higher = rw is (sym (find_right low split label l r h.parted.lower higher))

pub left_parted : (l r l2 r2 : List Room) (low split high label n : ℕ) → IsFork low split high l r → low ≤ label → label < split
    → l2 ≡ raised l label n → r2 ≡ r → IsParted low split high l2 r2
left_parted l r l2 r2 low split high label n h begins lower set same =
    rw (set, same) (record {
      begins = h.parted.begins;
      ends = h.parted.ends;
      lower = between_raised low split label n l begins lower h.parted.lower;
      upper = h.parted.upper;
    })

pub right_parted : (l r l2 r2 : List Room) (low split high label n : ℕ) → IsFork low split high l r → split ≤ label → label ≤ high
    → l2 ≡ l → r2 ≡ raised r label n → IsParted low split high l2 r2
right_parted l r l2 r2 low split high label n h higher ends same set =
    rw (set, same) (record {
      begins = h.parted.begins;
      ends = h.parted.ends;
      lower = h.parted.lower;
      upper = between_raised split (high + 1) label n r higher (omega (arith, ends)) h.parted.upper;
    })

pub left_raised : (d l r l2 r2 v : List Room) (low split high label n : ℕ) → d ≡ l ++ r → IsFork low split high l r → label < split
    → l2 ≡ raised l label n → r2 ≡ r → v ≡ l2 ++ r2 → v ≡ raised d label n
left_raised d l r l2 r2 v low split high label n is h lower set same held =
    rw (held, set, same, is) (sym (raised_left split (high + 1) label n l r h.parted.upper lower))

pub right_raised : (d l r l2 r2 v : List Room) (low split high label n : ℕ) → d ≡ l ++ r → IsFork low split high l r → split ≤ label
    → l2 ≡ l → r2 ≡ raised r label n → v ≡ l2 ++ r2 → v ≡ raised d label n
right_raised d l r l2 r2 v low split high label n is h higher same set held =
    rw (held, set, same, is) (sym (raised_right low split label n l r h.parted.lower higher))

pub left_parted_without : (l r l2 r2 : List Room) (low split high label : ℕ) → IsFork low split high l r
    → l2 ≡ rooms_without label l → r2 ≡ r → IsParted low split high l2 r2
left_parted_without l r l2 r2 low split high label h set same =
    rw (set, same) (record {
      begins = h.parted.begins;
      ends = h.parted.ends;
      lower = between_without low split label l h.parted.lower;
      upper = h.parted.upper;
    })

pub right_parted_without : (l r l2 r2 : List Room) (low split high label : ℕ) → IsFork low split high l r
    → l2 ≡ l → r2 ≡ rooms_without label r → IsParted low split high l2 r2
right_parted_without l r l2 r2 low split high label h same set =
    rw (set, same) (record {
      begins = h.parted.begins;
      ends = h.parted.ends;
      lower = h.parted.lower;
      upper = between_without split (high + 1) label r h.parted.upper;
    })

pub left_without : (d l r l2 r2 v : List Room) (low split high label : ℕ) → d ≡ l ++ r → IsFork low split high l r → label < split
    → l2 ≡ rooms_without label l → r2 ≡ r → v ≡ l2 ++ r2 → v ≡ rooms_without label d
left_without d l r l2 r2 v low split high label is h lower set same held =
    rw (held, set, same, is) (sym (without_left split (high + 1) label l r h.parted.upper lower))

pub right_without : (d l r l2 r2 v : List Room) (low split high label : ℕ) → d ≡ l ++ r → IsFork low split high l r → split ≤ label
    → l2 ≡ l → r2 ≡ rooms_without label r → v ≡ l2 ++ r2 → v ≡ rooms_without label d
right_without d l r l2 r2 v low split high label is h higher same set held =
    rw (held, set, same, is) (sym (without_right low split label l r h.parted.lower higher))
