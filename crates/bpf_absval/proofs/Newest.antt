-- The newest room and the others.
use Rattle.std.proofs.Common.{◌≡◌, ◌≢◌, ℕ, ◌<◌, ◌^◌, max, List, Option, Some, None, sym, ◌∙◌, subst, arith}
use Rattle.bpf_absval.specs.declared.room.Room.{Room}
use Rattle.bpf_absval.specs.Rooms.{find_room, raised, rooms_without, Between}
use Rattle.bpf_absval.specs.Leaves.{with_newest, IsNew, IsApart}
use Rattle.bpf_absval.proofs.Forgets.{others_stay}
use Rattle.bpf_absval.proofs.Ordered.{between_raised, between_without, found_raised, others_raised, raised_twice, without_raised, without_other}

pub all_between : (newest : Option Room) (rs : List Room) → IsApart newest rs → Between 0 (2 ^ 16) (with_newest newest rs)
all_between None rs h = h.order
all_between (Some r) rs h = between_raised 0 (2 ^ 16) r.label r.size rs (omega arith) h.new.label h.order

pub newest_found : (r : Room) (rs : List Room) (label : ℕ) → IsNew r rs → r.label ≡ label → Some r.size ≡ find_room (raised rs r.label r.size) label
newest_found r rs label h is = subst (λ k. Some r.size ≡ find_room (raised rs r.label r.size) k) is (found_raised r.label r.size rs h.apart)

pub other_found : (r : Room) (rs : List Room) (label : ℕ) → r.label ≢ label → find_room rs label ≡ find_room (raised rs r.label r.size) label
other_found r rs label apart = sym (others_raised r.label label r.size rs apart)

pub newest_raised : (r : Room) (rs : List Room) (label n : ℕ) → r.label ≡ label → raised rs label (max r.size n) ≡ raised (raised rs r.label r.size) label n
newest_raised r rs label n is =
    subst (λ k. raised rs k (max r.size n) ≡ raised (raised rs r.label r.size) k n) is (sym (raised_twice r.label r.size n rs))

pub newest_gone : (r : Room) (rs : List Room) (label : ℕ) → IsNew r rs → r.label ≡ label → rs ≡ rooms_without label (raised rs r.label r.size)
newest_gone r rs label h is =
    subst (λ k. rs ≡ rooms_without k (raised rs r.label r.size)) is (sym (without_raised r.label r.size rs h.apart))

pub other_gone : (r : Room) (rs ts : List Room) (label : ℕ) → IsApart (Some r) rs → r.label ≢ label → ts ≡ rooms_without label rs
    → raised ts r.label r.size ≡ rooms_without label (raised rs r.label r.size)
other_gone r rs ts label h apart is = rw is (sym (without_other 0 (2 ^ 16) r.label label r.size rs h.order apart))

pub apart_without : (r : Room) (rs ts : List Room) (label : ℕ) → IsApart (Some r) rs → r.label ≢ label → ts ≡ rooms_without label rs → IsApart (Some r) ts
apart_without r rs ts label h apart is =
    rw is (record {
      order = between_without 0 (2 ^ 16) label rs h.order;
      new = record { label = h.new.label; apart = others_stay label r.label rs apart ∙ h.new.apart };
    })

pub none_without : (rs ts : List Room) (label : ℕ) → IsApart None rs → ts ≡ rooms_without label rs → IsApart None ts
none_without rs ts label h is = rw is (record { order = between_without 0 (2 ^ 16) label rs h.order; new = tt })

pub apart_put : (r : Room) (all ts : List Room) → Between 0 (2 ^ 16) all → ts ≡ all → r.label < 2 ^ 16 → find_room all r.label ≡ None → IsApart (Some r) ts
apart_put r all ts order is fits none = rw is (record { order = order; new = record { label = fits; apart = none } })

pub apart_raised : (label n : ℕ) (all ts : List Room) → Between 0 (2 ^ 16) all → label < 2 ^ 16 → ts ≡ raised all label n → IsApart None ts
apart_raised label n all ts order fits is = rw is (record { order = between_raised 0 (2 ^ 16) label n all (omega arith) fits order; new = tt })
