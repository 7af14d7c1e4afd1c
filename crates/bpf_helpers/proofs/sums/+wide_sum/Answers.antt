use Rattle.std.proofs.Common.{rules, ◌≡◌, ℕ, ◌%◌, List, sum, ◌+◌, ◌∷◌, arith}
use Rattle.std.proofs.lemmas.List.Sums.{sum_by-cons}
use Rattle.bpf_regions.specs.declared.maps.MapOp.TheVariants.{Load}
use Rattle.shared_maps.specs.Seats.{Extends}
use Rattle.shared_maps.specs.Tables.{Map, Place}
use Rattle.bpf_helpers.specs.Sums.{Loads}
use Rattle.bpf_helpers.proofs.sums.+wide_sum.Goals as goal

one_more : (word : ℕ) (tables : List Map) (t : Map) (ts : List Map) → tables ≡ t ∷ ts → (seats : List Place) (s : Place) (ss : List Place) → seats ≡ s ∷ ss → (s' : Place) (ss' : List Place) (n m : ℕ)
    → s'.table ≡ s.table → Extends t.shape s.known word Load n s'.known → (answers : List ℕ) × Loads word ts ss answers ss' × (m ≡ sum answers % 18446744073709551616)
    → (x : List ℕ) × Loads word tables seats x (s' ∷ ss') × ((n + m) % 18446744073709551616 ≡ sum x % 18446744073709551616)
one_more word tables t ts is seats s ss are s' ss' n m same made more =
    let ns : List ℕ = more.0 in
    let m_is : m ≡ sum ns % 18446744073709551616 = more.2 in
    let total : sum (n ∷ ns) ≡ n + sum ns = sum_by-cons (λ (k : ℕ). k) n ns in
    (n ∷ ns, rw (is, are) (same, made, more.1), grind (arith, m_is, total))

pub returns : goal.returns
returns t c = record {
  is = one_more c.args.word c.args.tables.now c.in-Some.table.now c.in-Some.more_tables.now (search rules) c.args.seats.now c.in-Some-split_first_mut.seat.now c.in-Some-split_first_mut.more_seats.now (search rules) _ _ _ _
      c.access-answer.ensures.table c.access-answer.ensures.made c.wide_sum.ensures.is;
}
