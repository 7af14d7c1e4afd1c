-- The list of the agreements.
use Rattle.std.proofs.Common.{◌≡◌, ℕ, ◌<◌, zero, suc, List, [], ◌∷◌, length, map, refl, sym, ap, subst, arith, slice_index_or}
use Rattle.std.proofs.lemmas.List.Elements.{All-map}
use Rattle.std.proofs.lemmas.List.Kept.{AllPairs-cons}
use Rattle.std.specs.Prelude.{AllPairs, Contains}
use Rattle.ap_agreements.specs.declared.in_force.AgreementInForce.{AgreementInForce}
use Rattle.ap_agreements.specs.Tables.{Kept, key_of, agreement_in, IsRising}
use Rattle.ap_agreements.specs.Listing.{row_of, Shows, RowBefore, ListsAgreements}
use Rattle.ap_agreements.proofs.Keys.{before_less}
use Rattle.ap_agreements.proofs.Filters.{rising_head, rising_tail, stands, is_found}

-- a row comes from an agreement of the table
from_row : (ks : List Kept) (row : AgreementInForce) (n : ℕ) → n < length (map row_of ks) → slice_index_or (map row_of ks) n row ≡ row → (k : Kept) × Contains ks k × (row_of k ≡ row)
from_row [] row n l e = absurd (omega arith)
from_row (k ∷ ks) row zero l e = (k, (zero, omega arith, refl), e)
from_row (k ∷ ks) row (suc n) l e =
    let c = from_row ks row n (omega (arith, l)) e in
    (c.0, (suc c.1.0, omega (arith, c.1.1), c.1.2), c.2)

into_row : (ks : List Kept) (k : Kept) (n : ℕ) → n < length ks → slice_index_or ks n k ≡ k → Contains (map row_of ks) (row_of k)
into_row [] k n l e = absurd (omega arith)
into_row (x ∷ ks) k zero l e = (zero, omega arith, ap row_of e)
into_row (x ∷ ks) k (suc n) l e = let c = into_row ks k n (omega (arith, l)) e in (suc c.0, omega (arith, c.1), c.2)

rows_rise : (ks : List Kept) → IsRising ks → AllPairs RowBefore (map row_of ks)
rows_rise [] r = λ i j d lt l. absurd (omega (arith, l))
rows_rise (k ∷ ks) r =
    AllPairs-cons RowBefore (row_of k) (map row_of ks)
    (All-map (RowBefore (row_of k)) row_of ks (λ i d l. before_less (key_of k) (key_of (slice_index_or ks i d)) (rising_head k ks r i d l)))
    (rows_rise ks (rising_tail k ks r))

shown_by : (ks : List Kept) → IsRising ks → (row : AgreementInForce) (k : Kept) → Contains ks k → row_of k ≡ row → Shows (agreement_in ks) row
shown_by ks r row k c e =
    subst (λ (x : AgreementInForce). Shows (agreement_in ks) x) e (record { using = k.using; is = is_found ks r k c; shown = refl })

pub lists : (ks : List Kept) → IsRising ks → ListsAgreements (agreement_in ks) (map row_of ks)
lists ks r =
    record {
      exact = λ row. (
        λ c. let k = from_row ks row c.0 c.1 c.2 in shown_by ks r row k.0 k.1 k.2,
        λ s.
            let k : Kept = record { station = row.station; tid = row.tid; using = s.using } in
            let there = stands ks row.station row.tid s.using s.is in
            subst (λ (x : AgreementInForce). Contains (map row_of ks) x) (sym s.shown) (into_row ks k there.0 there.1 there.2),
      );
      rising = rows_rise ks r;
    }
