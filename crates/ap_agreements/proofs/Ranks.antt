-- The order of ranks is that of the keys.
use Rattle.std.proofs.Common.{◌≡◌, ℕ, ◌+◌, ◌*◌, ◌<◌, zero, suc, List, [], ◌∷◌, length, refl, sym, ap, ◌∙◌, arith, All}
use Rattle.std.specs.Ordering.{nat_cmp, ordering_then, MatchOrdering}
use Rattle.std.specs.declared.cmp.Ordering.{Ordering}
use Rattle.std.specs.declared.cmp.Ordering.TheVariants.{Less, Equal, Greater}
use Rattle.std.specs.Cmp.{nat_cmp_is}
use Rattle.std.specs.Cmp.Lexicographic.{slice_cmp}
use Rattle.std.proofs.lemmas.Cmp.{ranked}
use Rattle.ap_agreements.specs.Tables.{key_cmp}
use Rattle.ap_agreements.specs.Ranks.{continued, rank, IsRanked}

-- the last digit decides where the others are equal
digit_by : (n m a b : ℕ) → a < 256 → b < 256 → (r s : Ordering) → MatchOrdering r (n < m) (n ≡ m) (m < n) → MatchOrdering s (a < b) (a ≡ b) (b < a) →
    MatchOrdering (ordering_then r s) (256 * n + a < 256 * m + b) (256 * n + a ≡ 256 * m + b) (256 * m + b < 256 * n + a)
digit_by n m a b la lb Less s r_is s_is = omega arith
digit_by n m a b la lb Equal Less r_is s_is = omega arith
digit_by n m a b la lb Equal Equal r_is s_is = omega arith
digit_by n m a b la lb Equal Greater r_is s_is = omega arith
digit_by n m a b la lb Greater s r_is s_is = omega arith

digit : (n m a b : ℕ) → a < 256 → b < 256 → ordering_then (nat_cmp n m) (nat_cmp a b) ≡ nat_cmp (256 * n + a) (256 * m + b)
digit n m a b la lb =
    nat_cmp_is (256 * n + a) (256 * m + b) (ordering_then (nat_cmp n m) (nat_cmp a b))
    (digit_by n m a b la lb (nat_cmp n m) (nat_cmp a b) (ranked n m (nat_cmp n m) refl) (ranked a b (nat_cmp a b) refl))

then_assoc : (r s t : Ordering) → ordering_then (ordering_then r s) t ≡ ordering_then r (ordering_then s t)
then_assoc Less s t = refl
then_assoc Equal s t = refl
then_assoc Greater s t = refl

then_equal : (r : Ordering) → ordering_then r Equal ≡ r
then_equal Less = refl
then_equal Equal = refl
then_equal Greater = refl

octets_decide : (n m : ℕ) (xs ys : List ℕ) → length xs ≡ length ys → All (λ o. o < 256) xs → All (λ o. o < 256) ys →
    ordering_then (nat_cmp n m) (slice_cmp nat_cmp xs ys) ≡ nat_cmp (continued n xs) (continued m ys)
octets_decide n m [] [] e lx ly = then_equal (nat_cmp n m)
octets_decide n m [] (y ∷ ys) e lx ly = absurd (omega (arith, e))
octets_decide n m (x ∷ xs) [] e lx ly = absurd (omega (arith, e))
octets_decide n m (x ∷ xs) (y ∷ ys) e lx ly =
    sym (then_assoc (nat_cmp n m) (nat_cmp x y) (slice_cmp nat_cmp xs ys))
    ∙ ap (λ r. ordering_then r (slice_cmp nat_cmp xs ys)) (digit n m x y (lx zero 0 (omega arith)) (ly zero 0 (omega arith)))
    ∙ octets_decide (256 * n + x) (256 * m + y) xs ys (omega (arith, e)) (λ k d l. lx (suc k) d (omega (arith, l))) (λ k d l. ly (suc k) d (omega (arith, l)))

-- ranks compare as their keys do
pub ranks_decide : (a b : List ℕ) (t u m n : ℕ) → IsRanked a t m → IsRanked b u n → nat_cmp m n ≡ key_cmp (a, t) (b, u)
ranks_decide a b t u m n p q =
    ap (λ k. nat_cmp k n) p.is ∙ ap (λ k. nat_cmp (rank a t) k) q.is
    ∙ sym (digit (continued 0 a) (continued 0 b) t u p.low q.low)
    ∙ ap (λ r. ordering_then r (nat_cmp t u)) (sym (octets_decide 0 0 a b (p.long ∙ sym q.long) p.octets q.octets))
