-- What a token holds of the ledgers of all shards.
use Rattle.std.specs.Prelude.{◌≡◌, ℕ, ◌+◌, ◌<◌}
use Rattle.ap_books.specs.Counts.{Counts, Portion, plus}

-- a portion of the ledgers of each shard
pub record Holding : Type 0 where
  pub of0 : Portion
  pub of1 : Portion
  pub of2 : Portion
  pub of3 : Portion
  pub of4 : Portion
  pub of5 : Portion
  pub of6 : Portion
  pub of7 : Portion

-- P holds of all portions
abbrev pub Each : (Portion → Type 0) → Holding → Type 0
Each P h = P h.of0 × P h.of1 × P h.of2 × P h.of3 × P h.of4 × P h.of5 × P h.of6 × P h.of7

-- exactly n parts of each
abbrev pub HasParts : ℕ → Holding → Type 0
HasParts n h = Each (λ p. p.parts ≡ n) h

-- more than n parts of each
abbrev pub HasMoreThan : ℕ → Holding → Type 0
HasMoreThan n h = Each (λ p. n < p.parts) h

-- P holds of three holdings, portion by portion
abbrev pub EachOf : (Portion → Portion → Portion → Type 0) → Holding → Holding → Holding → Type 0
EachOf P a b c =
    P a.of0 b.of0 c.of0
    × P a.of1 b.of1 c.of1
    × P a.of2 b.of2 c.of2
    × P a.of3 b.of3 c.of3
    × P a.of4 b.of4 c.of4
    × P a.of5 b.of5 c.of5
    × P a.of6 b.of6 c.of6
    × P a.of7 b.of7 c.of7

-- n parts of each were split off, and the counts stayed
abbrev pub HasSplit : ℕ → Holding → Holding → Type 0
HasSplit n a b = EachOf (λ p q r. (r.parts + n ≡ p.parts) × (r.counts ≡ p.counts)) a a b

-- the sum of two holdings, portion by portion
abbrev pub HasMerged : Holding → Holding → Holding → Type 0
HasMerged a b c =
    EachOf (λ p q r. (r.parts ≡ p.parts + q.parts) × (r.counts ≡ plus p.counts q.counts)) a b c

-- what all portions have counted together
abbrev pub sum_of : Holding → Counts
sum_of h =
    plus (plus (plus (plus (plus (plus (plus h.of0.counts h.of1.counts) h.of2.counts) h.of3.counts)
    h.of4.counts) h.of5.counts) h.of6.counts) h.of7.counts
