-- Sums of counts.
use Rattle.std.proofs.Common.{◌≡◌, ◌+◌, ℕ, sym, ap, ◌∙◌, arith}
use Rattle.ap_books.specs.Counts.{Counts, none, plus}

-- counts that are equal field by field
same_counts : (a b : Counts) → a.events ≡ b.events → a.sent ≡ b.sent → a.up ≡ b.up → a.dropped ≡ b.dropped → a.notes ≡ b.notes → a ≡ b
same_counts a b events sent up dropped notes i = record { events = events i; sent = sent i; up = up i; dropped = dropped i; notes = notes i }

zero_right : (n : ℕ) → n + 0 ≡ n
zero_right n = omega arith

together : (a b c : ℕ) → a + b + c ≡ a + (b + c)
together a b c = omega arith

swapped : (a b c : ℕ) → a + b + c ≡ a + c + b
swapped a b c = omega arith

pub plus_none : (a : Counts) → plus a none ≡ a
plus_none a = same_counts (plus a none) a (zero_right a.events) (zero_right a.sent) (zero_right a.up) (zero_right a.dropped) (zero_right a.notes)

zero_left : (n : ℕ) → 0 + n ≡ n
zero_left n = omega arith

pub none_plus : (a : Counts) → plus none a ≡ a
none_plus a = same_counts (plus none a) a (zero_left a.events) (zero_left a.sent) (zero_left a.up) (zero_left a.dropped) (zero_left a.notes)

pub plus_three : (a b c : Counts) → plus (plus a b) c ≡ plus a (plus b c)
plus_three a b c =
    same_counts (plus (plus a b) c) (plus a (plus b c)) (together a.events b.events c.events) (together a.sent b.sent c.sent) (together a.up b.up c.up)
    (together a.dropped b.dropped c.dropped) (together a.notes b.notes c.notes)

-- the last two change places
pub plus_swap : (a b c : Counts) → plus (plus a b) c ≡ plus (plus a c) b
plus_swap a b c =
    same_counts (plus (plus a b) c) (plus (plus a c) b) (swapped a.events b.events c.events) (swapped a.sent b.sent c.sent) (swapped a.up b.up c.up)
    (swapped a.dropped b.dropped c.dropped) (swapped a.notes b.notes c.notes)

module _ (c : Counts) where
  -- a sum whose first term has grown
  pub grown_first : (a a2 b : Counts) → a2 ≡ plus a c → plus a2 b ≡ plus (plus a b) c
  grown_first a a2 b is = ap (λ x. plus x b) is ∙ plus_swap a c b

  -- a sum whose second term has grown
  pub grown_second : (a b : Counts) → plus a (plus b c) ≡ plus (plus a b) c
  grown_second a b = sym (plus_three a b c)
