-- Sums of counts.
use Rattle.std.proofs.Common.{◌≡◌, ◌+◌, ◌<◌, ℕ, [], ◌∷◌, ap, ◌∙◌, arith}
use Rattle.ap_books.specs.Counts.{Counts, none, plus}
use Rattle.ap_books.specs.Holdings.{Holding, HasParts, HasMoreThan, HasSplit, HasMerged, sum_of}
use Rattle.ap_shards.specs.Pages.{pages_of}
use Rattle.ap_shards.specs.Renewal.{AreFresh}
use Rattle.ap_shards.specs.Tokens.{Eight, HasGivenOne, holding_of}
use Rattle.ap_live.specs.Counting.{KeepParts, counted_by}

-- counts that are equal one by one
same_counts : (a b : Counts) → a.events ≡ b.events → a.sent ≡ b.sent → a.up ≡ b.up → a.dropped ≡ b.dropped → a.notes ≡ b.notes → a ≡ b
same_counts a b events sent up dropped notes i = record { events = events i; sent = sent i; up = up i; dropped = dropped i; notes = notes i }

no_more : (n : ℕ) → n + 0 ≡ n
no_more n = omega arith

-- nothing more
pub plus_none : (c : Counts) → plus c none ≡ c
plus_none c = same_counts (plus c none) c (no_more c.events) (no_more c.sent) (no_more c.up) (no_more c.dropped) (no_more c.notes)

zero_first : (n : ℕ) → 0 + n ≡ n
zero_first n = omega arith

pub none_plus : (c : Counts) → plus none c ≡ c
none_plus c =
    same_counts (plus none c) c (zero_first c.events) (zero_first c.sent) (zero_first c.up) (zero_first c.dropped) (zero_first c.notes)

together : (a b c : ℕ) → a + b + c ≡ a + (b + c)
together a b c = omega arith

pub plus_three : (a b c : Counts) → plus (plus a b) c ≡ plus a (plus b c)
plus_three a b c =
    same_counts (plus (plus a b) c) (plus a (plus b c)) (together a.events b.events c.events) (together a.sent b.sent c.sent) (together a.up b.up c.up)
    (together a.dropped b.dropped c.dropped) (together a.notes b.notes c.notes)

-- two sums of two
crossed : (a b c d : ℕ) → a + b + (c + d) ≡ a + c + (b + d)
crossed a b c d = omega arith

plus_crossed : (a b c d : Counts) → plus (plus a b) (plus c d) ≡ plus (plus a c) (plus b d)
plus_crossed a b c d =
    same_counts (plus (plus a b) (plus c d)) (plus (plus a c) (plus b d)) (crossed a.events b.events c.events d.events)
    (crossed a.sent b.sent c.sent d.sent) (crossed a.up b.up c.up d.up) (crossed a.dropped b.dropped c.dropped d.dropped)
    (crossed a.notes b.notes c.notes d.notes)

-- a sum of pairs is the pair of sums
more : (s t a b m c : Counts) → m ≡ plus s t → c ≡ plus a b → plus m c ≡ plus (plus s a) (plus t b)
more s t a b m c is pair = ap (λ x. plus x c) is ∙ (ap (λ x. plus (plus s t) x) pair ∙ plus_crossed s t a b)

-- merged portions have counted what both have
pub merged_sum : (a b c : Holding) → HasMerged a b c → sum_of c ≡ plus (sum_of a) (sum_of b)
merged_sum a b c h =
    let e1 = more a.of0.counts b.of0.counts a.of1.counts b.of1.counts c.of0.counts c.of1.counts h.0.1 h.1.1 in
    let e2 = more (plus a.of0.counts a.of1.counts) (plus b.of0.counts b.of1.counts) a.of2.counts b.of2.counts (plus c.of0.counts c.of1.counts) c.of2.counts e1 h.2.1 in
    let e3 = more (plus (plus a.of0.counts a.of1.counts) a.of2.counts) (plus (plus b.of0.counts b.of1.counts) b.of2.counts) a.of3.counts b.of3.counts (plus (plus c.of0.counts c.of1.counts) c.of2.counts) c.of3.counts e2 h.3.1 in
    let e4 = more (plus (plus (plus a.of0.counts a.of1.counts) a.of2.counts) a.of3.counts) (plus (plus (plus b.of0.counts b.of1.counts) b.of2.counts) b.of3.counts) a.of4.counts b.of4.counts (plus (plus (plus c.of0.counts c.of1.counts) c.of2.counts) c.of3.counts) c.of4.counts e3 h.4.1 in
    let e5 = more (plus (plus (plus (plus a.of0.counts a.of1.counts) a.of2.counts) a.of3.counts) a.of4.counts) (plus (plus (plus (plus b.of0.counts b.of1.counts) b.of2.counts) b.of3.counts) b.of4.counts) a.of5.counts b.of5.counts (plus (plus (plus (plus c.of0.counts c.of1.counts) c.of2.counts) c.of3.counts) c.of4.counts) c.of5.counts e4 h.5.1 in
    let e6 = more (plus (plus (plus (plus (plus a.of0.counts a.of1.counts) a.of2.counts) a.of3.counts) a.of4.counts) a.of5.counts) (plus (plus (plus (plus (plus b.of0.counts b.of1.counts) b.of2.counts) b.of3.counts) b.of4.counts) b.of5.counts) a.of6.counts b.of6.counts (plus (plus (plus (plus (plus c.of0.counts c.of1.counts) c.of2.counts) c.of3.counts) c.of4.counts) c.of5.counts) c.of6.counts e5 h.6.1 in
    more (plus (plus (plus (plus (plus (plus a.of0.counts a.of1.counts) a.of2.counts) a.of3.counts) a.of4.counts) a.of5.counts) a.of6.counts) (plus (plus (plus (plus (plus (plus b.of0.counts b.of1.counts) b.of2.counts) b.of3.counts) b.of4.counts) b.of5.counts) b.of6.counts) a.of7.counts b.of7.counts (plus (plus (plus (plus (plus (plus c.of0.counts c.of1.counts) c.of2.counts) c.of3.counts) c.of4.counts) c.of5.counts) c.of6.counts) c.of7.counts e6 h.7.1

-- each part of a sum that is 0 is 0
first_zero : (a b : ℕ) → a + b ≡ 0 → a ≡ 0
first_zero a b h = omega (arith, h)

second_zero : (a b : ℕ) → a + b ≡ 0 → b ≡ 0
second_zero a b h = omega (arith, h)

first_none : (a b : Counts) → plus a b ≡ none → a ≡ none
first_none a b h =
    same_counts a none (first_zero a.events b.events (ap (λ (c : Counts). c.events) h)) (first_zero a.sent b.sent (ap (λ (c : Counts). c.sent) h)) (first_zero a.up b.up (ap (λ (c : Counts). c.up) h)) (first_zero a.dropped b.dropped (ap (λ (c : Counts). c.dropped) h)) (first_zero a.notes b.notes (ap (λ (c : Counts). c.notes) h))

second_none : (a b : Counts) → plus a b ≡ none → b ≡ none
second_none a b h =
    same_counts b none (second_zero a.events b.events (ap (λ (c : Counts). c.events) h)) (second_zero a.sent b.sent (ap (λ (c : Counts). c.sent) h)) (second_zero a.up b.up (ap (λ (c : Counts). c.up) h)) (second_zero a.dropped b.dropped (ap (λ (c : Counts). c.dropped) h)) (second_zero a.notes b.notes (ap (λ (c : Counts). c.notes) h))

one_is_some : (n : ℕ) → n ≡ 1 → 0 < n
one_is_some n h = omega (arith, h)

-- new parts that have counted nothing
pub fresh : (h : Holding) → HasParts 1 h → sum_of h ≡ none → AreFresh h
fresh h p e =
    let f7 = e in
    let f6 = first_none (plus (plus (plus (plus (plus (plus h.of0.counts h.of1.counts) h.of2.counts) h.of3.counts) h.of4.counts) h.of5.counts) h.of6.counts) h.of7.counts f7 in
    let f5 = first_none (plus (plus (plus (plus (plus h.of0.counts h.of1.counts) h.of2.counts) h.of3.counts) h.of4.counts) h.of5.counts) h.of6.counts f6 in
    let f4 = first_none (plus (plus (plus (plus h.of0.counts h.of1.counts) h.of2.counts) h.of3.counts) h.of4.counts) h.of5.counts f5 in
    let f3 = first_none (plus (plus (plus h.of0.counts h.of1.counts) h.of2.counts) h.of3.counts) h.of4.counts f4 in
    let f2 = first_none (plus (plus h.of0.counts h.of1.counts) h.of2.counts) h.of3.counts f3 in
    let f1 = first_none (plus h.of0.counts h.of1.counts) h.of2.counts f2 in
    (record { some = one_is_some h.of0.parts p.0; nothing = (first_none h.of0.counts h.of1.counts f1) }, record { some = one_is_some h.of1.parts p.1; nothing = (second_none h.of0.counts h.of1.counts f1) }, record { some = one_is_some h.of2.parts p.2; nothing = (second_none (plus h.of0.counts h.of1.counts) h.of2.counts f2) }, record { some = one_is_some h.of3.parts p.3; nothing = (second_none (plus (plus h.of0.counts h.of1.counts) h.of2.counts) h.of3.counts f3) }, record { some = one_is_some h.of4.parts p.4; nothing = (second_none (plus (plus (plus h.of0.counts h.of1.counts) h.of2.counts) h.of3.counts) h.of4.counts f4) }, record { some = one_is_some h.of5.parts p.5; nothing = (second_none (plus (plus (plus (plus h.of0.counts h.of1.counts) h.of2.counts) h.of3.counts) h.of4.counts) h.of5.counts f5) }, record { some = one_is_some h.of6.parts p.6; nothing = (second_none (plus (plus (plus (plus (plus h.of0.counts h.of1.counts) h.of2.counts) h.of3.counts) h.of4.counts) h.of5.counts) h.of6.counts f6) }, record { some = one_is_some h.of7.parts p.7; nothing = (second_none (plus (plus (plus (plus (plus (plus h.of0.counts h.of1.counts) h.of2.counts) h.of3.counts) h.of4.counts) h.of5.counts) h.of6.counts) h.of7.counts f7) })

-- a portion that is given away has counted nothing
pub given_none : (a b : Eight) → HasGivenOne a b → counted_by b ≡ counted_by a
given_none a b g i =
    plus (plus (plus (plus (plus (plus (plus (g.0.counts i) (g.1.counts i)) (g.2.counts i)) (g.3.counts i)) (g.4.counts i)) (g.5.counts i))
    (g.6.counts i)) (g.7.counts i)

-- the pages are as they were
pub given_pages : (a b : Eight) → HasGivenOne a b → pages_of b ≡ pages_of a
given_pages a b g i =
    record {
      of0 = g.0.page i ∷ [];
      of1 = g.1.page i ∷ [];
      of2 = g.2.page i ∷ [];
      of3 = g.3.page i ∷ [];
      of4 = g.4.page i ∷ [];
      of5 = g.5.page i ∷ [];
      of6 = g.6.page i ∷ [];
      of7 = g.7.page i ∷ [];
    }

-- as many parts as before
pub keeps_parts : (n : ℕ) (a b : Eight) → KeepParts a b → HasParts n (holding_of a) → HasParts n (holding_of b)
keeps_parts n a b k h = (k.0 ∙ h.0, k.1 ∙ h.1, k.2 ∙ h.2, k.3 ∙ h.3, k.4 ∙ h.4, k.5 ∙ h.5, k.6 ∙ h.6, k.7 ∙ h.7)

-- there is more than one part
pub more_than_one : (n : ℕ) (h : Holding) → 1 < n → HasParts n h → HasMoreThan 1 h
more_than_one n h low p = (several h.of0.parts n low p.0, several h.of1.parts n low p.1, several h.of2.parts n low p.2, several h.of3.parts n low p.3, several h.of4.parts n low p.4, several h.of5.parts n low p.5, several h.of6.parts n low p.6, several h.of7.parts n low p.7)
  where
    several : (m n : ℕ) → 1 < n → m ≡ n → 1 < m
    several m n low is = omega (arith, low, is)

-- one part was exchanged for another
exchanged : (n a m g b : ℕ) → a ≡ n → m + 1 ≡ a → g ≡ 1 → b ≡ m + g → b ≡ n
exchanged n a m g b h s o e = omega (arith, h, s, o, e)

pub exchanged_parts : (n : ℕ) (a m g b : Holding) → HasParts n a → HasSplit 1 a m → HasParts 1 g → HasMerged m g b → HasParts n b
exchanged_parts n a m g b h s o e = (
  exchanged n a.of0.parts m.of0.parts g.of0.parts b.of0.parts h.0 s.0.0 o.0 e.0.0,
  exchanged n a.of1.parts m.of1.parts g.of1.parts b.of1.parts h.1 s.1.0 o.1 e.1.0,
  exchanged n a.of2.parts m.of2.parts g.of2.parts b.of2.parts h.2 s.2.0 o.2 e.2.0,
  exchanged n a.of3.parts m.of3.parts g.of3.parts b.of3.parts h.3 s.3.0 o.3 e.3.0,
  exchanged n a.of4.parts m.of4.parts g.of4.parts b.of4.parts h.4 s.4.0 o.4 e.4.0,
  exchanged n a.of5.parts m.of5.parts g.of5.parts b.of5.parts h.5 s.5.0 o.5 e.5.0,
  exchanged n a.of6.parts m.of6.parts g.of6.parts b.of6.parts h.6 s.6.0 o.6 e.6.0,
  exchanged n a.of7.parts m.of7.parts g.of7.parts b.of7.parts h.7 s.7.0 o.7 e.7.0,
)

-- one more part
one_more : (n a g b : ℕ) → a ≡ n → g ≡ 1 → b ≡ a + g → b ≡ n + 1
one_more n a g b h o e = omega (arith, h, o, e)

pub one_more_part : (n : ℕ) (a g b : Holding) → HasParts n a → HasParts 1 g → HasMerged a g b → HasParts (n + 1) b
one_more_part n a g b h o e = (
  one_more n a.of0.parts g.of0.parts b.of0.parts h.0 o.0 e.0.0,
  one_more n a.of1.parts g.of1.parts b.of1.parts h.1 o.1 e.1.0,
  one_more n a.of2.parts g.of2.parts b.of2.parts h.2 o.2 e.2.0,
  one_more n a.of3.parts g.of3.parts b.of3.parts h.3 o.3 e.3.0,
  one_more n a.of4.parts g.of4.parts b.of4.parts h.4 o.4 e.4.0,
  one_more n a.of5.parts g.of5.parts b.of5.parts h.5 o.5 e.5.0,
  one_more n a.of6.parts g.of6.parts b.of6.parts h.6 o.6 e.6.0,
  one_more n a.of7.parts g.of7.parts b.of7.parts h.7 o.7 e.7.0,
)

-- what was counted by parts that were split off and exchanged is counted as well
pub exchanged_sum : (hoard left given merged : Holding) (counted : Counts) → sum_of left ≡ sum_of hoard → HasMerged left given merged → sum_of given ≡ counted
    → sum_of merged ≡ plus (sum_of hoard) counted
exchanged_sum hoard left given merged counted stayed h is = merged_sum left given merged h ∙ (ap (λ (x : Counts). plus x (sum_of given)) stayed ∙ ap (plus (sum_of hoard)) is)
