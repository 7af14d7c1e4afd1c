-- What eight shards list, one after another.
use Rattle.std.proofs.Common.{◌≡◌, ℕ, List, [], ◌∷◌, ◌++◌, Result, Ok, Err, IfOk, sym, subst, refl}
use Rattle.std.specs.Prelude.{◌==◌, IsOkAnd, if◌then◌else◌}
use Rattle.std.specs.Global.{Vec}
use Rattle.ap_model.specs.Readings.{Config, Readings, Rules}
use Rattle.ap_core.specs.Listing.{Joins, no_shard, one_more}
use Rattle.ap_locked.specs.Tokens.{Token, rules}
use Rattle.ap_shards.specs.Listing.{AddsRows, LookAll, eight_of}
use Rattle.ap_shards.specs.Tokens.{Eight}

-- the readings by the shard's number
abbrev pub by_number : (r0 r1 r2 r3 r4 r5 r6 r7 : Readings) → ℕ → Readings
by_number r0 r1 r2 r3 r4 r5 r6 r7 s = if s == 0 then r0 else (if s == 1 then r1 else (if s == 2 then r2 else (if s == 3 then r3 else (if s == 4 then r4 else (if s == 5 then r5 else (if s == 6 then r6 else r7))))))

-- what eight calls listed
pub record Listed {X : Type 0} (Lists : Readings → List X → Type 0) (config : Config) (a b : Eight) (all : List X) : Type 0 where
  pub readings : ℕ → Readings
  pub looks : LookAll config a b readings
  pub joins : Joins Lists (eight_of readings) all

-- the rows with those of one more shard
with_more : {X : Type 0} (Lists : Readings → List X → Type 0) (c : Rules) (t u : Token) (shards : List Readings) (rows all : List X) → Joins Lists shards rows → (a : AddsRows Lists c t u rows all) → Joins Lists (shards ++ a.readings ∷ []) all
with_more {X} Lists c t u shards rows all joins a =
    subst (λ (l : List X). Joins Lists (shards ++ a.readings ∷ []) l) (sym a.is) (one_more shards a.readings rows a.more joins a.lists)

module _ {X E : Type 0} (Lists : Readings → List X → Type 0) where
  -- what a call adds for a shard, if it and those before it succeed
  abbrev pub Added : Rules → Token → Token → Result (Vec X) E → Result (Vec X) E → Type 0
  Added c t u rows result = IfOk result (λ all. IsOkAnd rows (λ before. AddsRows Lists c t u before.items all.items))

  -- the rows before a call that succeeded
  record Before (c : Rules) (t u : Token) (rows : Result (Vec X) E) (all : Vec X) : Type 0 where
    before : Vec X
    is : rows ≡ Ok before
    adds : AddsRows Lists c t u before.items all.items

  before_it : (c : Rules) (t u : Token) (rows : Result (Vec X) E) (all : Vec X) → IsOkAnd rows (λ before. AddsRows Lists c t u before.items all.items) → Before c t u rows all
  before_it c t u (Ok before) all h = record { before = before; is = refl; adds = h }
  before_it c t u (Err e) all h = absurd h

  before_ok : (c : Rules) (t u : Token) (rows result : Result (Vec X) E) (all : Vec X) → result ≡ Ok all → Added c t u rows result → Before c t u rows all
  before_ok c t u rows result all is h =
      before_it c t u rows all (subst (λ (r : Result (Vec X) E). Added c t u rows r) is h)

  -- eight calls, one after another, of which the last succeeded
  pub eight_listed : (config : Config) (a b : Eight) (none : Vec X) (r1 r2 r3 r4 r5 r6 r7 : Result (Vec X) E) (all : Vec X) → none.items ≡ [] →
      Added (rules 0 config) a.of0 b.of0 (Ok none) r1 → Added (rules 1 config) a.of1 b.of1 r1 r2 → Added (rules 2 config) a.of2 b.of2 r2 r3 → Added (rules 3 config) a.of3 b.of3 r3 r4 →
      Added (rules 4 config) a.of4 b.of4 r4 r5 → Added (rules 5 config) a.of5 b.of5 r5 r6 → Added (rules 6 config) a.of6 b.of6 r6 r7 → Added (rules 7 config) a.of7 b.of7 r7 (Ok all) → Listed Lists config a b all.items
  eight_listed config a b none r1 r2 r3 r4 r5 r6 r7 all empty a0 a1 a2 a3 a4 a5 a6 a7 =
      let s7 = before_ok (rules 7 config) a.of7 b.of7 r7 (Ok all) all refl a7 in
      let s6 = before_ok (rules 6 config) a.of6 b.of6 r6 r7 s7.before s7.is a6 in
      let s5 = before_ok (rules 5 config) a.of5 b.of5 r5 r6 s6.before s6.is a5 in
      let s4 = before_ok (rules 4 config) a.of4 b.of4 r4 r5 s5.before s5.is a4 in
      let s3 = before_ok (rules 3 config) a.of3 b.of3 r3 r4 s4.before s4.is a3 in
      let s2 = before_ok (rules 2 config) a.of2 b.of2 r2 r3 s3.before s3.is a2 in
      let s1 = before_ok (rules 1 config) a.of1 b.of1 r1 r2 s2.before s2.is a1 in
      let first : AddsRows Lists (rules 0 config) a.of0 b.of0 none.items s1.before.items = subst (λ (r : Result (Vec X) E). Added (rules 0 config) a.of0 b.of0 (Ok none) r) s1.is a0 in
      let start : Joins Lists [] none.items = subst (λ (l : List X). Joins Lists [] l) (sym empty) no_shard in
      let j1 = with_more Lists (rules 0 config) a.of0 b.of0 [] none.items s1.before.items start first in
      let j2 = with_more Lists (rules 1 config) a.of1 b.of1 (first.readings ∷ []) s1.before.items s2.before.items j1 s1.adds in
      let j3 = with_more Lists (rules 2 config) a.of2 b.of2 (first.readings ∷ s1.adds.readings ∷ []) s2.before.items s3.before.items j2 s2.adds in
      let j4 = with_more Lists (rules 3 config) a.of3 b.of3 (first.readings ∷ s1.adds.readings ∷ s2.adds.readings ∷ []) s3.before.items s4.before.items j3 s3.adds in
      let j5 = with_more Lists (rules 4 config) a.of4 b.of4 (first.readings ∷ s1.adds.readings ∷ s2.adds.readings ∷ s3.adds.readings ∷ []) s4.before.items s5.before.items j4 s4.adds in
      let j6 = with_more Lists (rules 5 config) a.of5 b.of5 (first.readings ∷ s1.adds.readings ∷ s2.adds.readings ∷ s3.adds.readings ∷ s4.adds.readings ∷ []) s5.before.items s6.before.items j5 s5.adds in
      let j7 = with_more Lists (rules 6 config) a.of6 b.of6 (first.readings ∷ s1.adds.readings ∷ s2.adds.readings ∷ s3.adds.readings ∷ s4.adds.readings ∷ s5.adds.readings ∷ []) s6.before.items s7.before.items j6 s6.adds in
      let j8 = with_more Lists (rules 7 config) a.of7 b.of7 (first.readings ∷ s1.adds.readings ∷ s2.adds.readings ∷ s3.adds.readings ∷ s4.adds.readings ∷ s5.adds.readings ∷ s6.adds.readings ∷ []) s7.before.items all.items j7 s7.adds in
      record {
        readings = by_number first.readings s1.adds.readings s2.adds.readings s3.adds.readings s4.adds.readings s5.adds.readings s6.adds.readings s7.adds.readings;
        looks = record { of0 = first.looks; of1 = s1.adds.looks; of2 = s2.adds.looks; of3 = s3.adds.looks; of4 = s4.adds.looks; of5 = s5.adds.looks; of6 = s6.adds.looks; of7 = s7.adds.looks };
        joins = j8;
      }
