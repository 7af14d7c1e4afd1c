-- How a token's parts of the ledgers grow.
use Rattle.std.proofs.Common.{if◌then◌else◌, ◌≡◌, ◌==◌, ◌<◌, ℕ, zero, suc, Bool, true, false, true≢false, IsTrue, Some, List, [], refl, sym, ap, ◌∙◌, arith}
use Rattle.ap_model.specs.AccessPoint.{shard_of}
use Rattle.ap_model.specs.declared.event.Event.{Event}
use Rattle.ap_model.specs.declared.event.Event.TheVariants as event
use Rattle.ap_model.specs.declared.event.Out.{Out}
use Rattle.ap_model.specs.Asks.{Ask}
use Rattle.ap_model.specs.Readings.{Config, Readings, Rules}
use Rattle.ap_model.specs.Steps.{Step, kicked, not_kicked, closed, not_closed}
use Rattle.ap_books.specs.Counts.{Counts, Portion, counts_of, drops, gains, plus}
use Rattle.ap_books.specs.Holdings.{Holding, sum_of}
use Rattle.ap_core.specs.Handles.{rules}
use Rattle.ap_locked.specs.Tokens.{Token}
use Rattle.ap_shards.specs.Fates.{Acts, ActsAt, ChangesIf, Comes, ComesAt}
use Rattle.ap_shards.specs.Tokens.{Eight, holding_of}
use Rattle.ap_live.specs.Growth.{grown_at, grown_if}
use Rattle.ap_shards.specs.declared.fate.Fate.{Fate}
use Rattle.ap_shards.specs.declared.fate.Fate.TheVariants.{Decided, Refused, NotHandled}
use Rattle.ap_live.specs.Counting.{KeepParts, fate_counts}
use Rattle.ap_live.specs.Serving.{Acted, IsInside, is_command}
use Rattle.ap_live.specs.Tokens.{Operator}
use Rattle.ap_live.proofs.Sums.{grown_first, grown_second, plus_none}

-- what holds of 0 to 7 holds of each number below 8
pub by_shard : (P : ℕ → Type 0) → P 0 → P 1 → P 2 → P 3 → P 4 → P 5 → P 6 → P 7 → (s : ℕ) → s < 8 → P s
by_shard P p0 p1 p2 p3 p4 p5 p6 p7 zero low = p0
by_shard P p0 p1 p2 p3 p4 p5 p6 p7 (suc zero) low = p1
by_shard P p0 p1 p2 p3 p4 p5 p6 p7 (suc (suc zero)) low = p2
by_shard P p0 p1 p2 p3 p4 p5 p6 p7 (suc (suc (suc zero))) low = p3
by_shard P p0 p1 p2 p3 p4 p5 p6 p7 (suc (suc (suc (suc zero)))) low = p4
by_shard P p0 p1 p2 p3 p4 p5 p6 p7 (suc (suc (suc (suc (suc zero))))) low = p5
by_shard P p0 p1 p2 p3 p4 p5 p6 p7 (suc (suc (suc (suc (suc (suc zero)))))) low = p6
by_shard P p0 p1 p2 p3 p4 p5 p6 p7 (suc (suc (suc (suc (suc (suc (suc zero))))))) low = p7
by_shard P p0 p1 p2 p3 p4 p5 p6 p7 (suc (suc (suc (suc (suc (suc (suc (suc n)))))))) low = absurd (omega arith)

grown_token : (V : Readings → List (Ask × ℕ) → Type 0) (rs : Rules) (e : Event) (f : Fate) (here : Bool) (t u : Token) → ChangesIf here (λ t u. Comes V rs t e f u) t u
    → u.portion ≡ grown_if here t.portion f
grown_token V rs e (Decided outs dropped) true t u c = c.portion
grown_token V rs e Refused true t u c = ap (λ (x : Token). x.portion) c
grown_token V rs e NotHandled true t u c = ap (λ (x : Token). x.portion) c
grown_token V rs e f false t u c = ap (λ (x : Token). x.portion) c

pub grown_tokens : (V : Readings → List (Ask × ℕ) → Type 0) (config : Config) (s : ℕ) (e : Event) (f : Fate) (a b : Eight) → ComesAt V config s a e f b → holding_of b ≡ grown_at (holding_of a) s f
grown_tokens V config s e f a b c i =
    record {
      of0 = grown_token V (rules s config) e f (s == 0) a.of0 b.of0 c.of0 i;
      of1 = grown_token V (rules s config) e f (s == 1) a.of1 b.of1 c.of1 i;
      of2 = grown_token V (rules s config) e f (s == 2) a.of2 b.of2 c.of2 i;
      of3 = grown_token V (rules s config) e f (s == 3) a.of3 b.of3 c.of3 i;
      of4 = grown_token V (rules s config) e f (s == 4) a.of4 b.of4 c.of4 i;
      of5 = grown_token V (rules s config) e f (s == 5) a.of5 b.of5 c.of5 i;
      of6 = grown_token V (rules s config) e f (s == 6) a.of6 b.of6 c.of6 i;
      of7 = grown_token V (rules s config) e f (s == 7) a.of7 b.of7 c.of7 i;
    }

-- the number of parts is unchanged
same_parts : (f : Fate) (here : Bool) (p : Portion) → (grown_if here p f).parts ≡ p.parts
same_parts (Decided outs dropped) true p = refl
same_parts Refused true p = refl
same_parts NotHandled true p = refl
same_parts f false p = refl

pub keep_parts : (s : ℕ) (f : Fate) (a b : Eight) → holding_of b ≡ grown_at (holding_of a) s f → KeepParts a b
keep_parts s f a b is = (
  ap (λ (h : Holding). h.of0.parts) is ∙ same_parts f (s == 0) a.of0.portion,
  ap (λ (h : Holding). h.of1.parts) is ∙ same_parts f (s == 1) a.of1.portion,
  ap (λ (h : Holding). h.of2.parts) is ∙ same_parts f (s == 2) a.of2.portion,
  ap (λ (h : Holding). h.of3.parts) is ∙ same_parts f (s == 3) a.of3.portion,
  ap (λ (h : Holding). h.of4.parts) is ∙ same_parts f (s == 4) a.of4.portion,
  ap (λ (h : Holding). h.of5.parts) is ∙ same_parts f (s == 5) a.of5.portion,
  ap (λ (h : Holding). h.of6.parts) is ∙ same_parts f (s == 6) a.of6.portion,
  ap (λ (h : Holding). h.of7.parts) is ∙ same_parts f (s == 7) a.of7.portion,
)

pub still_parts : (a b c : Eight) → KeepParts a b → KeepParts b c → KeepParts a c
still_parts a b c k l = (
  l.0 ∙ k.0,
  l.1 ∙ k.1,
  l.2 ∙ k.2,
  l.3 ∙ k.3,
  l.4 ∙ k.4,
  l.5 ∙ k.5,
  l.6 ∙ k.6,
  l.7 ∙ k.7,
)

-- an event that was not decided changes no portion
unchanged_if : (here : Bool) (p : Portion) → grown_if here p Refused ≡ p
unchanged_if true p = refl
unchanged_if false p = refl

unchanged : (h : Holding) (s : ℕ) → grown_at h s Refused ≡ h
unchanged h s i =
    record {
      of0 = unchanged_if (s == 0) h.of0 i;
      of1 = unchanged_if (s == 1) h.of1 i;
      of2 = unchanged_if (s == 2) h.of2 i;
      of3 = unchanged_if (s == 3) h.of3 i;
      of4 = unchanged_if (s == 4) h.of4 i;
      of5 = unchanged_if (s == 5) h.of5 i;
      of6 = unchanged_if (s == 6) h.of6 i;
      of7 = unchanged_if (s == 7) h.of7 i;
    }

not_handled_if : (here : Bool) (p : Portion) → grown_if here p NotHandled ≡ p
not_handled_if true p = refl
not_handled_if false p = refl

not_handled : (h : Holding) (s : ℕ) → grown_at h s NotHandled ≡ h
not_handled h s i =
    record {
      of0 = not_handled_if (s == 0) h.of0 i;
      of1 = not_handled_if (s == 1) h.of1 i;
      of2 = not_handled_if (s == 2) h.of2 i;
      of3 = not_handled_if (s == 3) h.of3 i;
      of4 = not_handled_if (s == 4) h.of4 i;
      of5 = not_handled_if (s == 5) h.of5 i;
      of6 = not_handled_if (s == 6) h.of6 i;
      of7 = not_handled_if (s == 7) h.of7 i;
    }

-- if one of eight counts has grown, so has their sum
module _ (c a0 a1 a2 a3 a4 a5 a6 a7 : Counts) where
  abbrev s1 : Counts
  s1 = plus a0 a1

  abbrev s2 : Counts
  s2 = plus s1 a2

  abbrev s3 : Counts
  s3 = plus s2 a3

  abbrev s4 : Counts
  s4 = plus s3 a4

  abbrev s5 : Counts
  s5 = plus s4 a5

  abbrev s6 : Counts
  s6 = plus s5 a6

  abbrev all : Counts
  all = plus s6 a7

  from7 : (x : Counts) → x ≡ plus s6 c → plus x a7 ≡ plus all c
  from7 x is = grown_first c s6 x a7 is

  from6 : (x : Counts) → x ≡ plus s5 c → plus (plus x a6) a7 ≡ plus all c
  from6 x is = from7 (plus x a6) (grown_first c s5 x a6 is)

  from5 : (x : Counts) → x ≡ plus s4 c → plus (plus (plus x a5) a6) a7 ≡ plus all c
  from5 x is = from6 (plus x a5) (grown_first c s4 x a5 is)

  from4 : (x : Counts) → x ≡ plus s3 c → plus (plus (plus (plus x a4) a5) a6) a7 ≡ plus all c
  from4 x is = from5 (plus x a4) (grown_first c s3 x a4 is)

  from3 : (x : Counts) → x ≡ plus s2 c → plus (plus (plus (plus (plus x a3) a4) a5) a6) a7 ≡ plus all c
  from3 x is = from4 (plus x a3) (grown_first c s2 x a3 is)

  from2 : (x : Counts) → x ≡ plus s1 c → plus (plus (plus (plus (plus (plus x a2) a3) a4) a5) a6) a7 ≡ plus all c
  from2 x is = from3 (plus x a2) (grown_first c s1 x a2 is)

  pub in0 : plus (plus (plus (plus (plus (plus (plus ((plus a0 c)) a1) a2) a3) a4) a5) a6) a7 ≡ plus all c
  in0 = from2 (plus ((plus a0 c)) a1) (grown_first c a0 (plus a0 c) a1 refl)

  pub in1 : plus (plus (plus (plus (plus (plus (plus a0 (plus a1 c)) a2) a3) a4) a5) a6) a7 ≡ plus all c
  in1 = from2 (plus a0 (plus a1 c)) (grown_second c a0 a1)

  pub in2 : plus (plus (plus (plus (plus (plus s1 (plus a2 c)) a3) a4) a5) a6) a7 ≡ plus all c
  in2 = from3 (plus s1 (plus a2 c)) (grown_second c s1 a2)

  pub in3 : plus (plus (plus (plus (plus s2 (plus a3 c)) a4) a5) a6) a7 ≡ plus all c
  in3 = from4 (plus s2 (plus a3 c)) (grown_second c s2 a3)

  pub in4 : plus (plus (plus (plus s3 (plus a4 c)) a5) a6) a7 ≡ plus all c
  in4 = from5 (plus s3 (plus a4 c)) (grown_second c s3 a4)

  pub in5 : plus (plus (plus s4 (plus a5 c)) a6) a7 ≡ plus all c
  in5 = from6 (plus s4 (plus a5 c)) (grown_second c s4 a5)

  pub in6 : plus (plus s5 (plus a6 c)) a7 ≡ plus all c
  in6 = from7 (plus s5 (plus a6 c)) (grown_second c s5 a6)

  pub in7 : plus s6 (plus a7 c) ≡ plus all c
  in7 = grown_second c s6 a7

-- the portion of one shard, after these counts if they are its own
abbrev gains_if : Bool → Portion → Counts → Portion
gains_if here p c = if here then gains p c else p

abbrev pub gains_at : Holding → ℕ → Counts → Holding
gains_at h s c =
    record {
      of0 = gains_if (s == 0) h.of0 c;
      of1 = gains_if (s == 1) h.of1 c;
      of2 = gains_if (s == 2) h.of2 c;
      of3 = gains_if (s == 3) h.of3 c;
      of4 = gains_if (s == 4) h.of4 c;
      of5 = gains_if (s == 5) h.of5 c;
      of6 = gains_if (s == 6) h.of6 c;
      of7 = gains_if (s == 7) h.of7 c;
    }

-- their sum has gained these counts
abbrev SumGains : Holding → Counts → ℕ → Type 0
SumGains h c s = sum_of (gains_at h s c) ≡ plus (sum_of h) c

pub sum_gains : (h : Holding) (c : Counts) (s : ℕ) → s < 8 → SumGains h c s
sum_gains h c s low =
    by_shard (SumGains h c)
    (in0 c h.of0.counts h.of1.counts h.of2.counts h.of3.counts h.of4.counts h.of5.counts h.of6.counts h.of7.counts)
    (in1 c h.of0.counts h.of1.counts h.of2.counts h.of3.counts h.of4.counts h.of5.counts h.of6.counts h.of7.counts)
    (in2 c h.of0.counts h.of1.counts h.of2.counts h.of3.counts h.of4.counts h.of5.counts h.of6.counts h.of7.counts)
    (in3 c h.of0.counts h.of1.counts h.of2.counts h.of3.counts h.of4.counts h.of5.counts h.of6.counts h.of7.counts)
    (in4 c h.of0.counts h.of1.counts h.of2.counts h.of3.counts h.of4.counts h.of5.counts h.of6.counts h.of7.counts)
    (in5 c h.of0.counts h.of1.counts h.of2.counts h.of3.counts h.of4.counts h.of5.counts h.of6.counts h.of7.counts)
    (in6 c h.of0.counts h.of1.counts h.of2.counts h.of3.counts h.of4.counts h.of5.counts h.of6.counts h.of7.counts)
    (in7 c h.of0.counts h.of1.counts h.of2.counts h.of3.counts h.of4.counts h.of5.counts h.of6.counts h.of7.counts)
    s low

-- the fate of an event counts
pub counted_at : (h : Holding) (s : ℕ) (f : Fate) → IsInside f s → sum_of (grown_at h s f) ≡ plus (sum_of h) (fate_counts f)
counted_at h s (Decided outs dropped) low = sum_gains h (counts_of outs.items dropped) s low
counted_at h s Refused inside = ap sum_of (unchanged h s) ∙ sym (plus_none (sum_of h))
counted_at h s NotHandled inside = ap sum_of (not_handled h s) ∙ sym (plus_none (sum_of h))

-- a command asks for no verdict
pub command_silent : (rs : Rules) (r r2 : Readings) (e : Event) (asked : List (Ask × ℕ)) (outs : List Out) → IsTrue (is_command e) → Step rs r e asked outs r2 → asked ≡ []
command_silent rs r r2 (event.Kick station reason) asked outs is (kicked known settles moves) = settles.silent
command_silent rs r r2 (event.Kick station reason) asked outs is (not_kicked unknown answers) = answers.settles.silent
command_silent rs r r2 (event.Close station tid) asked outs is (closed known ends) = ends.settles.silent
command_silent rs r r2 (event.Close station tid) asked outs is (not_closed unknown answers) = answers.settles.silent
command_silent rs r r2 (event.Frame bytes) asked outs is step = absurd (true≢false (sym is))
command_silent rs r r2 (event.Tick units) asked outs is step = absurd (true≢false (sym is))

-- so it drops nothing, and its outputs are all that it counts
quiet : (rs : Rules) (e : Event) (outs : List Out) (t u : Token) → IsTrue (is_command e) → Acts rs t e outs u → u.portion ≡ gains t.portion (counts_of outs false)
quiet rs e outs t u is acts =
    let x = acts.1 in
    x.portion ∙ ap (λ (b : Bool). gains t.portion (counts_of outs b)) (x.flag ∙ ap drops (command_silent rs x.readings x.after e x.asked outs is x.step))

abbrev ActGains : Config → Event → List Out → Eight → Eight → ℕ → Type 0
ActGains config e outs a b s =
    ActsAt config s a e outs b → holding_of b ≡ gains_at (holding_of a) s (counts_of outs false)

pub act_gains : (config : Config) (e : Event) (outs : List Out) (a b : Eight) → IsTrue (is_command e) → (s : ℕ) → s < 8 → ActGains config e outs a b s
act_gains config e outs a b is s low =
    by_shard (ActGains config e outs a b)
    (λ c i. record { of0 = quiet (rules 0 config) e outs a.of0 b.of0 is c.of0 i; of1 = (c.of1 i).portion; of2 = (c.of2 i).portion; of3 = (c.of3 i).portion; of4 = (c.of4 i).portion; of5 = (c.of5 i).portion; of6 = (c.of6 i).portion; of7 = (c.of7 i).portion })
    (λ c i. record { of0 = (c.of0 i).portion; of1 = quiet (rules 1 config) e outs a.of1 b.of1 is c.of1 i; of2 = (c.of2 i).portion; of3 = (c.of3 i).portion; of4 = (c.of4 i).portion; of5 = (c.of5 i).portion; of6 = (c.of6 i).portion; of7 = (c.of7 i).portion })
    (λ c i. record { of0 = (c.of0 i).portion; of1 = (c.of1 i).portion; of2 = quiet (rules 2 config) e outs a.of2 b.of2 is c.of2 i; of3 = (c.of3 i).portion; of4 = (c.of4 i).portion; of5 = (c.of5 i).portion; of6 = (c.of6 i).portion; of7 = (c.of7 i).portion })
    (λ c i. record { of0 = (c.of0 i).portion; of1 = (c.of1 i).portion; of2 = (c.of2 i).portion; of3 = quiet (rules 3 config) e outs a.of3 b.of3 is c.of3 i; of4 = (c.of4 i).portion; of5 = (c.of5 i).portion; of6 = (c.of6 i).portion; of7 = (c.of7 i).portion })
    (λ c i. record { of0 = (c.of0 i).portion; of1 = (c.of1 i).portion; of2 = (c.of2 i).portion; of3 = (c.of3 i).portion; of4 = quiet (rules 4 config) e outs a.of4 b.of4 is c.of4 i; of5 = (c.of5 i).portion; of6 = (c.of6 i).portion; of7 = (c.of7 i).portion })
    (λ c i. record { of0 = (c.of0 i).portion; of1 = (c.of1 i).portion; of2 = (c.of2 i).portion; of3 = (c.of3 i).portion; of4 = (c.of4 i).portion; of5 = quiet (rules 5 config) e outs a.of5 b.of5 is c.of5 i; of6 = (c.of6 i).portion; of7 = (c.of7 i).portion })
    (λ c i. record { of0 = (c.of0 i).portion; of1 = (c.of1 i).portion; of2 = (c.of2 i).portion; of3 = (c.of3 i).portion; of4 = (c.of4 i).portion; of5 = (c.of5 i).portion; of6 = quiet (rules 6 config) e outs a.of6 b.of6 is c.of6 i; of7 = (c.of7 i).portion })
    (λ c i. record { of0 = (c.of0 i).portion; of1 = (c.of1 i).portion; of2 = (c.of2 i).portion; of3 = (c.of3 i).portion; of4 = (c.of4 i).portion; of5 = (c.of5 i).portion; of6 = (c.of6 i).portion; of7 = quiet (rules 7 config) e outs a.of7 b.of7 is c.of7 i })
    s low

gains_parts : (here : Bool) (p : Portion) (c : Counts) → (gains_if here p c).parts ≡ p.parts
gains_parts true p c = refl
gains_parts false p c = refl

pub act_parts : (s : ℕ) (c : Counts) (a b : Eight) → holding_of b ≡ gains_at (holding_of a) s c → KeepParts a b
act_parts s c a b is = (
  ap (λ (h : Holding). h.of0.parts) is ∙ gains_parts (s == 0) a.of0.portion c,
  ap (λ (h : Holding). h.of1.parts) is ∙ gains_parts (s == 1) a.of1.portion c,
  ap (λ (h : Holding). h.of2.parts) is ∙ gains_parts (s == 2) a.of2.portion c,
  ap (λ (h : Holding). h.of3.parts) is ∙ gains_parts (s == 3) a.of3.portion c,
  ap (λ (h : Holding). h.of4.parts) is ∙ gains_parts (s == 4) a.of4.portion c,
  ap (λ (h : Holding). h.of5.parts) is ∙ gains_parts (s == 5) a.of5.portion c,
  ap (λ (h : Holding). h.of6.parts) is ∙ gains_parts (s == 6) a.of6.portion c,
  ap (λ (h : Holding). h.of7.parts) is ∙ gains_parts (s == 7) a.of7.portion c,
)

pub acted_at : (config : Config) (o o2 : Operator) (e : Event) (outs : List Out) (s : ℕ) → IsTrue (is_command e) → shard_of e ≡ Some s → s < 8 → ActsAt config s o.shards e outs o2.shards → Acted config o e outs o2
acted_at config o o2 e outs s command is low acts =
    let g = act_gains config e outs o.shards o2.shards command s low acts in
    record {
      shard = s;
      shard_is = is;
      acted = acts;
      counted = ap sum_of g ∙ sum_gains (holding_of o.shards) (counts_of outs false) s low;
      parts = act_parts s (counts_of outs false) o.shards o2.shards g;
    }
