-- Readings that differ only as verdicts on data can make them.
use Rattle.std.proofs.Common.{◌≡◌, ℕ, ◌+◌, ◌==◌, ◌&&◌, ◌⊎◌, inl, inr, ⊎_elim, Bool, true, false, cond, Option, None, Some, List, refl, sym, ap, ◌∙◌, subst, arith}
use Rattle.std.specs.Prelude.{is_some, IsSome}
use Rattle.std.specs.Option.{option_map}
use Rattle.std.proofs.lemmas.Bool.{cases_lt}
use Rattle.assoc.specs.declared.standing.Known.TheVariants.{Authenticated, Associated}
use Rattle.assoc.specs.Standings.{Standings, Standing, IsFull, state_of, disassociated, same_address}
use Rattle.blockack.specs.Reading.{Reading, Reads}
use Rattle.blockack.specs.Same.{ReadTheSame}
use Rattle.blockack.specs.Window.{opening}
use Rattle.ap_model.specs.declared.event.Out.{Out}
use Rattle.ap_model.specs.Asks.{Ask}
use Rattle.ap_model.specs.Readings.{Readings, Rules, Using, Held}
use Rattle.ap_model.specs.Changes.{Stays, Moves, Agrees}
use Rattle.ap_model.specs.Steps.{Ticks, IsTimedOut, EndsAt}
use Rattle.ap_laws.specs.Alongside.{SameStarts}
use Rattle.std.proofs.lemmas.Option.{none-some, same_Some}

-- two agreements whose windows have the same start and hold the same numbers
pub record AlikeUses (u v : Using) : Type 0 where
  pub window : ReadTheSame u.window v.window
  pub timeout : u.timeout ≡ v.timeout
  pub last_use : u.last_use ≡ v.last_use

abbrev pub AlikeUsing : Option Using → Option Using → Type 0
AlikeUsing None None = Unit {0}
AlikeUsing None (Some v) = ⊥
AlikeUsing (Some u) None = ⊥
AlikeUsing (Some u) (Some v) = AlikeUses u v

pub record Alike (r s : Readings) : Type 0 where
  pub standing : (a : List ℕ) → state_of (r.standing a) ≡ state_of (s.standing a)
  pub agreement : (a : List ℕ) (tid : ℕ) → AlikeUsing (r.agreement a tid) (s.agreement a tid)
  pub clock : r.clock ≡ s.clock

uses_itself : (u : Using) → AlikeUses u u
uses_itself u = record { window = record { start = refl; size = refl; held = λ i. refl }; timeout = refl; last_use = refl }

using_itself : (o : Option Using) → AlikeUsing o o
using_itself None = tt
using_itself (Some u) = uses_itself u

pub alike_itself : (r : Readings) → Alike r r
alike_itself r = record { standing = λ a. refl; agreement = λ a tid. using_itself (r.agreement a tid); clock = refl }

using_turned : (o p : Option Using) → AlikeUsing o p → AlikeUsing p o
using_turned None None alike = tt
using_turned None (Some v) alike = absurd alike
using_turned (Some u) None alike = absurd alike
using_turned (Some u) (Some v) alike =
    record {
      window = record { start = sym alike.window.start; size = sym alike.window.size; held = λ i. sym (alike.window.held i) };
      timeout = sym alike.timeout;
      last_use = sym alike.last_use;
    }

pub alike_turned : (r s : Readings) → Alike r s → Alike s r
alike_turned r s alike =
    record {
      standing = λ a. sym (alike.standing a);
      agreement = λ a tid. using_turned (r.agreement a tid) (s.agreement a tid) (alike.agreement a tid);
      clock = sym alike.clock;
    }

-- an agreement of the first readings is one of the second
pub record There (u : Using) (p : Option Using) : Type 0 where
  pub using : Using
  pub is : p ≡ Some using
  pub alike : AlikeUses u using

pub there : (o p : Option Using) (u : Using) → AlikeUsing o p → o ≡ Some u → There u p
there None p u alike e = absurd (none-some u e)
there (Some w) None u alike e = absurd alike
there (Some w) (Some v) u alike e =
    let same : w ≡ u = same_Some w u e in
    let P : Using → Type 0 = λ x. AlikeUses x v in
    record { using = v; is = refl; alike = subst P same alike }

pub none_there : (o p : Option Using) → AlikeUsing o p → o ≡ None → p ≡ None
none_there o None alike e = refl
none_there None (Some v) alike e = absurd alike
none_there (Some u) (Some v) alike e = absurd (none-some u (sym e))

-- ---- changes that keep readings alike

pub both_stay : (r s r2 s2 : Readings) → Alike r s → Stays r r2 → Stays s s2 → Alike r2 s2
both_stay r s r2 s2 alike one other =
    record {
      standing = λ a. ap state_of (one.standing a) ∙ alike.standing a ∙ sym (ap state_of (other.standing a));
      agreement = λ a tid.
          let P : Option Using → Type 0 = λ o. AlikeUsing o (s2.agreement a tid) in
          let Q : Option Using → Type 0 = λ p. AlikeUsing (r.agreement a tid) p in
          subst P (sym (one.agreement a tid)) (subst Q (sym (other.agreement a tid)) (alike.agreement a tid));
      clock = one.clock ∙ alike.clock ∙ sym other.clock;
    }

states : (b : Bool) (x y v w : Standing) → state_of x ≡ state_of y → state_of v ≡ state_of w → state_of (cond b x v) ≡ state_of (cond b y w)
states true x y v w here there = here
states false x y v w here there = there

usings : (b : Bool) (o p x y : Option Using) → AlikeUsing o p → AlikeUsing x y → AlikeUsing (cond b o x) (cond b p y)
usings true o p x y here there = here
usings false o p x y here there = there

pub both_move : (r s r2 s2 : Readings) (a : List ℕ) (x y : Standing) → Alike r s → state_of x ≡ state_of y → Moves r a x r2 → Moves s a y s2 → Alike r2 s2
both_move r s r2 s2 a x y alike same one other =
    record {
      standing = λ q. ap state_of (one.moves q) ∙ states (same_address a q) x y (r.standing q) (s.standing q) same (alike.standing q) ∙ sym (ap state_of (other.moves q));
      agreement = λ q t.
          let P : Option Using → Type 0 = λ o. AlikeUsing o (s2.agreement q t) in
          let Q : Option Using → Type 0 = λ p. AlikeUsing (cond (same_address a q) None (r.agreement q t)) p in
          subst P (sym (one.discards q t)) (subst Q (sym (other.discards q t)) (usings (same_address a q) None None (r.agreement q t) (s.agreement q t) tt (alike.agreement q t)));
      clock = one.clock ∙ alike.clock ∙ sym other.clock;
    }

pub both_agree : (r s r2 s2 : Readings) (a : List ℕ) (tid : ℕ) (o p : Option Using) → Alike r s → AlikeUsing o p → Agrees r a tid o r2 → Agrees s a tid p s2 → Alike r2 s2
both_agree r s r2 s2 a tid o p alike same one other =
    record {
      standing = λ q. ap state_of (one.standing q) ∙ alike.standing q ∙ sym (ap state_of (other.standing q));
      agreement = λ q t.
          let b : Bool = same_address a q && (tid == t) in
          let P : Option Using → Type 0 = λ x. AlikeUsing x (s2.agreement q t) in
          let Q : Option Using → Type 0 = λ x. AlikeUsing (cond b o (r.agreement q t)) x in
          subst P (sym (one.agreement q t)) (subst Q (sym (other.agreement q t)) (usings b o p (r.agreement q t) (s.agreement q t) same (alike.agreement q t)));
      clock = one.clock ∙ alike.clock ∙ sym other.clock;
    }

-- ---- conditions on standings

pub known_too : (x y : Standing) → state_of x ≡ state_of y → IsSome x → IsSome y
known_too None y e some = absurd (let f : false ≡ true = some in cc)
known_too (Some Authenticated) None e some = absurd (omega arith)
known_too (Some (Associated n)) None e some = absurd (omega arith)
known_too (Some k) (Some l) e some = refl

pub unknown_too : (x y : Standing) → state_of x ≡ state_of y → x ≡ None → IsSome y → ⊥
unknown_too x y e none some =
    let k : IsSome x = known_too y x (sym e) some in
    let f : false ≡ true = sym (ap is_some none) ∙ k in
    absurd cc

pub full_too : (f g : Standings) → ((a : List ℕ) → state_of (f a) ≡ state_of (g a)) → IsFull f → IsFull g
full_too f g same full = record { stations = full.stations; apart = full.apart; known = λ q inside. known_too (f q) (g q) (same q) (full.known q inside); many = full.many }

pub disassociated_alike : (x y : Standing) → state_of x ≡ state_of y → state_of (disassociated x) ≡ state_of (disassociated y)
disassociated_alike None None e = refl
disassociated_alike None (Some Authenticated) e = absurd (omega arith)
disassociated_alike None (Some (Associated n)) e = absurd (omega arith)
disassociated_alike (Some Authenticated) None e = absurd (omega arith)
disassociated_alike (Some (Associated n)) None e = absurd (omega arith)
disassociated_alike (Some k) (Some l) e = refl

-- ---- time

pub timed_tells : (c : Rules) (r : Readings) (clock : ℕ) (u : Using) → IsTimedOut c r clock u ⊎ (IsTimedOut c r clock u → ⊥)
timed_tells c r clock u =
    ⊎_elim
    (λ none. inr (λ late. let limited = late.limited in omega arith))
    (λ some.
    ⊎_elim
    (λ early. inr (λ late. let idle = late.idle in omega arith))
    (λ idle. inl (record { limited = some; idle = idle }))
    (cases_lt clock (u.last_use + u.timeout)))
    (cases_lt u.timeout 1)

pub ticked_out : (c : Rules) (r r2 : Readings) (n : ℕ) (asked : List (Ask × ℕ)) (outs : List Out) (a : List ℕ) (tid : ℕ) (u : Using) → Ticks c r n asked outs r2 → r.agreement a tid ≡ Some u → IsTimedOut c r r2.clock u → r2.agreement a tid ≡ None
ticked_out c r r2 n asked outs a tid u ticks is late =
    let key : List ℕ × ℕ = (a, tid) in
    let ends : EndsAt c r r2.clock key = record { using = u; is = is; late = late } in
    ticks.gone key ((ticks.exact key).1 ends)

pub ticked_on : (c : Rules) (r r2 : Readings) (n : ℕ) (asked : List (Ask × ℕ)) (outs : List Out) (a : List ℕ) (tid : ℕ) → Ticks c r n asked outs r2 → ((u : Using) → r.agreement a tid ≡ Some u → IsTimedOut c r r2.clock u → ⊥) → r2.agreement a tid ≡ r.agreement a tid
ticked_on c r r2 n asked outs a tid ticks not =
    let key : List ℕ × ℕ = (a, tid) in
    ticks.others key (λ inside. let ends = (ticks.exact key).0 inside in not ends.using ends.is ends.late)

timed_too : (c : Rules) (r s : Readings) (clock clock2 : ℕ) (u v : Using) → clock ≡ clock2 → AlikeUses u v → IsTimedOut c r clock u → IsTimedOut c s clock2 v
timed_too c r s clock clock2 u v same alike late =
    let limited = late.limited in let idle = late.idle in let t = alike.timeout in let l = alike.last_use in
    record { limited = omega arith; idle = omega arith }

both_ticked : (c : Rules) (r s r2 s2 : Readings) (n : ℕ) (asked asked2 : List (Ask × ℕ)) (outs outs2 : List Out) (a : List ℕ) (tid : ℕ) → r2.clock ≡ s2.clock → Ticks c r n asked outs r2 → Ticks c s n asked2 outs2 s2 →
    (o p : Option Using) → r.agreement a tid ≡ o → s.agreement a tid ≡ p → AlikeUsing o p → AlikeUsing (r2.agreement a tid) (s2.agreement a tid)
both_ticked c r s r2 s2 n asked asked2 outs outs2 a tid clock one other None None none none2 alike =
    let P : Option Using → Type 0 = λ x. AlikeUsing x (s2.agreement a tid) in
    let Q : Option Using → Type 0 = λ x. AlikeUsing None x in
    let left : r2.agreement a tid ≡ None = ticked_on c r r2 n asked outs a tid one (λ u is late. none-some u (sym none ∙ is)) ∙ none in
    let right : s2.agreement a tid ≡ None = ticked_on c s s2 n asked2 outs2 a tid other (λ u is late. none-some u (sym none2 ∙ is)) ∙ none2 in
    subst P (sym left) (subst Q (sym right) tt)
both_ticked c r s r2 s2 n asked asked2 outs outs2 a tid clock one other None (Some v) none is alike = absurd alike
both_ticked c r s r2 s2 n asked asked2 outs outs2 a tid clock one other (Some u) None is none alike = absurd alike
both_ticked c r s r2 s2 n asked asked2 outs outs2 a tid clock one other (Some u) (Some v) is is2 alike =
    ⊎_elim
    (λ late.
    let P : Option Using → Type 0 = λ x. AlikeUsing x (s2.agreement a tid) in
    let Q : Option Using → Type 0 = λ x. AlikeUsing None x in
    subst P (sym (ticked_out c r r2 n asked outs a tid u one is late))
    (subst Q (sym (ticked_out c s s2 n asked2 outs2 a tid v other is2 (timed_too c r s r2.clock s2.clock u v clock alike late))) tt))
    (λ not.
    let P : Option Using → Type 0 = λ x. AlikeUsing x (s2.agreement a tid) in
    let Q : Option Using → Type 0 = λ x. AlikeUsing (Some u) x in
    let turned : AlikeUses v u = using_turned (Some u) (Some v) alike in
    let left : r2.agreement a tid ≡ Some u =
    ticked_on c r r2 n asked outs a tid one (λ w at late. let R : Using → Type 0 = λ x. IsTimedOut c r r2.clock x in not (subst R (same_Some w u (sym at ∙ is)) late)) ∙ is in
    let right : s2.agreement a tid ≡ Some v =
    ticked_on c s s2 n asked2 outs2 a tid other (λ w at late.
    let R : Using → Type 0 = λ x. IsTimedOut c s s2.clock x in
    not (timed_too c s r s2.clock r2.clock v u (sym clock) turned (subst R (same_Some w v (sym at ∙ is2)) late))) ∙ is2 in
    subst P (sym left) (subst Q (sym right) alike))
    (timed_tells c r r2.clock u)

pub both_tick : (c : Rules) (r s r2 s2 : Readings) (n : ℕ) (asked asked2 : List (Ask × ℕ)) (outs outs2 : List Out) → Alike r s → Ticks c r n asked outs r2 → Ticks c s n asked2 outs2 s2 → Alike r2 s2
both_tick c r s r2 s2 n asked asked2 outs outs2 alike one other =
    let a = one.clock in let b = other.clock in let same = alike.clock in
    let clock : r2.clock ≡ s2.clock = omega arith in
    record {
      standing = λ q. ap state_of (one.standing q) ∙ alike.standing q ∙ sym (ap state_of (other.standing q));
      agreement = λ q t. both_ticked c r s r2 s2 n asked asked2 outs outs2 q t clock one other (r.agreement q t) (s.agreement q t) refl refl (alike.agreement q t);
      clock = clock;
    }

-- ---- windows

-- two windows that opened at one number
pub opened_alike : (start : ℕ) (v u : Reading Held) → v.size ≡ u.size → Reads (opening start) v → Reads (opening start) u → ReadTheSame v u
opened_alike start v u size one other =
    record { start = one.residue ∙ sym other.residue; size = size; held = λ i. ap is_some (sym (one.held i) ∙ other.held i) }

starts_alike : (o p : Option Using) → AlikeUsing o p → option_map (λ u. u.window.start) o ≡ option_map (λ u. u.window.start) p
starts_alike None None alike = refl
starts_alike None (Some v) alike = absurd alike
starts_alike (Some u) None alike = absurd alike
starts_alike (Some u) (Some v) alike = ap Some alike.window.start

pub alike_starts : (r s : Readings) → Alike r s → SameStarts r s
alike_starts r s alike a tid = starts_alike (r.agreement a tid) (s.agreement a tid) (alike.agreement a tid)
