-- No identifier is in use twice.
use Rattle.std.proofs.Common.{◌≡◌, ℕ, inl, inr, None, Some, List, sym, ◌∙◌, subst}
use Rattle.assoc.specs.declared.standing.Known.TheVariants.{Associated}
use Rattle.assoc.specs.Standings.{Standings, Standing, IsOwn, IsFree, IsMoved, NoneTwice}
use Rattle.assoc.proofs.Tables.{moved_cases}
use Rattle.ap_model.specs.Readings.{Readings, Rules}
use Rattle.ap_model.specs.Runs.{Entry, Run, rests, goes_on}
use Rattle.ap_laws.specs.Identifiers.{HoldsOnce, OpeningHoldsOnce, RunHoldsOnce, AccessPointHoldsOnce}
use Rattle.ap_laws.proofs.StandingLaws.{StandingChange, same, moved, step_stands}

no_identifier : (n : ℕ) → None ≡ Some (Associated n) → ⊥
no_identifier n e = cc

pub opening_holds : OpeningHoldsOnce
opening_holds c = record { own = λ a n e. absurd (no_identifier n e); once = λ a b n p q. absurd (no_identifier n p) }

-- station a moves, and gets no identifier but a free one
module _ (s : ℕ) (f : Standings) (a : List ℕ) (v : Standing) (g : Standings) (m : IsMoved f a v g) (free : (n : ℕ) → v ≡ Some (Associated n) → IsFree s f a n) where
  moved_own : ((b : List ℕ) (n : ℕ) → f b ≡ Some (Associated n) → IsOwn s n) → (b : List ℕ) (n : ℕ) → g b ≡ Some (Associated n) → IsOwn s n
  moved_own own b n e =
      elim (moved_cases f a v g m b) as (λ x. IsOwn s n) [ inl x ↦ (free n (sym x.1 ∙ e)).own | inr x ↦ own b n (sym x.1 ∙ e) ]

  moved_once : NoneTwice f → NoneTwice g
  moved_once once b d n p q =
      elim (moved_cases f a v g m b) as (λ x. b ≡ d) [
        | inl x ↦
            elim (moved_cases f a v g m d) as (λ y. b ≡ d) [
              | inl y ↦ sym x.0 ∙ y.0
              | inr y ↦ absurd (y.0 (sym ((free n (sym x.1 ∙ p)).free d (sym y.1 ∙ q))))
            ]
        | inr x ↦
            elim (moved_cases f a v g m d) as (λ y. b ≡ d) [
              | inl y ↦ absurd (x.0 (sym ((free n (sym y.1 ∙ q)).free b (sym x.1 ∙ p))))
              | inr y ↦ once b d n (sym x.1 ∙ p) (sym y.1 ∙ q)
            ]
      ]

pub change_holds : (c : Rules) (r r2 : Readings) → HoldsOnce c r → StandingChange c r r2 → HoldsOnce c r2
change_holds c r r2 holds (same is) =
    record {
      own = λ a n e. holds.own a n (sym (is a) ∙ e);
      once = λ a b n p q. holds.once a b n (sym (is a) ∙ p) (sym (is b) ∙ q);
    }
change_holds c r r2 holds (moved a s is free) =
    record {
      own = moved_own c.shard r.standing a s r2.standing is free holds.own;
      once = moved_once c.shard r.standing a s r2.standing is free holds.once;
    }

run_holds : (c : Rules) {r r2 : Readings} {entries : List Entry} → HoldsOnce c r → Run c r entries r2 → HoldsOnce c r2
run_holds c holds (rests r) = holds
run_holds c holds (goes_on r mid r2 e later step run) = run_holds c (change_holds c r mid holds (step_stands c r e.asked e.outs mid e.event step)) run

pub runs_hold : RunHoldsOnce
runs_hold c r r2 entries holds run = run_holds c holds run

pub access_points_hold : AccessPointHoldsOnce
access_points_hold c r r2 turns places holds runs s t a b n s_fits t_fits p q =
    let one = run_holds (c s) (holds s s_fits) (runs s s_fits) in
    let other = run_holds (c t) (holds t t_fits) (runs t t_fits) in
    let same_shard : s ≡ t = sym (places s s_fits) ∙ sym (one.own a n p).mine ∙ (other.own b n q).mine ∙ places t t_fits in
    let P : ℕ → Type 0 = λ x. (r2 x).standing b ≡ Some (Associated n) in
    (same_shard, one.once a b n p (subst P (sym same_shard) q))
