-- How the agreements of a shard change, at one station and TID.
use Rattle.std.proofs.Common.{◌≡◌, ℕ, ◌==◌, ◌&&◌, ◌⊎◌, inl, inr, ⊎_elim, Bool, true, false, cond, Option, None, Some, List, refl, sym, ap, ◌∙◌}
use Rattle.std.proofs.lemmas.Bool.{cases_eq, eq-eqb, ne_eqb}
use Rattle.assoc.specs.Standings.{Standing, same_address}
use Rattle.assoc.proofs.Tables.{address_tells}
use Rattle.ap_model.specs.declared.event.Out.{Out}
use Rattle.ap_model.specs.Asks.{Ask}
use Rattle.ap_model.specs.Readings.{Readings, Rules, Using}
use Rattle.ap_model.specs.Changes.{Moves, Agrees}
use Rattle.ap_model.specs.Steps.{Ticks}
use Rattle.std.proofs.lemmas.Option.{none-some}

-- a station that moved has no agreement, and the others are unchanged
pub moved_agreement : (r r2 : Readings) (a : List ℕ) (s : Standing) → Moves r a s r2 → (q : List ℕ) (t : ℕ) (u : Using) → r2.agreement q t ≡ Some u → (same_address a q ≡ false) × (r.agreement q t ≡ Some u)
moved_agreement r r2 a s moved q t u is = by_test (same_address a q) (r.agreement q t) (sym (moved.discards q t) ∙ is)
  where
    by_test : (b : Bool) (o : Option Using) → cond b None o ≡ Some u → (b ≡ false) × (o ≡ Some u)
    by_test true o e = absurd (none-some u e)
    by_test false o e = (refl, e)

pub moved_standing : (r r2 : Readings) (a : List ℕ) (s : Standing) → Moves r a s r2 → (q : List ℕ) → same_address a q ≡ false → r2.standing q ≡ r.standing q
moved_standing r r2 a s moved q other = moved.moves q ∙ ap (λ b. cond b s (r.standing q)) other

-- after an agreement changed: this is the one, or it is another, which is unchanged
pub agreed_cases : (r r2 : Readings) (a : List ℕ) (tid : ℕ) (u : Option Using) → Agrees r a tid u r2 → (q : List ℕ) (t : ℕ) →
    ((a ≡ q) × (tid ≡ t) × (r2.agreement q t ≡ u)) ⊎ (r2.agreement q t ≡ r.agreement q t)
agreed_cases r r2 a tid u agrees q t =
    ⊎_elim
    (λ same.
    ⊎_elim
    (λ e. inl (same.1, e, agrees.agreement q t ∙ ap (λ b. cond (b && (tid == t)) u (r.agreement q t)) same.0 ∙ ap (λ b. cond b u (r.agreement q t)) (eq-eqb tid t e)))
    (λ ne. inr (agrees.agreement q t ∙ ap (λ b. cond (b && (tid == t)) u (r.agreement q t)) same.0 ∙ ap (λ b. cond b u (r.agreement q t)) (ne_eqb tid t ne)))
    (cases_eq tid t))
    (λ other. inr (agrees.agreement q t ∙ ap (λ b. cond (b && (tid == t)) u (r.agreement q t)) other.0))
    (address_tells a q)

-- an agreement that exists after a tick existed before it
pub ticked_agreement : (c : Rules) (r r2 : Readings) (n : ℕ) (asked : List (Ask × ℕ)) (outs : List Out) → Ticks c r n asked outs r2 → (q : List ℕ) (t : ℕ) (u : Using) → r2.agreement q t ≡ Some u → r.agreement q t ≡ Some u
ticked_agreement c r r2 n asked outs ticks q t u is =
    let key : List ℕ × ℕ = (q, t) in
    sym (ticks.others key (λ ends. none-some u (sym (ticks.gone key ends) ∙ is))) ∙ is
