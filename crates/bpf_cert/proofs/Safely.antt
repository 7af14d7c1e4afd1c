-- Claims that lead to claims are safe, by induction on the budget.
use Rattle.std.proofs.Common.{◌≡◌, ℕ, zero, suc, ◌+◌, ◌≤◌, ◌<◌, ◌⊎◌, inl, inr, List, length, get_or, refl, sym, subst, arith}
use Rattle.std.proofs.lemmas.Bool.{cases_lt}
use Rattle.std.specs.List.{All, Any}
use Rattle.bpf_decode.specs.Program.{Code, IsTarget, IsWhole}
use Rattle.bpf_model.specs.State.{Setting, entry}
use Rattle.bpf_model.specs.Step.{next}
use Rattle.bpf_model.specs.Run.{SafeWithin, setting}
use Rattle.bpf_model.proofs.Within.{IsFine-weaken, SafeWithin-step, SafeWithin-le, Safe-from_within}
use Rattle.bpf_absstate.proofs.Kept.{entry_contains, inclusion_keeps}
use Rattle.bpf_absstate.specs.Contains.{Contains}
use Rattle.bpf_absstate.specs.View.{View, entry_view}
use Rattle.bpf_absstate.specs.WellFormed.{IsView}
use Rattle.bpf_rules.specs.Covers.{IsSetting, InWays, Covers}
use Rattle.bpf_rules.specs.declared.ways.Ways.{Ways}
use Rattle.bpf_rules.specs.declared.ways.Ways.TheVariants.{Nowhere, One, Two}
use Rattle.bpf_plain.specs.Standing.{EachWay}
use Rattle.bpf_verifier.proofs.Examining.{examined_covers}
use Rattle.bpf_verifier.specs.Safety.{AllSafe}
use Rattle.bpf_cert.specs.declared.claim.Claim.{Claim}
use Rattle.bpf_cert.specs.Covered.{Includes, IsIncluded, LeadsWithin, AreKept}
use Rattle.bpf_cert.specs.Laws.{CoveredIsSafe}

-- if each successor is safe, so is the state, with one instruction more
ways_safe : (p : Setting) (n : ℕ) (a : View) (w : Ways) → Covers p a w → EachWay w (AllSafe p n) → AllSafe p (n + 1) a
ways_safe p n a Nowhere covers safe s in_a = SafeWithin-step p n s (IsFine-weaken p.shapes (next p s) (InWays p Nowhere) (SafeWithin p n) (λ t y. absurd y) (covers s in_a))
ways_safe p n a (One x) covers safe s in_a = SafeWithin-step p n s (IsFine-weaken p.shapes (next p s) (InWays p (One x)) (SafeWithin p n) (λ t y. safe t y) (covers s in_a))
ways_safe p n a (Two x y) covers safe s in_a =
    SafeWithin-step p n s (IsFine-weaken p.shapes (next p s) (InWays p (Two x y)) (SafeWithin p n) (λ t. elim [ inl k ↦ safe.0 t k | inr k ↦ safe.1 t k ]) (covers s in_a))

each_weaken : (w : Ways) (P Q : View → Type 0) → ((x : View) → P x → Q x) → EachWay w P → EachWay w Q
each_weaken Nowhere P Q f h = tt
each_weaken (One x) P Q f h = f x h
each_weaken (Two x y) P Q f h = (f x h.0, f y h.1)

module _ (c : Code) (p : Setting) (es : List Claim) (whole : IsWhole c) (set : IsSetting c p) (views : All (λ e. IsView e.state) es) (kept : AreKept c es) where
  -- each claim with a budget of at most n is safe within it
  abbrev BelowSafe : ℕ → Type 0
  BelowSafe n = (k : ℕ) (d : Claim) → k < length es → (get_or es k d).budget ≤ n → AllSafe p (get_or es k d).budget (get_or es k d).state

  included_safe : (n : ℕ) (x : View) → BelowSafe n → IsIncluded es x n → AllSafe p n x
  included_safe n x below found s in_x =
      let k = found.0 in
      let e = found.1 in
      let same : get_or es k e ≡ e = found.3 in
      let view : IsView e.state = subst (λ (y : Claim). IsView y.state) same (views k e found.2) in
      let safe : AllSafe p e.budget e.state = subst (λ (y : Claim). AllSafe p y.budget y.state) same (below k e found.2 (subst (λ (y : Claim). y.budget ≤ n) (sym same) found.4.1)) in
      SafeWithin-le p e.budget n s found.4.1 (safe s (inclusion_keeps p x e.state s view found.4.0.included in_x))

  state_safe : (n : ℕ) (a : View) → BelowSafe n → ((x : View) → LeadsWithin c es n x → AllSafe p n x) → LeadsWithin c es (suc n) a → AllSafe p (n + 1) a
  unfolding LeadsWithin
  state_safe n a below deeper leads =
      let w = leads.1 in
      let covers : Covers p a w = examined_covers leads.0 c p a w whole set leads.2 leads.3 in
      ways_safe p n a w covers
      (each_weaken w (λ x. (IsTarget c.slots x.pc × IsIncluded es x n) ⊎ ((IsTarget c.slots x.pc → ⊥) × LeadsWithin c es n x)) (AllSafe p n)
      (λ x. elim [ inl t ↦ included_safe n x below t.1 | inr t ↦ deeper x t.1 ]) leads.4)

  -- by induction on the budget
  both_safe : (n : ℕ) → BelowSafe n × ((a : View) → LeadsWithin c es n a → AllSafe p n a)
  unfolding LeadsWithin
  both_safe zero = (λ k d lt le. absurd (subst (λ (b : ℕ). LeadsWithin c es b (get_or es k d).state) (let z : (get_or es k d).budget ≡ 0 = omega (arith, le) in z) (kept k d lt)), λ a leads. absurd leads)
  both_safe (suc n) =
      let deeper = both_safe n in
      let more : n + 1 ≡ suc n = omega arith in
      let states : (a : View) → LeadsWithin c es (suc n) a → AllSafe p (suc n) a = λ a leads. subst (λ (b : ℕ). AllSafe p b a) more (state_safe n a deeper.0 deeper.1 leads) in (
        λ k d lt le. elim (cases_lt n (get_or es k d).budget) [
          | inl above ↦
              let same : (get_or es k d).budget ≡ suc n = omega (arith, le, above) in
              subst (λ (b : ℕ). AllSafe p b (get_or es k d).state) (sym same) (states (get_or es k d).state (subst (λ (b : ℕ). LeadsWithin c es b (get_or es k d).state) same (kept k d lt)))
          | inr below ↦ deeper.0 k d lt below
        ],
        states,
      )

  start_safe : (b : ℕ) → Any (λ e. Includes e entry_view × (e.budget ≡ b)) es → Contains p entry_view entry → SafeWithin p b entry
  start_safe b found in_entry =
      let le : found.1.budget ≤ b = let same = found.4.1 in omega (arith, same) in
      included_safe b entry_view (both_safe b).0 (found.0, found.1, found.2, found.3, (found.4.0, le)) entry in_entry

pub covered_is_safe : CoveredIsSafe
covered_is_safe code es b whole shapes views covered =
    Safe-from_within code.slots code.shapes b (λ frame context short long bytes bytes2.
    let p = setting code.slots code.shapes frame context in
    let set : IsSetting code p = record { code = refl; shapes = refl; maps = shapes; frame = short; context = long; frame_bytes = bytes; context_bytes = bytes2 } in
    start_safe code p es whole set views covered.kept b covered.start.claim (entry_contains p))
