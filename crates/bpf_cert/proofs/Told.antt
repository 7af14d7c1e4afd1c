-- Booleans that tell whether something holds.
use Rattle.std.proofs.Common.{◌≡◌, ℕ, suc, ◌+◌, ◌≤◌, ◌<◌, inl, inr, Bool, true, false, List, sym, ◌∙◌, ap, subst, arith, Result, Ok, Err}
use Rattle.std.specs.Prelude.{IfOk, IfErr}
use Rattle.bpf_cert.specs.declared.limit.Stop.{Stop}
use Rattle.bpf_cert.specs.declared.limit.Stop.TheVariants as stop
use Rattle.bpf_cert.specs.Limits.{IsStop}
use Rattle.std.proofs.lemmas.Bool.{true≢false}
use Rattle.bpf_insn.specs.declared.insn.Insn.{Insn}
use Rattle.bpf_decode.specs.Program.{Code, Holds, IsTarget, Begins}
use Rattle.bpf_decode.proofs.Whole.{same_insn}
use Rattle.bpf_absstate.specs.View.{View}
use Rattle.bpf_absstate.specs.Inclusion.{state_included}
use Rattle.bpf_plain.specs.Standing.{EachWay}
use Rattle.bpf_rules.specs.declared.fault.Fault.{Fault}
use Rattle.bpf_rules.specs.declared.ways.Ways.{Ways}
use Rattle.bpf_rules.specs.declared.ways.Ways.TheVariants.{Two}
use Rattle.bpf_rules.specs.Examined.{examined}
use Rattle.bpf_rules.proofs.Outcomes.{okay, refused, okay-same, refused-okay}
use Rattle.bpf_cert.specs.declared.claim.Claim.{Claim}
use Rattle.bpf_cert.specs.declared.coverage.Step.{Step}
use Rattle.bpf_cert.specs.declared.coverage.Step.TheVariants.{Decided, Onward}
use Rattle.bpf_cert.specs.Covered.{Includes, IsIncluded, LeadsWithin}
use Rattle.bpf_cert.specs.Steps.{Tells, Serves, Arrives, IsSame, Goes}

-- lack of memory
pub starved : {T : Type 0} (passed : Type 0) (r : Result T Stop) → IfErr r (λ e. e ≡ stop.NoMemory) → IfErr r (IsStop passed)
starved passed (Ok x) h = h
starved passed (Err e) h = subst (IsStop passed) (sym h) tt

pub open_includes : (e : Claim) (a : View) (r : Bool) → e.is_open ≡ true → r ≡ state_included a e.state → Tells r (Includes e a)
open_includes e a true o h = record { included = sym h; is_open = o }
open_includes e a false o h = λ x. true≢false (sym x.included ∙ sym h)

pub closed_includes : (e : Claim) (a : View) → e.is_open ≡ false → Tells e.is_open (Includes e a)
closed_includes e a h = subst (λ (b : Bool). Tells b (Includes e a)) (sym h) (λ x. true≢false (sym x.is_open ∙ h))

pub closed_includes_not : (e : Claim) (a : View) → e.is_open ≡ false → Includes e a → ⊥
closed_includes_not e a h x = true≢false (sym x.is_open ∙ h)

-- what is told of P is told of an equivalent Q
pub tells_same : (told : Bool) (P Q : Type 0) → (P → Q) → (Q → P) → Tells told P → Tells told Q
tells_same true P Q f g h = f h
tells_same false P Q f g h = λ q. h (g q)

pub IsSame-self : (P : Type 0) → IsSame P P
IsSame-self P = record { back = λ x. x; forth = λ x. x }

pub goes_same : (c : Code) (es : List Claim) (n : ℕ) (P Q : Type 0) (s : Step) → (P → Q) → (Q → P) → Goes c es n P s → Goes c es n Q s
goes_same c es n P Q (Decided told) f g h = tells_same told P Q f g h
goes_same c es n P Q (Onward x) f g h = record { back = λ l. f (h.back l); forth = λ q. h.forth (g q) }

module _ (c : Code) (es : List Claim) (n : ℕ) where
  -- at a target slot
  pub at_target : (x : View) (told : Bool) → IsTarget c.slots x.pc → Tells told (IsIncluded es x n) → Goes c es n (Arrives c es n x) (Decided told)
  at_target x told t h = tells_same told (IsIncluded es x n) (Arrives c es n x) (λ i. inl (t, i)) (λ a. elim a [ inl k ↦ k.1 | inr k ↦ absurd (k.0 t) ]) h

  -- at another slot
  pub elsewhere : (x : View) → (IsTarget c.slots x.pc → ⊥) → Goes c es n (Arrives c es n x) (Onward x)
  elsewhere x other = record { back = λ l. inr (other, l); forth = λ a. elim a [ inl k ↦ absurd (other k.0) | inr k ↦ k.1 ] }

  -- both successors
  pub second_in : (x y : View) (s : Step) → IsTarget c.slots y.pc → IsIncluded es y n → Goes c es n (Arrives c es n x) s → Goes c es n (EachWay (Two x y) (Arrives c es n)) s
  second_in x y s t i h = goes_same c es n (Arrives c es n x) (EachWay (Two x y) (Arrives c es n)) s (λ a. (a, inl (t, i))) (λ a. a.0) h

  pub second_out : (x y : View) → IsTarget c.slots y.pc → (IsIncluded es y n → ⊥) → EachWay (Two x y) (Arrives c es n) → ⊥
  second_out x y t out h = elim h.1 [ inl k ↦ out k.1 | inr k ↦ k.0 t ]

  -- an instruction that passes its checks
  opened : (a : View) (i : Insn) (w : Ways) → Holds c.slots a.pc i → examined c.shapes i a ≡ okay w → LeadsWithin c es (suc n) a → EachWay w (Arrives c es n)
  unfolding LeadsWithin
  opened a i w at e leads =
      let same : leads.0 ≡ i = same_insn c.slots a.pc leads.0 i leads.2 at in
      subst (λ (v : Ways). EachWay v (Arrives c es n)) (okay-same leads.1 w (sym leads.3 ∙ ap (λ (j : Insn). examined c.shapes j a) same ∙ e)) leads.4

  closed : (a : View) (i : Insn) (w : Ways) → Holds c.slots a.pc i → examined c.shapes i a ≡ okay w → EachWay w (Arrives c es n) → LeadsWithin c es (suc n) a
  unfolding LeadsWithin
  closed a i w at e each = (i, w, at, e, each)

  fails : (a : View) (i : Insn) (f : Fault) → Holds c.slots a.pc i → examined c.shapes i a ≡ refused f → LeadsWithin c es (suc n) a → ⊥
  unfolding LeadsWithin
  fails a i f at e leads =
      let same : leads.0 ≡ i = same_insn c.slots a.pc leads.0 i leads.2 at in
      refused-okay f leads.1 (sym (sym leads.3 ∙ ap (λ (j : Insn). examined c.shapes j a) same ∙ e))

  pub examined_goes : (a : View) (i : Insn) (w : Ways) (s : Step) → Holds c.slots a.pc i → examined c.shapes i a ≡ okay w → Goes c es n (EachWay w (Arrives c es n)) s → Goes c es n (LeadsWithin c es (n + 1) a) s
  examined_goes a i w s at e h =
      let more : suc n ≡ n + 1 = omega arith in
      subst (λ (m : ℕ). Goes c es n (LeadsWithin c es m a) s) more (goes_same c es n (EachWay w (Arrives c es n)) (LeadsWithin c es (suc n) a) s (closed a i w at e) (opened a i w at e) h)

  pub examined_fails : (a : View) (i : Insn) (f : Fault) → Holds c.slots a.pc i → examined c.shapes i a ≡ refused f → LeadsWithin c es (n + 1) a → ⊥
  examined_fails a i f at e h =
      let more : n + 1 ≡ suc n = omega arith in fails a i f at e (subst (λ (m : ℕ). LeadsWithin c es m a) more h)

pub no_budget : (c : Code) (es : List Claim) (n : ℕ) (a : View) → n ≤ 0 → LeadsWithin c es n a → ⊥
unfolding LeadsWithin
no_budget c es n a le h = let z : n ≡ 0 = omega arith in subst (λ (m : ℕ). LeadsWithin c es m a) z h

-- a result that is true
pub told_true : (r : Bool) (P : Type 0) → r ≡ true → Tells r P → P
told_true r P e h = subst (λ (b : Bool). Tells b P) e h

pub told_false : (r : Bool) (P : Type 0) → r ≡ false → Tells r P → P → ⊥
told_false r P e h = subst (λ (b : Bool). Tells b P) e h

-- a fault, or lack of memory
pub refused_goes : (c : Code) (es : List Claim) (n : ℕ) (P Q : Type 0) (r : Result Step Stop) → IfOk r (λ told. (told ≡ Decided false) × Q) → (Q → P → ⊥) → IfOk r (Goes c es n P)
refused_goes c es n P Q (Ok s) h k = subst (Goes c es n P) (sym h.0) (k h.1)
refused_goes c es n P Q (Err e) h k = tt

-- no instruction begins there
pub not_begun : (c : Code) (es : List Claim) (n : ℕ) (a : View) → (Begins c.slots a.pc → ⊥) → LeadsWithin c es (n + 1) a → ⊥
unfolding LeadsWithin
not_begun c es n a out h =
    let more : n + 1 ≡ suc n = omega arith in
    let leads : LeadsWithin c es (suc n) a = subst (λ (m : ℕ). LeadsWithin c es m a) more h in
    out (leads.0, leads.2)

-- a claim whose budget serves
pub serves_within : (e : Claim) (a : View) (n : ℕ) (r : Bool) → e.budget ≤ n → Tells r (Includes e a) → Tells r (Serves e a n)
serves_within e a n r le h = tells_same r (Includes e a) (Serves e a n) (λ i. (i, le)) (λ s. s.0) h

-- one whose budget doesn't
pub serves_not : (e : Claim) (a : View) (n : ℕ) → n < e.budget → Serves e a n → ⊥
serves_not e a n lt s = let le = s.1 in absurd (omega (arith, lt, le))
