-- The lowest fault at a slot, and the table of starts.
use Rattle.std.proofs.Common.{ℕ, ◌≡◌, ◌≤◌, ◌+◌, ◌<◌, Bool, false, Option, Result, Ok, Err, List, [], ◌∷◌, ◌++◌, length, get_or, refl, sym, ap, subst, ◌∙◌, arith, add-one, inl, inr}
use Rattle.std.specs.Prelude.{not, ◌&&◌}
use Rattle.std.proofs.lemmas.Bool.{cases_lt}
use Rattle.std.proofs.Math.Seq.{get_or-append_seam}
use Rattle.std.proofs.lemmas.List.{length-append, get_or_append_left}
use Rattle.bpf_insn.specs.declared.insn.Insn.{Insn}
use Rattle.bpf_insn.specs.declared.fault.FieldFault.{FieldFault}
use Rattle.bpf_insn.specs.Slot.{fields_at, half_at}
use Rattle.bpf_insn.specs.Faults.{HasFault, IsLeast, number_of}
use Rattle.bpf_insn.specs.Spelled.{Spelled}
use Rattle.bpf_regions.specs.declared.maps.Shape.{Shape}
use Rattle.bpf_decode.specs.Code.{slot, slot_if, is_wide, starts, Starts, At, RuleFault, FaultAt, InFields, InRules, IsLowest}

pub starts_next : (code : List ℕ) (k : ℕ) → starts code (k + 1) ≡ not (starts code k && is_wide code k)
unfolding starts
starts_next code k = rw add-one refl

abbrev pub answer : FieldFault → Result Insn FieldFault
answer e = Err e

abbrev pub okay : Insn → Result Insn FieldFault
okay i = Ok i

pub err_none : (e : FieldFault) (i : Insn) → answer e ≡ okay i → ⊥
err_none e i h = cc

pub ok_one : (i j : Insn) → okay i ≡ okay j → j ≡ i
ok_one i j h = cc

by_fields : (code : List ℕ) (shapes : List Shape) (k : ℕ) (e : FieldFault) (m : ℕ) → IsLeast (HasFault (fields_at (slot code k)) (half_at (slot_if code (k + 1)))) e → ((i : Insn) → At code k i → ⊥) → FaultAt code shapes k m → number_of e ≤ m
by_fields code shapes k e m l none (InFields g s h) = l.least g h
by_fields code shapes k e m l none (InRules i n s a r) = absurd (none i a)

pub lowest_field : (code : List ℕ) (shapes : List Shape) (k : ℕ) (e : FieldFault) (n : ℕ) (first : List ℕ) (second : Option (List ℕ)) → n ≡ number_of e → first ≡ slot code k → second ≡ slot_if code (k + 1) → Starts code k
    → IsLeast (HasFault (fields_at first) (half_at second)) e → ((i : Insn) → Spelled first second i → ⊥) → IsLowest code shapes k n
lowest_field code shapes k e n first second num p q s l none =
    let l2 : IsLeast (HasFault (fields_at (slot code k)) (half_at (slot_if code (k + 1)))) e = subst (λ y. IsLeast (HasFault (fields_at (slot code k)) (half_at y)) e) q (subst (λ x. IsLeast (HasFault (fields_at x) (half_at second)) e) p l) in
    let none2 : (i : Insn) → At code k i → ⊥ = λ i a. none i (subst (λ x. Spelled x second i) (sym p) (subst (λ y. Spelled (slot code k) y i) (sym q) a)) in
    subst (IsLowest code shapes k) (sym num) (record { is_fault = InFields e s l2.is_fault; lowest = λ m f. by_fields code shapes k e m l2 none2 f })

by_rules : (code : List ℕ) (shapes : List Shape) (k : ℕ) (i : Insn) (n m : ℕ) → ((e : FieldFault) → HasFault (fields_at (slot code k)) (half_at (slot_if code (k + 1))) e → ⊥) → ((j : Insn) → At code k j → j ≡ i)
    → ((m : ℕ) → RuleFault code shapes k i m → n ≤ m) → FaultAt code shapes k m → n ≤ m
by_rules code shapes k i n m clean one least (InFields g s h) = absurd (clean g h)
by_rules code shapes k i n m clean one least (InRules j x s a r) = least m (subst (λ y. RuleFault code shapes k y m) (one j a) r)

pub lowest_rule_at : (code : List ℕ) (shapes : List Shape) (k : ℕ) (i : Insn) (n : ℕ) (first : List ℕ) (second : Option (List ℕ)) → first ≡ slot code k → second ≡ slot_if code (k + 1) → Starts code k
    → ((e : FieldFault) → HasFault (fields_at first) (half_at second) e → ⊥) → Spelled first second i → ((j : Insn) → Spelled first second j → j ≡ i)
    → RuleFault code shapes k i n → ((m : ℕ) → RuleFault code shapes k i m → n ≤ m) → IsLowest code shapes k n
lowest_rule_at code shapes k i n first second p q s clean at one r least =
    let clean2 : (e : FieldFault) → HasFault (fields_at (slot code k)) (half_at (slot_if code (k + 1))) e → ⊥ = subst (λ y. (e : FieldFault) → HasFault (fields_at (slot code k)) (half_at y) e → ⊥) q (subst (λ x. (e : FieldFault) → HasFault (fields_at x) (half_at second) e → ⊥) p clean) in
    let at2 : At code k i = subst (λ y. Spelled (slot code k) y i) q (subst (λ x. Spelled x second i) p at) in
    let one2 : (j : Insn) → At code k j → j ≡ i = λ j a. one j (subst (λ x. Spelled x second j) (sym p) (subst (λ y. Spelled (slot code k) y j) (sym q) a)) in
    record { is_fault = InRules i n s at2 r; lowest = λ m f. by_rules code shapes k i n m clean2 one2 least f }

pub told_push : (code : List ℕ) (xs ys : List Bool) (x : Bool) (n : ℕ) → ys ≡ xs ++ x ∷ [] → length xs ≡ n → x ≡ starts code n
    → ((k : ℕ) → k < length xs → get_or xs k false ≡ starts code k) → (k : ℕ) → k < length ys → get_or ys k false ≡ starts code k
told_push code xs ys x n e len here told k lt =
    elim (cases_lt k (length xs)) [
      | inl less ↦ rw e (get_or_append_left xs (x ∷ []) false k less ∙ told k less)
      | inr more ↦
          let grown : length ys ≡ length xs + 1 = ap length e ∙ length-append xs (x ∷ []) in
          let last : k ≡ length xs = omega (arith, grown) in
          let at_last : get_or ys (length xs) false ≡ starts code (length xs) = rw e (get_or-append_seam xs x [] false) ∙ here ∙ ap (starts code) (sym len) in
          subst (λ j. get_or ys j false ≡ starts code j) (sym last) at_last
    ]

-- a slot has no fault if its instruction is read and breaks no rule
pub no_fault_at : (code : List ℕ) (shapes : List Shape) (k : ℕ) (i : Insn) (first : List ℕ) (second : Option (List ℕ)) → first ≡ slot code k → second ≡ slot_if code (k + 1)
    → ((e : FieldFault) → HasFault (fields_at first) (half_at second) e → ⊥) → ((j : Insn) → Spelled first second j → j ≡ i)
    → ((m : ℕ) → RuleFault code shapes k i m → ⊥) → (n : ℕ) → FaultAt code shapes k n → ⊥
no_fault_at code shapes k i first second p q clean one rules _ (InFields e s h) =
    clean e (subst (λ (x : List ℕ). HasFault (fields_at x) (half_at second) e) (sym p) (subst (λ (y : Option (List ℕ)). HasFault (fields_at (slot code k)) (half_at y) e) (sym q) h))
no_fault_at code shapes k i first second p q clean one rules n (InRules j m s a r) =
    let spelled : Spelled first second j = subst (λ (x : List ℕ). Spelled x second j) (sym p) (subst (λ (y : Option (List ℕ)). Spelled (slot code k) y j) (sym q) a) in
    rules m (subst (λ (x : Insn). RuleFault code shapes k x m) (one j spelled) r)
