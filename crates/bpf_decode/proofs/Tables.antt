-- The table of instructions, one slot further.
use Rattle.std.proofs.Common.{ℕ, ◌≡◌, ◌+◌, ◌<◌, Option, Some, None, List, [], ◌∷◌, ◌++◌, length, get_or, sym, ap, subst, ◌∙◌, arith, inl, inr}
use Rattle.std.specs.Prelude.{slice_get}
use Rattle.std.proofs.lemmas.Bool.{cases_lt}
use Rattle.std.proofs.lemmas.List.{length-append, get_or_append_left}
use Rattle.std.proofs.lemmas.Option.{slice_get_within, slice_get-get_or, get_or_from_slice_get}
use Rattle.std.proofs.Math.Seq.{get_or-append_seam}
use Rattle.bpf_insn.specs.declared.insn.Insn.{Insn}
use Rattle.bpf_regions.specs.declared.maps.Shape.{Shape}
use Rattle.bpf_decode.specs.Code.{count, FaultAt, InFields, InRules}
use Rattle.bpf_decode.specs.Program.{IsEntry, IsTable}

-- appending an element keeps the others
front_same : (xs : List (Option Insn)) (o p : Option Insn) (k : ℕ) → k < length xs → slice_get (xs ++ o ∷ []) k ≡ Some p → slice_get xs k ≡ Some p
front_same xs o p k less e =
    let there = slice_get-get_or xs k None less in
    let same : get_or xs k None ≡ p = sym (get_or_append_left xs (o ∷ []) None k less) ∙ get_or_from_slice_get (xs ++ o ∷ []) k p None e in
    there ∙ ap (λ (q : Option Insn). Some q) same

last_same : (xs : List (Option Insn)) (o p : Option Insn) → slice_get (xs ++ o ∷ []) (length xs) ≡ Some p → o ≡ p
last_same xs o p e = sym (get_or-append_seam xs o [] None) ∙ get_or_from_slice_get (xs ++ o ∷ []) (length xs) p None e

pub table_push : (code : List ℕ) (xs ys : List (Option Insn)) (o : Option Insn) (n : ℕ) → IsTable code xs n → IsEntry code n o → ys ≡ xs ++ o ∷ [] → IsTable code ys (n + 1)
table_push code xs ys o n t here e =
    let grown : length ys ≡ length xs + 1 = ap length e ∙ length-append xs (o ∷ []) in
    record {
      len = let a = t.len in omega arith;
      entry = λ k p there.
          let there2 : slice_get (xs ++ o ∷ []) k ≡ Some p = subst (λ (l : List (Option Insn)). slice_get l k ≡ Some p) e there in
          let within : k < length ys = slice_get_within ys k p there in
          elim (cases_lt k (length xs)) [
            | inl less ↦ t.entry k p (front_same xs o p k less there2)
            | inr more ↦
                let last : k ≡ length xs = omega arith in
                let at_n : n ≡ k = let a = t.len in omega arith in
                let same : o ≡ p = last_same xs o p (subst (λ j. slice_get (xs ++ o ∷ []) j ≡ Some p) last there2) in
                subst (λ j. IsEntry code j p) at_n (subst (IsEntry code n) same here)
          ];
    }

pub clean_more : (code : List ℕ) (shapes : List Shape) (at : ℕ) → ((k n : ℕ) → k < at → FaultAt code shapes k n → ⊥) → ((n : ℕ) → FaultAt code shapes at n → ⊥) → (k n : ℕ) → k < at + 1 → FaultAt code shapes k n → ⊥
clean_more code shapes at before here k n lt f =
    elim (cases_lt k at) [
      | inl less ↦ before k n less f
      | inr more ↦ let last : k ≡ at = omega arith in here n (subst (λ j. FaultAt code shapes j n) last f)
    ]

pub fault_in : (code : List ℕ) (shapes : List Shape) (k n : ℕ) → FaultAt code shapes k n → k < count code
fault_in code shapes k n (InFields e s h) = s.0
fault_in code shapes k n (InRules i m s a r) = s.0
