-- The table of targets, slot by slot.
use Rattle.std.proofs.Common.{◌≡◌, ℕ, ◌+◌, ◌<◌, ◌≤◌, ◌⊎◌, ◌↔◌, List, length, Option, Some, None, inl, inr, ⊎_elim, refl, sym, subst, arith}
use Rattle.std.specs.Prelude.{slice_get, ℤ}
use Rattle.std.proofs.lemmas.Bool.{cases_lt}
use Rattle.std.proofs.lemmas.Option.{slice_get_within}
use Rattle.bpf_insn.specs.declared.insn.Insn.{Insn}
use Rattle.bpf_insn.specs.declared.insn.Insn.TheVariants as insn
use Rattle.bpf_decode.specs.Flow.{jump_of}
use Rattle.bpf_decode.specs.Program.{Holds, IsTarget, Start, Jumped, Returned}
use Rattle.bpf_decode.specs.Targets.{MakesTarget, JumpsTo, ReturnsTo, IsMade, Made}

-- one of the first n slots makes t a target
pub record IsMadeBelow (n : ℕ) (slots : List (Option Insn)) (t : ℕ) : Type 0 where
  pub at : ℕ
  pub slot : Option Insn
  pub below : at < n
  pub holds : slice_get slots at ≡ Some slot
  pub makes : MakesTarget at slot t

pub none_made : (slots : List (Option Insn)) (t : ℕ) → IsMadeBelow 0 slots t → ⊥
none_made slots t m = let h = m.below in absurd (omega arith)

some_same : (a b : Option Insn) (o : Option (Option Insn)) → o ≡ Some a → o ≡ Some b → a ≡ b
some_same a b o p q = cc

-- one slot more adds the targets that it makes
pub made_more : (n : ℕ) (slots : List (Option Insn)) (o : Option Insn) (t : ℕ) → slice_get slots n ≡ Some o → IsMadeBelow (n + 1) slots t ↔ (IsMadeBelow n slots t ⊎ MakesTarget n o t)
made_more n slots o t holds = (into, out)
  where
    into : IsMadeBelow (n + 1) slots t → IsMadeBelow n slots t ⊎ MakesTarget n o t
    into m =
        elim (cases_lt m.at n) [
          | inl less ↦ inl (record { at = m.at; slot = m.slot; below = less; holds = m.holds; makes = m.makes })
          | inr more ↦
              let last : m.at ≡ n = let h = m.below in omega arith in
              let here : slice_get slots n ≡ Some m.slot = subst (λ j. slice_get slots j ≡ Some m.slot) last m.holds in
              let same : m.slot ≡ o = some_same m.slot o (slice_get slots n) here holds in
              inr (subst (λ (p : Option Insn). MakesTarget n p t) same (subst (λ j. MakesTarget j m.slot t) last m.makes))
        ]

    out : IsMadeBelow n slots t ⊎ MakesTarget n o t → IsMadeBelow (n + 1) slots t
    out = ⊎_elim (λ m. record { at = m.at; slot = m.slot; below = let h = m.below in omega arith; holds = m.holds; makes = m.makes })
        (λ makes. record { at = n; slot = o; below = omega arith; holds = holds; makes = makes })

pub made_all : (n : ℕ) (slots : List (Option Insn)) (t : ℕ) → length slots ≤ n → IsMadeBelow n slots t ↔ IsMade slots t
made_all n slots t whole = (λ m. Made m.at m.slot m.holds m.makes, out)
  where
    out : IsMade slots t → IsMadeBelow n slots t
    out (Made k o holds makes) = record { at = k; slot = o; below = let h = slice_get_within slots k o holds in omega arith; holds = holds; makes = makes }

made_jump : (slots : List (Option Insn)) (k : ℕ) (i : Insn) (t : ℕ) (x : Option ℤ) → Holds slots k i → jump_of i ≡ x → JumpsTo k x t → IsTarget slots t
made_jump slots k i t None holds e j = absurd j
made_jump slots k i t (Some x) holds e j = Jumped k i x holds e j

made_return : (slots : List (Option Insn)) (k : ℕ) (i : Insn) (t : ℕ) → Holds slots k i → ReturnsTo k i t → IsTarget slots t
made_return slots k (insn.CallLocal x) t holds r = Returned k x holds r
made_return slots k (insn.Alu a b c d) t holds r = absurd r
made_return slots k (insn.MovSx a b c d) t holds r = absurd r
made_return slots k (insn.Neg a b) t holds r = absurd r
made_return slots k (insn.End a b c) t holds r = absurd r
made_return slots k (insn.Jump a) t holds r = absurd r
made_return slots k (insn.JumpLong a) t holds r = absurd r
made_return slots k (insn.Branch a b c d e) t holds r = absurd r
made_return slots k (insn.Call a) t holds r = absurd r
made_return slots k insn.Exit t holds r = absurd r
made_return slots k (insn.Load a b c d e) t holds r = absurd r
made_return slots k (insn.Store a b c d) t holds r = absurd r
made_return slots k (insn.Atomic a b c d e) t holds r = absurd r
made_return slots k (insn.LoadWide a b) t holds r = absurd r

made_target : (slots : List (Option Insn)) (t k : ℕ) (o : Option Insn) → slice_get slots k ≡ Some o → MakesTarget k o t → IsTarget slots t
made_target slots t k None holds makes = absurd makes
made_target slots t k (Some i) holds makes = ⊎_elim (λ j. made_jump slots k i t (jump_of i) holds refl j) (λ r. made_return slots k i t holds r) makes

-- the targets are the start and those that instructions make
pub targets_are : (slots : List (Option Insn)) (t : ℕ) → IsTarget slots t ↔ ((t ≡ 0) ⊎ IsMade slots t)
targets_are slots t = (into, out)
  where
    into : IsTarget slots t → (t ≡ 0) ⊎ IsMade slots t
    into (Start e) = inl e
    into (Jumped k i x holds e j) = inr (Made k (Some i) holds (inl (subst (λ (y : Option ℤ). JumpsTo k y t) (sym e) j)))
    into (Returned k x holds e) = inr (Made k (Some (insn.CallLocal x)) holds (inr e))

    made : IsMade slots t → IsTarget slots t
    made (Made k o holds makes) = made_target slots t k o holds makes

    out : (t ≡ 0) ⊎ IsMade slots t → IsTarget slots t
    out = ⊎_elim Start made

-- one step of the table: C holds of t before slot n is processed, N after
pub marks_step : (n : ℕ) (slots : List (Option Insn)) (o : Option Insn) (t : ℕ) (I C N : Type 0) (a b : ℕ) → a ≡ b → slice_get slots n ≡ Some o
    → (C ↔ (I ⊎ ((t < a) × IsMadeBelow n slots t))) → (N ↔ (C ⊎ ((t < a) × MakesTarget n o t))) → N ↔ (I ⊎ ((t < b) × IsMadeBelow (n + 1) slots t))
marks_step n slots o t I C N a b same holds before step =
    let more = made_more n slots o t holds in (
      λ h. ⊎_elim
          (λ x. ⊎_elim (λ y. inl y) (λ y. inr (subst (λ m. t < m) same y.0, more.1 (inl y.1))) (before.0 x))
          (λ x. inr (subst (λ m. t < m) same x.0, more.1 (inr x.1)))
          (step.0 h),
      λ h. step.1 (⊎_elim
          (λ x. inl (before.1 (inl x)))
          (λ x. let within : t < a = subst (λ m. t < m) (sym same) x.0 in
          ⊎_elim (λ y. inl (before.1 (inr (within, y)))) (λ y. inr (within, y)) (more.0 x.1))
          h),
    )

pub marks_all : (n : ℕ) (slots : List (Option Insn)) (t : ℕ) (I N : Type 0) (a b : ℕ) → a ≡ b → length slots ≤ n
    → (N ↔ (I ⊎ ((t < a) × IsMadeBelow n slots t))) → N ↔ (I ⊎ ((t < b) × IsMade slots t))
marks_all n slots t I N a b same whole h =
    let all = made_all n slots t whole in (
      λ x. ⊎_elim (λ y. inl y) (λ y. inr (subst (λ m. t < m) same y.0, all.0 y.1)) (h.0 x),
      λ x. h.1 (⊎_elim (λ y. inl y) (λ y. inr (subst (λ m. t < m) (sym same) y.0, all.1 y.1)) x),
    )

pub marks_told : (slots : List (Option Insn)) (t : ℕ) (S N : Type 0) (a b : ℕ) → a ≡ b
    → (S ↔ ((t < b) × (t ≡ 0))) → (N ↔ (S ⊎ ((t < a) × IsMade slots t))) → N ↔ ((t < b) × IsTarget slots t)
marks_told slots t S N a b same start h =
    let are = targets_are slots t in (
      λ x. ⊎_elim (λ y. let z = start.0 y in (z.0, are.1 (inl z.1))) (λ y. (subst (λ m. t < m) same y.0, are.1 (inr y.1))) (h.0 x),
      λ x. h.1 (⊎_elim (λ y. inl (start.1 (x.0, y))) (λ y. inr (subst (λ m. t < m) (sym same) x.0, y)) (are.0 x.1)),
    )
