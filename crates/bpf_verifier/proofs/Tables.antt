-- What holds of all finished states.
use Rattle.std.proofs.Common.{◌≡◌, ℕ, ◌-◌, inl, inr, List, [], ◌∷◌, ◌++◌, length, sym, subst, Option, Some, None, IfSome}
use Rattle.std.specs.Prelude.{replicate}
use Rattle.std.specs.List.{All}
use Rattle.std.proofs.lemmas.List.{get_or_past}
use Rattle.std.proofs.lemmas.List.Elements.{All-push, All-drop, All-set, All-nil, All-get_or, All-replicate, All-contains, All-weaker}
use Rattle.std.proofs.lemmas.Bool.{cases_lt}
use Rattle.bpf_absstate.specs.View.{View}
use Rattle.bpf_prune.specs.declared.kept.Entry.{Entry}
use Rattle.bpf_prune.specs.Covering.{with_newest, kept_at, Covers}
use Rattle.bpf_verifier.specs.Path.{IsKept}

module _ (P : Entry → Type 0) where
  pub at_slot : (table : List (List Entry)) (pc : ℕ) → All (All P) table → All P (kept_at table pc)
  at_slot table pc h =
      elim (cases_lt pc (length table)) [
        | inl within ↦ All-get_or (All P) table pc [] within h
        | inr past ↦ subst (All P) (sym (get_or_past table pc [] past)) (All-nil P)
      ]

  newest : (es : List Entry) (e : Entry) → All P es → P e → All P (with_newest es e)
  unfolding with_newest
  newest es e h k = All-drop P (length (es ++ e ∷ []) - 64) (es ++ e ∷ []) (All-push P es e h k)

  pub kept : (old new : List (List Entry)) (o : Option View) (budget : ℕ) → IsKept old new o budget → All (All P) old → IfSome o (λ a. P (record { state = a; budget = budget })) → All (All P) new
  kept old new None budget k h each = subst (All (All P)) (sym k) h
  kept old new (Some a) budget k h each =
      let e : Entry = record { state = a; budget = budget } in
      subst (All (All P)) (sym k) (All-set (All P) old a.pc (with_newest (kept_at old a.pc) e) (newest (kept_at old a.pc) e (at_slot old a.pc h) each) h)

  pub none : (table : List (List Entry)) (n : ℕ) → table ≡ replicate n [] → All (All P) table
  none table n e = subst (All (All P)) (sym e) (All-replicate (All P) n [] (All-nil P))

  pub covering : (table : List (List Entry)) (a : View) (budget : ℕ) → All (All P) table → (c : Covers (kept_at table a.pc) a budget) → P c.entry
  covering table a budget h c = All-contains P (kept_at table a.pc) c.entry (at_slot table a.pc h) c.kept

pub weaker : (P Q : Entry → Type 0) → ((e : Entry) → P e → Q e) → (table : List (List Entry)) → All (All P) table → All (All Q) table
weaker P Q f table h = All-weaker (All P) (All Q) (All-weaker P Q f) table h
