-- What a step does, from what comes next.
use Rattle.std.proofs.Common.{ℤ, nat_eq, false}
use Rattle.std.proofs.lemmas.Int.{to_z-of_z}
use mir.Val.{SFits, to_z, of_z}
use mir.Syntax.{w16}
use Rattle.bpf_words.specs.Word.{word_add, word_of}
use Rattle.std.specs.List.{refill}
use Rattle.std.proofs.Common.{length, drop, slice_set, arith, Option, Some, None}
use Rattle.bpf_model.specs.declared.StackFrame.{StackFrame}
use Rattle.bpf_model.specs.Memory.{put_old}
use Rattle.std.proofs.lemmas.List.{take_all, append-nil, drop_all, length-set}
use Rattle.std.proofs.Common.{◌≡◌, ◌++◌, ℕ, List, [], ◌∷◌, take, refl, sym, ◌∙◌, subst, ap}
use Rattle.bpf_regions.specs.declared.asks.Ask.{Ask}
use Rattle.bpf_regions.specs.declared.maps.Shape.{Shape}
use Rattle.bpf_model.specs.State.{State, Next, Fault, Goes, Asks}
use Rattle.bpf_model.specs.Run.{Leads, InRange}
use Rattle.bpf_tagged.specs.declared.machine.Machine.{Machine}
use Rattle.bpf_tagged.specs.declared.machine.Stepped.{Stepped}
use Rattle.bpf_tagged.specs.declared.machine.Stepped.TheVariants.{Finished, Faulted, On}
use Rattle.bpf_tagged.specs.Took.{at, with_note, Took, Answered, Performs, Moves, kept_old}

module _ {S : Type 0} (R : S → Ask → ℕ → S → Type 0) (shapes : List Shape) where
  -- a step that faults
  pub faults : (x : State → Next) (cause : ℕ) (p : S) (m m2 : Machine) →
      ((notes : List ℕ) → x (at m notes) ≡ Fault cause) → Performs R shapes x (Faulted cause) p p m m2
  unfolding Answered
  faults x cause p m m2 e = record { made = λ notes. ([], refl, (e notes, refl)) }

  -- a step without a query
  pub goes : (x : State → Next) (p : S) (m m2 : Machine) →
      ((notes : List ℕ) → x (at m notes) ≡ Goes (at m2 notes)) → Performs R shapes x (On None) p p m m2
  unfolding Answered
  goes x p m m2 e =
      record { made = λ notes. ([], refl, subst (λ y. Leads shapes y [] (at m2 notes)) (sym (e notes)) (refl, refl)) }

  -- a step with a query
  pub asks : (x : State → Next) (q : Ask) (answer : ℕ) (f : List ℕ → ℕ → State) (p p2 : S) (m m2 : Machine) →
      R p q answer p2 → InRange shapes q answer →
      ((notes : List ℕ) → x (at m notes) ≡ Asks q (f notes)) →
      ((notes : List ℕ) → f notes answer ≡ at m2 notes) → Performs R shapes x (On None) p p2 m m2
  unfolding Answered
  asks x q answer f p p2 m m2 given fits e e2 =
      record {
        made = λ notes.
            ((q, answer) ∷ [], (p2, given, refl), subst (λ y. Leads shapes y ((q, answer) ∷ []) (at m2 notes)) (sym (e notes)) (answer, fits, refl, e2 notes));
      }

  -- the same step under another name
  pub same : (x y : State → Next) (stepped : Stepped) (p p2 : S) (m m2 : Machine) →
      ((notes : List ℕ) → y (at m notes) ≡ x (at m notes)) → Performs R shapes x stepped p p2 m m2 → Performs R shapes y stepped p p2 m m2
  same x y stepped p p2 m m2 e h =
      record { made = λ notes. subst (λ z. (l : List (Ask × ℕ)) × Answered R p l p2 × Took shapes z notes stepped l m2) (sym (e notes)) (h.made notes) }

  -- the same, with the machine after it named
  pub goes_as : (x : State → Next) (p : S) (m m' m2 : Machine) → m2 ≡ m' →
      ((notes : List ℕ) → x (at m notes) ≡ Goes (at m' notes)) → Performs R shapes x (On None) p p m m2
  goes_as x p m m' m2 is e = subst (λ k. Performs R shapes x (On None) p p m k) (sym is) (goes x p m m' e)

  pub asks_as : (x : State → Next) (q : Ask) (answer : ℕ) (f : List ℕ → ℕ → State) (p p2 : S) (m m' m2 : Machine) → m2 ≡ m' →
      R p q answer p2 → InRange shapes q answer →
      ((notes : List ℕ) → x (at m notes) ≡ Asks q (f notes)) →
      ((notes : List ℕ) → f notes answer ≡ at m' notes) → Performs R shapes x (On None) p p2 m m2
  asks_as x q answer f p p2 m m' m2 is given fits e e2 =
      subst (λ k. Performs R shapes x (On None) p p2 m k) (sym is) (asks x q answer f p p2 m m' given fits e e2)

  -- a step that is a move
  pub moves : (x : State → Next) (stepped : Stepped) (p : S) (m m2 : Machine) → Moves x stepped m m2 → Performs R shapes x stepped p p m m2
  unfolding Answered
  moves x (Finished r0) p m m2 h = record { made = λ notes. ([], refl, (h.came notes, refl)) }
  moves x (Faulted cause) p m m2 h = record { made = λ notes. ([], refl, (h.came notes, refl)) }
  moves x (On noted) p m m2 h =
      record { made = λ notes. ([], refl, subst (λ y. Leads shapes y [] (at m2 (with_note notes noted))) (sym (h.came notes)) (refl, refl)) }

abbrev pub with_stack : Machine → ℕ → List StackFrame → Machine
with_stack m pc l = record m { pc = pc; stack = record { items = l } }

-- overwriting all elements
pub refill_same : {X : Type 0} (xs ws : List X) → length ws ≡ length xs → refill (length xs) xs ws ≡ ws
refill_same xs ws e =
    let none : drop (length ws) xs ≡ [] = drop_all (length ws) xs (omega (arith, e)) in
    ap (λ t. take (length xs) (ws ++ t)) none ∙ ap (take (length xs)) (append-nil ws) ∙ take_all (length xs) ws (omega (arith, e))

-- overwriting one element
pub refill_set : {X : Type 0} (n : ℕ) (xs ws : List X) (i : ℕ) (x : X) → n ≡ length xs → ws ≡ slice_set xs i x → refill n xs ws ≡ slice_set xs i x
refill_set n xs ws i x len e =
    ap (λ k. refill k xs ws) len ∙ refill_same xs ws (ap length e ∙ length-set xs i x) ∙ e

pub kept_is : (m : Machine) (into : Option ℕ) (old : ℕ) (notes : List ℕ) → put_old (at m notes) into old ≡ at (kept_old m into old) notes
kept_is m None old notes = refl
kept_is m (Some r) old notes = refl

-- a 16-bit offset, as a callee's clause shows it
pub at_is : (base : ℕ) (z : ℤ) (r : ℕ) → SFits w16 z → r ≡ word_add base (word_of (to_z w16 (of_z w16 z))) → r ≡ word_add base (word_of z)
at_is base z r fits e = e ∙ ap (λ y. word_add base (word_of y)) (to_z-of_z w16 z fits)

pub not_equal : (a b : ℕ) → (a ≡ b → ⊥) → nat_eq a b ≡ false
not_equal a b h = grind (arith, h)
