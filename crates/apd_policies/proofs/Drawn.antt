-- A graph's text grows piece by piece.
use Rattle.std.proofs.Common.{◌≡◌, ◌∙◌, ◌↔◌, ◌+◌, ◌++◌, IsTrue, ℕ, suc, ℤ, Bool, true, List, [], Option, Some, None, if◌then◌else◌, codes, length, slice_get, refl, sym, ap, subst, arith, append_assoc, append-nil}
use Rattle.bpf_insn.specs.declared.insn.Insn.{Insn}
use Rattle.bpf_decode.specs.Flow.{IsJump}
use Rattle.apd_policies.specs.Blocks.{IsFirst, IsLast}
use Rattle.apd_policies.specs.Overlays.{Told}
use Rattle.apd_policies.specs.Graph.{edge_line, opening, insn_line, beginning, Appends, IsJumpEdge, Leads, Astray, AreTwoEdges, AreEdges, IsEnding, IsDrawn, IsDrawnAt, AreDrawn, Nothing, More, IsGraph}
use Rattle.apd_policies.specs.declared.graph.nodes.Way.{Way}

-- nothing is appended
pub Appends-nothing : (P : List ℕ → Type 0) (old : List ℕ) → P [] → Appends P old old
Appends-nothing P old p = record { text = []; is_text = p; is = sym (append-nil old) }

-- what is appended says something else, too
pub Appends-weaker : (P Q : List ℕ → Type 0) (old new : List ℕ) → ((text : List ℕ) → P text → Q text) → Appends P old new → Appends Q old new
Appends-weaker P Q old new f a = record { text = a.text; is_text = f a.text a.is_text; is = a.is }

pub IsJumpEdge-leads : (head k to : ℕ) (x : ℤ) (way : Way) (old new : List ℕ) → IsJump k x to → new ≡ old ++ edge_line head to way → Appends (IsJumpEdge head k x way) old new
IsJumpEdge-leads head k to x way old new leads is = record { text = edge_line head to way; is_text = Leads to leads; is = is }

pub IsJumpEdge-astray : (head k : ℕ) (x : ℤ) (way : Way) (old : List ℕ) → ((to : ℕ) → IsJump k x to → ⊥) → Appends (IsJumpEdge head k x way) old old
IsJumpEdge-astray head k x way old astray = Appends-nothing _ old (Astray astray)

pub AreTwoEdges-of : (head k : ℕ) (x : ℤ) (way other : Way) (old mid new : List ℕ) → Appends (IsJumpEdge head k x way) old mid → new ≡ mid ++ edge_line head (k + 1) other
    → Appends (AreTwoEdges head k x way other) old new
AreTwoEdges-of head k x way other old mid new a is = record {
  text = a.text ++ edge_line head (k + 1) other;
  is_text = record { jump = a.text; is_jump = a.is_text; is = refl };
  is = is ∙ (ap (λ t. t ++ edge_line head (k + 1) other) a.is ∙ append_assoc old a.text (edge_line head (k + 1) other));
}

pub IsEnding-last : (head k : ℕ) (i : Insn) (old mid new : List ℕ) → mid ≡ old ++ codes "\"];\n" → Appends (AreEdges head k i) mid new → Appends (IsEnding true head k i) old new
IsEnding-last head k i old mid new closed a = record {
  text = codes "\"];\n" ++ a.text;
  is_text = (a.text, a.is_text, refl);
  is = a.is ∙ (ap (λ t. t ++ a.text) closed ∙ append_assoc old (codes "\"];\n") a.text);
}

module _ (told : Told) (slots : List (Option Insn)) where
  pub IsDrawn-of : (k before head : ℕ) (i : Insn) (first last : Bool) (old opened lined new : List ℕ) → IsTrue first ↔ IsFirst slots k → IsTrue last ↔ IsLast slots k i
      → head ≡ (if first then k else before) → opened ≡ old ++ opening told first k → lined ≡ opened ++ insn_line k i → Appends (IsEnding last head k i) lined new → Appends (IsDrawn told slots k before head i) old new
  IsDrawn-of k before head i first last old opened lined new begins ends is opens lines a = record {
    text = opening told first k ++ (insn_line k i ++ a.text);
    is_text = record { first = first; told_first = begins; head = is; last = last; told_last = ends; ending = a.text; ends = a.is_text; is = refl };
    is = a.is ∙ (ap (λ t. t ++ a.text) (lines ∙ ap (λ t. t ++ insn_line k i) opens)
        ∙ (append_assoc (old ++ opening told first k) (insn_line k i) a.text ∙ append_assoc old (opening told first k) (insn_line k i ++ a.text)));
  }

  pub IsDrawnAt-insn : (k before head : ℕ) (i : Insn) (old new : List ℕ) → slice_get slots k ≡ Some (Some i) → Appends (IsDrawn told slots k before head i) old new
      → Appends (IsDrawnAt told slots k before head (slice_get slots k)) old new
  IsDrawnAt-insn k before head i old new there a = rw there a

  pub IsDrawnAt-second : (k before : ℕ) (old : List ℕ) → slice_get slots k ≡ Some None → Appends (IsDrawnAt told slots k before before (slice_get slots k)) old old
  IsDrawnAt-second k before old there = Appends-nothing _ old (rw there (refl, refl))

  pub IsDrawnAt-past : (k before : ℕ) (old : List ℕ) → slice_get slots k ≡ None → Appends (IsDrawnAt told slots k before before (slice_get slots k)) old old
  IsDrawnAt-past k before old there = Appends-nothing _ old (rw there (refl, refl))

  -- so far, after the first line
  pub record IsBegun (n head : ℕ) (text : List ℕ) : Type 0 where
    pub drawn : List ℕ
    pub are : AreDrawn told slots n head drawn
    pub is : text ≡ beginning ++ drawn

  pub IsBegun-start : (text : List ℕ) → text ≡ beginning → IsBegun 0 0 text
  IsBegun-start text is = record { drawn = []; are = Nothing; is = is ∙ sym (append-nil beginning) }

  pub IsBegun-more : (n before head : ℕ) (old new : List ℕ) → IsBegun n before old → Appends (IsDrawnAt told slots n before head (slice_get slots n)) old new → IsBegun (n + 1) head new
  IsBegun-more n before head old new begun a =
      let next : n + 1 ≡ suc n = omega arith in
      rw next record {
        drawn = begun.drawn ++ a.text;
        are = More n before head begun.drawn a.text begun.are a.is_text;
        is = a.is ∙ (ap (λ t. t ++ a.text) begun.is ∙ append_assoc beginning begun.drawn a.text);
      }

  pub IsGraph-whole : (n head : ℕ) (old new : List ℕ) → IsBegun n head old → n ≡ length slots → new ≡ old ++ codes "}\n" → IsGraph told slots new
  IsGraph-whole n head old new begun all ended = record {
    head = head;
    drawn = begun.drawn;
    are = let P : ℕ → Type 0 = λ m. AreDrawn told slots m head begun.drawn in subst P all begun.are;
    is = ended ∙ (ap (λ t. t ++ codes "}\n") begun.is ∙ append_assoc beginning begun.drawn (codes "}\n"));
  }
