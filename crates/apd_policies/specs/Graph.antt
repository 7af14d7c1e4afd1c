-- A program's control-flow graph, as graphviz reads it: a node for each block, named by its first slot, and the edges
-- from its last instruction. A line feed is 10, a quotation mark 34.
use Rattle.std.specs.Prelude.{◌≡◌, ◌↔◌, ℕ, suc, ◌+◌, ℤ, Bool, true, false, IsTrue, List, [], ◌∷◌, ◌++◌, length, codes, decimal, slice_get, Option, Some, None, if◌then◌else◌}
use Rattle.bpf_insn.specs.declared.insn.Insn.{Insn}
use Rattle.bpf_insn.specs.declared.insn.Insn.TheVariants as insn
use Rattle.bpf_line.specs.Spellings.{text_of}
use Rattle.bpf_decode.specs.Flow.{IsJump, size_of}
use Rattle.apd_policies.specs.Blocks.{IsFirst, IsLast}
use Rattle.apd_policies.specs.Overlays.{Told, fill_of, note_of}
use Rattle.apd_policies.specs.declared.graph.nodes.Way.{Way}
use Rattle.apd_policies.specs.declared.graph.nodes.Way.TheVariants.{Next, Taken, NotTaken, Called}

-- ---- edges

abbrev pub label_of : Way → List ℕ
label_of Next = []
label_of Taken = codes "taken"
label_of NotTaken = codes "not taken"
label_of Called = codes "call"

-- `  bHEAD -> bTO [label="LABEL"];`
abbrev pub edge_line : ℕ → ℕ → Way → List ℕ
edge_line head to way =
    codes "  b" ++ (decimal head ++ (codes " -> b" ++ (decimal to ++ (codes " [label=\""
    ++ (label_of way ++ codes "\"];\n")))))

-- the edge of a jump by x at slot k, in the block that begins at `head`; none if the jump leads nowhere
pub data IsJumpEdge (head k : ℕ) (x : ℤ) (way : Way) : List ℕ → Type 0 where
  Leads : (to : ℕ) → IsJump k x to → IsJumpEdge head k x way (edge_line head to way)
  Astray : ((to : ℕ) → IsJump k x to → ⊥) → IsJumpEdge head k x way []

-- the edge of a jump, and then the edge to the next slot
pub record AreTwoEdges (head k : ℕ) (x : ℤ) (way other : Way) (text : List ℕ) : Type 0 where
  pub jump : List ℕ
  pub is_jump : IsJumpEdge head k x way jump
  pub is : text ≡ jump ++ edge_line head (k + 1) other

-- the edges from an instruction at slot k
abbrev pub AreEdges : ℕ → ℕ → Insn → List ℕ → Type 0
AreEdges head k (insn.Jump x) text = IsJumpEdge head k x Next text
AreEdges head k (insn.JumpLong x) text = IsJumpEdge head k x Next text
AreEdges head k (insn.Branch c w d s x) text = AreTwoEdges head k x Taken NotTaken text
AreEdges head k (insn.CallLocal x) text = AreTwoEdges head k x Called Next text
AreEdges head k insn.Exit text = text ≡ []
AreEdges head k i text = text ≡ edge_line head (k + size_of i) Next

-- ---- nodes

-- the beginning of a node, if a block begins: `  bSLOT [label="`, with its colour and its first line, if something is told of it
abbrev pub opening : Told → Bool → ℕ → List ℕ
opening told true slot = codes "  b" ++ (decimal slot ++ (codes " [" ++ (fill_of told slot ++ (codes "label=\"" ++ note_of told slot))))
opening told false slot = []

-- an instruction with its slot, as a line of a node
abbrev pub insn_line : ℕ → Insn → List ℕ
insn_line slot i = decimal slot ++ (32 ∷ (text_of i ++ codes "\\l"))

-- the end of a node and the edges from it, if a block ends
abbrev pub IsEnding : Bool → ℕ → ℕ → Insn → List ℕ → Type 0
IsEnding true head k i text = (edges : List ℕ) × AreEdges head k i edges × (text ≡ codes "\"];\n" ++ edges)
IsEnding false head k i text = text ≡ []

-- the text of an instruction at slot k. Its block begins at slot `new`: there, or where the preceding one's does.
pub record IsDrawn (told : Told) (slots : List (Option Insn)) (k old new : ℕ) (i : Insn) (text : List ℕ) : Type 0 where
  pub first : Bool
  pub told_first : IsTrue first ↔ IsFirst slots k
  pub head : new ≡ (if first then k else old)
  pub last : Bool
  pub told_last : IsTrue last ↔ IsLast slots k i
  pub ending : List ℕ
  pub ends : IsEnding last new k i ending
  pub is : text ≡ opening told first k ++ (insn_line k i ++ ending)

-- the text of a slot; empty if no instruction starts there
abbrev pub IsDrawnAt : Told → List (Option Insn) → ℕ → ℕ → ℕ → Option (Option Insn) → List ℕ → Type 0
IsDrawnAt told slots k old new (Some (Some i)) text = IsDrawn told slots k old new i text
IsDrawnAt told slots k old new (Some None) text = (text ≡ []) × (new ≡ old)
IsDrawnAt told slots k old new None text = (text ≡ []) × (new ≡ old)

-- the text of the first n slots; the block of the last instruction begins at `head`
pub data AreDrawn (told : Told) (slots : List (Option Insn)) : ℕ → ℕ → List ℕ → Type 0 where
  Nothing : AreDrawn told slots 0 0 []
  More : (n old new : ℕ) (text more : List ℕ) → AreDrawn told slots n old text →
      IsDrawnAt told slots n old new (slice_get slots n) more → AreDrawn told slots (suc n) new (text ++ more)

-- the first line
abbrev pub beginning : List ℕ
beginning = codes "digraph program {\n  node [shape=box, fontname=monospace];\n"

-- the text of the whole graph, and what it tells of the blocks
pub record IsGraph (told : Told) (slots : List (Option Insn)) (text : List ℕ) : Type 0 where
  pub head : ℕ
  pub drawn : List ℕ
  pub are : AreDrawn told slots (length slots) head drawn
  pub is : text ≡ beginning ++ (drawn ++ codes "}\n")

-- what is appended to a text
pub record Appends (IsText : List ℕ → Type 0) (old new : List ℕ) : Type 0 where
  pub text : List ℕ
  pub is_text : IsText text
  pub is : new ≡ old ++ text
