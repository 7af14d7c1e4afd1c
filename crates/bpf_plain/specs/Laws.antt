-- What the rules say whatever the values are.
use Rattle.std.specs.Prelude.{◌≡◌, ℕ, ◌^◌, Ok}
use Rattle.bpf_insn.specs.declared.insn.Insn.{Insn}
use Rattle.bpf_decode.specs.Program.{Code, Begins, Holds, IsWhole}
use Rattle.bpf_absstate.specs.View.{View, entry_view}
use Rattle.bpf_rules.specs.declared.ways.Ways.{Ways}
use Rattle.bpf_rules.specs.Examined.{examined}
use Rattle.bpf_plain.specs.Clear.{IsClear}
use Rattle.bpf_plain.specs.Paths.{Reaches}
use Rattle.bpf_plain.specs.Standing.{Stands, EachWay, IsMain, IsNextOf}
use Rattle.bpf_plain.specs.Walks.{IsPlain, HasWalk}

-- successors of a state at an instruction are at instructions
abbrev pub WaysStand : Type 0
WaysStand =
    (c : Code) (i : Insn) (a : View) (w : Ways) → IsWhole c → Holds c.slots a.pc i →
    Stands c.slots a → examined c.shapes i a ≡ Ok w →
    EachWay w (Stands c.slots)

-- the entry is at an instruction
abbrev pub EntryStands : Type 0
EntryStands = (c : Code) → IsWhole c → Stands c.slots entry_view

-- in a plain program each successor is one step of a walk
abbrev pub WaysFollow : Type 0
WaysFollow =
    (c : Code) (i : Insn) (a : View) (w : Ways) → IsWhole c → IsPlain c.slots →
    Holds c.slots a.pc i → IsMain a → examined c.shapes i a ≡ Ok w →
    EachWay w (IsNextOf c.slots a.pc)

-- from each instruction of a plain program a path leads to an EXIT
abbrev pub PlainReaches : Type 0
PlainReaches =
    (c : Code) → IsWhole c → IsPlain c.slots → (k : ℕ) → Begins c.slots k → Reaches c.slots k 1

-- a path from slot 0 is a walk
abbrev pub PathsWalk : Type 0
PathsWalk = (c : Code) (n : ℕ) → Reaches c.slots 0 n → HasWalk c.slots n

-- a plain program meets at most 2^22 states, each counted once for each path to it, and no fault
abbrev pub PlainIsClear : Type 0
PlainIsClear = (c : Code) → IsWhole c → IsPlain c.slots → IsClear c entry_view (2 ^ 22)
