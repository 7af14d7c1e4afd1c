-- The slots of abstract states.
use Rattle.std.specs.Prelude.{◌≡◌, ℕ, List, length, Option}
use Rattle.std.specs.List.{All}
use Rattle.bpf_insn.specs.declared.insn.Insn.{Insn}
use Rattle.bpf_decode.specs.Program.{Begins}
use Rattle.bpf_absstate.specs.View.{View}
use Rattle.bpf_rules.specs.declared.ways.Ways.{Ways}
use Rattle.bpf_rules.specs.declared.ways.Ways.TheVariants.{Nowhere, One, Two}
use Rattle.bpf_plain.specs.Walks.{Follows}

-- an instruction begins at the state's slot, and at each return slot
pub record Stands (slots : List (Option Insn)) (a : View) : Type 0 where
  pub begins : Begins slots a.pc
  pub returns : All (λ f. Begins slots f.return_slot) a.frames

-- each successor meets P
abbrev pub EachWay : Ways → (View → Type 0) → Type 0
EachWay Nowhere P = Unit {0}
EachWay (One x) P = P x
EachWay (Two x y) P = P x × P y

-- the state is in the main function
abbrev pub IsMain : View → Type 0
IsMain a = length a.frames ≡ 1

-- in the main function, one step further on a walk
pub record IsNextOf (slots : List (Option Insn)) (k : ℕ) (x : View) : Type 0 where
  pub follows : Follows slots k x.pc
  pub main : IsMain x
