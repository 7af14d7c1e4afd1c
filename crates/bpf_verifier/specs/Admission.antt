-- What an exploration within a limit of states says of a program.
use Rattle.std.specs.Prelude.{◌≡◌, ◌≤◌, ◌^◌, ℕ}
use Rattle.bpf_prune.specs.Spending.{Tally, CountsAll, unspent}
use Rattle.bpf_decode.specs.Program.{Code, Begins}
use Rattle.bpf_model.specs.Run.{Safe}
use Rattle.bpf_absstate.specs.View.{entry_view}
use Rattle.bpf_plain.specs.Clear.{IsClear}
use Rattle.bpf_plain.specs.Walks.{IsPlain, HasWalk}
use Rattle.bpf_rules.specs.declared.fault.Fault.TheVariants.{NoMemory}
use Rattle.bpf_verifier.specs.Causes.{IsDue}
use Rattle.bpf_verifier.specs.Spent.{IsSpent, IsMemoryOrPassed}
use Rattle.bpf_verifier.specs.Limits.{units_of}
use Rattle.bpf_verifier.specs.declared.limit.Limits.{Limits}
use Rattle.bpf_verifier.specs.declared.refusal.Refusal.{Refusal}

-- The program is safe within the budget, which is at most the limit; that of a plain program is at most the length of
-- one of its walks.
pub record IsSafeBudget (program : Code) (limit budget : ℕ) : Type 0 where
  pub safe : Safe program.slots program.shapes budget
  pub small : budget ≤ limit
  pub walk : IsPlain program.slots → HasWalk program.slots budget

-- A refusal at an instruction. A program that is clear by the rules within the limit is refused only for lack of memory;
-- so is a plain one, if the limit is the greatest.
pub record IsRefusal (program : Code) (limit : ℕ) (refusal : Refusal) : Type 0 where
  pub begins : Begins program.slots refusal.pc
  pub plain : limit ≡ 2 ^ 22 → IsPlain program.slots → refusal.fault ≡ NoMemory
  pub clear : IsClear program entry_view limit → refusal.fault ≡ NoMemory

-- The same with a limit on work, too: such programs are also refused if they need more work than is allowed.
pub record IsRefusalAfter (program : Code) (limit : ℕ) (work : Tally) (refusal : Refusal) : Type 0 where
  pub begins : Begins program.slots refusal.pc
  pub plain : limit ≡ 2 ^ 22 → IsPlain program.slots → IsMemoryOrPassed refusal.fault work
  pub clear : IsClear program entry_view limit → IsMemoryOrPassed refusal.fault work

-- A refusal within limits of states and of work, after the work that a tally counts, all that was done.
pub record IsRefusalWithin (program : Code) (limits : Limits) (refusal : Refusal) : Type 0 where
  pub tally : Tally
  pub spent : IsSpent limits.states (unspent (units_of limits.work)) tally
  pub counted : CountsAll tally
  pub after : IsRefusalAfter program limits.states tally refusal
  pub due : IsDue program limits.states (unspent (units_of limits.work)) tally refusal
