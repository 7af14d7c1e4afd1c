-- Why an exploration ends without a budget.
use Rattle.std.specs.Prelude.{◌≡◌, ◌⊎◌, ℕ, ◌+◌, Err}
use Rattle.bpf_insn.specs.declared.insn.Insn.{Insn}
use Rattle.bpf_decode.specs.Program.{Code, Holds}
use Rattle.bpf_absstate.specs.View.{View}
use Rattle.bpf_prune.specs.Spending.{Tally, HasPassed}
use Rattle.bpf_rules.specs.Examined.{examined}
use Rattle.bpf_rules.specs.declared.fault.Fault.{Fault}
use Rattle.bpf_rules.specs.declared.fault.Fault.TheVariants.{NoMemory, TooManyVisits}
use Rattle.bpf_verifier.specs.declared.refusal.Refusal.{Refusal}

-- the rules find that fault in the instruction of a state
pub record IsFaulty (c : Code) (a : View) (fault : Fault) : Type 0 where
  pub insn : Insn
  pub at : Holds c.slots a.pc insn
  pub found : examined c.shapes insn a ≡ Err fault

-- why states aren't made again: lack of memory, or more work than is allowed
abbrev pub IsStopped : Fault → Tally → Type 0
IsStopped e w = (e ≡ NoMemory) ⊎ ((e ≡ TooManyVisits) × HasPassed w)

-- the cause of a refusal: lack of memory, a fault by the rules at its slot, as many states as are allowed, or more work
-- than is allowed
pub data IsDue (c : Code) (states : ℕ) (old new : Tally) (e : Refusal) : Type 0 where
  ByMemory : e.fault ≡ NoMemory → IsDue c states old new e
  ByRule : (a : View) → a.pc ≡ e.pc → IsFaulty c a e.fault → IsDue c states old new e
  ByStates : e.fault ≡ TooManyVisits → new.examined ≡ old.examined + states → IsDue c states old new e
  ByWork : e.fault ≡ TooManyVisits → HasPassed new → IsDue c states old new e
