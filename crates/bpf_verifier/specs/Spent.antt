-- What an exploration does, and how much work it may do.
use Rattle.std.specs.Prelude.{◌≡◌, ◌⊎◌, ℕ, ◌+◌, ◌*◌, ◌≤◌}
use Rattle.bpf_prune.specs.Spending.{Tally, HasPassed}
use Rattle.bpf_rules.specs.declared.fault.Fault.{Fault}
use Rattle.bpf_rules.specs.declared.fault.Fault.TheVariants.{NoMemory}
use Rattle.bpf_verifier.specs.Limits.{units_of}
use Rattle.bpf_verifier.specs.declared.limit.Limits.{Limits}

-- What an exploration within a limit of states adds to the work. A state that is examined has at most 563 parts, and is
-- compared with at most 64 kept ones, each time at most six parts and then all: at most 36979 units. A state that is made
-- again has at most 563. One state more may be counted, whose work was refused. For each state that is examined at most
-- all states of a path are made again, 2^22.
pub record IsSpent (states : ℕ) (old new : Tally) : Type 0 where
  pub few : new.examined ≤ old.examined + states
  pub units : new.units + (36979 * old.examined + 563 * old.remade) ≤ old.units + (36979 * (new.examined + 1) + 563 * new.remade)
  pub again : new.remade + 4194304 * old.examined ≤ old.remade + 4194304 * (new.examined + 1)
  pub most : new.most ≡ old.most

-- Each step of a budget that an exploration finds is earned by a state that it examined, and counted.
abbrev pub IsEarned : ℕ → Tally → Tally → Type 0
IsEarned budget old new = old.examined + budget ≤ new.examined

-- So with a limit of work no budget is above the states that may be examined, 80 units each.
abbrev pub IsWithin : Limits → ℕ → Type 0
IsWithin limits budget = 80 * budget ≤ units_of limits.work

-- with so much work allowed no exploration within the limit of states needs more
abbrev pub IsAmple : Limits → Type 0
IsAmple limits = (36979 + 563 * 4194304) * (limits.states + 1) + 563 ≤ units_of limits.work

-- lack of memory, or more work than is allowed
abbrev pub IsMemoryOrPassed : Fault → Tally → Type 0
IsMemoryOrPassed fault w = (fault ≡ NoMemory) ⊎ HasPassed w
