use Rattle.std.proofs.Common.{◌≡◌, ℕ, List, Option, Some, None, sym, rules}
use Rattle.std.specs.Prelude.{IsSome}
use Rattle.bpf_insn.specs.declared.fields.Fields.{Fields}
use Rattle.bpf_insn.specs.Spelled.{second_of, second_slot_of, IsSecond}
use Rattle.bpf_insn.proofs.Slotted.{spelled_again, one_spelled}
use Rattle.bpf_insn.proofs.laws.slots_law.Goals as goal

pub returns-clause-again : goal.returns-clause-again
returns-clause-again c = spelled_again

pub returns-clause-first : goal.returns-clause-first
returns-clause-first c = λ a b i s. sym s.first_slot

second_is : (o : Option Fields) (b : Option (List ℕ)) → IsSecond o b → IsSome o → second_slot_of o ≡ b
second_is None b h some = absurd (search rules)
second_is (Some f) b h some = sym h

pub returns-clause-second : goal.returns-clause-second
returns-clause-second c = λ a b i s some. second_is (second_of i) b s.second_slot some

pub returns-clause-one : goal.returns-clause-one
returns-clause-one c = one_spelled
