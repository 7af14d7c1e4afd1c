use Rattle.std.proofs.Common.{◌≡◌, ◌++◌, take, drop}
use Rattle.bpf_cert.proofs.states.put_values.Given as goal

abbrev pub invariant-loop-number : goal.invariant-loop-number
invariant-loop-number l = l.state ≡ record l.fn.state { registers = take l.number l.values ++ drop l.number l.fn.state.registers }
