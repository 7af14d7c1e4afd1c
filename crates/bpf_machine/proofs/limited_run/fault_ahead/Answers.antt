use Rattle.bpf_machine.proofs.Going.{tells_fault, tells_done, tells_on}
use Rattle.bpf_machine.proofs.limited_run.fault_ahead.Goals as goal

pub returns-in-Faulted : goal.returns-in-Faulted
returns-in-Faulted c = record { is = tells_fault _ _ _ _ _ _ _ _ c.in-Faulted.ensures.performs }

pub returns-in-On : goal.returns-in-On
returns-in-On c = record { is = tells_on _ _ _ _ _ _ _ _ c.in-On.ensures.performs }

pub returns-in-Finished : goal.returns-in-Finished
returns-in-Finished c = record { is = tells_done _ _ _ _ _ _ _ _ c.in-Finished.ensures.performs }
