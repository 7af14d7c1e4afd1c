use Rattle.std.proofs.lemmas.Result.{err_from_is_err_and}
use Rattle.bpf_absstate.proofs.Pointers.{held-set, held-same}
use Rattle.bpf_absstate.proofs.registers.Values.set.Goals as goal

pub returns-clause-ok : goal.returns-clause-ok
returns-clause-ok c = held-set _ _ _ _ _ c.self.view_is c.in_ok-write.ensures.ok

pub returns-in_err-write-clause-err : goal.returns-in_err-write-clause-err
returns-in_err-write-clause-err c =
    let p = err_from_is_err_and c.from_residual.result c.from_residual.ensures.1 in
    rw p.1 (held-same _ _ _ _ _ c.self.view_is c.in_err-write.ensures.err)
