use Rattle.std.proofs.Common.{◌≡◌, Some, sym, subst, arith}
use Rattle.std.specs.Prelude.{IfSome, Option}
use Rattle.ap_queues.specs.declared.queue.WorkerPass.{WorkerPass}
use Rattle.ap_queues.specs.Passes.{IsNewWorkerOf}
use Rattle.ap_rows.proofs.Standing.{found, there_too}
use Rattle.ap_queues.proofs.lines.lines.EventLines.worker.Goals as goal

pub returns-in-Some-clause-own : goal.returns-in-Some-clause-own
returns-in-Some-clause-own c q there =
    let was : c.index_mut.result.now ≡ Some c.in-Some.pass = sym c.in-Some.ensures.value in
    (subst (λ (o : Option WorkerPass). IfSome o (IsNewWorkerOf q)) was
    (c.requires.own.workers.each c.args.worker q c.index_mut.result.now there (found c.args.left.now.workers.items c.args.worker c.index_mut.result.now (omega (arith, c.requires.own.workers.as_many)) c.index_mut.ensures.value))).own

pub returns-in-Some-clause-untaken : goal.returns-in-Some-clause-untaken
returns-in-Some-clause-untaken c =
    let was : c.index_mut.result.now ≡ Some c.in-Some.pass = sym c.in-Some.ensures.value in
    let here = found c.args.left.now.workers.items c.args.worker c.index_mut.result.now (omega (arith, c.requires.own.workers.as_many)) c.index_mut.ensures.value in
    let queue = there_too c.args.self.now c.args.left.now.workers.items c.args.worker c.index_mut.result.now c.requires.own.workers.as_many here in
    (subst (λ (o : Option WorkerPass). IfSome o (IsNewWorkerOf queue.0)) was (c.requires.own.workers.each c.args.worker queue.0 c.index_mut.result.now queue.1 here)).nothing
