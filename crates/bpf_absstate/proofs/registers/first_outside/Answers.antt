use Rattle.std.proofs.Common.{◌∙◌, ap}
use Rattle.bpf_absstate.proofs.Pointers.{found, goes_on, ends}
use Rattle.bpf_absstate.proofs.registers.first_outside.Goals as goal

pub returns-then-not-is_included-clause-some : goal.returns-then-not-is_included-clause-some
returns-then-not-is_included-clause-some c =
    let x = c.index-a-k.result in
    let y = c.index-b-k.result in
    let differs = rw (c.deref.ensures ∙ ap (λ r. r.value) c.index-a-k.is, c.deref-in-loop-k.ensures ∙ ap (λ r. r.value) c.index-b-k.is) at c.if-not-is_included.ensures in
    found c.args.rooms.now c.args.others.now c.args.a.now c.args.b.now c.loop-k.k x y c.loop-k-test.true differs c.requires

pub loop-k-preserved : goal.loop-k-preserved
loop-k-preserved c =
    let x = c.index-a-k.result in
    let y = c.index-b-k.result in
    let found = rw (c.deref.ensures ∙ ap (λ r. r.value) c.index-a-k.is, c.deref-in-loop-k.ensures ∙ ap (λ r. r.value) c.index-b-k.is) at c.if-not-is_included.ensures in
    goes_on c.args.rooms.now c.args.others.now c.args.a.now c.args.b.now c.loop-k.k x y c.loop-k-test.true c.requires found c.loop-k.invariant

pub returns-clause-none : goal.returns-clause-none
returns-clause-none c = ends c.args.rooms.now c.args.others.now c.args.a.now c.args.b.now c.loop-k.k c.loop-k-test.false c.requires c.loop-k.invariant
