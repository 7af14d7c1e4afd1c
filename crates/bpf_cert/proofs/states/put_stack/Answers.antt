use Rattle.bpf_cert.proofs.Filling.{stack_none, known_more}
use Rattle.bpf_cert.proofs.states.put_stack.Goals as goal

pub loop-one-init : goal.loop-one-init
loop-one-init c = stack_none c.args.state.now c.args.k c.requires.unset

pub loop-one-preserved : goal.loop-one-preserved
loop-one-preserved c =
    known_more c.args.state.now c.loop-one.state c.set_slot.new.self c.args.k c.loop-one.one-index c.args.known.now c.one-item.result c.requires.lives c.loop-one-test.true c.one-item.is c.loop-one.invariant c.in_ok-set_slot.ensures.ok
