use Rattle.std.proofs.Common.{◌∙◌, sym, arith}
use Rattle.blockack.proofs.SlotLaws.{none_counted}
use Rattle.blockack.proofs.MoveLaws.{ring_none}
use Rattle.blockack.proofs.ReadingLaws.{held_seen}
use Rattle.blockack.proofs.agreement.Agreement.open.Goals as goal

pub invariant_of-result : goal.invariant_of-result
invariant_of-result g c = (
  record {
    long = c.new-ring.ensures.long;
    start_fits = c.requires.start_fits;
    some_size = c.requires.some_size;
    size_fits = c.requires.size_fits;
    front = ring_none c.new-ring.result.slots c.args.start 0 c.new-ring.ensures.slots;
    past = λ i h. ring_none c.new-ring.result.slots c.args.start i c.new-ring.ensures.slots;
  },
  c.new.ensures.sound,
  c.new-ring.ensures.count ∙ sym (none_counted c.new-ring.result.slots c.new-ring.ensures.slots),
)

pub returns-clause-window : goal.returns-clause-window
returns-clause-window g c =
    record {
      residue = omega arith;
      held = λ i. sym (held_seen c.new-ring.result.slots c.args.start c.args.size c.new.result i ∙ ring_none c.new-ring.result.slots c.args.start i c.new-ring.ensures.slots);
    }
