use Rattle.std.proofs.Common.{◌≡◌, ◌%◌, ◌<◌, length, arith, rules}
use Rattle.blockack.proofs.MoveLaws.{held_free, held_put}
use Rattle.blockack.proofs.ring.Ring.put.Goals as goal

pub overflow_add-self : goal.overflow_add-self
overflow_add-self g c =
    let len : length c.args.self.now.slots ≡ 64 = search rules in
    let lt : c.args.number % 64 < length c.args.self.now.slots = omega (arith, len) in
    omega (arith, len, held_free c.args.self.now.slots (c.args.number % 64) lt c.requires.free, c.requires.held)

pub returns-clause-held : goal.returns-clause-held
returns-clause-held g c =
    let len : length c.args.self.now.slots ≡ 64 = search rules in
    let lt : c.args.number % 64 < length c.args.self.now.slots = omega (arith, len) in
    omega (arith, held_put c.args.self.now.slots (c.args.number % 64) c.args.item lt c.requires.free, c.requires.held)

pub returns-clause-more : goal.returns-clause-more
returns-clause-more g c =
    let len : length c.args.self.now.slots ≡ 64 = search rules in
    let lt : c.args.number % 64 < length c.args.self.now.slots = omega (arith, len) in
    held_put c.args.self.now.slots (c.args.number % 64) c.args.item lt c.requires.free
