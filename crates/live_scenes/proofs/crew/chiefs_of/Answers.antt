use Rattle.std.proofs.Common.{Some, arith}
use Rattle.std.proofs.lemmas.List.Elements.{All-pop}
use Rattle.live_scenes.specs.Rights.{IsChiefBoxed}
use Rattle.live_scenes.proofs.crew.chiefs_of.Goals as goal

pub invariant_of-push_reserved : goal.invariant_of-push_reserved
invariant_of-push_reserved g c =
    record { is_chief = (All-pop (IsChiefBoxed c.args.ap.now) c.tokens.tokens.items c.pop.new.self.items (Some c.in-Some.token) c.in-Some.ensures.items c.tokens.invariant.own).1 }

pub tokens-preserved : goal.tokens-preserved
tokens-preserved g c =
    record {
      own = (All-pop (IsChiefBoxed c.args.ap.now) c.tokens.tokens.items c.pop.new.self.items (Some c.in-Some.token) c.in-Some.ensures.items c.tokens.invariant.own).0;
      many = omega (arith, c.push_reserved.ensures.len, c.in-Some.ensures.len, c.tokens.invariant.many);
      room = omega (arith, c.push_reserved.ensures.capacity, c.tokens.invariant.room);
    }
