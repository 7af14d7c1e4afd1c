use Rattle.std.proofs.Common.{◌≡◌, ◌+◌, ◌≤◌, vec_len, vec_capacity}
use Rattle.std.specs.List.{All}
use Rattle.ap_live.specs.Tokens.{AreLeft}
use Rattle.live_scenes.specs.Rights.{IsChiefBoxed}
use Rattle.live_scenes.proofs.crew.hire_operators.Given as goal

abbrev pub invariant-loop-hired : goal.invariant-loop-hired
invariant-loop-hired g l =
    record {
      left : AreLeft l.ap l.left;
      own : All (IsChiefBoxed l.ap) l.tokens.items;
      many : vec_len l.tokens ≡ l._hired;
      room : l.count ≤ vec_capacity l.tokens;
      parts : l.left.parts + l._hired ≡ l.initial.left.parts;
      workers : l.ap.stock.workers ≡ l.initial.ap.stock.workers;
    }
