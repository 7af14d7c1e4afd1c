use Rattle.std.proofs.Common.{◌≡◌, ◌+◌, ◌≤◌, vec_len, vec_capacity}
use Rattle.std.specs.List.{All}
use Rattle.ap_live.specs.Lives.{KeepsLive}
use Rattle.ap_live.specs.Tokens.{AreLeft}
use Rattle.live_scenes.specs.Rights.{IsHandBoxed}
use Rattle.live_scenes.proofs.crew.hire_workers.Given as goal

abbrev pub invariant-loop-hired : goal.invariant-loop-hired
invariant-loop-hired g l =
    record {
      left : AreLeft l.ap l.left;
      all : l.ap.stock.workers ≡ l.count;
      own : All (IsHandBoxed l.ap) l.tokens.items;
      many : vec_len l.tokens ≡ l.hired;
      room : l.count ≤ vec_capacity l.tokens;
      parts : l.left.parts + l.hired ≡ l.initial.left.parts;
      keeps : KeepsLive l.initial.ap l.ap;
    }
