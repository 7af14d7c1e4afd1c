use Rattle.std.proofs.Common.{◌≡◌, ◌+◌, ◌≤◌, vec_len, vec_capacity}
use Rattle.std.specs.List.{All}
use Rattle.live_scenes.specs.Rights.{IsHandBoxed}
use Rattle.live_scenes.proofs.crew.hands_of.Given as goal

-- the remaining tokens, and capacity for them
abbrev pub invariant-tokens : goal.invariant-tokens
invariant-tokens g l =
    record {
      own : All (IsHandBoxed l.ap) l.tokens.items;
      many : vec_len l.hands + vec_len l.tokens ≡ vec_len l.fn.tokens;
      room : vec_len l.fn.tokens ≤ vec_capacity l.hands;
    }

abbrev pub decreases-tokens : goal.decreases-tokens
decreases-tokens g l = vec_len l.tokens
