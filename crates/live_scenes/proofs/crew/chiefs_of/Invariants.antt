use Rattle.std.proofs.Common.{◌≡◌, ◌+◌, ◌≤◌, vec_len, vec_capacity}
use Rattle.std.specs.List.{All}
use Rattle.live_scenes.specs.Rights.{IsChiefBoxed}
use Rattle.live_scenes.proofs.crew.chiefs_of.Given as goal

-- the remaining tokens, and capacity for them
abbrev pub invariant-tokens : goal.invariant-tokens
invariant-tokens g l =
    record {
      own : All (IsChiefBoxed l.ap) l.tokens.items;
      many : vec_len l.chiefs + vec_len l.tokens ≡ vec_len l.fn.tokens;
      room : vec_len l.fn.tokens ≤ vec_capacity l.chiefs;
    }

abbrev pub decreases-tokens : goal.decreases-tokens
decreases-tokens g l = vec_len l.tokens
