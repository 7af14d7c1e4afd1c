use Rattle.std.proofs.Common.{◌≡◌, ◌+◌, ◌≤◌, vec_len, vec_capacity}
use Rattle.std.specs.List.{All}
use Rattle.ap_live.specs.Tokens.{IsWorker}
use Rattle.apd_run.specs.Dealing.{AreNumberedFrom, IsNewWorker}
use Rattle.apd_run.proofs.access.run.ready_workers.Given as goal

-- there is a ready worker for each token that is gone, and room for the others
abbrev pub invariant-tokens : goal.invariant-tokens
invariant-tokens g l =
    record {
      own : All (IsWorker l.ap) l.tokens.items;
      new_workers : All IsNewWorker l.tokens.items;
      numbered : AreNumberedFrom 0 l.tokens.items;
      many : vec_len l.ready + vec_len l.tokens ≡ vec_len l.fn.tokens;
      room : vec_len l.fn.tokens ≤ vec_capacity l.ready;
    }

abbrev pub decreases-tokens : goal.decreases-tokens
decreases-tokens g l = vec_len l.tokens
