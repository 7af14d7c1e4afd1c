use Rattle.std.proofs.Common.{◌≡◌, ◌+◌, vec_len}
use Rattle.std.specs.List.{All}
use Rattle.bpf_helpers.specs.Hooked.{shapes_of}
use Rattle.ap_queues.specs.Lines.{HaveMade}
use Rattle.ap_live.specs.Counting.{counted_by}
use Rattle.ap_shards.specs.Pages.{pages_of}
use Rattle.ap_live.specs.Tokens.{AreLeft, IsWorker}
use Rattle.apd_run.specs.Dealing.{AreNumberedFrom, IsNewWorker}
use Rattle.apd_run.proofs.access.tokens.hire.Given as goal

abbrev pub invariant-loop-number : goal.invariant-loop-number
invariant-loop-number g l =
    record {
      left : AreLeft l.ap l.left;
      unmade : HaveMade 0 l.left.passes;
      all : l.ap.stock.workers ≡ l.count;
      own : All (IsWorker l.ap) l.tokens.items;
      new_workers : All IsNewWorker l.tokens.items;
      numbered : AreNumberedFrom 0 l.tokens.items;
      many : vec_len l.tokens ≡ l.number;
      parts : l.left.parts + vec_len l.tokens ≡ l.initial.left.parts;
      counted : counted_by l.left.shards ≡ counted_by l.initial.left.shards;
      pages : pages_of l.left.shards ≡ pages_of l.initial.left.shards;
      list : l.ap.list ≡ l.initial.ap.list;
      queues : l.ap.queues ≡ l.initial.ap.queues;
      maps : shapes_of l.ap.stock.maps ≡ shapes_of l.initial.ap.stock.maps;
    }
