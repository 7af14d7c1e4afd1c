use Rattle.std.proofs.Common.{◌≡◌, ◌+◌, ℕ, vec_len}
use Rattle.ap_books.specs.Holdings.{HasParts, sum_of}
use Rattle.ap_shards.specs.Pages.{HasPages}
use Rattle.apd_run.specs.Returning.{AreWritten}
use Rattle.apd_run.specs.Work.{Work}
use Rattle.apd_run.proofs.access.returned.Returned.take_all_back.Given as goal

-- so many workers came back
abbrev pub invariant-loop-number : goal.invariant-loop-number
invariant-loop-number g l =
    record {
      many : vec_len l.workers + l.number ≡ vec_len l.initial.workers;
      parts : (n : ℕ) → HasParts n l.initial.self.hoard.value → HasParts (n + l.number) l.self.hoard.value;
      pages : (n : ℕ) → HasPages n l.initial.self.pages.value → HasPages (n + l.number) l.self.pages.value;
      counted : sum_of l.self.hoard.value ≡ sum_of l.initial.self.hoard.value;
      written : (w : Work) (all : ℕ) → w.batches ≡ l.initial.self.register → w.loads.loads ≡ l.initial.loads.loads → AreWritten all w 0 l.initial.self.pages.value → AreWritten all w l.number l.self.pages.value;
      register : l.self.register ≡ l.initial.self.register;
      loads : l.loads ≡ l.initial.loads;
    }
