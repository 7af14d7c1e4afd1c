-- What a worker decides with.
use Rattle.std.specs.Prelude.{ℕ, List}
use Rattle.ap_model.specs.Asks.{Ask}
use Rattle.ap_model.specs.Readings.{Readings}
use Rattle.hook_judge.specs.Counted.{Counted}
use Rattle.ap_shards.specs.declared.desk.Desk.{Desk}
use Rattle.ap_shards.specs.Judged.{JudgedBy}

-- the programs of the entered set gave the verdicts, over the worker's tables
abbrev pub ByDesk : Desk → Counted → Counted → Readings → List (Ask × ℕ) → Type 0
ByDesk d h h2 r asked = JudgedBy d.maps.now d.worker d.set.now.loads h h2 r asked
