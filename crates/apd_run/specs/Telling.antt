-- Reports on the events that a worker served.
use Rattle.std.specs.Prelude.{ℕ, Bool, true, false, List, [], ◌∷◌, ◌++◌, Option, Some, None}
use Rattle.ap_shards.specs.declared.fate.Fate.{Fate}
use Rattle.ap_shards.specs.declared.fate.Fate.TheVariants.{Decided, Refused, NotHandled}
use Rattle.ap_live.specs.declared.tagged.Tagged.{Tagged}
use Rattle.ap_model.specs.declared.event.Event.{Event}
use Rattle.ap_model.specs.declared.event.Event.TheVariants.{Frame}
use Rattle.apd_driver.specs.Notices.{dropped_of}
use Rattle.apd_driver.specs.declared.reports.notice.Dropped.{Dropped}
use Rattle.apd_run.specs.Reports.{Report, Told, Handled, Memory}

-- the octets of a received frame; none of another event
abbrev pub octets_of : Event → List ℕ
octets_of (Frame octets) = octets
octets_of _ = []

-- the data of an event, if a verdict dropped it
abbrev pub dropped_in : Event → Bool → Option Dropped
dropped_in event true = Some (dropped_of (octets_of event))
dropped_in event false = None

-- no report on an event that was not handled
abbrev pub told_of : Event → Fate → Option Told
told_of event (Decided outs dropped) = Some (Handled outs (dropped_in event dropped))
told_of event Refused = Some Memory
told_of event NotHandled = None

-- a report on a line and a shard, if there is one
abbrev pub report_if : ℕ → ℕ → Option Told → List Report
report_if line shard None = []
report_if line shard (Some told) = record { line = line; shard = shard; told = told } ∷ []

-- the report on an event, whose call is its line's number
abbrev pub reports_of : Tagged → List Report
reports_of t = report_if t.item.call t.item.shard (told_of t.item.event t.fate)

-- the reports on all of these, in order
abbrev pub reports_in : List Tagged → List Report
reports_in [] = []
reports_in (t ∷ ts) = reports_of t ++ reports_in ts
