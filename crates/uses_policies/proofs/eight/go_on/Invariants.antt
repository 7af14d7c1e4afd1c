use Rattle.std.proofs.Common.{◌≤◌, length, take}
use Rattle.bpf_helpers.specs.Hooked.{IsFitting}
use Rattle.ap_model.specs.AccessPoint.{InPlace}
use Rattle.ap_core.specs.AccessPoints.{outs_in, rules_of}
use Rattle.uses_policies.specs.Eight.{EventsPoliced}
use Rattle.uses_policies.proofs.eight.go_on.Given as goal

abbrev pub invariant-loop-at : goal.invariant-loop-at
invariant-loop-at l =
    record {
      policed : EventsPoliced l.policies l.fn.shards (take l.at l.events) (outs_in l.results.items) l.shards;
      place : InPlace (rules_of l.shards);
      seats : IsFitting l.policies.maps.now l.policies.worker l.state.seats;
      within : l.at ≤ length l.events;
    }
