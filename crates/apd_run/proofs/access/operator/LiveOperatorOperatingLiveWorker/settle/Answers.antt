use Rattle.apd_run.proofs.Deciding.{took_still}
use Rattle.apd_run.proofs.Served.{collects_after, collects_seen, knew_before, low_before, told_after, took_met, whole_after}
use Rattle.apd_run.proofs.access.operator.LiveOperatorOperatingLiveWorker.settle.Goals as goal

pub exchange-requires : goal.exchange-requires
exchange-requires g c = record { took = took_met _ _ _ _ _ c.meet.ensures.meets c.meet_at_loads.ensures.same c.meet.ensures.same c.in_ok-meet_at_queue.ensures.took }

pub tell-requires-clause-whole : goal.tell-requires-clause-whole
tell-requires-clause-whole g c =
    let h = c.in_ok-handled.ensures in
    whole_after _ _ _ _ _ _ _ _ h.crew h.same h.number (took_met _ _ _ _ _ c.meet.ensures.meets c.meet_at_loads.ensures.same c.meet.ensures.same c.in_ok-meet_at_queue.ensures.took) h.accounts

pub returns : goal.returns
returns g c =
    let h = c.in_ok-handled.ensures in
    let t = c.in_ok-tell.ensures in
    record {
      collects = collects_after _ _ _ _ _ c.meet_at_queue.ensures.same
          (collects_seen _ _ _ _ _ _ _ _ _ _ c.meet_at_loads.ensures.same h.number (took_still _ _ _ c.meet.ensures.same c.in_ok-meet_at_queue.ensures.took) c.meet.ensures.works c.meet.ensures.meets c.meet_at_loads.ensures.seen.has_all
          (low_before _ _ _ _ _ h.crew h.same t.below) (knew_before _ _ _ _ _ _ _ h.crew h.same t.agrees h.told) h.accounts (told_after _ _ _ _ _ _ h.crew h.same t.crew) c.in_ok-report_all.ensures);
    }
