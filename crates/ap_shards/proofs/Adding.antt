-- What a decided event adds to a token.
use Rattle.std.proofs.Common.{◌∙◌, ℕ, Bool, List, subst}
use Rattle.ap_model.specs.declared.event.Event.{Event}
use Rattle.ap_model.specs.declared.event.Out.{Out}
use Rattle.ap_model.specs.Asks.{Ask, Answered}
use Rattle.ap_model.specs.Readings.{Readings, Rules}
use Rattle.ap_model.specs.Steps.{Step}
use Rattle.ap_locked.specs.Kept.{Kept, Holds, Decided, readings_of}
use Rattle.ap_locked.specs.Tokens.{Token}
use Rattle.ap_shards.specs.Fates.{Adds}

-- for any judge and what V says of its verdicts
pub adds : {S : Type 0} {R : S → Ask → ℕ → S → Type 0} (V : Readings → List (Ask × ℕ) → Type 0) (c : Rules)
    {k : Kept} {t : Token} {event : Event} {j : S} {outs : List Out} {dropped : Bool} {k2 : Kept} {t2 : Token} {j2 : S}
    → Holds c k → Decided R k t event j outs dropped k2 t2 j2
    → ((asked : List (Ask × ℕ)) → Answered R j asked j2 → V (readings_of k) asked)
    → Adds V c t event outs dropped t2
adds V c {k} {event = event} {outs = outs} {k2 = k2} holds d judged =
    record {
      before = k.journal;
      had_seen = d.had_seen;
      readings = readings_of k;
      run = holds.run;
      asked = d.asked;
      verdicts = judged d.asked d.listed;
      after = readings_of k2;
      step = subst (λ (r : Rules). Step r (readings_of k) event d.asked outs (readings_of k2)) holds.rules d.step;
      flag = d.flag;
      seen = d.seen ∙ d.journal;
      own = d.own;
      page = d.page;
      portion = d.portion;
    }
