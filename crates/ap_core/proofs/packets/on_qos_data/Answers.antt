use Rattle.std.proofs.Common.{◌≡◌, ℕ, List, Option, None, sym, subst}
use Rattle.std.specs.Prelude.{IsSomeAnd}
use Rattle.assoc.specs.Standings.{standing}
use Rattle.blockack.specs.Reading.{IsWanted}
use Rattle.ap_model.specs.Readings.{Using}
use Rattle.ap_model.specs.Agreements.{agreement_for}
use Rattle.ap_agreements.specs.Tables.{agreement_in, Stands}
use Rattle.ap_core.specs.Handles.{reading}
use Rattle.ap_core.specs.DataFrames.{packet}
use Rattle.ap_core.proofs.Handling.{silently_told}
use Rattle.ap_core.proofs.DataLaws.{left_from}
use Rattle.ap_core.proofs.packets.on_qos_data.Goals as goal

pub on_plain_data-requires-clause-plain : goal.on_plain_data-requires-clause-plain
on_plain_data-requires-clause-plain g c =
    subst (λ (t : Option ℕ). agreement_for (reading c.args.state.now) c.args.came.frame.sender t ≡ None) (sym c.requires.tid)
    (subst (λ (a : List ℕ). agreement_in c.args.state.now.agreements.kept a c.args.tid ≡ None) c.sender-station.ensures c.in-None.ensures)

pub on_data_alone-requires-clause-under : goal.on_data_alone-requires-clause-under
on_data_alone-requires-clause-under g c =
    record {
      tid = c.requires.tid;
      kept = c.in-Some.entry.now;
      stands = subst (λ (a : List ℕ). Stands c.args.state.now.agreements.kept a c.args.tid c.in-Some.at c.in-Some.entry.now) c.sender-station.ensures c.in-Some.ensures;
      starts = c.start-start.ensures;
      is = c.passes_alone.ensures.0 c.if-passes_alone.true;
    }

pub on_wanted_data-requires-clause-under : goal.on_wanted_data-requires-clause-under
on_wanted_data-requires-clause-under g c =
    record {
      tid = c.requires.tid;
      kept = c.in-Some.entry.now;
      stands = subst (λ (a : List ℕ). Stands c.args.state.now.agreements.kept a c.args.tid c.in-Some.at c.in-Some.entry.now) c.sender-station.ensures c.in-Some.ensures;
      starts = c.start-start.ensures;
      is = record { wanted = c.wants.ensures.0 c.if-wants.true; bound = sym c.most_passed-most.ensures };
    }

pub leave-requires-clause-inside : goal.leave-requires-clause-inside
leave-requires-clause-inside g c = c.in-Some.ensures.place.inside

pub leave-requires-clause-unwanted : goal.leave-requires-clause-unwanted
leave-requires-clause-unwanted g c = λ d w. let v = rw (c.in-Some.ensures.is d) at w in let t = c.wants.ensures.1 v in let f = c.if-wants.false in cc

pub returns-else-wants-clause-step : goal.returns-else-wants-clause-step
returns-else-wants-clause-step g c =
    silently_told g.J.Judge.gives _ _ _
    (left_from (standing c.args.state.now.link) c.args.state.now.agreements.kept c.leave.new.self.kept c.args.state.now.clock (packet c.args.came)
    c.sender-station.result c.sender-station.ensures c.args.tid c.requires.tid
    (subst (λ (o : Option Using). IsSomeAnd o (λ u. IsWanted u.window c.args.came.number → ⊥)) (sym c.in-Some.ensures.agreed)
    (λ w. let t = c.wants.ensures.1 w in let f = c.if-wants.false in cc))
    c.new.result.items (c.leave.ensures c.sender-station.result c.args.tid c.in-Some.ensures.place) c.new.ensures.items)
