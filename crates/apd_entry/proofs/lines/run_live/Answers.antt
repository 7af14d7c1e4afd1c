use Rattle.std.proofs.Common.{inl, inr, refl, ◌∙◌}
use Rattle.apd_words.specs.Asked.{text_of}
use Rattle.apd_run.specs.NewRuns.{NotConfigured}
use Rattle.apd_entry.proofs.Formed.{runs_formed, runs_unformed}
use Rattle.apd_entry.proofs.Recorded.{in_form, not_few}
use Rattle.apd_entry.proofs.lines.run_live.Goals as goal

pub returns-in_default : goal.returns-in_default
returns-in_default g c =
    record { runs = runs_unformed (g.F.Files.held c.args.files.now) c.args.asked.states c.args.asked.work c.args.asked.config.now c.args.streams.shown c.args.asked.strict (text_of c.args.asked.events) (text_of c.args.asked.color) (g.O.Write.contents c.args.streams.out) _ c.in_default.ensures.is (inl (c.complain.ensures.is ∙ c.unformed.ensures.status)); keeps = λ few. absurd (not_few _ (inl (c.complain.ensures.is ∙ c.unformed.ensures.status)) few) }

pub returns-in-Ok : goal.returns-in-Ok
returns-in-Ok g c =
    record { runs = runs_formed (g.F.Files.held c.args.files.now) c.args.asked.states c.args.asked.work c.args.asked.config.now c.args.streams.shown c.args.asked.strict c.in-Some.form (text_of c.args.asked.events) (text_of c.args.asked.color) _ _ _ c.in-Some.ensures.is (rw c.within-limits.ensures.is at (rw c.words_of-words.ensures.manner at (rw c.words_of-words.ensures.config at c.live-in-Ok.ensures.runs))); keeps = λ few. in_form _ c.in-Some.form _ _ _ _ _ c.in-Some.ensures.is (rw c.words_of-words.ensures.manner at (c.live-in-Ok.ensures.keeps few)) }

pub returns-in-Err : goal.returns-in-Err
returns-in-Err g c =
    record { runs = runs_formed (g.F.Files.held c.args.files.now) c.args.asked.states c.args.asked.work c.args.asked.config.now c.args.streams.shown c.args.asked.strict c.in-Some.form (text_of c.args.asked.events) (text_of c.args.asked.color) (g.O.Write.contents c.args.streams.out) (g.O.Write.contents c.args.streams.out) _ c.in-Some.ensures.is (NotConfigured _ refl (inr c.complain-in-Err.ensures.is)); keeps = λ few. absurd (not_few _ (inr c.complain-in-Err.ensures.is) few) }
