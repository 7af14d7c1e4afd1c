use Rattle.std.proofs.Common.{◌≡◌, ◌∙◌, List, refl, sym, subst, ap}
use Rattle.std.proofs.lemmas.Result.{IfOk-weaker}
use Rattle.bpf_decode.specs.Program.{Code}
use Rattle.bpf_helpers.specs.Hooked.{IsFitting}
use Rattle.bpf_helpers.specs.Tables.{Tables}
use Rattle.capture.specs.Walks.{packets_in}
use Rattle.apd_eval.specs.Metered.{Metered}
use Rattle.bpf_machine.specs.Verified.{Verified}
use Rattle.apd_eval.specs.Profile.{is_json}
use Rattle.apd_eval.specs.Again.{frame_at}
use Rattle.apd_eval.specs.Evaluated.{judged_by}
use Rattle.apd_eval.specs.Sums.{Judged, Totals, totals_in, totals_of, totals_text, with_row}
use Rattle.apd_eval.specs.declared.tally.Tally.{Tally}
use Rattle.apd_eval.proofs.Profiled.{profile_of, same_program}
use Rattle.apd_eval.proofs.Rows.{is_alone}
use Rattle.apd_eval.proofs.Tabling.{course_is}
use Rattle.apd_eval.proofs.Totals.{all_totals}
use Rattle.apd_eval.proofs.profile.profiled.Goals as goal

pub follow-requires : goal.follow-requires
follow-requires c =
    let fresh = c.requires.fresh.1 in
    let alone = is_alone _ c.requires.fresh.0 fresh.hook_is fresh.programs in
    let fitting = subst (λ (m : Metered). IsFitting c.maps.result.now 0 m.held.seats) (sym c.new-meter.ensures.is)
    (subst (λ (maps : List Tables). IsFitting maps 0 c.args.tested.state.seats) (sym c.maps.ensures.is) c.args.tested.fitting) in
    let none = ap (λ (t : Totals). t.rows) c.none-tally.ensures.is in
    λ k. ((refl, tt), (alone, (fitting, none)))

pub returns-in-Some : goal.returns-in-Some
returns-in-Some c = record {
  profile = λ v fresh.
      let course = c.args.course in
      let config = course.replay.link.now in
      let packets = packets_in course.replay.recording.bytes.now in
      let handed = c.in_ok-follow.ensures.rows in
      let same = same_program course.hook _ v _ c.in-Some.accepted fresh.hook_is fresh.programs c.in-Some.is c.program.ensures.is in
      let drawn = ap (λ (m : Metered). m.held.draw) c.new-meter.ensures.is in
      let zeros = ap (λ (m : Metered). m.counts) c.new-meter.ensures.is ∙ fresh.zeros in
      let slots = ap (λ (p : Code). p.slots) (c.program-in-Some.ensures.is ∙ ap (λ (w : Verified). w.code) same) in
      let counted : totals_in c.follow.new.sink ≡ totals_of handed.rows =
      all_totals (λ (s : Tally) row frame (t : Tally). totals_in t ≡ with_row (totals_in s) row) totals_in (λ s row frame t h. h) (frame_at packets) handed.rows c.none-tally.result c.follow.new.sink c.none-tally.ensures.is handed.taken in
      let judged = course_is v config packets _ _ fresh.hook_is fresh.budget_is in
      let sums =
      ap (λ (j : Judged). totals_text j (totals_in c.follow.new.sink) (is_json c.args.form)) judged ∙ ap (λ (t : Totals). totals_text (judged_by v config packets) t (is_json c.args.form)) counted in
      IfOk-weaker c.formed.result _ _ (λ text h. profile_of v c.args.tested.state.draw config packets c.args.form _ c.new-meter.result c.follow.new.state handed.rows _ _ _ _
      fresh.hook_is fresh.programs drawn zeros handed.followed slots c.counts.ensures.is sums h) c.formed.ensures.is;
}
