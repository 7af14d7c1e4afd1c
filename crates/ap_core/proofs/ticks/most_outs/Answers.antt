use Rattle.std.proofs.Common.{ℕ, ◌-◌, ◌^◌, min, ap, ◌∙◌, arith}
use Rattle.std.specs.Prelude.{count_by}
use Rattle.ap_agreements.specs.Tables.{Kept, is_late, late_held}
use Rattle.ap_core.proofs.ticks.most_outs.Goals as goal

pub returns : goal.returns
returns c =
    let held = c.late_held-held.ensures ∙ ap (λ (n : ℕ). min (late_held n c.args.state.now.agreements.kept) (2 ^ 64 - 1)) c.clock_after-clock.ensures in
    let many = c.late.ensures ∙ ap (λ (n : ℕ). count_by (λ (k : Kept). is_late n k.using) c.args.state.now.agreements.kept) c.clock_after-clock.ensures in
    omega (arith, held, many, c.saturating_add.ensures)
