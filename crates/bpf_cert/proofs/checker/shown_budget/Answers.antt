use Rattle.std.proofs.Common.{subst}
use Rattle.bpf_regions.specs.Maps.{AreShapes}
use Rattle.std.specs.List.{All}
use Rattle.bpf_cert.specs.Certified.{StandsWell}
use Rattle.bpf_cert.proofs.Entries.{shows_stand, shown, shown_safe}
use Rattle.bpf_cert.proofs.Told.{told_true, told_false}
use Rattle.bpf_cert.proofs.checker.shown_budget.Goals as goal

pub returns-then-not-stand-clause-is : goal.returns-then-not-stand-clause-is
returns-then-not-stand-clause-is g c = λ b s.
    told_false c.in_ok-stand.stand (All (StandsWell c.args.program.now) c.args.entries.now) c.if-not-stand.true c.in_ok-stand.ensures.is (shows_stand c.args.program.now c.args.entries.now b s)

pub returns-clause-is : goal.returns-clause-is
returns-clause-is g c =
    let stand = told_true c.in_ok-stand.stand (All (StandsWell c.args.program.now) c.args.entries.now) c.if-not-stand.false c.in_ok-stand.ensures.is in
    shown c.args.program.now c.args.entries.now c.in_ok-claims.claims c.in_ok-budget.budget c.small.result c.in_ok-claims.ensures.is stand c.in_ok-budget.ensures.is c.small.ensures.is

pub returns-clause-safe : goal.returns-clause-safe
returns-clause-safe g c =
    shown_safe c.args.program.now c.in_ok-claims.claims c.in_ok-budget.budget c.small.result c.whole.ensures.is (subst AreShapes c.shapes.ensures.is c.whole-2.ensures.is)
    c.in_ok-claims.ensures.whole c.in_ok-budget.ensures.is c.small.ensures.is
