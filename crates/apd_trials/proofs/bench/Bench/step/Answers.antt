use Rattle.std.proofs.Common.{[], ◌∷◌, ◌++◌, refl, sym, subst}
use Rattle.apd_cases.specs.Said.{said_of}
use Rattle.apd_trials.specs.Rows.{Leads}
use Rattle.apd_trials.specs.Running.{stands}
use Rattle.apd_trials.proofs.Leading.{changes, judges, expects_nothing}
use Rattle.apd_trials.proofs.bench.Bench.step.Goals as goal

pub returns-in-Expect-clause-leads : goal.returns-in-Expect-clause-leads
returns-in-Expect-clause-leads g c = λ lines bench h.
    let files = g.F.Files.held c.args.files.now in
    subst (λ l. Leads files (lines ++ (c.args.numbered.number, said_of l) ∷ []) (stands c.row.new.self) c.push.new.self.items) (sym c.in-Expect.is)
    (judges files lines (stands c.args.self.now) (stands c.row.new.self) c.args.rows.now.items c.push.new.self.items c.args.numbered.number
    c.in-Expect.expectation c.in_ok-row-in-Expect.row h c.in_ok-row-in-Expect.ensures.same c.in_ok-push-in-Expect.ensures.items (c.in_ok-row-in-Expect.ensures.row bench))

pub returns-in_default : goal.returns-in_default
returns-in_default g c = record {
  leads = λ lines bench h.
      changes (g.F.Files.held c.args.files.now) lines (stands c.args.self.now) (stands c.follow.new.self) c.args.rows.now.items c.args.numbered.number (said_of c.args.numbered.line) h
      (expects_nothing c.args.numbered.line c.in_default.not-Expect) c.in_ok-follow-in_default.ensures.after;
  fits = λ bench. c.in_ok-follow-in_default.ensures.fits (g.F.Files.held c.args.files.now) bench;
  files = refl;
}
