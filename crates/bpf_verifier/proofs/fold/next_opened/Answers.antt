use Rattle.std.proofs.Common.{◌≡◌, sym, subst}
use Rattle.bpf_verifier.specs.Traced.{IsOpened, OpensWith}
use Rattle.bpf_verifier.proofs.fold.next_opened.Goals as goal

pub led-requires : goal.led-requires
led-requires c = record { leads = (c.requires.opens.0, c.requires.opens.1) }

pub reopened-requires : goal.reopened-requires
reopened-requires c =
    let h = c.requires.opens in
    let own : c.in_ok-own.own ≡ h.0 = c.in_ok-own.ensures.is h.0 h.1 in
    record { opens = subst (OpensWith c.args.program.now c.args.outline) (sym own) h.2 }

pub returns-clause-is : goal.returns-clause-is
returns-clause-is c = λ own f child leads opens e.
    let same : c.in_ok-own.own ≡ own = c.in_ok-own.ensures.is own leads in
    c.in_ok-opened.ensures.is f child (subst (λ x. IsOpened c.args.program.now f x child) (sym same) opens) e
