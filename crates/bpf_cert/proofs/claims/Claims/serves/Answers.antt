use Rattle.std.proofs.Common.{◌≡◌, ◌<◌, List, length, get_or, rules, arith, sym, subst}
use Rattle.bpf_cert.specs.declared.claim.Claim.{Claim}
use Rattle.bpf_cert.proofs.claims.Claims.serves.Goals as goal

pub returns-clause-is : goal.returns-clause-is
returns-clause-is g c = λ told.
    let held = c.index-held.result.now in
    let list = c.self.view_is in (
      c.args.place,
      held,
      subst (λ (xs : List Claim). c.args.place < length xs) list (omega (arith, c.self.inside.list.ok.0, c.len.ensures, c.if-place-len.false)),
      subst (λ (xs : List Claim). get_or xs c.args.place held ≡ held) list (sym c.index-held.ensures),
      search rules,
    )
