use Rattle.std.proofs.Common.{rules, ◌≡◌, Option, Some, sym, subst}
use Rattle.apd_c.specs.declared.handle.Content.{Content}
use Rattle.apd_c.specs.Held.{held}
use Rattle.apd_c.specs.Lending.{with_content}
use Rattle.apd_c.specs.Words.{Operates}
use Rattle.apd_c.proofs.words.access_at.Goals as goal

pub returns-in-Some : goal.returns-in-Some
returns-in-Some c =
    let before : held c.args.maps.now ≡ Some c.in-Some.content.now = search rules in
    let after : held (with_content c.args.maps.now c.access_in.new.content) ≡ Some c.access_in.new.content = search rules in
    subst (λ (o : Option Content). Operates o c.args.map c.args.word c.args.operation c.access_in.result (held (with_content c.args.maps.now c.access_in.new.content))) (sym before)
    (subst (λ (o : Option Content). Operates (Some c.in-Some.content.now) c.args.map c.args.word c.args.operation c.access_in.result o) (sym after) c.access_in.ensures)
