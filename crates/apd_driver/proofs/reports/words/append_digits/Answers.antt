use Rattle.std.proofs.Common.{◌++◌, ◌∙◌, sym, ap, length, arith}
use Rattle.std.proofs.lemmas.Bool.{eqb-true}
use Rattle.std.proofs.lemmas.List.{append_assoc, append-nil}
use Rattle.apd_driver.proofs.Digits.{in_one_piece, in_two, of_none}
use Rattle.apd_driver.proofs.reports.words.append_digits.Goals as goal

pub loop-rest-preserved : goal.loop-rest-preserved
loop-rest-preserved c =
    let two = in_two c.min.result c.loop-rest.rest.now in
    rw (c.in_ok-append_piece.ensures.ok, c.split_at.ensures.front, c.split_at.ensures.back, append_assoc, ← two) c.loop-rest.invariant

pub returns : goal.returns
returns c =
    let none = of_none c.loop-rest.rest.now (eqb-true (length c.loop-rest.rest.now) 0 (sym c.loop-rest-test.ensures)) in
    let appended = sym (append-nil c.loop-rest.text.items)
    ∙ ap (λ digits. c.loop-rest.text.items ++ digits) (sym none)
    ∙ c.loop-rest.invariant in
    record {
      ok = appended;
      octets = rw (← in_one_piece c.args.bytes.now (λ i. omega (arith, c.type_inv.bytes i))) appended;
    }
