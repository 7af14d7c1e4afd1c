use Rattle.std.proofs.Common.{◌≡◌, ◌≢◌, ◌≤◌, ◌<◌, ◌∙◌, length, drop, sym, rules, arith}
use Rattle.std.proofs.lemmas.Bool.Decides.{nat_tests}
use Rattle.std.proofs.lemmas.Grind.{common_steps}
use Rattle.capture.specs.Fields.{number_at}
use Rattle.capture.specs.Interfaces.{padded}
use Rattle.capture.proofs.Options.{few, next, ends, cut, found, wrong}
use Rattle.capture.proofs.interface.resolution_in.Goals as goal

pub returns-then-code-eq0 : goal.returns-then-code-eq0
returns-then-code-eq0 c =
    let long : 4 ≤ length c.loop-rest.rest.now = grind (arith, nat_tests) in
    let code : number_at c.args.endian 2 0 c.loop-rest.rest.now ≡ 0 = grind (arith, nat_tests) in
    record { is = sym (c.loop-rest.invariant ∙ ends c.args.endian c.loop-rest.rest.now long code) }

pub returns-then-values-padded : goal.returns-then-values-padded
returns-then-values-padded c =
    let long : 4 ≤ length c.loop-rest.rest.now = grind (arith, nat_tests) in
    let code : number_at c.args.endian 2 0 c.loop-rest.rest.now ≢ 0 = grind (arith, nat_tests) in
    let short : length (drop 4 c.loop-rest.rest.now) < padded (number_at c.args.endian 2 2 c.loop-rest.rest.now) = grind (arith, nat_tests, common_steps) in
    record { is = sym (c.loop-rest.invariant ∙ cut c.args.endian c.loop-rest.rest.now long code short) }

pub returns-then-count-eq1 : goal.returns-then-count-eq1
returns-then-count-eq1 c =
    let long : 4 ≤ length c.loop-rest.rest.now = grind (arith, nat_tests) in
    let code : number_at c.args.endian 2 0 c.loop-rest.rest.now ≡ 9 = grind (arith, nat_tests) in
    let whole : padded (number_at c.args.endian 2 2 c.loop-rest.rest.now) ≤ length (drop 4 c.loop-rest.rest.now) = grind (arith, nat_tests, common_steps) in
    let one : number_at c.args.endian 2 2 c.loop-rest.rest.now ≡ 1 = grind (arith, nat_tests) in
    record { is = sym (c.loop-rest.invariant ∙ found c.args.endian c.loop-rest.rest.now long code whole one) }

pub returns-else-count-eq1 : goal.returns-else-count-eq1
returns-else-count-eq1 c =
    let long : 4 ≤ length c.loop-rest.rest.now = grind (arith, nat_tests) in
    let code : number_at c.args.endian 2 0 c.loop-rest.rest.now ≡ 9 = grind (arith, nat_tests) in
    let whole : padded (number_at c.args.endian 2 2 c.loop-rest.rest.now) ≤ length (drop 4 c.loop-rest.rest.now) = grind (arith, nat_tests, common_steps) in
    let other : number_at c.args.endian 2 2 c.loop-rest.rest.now ≢ 1 = grind (arith, nat_tests) in
    record { is = sym (c.loop-rest.invariant ∙ wrong c.args.endian c.loop-rest.rest.now long code whole other) }

pub loop-rest-preserved : goal.loop-rest-preserved
loop-rest-preserved c =
    let long : 4 ≤ length c.loop-rest.rest.now = grind (arith, nat_tests) in
    let code : number_at c.args.endian 2 0 c.loop-rest.rest.now ≢ 0 = grind (arith, nat_tests) in
    let other : number_at c.args.endian 2 0 c.loop-rest.rest.now ≢ 9 = grind (arith, nat_tests) in
    let whole : padded (number_at c.args.endian 2 2 c.loop-rest.rest.now) ≤ length (drop 4 c.loop-rest.rest.now) = grind (arith, nat_tests, common_steps) in
    let follows : c.split_at-in-loop-rest.result.1.now ≡ drop (padded (number_at c.args.endian 2 2 c.loop-rest.rest.now)) (drop 4 c.loop-rest.rest.now) = search rules in
    c.loop-rest.invariant ∙ next c.args.endian c.loop-rest.rest.now _ long code whole other follows

pub returns : goal.returns
returns c =
    let short : length c.loop-rest.rest.now < 4 = grind (arith, nat_tests) in
    record { is = sym (c.loop-rest.invariant ∙ few (length c.loop-rest.rest.now) c.args.endian c.loop-rest.rest.now short) }
