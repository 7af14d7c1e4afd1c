use Rattle.std.proofs.Common.{rules, tests, ◌≡◌, ◌<◌, [], length, refl, arith}
use Rattle.std.specs.String.{string_bytes}
use Rattle.std.proofs.lemmas.Bool.Decides.{nat_tests}
use Rattle.apd_text.proofs.Rawly.{starts, goes_on, ends}
use Rattle.apd_text.proofs.raw.raw_text.Goals as goal

pub loop-rest-init : goal.loop-rest-init
loop-rest-init c =
    let none : string_bytes c.new-text.result ≡ [] = search rules in
    record { far = starts _ _ _ none; within = omega arith }

pub loop-rest-preserved : goal.loop-rest-preserved
loop-rest-preserved c =
    let some : 0 < length c.loop-rest.rest.now = search (rules, tests, nat_tests) in
    let lists = c.in_ok-rest.ensures.lists in
    let shorter = lists.shorter in
    let within = c.loop-rest.invariant.within in
    record { far = goes_on _ _ _ _ _ _ _ c.loop-rest.invariant.far some refl lists; within = omega (arith, shorter, within) }

pub returns : goal.returns
returns c =
    let none : length c.loop-rest.rest.now ≡ 0 = search (rules, tests, nat_tests) in
    record { is = ends _ _ _ _ c.loop-rest.invariant.far none }
