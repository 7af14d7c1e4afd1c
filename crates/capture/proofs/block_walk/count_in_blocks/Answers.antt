use Rattle.std.proofs.Common.{◌≡◌, ◌⊎◌, ◌<◌, ◌+◌, length, rules, sym, ap, arith}
use Rattle.std.specs.Option.{option_map, option_to_list}
use Rattle.std.specs.Result.{IfErr}
use Rattle.std.proofs.lemmas.Bool.Decides.{nat_tests}
use Rattle.std.proofs.lemmas.Result.{IfErr-weaker}
use Rattle.std.specs.declared.option.Option.{Option}
use Rattle.capture.specs.declared.fault.CaptureFault.TheVariants.{NoMemory}
use Rattle.capture.specs.declared.packet.Packet.{Packet}
use Rattle.capture.specs.Packets.{seen_of}
use Rattle.capture.specs.Sections.{IsFaulty}
use Rattle.capture.specs.Walking.{section_of, place_in}
use Rattle.capture.proofs.Stepping.{IsReached-begun, goes_on, refused_at, AreInBlocks-read}
use Rattle.capture.proofs.block_walk.count_in_blocks.Goals as goal

pub loop-walk-init : goal.loop-walk-init
loop-walk-init c =
    let b = c.new-walk.ensures.begun in
    record {
      few = omega (arith, ap length b.rest);
      within = omega (arith, ap length b.rest, b.size);
      enough = omega (arith, ap length b.rest, b.most);
      reached = IsReached-begun c.args.file.now c.new-walk.result b;
    }

pub returns-in_err-_packet-clause-fault : goal.returns-in_err-_packet-clause-fault
returns-in_err-_packet-clause-fault c =
    let w = c.loop-walk.walk in
    let some : 0 < length w.rest.now = grind (arith, nat_tests) in
    let bad : IfErr c.from_residual.result (λ e. (e ≡ NoMemory) ⊎ IsFaulty (place_in w) (section_of w.section) w.rest.now e) = search rules in
    IfErr-weaker c.from_residual.result _ _ (λ e h. refused_at c.args.file.now w c.loop-walk.count e c.loop-walk.invariant.reached some h) bad

pub loop-walk-smaller-in-Some : goal.loop-walk-smaller-in-Some
loop-walk-smaller-in-Some c = c.in_ok-_packet.ensures.ok.shorter

pub loop-walk-preserved-in-Some : goal.loop-walk-preserved-in-Some
loop-walk-preserved-in-Some c =
    let i = c.loop-walk.invariant in
    let passed = c.in_ok-_packet.ensures.ok in
    let some : 0 < length c.loop-walk.walk.rest.now = omega (arith, passed.shorter) in
    record {
      few = omega (arith, i.few, passed.shorter);
      within = omega (arith, i.within, passed.shorter, passed.size);
      enough = passed.enough;
      reached = goes_on c.args.file.now c.loop-walk.walk c.step.new.self c.in_ok-_packet.field-0 c.loop-walk.count (c.loop-walk.count + 1) i.reached some passed
          (ap (λ (o : Option Packet). c.loop-walk.count + length (option_to_list (option_map seen_of o))) (sym c.in-Some.is));
    }

pub loop-walk-smaller : goal.loop-walk-smaller
loop-walk-smaller c = c.in_ok-_packet.ensures.ok.shorter

pub loop-walk-preserved : goal.loop-walk-preserved
loop-walk-preserved c =
    let i = c.loop-walk.invariant in
    let passed = c.in_ok-_packet.ensures.ok in
    let some : 0 < length c.loop-walk.walk.rest.now = omega (arith, passed.shorter) in
    let none : length (option_to_list (option_map seen_of c.in_ok-_packet.field-0)) ≡ 0 = ap (λ (o : Option Packet). length (option_to_list (option_map seen_of o))) c.in_default.is in
    record {
      few = omega (arith, i.few, passed.shorter);
      within = omega (arith, i.within, passed.shorter, passed.size);
      enough = passed.enough;
      reached = goes_on c.args.file.now c.loop-walk.walk c.step.new.self c.in_ok-_packet.field-0 c.loop-walk.count c.loop-walk.count i.reached some passed (omega (arith, none));
    }

pub returns-clause-packets : goal.returns-clause-packets
returns-clause-packets c =
    let none : length c.loop-walk.walk.rest.now ≡ 0 = grind (arith, nat_tests) in
    AreInBlocks-read c.args.file.now c.loop-walk.walk c.loop-walk.count c.loop-walk.invariant.reached none
