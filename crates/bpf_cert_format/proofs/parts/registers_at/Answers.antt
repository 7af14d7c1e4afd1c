use Rattle.std.proofs.Common.{◌≡◌, length, take, arith, ◌∙◌}
use Rattle.std.proofs.lemmas.List.{take_more_set, take_all, length-set}
use Rattle.bpf_absval.specs.declared.value.AbsVal.{AbsVal}
use Rattle.bpf_cert_format.specs.Reading.{many, value_at}
use Rattle.bpf_cert_format.proofs.Loops.{goes_on, ends, is_done}
use Rattle.bpf_cert_format.proofs.parts.registers_at.Goals as goal

pub returns-in-Err : goal.returns-in-Err
returns-in-Err c =
    let r = value_at c.args.maps c.args.frames in
    record { is = ends AbsVal r c.in-Err.fault (take c.loop-number.number c.loop-number.values) 10 c.loop-number.number c.loop-number.rest.now (many r 10 c.args.bytes.now) c.loop-number-test.true c.in-Err.ensures.is c.loop-number.invariant.read }

pub loop-number-preserved : goal.loop-number-preserved
loop-number-preserved c =
    let r = value_at c.args.maps c.args.frames in
    let i = c.loop-number.number in
    let all : length c.loop-number.values ≡ 10 = c.loop-number.invariant.all in
    let e = take_more_set c.loop-number.values i c.in-Ok.value (omega (arith, all, c.loop-number-test.true)) in
    record {
      read = rw e (goes_on AbsVal r (take i c.loop-number.values) 10 i c.loop-number.rest.now c.in-Ok.value c.in-Ok.after.now (many r 10 c.args.bytes.now) c.loop-number-test.true c.in-Ok.ensures.is c.loop-number.invariant.read);
      all = length-set c.loop-number.values i c.in-Ok.value ∙ all;
    }

pub returns : goal.returns
returns c =
    let r = value_at c.args.maps c.args.frames in
    let i = c.loop-number.number in
    let all : length c.loop-number.values ≡ 10 = c.loop-number.invariant.all in
    let e = take_all i c.loop-number.values (omega (arith, all, c.loop-number-test.false)) in
    record { is = rw (c.new.ensures.is, ← e) (is_done AbsVal r (take i c.loop-number.values) 10 i c.loop-number.rest.now (many r 10 c.args.bytes.now) c.loop-number-test.false c.loop-number.invariant.read) }
