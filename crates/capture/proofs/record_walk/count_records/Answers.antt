use Rattle.std.proofs.Common.{◌≡◌, ◌∷◌, [], ◌++◌, drop, length, length-append, arith}
use Rattle.std.proofs.lemmas.Bool.Decides.{nat_tests}
use Rattle.capture.specs.Packets.{seen_of}
use Rattle.capture.proofs.Records.{BeginWith-push}
use Rattle.capture.proofs.Stepping.{AreRecords-read}
use Rattle.capture.proofs.record_walk.count_records.Goals as goal

pub loop-rest-preserved : goal.loop-rest-preserved
loop-rest-preserved c =
    let i = c.loop-rest.invariant in
    let packet = seen_of c.in-Some._packet in
    let first = c.in-Some.ensures.first in
    record {
      header = i.header;
      few = omega (arith, i.few, c.in-Some.ensures.shorter);
      packets = i.packets ++ packet ∷ [];
      records = BeginWith-push c.in_ok-form.form (drop 24 c.args.file.now) i.packets c.loop-rest.rest.now packet c.in-Some.after.now i.records first.0 first.1;
      many = omega (arith, i.many, length-append i.packets (packet ∷ []));
    }

pub returns-clause-packets : goal.returns-clause-packets
returns-clause-packets c =
    let i = c.loop-rest.invariant in
    let none : length c.loop-rest.rest.now ≡ 0 = grind (arith, nat_tests) in
    AreRecords-read c.args.file.now c.in_ok-form.form i.packets c.loop-rest.rest.now c.loop-rest.count i.header i.records none i.many
