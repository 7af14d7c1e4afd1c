use Rattle.std.proofs.Common.{arith, rules}
use Rattle.bpf_cert_format.specs.Views.{EntryView}
use Rattle.bpf_cert_format.specs.Reading.{many, entry_at}
use Rattle.bpf_cert_format.proofs.Loops.{goes_on, ends, is_done}
use Rattle.bpf_cert_format.proofs.Places.{all_last, entry_behind, stands_there}
use Rattle.bpf_cert_format.proofs.reader.leaf_list_at.Goals as goal

pub loop-init : goal.loop-init
loop-init c = record { read = search rules; last = all_last c.args.bytes.now }

pub leaf-requires : goal.leaf-requires
leaf-requires c = record {
  there = stands_there c.in_ok-text.text.value c.args.maps c.args.bytes.now c.loop.rest.now c.in-Ok.after.now c.in-Ok.entry c.in_ok-text.ensures.is c.loop.invariant.last c.in-Ok.ensures.is;
}

pub returns-in-Err : goal.returns-in-Err
returns-in-Err c =
    let r = entry_at c.args.maps in
    record { is = ends EntryView r c.in-Err.fault c.loop.list.items c.args.count c.loop.counter c.loop.rest.now (many r c.args.count c.args.bytes.now) c.loop-test.true c.in-Err.ensures.is c.loop.invariant.read }

pub loop-preserved : goal.loop-preserved
loop-preserved c =
    let r = entry_at c.args.maps in
    record {
      read = rw (c.in_ok-push-in-Ok.ensures.items, c.in_ok-one-in-Ok.ensures.is) (goes_on EntryView r c.loop.list.items c.args.count c.loop.counter c.loop.rest.now c.in-Ok.entry c.in-Ok.after.now (many r c.args.count c.args.bytes.now) c.loop-test.true c.in-Ok.ensures.is c.loop.invariant.read);
      last = entry_behind c.args.maps c.args.bytes.now c.loop.rest.now c.in-Ok.after.now c.in-Ok.entry (λ i. omega (arith, c.type_inv.bytes i)) c.loop.invariant.last c.in-Ok.ensures.is;
    }

pub returns : goal.returns
returns c =
    let r = entry_at c.args.maps in
    record { is = is_done EntryView r c.loop.list.items c.args.count c.loop.counter c.loop.rest.now (many r c.args.count c.args.bytes.now) c.loop-test.false c.loop.invariant.read }
