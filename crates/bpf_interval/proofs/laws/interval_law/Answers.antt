use Rattle.bpf_interval.proofs.Sound as unsigned
use Rattle.bpf_interval.proofs.SoundSigned as signed
use Rattle.bpf_interval.proofs.laws.interval_law.Goals as goal

pub returns : goal.returns
returns c = record {
  add = unsigned.add_contains;
  sub = unsigned.sub_contains;
  and = unsigned.and_contains;
  or = unsigned.or_contains;
  mul = unsigned.mul_contains;
  div = unsigned.div_contains;
  rem = unsigned.rem_contains;
  shl = unsigned.shl_contains;
  shr = unsigned.shr_contains;
  cut = unsigned.cut_contains;
  width = unsigned.width_contains;
  meet = unsigned.meet_contains;
  greater = unsigned.greater_keeps;
  at_most = unsigned.at_most_keeps;
  without = unsigned.without_keeps;
  included = unsigned.included_contains;
  place_orders = signed.places_order;
  place_twice = signed.place_twice;
  signed_reads = signed.signed_reads;
  signed_add = signed.add_contains;
  signed_sub = signed.sub_contains;
  signed_sar = signed.sar_contains;
  signed_div = signed.div_contains;
  signed_rem = signed.rem_contains;
  extension = signed.extension_contains;
  extension_kept = signed.extension_keeps;
  narrow_signed = signed.signed_narrow_keeps;
  narrow_unsigned = signed.unsigned_narrow_keeps;
}
