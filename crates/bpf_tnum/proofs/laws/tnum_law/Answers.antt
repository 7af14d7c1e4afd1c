use Rattle.bpf_tnum.proofs.Low.{full_contains, single_contains, mul_contains, shl_contains, shr_contains, cut_contains}
use Rattle.bpf_tnum.proofs.Meet.{meet_contains, included_contains}
use Rattle.bpf_tnum.proofs.Sound.{add_contains, sub_contains, and_contains, or_contains, xor_contains}
use Rattle.bpf_tnum.proofs.laws.tnum_law.Goals as goal

pub returns : goal.returns
returns c = record {
  full = full_contains;
  single = single_contains;
  add = add_contains;
  sub = sub_contains;
  and = and_contains;
  or = or_contains;
  xor = xor_contains;
  mul = mul_contains;
  shl = λ k a x h. shl_contains a k x h;
  shr = λ k a x h. shr_contains a k x h;
  cut = λ w within a x h. cut_contains a w x within h;
  meet = meet_contains;
  included = included_contains;
}
