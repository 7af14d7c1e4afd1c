use Rattle.bpf_absnum.proofs.Branches.{branch_keeps}
use Rattle.bpf_absnum.proofs.Inclusion.{included_keeps}
use Rattle.bpf_absnum.proofs.Instructions.{cut_keeps, alu_keeps, negated_keeps, extended_keeps, ordered_keeps, within_keeps, loaded_keeps, loaded_signed_keeps}
use Rattle.bpf_absnum.proofs.Rows.{full_keeps, single_keeps}
use Rattle.bpf_absnum.proofs.Tighten.{tighten_gives}
use Rattle.bpf_absnum.proofs.number.laws.number_law.Goals as goal

pub returns : goal.returns
returns c = record {
  full = full_keeps;
  single = single_keeps;
  cut = cut_keeps;
  alu = alu_keeps;
  negated = negated_keeps;
  extended = extended_keeps;
  ordered = ordered_keeps;
  within = within_keeps;
  loaded = loaded_keeps;
  loaded_signed = loaded_signed_keeps;
  branch = branch_keeps;
  tighten = λ a x h. tighten_gives a.range a.signed a.bits x h.within h.reads h.known;
  included = included_keeps;
}
