use Rattle.std.proofs.Common.{◌∙◌, ap}
use Rattle.bpf_absval.specs.Marked.{seen}
use Rattle.bpf_absval.specs.Unlabelled.{bare}
use Rattle.bpf_absval.proofs.Marking.{seen_none}
use Rattle.bpf_absstate.specs.Shared.{held_by}
use Rattle.bpf_absstate.proofs.registers.Kept.of.Goals as goal

pub returns : goal.returns
returns c = record { is = ap (λ m. seen bare m 0 (held_by c.args.values)) c.none.ensures ∙ seen_none bare 0 (held_by c.args.values) }
