use Rattle.std.proofs.Common.{rules}
use Rattle.bpf_line.proofs.Suffix.{is_narrow-none}
use Rattle.bpf_line.proofs.lines.base_of.Goals as goal

pub returns-in-None-clause-base : goal.returns-in-None-clause-base
returns-in-None-clause-base c = search (rules, is_narrow-none c.args.name.now)

pub returns-in-None-clause-wide : goal.returns-in-None-clause-wide
returns-in-None-clause-wide c = search (rules, is_narrow-none c.args.name.now)
