use Rattle.std.proofs.Common.{sym, ◌∙◌}
use Rattle.apd_files.proofs.Collected.{Adds-kept}
use Rattle.apd_files.proofs.inputs.digits.add_byte.Goals as goal

pub returns-clause-adds : goal.returns-clause-adds
returns-clause-adds c =
    Adds-kept c.keep.result c.args.most c.args.digits.now.items c.keep.new.digits.items c.args.byte (sym c.is_ascii_whitespace.ensures.value ∙ c.if-is_ascii_whitespace.false) c.requires.known c.keep.ensures.keeps c.keep.ensures.all
