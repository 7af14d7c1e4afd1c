use Rattle.std.proofs.lemmas.Result.{IfOk-weaker}
use Rattle.apd_words.proofs.command.command_line.Goals as goal

pub returns : goal.returns
returns c = record { is = IfOk-weaker c.with_commands.result _ _ (λ r h. h.is) c.with_commands.ensures.is }
