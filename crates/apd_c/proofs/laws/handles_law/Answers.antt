use Rattle.apd_c.proofs.Sent.{handle_sent}
use Rattle.apd_c.proofs.laws.handles_law.Goals as goal

pub returns : goal.returns
returns c = handle_sent
