use Rattle.capture.proofs.Written.{reads_back}
use Rattle.capture.proofs.write.written_law.Goals as goal

pub returns : goal.returns
returns c = record { read = reads_back }
