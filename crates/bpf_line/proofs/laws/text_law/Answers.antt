use Rattle.bpf_line.proofs.Again.{line_said-text, text_of-one_line}
use Rattle.bpf_line.proofs.laws.text_law.Goals as goal

pub returns : goal.returns
returns c = record { again = line_said-text; one_line = λ i k h. text_of-one_line i h k }
