use Rattle.bpf_decode.proofs.Bytes.{same_bytes, same_slots, same_code}
use Rattle.bpf_decode.proofs.encoder.spelling_law.Goals as goal

pub returns-clause-one_text : goal.returns-clause-one_text
returns-clause-one_text c = λ a b p s t. same_bytes a b p.slots s.table t.table s.well_formed.whole t.well_formed.whole

pub returns-clause-one_program : goal.returns-clause-one_program
returns-clause-one_program c = λ a p q s t e. same_code p q (same_slots a p.slots q.slots s.table t.table) e
