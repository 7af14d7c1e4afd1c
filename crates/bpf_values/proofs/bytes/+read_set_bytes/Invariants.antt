use Rattle.bpf_values.proofs.bytes.+read_set_bytes.Given as goal

abbrev pub decreases-read_set_bytes : goal.decreases-read_set_bytes
decreases-read_set_bytes l = l.count
