use Rattle.std.proofs.Common.{rules, map, take}
use Rattle.std.proofs.lemmas.List.{length-map}
use Rattle.bpf_line.proofs.Many.{said_or_blank-fault}
use Rattle.bpf_line.proofs.read.read_line.Goals as goal

pub returns-in-Err : goal.returns-in-Err
returns-in-Err c =
    let ws = map (λ w. w.now) (take c.in-Some.count c.cut_words.new.cut) in
    search (rules, said_or_blank-fault ws c.in-Err.fault, length-map)
