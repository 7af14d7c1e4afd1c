use Rattle.std.proofs.Common.{rules, map, sym, ◌∙◌}
use Rattle.std.proofs.lemmas.List.{length-map}
use Rattle.bpf_line.proofs.Many.{said-six, said-many}
use Rattle.bpf_line.proofs.lines.read_words.Goals as goal

pub returns-else-are_commas-clause-is : goal.returns-else-are_commas-clause-is
returns-else-are_commas-clause-is c = said-six c.args.words.now _ c.in-len6.len_at_least c.in-len6.len_below (sym c.is_load_of.ensures.is ∙ c.if-is_load_of.false) (sym c.are_commas.ensures.is ∙ c.if-are_commas.false)

pub returns-in-len7-up : goal.returns-in-len7-up
returns-in-len7-up c = search (rules, said-many (map (λ w. w.now) c.args.words.now), length-map)
