use Rattle.std.proofs.Common.{◌∙◌}
use Rattle.clap.specs.Matches.{found_of}
use Rattle.clap.proofs.WalkLemmas.{first_value-rows}
use Rattle.apd_words.proofs.requests.value.Goals as goal

pub returns : goal.returns
returns c = record { is = c.get_str.ensures ∙ first_value-rows (found_of c.args.matches.now) c.args.name.now }
