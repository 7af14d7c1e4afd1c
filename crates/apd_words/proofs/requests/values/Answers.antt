use Rattle.std.proofs.Common.{◌∙◌}
use Rattle.clap.specs.Matches.{found_of}
use Rattle.clap.proofs.WalkLemmas.{raw_values-rows}
use Rattle.apd_words.proofs.requests.values.Goals as goal

pub returns : goal.returns
returns c = record { is = c.get_raw.ensures ∙ raw_values-rows (found_of c.args.matches.now) c.args.name.now }
