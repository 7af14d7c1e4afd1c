use Rattle.std.proofs.Common.{rules}
use Rattle.apd_config.proofs.Faultless.{only_this}
use Rattle.apd_config.proofs.reader.read_configuration.Goals as goal

pub returns-in-Ok-table_from_str-clause-only : goal.returns-in-Ok-table_from_str-clause-only
returns-in-Ok-table_from_str-clause-only c = only_this c.from_table.result c.args.text.now (search rules) (search rules)
