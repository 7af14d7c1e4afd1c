use Rattle.toml.proofs.Views.{table_get}
use Rattle.apd_config.proofs.tables.value_at.Goals as goal

pub returns : goal.returns
returns c = record { is = table_get c.get.result c.args.key.now c.args.table.now.entries c.get.ensures.value }
