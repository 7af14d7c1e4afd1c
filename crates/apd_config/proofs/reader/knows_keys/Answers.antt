use Rattle.toml.specs.View.{table_view}
use Rattle.apd_config.specs.Meaning.{is_key}
use Rattle.apd_config.proofs.TableKeys.{keys_known, key_unknown}
use Rattle.apd_config.proofs.reader.knows_keys.Goals as goal

pub returns-in-None-clause-known : goal.returns-in-None-clause-known
returns-in-None-clause-known c = keys_known is_key _ (table_view c.args.table.now) c.unknown_key.ensures.is c.in-None.is

pub returns-in_ok-key-in-Some-clause-fault : goal.returns-in_ok-key-in-Some-clause-fault
returns-in_ok-key-in-Some-clause-fault c = key_unknown is_key _ (table_view c.args.table.now) _ _ c.unknown_key.ensures.is c.in-Some.is c.in_ok-key-in-Some.ensures.cases
