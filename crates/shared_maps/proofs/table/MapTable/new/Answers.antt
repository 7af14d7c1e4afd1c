use Rattle.std.proofs.Common.{rules}
use Rattle.shared_maps.proofs.Views.{opens}
use Rattle.shared_maps.proofs.table.MapTable.new.Goals as goal

pub of_words-requires : goal.of_words-requires
of_words-requires c = opens c.args.shape c.as_slice.result.now (search rules)
