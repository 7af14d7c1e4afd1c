use Rattle.std.proofs.Common.{refl}
use Rattle.versions.proofs.Tying.{enters}
use Rattle.versions.proofs.reader.Reader.enter.Goals as goal

pub enter_as-requires : goal.enter_as-requires
enter_as-requires g c x = enters _ _ x x refl
