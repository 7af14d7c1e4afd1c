-- Known bytes that stay.
use Rattle.std.proofs.Common.{List, ℕ, Option, Some, None, refl}
use Rattle.std.specs.Io.KnownBytes.{Keeps}

pub Keeps-same : (o : Option (List ℕ)) → Keeps o o
Keeps-same None = tt
Keeps-same (Some xs) = refl
