use Rattle.std.proofs.Common.{◌≡◌, ◌++◌, ◌∷◌, [], List}
use Rattle.versions.specs.Desks.{pending}
use Rattle.versions.specs.Lists.{Beginning}
use Rattle.versions.proofs.publisher.show.Given as goal

abbrev pub invariant-loop : goal.invariant-loop
invariant-loop g l =
    ((earlier : List Beginning) × (pending l.writer ≡ earlier ++ l.fn.known ∷ []))
    × (l.writer.desk.shown.value.list ≡ l.fn.known.list)
