use Rattle.std.proofs.Common.{◌≡◌, vec_len}
use Rattle.std.specs.List.{All}
use Rattle.versions.specs.Desks.{IsTied}
use Rattle.versions.proofs.new_publisher.fill.Given as goal

abbrev pub invariant-loop : goal.invariant-loop
invariant-loop l =
    IsTied l.writer l.fn.known × All (λ reader. reader ≡ l.fn.known) l.readers.items × (vec_len l.readers ≡ l.counter)
