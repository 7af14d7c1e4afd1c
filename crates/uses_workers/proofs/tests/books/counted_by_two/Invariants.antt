use Rattle.ap_books.specs.Naming.{name_at}
use Rattle.uses_workers.proofs.tests.books.counted_by_two.Given as goal

abbrev pub ghosts-counted : goal.ghosts-counted
ghosts-counted a = record { name_of = λ shard. name_at a.blanks; shares = 2 }
