-- Exchanging parts of the ledgers.
use Rattle.std.specs.Prelude.{◌≡◌, ◌<◌, []}
use Rattle.ap_books.specs.Counts.{Portion, none}
use Rattle.ap_books.specs.Holdings.{Each, Holding}
use Rattle.ap_locked.specs.Tokens.{Token}
use Rattle.ap_shards.specs.Tokens.{Eight, EachOf}

-- at least one part, which has counted nothing
pub record IsFresh (p : Portion) : Type 0 where
  pub some : 0 < p.parts
  pub nothing : p.counts ≡ none

-- the same for each ledger
abbrev pub AreFresh : Holding → Type 0
AreFresh h = Each IsFresh h

-- no entry of the token's own has come since; its page, and what it has seen, are as they were
pub record Renewed (t u : Token) : Type 0 where
  pub seen : u.seen ≡ t.seen
  pub own : u.own ≡ []
  pub page : u.page ≡ t.page

-- the same for all shards
abbrev pub AreRenewed : Eight → Eight → Type 0
AreRenewed a b = EachOf Renewed a b
