-- Tokens of all shards.
use Rattle.std.specs.Prelude.{◌≡◌, ◌+◌, ◌<◌, []}
use Rattle.ap_model.specs.Readings.{Config}
use Rattle.ap_books.specs.Holdings.{Holding}
use Rattle.ap_locked.specs.Tokens.{CountJournal, Token, IsToken, KeepsOwn, newcomer, rules}

-- a token of each shard
pub record Eight : Type 0 where
  pub of0 : Token
  pub of1 : Token
  pub of2 : Token
  pub of3 : Token
  pub of4 : Token
  pub of5 : Token
  pub of6 : Token
  pub of7 : Token

-- their parts of the ledgers, with what they have counted
abbrev pub holding_of : Eight → Holding
holding_of e =
    record {
      of0 = e.of0.portion;
      of1 = e.of1.portion;
      of2 = e.of2.portion;
      of3 = e.of3.portion;
      of4 = e.of4.portion;
      of5 = e.of5.portion;
      of6 = e.of6.portion;
      of7 = e.of7.portion;
    }

-- P holds of them, shard by shard
abbrev pub EachOf : (Token → Token → Type 0) → Eight → Eight → Type 0
EachOf P a b =
    P a.of0 b.of0 × P a.of1 b.of1 × P a.of2 b.of2 × P a.of3 b.of3
    × P a.of4 b.of4 × P a.of5 b.of5 × P a.of6 b.of6 × P a.of7 b.of7

-- more than one part of each ledger
abbrev pub HasMoreThanOne : Eight → Type 0
HasMoreThanOne e = EachOf (λ t u. 1 < t.portion.parts) e e

-- one part of each ledger, for one who has seen as much, has no entries, and writes on an empty page
abbrev pub IsNewcomer : Eight → Eight → Type 0
IsNewcomer a b = EachOf (λ t u. u ≡ newcomer 1 t.seen (record { mark = u.page.mark; made = [] })) a b

-- the token gave one part away, and nothing else changed
pub record GaveOne (t u : Token) : Type 0 where
  pub parts : u.portion.parts + 1 ≡ t.portion.parts
  pub counts : u.portion.counts ≡ t.portion.counts
  pub seen : u.seen ≡ t.seen
  pub own : u.own ≡ t.own
  pub page : u.page ≡ t.page

-- one part of each was given away
abbrev pub HasGivenOne : Eight → Eight → Type 0
HasGivenOne a b = EachOf GaveOne a b

-- what holds of each shard's token, under this configuration
abbrev pub AreTokens : Config → Eight → Type 0
AreTokens config e =
    IsToken (rules 0 config) e.of0 × IsToken (rules 1 config) e.of1
    × IsToken (rules 2 config) e.of2 × IsToken (rules 3 config) e.of3
    × IsToken (rules 4 config) e.of4 × IsToken (rules 5 config) e.of5
    × IsToken (rules 6 config) e.of6 × IsToken (rules 7 config) e.of7

-- parts of the ledgers of all shards that have counted exactly the shards' journals, under this configuration
abbrev pub CountJournals : Config → Holding → Type 0
CountJournals config h =
    CountJournal (rules 0 config) h.of0 × CountJournal (rules 1 config) h.of1
    × CountJournal (rules 2 config) h.of2 × CountJournal (rules 3 config) h.of3
    × CountJournal (rules 4 config) h.of4 × CountJournal (rules 5 config) h.of5
    × CountJournal (rules 6 config) h.of6 × CountJournal (rules 7 config) h.of7

-- they may have seen more; nothing else changed
abbrev pub KeepOwn : Eight → Eight → Type 0
KeepOwn a b = EachOf KeepsOwn a b

-- both have seen the same of each journal
abbrev pub HaveSeenAlike : Eight → Eight → Type 0
HaveSeenAlike a b = EachOf (λ t u. t.seen ≡ u.seen) a b
