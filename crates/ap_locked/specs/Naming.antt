-- New shards and their names.
use Rattle.std.specs.Prelude.{◌≡◌, ◌==◌, ℕ, if◌then◌else◌}
use Rattle.logbook.specs.Pages.{Book}
use Rattle.ap_books.specs.Naming.{AreInParts, AreNamed, name_at}
use Rattle.ap_locked.specs.declared.names.NewShard.{NewShard}
use Rattle.ap_locked.specs.declared.pages.NewLedgers.{NewLedgers}

-- they are for this many pages
pub record AreForPages (count : ℕ) (n : NewLedgers) : Type 0 where
  pub made : n.made.parts ≡ count
  pub marks : n.marks.parts ≡ count
  pub count_is : n.count ≡ count

-- these are their names, after those of the five counts
pub record AreNamedPages (names : ℕ → ℕ) (n : NewLedgers) : Type 0 where
  pub made : n.made.name ≡ names 5
  pub marks : n.marks.name ≡ names 6

-- the names of all ledgers of a shard
abbrev pub ledger_names : NewShard → ℕ → ℕ
ledger_names n k = if k == 5 then n.pages.made.name else (if k == 6 then n.pages.marks.name else name_at n.blanks k)

-- its ledgers have these names and this many parts, and this is its journal
pub record IsNamed (names : ℕ → ℕ) (parts : ℕ) (journal : Book) (n : NewShard) : Type 0 where
  pub named : AreNamed names n.blanks
  pub parted : AreInParts parts n.blanks
  pub named_pages : AreNamedPages names n.pages
  pub for_pages : AreForPages parts n.pages
  pub journal_is : n.journal ≡ journal
