-- New shards and their names.
use Rattle.std.specs.Prelude.{◌≡◌, ◌-◌, ℕ, ◌==◌, [], if◌then◌else◌}
use Rattle.logbook.specs.Pages.{Book}
use Rattle.ap_books.specs.Naming.{AreInParts}
use Rattle.ap_locked.specs.Accounts.{Account}
use Rattle.ap_locked.specs.Naming.{AreForPages, IsNamed, ledger_names}
use Rattle.ap_locked.specs.Pages.{new_page, new_pages}
use Rattle.ap_locked.specs.declared.names.NewShard.{NewShard}
use Rattle.ap_locked.specs.Tokens.{Token, newcomer}
use Rattle.ap_shards.specs.Tokens.{Eight}
use Rattle.ap_shards.specs.declared.new_shards.NewShards.{NewShards}

-- the ledgers of each shard have these names and this many parts, and these are the journals
pub record AreNamed (names : ℕ → ℕ → ℕ) (parts : ℕ) (journals : ℕ → Book) (n : NewShards) : Type 0 where
  pub of0 : IsNamed (names 0) parts (journals 0) n.of0
  pub of1 : IsNamed (names 1) parts (journals 1) n.of1
  pub of2 : IsNamed (names 2) parts (journals 2) n.of2
  pub of3 : IsNamed (names 3) parts (journals 3) n.of3
  pub of4 : IsNamed (names 4) parts (journals 4) n.of4
  pub of5 : IsNamed (names 5) parts (journals 5) n.of5
  pub of6 : IsNamed (names 6) parts (journals 6) n.of6
  pub of7 : IsNamed (names 7) parts (journals 7) n.of7

-- a shard's ledgers are divided into this many parts, and there are as many pages of its journal
pub record IsParted (parts : ℕ) (n : NewShard) : Type 0 where
  pub blanks : AreInParts parts n.blanks
  pub pages : AreForPages parts n.pages

-- the same for each shard
pub record AreParted (parts : ℕ) (n : NewShards) : Type 0 where
  pub of0 : IsParted parts n.of0
  pub of1 : IsParted parts n.of1
  pub of2 : IsParted parts n.of2
  pub of3 : IsParted parts n.of3
  pub of4 : IsParted parts n.of4
  pub of5 : IsParted parts n.of5
  pub of6 : IsParted parts n.of6
  pub of7 : IsParted parts n.of7

-- a token with all parts of the ledgers, which has seen nothing, and the first page; and all other pages
pub record IsWholeAt (parts : ℕ) (t : Token) (others : Account) : Type 0 where
  pub token : t ≡ newcomer parts [] (new_page (parts - 1))
  pub pages : others.pages ≡ new_pages (parts - 1)

-- all parts of each ledger, which have counted nothing, nothing seen of the journals, and the first page of each
abbrev pub whole : ℕ → Eight
whole parts =
    let all = newcomer parts [] (new_page (parts - 1)) in
    record { of0 = all; of1 = all; of2 = all; of3 = all; of4 = all; of5 = all; of6 = all; of7 = all }

-- what the shard of that number begins with
abbrev pub new_at : NewShards → ℕ → NewShard
new_at n shard =
    if shard == 0 then n.of0 else (if shard == 1 then n.of1 else (if shard == 2 then n.of2 else (if shard == 3 then n.of3 else
    (if shard == 4 then n.of4 else (if shard == 5 then n.of5 else (if shard == 6 then n.of6 else n.of7))))))

-- the names of its ledgers, by count
abbrev pub names_of : NewShards → ℕ → ℕ → ℕ
names_of n shard = ledger_names (new_at n shard)

-- its journal
abbrev pub journals_of : NewShards → ℕ → Book
journals_of n shard = (new_at n shard).journal
