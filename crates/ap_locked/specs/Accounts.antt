-- Pages, and what ledgers say of them.
use Rattle.std.specs.Prelude.{◌≡◌, ◌^◌, ℕ, List, [], ◌∷◌, ◌++◌, length, sum_by}
use Rattle.std.specs.List.{All}
use mathlib.Core.List.{IsPrefix}
use Rattle.ap_model.specs.Runs.{Entry}
use Rattle.ap_locked.specs.Pages.{Page, Signed, first_page, signed_by}
use Rattle.ap_locked.specs.Tokens.{IsAmong}

-- pages, and a prefix of the journal
pub record Account : Type 0 where
  pub seen : List Signed
  pub pages : List Page

-- what is on the page was decided under its mark
abbrev pub IsMade : List Signed → Page → Type 0
IsMade seen p = IsAmong p.made (signed_by p.mark seen)

-- the same for all pages
abbrev pub AreMade : List Signed → List Page → Type 0
AreMade seen pages = All (IsMade seen) pages

-- its mark is a power of two
abbrev pub IsPower : Page → Type 0
IsPower p = (k : ℕ) × (p.mark ≡ 2 ^ k)

-- the same for all pages
abbrev pub ArePowers : List Page → Type 0
ArePowers pages = All IsPower pages

-- how many entries are on the page
abbrev pub size_of : Page → ℕ
size_of p = length p.made

-- a share of a ledger has one part for each page, and counts f of each
pub record Weighs (f : Page → ℕ) (parts amount : ℕ) (pages : List Page) : Type 0 where
  pub one_each : parts ≡ length pages
  pub sum : amount ≡ sum_by f pages

abbrev pub mark_of : Page → ℕ
mark_of p = p.mark

-- there is one page, and the journal that had been seen to some prefix ends with this entry of the page's mark
pub record Gains (a : Account) (e : Entry) (journal : List Signed) : Type 0 where
  pub one : a.pages ≡ first_page a.pages ∷ []
  pub before : List Signed
  pub had_seen : IsPrefix a.seen before
  pub is : journal ≡ before ++ record { mark = (first_page a.pages).mark; entry = e } ∷ []
