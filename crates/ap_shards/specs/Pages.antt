-- Pages of all shards' journals.
use Rattle.std.specs.Prelude.{◌≡◌, ℕ, List, [], ◌∷◌, ◌++◌, length}
use Rattle.ap_model.specs.Readings.{Config}
use Rattle.ap_books.specs.Holdings.{Holding}
use Rattle.ap_locked.specs.Pages.{Page, new_pages}
use Rattle.ap_locked.specs.Tokens.{AreTheJournal, rules}
use Rattle.ap_shards.specs.Tokens.{Eight}

-- pages of each shard's journal
pub record EightPages : Type 0 where
  pub of0 : List Page
  pub of1 : List Page
  pub of2 : List Page
  pub of3 : List Page
  pub of4 : List Page
  pub of5 : List Page
  pub of6 : List Page
  pub of7 : List Page

-- P holds of the pages of each shard
abbrev pub EachPages : (List Page → Type 0) → EightPages → Type 0
EachPages P a = P a.of0 × P a.of1 × P a.of2 × P a.of3 × P a.of4 × P a.of5 × P a.of6 × P a.of7

-- n pages of each
abbrev pub HasPages : ℕ → EightPages → Type 0
HasPages n a = EachPages (λ ps. length ps ≡ n) a

-- n new pages of each
abbrev pub AreNewPages : ℕ → EightPages → Type 0
AreNewPages n a = EachPages (λ ps. ps ≡ new_pages n) a

-- one page of each, which these tokens write on
abbrev pub pages_of : Eight → EightPages
pages_of e =
    record {
      of0 = e.of0.page ∷ [];
      of1 = e.of1.page ∷ [];
      of2 = e.of2.page ∷ [];
      of3 = e.of3.page ∷ [];
      of4 = e.of4.page ∷ [];
      of5 = e.of5.page ∷ [];
      of6 = e.of6.page ∷ [];
      of7 = e.of7.page ∷ [];
    }

-- those of both
abbrev pub both_pages : EightPages → EightPages → EightPages
both_pages a b =
    record {
      of0 = a.of0 ++ b.of0;
      of1 = a.of1 ++ b.of1;
      of2 = a.of2 ++ b.of2;
      of3 = a.of3 ++ b.of3;
      of4 = a.of4 ++ b.of4;
      of5 = a.of5 ++ b.of5;
      of6 = a.of6 ++ b.of6;
      of7 = a.of7 ++ b.of7;
    }

-- The pages together are the shards' journals, each entry at its own place, under this configuration, and these parts
-- of the ledgers have counted exactly those.
abbrev pub AreTheJournals : Config → Holding → EightPages → Type 0
AreTheJournals config h a =
    AreTheJournal (rules 0 config) h.of0 a.of0
    × AreTheJournal (rules 1 config) h.of1 a.of1
    × AreTheJournal (rules 2 config) h.of2 a.of2
    × AreTheJournal (rules 3 config) h.of3 a.of3
    × AreTheJournal (rules 4 config) h.of4 a.of4
    × AreTheJournal (rules 5 config) h.of5 a.of5
    × AreTheJournal (rules 6 config) h.of6 a.of6
    × AreTheJournal (rules 7 config) h.of7 a.of7
