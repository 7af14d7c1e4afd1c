-- A token that has seen more.
use Rattle.std.proofs.Common.{◌≡◌, List, subst, sym}
use mathlib.Core.List.{IsPrefix}
use Rattle.ap_model.specs.Readings.{Rules}
use Rattle.ap_model.specs.Runs.{Entry}
use Rattle.ap_books.specs.Counts.{Portion}
use Rattle.ap_locked.specs.Accounts.{Account}
use Rattle.ap_locked.specs.Pages.{Page, entries_of, first_page}
use Rattle.ap_locked.specs.Tokens.{AreHandled, EndsWith, IsToken, Token}
use Rattle.ap_locked.proofs.Among.{among_prefix}
use Rattle.ap_locked.proofs.Signing.{entries_prefix}

-- a token's parts of the ledgers, its own entries, and its page with what it has seen
abbrev pub token_of : Portion → List Entry → Account → Token
token_of p own a = record { portion = p; seen = entries_of a.seen; own = own; page = first_page a.pages }

pub sees_more : (rs : Rules) (p : Portion) (own : List Entry) (was now : Account) → IsPrefix was.seen now.seen → now.pages ≡ was.pages
    → AreHandled rs (entries_of now.seen) → IsToken rs (token_of p own was) → IsToken rs (token_of p own now)
sees_more rs p own was now more pages handled is =
    record {
      some = is.some;
      handled = handled;
      among = among_prefix (entries_prefix was.seen now.seen more) is.among;
      counted = is.counted;
      on_page = subst (λ (ps : List Page). EndsWith (first_page ps).made own) (sym pages) is.on_page;
    }
