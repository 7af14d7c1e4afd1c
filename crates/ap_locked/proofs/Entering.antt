-- One more entry: what a lock guards, and what a token has.
use Rattle.std.proofs.Common.{◌≡◌, ℕ, List, [], ◌∷◌, ◌++◌, drop, length, ap, sym, subst, ◌∙◌}
use Rattle.std.proofs.Math.Seq.{drop-append_seam}
use mathlib.Core.List.{IsPrefix}
use Rattle.ap_model.specs.Asks.{Ask, Answered}
use Rattle.ap_model.specs.Readings.{Rules}
use Rattle.ap_model.specs.Runs.{Entry, Handles, rests, goes_on}
use Rattle.ap_model.proofs.Appending.{run_append}
use Rattle.ap_laws.specs.Asking.{ListsAsks}
use Rattle.ap_core.specs.declared.shard.Shard.{Shard}
use Rattle.ap_core.specs.Shards.{reads, ruled}
use Rattle.ap_books.specs.Counts.{plus, gains, entry_counts}
use Rattle.ap_books.proofs.Entries.{counts_in-one}
use Rattle.ap_locked.specs.Kept.{Kept, Holds, rules_of, readings_of}
use Rattle.ap_locked.specs.Tokens.{AreHandled, IsToken, Token}
use Rattle.ap_locked.specs.Pages.{on_page}
use Rattle.ap_locked.proofs.Among.{among_prefix, among_one}
use Rattle.ap_locked.proofs.Signing.{ends_one}

-- what the lock guards after an entry
abbrev pub kept_with : Kept → Shard → Entry → Kept
kept_with k s2 e = record { shard = s2; journal = k.journal ++ e ∷ []; counts = plus k.counts (entry_counts e) }

-- a token after an entry of its own, at the end of this journal and of its page
abbrev pub token_with : Token → List Entry → Entry → Token
token_with t journal e = record { portion = gains t.portion (entry_counts e); seen = journal ++ e ∷ []; own = t.own ++ e ∷ []; page = on_page t.page e }

pub holds_with : (rs : Rules) (k : Kept) (s2 : Shard) (e : Entry) → Holds rs k → Handles (rules_of k) (readings_of k) e (reads s2) → ruled s2 ≡ rules_of k → Holds rs (kept_with k s2 e)
holds_with rs k s2 e h step same =
    let under : Handles rs (readings_of k) e (reads s2) = subst (λ (r : Rules). Handles r (readings_of k) e (reads s2)) h.rules step in
    record {
      rules = same ∙ h.rules;
      run = run_append rs h.run (goes_on (readings_of k) (reads s2) (reads s2) e [] under (rests (reads s2)));
      counted = ap (λ c. plus c (entry_counts e)) h.counted ∙ sym (counts_in-one k.journal e);
    }

-- the shard handled the entries of its journal
pub journal_handled : (rs : Rules) (k : Kept) → Holds rs k → AreHandled rs k.journal
journal_handled rs k h = record { readings = readings_of k; run = h.run }

pub is_token_with : (rs : Rules) (t : Token) (journal : List Entry) (e : Entry) → IsToken rs t → IsPrefix t.seen journal → AreHandled rs (journal ++ e ∷ []) → IsToken rs (token_with t journal e)
is_token_with rs t journal e is had_seen handled =
    record {
      some = is.some;
      handled = handled;
      among = among_one e (among_prefix had_seen is.among);
      counted = ap (λ c. plus c (entry_counts e)) is.counted ∙ sym (counts_in-one t.own e);
      on_page = ends_one t.page.made t.own e is.on_page;
    }

-- the queries since a snapshot are what the judge's list gained
pub asked_since : {S : Type 0} (asks : S → List (Ask × ℕ)) (R : S → Ask → ℕ → S → Type 0) → ListsAsks asks R → (before j j2 : S) (asked : List (Ask × ℕ)) → before ≡ j → Answered R j asked j2
    → drop (length (asks before)) (asks j2) ≡ asked
asked_since asks R law before j j2 asked same answered =
    ap (λ p. drop (length (asks p)) (asks j2)) same ∙ (ap (drop (length (asks j))) (law j j2 asked answered) ∙ drop-append_seam (asks j) asked)
