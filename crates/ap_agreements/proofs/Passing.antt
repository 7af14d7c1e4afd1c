-- What an agreement passes up at data, by its window.
use Rattle.std.proofs.Common.{◌≡◌, ℕ, true, Option, sym, ap, subst, ◌∙◌}
use Rattle.blockack.specs.Reading.{Reading, DataMovesWindow, DataMarksScoreboard}
use Rattle.blockack.specs.Sinks.{DataPassesTo}
use Rattle.ap_model.specs.Readings.{Using, Held}
use Rattle.ap_agreements.specs.Uses.{PassingUse}

pub passing_use : {S : Type 0} (R : S → ℕ → Held → S → Type 0) (number : ℕ) (item : Option Held) (clock : ℕ) (old new : Using) (sink sink2 : S) (w w2 : Reading Held) (n : ℕ) →
    n ≡ number → w ≡ old.window → w2 ≡ new.window → new.timeout ≡ old.timeout → new.last_use ≡ clock →
    w2.size ≡ w.size → DataPassesTo R n item w w2 sink sink2 → DataMarksScoreboard n w w2 → PassingUse R number item clock old new sink sink2
passing_use R number item clock old new sink sink2 w w2 n is e f timeout last_use size p marks =
    let moves_of : ℕ → Type 0 = λ k. DataMovesWindow true k item w w2 p.passed in
    let marks_of : ℕ → Type 0 = λ k. DataMarksScoreboard k w w2 in
    let before : Reading Held → Type 0 = λ v. DataMovesWindow true number item v w2 p.passed in
    let after : Reading Held → Type 0 = λ v. DataMovesWindow true number item old.window v p.passed in
    let marks_before : Reading Held → Type 0 = λ v. DataMarksScoreboard number v w2 in
    let marks_after : Reading Held → Type 0 = λ v. DataMarksScoreboard number old.window v in
    record {
      passed = p.passed;
      uses = record {
        size = sym (ap (λ (v : Reading Held). v.size) f) ∙ size ∙ ap (λ (v : Reading Held). v.size) e;
        moves = subst after f (subst before e (subst moves_of is p.moves));
        marks = subst marks_after f (subst marks_before e (subst marks_of is marks));
        timeout = timeout;
        last_use = last_use;
      };
      received = p.received;
    }
