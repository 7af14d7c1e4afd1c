-- Consecutive segments of a script's lines.
use Rattle.std.proofs.Common.{◌≡◌, ◌+◌, ◌-◌, ◌≤◌, ℕ, List, [], ◌++◌, Option, Some, Bool, true, false, ◌||◌, length, take, drop, refl, sym, ap, subst, ◌∙◌, arith, append_assoc, append-nil}
use Rattle.std.specs.List.{slice_range}
use Rattle.std.proofs.lemmas.List.{length-append, map-append, take-append-drop, take-append-le, take_all}
use Rattle.std.proofs.lemmas.List.Folds.{drop_split}
use Rattle.std.proofs.Math.Seq.{take-add}
use Rattle.apd_script.specs.Asked.{Asked, commands_of, numbered_of}
use Rattle.apd_script.specs.declared.command.Numbered.{Numbered}
use Rattle.apd_driver.specs.Crews.{Crew}
use Rattle.apd_driver.specs.Done.{AreBegun, AreDone}
use Rattle.apd_driver.specs.Semantics.{Semantics}
use Rattle.apd_driver.specs.Shows.{Shows, ShowsOne, Then, is_over}
use Rattle.apd_driver.specs.declared.manner.Manner.{Manner}

two : (xs ys : List Numbered) → commands_of (xs ++ ys) ≡ commands_of xs ++ commands_of ys
two xs ys = map-append numbered_of xs ys

-- the first lines, and the rest
pub begun_at : (commands : List Numbered) (at : ℕ) → AreBegun (Some (commands_of commands)) (commands_of (take at commands)) []
begun_at commands at = (commands_of (drop at commands), ap commands_of (sym (take-append-drop at commands)) ∙ two (take at commands) (drop at commands), refl)

-- the first lines, and then a segment
pub taken_more : (commands : List Numbered) (start next : ℕ) → start ≤ next → commands_of (take next commands) ≡ commands_of (take start commands) ++ commands_of (slice_range commands start next)
taken_more commands start next le =
    let n : next ≡ start + (next - start) = omega arith in
    ap (λ (k : ℕ). commands_of (take k commands)) n ∙ (ap commands_of (take-add start (next - start) commands) ∙ two (take start commands) (take (next - start) (drop start commands)))

-- a position within the first lines
pub within_all : (commands : List Numbered) (end at : ℕ) → at ≤ length (take end commands) → at ≤ length commands
within_all commands end at within =
    let all : length (take end commands) + length (drop end commands) ≡ length commands =
    sym (length-append (take end commands) (drop end commands)) ∙ ap length (take-append-drop end commands) in
    omega (arith, within, all)

-- all lines are done
pub done_all : (commands : List Numbered) (lines : List (ℕ × Asked)) (over : Bool) → lines ≡ commands_of commands → AreDone (Some (commands_of commands)) over lines []
done_all commands lines true is = ([], sym (append-nil lines ∙ is), refl)
done_all commands lines false is = (sym is, refl)

-- the first lines of the first lines
first_of : (commands given : List Numbered) (end at : ℕ) → given ≡ take end commands → at ≤ length given → take at given ≡ take at commands
first_of commands given end at is within =
    let inside : at ≤ length (take end commands) = subst (λ (l : List Numbered). at ≤ length l) is within in
    ap (λ (l : List Numbered). take at l) is
    ∙ (sym (take-append-le at (take end commands) (drop end commands) inside) ∙ ap (λ (l : List Numbered). take at l) (take-append-drop end commands))

-- a segment of the first lines
pub taken_within : (commands given : List Numbered) (end start next : ℕ) → given ≡ take end commands → start ≤ next → next ≤ length given
    → commands_of (take next commands) ≡ commands_of (take start commands) ++ commands_of (slice_range given start next)
taken_within commands given end start next is le within =
    ap commands_of (sym (first_of commands given end next is within))
    ∙ (taken_more given start next le ∙ ap (λ (l : List Numbered). commands_of l ++ commands_of (slice_range given start next)) (first_of commands given end start is (omega arith)))

-- a segment of them that isn't known whole
pub begun_within : (commands given : List Numbered) (end start : ℕ) (own rest : List (ℕ × Asked)) (malformed : List ℕ) → given ≡ take end commands → start ≤ length given
    → commands_of (drop start given) ≡ own ++ rest → malformed ≡ [] → AreBegun (Some (commands_of commands)) (commands_of (take start commands) ++ own) ([] ++ malformed)
begun_within commands given end start own rest malformed is within first none =
    let before : List (ℕ × Asked) = commands_of (take start commands) in
    let after : List (ℕ × Asked) = commands_of (drop end commands) in
    let parts : commands_of given ≡ before ++ (own ++ rest) =
    ap commands_of (sym (take-append-drop start given)) ∙ (two (take start given) (drop start given)
    ∙ ((λ i. commands_of (first_of commands given end start is within i) ++ first i))) in
    let whole : commands_of commands ≡ commands_of given ++ after =
    ap commands_of (sym (take-append-drop end commands)) ∙ (two (take end commands) (drop end commands) ∙ ap (λ (l : List Numbered). commands_of l ++ after) (sym is)) in
    let all : commands_of commands ≡ (before ++ own) ++ (rest ++ after) =
    whole ∙ (ap (λ (l : List (ℕ × Asked)). l ++ after) (parts ∙ sym (append_assoc before own rest)) ∙ append_assoc (before ++ own) rest after) in
    (rest ++ after, all, none)

-- a segment, and the lines after it
pub segment_first : (commands : List Numbered) (start next : ℕ) → start ≤ next → commands_of (drop start commands) ≡ commands_of (slice_range commands start next) ++ commands_of (drop next commands)
segment_first commands start next le = ap commands_of (drop_split commands start next le) ∙ two (slice_range commands start next) (drop next commands)

-- a run that is over
pub done_over : (commands : List Numbered) (at : ℕ) (over : Bool) → over ≡ true → AreDone (Some (commands_of commands)) over (commands_of (take at commands)) []
done_over commands at over is = subst (λ (b : Bool). AreDone (Some (commands_of commands)) b (commands_of (take at commands)) []) (sym is) (begun_at commands at)

-- all lines were taken
pub done_taken : (commands : List Numbered) (at : ℕ) (over : Bool) → length commands ≤ at → AreDone (Some (commands_of commands)) over (commands_of (take at commands)) []
done_taken commands at over all = done_all commands (commands_of (take at commands)) over (ap commands_of (take_all at commands all))

-- one more interval, of no malformed lines
pub shows_then : {s : Semantics} → (manner : Manner) (old mid new : Option (List ℕ)) (crew before after : Crew s) (lines own lines2 : List (ℕ × Asked)) (malformed : List ℕ) (memory more refused again : Bool)
    → lines2 ≡ lines ++ own → malformed ≡ [] → Shows manner old crew lines [] mid before memory refused → is_over manner.strict refused ≡ false
    → ShowsOne manner own malformed mid new before after more again → Shows manner old crew lines2 [] new after (memory || more) (refused || again)
shows_then manner old mid new crew before after lines own lines2 malformed memory more refused again is none shown goes_on one =
    subst (λ (l : List (ℕ × Asked)). Shows manner old crew l [] new after (memory || more) (refused || again)) (sym is)
    (subst (λ (m : List ℕ). Shows manner old crew (lines ++ own) m new after (memory || more) (refused || again)) none
    (Then lines own [] malformed mid new before after memory more refused again shown goes_on one))
