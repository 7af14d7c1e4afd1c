-- Following lines one by one.
use Rattle.std.proofs.Common.{◌≡◌, ◌+◌, ◌-◌, ◌<◌, ◌≤◌, ℕ, List, [], ◌∷◌, ◌++◌, Option, length, take, drop, get_or, refl, sym, ap, subst, ◌∙◌, arith, append_assoc, append-nil}
use Rattle.std.specs.List.{slice_range}
use Rattle.std.proofs.lemmas.List.{map-append}
use Rattle.std.proofs.lemmas.List.Edits.{between_more}
use Rattle.apd_script.specs.Asked.{Asked, asked_of, commands_of, numbered_of}
use Rattle.apd_script.specs.declared.command.Command.{Command}
use Rattle.apd_script.specs.declared.command.Command.TheVariants as command
use Rattle.apd_script.specs.declared.command.Numbered.{Numbered}
use Rattle.apd_driver.specs.declared.reports.report.Report.{Report}
use Rattle.apd_driver.specs.declared.reports.report.Told.{Told}
use Rattle.apd_driver.specs.Actions.{action_of}
use Rattle.apd_driver.specs.Following.{DoesIt, Follows, FollowsAll, Lists, NoLine, OneMore, for_action, told_of}
use Rattle.apd_driver.specs.Semantics.{Semantics}
use Rattle.apd_driver.specs.declared.actions.Action.{Action}

-- the line that asks for a command's action is the command's
same_line : (c : Command) → for_action (action_of c) ≡ asked_of c
same_line (command.Frame text) = refl
same_line (command.Tick units) = refl
same_line (command.Kick station reason) = refl
same_line (command.Close station tid) = refl
same_line (command.Load hook path) = refl
same_line (command.Unload hook) = refl
same_line (command.Adopt hook path certificate) = refl
same_line (command.Store word value) = refl
same_line (command.Read word) = refl
same_line (command.Sum word) = refl
same_line command.Wait = refl

pub line_of : (c : Command) (a : Action) → a ≡ action_of c → asked_of c ≡ for_action a
line_of c a is = sym (ap for_action is ∙ same_line c)

-- what was done for a line was reported
pub lists_told : (s : Semantics) (line : ℕ) (a : Asked) (old new : s.Work) (told : Option Told) (xs mid ys : List Report) → s.Does old new a told → mid ≡ xs → ys ≡ mid ++ told_of line told
    → Lists (Follows s line a old new) xs ys
lists_told s line a old new told xs mid ys does same more =
    record { reports = told_of line told; listed = more ∙ ap (λ (l : List Report). l ++ told_of line told) same; kind = DoesIt told does }

-- there was nothing to report
pub lists_nothing : (s : Semantics) (line : ℕ) (a : Asked) (old new : s.Work) (xs ys : List Report) → Follows s line a old new [] → ys ≡ xs → Lists (Follows s line a old new) xs ys
lists_nothing s line a old new xs ys follows same = record { reports = []; listed = same ∙ sym (append-nil xs); kind = follows }

-- the same of a line that asks for the same
pub lists_same : (s : Semantics) (line : ℕ) (a b : Asked) (old new : s.Work) (xs ys : List Report) → b ≡ a → Lists (Follows s line a old new) xs ys → Lists (Follows s line b old new) xs ys
lists_same s line a b old new xs ys is h = subst (λ (x : Asked). Lists (Follows s line x old new) xs ys) (sym is) h

no_commands : (commands : List Numbered) (at n : ℕ) → n ≡ 0 → commands_of (take n (drop at commands)) ≡ []
no_commands commands at n is = ap (λ (k : ℕ). commands_of (take k (drop at commands))) is

-- no line yet
pub feeds_nothing : (s : Semantics) (w : s.Work) (commands : List Numbered) (start : ℕ) (xs ys : List Report) → ys ≡ xs → Lists (FollowsAll s w (commands_of (slice_range commands start start)) w) xs ys
feeds_nothing s w commands start xs ys same =
    let none : start - start ≡ 0 = omega arith in
    record {
      reports = [];
      listed = same ∙ sym (append-nil xs);
      kind = subst (λ (l : List (ℕ × Asked)). FollowsAll s w l w []) (sym (no_commands commands start (start - start) none)) NoLine;
    }

one_longer : (commands : List Numbered) (start next : ℕ) (n : Numbered) → start ≤ next → next < length commands → n ≡ get_or commands next n
    → commands_of (slice_range commands start (next + 1)) ≡ commands_of (slice_range commands start next) ++ (n.line, asked_of n.command) ∷ []
one_longer commands start next n from within is =
    ap commands_of (between_more commands start next n from within)
    ∙ (map-append numbered_of (slice_range commands start next) (get_or commands next n ∷ [])
    ∙ ap (λ (x : Numbered). commands_of (slice_range commands start next) ++ numbered_of x ∷ []) (sym is))

-- one more line
pub feeds_more : (s : Semantics) (w0 w1 w2 : s.Work) (commands : List Numbered) (start next : ℕ) (n : Numbered) (xs ys zs : List Report) → start ≤ next → next < length commands → n ≡ get_or commands next n
    → Lists (FollowsAll s w0 (commands_of (slice_range commands start next)) w1) xs ys → Lists (Follows s n.line (asked_of n.command) w1 w2) ys zs
    → Lists (FollowsAll s w0 (commands_of (slice_range commands start (next + 1))) w2) xs zs
feeds_more s w0 w1 w2 commands start next n xs ys zs from within is h k =
    record {
      reports = h.reports ++ k.reports;
      listed = k.listed ∙ (ap (λ (l : List Report). l ++ k.reports) h.listed ∙ append_assoc xs h.reports k.reports);
      kind = subst (λ (l : List (ℕ × Asked)). FollowsAll s w0 l w2 (h.reports ++ k.reports)) (sym (one_longer commands start next n from within is))
          (OneMore _ n.line (asked_of n.command) w1 w2 h.reports k.reports h.kind k.kind);
    }
