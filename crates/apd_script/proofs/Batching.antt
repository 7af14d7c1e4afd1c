-- Taking lines one after another.
use Rattle.std.specs.Prelude.{◌≡◌, ℕ, ◌+◌, Option, List, [], ◌∷◌, ◌++◌, Some, None, Bool, true, false, if◌then◌else◌, refl}
use Rattle.std.proofs.Common.{◌∙◌, ap, sym, subst, append-nil}
use Rattle.std.proofs.lemmas.List.Elements.{All-head, All-tail, All-push}
use Rattle.std.proofs.lemmas.List.{map-append}
use Rattle.bpf_regions.specs.declared.maps.Shape.{Shape}
use Rattle.apd_script.specs.Asked.{Asked, asked_of, commands_of, numbered_of}
use Rattle.apd_script.specs.Batches.{IsTaken, IsMalformed, IsQuestion, IsQuit, Adds, Taken, Questions, Malformed, Takes, OneMore, Leaves, numbers_of, own_questions, questions_of, is_wait, NoneWaits, after_wait, EndsInWait}
use Rattle.apd_script.specs.Lines.{line_asks}
use Rattle.apd_script.specs.Script.{lines_of, numbered}
use Rattle.apd_script.specs.declared.batch.Added.{Added}
use Rattle.apd_script.specs.declared.batch.Added.TheVariants as added
use Rattle.apd_script.specs.declared.batch.MalformedLine.{MalformedLine}
use Rattle.apd_script.specs.declared.command.Numbered.{Numbered}
use Rattle.apd_script.specs.declared.question.NumberedQuestion.{NumberedQuestion}
use Rattle.apd_script.specs.declared.question.Question.{Question}

module _ (maps : List Shape) (line : List ℕ) (old new : List Numbered) (bad bad2 : List MalformedLine) where
  -- the line is a command
  pub adds_command : (n : Numbered) → IsTaken maps line → line_asks maps line ≡ Some (asked_of n.command) → new ≡ old ++ n ∷ [] → bad2 ≡ bad
      → Adds maps n.line line (commands_of old) (numbers_of bad) (commands_of new) (numbers_of bad2) []
  adds_command n taken asks pushed same =
      Taken _ _ taken (ap commands_of pushed ∙ map-append numbered_of old (n ∷ []) ∙ ap (λ o. commands_of old ++ numbered n.line o []) (sym asks)) (ap numbers_of same)

  -- the line is blank or a comment
  pub adds_nothing : (number : ℕ) → IsTaken maps line → line_asks maps line ≡ None → new ≡ old → bad2 ≡ bad
      → Adds maps number line (commands_of old) (numbers_of bad) (commands_of new) (numbers_of bad2) []
  adds_nothing number taken asks same unchanged =
      Taken _ _ taken (ap commands_of same ∙ sym (append-nil (commands_of old)) ∙ ap (λ o. commands_of old ++ numbered number o []) (sym asks)) (ap numbers_of unchanged)

  -- the line is a question
  pub adds_question : (number : ℕ) (question : Question) → IsQuestion maps line question → new ≡ old → bad2 ≡ bad
      → Adds maps number line (commands_of old) (numbers_of bad) (commands_of new) (numbers_of bad2) ((number, question) ∷ [])
  adds_question number question is same unchanged = Questions _ _ question is (ap commands_of same) (ap numbers_of unchanged)

  -- the line is malformed
  pub adds_malformed : (m : MalformedLine) → IsMalformed maps line → new ≡ old → bad2 ≡ bad ++ m ∷ []
      → Adds maps m.line line (commands_of old) (numbers_of bad) (commands_of new) (numbers_of bad2) []
  adds_malformed m not same pushed = Malformed _ _ not (ap commands_of same) (ap numbers_of pushed ∙ map-append (λ (x : MalformedLine). x.line) bad (m ∷ []))

-- whether a command with its number is `wait`
abbrev GoesOn : Numbered → Type 0
GoesOn n = is_wait n.command ≡ false

-- nothing follows a wait if there is none
pub nothing_follows : (ns : List Numbered) → NoneWaits ns → after_wait ns ≡ []
nothing_follows [] h = refl
nothing_follows (n ∷ ns) h =
    ap (λ b. if b then ns else after_wait ns) (All-head GoesOn n ns h) ∙ nothing_follows ns (All-tail GoesOn n ns h)

-- nor if the last command alone may be one
by_case : (b : Bool) (ns : List Numbered) → (if b then ns else ns) ≡ ns
by_case true ns = refl
by_case false ns = refl

pub last_follows : (ns : List Numbered) (n : Numbered) → NoneWaits ns → after_wait (ns ++ n ∷ []) ≡ []
last_follows [] n h = by_case (is_wait n.command) []
last_follows (m ∷ ns) n h =
    ap (λ b. if b then ns ++ n ∷ [] else after_wait (ns ++ n ∷ [])) (All-head GoesOn m ns h) ∙ last_follows ns n (All-tail GoesOn m ns h)

-- one more command that doesn't wait
pub none_more : (ns new : List Numbered) (n : Numbered) → new ≡ ns ++ n ∷ [] → is_wait n.command ≡ false → NoneWaits ns → NoneWaits new
none_more ns new n is w h = subst NoneWaits (sym is) (All-push GoesOn ns n h w)

-- the same commands
pub none_still : (ns new : List Numbered) → new ≡ ns → NoneWaits ns → NoneWaits new
none_still ns new is h = subst NoneWaits (sym is) h

-- commands of which the last is a wait
pub one_waits : (ns new : List Numbered) (n : Numbered) → new ≡ ns ++ n ∷ [] → is_wait n.command ≡ true → (NoneWaits ns → after_wait new ≡ []) × EndsInWait new
one_waits ns new n is w = (λ h. ap after_wait is ∙ last_follows ns n h, record { before = ns; last = n; whole = is; waits = w })

-- one more line, which may be a question
pub takes_more : (maps : List Shape) (first : ℕ) (text : List ℕ) (asked asked2 : List (ℕ × Asked)) (bad bad2 : List ℕ) (added : Added) (question : Option NumberedQuestion) (lines : ℕ)
    (mid line rest : List ℕ) → Takes maps first text asked bad [] lines mid → lines_of mid ≡ line ∷ lines_of rest → (IsQuit line → ⊥)
    → Adds maps (first + lines) line asked bad asked2 bad2 (own_questions (first + lines) added) → questions_of question ≡ own_questions (first + lines) added
    → Takes maps first text asked2 bad2 (questions_of question) (lines + 1) rest
takes_more maps first text asked asked2 bad bad2 added question lines mid line rest h cut goes_on adds is =
    OneMore _ _ _ _ _ _ _ _ _ _ _ h cut goes_on adds is

-- after one more line, nothing follows a wait
pub waits_last : (added : Added) (old new : List Numbered) → Leaves added old new → NoneWaits old → after_wait new ≡ []
waits_last added.GoesOn old new leaves none = nothing_follows new (leaves none)
waits_last added.Waits old new leaves none = leaves.0 none
waits_last (added.Asks question) old new leaves none = nothing_follows new (leaves none)
