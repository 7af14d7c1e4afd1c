-- Lines that are taken from a text chunk by chunk are those of the whole text.
use Rattle.std.specs.Prelude.{◌≡◌, ℕ, ◌+◌, ◌==◌, List, [], ◌∷◌, ◌++◌, refl}
use Rattle.std.proofs.Common.{arith, sym, ◌∙◌, ap, subst, append_assoc, append-nil, inl, inr}
use Rattle.std.specs.List.{onto_first}
use Rattle.std.proofs.lemmas.Bool.{cases_Bool}
use Rattle.std.proofs.lemmas.List.Splits.{slice_split-cons_yes, slice_split-cons_no}
use Rattle.bpf_regions.specs.declared.maps.Shape.{Shape}
use Rattle.apd_script.specs.Asked.{Asked}
use Rattle.apd_script.specs.Batches.{Adds, Taken, Questions, Malformed, Takes, NoLine, OneMore, Earlier, Continues}
use Rattle.apd_script.specs.declared.question.Question.{Question}
use Rattle.apd_script.specs.Lines.{line_asks}
use Rattle.apd_script.specs.Script.{lines_of, numbered}

-- parts of a text, of which the last goes on with the first of other parts
abbrev glue : List (List ℕ) → List (List ℕ) → List (List ℕ)
glue [] more = more
glue (x ∷ []) [] = x ∷ []
glue (x ∷ []) (y ∷ ys) = (x ++ y) ∷ ys
glue (x ∷ w ∷ xs) more = x ∷ glue (w ∷ xs) more

-- there is a first line
pub first_of : (t : List ℕ) → (first : List ℕ) × (rest : List (List ℕ)) × (lines_of t ≡ first ∷ rest)
first_of [] = ([], [], refl)
first_of (c ∷ t) =
    let more = first_of t in
    elim (cases_Bool (c == 10)) [
      | inl yes' ↦ ([], lines_of t, slice_split-cons_yes (λ b. b == 10) c t yes')
      | inr no' ↦ (c ∷ more.0, more.1, slice_split-cons_no (λ b. b == 10) c t no' ∙ ap (onto_first c) more.2)
    ]

glue-after : (line t : List ℕ) (more : List (List ℕ)) → glue (line ∷ lines_of t) more ≡ line ∷ glue (lines_of t) more
glue-after line t more =
    let first = first_of t in
    ap (λ l. glue (line ∷ l) more) first.2 ∙ ap (λ l. line ∷ glue l more) (sym first.2)

glue-onto : (c : ℕ) (x : List ℕ) (xs more : List (List ℕ)) → glue (onto_first c (x ∷ xs)) more ≡ onto_first c (glue (x ∷ xs) more)
glue-onto c x [] [] = refl
glue-onto c x [] (y ∷ ys) = refl
glue-onto c x (w ∷ xs) more = refl

glue-nothing : (t : List ℕ) → glue ([] ∷ []) (lines_of t) ≡ lines_of t
glue-nothing t =
    let first = first_of t in
    ap (λ l. glue ([] ∷ []) l) first.2 ∙ sym first.2

glue-lines_onto : (c : ℕ) (t : List ℕ) (more : List (List ℕ)) → onto_first c (glue (lines_of t) more) ≡ glue (onto_first c (lines_of t)) more
glue-lines_onto c t more =
    let first = first_of t in
    ap (λ l. onto_first c (glue l more)) first.2 ∙ sym (glue-onto c first.0 first.1 more) ∙ ap (λ l. glue (onto_first c l) more) (sym first.2)

-- the lines of two texts, one behind the other
lines_of-append : (s t : List ℕ) → lines_of (s ++ t) ≡ glue (lines_of s) (lines_of t)
lines_of-append [] t = sym (glue-nothing t)
lines_of-append (c ∷ s) t =
    let more = lines_of-append s t in
    elim (cases_Bool (c == 10)) [
      | inl yes' ↦
          slice_split-cons_yes (λ b. b == 10) c (s ++ t) yes' ∙ ap (λ l. [] ∷ l) more
          ∙ sym (glue-after [] s (lines_of t)) ∙ ap (λ l. glue l (lines_of t)) (sym (slice_split-cons_yes (λ b. b == 10) c s yes'))
      | inr no' ↦
          slice_split-cons_no (λ b. b == 10) c (s ++ t) no' ∙ ap (onto_first c) more
          ∙ glue-lines_onto c s (lines_of t) ∙ ap (λ l. glue l (lines_of t)) (sym (slice_split-cons_no (λ b. b == 10) c s no'))
    ]

-- a first line that is whole stays the first line
cut_longer : (mid line rest more : List ℕ) → lines_of mid ≡ line ∷ lines_of rest → lines_of (mid ++ more) ≡ line ∷ lines_of (rest ++ more)
cut_longer mid line rest more cut =
    lines_of-append mid more ∙ ap (λ l. glue l (lines_of more)) cut
    ∙ glue-after line rest (lines_of more) ∙ ap (λ l. line ∷ l) (sym (lines_of-append rest more))

-- whole lines of a text are lines of a longer one
takes_longer : (maps : List Shape) (first : ℕ) (text more : List ℕ) {asked : List (ℕ × Asked)} {bad : List ℕ} {questions : List (ℕ × Question)} {lines : ℕ} {rest : List ℕ}
    → Takes maps first text asked bad questions lines rest → Takes maps first (text ++ more) asked bad questions lines (rest ++ more)
takes_longer maps first text more NoLine = NoLine
takes_longer maps first text more (OneMore asked asked2 bad bad2 questions own questions2 lines mid line rest h cut goes_on adds joined) =
    OneMore asked asked2 bad bad2 questions own questions2 lines (mid ++ more) line (rest ++ more) (takes_longer maps first text more h) (cut_longer mid line rest more cut) goes_on adds joined

-- what a line adds is added behind what there is
adds_behind : (maps : List Shape) (number : ℕ) (line : List ℕ) (before : List (ℕ × Asked)) (others : List ℕ) {asked asked2 : List (ℕ × Asked)} {bad bad2 : List ℕ} {own : List (ℕ × Question)}
    → Adds maps number line asked bad asked2 bad2 own → Adds maps number line (before ++ asked) (others ++ bad) (before ++ asked2) (others ++ bad2) own
adds_behind maps number line before others {asked} {asked2} {bad} {bad2} (Taken a b taken asks same) =
    Taken _ _ taken (ap (λ l. before ++ l) asks ∙ sym (append_assoc before asked (numbered number (line_asks maps line) []))) (ap (λ l. others ++ l) same)
adds_behind maps number line before others {asked} {asked2} {bad} {bad2} (Questions a b question is asks same) =
    Questions _ _ question is (ap (λ l. before ++ l) asks) (ap (λ l. others ++ l) same)
adds_behind maps number line before others {asked} {asked2} {bad} {bad2} (Malformed a b not same more) =
    Malformed _ _ not (ap (λ l. before ++ l) same) (ap (λ l. others ++ l) more ∙ sym (append_assoc others bad (number ∷ [])))

-- lines are taken, and then others
takes_then : (maps : List Shape) (first : ℕ) (text : List ℕ) {asked : List (ℕ × Asked)} {bad : List ℕ} {questions : List (ℕ × Question)} {lines : ℕ} {mid : List ℕ} → Takes maps first text asked bad questions lines mid
    → {asked2 : List (ℕ × Asked)} {bad2 : List ℕ} {questions2 : List (ℕ × Question)} {later : ℕ} {rest : List ℕ} → Takes maps (first + lines) mid asked2 bad2 questions2 later rest
    → Takes maps first text (asked ++ asked2) (bad ++ bad2) (questions ++ questions2) (lines + later) rest
takes_then maps first text {asked} {bad} {questions} {lines} {mid} h NoLine =
    let same : lines + 0 ≡ lines = omega arith in
    rw (append-nil asked, append-nil bad, append-nil questions, same) h
takes_then maps first text {asked} {bad} {questions} {lines} {mid} h (OneMore asked2 asked3 bad2 bad3 questions2 own questions3 later mid2 line rest k cut goes_on adds joined) =
    let more : lines + (later + 1) ≡ lines + later + 1 = omega arith in
    let number : first + lines + later ≡ first + (lines + later) = omega arith in
    let behind = adds_behind maps (first + lines + later) line asked bad adds in
    rw more (OneMore (asked ++ asked2) (asked ++ asked3) (bad ++ bad2) (bad ++ bad3) (questions ++ questions2) own (questions ++ questions3) (lines + later) mid2 line rest (takes_then maps first text h k) cut goes_on
    (subst (λ n. Adds maps n line (asked ++ asked2) (bad ++ bad2) (asked ++ asked3) (bad ++ bad3) own) number behind)
    (ap (λ l. questions ++ l) joined ∙ sym (append_assoc questions questions2 own)))

-- lines are taken, then the text goes on, and others are taken
pub continues : (maps : List Shape) (next lines : ℕ) (text rest : List ℕ) (asked : List (ℕ × Asked)) (bad : List ℕ) (questions : List (ℕ × Question)) → Takes maps next text asked bad questions lines rest
    → (e : Earlier maps next text) → Continues e asked bad questions lines rest
continues maps next lines text rest asked bad questions takes e =
    takes_then maps e.first (e.whole ++ e.more) (takes_longer maps e.first e.whole e.more e.takes) (rw (e.next_is, e.text_is) at takes)
