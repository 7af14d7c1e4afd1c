-- The reports of an interval, together.
use Rattle.std.proofs.Common.{◌≡◌, ◌==◌, inl, inr, ℕ, ◌+◌, ◌<◌, List, [], ◌∷◌, ◌++◌, length, map, take, get_or, Bool, true, Option, refl, sym, ap, ◌∙◌, append_assoc, append-nil}
use Rattle.std.proofs.lemmas.Bool.{eqb-true}
use Rattle.std.proofs.lemmas.List.{map-append, nil_from_length, take_more}
use Rattle.ap_books.specs.Counts.{Counts, none, plus}
use Rattle.apd_script.specs.Asked.{Asked, commands_of}
use Rattle.apd_script.specs.Batches.{numbers_of}
use Rattle.apd_script.specs.declared.command.Numbered.{Numbered}
use Rattle.apd_script.specs.declared.batch.MalformedLine.{MalformedLine}
use Rattle.apd_driver.specs.declared.reports.report.Form.{Form}
use Rattle.apd_driver.specs.declared.reports.report.Report.{Report}
use Rattle.apd_driver.specs.Crews.{Collects, Crew, Works, gains, with_work}
use Rattle.apd_driver.specs.Following.{FollowsAll, FromNone, Lists, NoLine}
use Rattle.apd_driver.specs.Semantics.{Semantics}
use Rattle.apd_driver.specs.Shows.{AnswerMalformed, Before, BeforeThem, BreaksFrom, BreaksMalformed, Gathered, OnlyMalformed, PrintsPart, Within, WithinThem, malformed_at, malformed_by}
use Rattle.apd_driver.specs.Tallies.{tallied}
use Rattle.apd_driver.specs.Tells.{Tells}
use Rattle.apd_driver.proofs.Tallying.{none_plus, plus_none, tallied_joined}

-- reports that count nothing, and others
others_count : (xs ys zs : List Report) → Tells [] xs → zs ≡ xs ++ ys → tallied zs ≡ tallied ys
others_count xs ys zs t is =
    let nothing : tallied xs ≡ none = ap tallied t.listed ∙ t.nothing in
    ap tallied is ∙ (tallied_joined xs ys ∙ (ap (λ (c : Counts). plus c (tallied ys)) nothing ∙ none_plus (tallied ys)))

-- the operator's reports, those on malformed lines, and the workers'
pub gathered : {s : Semantics} → (lines : List (ℕ × Asked)) (malformed : List ℕ) (crew crew1 crew2 : Crew s) (told listed handed : List Report) → Works crew crew1 → Lists (FollowsAll s crew.work lines crew1.work) [] told
    → Lists (AnswerMalformed malformed) told listed → Tells [] listed → Collects crew1 crew2 listed handed → s.NoneLeft crew2.work
    → Gathered lines malformed crew crew2 handed
gathered {s} lines malformed crew crew1 crew2 told listed handed works h k t c none =
    let counts : Counts = tallied c.reports in
    record {
      work = crew1.work;
      told = h.reports;
      follows = h.kind;
      answers = k.reports;
      on_malformed = k.kind;
      others = c.reports;
      taken = c.taken;
      none_left = inr none;
      all = c.listed ∙ (ap (λ (l : List Report). l ++ c.reports) (k.listed ∙ ap (λ (l : List Report). l ++ k.reports) h.listed) ∙ append_assoc h.reports k.reports c.reports);
      counts = c.counted
          ∙ (ap (λ (x : Crew s). with_work (gains x counts) crew2.work) works ∙ ap (λ (x : Counts). with_work (gains crew x) crew2.work) (sym (others_count listed c.reports handed t c.listed)));
    }

-- malformed lines alone, from a list of reports
pub only_malformed : (malformed : List ℕ) (xs handed : List Report) → xs ≡ [] → Lists (AnswerMalformed malformed) xs handed → Tells xs handed → OnlyMalformed malformed handed
only_malformed malformed xs handed empty k t =
    let mine : handed ≡ k.reports = k.listed ∙ ap (λ (l : List Report). l ++ k.reports) empty in
    let yours : handed ≡ t.reports = t.listed ∙ ap (λ (l : List Report). l ++ t.reports) empty in
    record { on_malformed = ap (map malformed_by) mine ∙ k.kind; nothing = ap tallied yours ∙ t.nothing }

-- the same while no worker is out
pub gathered_answers : {s : Semantics} → (malformed : List ℕ) (crew : Crew s) (handed : List Report) → OnlyMalformed malformed handed → Gathered [] malformed crew crew handed
gathered_answers malformed crew handed only =
    let same : plus crew.counted (tallied handed) ≡ crew.counted = ap (plus crew.counted) only.nothing ∙ plus_none crew.counted in
    record {
      work = crew.work;
      told = [];
      follows = NoLine;
      answers = handed;
      on_malformed = only.on_malformed;
      others = [];
      taken = FromNone;
      none_left = inl refl;
      all = sym (append-nil handed);
      counts = λ i. record { workers = crew.workers; counted = sym same i; work = crew.work };
    }

-- an interval of no lines breaks off
pub breaks_malformed : {s : Semantics} → (form : Form) (lines : List (ℕ × Asked)) (malformed : List ℕ) (old new : Option (List ℕ)) (crew : Crew s) → lines ≡ []
    → BreaksMalformed form malformed old new → BreaksFrom form lines malformed old new crew
breaks_malformed form lines malformed old new crew empty (BeforeThem same) = record { lines = []; rest = lines; first = refl; breaks = Before same }
breaks_malformed form lines malformed old new crew empty (WithinThem handed only part) =
    record { lines = []; rest = lines; first = refl; breaks = Within crew handed (gathered_answers malformed crew handed only) part }

-- the numbers of one more malformed line
pub numbers_more : (malformed : List MalformedLine) (at : ℕ) (d : MalformedLine) → at < length malformed
    → numbers_of (take (at + 1) malformed) ≡ numbers_of (take at malformed) ++ (get_or malformed at d).line ∷ []
numbers_more malformed at d within =
    ap numbers_of (take_more malformed at d within) ∙ map-append (λ (x : MalformedLine). x.line) (take at malformed) (get_or malformed at d ∷ [])

-- no malformed line yet
pub answers_none : (xs : List Report) → Lists (AnswerMalformed []) xs xs
answers_none xs = record { reports = []; listed = sym (append-nil xs); kind = refl }

-- one malformed line
pub answers_one : (line : ℕ) (xs mid ys : List Report) (r : Report) → malformed_by r ≡ malformed_at line → mid ≡ xs → ys ≡ mid ++ r ∷ [] → Lists (AnswerMalformed (line ∷ [])) xs ys
answers_one line xs mid ys r is d e =
    record { reports = r ∷ []; listed = e ∙ ap (λ (l : List Report). l ++ r ∷ []) d; kind = ap (λ (x : ℕ × Bool). x ∷ []) is }

-- and then more
pub answers_more : (ms ns ls : List ℕ) (xs ys zs : List Report) → ls ≡ ms ++ ns → Lists (AnswerMalformed ms) xs ys → Lists (AnswerMalformed ns) ys zs → Lists (AnswerMalformed ls) xs zs
answers_more ms ns ls xs ys zs all h k =
    record {
      reports = h.reports ++ k.reports;
      listed = k.listed ∙ (ap (λ (l : List Report). l ++ k.reports) h.listed ∙ append_assoc xs h.reports k.reports);
      kind = map-append malformed_by h.reports k.reports ∙ ((λ i. h.kind i ++ k.kind i) ∙ (sym (map-append malformed_at ms ns) ∙ ap (λ (l : List ℕ). map malformed_at l) (sym all)));
    }

-- an interval breaks off before its reports are printed
pub breaks_before : {s : Semantics} → (form : Form) (all : List (ℕ × Asked)) (malformed : List ℕ) (old new : Option (List ℕ)) (crew : Crew s) → new ≡ old
    → BreaksFrom form all malformed old new crew
breaks_before form all malformed old new crew same = record { lines = []; rest = all; first = refl; breaks = Before same }

-- it breaks off while they are printed
pub breaks_within : {s : Semantics} → (form : Form) (all lines rest : List (ℕ × Asked)) (malformed : List ℕ) (old new : Option (List ℕ)) (crew crew2 : Crew s) (handed : List Report) → all ≡ lines ++ rest
    → Gathered lines malformed crew crew2 handed → PrintsPart form old new handed → BreaksFrom form all malformed old new crew
breaks_within form all lines rest malformed old new crew crew2 handed first g p = record { lines = lines; rest = rest; first = first; breaks = Within crew2 handed g p }

-- no commands
pub no_lines : (commands : List Numbered) → (length commands == 0) ≡ true → commands_of commands ≡ []
no_lines commands is = ap commands_of (nil_from_length commands (eqb-true (length commands) 0 is))
