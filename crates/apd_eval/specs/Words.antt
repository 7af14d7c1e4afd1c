-- What verdicts mean to the link, and their words.
use Rattle.std.specs.Prelude.{ℕ, ◌+◌, ◌*◌, ◌==◌, List, ◌++◌, codes, decimal, slice_index, Option, Some, None, if◌then◌else◌}
use Rattle.bpf_regions.specs.declared.hooks.Hook.{Hook}
use Rattle.bpf_regions.specs.declared.hooks.Hook.TheVariants.{Association, Addba, Data}
use Rattle.hooks.specs.Verdicts.{association_status, agreement_size, data_verdict}
use Rattle.hooks.specs.declared.verdicts.DataVerdict.{DataVerdict}
use Rattle.hooks.specs.declared.verdicts.DataVerdict.TheVariants as verdict
use Rattle.apd_eval.specs.declared.ruling.Ruling.{Ruling}
use Rattle.apd_eval.specs.declared.words.Verdict.{Verdict}
use Rattle.apd_eval.specs.declared.words.Verdict.TheVariants.{Admit, Refuse, Size, Decline, Pass, Mark, Discard}

-- a status other than 0 refuses an association
abbrev pub status_words : ℕ → Verdict
status_words status = (if status == 0 then Admit else Refuse status)

-- the size of a granted window, if one is granted
abbrev pub size_words : Option ℕ → Verdict
size_words None = Decline
size_words (Some size) = Size size

-- data passes, with a mark if that isn't 0, or is dropped
abbrev pub data_words : DataVerdict → Verdict
data_words (verdict.Pass mark) = (if mark == 0 then Pass else Mark mark)
data_words verdict.Discard = Discard

-- the size that is asked for, bytes 12 and 13 of the context
abbrev pub asked_size : List ℕ → ℕ
asked_size context = slice_index context 12 + 256 * slice_index context 13

-- what a number in R0 means at a hook
abbrev pub meaning_of : Hook → ℕ → List ℕ → Verdict
meaning_of Association r0 context = status_words (association_status r0)
meaning_of Addba r0 context = size_words (agreement_size r0 (asked_size context))
meaning_of Data r0 context = data_words (data_verdict r0)

abbrev pub verdict_of : Ruling → Verdict
verdict_of r = meaning_of r.hook r.verdict r.context

-- the words
abbrev pub words_of : Verdict → List ℕ
words_of Admit = codes "admit"
words_of (Refuse status) = codes "refuse " ++ decimal status
words_of (Size size) = codes "size " ++ decimal size
words_of Decline = codes "decline"
words_of Pass = codes "pass"
words_of (Mark mark) = codes "pass mark " ++ decimal mark
words_of Discard = codes "drop"
