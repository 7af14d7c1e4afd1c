-- The lines of a run.
use Rattle.std.specs.Prelude.{ℕ, List, [], ◌∷◌, ◌++◌, codes, decimal, string_bytes, Option, None, Some}
use Rattle.std.specs.List.{flat_map}
use Rattle.bpf_decode.specs.Answer.{fault_text}
use Rattle.ap_model.specs.declared.event.Out.{Out}
use Rattle.ap_books.specs.declared.totals.Totals.{Totals}
use Rattle.ap_model.specs.declared.event.Out.TheVariants as out
use Rattle.apd_driver.specs.Colours.{colour_in, painted}
use Rattle.apd_driver.specs.Json.{drop_json, json_line, loaded_members, outs_json}
use Rattle.apd_driver.specs.Notices.{notice_of}
use Rattle.apd_driver.specs.NoticeTexts.{drop_words, notice_words}
use Rattle.apd_driver.specs.Words.{then, counter_words, out_words}
use Rattle.apd_driver.specs.declared.reports.notice.Dropped.{Dropped}
use Rattle.apd_driver.specs.declared.reports.notice.Notice.{Notice}
use Rattle.apd_driver.specs.declared.reports.report.Form.{Form}
use Rattle.apd_driver.specs.declared.reports.report.Style.{Style}
use Rattle.apd_driver.specs.declared.reports.report.Style.TheVariants as style
use Rattle.apd_driver.specs.declared.reports.report.Told.{Told}
use Rattle.apd_driver.specs.declared.reports.report.Told.TheVariants as told
use Rattle.apd_driver.specs.declared.reports.report.Report.{Report}

-- the number of a script's line, its report, and a line feed (10)
abbrev pub line_of : ℕ → List ℕ → List ℕ
line_of number words = then (decimal number) (words ++ 10 ∷ [])

-- a line for each output, in order
abbrev pub outs_text : ℕ → List Out → List ℕ
outs_text number outs = flat_map (λ o. line_of number (out_words o)) outs

-- the words of a report without outputs
abbrev pub told_words : Told → List ℕ
told_words (told.Handled outs dropped) = []
told_words told.Memory = codes "memory"
told_words (told.Loaded budget slots) = then (codes "loaded") (decimal budget)
told_words (told.Fault fault) = fault_text fault
told_words (told.Refused fault slot) = codes "refused " ++ decimal fault ++ codes " at " ++ decimal slot
told_words (told.Certificate fault) = then (codes "certificate") (decimal fault)
told_words (told.Unreadable why) = codes "unreadable"
told_words (told.Word value) = then (codes "word") (decimal value)
told_words (told.Malformed why) = then (codes "error") (string_bytes why)

-- the report on a line of a script, as text
abbrev pub told_text : ℕ → Told → List ℕ
told_text number (told.Handled outs dropped) = outs_text number outs.items
told_text number told = line_of number (told_words told)

-- the line of what a frame means to its station
abbrev pub notice_line : ℕ → Option Notice → List ℕ
notice_line number None = []
notice_line number (Some notice) = line_of number (notice_words notice)

-- what an output means to a station
abbrev pub notice_text : ℕ → Out → List ℕ
notice_text number (out.Send frame) = notice_line number (notice_of frame)
notice_text number _ = []

-- an output's line, and what it means
abbrev pub noticed_out : ℕ → Out → List ℕ
noticed_out number o = line_of number (out_words o) ++ notice_text number o

-- the same of all outputs, in order
abbrev pub noticed_outs : ℕ → List Out → List ℕ
noticed_outs number outs = flat_map (noticed_out number) outs

-- a line for data that was dropped
abbrev pub drop_text : ℕ → Option Dropped → List ℕ
drop_text number None = []
drop_text number (Some dropped) = line_of number (drop_words dropped)

-- the report on a line with what its frames mean
abbrev pub noticed_text : ℕ → Told → List ℕ
noticed_text number (told.Handled outs dropped) = noticed_outs number outs.items ++ drop_text number dropped
noticed_text number told = told_text number told

-- the report on a line as JSON
abbrev pub json_text : ℕ → Told → List ℕ
json_text number (told.Handled outs dropped) = outs_json number outs.items ++ drop_json number dropped
json_text number (told.Loaded budget slots) = json_line number (loaded_members budget)
json_text number told = told_text number told

-- the report on a line in a style
abbrev pub styled_text : Style → ℕ → Told → List ℕ
styled_text style.Lines number told = told_text number told
styled_text style.Notices number told = noticed_text number told
styled_text style.Json number told = json_text number told

-- the report on a line in a form
abbrev pub formed_text : Form → ℕ → Told → List ℕ
formed_text form number told = painted (colour_in form.colours told) (styled_text form.style number told)

-- the lines of one report
abbrev pub report_text : Form → Report → List ℕ
report_text f r = formed_text f r.line r.told

-- reports in sequence
abbrev pub reports_text : Form → List Report → List ℕ
reports_text f reports = flat_map (report_text f) reports

-- the last line of a run: `total`, and what was counted
abbrev pub totals_text : Totals → List ℕ
totals_text t = then (codes "total") (counter_words t ++ 10 ∷ [])
