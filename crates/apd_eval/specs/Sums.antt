-- The line of sums below a table.
use Rattle.std.specs.Prelude.{ℕ, ◌+◌, ◌==◌, Bool, true, false, not, max, fold, List, [], ◌∷◌, ◌++◌, codes, count_by, decimal, length, if◌then◌else◌}
use Rattle.bpf_regions.specs.declared.hooks.Hook.{Hook}
use Rattle.bpf_regions.specs.declared.hooks.Hook.TheVariants.{Association, Addba, Data}
use Rattle.capture.specs.Packets.{Seen}
use Rattle.capture.specs.Walks.{packets_in}
use Rattle.apd_eval.specs.Unjudged.{reasons_of, parts_text, others_line, none_text, json_reasons}
use Rattle.apd_eval.specs.Words.{verdict_of}
use Rattle.apd_eval.specs.declared.row.Row.{Row}
use Rattle.apd_eval.specs.declared.sums.Course.{Course}
use Rattle.apd_eval.specs.declared.tally.Tally.{Tally}
use Rattle.apd_eval.specs.declared.reasons.Reasons.{Reasons}
use Rattle.apd_eval.specs.declared.words.Verdict.{Verdict}
use Rattle.apd_eval.specs.declared.words.Verdict.TheVariants.{Admit, Refuse, Size, Decline, Pass, Mark, Discard}

-- the verdict grants what is asked for
abbrev pub is_grant : Verdict → Bool
is_grant Admit = true
is_grant (Refuse status) = false
is_grant (Size size) = true
is_grant Decline = false
is_grant Pass = true
is_grant (Mark mark) = true
is_grant Discard = false

-- the verdict has a mark
abbrev pub is_marked : Verdict → Bool
is_marked (Mark mark) = true
is_marked _ = false

-- the same of a row's verdict
abbrev pub grants : Row → Bool
grants row = is_grant (verdict_of row.ruling)

abbrev pub marks : Row → Bool
marks row = is_marked (verdict_of row.ruling)

-- the most steps of a row
abbrev pub most_steps : List Row → ℕ
most_steps rows = fold (λ most row. max row.ruling.steps most) 0 rows

-- how many rows there are, how many of them grant, refuse and have a mark, and the most steps of one
pub record Totals : Type 0 where
  pub rows : ℕ
  pub granted : ℕ
  pub refused : ℕ
  pub marked : ℕ
  pub most : ℕ

-- those of rows
abbrev pub totals_of : List Row → Totals
totals_of rows = record {
  rows = length rows;
  granted = count_by grants rows;
  refused = count_by (λ row. not (grants row)) rows;
  marked = count_by marks rows;
  most = most_steps rows;
}

-- the same while rows come: of none
abbrev pub no_rows : Totals
no_rows = record { rows = 0; granted = 0; refused = 0; marked = 0; most = 0 }

-- with one more row
abbrev pub with_row : Totals → Row → Totals
with_row t row = record {
  rows = t.rows + 1;
  granted = t.granted + (if grants row then 1 else 0);
  refused = t.refused + (if not (grants row) then 1 else 0);
  marked = t.marked + (if marks row then 1 else 0);
  most = max row.ruling.steps t.most;
}

-- as they are kept
abbrev pub totals_in : Tally → Totals
totals_in t = record { rows = t.rows; granted = t.granted; refused = t.refused; marked = t.marked; most = t.most }

-- how many verdicts grant and refuse, in words of the hook
abbrev pub counts_text : Hook → Totals → List ℕ
counts_text Association t =
    codes "admit " ++ (decimal t.granted ++ (codes ", refuse " ++ decimal t.refused))
counts_text Addba t =
    codes "grant " ++ (decimal t.granted ++ (codes ", decline " ++ decimal t.refused))
counts_text Data t =
    codes "pass " ++ (decimal t.granted ++ (codes " ("
    ++ (decimal t.marked ++ (codes " marked), drop "
    ++ decimal t.refused))))

-- what was judged: the queries of a hook, by a program with this budget, as the packets came to an access point with
-- this address
pub record Judged : Type 0 where
  pub hook : Hook
  pub budget : ℕ
  pub address : List ℕ
  pub packets : List Seen

abbrev pub judged_of : Course → Judged
judged_of c = record {
  hook = c.hook;
  budget = c.budget;
  address = c.replay.link.now.bssid;
  packets = packets_in c.replay.recording.bytes.now;
}

-- in how many steps
abbrev pub steps_text : ℕ → ℕ → List ℕ
steps_text most budget =
    codes "; steps at most " ++ (decimal most ++ (codes " of budget " ++ (decimal budget ++ 10 ∷ [])))

-- how many packets were judged, how, and in how many steps
abbrev pub judged_line : ℕ → ℕ → List ℕ → List ℕ → List ℕ
judged_line judged packets counts steps =
    codes "judged " ++ (decimal judged ++ (codes " of " ++ (decimal packets ++ (codes " packets: "
    ++ (counts ++ steps)))))

-- the same of rows
abbrev pub judged_text : Judged → Totals → List ℕ
judged_text j t =
    judged_line t.rows (length j.packets) (counts_text j.hook t) (steps_text t.most j.budget)

-- how many packets weren't judged for each reason, beside these rows
abbrev pub reasons_beside : Judged → Totals → Reasons
reasons_beside j t = reasons_of j.hook j.address j.packets t.rows

-- the same, and which packets weren't judged; or why none was
abbrev pub plain_sums : Judged → Totals → List ℕ
plain_sums j t =
    (if t.rows == 0 then none_text j.hook j.address j.packets
    else judged_text j t ++ others_line (parts_text j.hook (reasons_beside j t)))

-- how many verdicts grant and refuse, in JSON
abbrev pub json_counts : Hook → Totals → List ℕ
json_counts Association t =
    codes ",\"admit\":" ++ (decimal t.granted ++ (codes ",\"refuse\":" ++ decimal t.refused))
json_counts Addba t =
    codes ",\"grant\":" ++ (decimal t.granted ++ (codes ",\"decline\":" ++ decimal t.refused))
json_counts Data t =
    codes ",\"pass\":" ++ (decimal t.granted ++ (codes ",\"marked\":"
    ++ (decimal t.marked ++ (codes ",\"drop\":"
    ++ decimal t.refused))))

-- in how many steps
abbrev pub json_steps : ℕ → ℕ → List ℕ
json_steps most budget =
    codes ",\"steps\":" ++ (decimal most ++ (codes ",\"budget\":" ++ decimal budget))

-- how many packets were judged, how, and in how many steps, as the beginning of an object
abbrev pub json_judged : ℕ → ℕ → List ℕ → List ℕ → List ℕ
json_judged judged packets counts steps =
    codes "{\"judged\":" ++ (decimal judged ++ (codes ",\"packets\":" ++ (decimal packets ++ (counts ++ steps))))

-- the same of rows
abbrev pub json_rows : Judged → Totals → List ℕ
json_rows j t =
    json_judged t.rows (length j.packets) (json_counts j.hook t) (json_steps t.most j.budget)

-- all sums as a line of JSON
abbrev pub json_sums : Judged → Totals → List ℕ
json_sums j t = json_rows j t ++ json_reasons (reasons_beside j t)

-- the sums in either form
abbrev pub totals_text : Judged → Totals → Bool → List ℕ
totals_text j t true = json_sums j t
totals_text j t false = plain_sums j t

-- those of rows
abbrev pub sums_text : Judged → List Row → Bool → List ℕ
sums_text j rows json = totals_text j (totals_of rows) json
