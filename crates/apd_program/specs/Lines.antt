-- What is printed for an answer, and its status.
use Rattle.std.specs.Prelude.{ℕ, ◌/◌, Bool, true, false, List, ◌++◌, length, codes, decimal, string_bytes, if◌then◌else◌}
use Rattle.bpf_decode.specs.Answer.{fault_text}
use Rattle.bpf_verifier.specs.Refusals.{refusal_text}
use Rattle.bpf_text.specs.Refusals as line
use Rattle.bpf_cert.specs.Limits as certificate
use Rattle.hex.specs.Hex.{encode_lower}
use Rattle.apd_program.specs.Slots.{line_of, slot_lines}
use Rattle.apd_program.specs.declared.answer.Answer.{Answer}
use Rattle.apd_program.specs.declared.answer.Answer.TheVariants.{Accepted, Code, Instructions, RefusedGraph, Run, Verdicts, Differences, CutVerdicts, Page, Script, CutScript, Tested, Help, Fault, Refused, LineFault, Certificate, Unaccepted}

-- the printed text of an answer
abbrev pub printed : Answer → List ℕ
printed (Accepted budget) = line_of (codes "accepted budget " ++ decimal budget)
printed (Code code) = slot_lines (length code.items / 8) code.items
printed (Instructions text) = string_bytes text
printed (RefusedGraph text e) = string_bytes text
printed (Run text) = string_bytes text
printed (Verdicts text) = string_bytes text
printed (Differences text differs) = string_bytes text
printed (CutVerdicts text fault) = string_bytes text
printed (Page text) = string_bytes text
printed (Script text) = text
printed (CutScript text fault) = text
printed (Tested text is_good) = string_bytes text
printed (Help text) = string_bytes text
printed (Fault e) = line_of (fault_text e)
printed (Refused e) = line_of (refusal_text e)
printed (LineFault e) = line_of (line.text_of e)
printed (Certificate bytes) = line_of (encode_lower bytes.items)
printed (Unaccepted e) = line_of (codes "certificate " ++ decimal (certificate.number_within e))

-- 0 for a success, 1 for a refusal, a failed case, verdicts that differ or the script of a cut capture, 2 for verdicts on
-- a cut capture
abbrev pub status_of : Answer → ℕ
status_of (Accepted budget) = 0
status_of (Code code) = 0
status_of (Instructions text) = 0
status_of (RefusedGraph text e) = 1
status_of (Run text) = 0
status_of (Verdicts text) = 0
status_of (Differences text differs) = (if differs then 1 else 0)
status_of (CutVerdicts text fault) = 2
status_of (Page text) = 0
status_of (Script text) = 0
status_of (CutScript text fault) = 1
status_of (Tested text is_good) = (if is_good then 0 else 1)
status_of (Help text) = 0
status_of (Fault e) = 1
status_of (Refused e) = 1
status_of (LineFault e) = 1
status_of (Certificate bytes) = 0
status_of (Unaccepted e) = 1

-- it is what was asked for, whatever its status, and not a refusal
abbrev pub is_output : Answer → Bool
is_output (Fault e) = false
is_output (Refused e) = false
is_output (LineFault e) = false
is_output (Unaccepted e) = false
is_output _ = true
