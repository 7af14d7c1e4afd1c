-- From what was printed to what the program did.
use Rattle.std.proofs.Common.{◌≡◌, ◌≢◌, ◌∙◌, ◌⊎◌, ◌≤◌, ℕ, true, false, List, Option, Result, Err, inl, inr, refl, sym, subst, arith}
use Rattle.std.specs.Io.KnownBytes.{Keeps}
use Rattle.clap.specs.declared.builder.value_parser.ValueParser.{ValueParser}
use Rattle.apd_words.specs.Asked.{Asked, Wanted, Run as RunWanted, Live as LiveWanted, Answer as AnswerWanted}
use Rattle.apd_words.specs.Reads.{TellsOf}
use Rattle.apd_words.specs.declared.Told.{Told}
use Rattle.apd_words.specs.declared.Told.TheVariants as told
use Rattle.apd_program.specs.declared.answer.Answer.{Answer}
use Rattle.apd_program.specs.declared.answer.Answer.TheVariants.{Accepted, Code, Instructions, RefusedGraph, Run, Verdicts, Differences, CutVerdicts, Page, Script, CutScript, Tested, Help, Fault, Refused, LineFault, Certificate, Unaccepted}
use Rattle.apd_program.specs.declared.fault.ProgramFault.{ProgramFault}
use Rattle.apd_program.specs.declared.fault.ProgramFault.TheVariants as fault
use Rattle.apd_program.specs.Lines.{status_of}
use Rattle.apd_files.specs.Held.{Held}
use Rattle.apd_program.specs.Answers.{IsAnswer, HasNoAnswer}
use Rattle.apd_program.specs.Printed.{WholeText, BeginningOfText, fault_status}
use Rattle.apd_program.specs.Delivered.{Delivers, Printed, Stored, Begun, Unstored, Nothing, status_after}
use Rattle.apd_program.specs.declared.output.Undelivered.{Undelivered}
use Rattle.apd_program.specs.declared.output.Undelivered.TheVariants as undelivered
use Rattle.apd_program.specs.Program.{Performs, Wrote, Saved, Stopped, Unsaved, Refrained, Exhausted, Responds, Tells, Does, Complained, Helped, StoppedHelp}
use Rattle.apd_program.proofs.Kept.{Keeps-same}

-- a failed write has status 2
failed : (e : Undelivered) → e ≢ undelivered.NoMemory → status_after (Err e) ≡ 2
failed undelivered.NoMemory other = absurd (other refl)
failed (undelivered.Unwritten why) other = refl
failed (undelivered.Unsaved why) other = refl

pub Performs-delivered : (files : Held) (a : Asked) (answer : Answer) (output old new : Option (List ℕ)) (r : Result ℕ Undelivered) (status : ℕ) → IsAnswer files a answer → Delivers answer output old new r → status ≡ status_after r
    → Performs files a output old new status
Performs-delivered files a answer output old new r status is (Printed goes written) e = rw e (Wrote answer is goes written)
Performs-delivered files a answer output old new r status is (Stored stored kept) e = rw e (Saved answer is stored kept)
Performs-delivered files a answer output old new r status is (Begun u other written) e = rw (e ∙ failed u other) (Stopped answer is written)
Performs-delivered files a answer output old new r status is (Unstored u other stored kept) e = rw (e ∙ failed u other) (Unsaved answer is stored kept)
Performs-delivered files a answer output old new r status is (Nothing kept) e = rw e (Exhausted kept)

complained : (files : Held) (a : Asked) (output o : Option (List ℕ)) (f : ProgramFault) → (f ≡ fault.NoMemory) ⊎ HasNoAnswer files a → Performs files a output o o (fault_status f)
complained files a output o fault.NoMemory h = Exhausted (Keeps-same o)
complained files a output o (fault.Unreadable path why) (inl memory) = cc
complained files a output o (fault.NoCode path f) (inl memory) = cc
complained files a output o (fault.Capture path f) (inl memory) = cc
complained files a output o (fault.NoPage word ranges) (inl memory) = cc
complained files a output o (fault.Context why) (inl memory) = cc
complained files a output o fault.NoThreads (inl memory) = cc
complained files a output o fault.NoStyle (inl memory) = cc
complained files a output o fault.NoColours (inl memory) = cc
complained files a output o (fault.NoCommand name) (inl memory) = cc
complained files a output o (fault.NoDigits path) (inl memory) = cc
complained files a output o (fault.OddDigits path) (inl memory) = cc
complained files a output o (fault.Config path f) (inl memory) = cc
complained files a output o fault.LongFrame (inl memory) = cc
complained files a output o fault.NoConfig (inl memory) = cc
complained files a output o fault.TwoPrograms (inl memory) = cc
complained files a output o fault.NoAddress (inl memory) = cc
complained files a output o (fault.Several path) (inl memory) = cc
complained files a output o (fault.Cases path line why) (inl memory) = cc
complained files a output o (fault.Unreadable path why) (inr h) = Refrained h (Keeps-same o)
complained files a output o (fault.NoCode path f) (inr h) = Refrained h (Keeps-same o)
complained files a output o (fault.Capture path f) (inr h) = Refrained h (Keeps-same o)
complained files a output o (fault.NoPage word ranges) (inr h) = Refrained h (Keeps-same o)
complained files a output o (fault.Context why) (inr h) = Refrained h (Keeps-same o)
complained files a output o fault.NoThreads (inr h) = Refrained h (Keeps-same o)
complained files a output o fault.NoStyle (inr h) = Refrained h (Keeps-same o)
complained files a output o fault.NoColours (inr h) = Refrained h (Keeps-same o)
complained files a output o (fault.NoCommand name) (inr h) = Refrained h (Keeps-same o)
complained files a output o (fault.NoDigits path) (inr h) = Refrained h (Keeps-same o)
complained files a output o (fault.OddDigits path) (inr h) = Refrained h (Keeps-same o)
complained files a output o (fault.Config path f) (inr h) = Refrained h (Keeps-same o)
complained files a output o fault.LongFrame (inr h) = Refrained h (Keeps-same o)
complained files a output o fault.NoConfig (inr h) = Refrained h (Keeps-same o)
complained files a output o fault.TwoPrograms (inr h) = Refrained h (Keeps-same o)
complained files a output o fault.NoAddress (inr h) = Refrained h (Keeps-same o)
complained files a output o (fault.Several path) (inr h) = Refrained h (Keeps-same o)
complained files a output o (fault.Cases path line why) (inr h) = Refrained h (Keeps-same o)

pub Performs-complained : (files : Held) (a : Asked) (output o : Option (List ℕ)) (f : ProgramFault) (status : ℕ) → (f ≡ fault.NoMemory) ⊎ HasNoAnswer files a → status ≡ fault_status f → Performs files a output o o status
Performs-complained files a output o f status h is = rw is (complained files a output o f h)

status_within : (answer : Answer) → status_of answer ≤ 2
status_within (Accepted budget) = omega arith
status_within (Code code) = omega arith
status_within (Instructions text) = omega arith
status_within (RefusedGraph text e) = omega arith
status_within (Run text) = omega arith
status_within (Verdicts text) = omega arith
status_within (Differences text true) = omega arith
status_within (Differences text false) = omega arith
status_within (CutVerdicts text f) = omega arith
status_within (Page text) = omega arith
status_within (Script text) = omega arith
status_within (CutScript text f) = omega arith
status_within (Tested text true) = omega arith
status_within (Tested text false) = omega arith
status_within (Help text) = omega arith
status_within (Fault e) = omega arith
status_within (Refused e) = omega arith
status_within (LineFault e) = omega arith
status_within (Certificate bytes) = omega arith
status_within (Unaccepted e) = omega arith

Performs-status : (files : Held) (a : Asked) (output old new : Option (List ℕ)) (status : ℕ) → Performs files a output old new status → status ≤ 3
Performs-status files a output old new status (Wrote answer is goes written) = omega (arith, status_within answer)
Performs-status files a output old new status (Saved answer is stored kept) = omega (arith, status_within answer)
Performs-status files a output old new status (Stopped answer is written) = omega arith
Performs-status files a output old new status (Unsaved answer is stored kept) = omega arith
Performs-status files a output old new status (Refrained h kept) = omega arith
Performs-status files a output old new status (Exhausted kept) = omega arith

Performs-memory : (files : Held) (a : Asked) (output old new : Option (List ℕ)) (status : ℕ) → Performs files a output old new status → status ≡ 3 → Keeps old new
Performs-memory files a output old new status (Wrote answer is goes written) e = absurd (omega (arith, status_within answer, e))
Performs-memory files a output old new status (Saved answer is stored kept) e = kept
Performs-memory files a output old new status (Stopped answer is written) e = absurd (omega (arith, e))
Performs-memory files a output old new status (Unsaved answer is stored kept) e = kept
Performs-memory files a output old new status (Refrained h kept) e = kept
Performs-memory files a output old new status (Exhausted kept) e = kept

-- bytes that are the same are kept
kept_same : (old new : Option (List ℕ)) → new ≡ old → Keeps old new
kept_same old new same = let P : Option (List ℕ) → Type 0 = λ o. Keeps old o in subst P (sym same) (Keeps-same old)

two_or_three : (status : ℕ) → (status ≡ 2) ⊎ (status ≡ 3) → status ≤ 3
two_or_three status (inl e) = omega (arith, e)
two_or_three status (inr e) = omega (arith, e)

pub Responds-status : (files : Held) (w : Wanted) (old new : Option (List ℕ)) (status : ℕ) → Responds files w old new status → status ≤ 3
Responds-status files (AnswerWanted a output) old new status h = Performs-status files a output old new status h
Responds-status files (RunWanted config script workers states work quiet strict verbose capture replaces) old new status h = two_or_three status h.1
Responds-status files (LiveWanted config workers states work strict verbose clock events color capture replaces) old new status h = two_or_three status h.1

pub Responds-memory : (files : Held) (w : Wanted) (old new : Option (List ℕ)) (status : ℕ) → Responds files w old new status → status ≡ 3 → Keeps old new
Responds-memory files (AnswerWanted a output) old new status h e = Performs-memory files a output old new status h e
Responds-memory files (RunWanted config script workers states work quiet strict verbose capture replaces) old new status h e = kept_same old new h.0
Responds-memory files (LiveWanted config workers states work strict verbose clock events color capture replaces) old new status h e = kept_same old new h.0

-- unchanged output with status 3 is a response to any request
pub Responds-nothing : (files : Held) (w : Wanted) (o : Option (List ℕ)) → Responds files w o o 3
Responds-nothing files (AnswerWanted a output) o = Exhausted (Keeps-same o)
Responds-nothing files (RunWanted config script workers states work quiet strict verbose capture replaces) o = (refl, inr refl)
Responds-nothing files (LiveWanted config workers states work strict verbose clock events color capture replaces) o = (refl, inr refl)

-- words that always make a request are reported only for lack of memory
pub Responds-told : (files : Held) (w : Wanted) (t : Told) (old new : Option (List ℕ)) (status : ℕ) → t ≡ told.NoMemory → Tells t old new status → Responds files w old new status
Responds-told files w (told.Help text) old new status e tells = cc
Responds-told files w (told.Fault text) old new status e tells = cc
Responds-told files w told.NoMemory old new status e tells = rw (tells.0, tells.1) (Responds-nothing files w old)

pub Tells-status : (t : Told) (old new : Option (List ℕ)) (status : ℕ) → Tells t old new status → status ≤ 3
Tells-status (told.Help text) old new status (WholeText written) = omega arith
Tells-status (told.Help text) old new status (BeginningOfText written) = omega arith
Tells-status (told.Fault text) old new status h = omega (arith, h.1)
Tells-status told.NoMemory old new status h = omega (arith, h.1)

pub Tells-memory : (t : Told) (old new : Option (List ℕ)) (status : ℕ) → Tells t old new status → status ≡ 3 → Keeps old new
Tells-memory (told.Help text) old new status (WholeText written) e = absurd (omega (arith, e))
Tells-memory (told.Help text) old new status (BeginningOfText written) e = absurd (omega (arith, e))
Tells-memory (told.Fault text) old new status h e = kept_same old new h.0
Tells-memory told.NoMemory old new status h e = kept_same old new h.0

module _ (hooks numbers : ValueParser) (words : List (List ℕ)) (files : Held) where
  pub Does-told : (t : Told) (old new : Option (List ℕ)) (status : ℕ) → TellsOf hooks numbers words t → Tells t old new status → Does hooks numbers words files old new status
  Does-told (told.Help text) old new status help (WholeText written) = Helped _ help written
  Does-told (told.Help text) old new status help (BeginningOfText written) = StoppedHelp _ help written
  Does-told (told.Fault text) old new status nothing h = rw h.1 (Complained nothing (kept_same old new h.0))
  Does-told told.NoMemory old new status nothing h = rw h.1 (Exhausted (kept_same old new h.0))
