-- What the program does where memory is short.
use Rattle.std.proofs.Common.{◌≡◌, ◌<◌, ℕ, Bool, List, Option, arith, inr, refl}
use Rattle.apd_run.specs.NewRuns.{NotRead}
use Rattle.apd_files.specs.Held.{Held}
use Rattle.apd_words.specs.Asked.{Wanted, Run as RunWanted, Live as LiveWanted, Answer as AnswerWanted}
use Rattle.apd_words.specs.declared.Told.{Told}
use Rattle.apd_words.specs.declared.Told.TheVariants as told
use Rattle.apd_program.specs.Program.{Exhausted, Tells}
use Rattle.apd_program.proofs.Kept.{Keeps-same}
use Rattle.apd_entry.specs.Captured.{lines_known}
use Rattle.apd_entry.specs.Fulfilled.{Fulfils}
use Rattle.apd_entry.proofs.Formed.{lives_nothing}

Fulfils-nothing : (shown : Bool) (files : Held) (w : Wanted) (o : Option (List ℕ)) → Fulfils shown files w o o 3
Fulfils-nothing shown files (AnswerWanted a output) o = Exhausted (Keeps-same o)
Fulfils-nothing shown files (RunWanted config script workers states work quiet strict verbose capture replaces) o = NotRead 3 refl (inr refl)
Fulfils-nothing shown files (LiveWanted config workers states work strict verbose clock events color capture replaces) o = lives_nothing files states work config shown strict events color (lines_known capture o) 3 (inr refl)

-- words that always make a request are reported only for lack of memory
pub Fulfils-told : (shown : Bool) (files : Held) (w : Wanted) (t : Told) (old new : Option (List ℕ)) (status : ℕ) → t ≡ told.NoMemory → Tells t old new status → Fulfils shown files w old new status
Fulfils-told shown files w (told.Help text) old new status e tells = cc
Fulfils-told shown files w (told.Fault text) old new status e tells = cc
Fulfils-told shown files w told.NoMemory old new status e tells = rw (tells.0, tells.1) (Fulfils-nothing shown files w old)

-- then the status says so
pub told_in_vain : (t : Told) (old new : Option (List ℕ)) (status : ℕ) → t ≡ told.NoMemory → Tells t old new status → status < 2 → ⊥
told_in_vain (told.Help text) old new status e tells few = cc
told_in_vain (told.Fault text) old new status e tells few = cc
told_in_vain told.NoMemory old new status e tells few = let is = tells.1 in omega (arith, is, few)
