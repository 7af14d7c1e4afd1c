-- Where an answer goes, by the file named for it and by whether it is an output.
use Rattle.std.proofs.Common.{◌≡◌, ◌∙◌, ℕ, Bool, true, false, List, Option, Some, None, Result, Ok, Err, if◌then◌else◌, refl, sym, subst}
use Rattle.std.specs.Io.KnownBytes.{Keeps}
use Rattle.std.specs.Result.{IfOk, IfErr, OnOk}
use Rattle.apd_files.specs.Beginning.{AppendsBeginning}
use Rattle.apd_files.specs.Held.{Saved, Saves}
use Rattle.apd_program.specs.Delivered.{GoesOut, IsForFile, Delivers, Stored, Begun, Unstored, Nothing, Stores, OneFile, BrokenFile, NoFile}
use Rattle.apd_program.specs.Lines.{printed, status_of, is_output}
use Rattle.apd_program.specs.declared.answer.Answer.{Answer}
use Rattle.apd_program.specs.declared.output.Undelivered.{Undelivered}
use Rattle.apd_program.specs.declared.output.Undelivered.TheVariants.{NoMemory, Unwritten, Unsaved}
use Rattle.apd_program.proofs.Kept.{Keeps-same}

unnamed : (path : List ℕ) → Some path ≡ None → ⊥
unnamed path e = cc

pub for_file : (output : Option (List ℕ)) (is_output : Bool) (path : List ℕ) → Some path ≡ (if is_output then output else None) → IsForFile output is_output
for_file None true path e = absurd (unnamed path e)
for_file (Some p) true path e = refl
for_file output false path e = absurd (unnamed path e)

pub is_named : (output : Option (List ℕ)) (is_output : Bool) (path : List ℕ) → Some path ≡ (if is_output then output else None) → output ≡ Some path
is_named None true path e = absurd (unnamed path e)
is_named (Some p) true path e = cc
is_named output false path e = absurd (unnamed path e)

pub goes : (output : Option (List ℕ)) (is_output : Bool) (path : List ℕ) → Some path ≡ (if is_output then output else None) → is_output ≡ true
goes output true path e = refl
goes output false path e = absurd (unnamed path e)

pub goes_out : (output : Option (List ℕ)) (is_output : Bool) → None ≡ (if is_output then output else None) → GoesOut output is_output
goes_out None is_output e = tt
goes_out (Some p) true e = cc
goes_out (Some p) false e = refl

-- an answer that wasn't printed whole
pub unprinted : (a : Answer) (output old new : Option (List ℕ)) (e : Undelivered) → AppendsBeginning old new (printed a) → (e ≡ NoMemory → Keeps old new) → Delivers a output old new (Err e)
unprinted a output old new NoMemory begun memory = Nothing (memory refl)
unprinted a output old new (Unwritten why) begun memory = Begun (Unwritten why) (λ same. cc) begun
unprinted a output old new (Unsaved why) begun memory = Begun (Unsaved why) (λ same. cc) begun

-- an answer for a file leaves standard output as it is
pub stored : (a : Answer) (output o : Option (List ℕ)) (status : ℕ) (r : Result ℕ Undelivered) → IsForFile output (is_output a) → status ≡ status_of a → IfOk r (λ n. n ≡ status) → Delivers a output o o r
stored a output o status (Ok n) for is same =
    let P : ℕ → Type 0 = λ k. Delivers a output o o (Ok k) in
    subst P (sym (same ∙ is)) (Stored for (Keeps-same o))
stored a output o status (Err NoMemory) for is same = Nothing (Keeps-same o)
stored a output o status (Err (Unwritten why)) for is same = Unstored (Unwritten why) (λ e. cc) for (Keeps-same o)
stored a output o status (Err (Unsaved why)) for is same = Unstored (Unsaved why) (λ e. cc) for (Keeps-same o)

-- what the file gets
pub stores : (a : Answer) (output : Option (List ℕ)) (path : List ℕ) (old new : Saved) (r : Result ℕ Undelivered) → output ≡ Some path → is_output a ≡ true → IsForFile output (is_output a)
    → OnOk r (Saves path (printed a) old new) → IfErr r (λ e. e ≡ NoMemory → new ≡ old) → Stores a output old new r
stores a output path old new (Ok n) named is for saves memory = OneFile path named is saves
stores a output path old new (Err NoMemory) named is for saves memory = NoFile (memory refl)
stores a output path old new (Err (Unwritten why)) named is for saves memory = BrokenFile (Unwritten why) refl for
stores a output path old new (Err (Unsaved why)) named is for saves memory = BrokenFile (Unsaved why) refl for
