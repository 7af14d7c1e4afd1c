-- Runs that keep a capture.
use Rattle.std.proofs.Common.{◌≡◌, ◌<◌, ℕ, Bool, true, false, List, Option, Some, None, ap, arith, inl, inr, subst, if◌then◌else◌}
use Rattle.std.specs.Prelude.{IsSome}
use Rattle.apd_files.specs.Held.{Held}
use Rattle.apd_script.specs.Asked.{Asked}
use Rattle.apd_driver.specs.Capturing.{IsKnown, Recorded}
use Rattle.apd_driver.specs.Shows.{IsBroken}
use Rattle.apd_driver.specs.declared.manner.Manner.{Manner}
use Rattle.apd_driver.specs.declared.reports.report.Form.{Form}
use Rattle.apd_run.specs.Captured.{KeepsCapture, KeepsScript}
use Rattle.apd_entry.specs.Captured.{KeepsFormed, KeepsInPlace, KeepsLiveInPlace, is_in_place, lines_known}

-- nothing is known of the lines, if the capture is in their place
pub in_their_place : (P : Option (List ℕ) → Option (List ℕ) → Type 0) (capture old new : Option (List ℕ)) → true ≡ is_in_place capture → P None None → P (lines_known capture old) (lines_known capture new)
in_their_place P capture old new is p =
    let known : (o : Option (List ℕ)) → None ≡ lines_known capture o = λ o. ap (λ (b : Bool). (if b then None else o)) is in
    subst (λ o. P o (lines_known capture new)) (known old) (subst (λ o. P None o) (known new) p)

-- they are known otherwise
pub beside_them : (P : Option (List ℕ) → Option (List ℕ) → Type 0) (capture old new : Option (List ℕ)) → false ≡ is_in_place capture → P old new → P (lines_known capture old) (lines_known capture new)
beside_them P capture old new is p =
    let known : (o : Option (List ℕ)) → o ≡ lines_known capture o = λ o. ap (λ (b : Bool). (if b then None else o)) is in
    subst (λ o. P o (lines_known capture new)) (known old) (subst (λ o. P old o) (known new) p)

-- a capture is known, if what was written to its writer is
pub written_known : (o : Option (List ℕ)) (time : ℕ) → IsSome o → IsKnown (Some (o, time))
written_known (Some bytes) time w = tt
written_known None time w = absurd (cc)

-- what is known of captures, if one thing is, is known of them if another is from which that follows
capture_under : {form : Form} {script : Option (List (ℕ × Asked))} {lines lines2 : Option (List ℕ)} (known known2 : Type 0) {old new : Option (List ℕ)} (time time2 : ℕ)
    → (known2 → known) → time ≡ 0
    → KeepsCapture known form script lines lines2 (Some (old, time)) (Some (new, time2))
    → KeepsCapture known2 form script lines lines2 (Some (old, 0)) (Some (new, time2))
capture_under {form} {script} {lines} {lines2} known known2 {old} {new} time time2 f e k =
    let s : KeepsCapture known form script lines lines2 (Some (old, 0)) (Some (new, time2)) =
    subst (λ (t : ℕ). KeepsCapture known form script lines lines2 (Some (old, t)) (Some (new, time2))) e k in
    record {
      begun = s.begun;
      begins = λ k2. s.begins (f k2);
      whole = s.whole;
      capture = λ k2. s.capture (f k2);
    }

pub keeps_under : (files : Held) (script : List ℕ) (known known2 : Type 0) (manner : Manner) (old new : Option (List ℕ)) (time time2 : ℕ)
    → (known2 → known) → time ≡ 0
    → KeepsScript files script known manner.form None None (Some (old, time)) (Some (new, time2))
    → KeepsInPlace known2 files script manner old new
keeps_under files script known known2 manner old new time time2 f e k =
    (time2, record { shapes = k.shapes; lines = k.lines; is_script = k.is_script; keeps = capture_under known known2 time time2 f e k.keeps })

-- the same of lines as they come
pub formed_under : (form : Option Form) (known known2 : Type 0) (old new : Option (List ℕ)) (time time2 : ℕ)
    → (known2 → known) → time ≡ 0
    → KeepsFormed known form None None (Some (old, time)) (Some (new, time2)) → KeepsLiveInPlace known2 form old new
formed_under None known known2 old new time time2 f e k = absurd k
formed_under (Some form) known known2 old new time time2 f e k = (time2, capture_under known known2 time time2 f e k)

-- a run in a form keeps a capture in that form
pub in_form : (known : Type 0) (form : Form) (named : Option Form) (old new : Option (List ℕ)) (before after : Recorded) → Some form ≡ named
    → KeepsCapture known form None old new before after → KeepsFormed known named old new before after
in_form known form named old new before after is k = subst (λ (f : Option Form). KeepsFormed known f old new before after) is k

-- a status of a fault is not below 2
pub not_few : (status : ℕ) → IsBroken status → status < 2 → ⊥
not_few status (inl two) few = omega (arith, two, few)
not_few status (inr three) few = omega (arith, three, few)
