-- What a run prints, and what its capture has in the end.
use Rattle.std.proofs.Common.{◌≡◌, ◌<◌, ℕ, arith, inl, inr, List, [], ◌∷◌, ◌++◌, Option, Some, None, refl, sym, ap, subst, ◌∙◌, append_assoc}
use Rattle.bpf_regions.specs.declared.maps.Shape.{Shape}
use Rattle.apd_files.specs.Held.{Held, Holds}
use Rattle.apd_script.specs.Asked.{Asked}
use Rattle.apd_script.specs.Script.{IsScript}
use Rattle.apd_driver.specs.Captures.{Interval, KeepsWhole, RecordsAll}
use Rattle.apd_driver.specs.Capturing.{Begins, Recorded, Records}
use Rattle.apd_driver.specs.Shows.{IsBroken}
use Rattle.apd_driver.specs.declared.reports.report.Form.{Form}
use Rattle.apd_run.specs.Captured.{IsCaptureOf, KeepsCapture, KeepsScript}

no_low : (status : ℕ) → IsBroken status → status < 2 → ⊥
no_low status (inl two) low = omega (arith, two, low)
no_low status (inr three) low = omega (arith, three, low)

-- a status of 2 or 3 isn't 0 or 1
pub if_low : {X : Type 0} → (status : ℕ) → IsBroken status → status < 2 → X
if_low status broken low = absurd (no_low status broken low)

-- a capture that had these bytes and others behind them, after one interval: the same behind the others alone
record BehindOne (held bytes : List ℕ) (time : ℕ) (after : Recorded) (i : Interval) : Type 0 where
  pub new : List ℕ
  pub late : ℕ
  pub records : Records (Some (Some bytes, time)) (Some (Some new, late)) i.commands i.printed
  pub same : after ≡ Some (Some (held ++ new), late)

-- the same after intervals
record Behind (held bytes : List ℕ) (time : ℕ) (after : Recorded) (is : List Interval) : Type 0 where
  pub new : List ℕ
  pub late : ℕ
  pub records : RecordsAll (Some (Some bytes, time)) (Some (Some new, late)) is
  pub same : after ≡ Some (Some (held ++ new), late)

behind_one : (held bytes : List ℕ) (time : ℕ) (after : Recorded) (i : Interval) → Records (Some (Some (held ++ bytes), time)) after i.commands i.printed → BehindOne held bytes time after i
behind_one held bytes time None i h = absurd h
behind_one held bytes time (Some (None, late)) i h = absurd h.0
behind_one held bytes time (Some (Some new, late)) i h =
    record { new = bytes ++ _; late = late; records = (refl, h.1); same = ap (λ (l : List ℕ). Some (Some l, late)) (h.0 ∙ append_assoc held bytes _) }

behind : (held bytes : List ℕ) (time : ℕ) (after : Recorded) (is : List Interval) → RecordsAll (Some (Some (held ++ bytes), time)) after is → Behind held bytes time after is
behind held bytes time after [] h = record { new = bytes; late = time; records = refl; same = h }
behind held bytes time after (i ∷ is) h =
    let one = behind_one held bytes time h.0 i h.1 in
    let all = behind held one.new one.late after is (subst (λ (r : Recorded). RecordsAll r after is) one.same h.2) in
    record { new = all.new; late = all.late; records = (Some (Some one.new, one.late), one.records, all.records); same = all.same }

-- the same intervals of a capture to which no time has passed
at_start : (bytes new : List ℕ) (time late : ℕ) (is : List Interval) → time ≡ 0 → RecordsAll (Some (Some bytes, time)) (Some (Some new, late)) is → RecordsAll (Some (Some bytes, 0)) (Some (Some new, late)) is
at_start bytes new time late is zero h = subst (λ (t : ℕ). RecordsAll (Some (Some bytes, t)) (Some (Some new, late)) is) zero h

captured_known : (held bytes : List ℕ) (time begun : ℕ) (after : Recorded) (is : List Interval) → Begins (Some (Some held, time)) (Some (Some bytes, begun)) → RecordsAll (Some (Some bytes, begun)) after is
    → IsCaptureOf (Some (Some held, time)) after is
captured_known held bytes time begun after is (inl appended, same) h =
    let all = behind held _ begun after is (subst (λ (l : List ℕ). RecordsAll (Some (Some l, begun)) after is) appended h) in
    subst (λ (r : Recorded). IsCaptureOf (Some (Some held, time)) r is) (sym all.same)
    (λ zero. (all.new, (all.late, at_start _ all.new begun all.late is (same ∙ zero) all.records), inl refl))
captured_known held bytes time begun after is (inr alone, same) h =
    let all = behind [] _ begun after is (subst (λ (l : List ℕ). RecordsAll (Some (Some l, begun)) after is) alone h) in
    subst (λ (r : Recorded). IsCaptureOf (Some (Some held, time)) r is) (sym all.same)
    (λ zero. (all.new, (all.late, at_start _ all.new begun all.late is (same ∙ zero) all.records), inr refl))

no_heading : (held : List ℕ) (time begun : ℕ) → Begins (Some (Some held, time)) (Some (None, begun)) → ⊥
no_heading held time begun (inl appended, same) = appended
no_heading held time begun (inr alone, same) = alone

-- a capture that begins, and then gets the packets of intervals, is that of these intervals
captured : (before begun after : Recorded) (is : List Interval) → Begins before begun → RecordsAll begun after is → IsCaptureOf before after is
captured None begun after is b h = tt
captured (Some (None, time)) begun after is b h = tt
captured (Some (Some held, time)) None after is b h = absurd b
captured (Some (Some held, time)) (Some (None, t)) after is b h = absurd (no_heading held time t b)
captured (Some (Some held, time)) (Some (Some bytes, t)) after is b h = captured_known held bytes time t after is b h

-- a whole run whose capture begins before it, which prints nothing
pub keeps_capture : {known : Type 0} {form : Form} {script : Option (List (ℕ × Asked))} {old mid new : Option (List ℕ)} {before begun after : Recorded} → mid ≡ old → (known → Begins before begun)
    → KeepsWhole form script mid new begun after → KeepsCapture known form script old new before after
keeps_capture {known} {form} {script} {old} {mid} {new} {before} {begun} {after} same begins whole =
    let w : KeepsWhole form script old new begun after = subst (λ (o : Option (List ℕ)). KeepsWhole form script o new begun after) same whole in
    record { begun = begun; begins = begins; whole = w; capture = λ known. captured before begun after w.keeps.keeps.intervals (begins known) w.keeps.keeps.records }

-- the same of a script that was read from a file
pub keeps_read : (files : Held) {files1 : Held} {path : List ℕ} {known : Type 0} {form : Form} {text text1 : List ℕ} {shapes : List Shape} {lines : List (ℕ × Asked)} {script : Option (List (ℕ × Asked))}
    {old mid new : Option (List ℕ)} {before begun after : Recorded} → files1 ≡ files → Holds files1 path text → text1 ≡ text → IsScript shapes text1 lines → script ≡ Some lines → mid ≡ old
    → (known → Begins before begun) → KeepsWhole form script mid new begun after → KeepsScript files path known form old new before after
keeps_read files {files1} {path} {known} {form} {text} {text1} {shapes} {lines} {script} {old} {mid} {new} {before} {begun} {after} first holds text_is is_script lines_are same begins whole =
    record {
      shapes = shapes;
      lines = lines;
      is_script = record {
        text = text;
        holds = subst (λ (f : Held). Holds f path text) first holds;
        is_script = subst (λ (t : List ℕ). IsScript shapes t lines) text_is is_script;
      };
      keeps = keeps_capture same begins (subst (λ (s : Option (List (ℕ × Asked))). KeepsWhole form s mid new begun after) lines_are whole);
    }
