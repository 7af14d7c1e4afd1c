-- Frames by the result of their class check, and bytes that aren't a frame.
use Rattle.std.proofs.Common.{◌≡◌, ℕ, Bool, List, [], sym, subst}
use Rattle.mac_frame.specs.declared.fault.FrameFault.{FrameFault}
use Rattle.mac_frame.specs.declared.fault.FrameFault.TheVariants as answers
use Rattle.mac_frame.specs.Faults.{first_fault}
use Rattle.mac_frame.specs.Reading.{IsFault}
use Rattle.mac_frame.specs.Spelling.{Frame, IsFrame, spelling}
use Rattle.assoc.specs.declared.class.ClassAnswer.{ClassAnswer}
use Rattle.ap_model.specs.declared.event.Out.{Out}
use Rattle.ap_model.specs.Asks.{Ask}
use Rattle.ap_model.specs.Readings.{Readings, Rules}
use Rattle.ap_model.specs.Steps.{Checked, check_of, FrameComes, IsOurs, ours, faulty}
use Rattle.ap_core.specs.Noted.{IsNoted}
use Rattle.ap_core.specs.Telling.{Tells}
use Rattle.ap_core.proofs.Handling.{settled, told_by}

module _ {S : Type 0} (R : S → Ask → ℕ → S → Type 0) (c : Rules) (r r2 : Readings) (f : Frame) (j j2 : S) (outs : List Out) (dropped : Bool) where
  -- by the result of the class check
  pub told_checked : (answer : ClassAnswer) → check_of c r f ≡ answer → Tells R (λ asks outs. Checked c r f answer asks outs r2) j outs dropped j2 →
      Tells R (λ asks outs. Checked c r f (check_of c r f) asks outs r2) j outs dropped j2
  told_checked answer e h = told_by (λ asked x. subst (λ t. Checked c r f t asked outs r2) (sym e) x) h

  -- a frame for this access point
  pub told_ours : (bytes : List ℕ) → IsFrame f → bytes ≡ spelling f → IsOurs c f → Tells R (λ asks outs. Checked c r f (check_of c r f) asks outs r2) j outs dropped j2 →
      Tells R (λ asks outs. FrameComes c r bytes asks outs r2) j outs dropped j2
  told_ours bytes g e o h = told_by (λ asked x. ours f g e o x) h

-- bytes that aren't a frame
pub unread_so : (c : Rules) (r : Readings) (bytes : List ℕ) (e : FrameFault) (outs : List Out) → IsFault e (first_fault bytes) → IsNoted e outs → FrameComes c r bytes [] outs r
unread_so c r bytes answers.Memory outs f n = absurd n
unread_so c r bytes (answers.Fault fault) outs f n = faulty fault f (settled _ outs r n)
