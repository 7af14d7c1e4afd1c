-- Rows that are taken, one after another.
use Rattle.std.specs.Prelude.{◌≡◌, ℕ, List, [], ◌∷◌}
use Rattle.apd_eval.specs.Metered.{Metered}
use Rattle.bpf_machine.specs.Verified.{Verified}
use Rattle.capture.specs.Packets.{Seen}
use Rattle.ap_model.specs.Readings.{Config}
use Rattle.apd_eval.specs.Again.{frame_at}
use Rattle.apd_eval.specs.Asked.{IsFollowed}
use Rattle.apd_eval.specs.Evaluated.{IsEvaluated}
use Rattle.apd_eval.specs.declared.row.Row.{Row}
use Rattle.apd_eval.specs.declared.tried.Policy.{Policy}

-- these rows are taken, one after another, each with the frame of its packet's number
abbrev pub TakesAll : {S : Type 0} → (S → Row → List ℕ → S → Type 0) → (ℕ → List ℕ) → S → List Row → S → Type 0
TakesAll {S} takes frames s [] t = t ≡ s
TakesAll {S} takes frames s (row ∷ rows) t = (mid : S) × takes s row (frames row.packet) mid × TakesAll takes frames mid rows t

-- the rows of a whole capture at a new access point are taken
pub record IsHandedOn {S : Type 0} (takes : S → Row → List ℕ → S → Type 0) (p : Policy) (config : Config) (packets : List Seen) (h : Metered) (s : S) (h' : Metered) (t : S) : Type 0 where
  pub rows : List Row
  pub followed : IsFollowed p config packets h rows h'
  pub taken : TakesAll takes (frame_at packets) s rows t

-- the rows of a capture, judged by a program, are taken
pub record AreTaken {S : Type 0} (takes : S → Row → List ℕ → S → Type 0) (v : Verified) (draw : ℕ) (config : Config) (packets : List Seen) (s t : S) : Type 0 where
  pub rows : List Row
  pub evaluated : IsEvaluated v draw config packets rows
  pub taken : TakesAll takes (frame_at packets) s rows t
