-- Certificates as contracts see them: plain values.
use Rattle.std.specs.Prelude.{ℕ, List}
use Rattle.bpf_regions.specs.declared.hooks.Hook.{Hook}
use Rattle.bpf_absval.specs.declared.room.Room.{Room}
use Rattle.bpf_cert_format.specs.declared.frame.Frame.{Frame}

-- An entry: the slot, the budget of the states that it describes, the known least length of the received frame, the
-- bytes known to follow labels, and the call frames, the main function's first.
pub record EntryView : Type 0 where
  pub pc : ℕ
  pub budget : ℕ
  pub least : ℕ
  pub rooms : List Room
  pub frames : List Frame

-- A certificate: the hook, the bytes of the code, and the entries.
pub record CertificateView : Type 0 where
  pub hook : Hook
  pub code : List ℕ
  pub entries : List EntryView
