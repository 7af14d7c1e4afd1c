-- Entries that are read on each use.
use Rattle.std.specs.Prelude.{ℕ, List, [], drop, Option, Some, None}
use Rattle.bpf_cert_format.specs.Reading.{entry_at}
use Rattle.bpf_cert_format.specs.Views.{EntryView}

-- The bytes of entries, and the number of maps.
pub record TextView : Type 0 where
  pub maps : ℕ
  pub bytes : List ℕ

-- A position in a text.
pub record UnreadView : Type 0 where
  pub text : TextView
  pub place : ℕ

-- the entry that was read, or an empty one
abbrev pub entry_read : Option (EntryView × List ℕ) → EntryView
entry_read None = record { pc = 0; budget = 0; least = 0; rooms = []; frames = [] }
entry_read (Some x) = x.0

-- the entry that the bytes spell at the position
abbrev pub entry_from : UnreadView → EntryView
entry_from u = entry_read (entry_at u.text.maps (drop u.place u.text.bytes))
