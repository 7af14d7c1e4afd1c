-- What has a spelling: the range of each field.
use Rattle.std.specs.Prelude.{◌≡◌, ℕ, ◌*◌, ◌<◌, ◌≤◌, ◌^◌, List, [], ◌∷◌, length, Option, Some, None, bit_and}
use Rattle.std.specs.List.{AllByRecursion}
use Rattle.bpf_absnum.specs.Number.{Num}
use Rattle.bpf_absval.specs.declared.value.AbsRegion.{AbsRegion}
use Rattle.bpf_absval.specs.declared.value.AbsRegion.TheVariants as place
use Rattle.bpf_absval.specs.declared.value.AbsVal.{AbsVal}
use Rattle.bpf_absval.specs.declared.value.AbsVal.TheVariants as abs
use Rattle.bpf_absval.specs.declared.value.Label.{Label}
use Rattle.bpf_absval.specs.declared.slot.AbsSlot.{AbsSlot}
use Rattle.bpf_absval.specs.declared.slot.AbsSlot.TheVariants as slot
use Rattle.bpf_absval.specs.declared.room.Room.{Room}
use Rattle.bpf_cert_format.specs.declared.frame.Frame.{Frame}
use Rattle.bpf_cert_format.specs.Views.{EntryView, CertificateView}

-- An abstract number: words in order, no bit both known and unknown. Its parts need not agree.
pub record FitsNumber (n : Num) : Type 0 where
  pub ordered : n.range.low ≤ n.range.high
  pub range : n.range.high < 2 ^ 64
  pub value : n.bits.value < 2 ^ 64
  pub mask : n.bits.mask < 2 ^ 64
  pub apart : bit_and n.bits.value n.bits.mask ≡ 0
  pub signed_ordered : n.signed.low ≤ n.signed.high
  pub signed : n.signed.high < 2 ^ 64

-- a label, and a distance of at most 2400 bytes
pub record FitsLabel (l : Label) : Type 0 where
  pub some : 1 ≤ l.label
  pub label : l.label < 2 ^ 16
  pub distance : l.distance ≤ 2400

-- a label, if there is one, fits
abbrev pub FitsLabels : Option Label → Type 0
FitsLabels None = Unit {0}
FitsLabels (Some l) = FitsLabel l

-- the context, one of that many stack frames, or an entry of one of that many maps
abbrev pub FitsRegion : ℕ → ℕ → AbsRegion → Type 0
FitsRegion maps frames place.Context = Unit {0}
FitsRegion maps frames (place.Stack k) = k < frames
FitsRegion maps frames (place.Entry m) = m < maps

-- a value, for that many maps and stack frames
abbrev pub FitsValue : ℕ → ℕ → AbsVal → Type 0
FitsValue maps frames abs.Unset = Unit {0}
FitsValue maps frames (abs.Number n) = FitsNumber n
FitsValue maps frames (abs.Frame offset l) = FitsNumber offset × FitsLabels l
FitsValue maps frames (abs.Pointer at offset) = FitsRegion maps frames at × FitsNumber offset
FitsValue maps frames abs.FrameEnd = Unit {0}
FitsValue maps frames (abs.MapReference m) = m < maps
FitsValue maps frames (abs.Lookup m) = m < maps

-- a stored value is set: an unset slot is spelled differently
abbrev pub FitsStored : ℕ → ℕ → AbsVal → Type 0
FitsStored maps frames abs.Unset = ⊥
FitsStored maps frames v = FitsValue maps frames v

-- the content of a stack slot fits
abbrev pub FitsCell : ℕ → ℕ → AbsSlot → Type 0
FitsCell maps frames slot.Unset = Unit {0}
FitsCell maps frames (slot.Stored v) = FitsStored maps frames v
FitsCell maps frames (slot.Bytes set) = set < 256

-- one of that many call frames: ten registers, 64 stack slots
pub record FitsFrame (maps count : ℕ) (f : Frame) : Type 0 where
  pub return_slot : f.return_slot < 2 ^ 16
  pub registers : length f.registers ≡ 10
  pub values : AllByRecursion (FitsValue maps count) f.registers
  pub stack : length f.stack ≡ 64
  pub cells : AllByRecursion (FitsCell maps count) f.stack

-- at most 2400 bytes are known to follow each label, and labels rise
unfoldable pub Rise : ℕ → List Room → Type 0
Rise above [] = Unit {0}
Rise above (r ∷ rs) = (above < r.label) × (r.label < 2 ^ 16) × (r.size ≤ 2400) × Rise r.label rs

-- the main function's frame comes first, with return slot 0
abbrev pub IsMainFirst : List Frame → Type 0
IsMainFirst [] = ⊥
IsMainFirst (f ∷ fs) = f.return_slot ≡ 0

-- an entry's numbers and lists fit
pub record FitsEntry (maps : ℕ) (e : EntryView) : Type 0 where
  pub pc : e.pc < 2 ^ 16
  pub budget : e.budget < 2 ^ 32
  pub least : e.least < 2 ^ 16
  pub rooms : length e.rooms < 2 ^ 16
  pub rise : Rise 0 e.rooms
  pub few : length e.frames ≤ 8
  pub main : IsMainFirst e.frames
  pub frames : AllByRecursion (FitsFrame maps (length e.frames)) e.frames

-- numbers below 256
abbrev pub AreBytes : List ℕ → Type 0
AreBytes bytes = AllByRecursion (λ b. b < 256) bytes

-- a certificate for that many maps: whole slots of code
pub record FitsCertificate (maps : ℕ) (c : CertificateView) : Type 0 where
  pub slots : ℕ
  pub few_slots : slots < 2 ^ 16
  pub whole : length c.code ≡ 8 * slots
  pub bytes : AreBytes c.code
  pub few : length c.entries < 2 ^ 32
  pub entries : AllByRecursion (FitsEntry maps) c.entries
