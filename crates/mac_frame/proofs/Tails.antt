-- The tail of a frame, and the frame's length.
use Rattle.std.proofs.Common.{◌≡◌, ℕ, ◌+◌, ◌≤◌, List, [], ◌∷◌, ◌++◌, length, drop, ap, arith}
use Rattle.std.proofs.lemmas.List.{length-append, length-drop}
use Rattle.mac_types.specs.declared.fields.FrameFlags.{FrameFlags}
use Rattle.mac_types.specs.Numbers.{IsWord, IsAddress}
use Rattle.mac_frame.specs.declared.content.Management.{Management}
use Rattle.mac_frame.specs.declared.content.Management.TheVariants as management
use Rattle.mac_frame.specs.declared.content.Control.{Control}
use Rattle.mac_frame.specs.declared.content.Control.TheVariants as control
use Rattle.mac_frame.specs.declared.content.DataKind.{DataKind}
use Rattle.mac_frame.specs.declared.content.DataKind.TheVariants as kinds
use Rattle.mac_frame.specs.declared.content.Content.{Content}
use Rattle.mac_frame.specs.declared.content.Content.TheVariants as content
use Rattle.mac_frame.specs.Reading.{IsWhole}
use Rattle.mac_frame.specs.Spelling.{Frame, IsFrame, IsManagement, IsControl, IsData, IsContent, IsManagementTail, IsDataTail, IsTail, management_text, control_text, data_text, content_text}

none : (tail : List ℕ) → tail ≡ [] → length tail ≡ 0
none tail e = ap (λ (x : List ℕ). length x) e

-- ---- a frame of at most 2400 bytes has such a tail

management_tail : (m : Management) (tail : List ℕ) → IsManagement m tail → 24 + length (management_text m tail) ≤ 2400 → IsManagementTail m tail
management_tail (management.AssociationRequest c i) tail fits le = record { spelled = fits.2; short = omega (arith, le) }
management_tail (management.AssociationResponse c s a) tail fits le = record { spelled = fits.3; short = omega (arith, le) }
management_tail (management.ReassociationRequest c i (a0 ∷ a1 ∷ a2 ∷ a3 ∷ a4 ∷ a5 ∷ [])) tail fits le = record { spelled = fits.3; short = omega (arith, le) }
management_tail (management.ReassociationRequest c i _) tail fits le = absurd (omega (arith, fits.2))
management_tail (management.ReassociationResponse c s a) tail fits le = record { spelled = fits.3; short = omega (arith, le) }
management_tail (management.Disassociation r) tail fits le = fits.1
management_tail (management.Authentication a t s) tail fits le = fits.3
management_tail (management.Deauthentication r) tail fits le = fits.1
management_tail (management.AddbaRequest k p t s) tail fits le = fits.3
management_tail (management.AddbaResponse k s p t) tail fits le = fits.3
management_tail (management.Delba p r) tail fits le = fits.2

control_tail : (m : Control) (tail : List ℕ) → IsControl m tail → tail ≡ []
control_tail (control.BlockAckReq t s) tail fits = fits.2
control_tail (control.BlockAck t s m) tail fits = fits.3

data_tail : (m : DataKind) (tail : List ℕ) → IsData m tail → 24 + length (data_text m tail) ≤ 2400 → IsDataTail m tail
data_tail kinds.Data tail fits le = le
data_tail kinds.Null tail fits le = fits
data_tail (kinds.QosData q) tail fits le = omega (arith, le)
data_tail (kinds.QosNull q) tail fits le = fits.1

content_tail : (x : Content) (tail : List ℕ) → IsContent x tail → 16 + length (content_text x tail) ≤ 2400 → IsTail x tail
content_tail (content.Management (a0 ∷ a1 ∷ a2 ∷ a3 ∷ a4 ∷ a5 ∷ []) s m) tail fits le = management_tail m tail fits.2 (omega (arith, le))
content_tail (content.Management _ s m) tail fits le = absurd (omega (arith, fits.0))
content_tail (content.Control m) tail fits le = control_tail m tail fits
content_tail (content.Data (a0 ∷ a1 ∷ a2 ∷ a3 ∷ a4 ∷ a5 ∷ []) s m) tail fits le = data_tail m tail fits.2 (omega (arith, le))
content_tail (content.Data _ s m) tail fits le = absurd (omega (arith, fits.0))

pub tail_read : (b : List ℕ) (flags : FrameFlags) (x : Content) (tail : List ℕ) → IsWhole b flags x tail → IsTail x tail
tail_read b flags x tail read =
    let same : length (drop 16 b) ≡ length (content_text x tail) = ap (λ (t : List ℕ). length t) read.spelled in
    content_tail x tail read.fits (omega (arith, same, length-drop 16 b, read.short, read.long))

-- ---- with such a tail, a frame has at most 2400 bytes

management_short : (m : Management) (tail : List ℕ) → IsManagement m tail → IsManagementTail m tail → 24 + length (management_text m tail) ≤ 2400
management_short (management.AssociationRequest c i) tail fits h = omega (arith, h.short)
management_short (management.AssociationResponse c s a) tail fits h = omega (arith, h.short)
management_short (management.ReassociationRequest c i (a0 ∷ a1 ∷ a2 ∷ a3 ∷ a4 ∷ a5 ∷ [])) tail fits h = omega (arith, h.short)
management_short (management.ReassociationRequest c i _) tail fits h = absurd (omega (arith, fits.2))
management_short (management.ReassociationResponse c s a) tail fits h = omega (arith, h.short)
management_short (management.Disassociation r) tail fits h = omega (arith, none tail h)
management_short (management.Authentication a t s) tail fits h = omega (arith, none tail h)
management_short (management.Deauthentication r) tail fits h = omega (arith, none tail h)
management_short (management.AddbaRequest k p t s) tail fits h = omega (arith, none tail h)
management_short (management.AddbaResponse k s p t) tail fits h = omega (arith, none tail h)
management_short (management.Delba p r) tail fits h = omega (arith, none tail h)

control_short : (m : Control) (tail : List ℕ) → tail ≡ [] → 16 + length (control_text m tail) ≤ 2400
control_short (control.BlockAckReq t s) tail e = omega (arith, none tail e)
control_short (control.BlockAck t s m) tail e = omega (arith, none tail e)

data_short : (m : DataKind) (tail : List ℕ) → IsDataTail m tail → 24 + length (data_text m tail) ≤ 2400
data_short kinds.Data tail h = h
data_short kinds.Null tail h = omega (arith, none tail h)
data_short (kinds.QosData q) tail h = omega (arith, h)
data_short (kinds.QosNull q) tail h = omega (arith, none tail h)

content_short : (x : Content) (tail : List ℕ) → IsContent x tail → IsTail x tail → 16 + length (content_text x tail) ≤ 2400
content_short (content.Management (a0 ∷ a1 ∷ a2 ∷ a3 ∷ a4 ∷ a5 ∷ []) s m) tail fits h = omega (arith, management_short m tail fits.2 h)
content_short (content.Management _ s m) tail fits h = absurd (omega (arith, fits.0))
content_short (content.Control m) tail fits h = control_short m tail h
content_short (content.Data (a0 ∷ a1 ∷ a2 ∷ a3 ∷ a4 ∷ a5 ∷ []) s m) tail fits h = omega (arith, data_short m tail h)
content_short (content.Data _ s m) tail fits h = absurd (omega (arith, fits.0))

pub in_grammar : (f : Frame) → IsWord f.duration → IsAddress f.receiver → IsAddress f.sender → IsContent f.content f.tail → IsTail f.content f.tail → IsFrame f
in_grammar f duration receiver sender fits h =
    let one = length-append f.receiver (f.sender ++ content_text f.content f.tail) in
    let two = length-append f.sender (content_text f.content f.tail) in
    record { duration = duration; receiver = receiver; sender = sender; content = fits; short = omega (arith, one, two, receiver, sender, content_short f.content f.tail fits h) }
