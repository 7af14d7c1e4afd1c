-- Bytes whose fields are read spell a frame.
use Rattle.std.proofs.Common.{◌≡◌, ℕ, ◌≤◌, List, [], ◌∷◌, ◌++◌, length, slice_index, drop, refl, ap, ◌∙◌, subst, arith}
use Rattle.mac_types.specs.declared.fields.FrameFlags.{FrameFlags}
use Rattle.mac_types.specs.Numbers.{IsWord, IsAddress}
use Rattle.mac_types.specs.Fields.{flags_octet}
use Rattle.mac_frame.specs.declared.content.Content.{Content}
use Rattle.mac_frame.specs.Kinds.{first_byte}
use Rattle.mac_frame.specs.Reading.{IsWhole}
use Rattle.mac_frame.specs.Spelling.{Frame, AreSpelled, word, content_text, content_subtype, to_ds, spelling}
use Rattle.mac_frame.proofs.Joining.{joins}

two_bytes : (b : List ℕ) → 2 ≤ length b → b ≡ slice_index b 0 ∷ slice_index b 1 ∷ drop 2 b
two_bytes [] le = absurd (omega arith)
two_bytes (x ∷ []) le = absurd (omega arith)
two_bytes (x ∷ y ∷ rest) le = refl

pub spelled_by : (b : List ℕ) (flags : FrameFlags) (content : Content) (tail : List ℕ) (duration : ℕ) (receiver sender : List ℕ)
    → IsWhole b flags content tail → IsWord duration → drop 2 b ≡ word duration ++ drop 4 b → IsAddress receiver → drop 4 b ≡ receiver ++ drop 10 b → IsAddress sender → drop 10 b ≡ sender ++ drop 16 b → AreSpelled b
spelled_by b flags content tail duration receiver sender read fits second r third s fourth =
    let f : Frame = record { flags = flags; duration = duration; receiver = receiver; sender = sender; content = content; tail = tail } in
    let behind : drop 2 b ≡ word duration ++ (receiver ++ (sender ++ content_text content tail)) = joins (word duration) second (joins receiver third (joins sender fourth read.spelled)) in
    let front : b ≡ first_byte (content_subtype content) ∷ flags_octet (to_ds content) flags ∷ drop 2 b = two_bytes b (omega (arith, read.long)) ∙ rw (read.start, read.octet) refl in
    let text : b ≡ spelling f = front ∙ ap (λ (t : List ℕ). first_byte (content_subtype content) ∷ flags_octet (to_ds content) flags ∷ t) behind in
    record { frame = f; grammar = record { duration = fits; receiver = r; sender = s; content = read.fits; short = subst (λ (x : List ℕ). length x ≤ 2400) text read.short }; text = text }
