-- The order of the tests.
use Rattle.std.proofs.Common.{◌≡◌, ℕ, ◌%◌, ◌≤◌, true, false, List, [], ◌∷◌, ◌++◌, length, slice_index, Option, Some, None, Result, Ok, Err, refl, sym, ap, ◌∙◌, arith}
use Rattle.std.specs.Prelude.{IfErr}
use Rattle.std.proofs.lemmas.Grind.{common_steps}
use Rattle.mac_frame.specs.declared.fault.Fault.{Fault}
use Rattle.mac_frame.specs.declared.subtype.Subtype.{Subtype}
use Rattle.mac_types.specs.declared.fields.FrameFlags.{FrameFlags}
use Rattle.mac_frame.specs.declared.subtype.HeaderKind.{HeaderKind}
use Rattle.mac_frame.specs.declared.subtype.HeaderKind.TheVariants as headers
use Rattle.mac_frame.specs.declared.content.Content.{Content}
use Rattle.mac_frame.specs.Kinds.{subtype_of, first_byte, header_of, header_length}
use Rattle.mac_frame.specs.Faults.{Test, first, tests_of, header_tests, body_tests, first_fault}
use Rattle.mac_frame.specs.Reading.{IsContentBody, IsWhole}

-- tests that find nothing are skipped
pub first_after : (h r : List Test) → first h ≡ None → first (h ++ r) ≡ first r
first_after [] r e = refl
first_after ((true, f) ∷ h) r e = absurd cc
first_after ((false, f) ∷ h) r e = first_after h r e

-- each header has at least sixteen bytes
header_at_least : (k : HeaderKind) → 16 ≤ header_length k
header_at_least headers.Management = omega arith
header_at_least headers.Control = omega arith
header_at_least headers.Data = omega arith
header_at_least headers.QosData = omega arith

-- once a test has found something, later ones don't count
pub first_found : (h r : List Test) (f : Fault) → first h ≡ Some f → first (h ++ r) ≡ Some f
first_found [] r f e = absurd cc
first_found ((true, g) ∷ h) r f e = e
first_found ((false, g) ∷ h) r f e = first_found h r f e

-- if nothing is wrong before the header
pub at_header : (b : List ℕ) (k : Subtype) → length b ≤ 2400 → 2 ≤ length b → slice_index b 0 % 4 ≡ 0 → subtype_of (slice_index b 0) ≡ Some k → header_length (header_of k) ≤ length b
    → first_fault b ≡ first (header_tests (header_of k) b ++ body_tests k b)
at_header b k short two version kind long =
    let e : first (tests_of (Some k) b) ≡ first (header_tests (header_of k) b ++ body_tests k b) = grind (arith, common_steps) in
    let d : first (tests_of (subtype_of (slice_index b 0)) b) ≡ first (tests_of (Some k) b) = ap (λ s. first (tests_of s b)) kind in
    let a : first_fault b ≡ first (tests_of (subtype_of (slice_index b 0)) b) = grind (arith, common_steps) in
    a ∙ d ∙ e

pub err_along : {X : Type 0} (r : Result X Fault) (p q : Option Fault) → p ≡ q → IfErr r (λ f. q ≡ Some f) → IfErr r (λ f. p ≡ Some f)
err_along (Ok x) p q e h = tt
err_along (Err f) p q e h = e ∙ h

-- if the header and the body are read
pub whole : (b : List ℕ) (k : Subtype) (flags : FrameFlags) (body : Content) (tail : List ℕ) → length b ≤ 2400 → 2 ≤ length b → slice_index b 0 % 4 ≡ 0 → subtype_of (slice_index b 0) ≡ Some k
    → slice_index b 0 ≡ first_byte k → header_length (header_of k) ≤ length b → IsContentBody k b flags body tail → IsWhole b flags body tail
whole b k flags body tail short two version kind start long read = record {
  faultless = at_header b k short two version kind long ∙ read.faultless;
  short = short;
  long = omega (arith, header_at_least (header_of k));
  start = start ∙ sym (ap first_byte read.subtype);
  octet = read.octet;
  spelled = read.spelled;
  fits = read.fits;
}
