-- The interface that a packet names.
use Rattle.std.proofs.Common.{◌≡◌, ◌≤◌, ℕ, List, length, slice_get, map, Option, Some, None, option_map, refl, sym, ◌∙◌, ap, rules, tests}
use Rattle.std.specs.Borrow.{Bor}
use Rattle.std.specs.Slice.{IsItemAt}
use Rattle.std.proofs.lemmas.Option.{slice_get-map}
use Rattle.std.proofs.lemmas.Bool.Decides.{nat_tests}
use Rattle.capture.specs.declared.interface.Interface.{Interface}
use Rattle.capture.specs.Fields.{number_at}
use Rattle.capture.specs.Blocks.{Framed}
use Rattle.capture.specs.Interfaces.{Described, described_of}
use Rattle.capture.specs.Sections.{enhanced, enhanced_of}
use Rattle.capture.proofs.Present.{item_copied}

lent : (r : Option (Bor Interface)) → option_map described_of (option_map (λ i. i.now) r) ≡ option_map (λ i. described_of i.now) r
lent None = refl
lent (Some i) = refl

-- the interface that a look-up returns
got : (interfaces : List Interface) (n : ℕ) (r : Option (Bor Interface)) → IsItemAt interfaces n r → slice_get (map described_of interfaces) n ≡ option_map (λ i. described_of i.now) r
got interfaces n r h = slice_get-map described_of interfaces n ∙ ap (option_map described_of) (sym (item_copied interfaces n r h)) ∙ lent r

long_enough : (place : ℕ) (interfaces : List Described) (b : Framed) → 20 ≤ length b.body → enhanced place interfaces b ≡ enhanced_of place b (slice_get interfaces (number_at b.endian 4 0 b.body))
long_enough place interfaces b long = search (rules, tests, nat_tests)

-- the packet of an interface that is looked up
pub looked_up : (place : ℕ) (interfaces : List Interface) (b : Framed) (n : ℕ) (r : Option (Bor Interface)) → 20 ≤ length b.body → n ≡ number_at b.endian 4 0 b.body → IsItemAt interfaces n r
    → enhanced place (map described_of interfaces) b ≡ enhanced_of place b (option_map (λ i. described_of i.now) r)
looked_up place interfaces b n r long is h =
    long_enough place (map described_of interfaces) b long ∙ ap (enhanced_of place b) (ap (slice_get (map described_of interfaces)) (sym is) ∙ got interfaces n r h)
