-- No command has more than five words.
use Rattle.std.specs.Prelude.{◌≡◌, ℕ, ◌≤◌, List, [], ◌∷◌, length, Bool, true, false, Option, None, if◌then◌else◌, codes, refl}
use Rattle.std.proofs.Common.{arith}
use Rattle.std.specs.Str.{bytes_eq}
use Rattle.bpf_regions.specs.declared.maps.Shape.{Shape}
use Rattle.apd_script.specs.Asked.{Asked}
use Rattle.apd_script.specs.Lines.{command_said}

none_if : (b : Bool) (o : Option Asked) → o ≡ None → (if b then None else o) ≡ None
none_if true o e = refl
none_if false o e = e

pub command_said-many : (maps : List Shape) (keyword : List ℕ) (ws : List (List ℕ)) → 5 ≤ length ws → command_said maps keyword ws ≡ None
command_said-many maps keyword [] h = absurd (omega arith)
command_said-many maps keyword (a ∷ []) h = absurd (omega arith)
command_said-many maps keyword (a ∷ b ∷ []) h = absurd (omega arith)
command_said-many maps keyword (a ∷ b ∷ c ∷ []) h = absurd (omega arith)
command_said-many maps keyword (a ∷ b ∷ c ∷ d ∷ []) h = absurd (omega arith)
command_said-many maps keyword (a ∷ b ∷ c ∷ d ∷ e ∷ more) h =
    none_if (bytes_eq keyword (codes "frame")) _ (
    none_if (bytes_eq keyword (codes "tick")) _ (
    none_if (bytes_eq keyword (codes "kick")) _ (
    none_if (bytes_eq keyword (codes "close")) _ (
    none_if (bytes_eq keyword (codes "load")) _ (
    none_if (bytes_eq keyword (codes "unload")) _ (
    none_if (bytes_eq keyword (codes "adopt")) _ (
    none_if (bytes_eq keyword (codes "store")) _ (
    none_if (bytes_eq keyword (codes "read")) _ (
    none_if (bytes_eq keyword (codes "sum")) _ (
    none_if (bytes_eq keyword (codes "wait")) None refl))))))))))
