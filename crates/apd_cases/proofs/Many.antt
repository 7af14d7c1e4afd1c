-- No line but `given` and `expect` has more than five words, and no expectation more than five.
use Rattle.std.specs.Prelude.{◌≡◌, ℕ, ◌≤◌, List, [], ◌∷◌, length, Bool, true, false, Option, None, if◌then◌else◌, codes, refl}
use Rattle.std.proofs.Common.{arith}
use Rattle.std.specs.Str.{bytes_eq}
use Rattle.apd_cases.specs.Expected.{kind_expected}
use Rattle.apd_cases.specs.Grammar.{plain_said}

none_if : {X : Type 0} (b : Bool) (o : Option X) → o ≡ None → (if b then None else o) ≡ None
none_if true o e = refl
none_if false o e = e

pub plain_said-many : (keyword : List ℕ) (ws : List (List ℕ)) → 5 ≤ length ws → plain_said keyword ws ≡ None
plain_said-many keyword [] h = absurd (omega arith)
plain_said-many keyword (a ∷ []) h = absurd (omega arith)
plain_said-many keyword (a ∷ b ∷ []) h = absurd (omega arith)
plain_said-many keyword (a ∷ b ∷ c ∷ []) h = absurd (omega arith)
plain_said-many keyword (a ∷ b ∷ c ∷ d ∷ []) h = absurd (omega arith)
plain_said-many keyword (a ∷ b ∷ c ∷ d ∷ e ∷ more) h =
    none_if (bytes_eq keyword (codes "policy")) _ (
    none_if (bytes_eq keyword (codes "config")) _ (
    none_if (bytes_eq keyword (codes "clock")) _ (
    none_if (bytes_eq keyword (codes "stations")) _ (
    none_if (bytes_eq keyword (codes "word")) _ (
    none_if (bytes_eq keyword (codes "frame")) None refl)))))

pub kind_expected-many : (kind : List ℕ) (ws : List (List ℕ)) → 5 ≤ length ws → kind_expected kind ws ≡ None
kind_expected-many kind [] h = absurd (omega arith)
kind_expected-many kind (a ∷ []) h = absurd (omega arith)
kind_expected-many kind (a ∷ b ∷ []) h = absurd (omega arith)
kind_expected-many kind (a ∷ b ∷ c ∷ []) h = absurd (omega arith)
kind_expected-many kind (a ∷ b ∷ c ∷ d ∷ []) h = absurd (omega arith)
kind_expected-many kind (a ∷ b ∷ c ∷ d ∷ e ∷ more) h =
    none_if (bytes_eq kind (codes "admit")) _ (
    none_if (bytes_eq kind (codes "refuse")) _ (
    none_if (bytes_eq kind (codes "size")) _ (
    none_if (bytes_eq kind (codes "decline")) _ (
    none_if (bytes_eq kind (codes "pass")) _ (
    none_if (bytes_eq kind (codes "drop")) _ (
    none_if (bytes_eq kind (codes "refused")) _ (
    none_if (bytes_eq kind (codes "budget")) _ (
    none_if (bytes_eq kind (codes "steps")) _ (
    none_if (bytes_eq kind (codes "note")) _ (
    none_if (bytes_eq kind (codes "word")) None refl))))))))))
