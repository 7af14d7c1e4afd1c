-- What an outcome without a fault implies.
use Rattle.std.proofs.Common.{◌≡◌, ◌⊎◌, inl, inr, refl, Bool, true, false, Option, Some, None, Result, Ok, Err}
use Rattle.std.specs.Prelude.{if◌then◌else◌}
use Rattle.bpf_rules.specs.declared.fault.Fault.{Fault}
use Rattle.bpf_rules.specs.Faults.{on}
use Rattle.bpf_rules.specs.Memory.{unless}

module _ {A : Type 0} where
  abbrev pub okay : A → Result A Fault
  okay x = Ok x

  abbrev pub refused : Fault → Result A Fault
  refused f = Err f

  pub okay-same : (x y : A) → okay x ≡ okay y → x ≡ y
  okay-same x y e = cc

  pub refused-okay : (f : Fault) (x : A) → refused f ≡ okay x → ⊥
  refused-okay f x e = cc

  pub unless_ok : (o : Option Fault) (r : Result A Fault) (x : A) → unless o r ≡ okay x → (o ≡ None) × (r ≡ okay x)
  unless_ok None r x e = (refl, e)
  unless_ok (Some f) r x e = absurd (refused-okay f x e)

  pub either_ok : (c : Bool) (r s : Result A Fault) (x : A) → (if c then r else s) ≡ okay x → (r ≡ okay x) ⊎ (s ≡ okay x)
  either_ok true r s x e = inl e
  either_ok false r s x e = inr e

pub on_ok : {A B : Type 0} → (r : Result A Fault) (f : A → Result B Fault) (y : B) → on r f ≡ okay y → (x : A) × (r ≡ okay x) × (f x ≡ okay y)
on_ok (Ok x) f y e = (x, refl, e)
on_ok (Err x) f y e = absurd (refused-okay x y e)
