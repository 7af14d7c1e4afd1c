-- What an outcome without a fault implies.
use Rattle.std.proofs.Common.{ℕ, ◌≡◌, Bool, true, false, cond, List, Option, Some, None, Result, Ok, refl, sym, subst}
use Rattle.bpf_regions.specs.declared.maps.Shape.{Shape}
use Rattle.bpf_model.specs.State.{State, Next}
use Rattle.bpf_model.specs.State as machine
use Rattle.bpf_model.specs.Run.{IsFine}
use Rattle.bpf_rules.specs.declared.fault.Fault.{Fault}
use Rattle.bpf_rules.specs.Memory.{worse, is_unset_fault}

-- a check without a fault has passed
pub passed : (b : Bool) (e : Fault) → cond b None (Some e) ≡ None → b ≡ true
passed true e h = refl
passed false e h = absurd (cc)

-- so have two checks
pub worse_parts : (a b : Option Fault) → worse a b ≡ None → (a ≡ None) × (b ≡ None)
worse_parts None b h = (refl, h)
worse_parts (Some e) None h = absurd (cc)
worse_parts (Some e) (Some f) h = absurd (either (is_unset_fault (Some f)) h)
  where
    either : (t : Bool) → ◌≡◌ {A = Option Fault} (cond t (Some f) (Some e)) None → ⊥
    either true h = cc
    either false h = cc

-- the machine goes on with the value
pub goes_with : {A : Type 0} (shapes : List Shape) (r : Result A ℕ) (x : A) (f : A → Next) (P : State → Type 0) → r ≡ Ok x → IsFine shapes (f x) P → IsFine shapes (machine.on r f) P
goes_with shapes r x f P e h = subst (λ q. IsFine shapes (machine.on q f) P) (sym e) h
