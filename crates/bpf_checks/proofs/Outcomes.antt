-- Consequences of an outcome.
use Rattle.std.proofs.Common.{◌≡◌, inl, inr, ap, Result, Ok, Err}
use Rattle.bpf_rules.specs.declared.fault.Fault.{Fault}
use Rattle.bpf_rules.specs.Faults.{on, IsOrNoMemory}

pub err_on : {A B : Type 0} → (r : Result A Fault) (f : A → Result B Fault) (e : Fault) → IsOrNoMemory {A = A} (Err e) r → IsOrNoMemory {A = B} (Err e) (on r f)
err_on r f e (inl h) = inl h
err_on r f e (inr h) = inr (ap (λ x. on x f) h)

pub ok_on : {A B : Type 0} → (r : Result A Fault) (f : A → Result B Fault) (x : A) → IsOrNoMemory {A = A} (Ok x) r → on r f ≡ f x
ok_on r f x h = ap (λ y. on y f) h
