-- What holds of a result that is a value.
use Rattle.std.proofs.Common.{◌≡◌, Result, Ok, IfOk, subst}
use Rattle.std.specs.Prelude.{OnOk}

-- what holds of the value, if there is one
pub if_ok : {T E : Type 0} (P : T → Type 0) (r : Result T E) (x : T) → r ≡ Ok x → IfOk r P → P x
if_ok {T} {E} P r x is h = subst (λ (q : Result T E). IfOk q P) is h

-- what holds if there is a value
pub on_ok : {T E : Type 0} (P : Type 0) (r : Result T E) (x : T) → r ≡ Ok x → OnOk r P → P
on_ok {T} {E} P r x is h = subst (λ (q : Result T E). OnOk q P) is h

-- one of two values that are there
pub first_ok : {F S E : Type 0} (first : Result F E) (r : Result (F × S) E) (x : F × S) → r ≡ Ok x → IfOk r (λ (y : F × S). first ≡ Ok y.0) → first ≡ Ok x.0
first_ok {F} {S} {E} first r x is h = if_ok (λ (y : F × S). first ≡ Ok y.0) r x is h

pub second_ok : {F S E : Type 0} (second : Result S E) (r : Result (F × S) E) (x : F × S) → r ≡ Ok x → IfOk r (λ (y : F × S). second ≡ Ok y.1) → second ≡ Ok x.1
second_ok {F} {S} {E} second r x is h = if_ok (λ (y : F × S). second ≡ Ok y.1) r x is h
