-- The changes among contrasts.
use Rattle.std.proofs.Common.{◌≡◌, ◌++◌, ◌∷◌, List, [], refl}
use Rattle.std.specs.Prelude.{◌↔◌}
use Rattle.apd_eval.specs.Changes.{Agrees, AllAgree, AreChanges, NoQuery, Same, Differs}
use Rattle.apd_eval.specs.declared.again.Contrast.{Contrast}

pub AreChanges-append : {contrasts changes more others : List Contrast} → AreChanges contrasts changes → AreChanges more others → AreChanges (contrasts ++ more) (changes ++ others)
AreChanges-append NoQuery later = later
AreChanges-append {more = more} {others = others} (Same c contrasts changes agrees are) later = Same c (contrasts ++ more) (changes ++ others) agrees (AreChanges-append are later)
AreChanges-append {more = more} {others = others} (Differs c contrasts changes differs are) later = Differs c (contrasts ++ more) (changes ++ others) differs (AreChanges-append are later)

not_nil : (c : Contrast) (changes : List Contrast) → c ∷ changes ≡ [] → ⊥
not_nil c changes = λ (none : c ∷ changes ≡ []). cc

-- there is none exactly if all agree
all_agree : {contrasts changes : List Contrast} → AreChanges contrasts changes → changes ≡ [] → AllAgree contrasts
all_agree NoQuery none = tt
all_agree (Same c contrasts changes agrees are) none = (agrees, all_agree are none)
all_agree (Differs c contrasts changes differs are) none = absurd (not_nil c changes none)

none_differs : {contrasts changes : List Contrast} → AreChanges contrasts changes → AllAgree contrasts → changes ≡ []
none_differs NoQuery all = refl
none_differs (Same c contrasts changes agrees are) all = none_differs are all.1
none_differs (Differs c contrasts changes differs are) all = absurd (differs all.0)

pub equal : (contrasts changes : List Contrast) → AreChanges contrasts changes → (changes ≡ []) ↔ AllAgree contrasts
equal contrasts changes are = (all_agree are, none_differs are)
