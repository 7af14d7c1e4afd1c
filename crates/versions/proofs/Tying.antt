-- Each step keeps the rule of the published set.
use Rattle.std.proofs.Common.{◌≡◌, ℕ, ◌≢◌, List, [], ◌∷◌, ◌++◌, fold, set, refl, sym, ap, ◌∙◌, subst, ⊎_elim, Option, None, Some}
use mathlib.Core.Option.{some}
use lib.ListN.{get_elem?}
use Rattle.left_right.specs.Register.{Admits, TurnsAt, Forks, Merges}
use Rattle.atomic_table.proofs.Lists.{at_set, at_snoc}
use Rattle.logbook.specs.Pages.{Book}
use Rattle.versions.specs.Lists.{Beginning}
use Rattle.versions.specs.Ties.{tie_of, IsOf, OneList, Enters}

pub admits : Admits OneList None
admits x views h seat v at = ⊎_elim (h seat v) (λ (e : None ≡ v). subst (IsOf x.list) e tt) (at_snoc views None v seat at)

pub begins : (x : Beginning) → OneList x (None ∷ [])
begins x = admits x [] (λ seat v at. absurd cc)

set_fits : (x : Beginning) (views : List (Option Beginning)) (seat : ℕ) (v : Option Beginning) → OneList x views → IsOf x.list v → OneList x (set views seat v)
set_fits x views seat v h own j u e = ⊎_elim (λ (t : (j ≡ seat) × (v ≡ u)). subst (IsOf x.list) t.1 own)
    (λ (t : (j ≢ seat) × (get_elem? views j ≡ some u)). h j u t.1) (at_set views seat j v u e)

pub enters : (seat : ℕ) (v : Option Beginning) (x y : Beginning) → y.list ≡ x.list → TurnsAt OneList seat v x y Enters
enters seat v x y same views h at =
    let there : OneList y views = λ j u e. subst (λ (b : Book). IsOf b u) (sym same) (h j u e) in
    (Some y, set_fits y views seat (Some y) there refl, (refl, there seat v at))

pub forks : (seat : ℕ) (v : Option Beginning) → Forks OneList seat v v v
forks seat v x views h at j u e = ⊎_elim (set_fits x views seat v h (h seat v at) j u) (λ (same : v ≡ u). subst (IsOf x.list) same (h seat v at)) (at_snoc (set views seat v) v u j e)

pub merges : (seat : ℕ) (v : Option Beginning) (other : ℕ) (w : Option Beginning) → Merges OneList seat v other w w None
merges seat v other w x views h at apart there =
    let b : IsOf x.list w = ⊎_elim (λ (t : (other ≡ seat) × (w ≡ w)). absurd (apart t.0)) (λ (t : (other ≢ seat) × (get_elem? views other ≡ some w)). h other w t.1) (at_set views seat other w w there) in
    set_fits x (set views seat w) other None (set_fits x views seat w h b) tt

-- if a seat knew a list, and then knows a set of its own list, it knew the set's list
pub same_list : (b c : Book) (v : Option Beginning) → tie_of v ≡ Some b → IsOf c v → c ≡ b
same_list b c None is fits = absurd (cc is)
same_list b c (Some k) is fits = sym fits ∙ cc is

abbrev pub last_of : Beginning → List Beginning → Beginning
last_of s ops = fold (λ (_ : Beginning) (o : Beginning). o) s ops

-- the last operation decides
pub last_of-snoc : (s : Beginning) (xs : List Beginning) (op : Beginning) → last_of s (xs ++ op ∷ []) ≡ op
last_of-snoc s [] op = refl
last_of-snoc s (x ∷ xs) op = last_of-snoc x xs op

-- the set put last, of the same list, may be shown
pub shows : (seat : ℕ) (v : Option Beginning) (x next op : Beginning) (ops earlier : List Beginning) → ops ≡ earlier ++ op ∷ [] → op.list ≡ x.list → next ≡ last_of x ops
    → TurnsAt OneList seat v x next Enters
shows seat v x next op ops earlier is own now = enters seat v x next (ap (λ (b : Beginning). b.list) (now ∙ (ap (last_of x) is ∙ last_of-snoc x earlier op)) ∙ own)
