-- Prefixes of one list.
use Rattle.std.proofs.Common.{◌≡◌, ◌≤◌, ◌+◌, List, [], ◌∷◌, ◌++◌, length, map, refl, ap, sym, subst, ◌∙◌, arith, append_assoc, length-append}
use Rattle.std.specs.List.{All}
use Rattle.std.proofs.lemmas.List.Elements.{All-append, All-cons, All-nil}
use Rattle.std.proofs.lemmas.List.{map-append, length-map}
use mathlib.Core.List.{IsPrefix}
use Rattle.versions.specs.declared.list.Entry.{Entry}
use Rattle.versions.specs.declared.list.Entry.TheVariants.{Opened, Loaded}
use Rattle.versions.specs.declared.list.Load.{Load}
use Rattle.versions.specs.Sets.{Fits}
use Rattle.logbook.specs.Pages.{Book}
use Rattle.versions.specs.Lists.{Beginning, Begins, beginning, with_load, shapes_of, loads_of, IsWritten}

-- each list is a prefix of itself
pub prefix_self : {A : Type 0} (xs : List A) → IsPrefix xs xs
prefix_self [] = ([], refl)
prefix_self (x ∷ xs) = (let r = prefix_self xs in r.0, ap (λ ys. x ∷ ys) (prefix_self xs).1)

pub prefix_trans : {A : Type 0} (xs ys zs : List A) → IsPrefix xs ys → IsPrefix ys zs → IsPrefix xs zs
prefix_trans xs ys zs p q = (p.0 ++ q.0, sym (append_assoc xs p.0 q.0) ∙ (ap (λ w. w ++ q.0) p.1 ∙ q.1))

-- a prefix as long as the whole list is the list
pub prefix_whole : {A : Type 0} (xs ys : List A) → IsPrefix xs ys → length ys ≤ length xs → xs ≡ ys
prefix_whole [] [] p le = refl
prefix_whole [] (y ∷ ys) p le = absurd (omega arith)
prefix_whole (x ∷ xs) [] p le = absurd (cc (p.1))
prefix_whole (x ∷ xs) (y ∷ ys) p le =
    let rest = prefix_whole xs ys (p.0, cc (p.1)) (omega arith) in cc (p.1, rest)

pub prefix_length : {A : Type 0} (xs ys : List A) → IsPrefix xs ys → length xs ≤ length ys
prefix_length xs ys p = omega (arith, sym (ap length p.1) ∙ length-append xs p.0)

pub loads_of-append : (xs ys : List Entry) → loads_of (xs ++ ys) ≡ loads_of xs ++ loads_of ys
loads_of-append [] ys = refl
loads_of-append (Opened s ∷ xs) ys = loads_of-append xs ys
loads_of-append (Loaded l ∷ xs) ys = ap (λ ls. l ∷ ls) (loads_of-append xs ys)

-- written entries are one more than their loads
pub length-loads_of : (xs : List Entry) → IsWritten xs → length xs ≡ length (loads_of xs) + 1
length-loads_of xs written = omega (arith, ap length written.order, length-map (loads_of xs) Loaded)

-- if written entries are extended, so are their loads, for the same shapes
pub loads_prefix : (xs ys : List Entry) → IsWritten xs → IsPrefix xs ys → (shapes_of ys ≡ shapes_of xs) × IsPrefix (loads_of xs) (loads_of ys)
loads_prefix [] ys written pre = absurd (cc (written.order))
loads_prefix (Opened s ∷ xs) ys written pre =
    (ap shapes_of (sym pre.1), (loads_of pre.0, sym (loads_of-append xs pre.0) ∙ ap loads_of pre.1))
loads_prefix (Loaded l ∷ xs) ys written pre = absurd (cc (written.order))

-- of two written beginnings of one book, what extends the entries extends the loads
pub begins_of : (k l : Beginning) (b c : Book) (xs ys : List Entry) → beginning b xs ≡ k → beginning c ys ≡ l → c ≡ b → IsWritten xs → IsPrefix xs ys → Begins k l
begins_of k l b c xs ys k_is l_is same written extends =
    let p = loads_prefix xs ys written extends in
    record {
      same_list = sym (ap (λ (x : Beginning). x.list) l_is) ∙ (same ∙ ap (λ (x : Beginning). x.list) k_is);
      same_shapes = sym (ap (λ (x : Beginning). x.shapes) l_is) ∙ (p.0 ∙ ap (λ (x : Beginning). x.shapes) k_is);
      has_all = subst (λ (ls : List Load). IsPrefix ls l.loads) (ap (λ (x : Beginning). x.loads) k_is)
          (subst (λ (ls : List Load). IsPrefix (loads_of xs) ls) (ap (λ (x : Beginning). x.loads) l_is) p.1);
    }

-- one more load that fits
pub written_more : (xs : List Entry) (l : Load) → IsWritten xs → Fits (shapes_of xs) l → IsWritten (xs ++ Loaded l ∷ [])
written_more [] l written fits = absurd (cc (written.order))
written_more (Opened s ∷ xs) l written fits =
    let rest : xs ≡ map Loaded (loads_of xs) = cc (written.order) in
    let loads : loads_of (xs ++ Loaded l ∷ []) ≡ loads_of xs ++ l ∷ [] = loads_of-append xs (Loaded l ∷ []) in
    let order : xs ++ Loaded l ∷ [] ≡ map Loaded (loads_of (xs ++ Loaded l ∷ [])) =
    ap (λ ys. ys ++ Loaded l ∷ []) rest ∙ (sym (map-append Loaded (loads_of xs) (l ∷ [])) ∙ ap (map Loaded) (sym loads)) in
    record {
      order = ap (λ ys. Opened s ∷ ys) order;
      fitting = subst (All (Fits s)) (sym loads) (All-append (Fits s) (loads_of xs) (l ∷ []) written.fitting (All-cons (Fits s) l [] fits (All-nil (Fits s))));
    }
written_more (Loaded m ∷ xs) l written fits = absurd (cc (written.order))

-- what a written book says with one more load
pub added_is : (k : Beginning) (b c : Book) (xs ys : List Entry) (l : Load) → beginning b xs ≡ k → c ≡ b → ys ≡ xs ++ Loaded l ∷ [] → IsWritten xs
    → beginning c ys ≡ with_load k l
added_is k b c xs ys l k_is same is written =
    let list : c ≡ k.list = same ∙ ap (λ (x : Beginning). x.list) k_is in
    let shapes : shapes_of ys ≡ k.shapes = (loads_prefix xs ys written (Loaded l ∷ [], sym is)).0 ∙ ap (λ (x : Beginning). x.shapes) k_is in
    let loads : loads_of ys ≡ k.loads ++ l ∷ [] = ap loads_of is ∙ (loads_of-append xs (Loaded l ∷ []) ∙ ap (λ (x : Beginning). x.loads ++ l ∷ []) k_is) in
    cc (list, shapes, loads)
