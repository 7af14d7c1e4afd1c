-- Lists of shared pointers: read, written, and compared.
use Rattle.std.proofs.Common.{◌≡◌, ℕ, Bool, zero, suc, ◌+◌, ◌<◌, ◌≤◌, List, [], ◌∷◌, ◌++◌, length, map, take, drop, true, false, refl, ap, sym, ◌∙◌, slice_set, get_or, arith, append_assoc}
use Rattle.std.specs.List.{AllZip}
use Rattle.std.specs.Prelude.{◌&&◌, slice_get, Some}
use Rattle.std.proofs.lemmas.List.{append-nil, map-set, map-append, set-get_or, get_or_at, set_at, take_all, take_more, drop_all, drop_more, length-map, length-take-le}
use Rattle.std.specs.declared.alloc.Global.{Global}
use Rattle.std.specs.declared.rc.Rc.{Rc}
use Rattle.bpf_absval.specs.declared.room.Room.{Room}
use Rattle.bpf_absval.specs.declared.value.AbsVal.{AbsVal}
use Rattle.bpf_absval.specs.declared.value.AbsVal.TheVariants as abs
use Rattle.bpf_absval.specs.Inclusion.{value_included}
use Rattle.bpf_absstate.specs.Difference.{IsValueOutside}
use Rattle.bpf_absstate.specs.Inclusion.{values_included}
use Rattle.bpf_absstate.proofs.Whole.{same_within}
use Rattle.bpf_absstate.specs.Shared.{held_by}

pub held-set : (rs : List (Rc AbsVal Global)) (i : ℕ) (r : Rc AbsVal Global) (v : AbsVal) (now : List AbsVal) → held_by rs ≡ now → r.value ≡ v →
    held_by (slice_set rs i r) ≡ slice_set now i v
held-set rs i r v now is held = map-set (λ r. r.value) rs i r ∙ ap (λ vs. slice_set vs i r.value) is ∙ ap (slice_set now i) held

pub held-at : (rs : List (Rc AbsVal Global)) (i : ℕ) (d : Rc AbsVal Global) → (get_or rs i d).value ≡ get_or (held_by rs) i d.value
held-at [] i d = refl
held-at (r ∷ rs) zero d = refl
held-at (r ∷ rs) (suc i) d = held-at rs i d

-- a pointer to an equal value replaces another
pub held-same : (rs : List (Rc AbsVal Global)) (i : ℕ) (d new : Rc AbsVal Global) (now : List AbsVal) → held_by rs ≡ now → new.value ≡ (get_or rs i d).value →
    held_by (slice_set rs i new) ≡ now
held-same rs i d new now is same =
    map-set (λ r. r.value) rs i new ∙ ap (slice_set (held_by rs) i) (same ∙ held-at rs i d) ∙ set-get_or (held_by rs) i d.value ∙ is

pub held-copies : (rs copies : List (Rc AbsVal Global)) → AllZip (λ r s. s.value ≡ r.value) rs copies → held_by copies ≡ held_by rs
held-copies [] [] h = refl
held-copies (r ∷ rs) (s ∷ copies) h = ap (λ v. v ∷ held_by copies) h.0 ∙ ap (λ vs. r.value ∷ vs) (held-copies rs copies h.1)
held-copies [] (s ∷ copies) h = absurd h
held-copies (r ∷ rs) [] h = absurd h

-- ---- each value changed by g, in turn

-- the first k of them
abbrev pub changed_so_far : (AbsVal → AbsVal) → List AbsVal → ℕ → List AbsVal
changed_so_far g vs k = map g (take k vs) ++ drop k vs

pub one_changed : (g : AbsVal → AbsVal) (vs : List AbsVal) (k : ℕ) (d : AbsVal) → k < length vs →
    slice_set (changed_so_far g vs k) k (g (get_or vs k d)) ≡ changed_so_far g vs (k + 1)
one_changed g vs k d h =
    let v = get_or vs k d in
    let before : length (map g (take k vs)) ≡ k = length-map (take k vs) g ∙ length-take-le k vs (omega (arith, h)) in
    ap (λ rest. slice_set (map g (take k vs) ++ rest) k (g v)) (drop_more vs k d h) ∙
    set_at (map g (take k vs)) v (drop (k + 1) vs) (g v) k before ∙
    sym (ap (λ t. t ++ drop (k + 1) vs) (ap (map g) (take_more vs k d h) ∙ map-append g (take k vs) (v ∷ [])) ∙ append_assoc (map g (take k vs)) (g v ∷ []) (drop (k + 1) vs))

pub unchanged_yet : (g : AbsVal → AbsVal) (vs : List AbsVal) (k : ℕ) (d : AbsVal) → k < length vs → get_or (changed_so_far g vs k) k d ≡ get_or vs k d
unchanged_yet g vs k d h =
    let before : length (map g (take k vs)) ≡ k = length-map (take k vs) g ∙ length-take-le k vs (omega (arith, h)) in
    ap (λ rest. get_or (map g (take k vs) ++ rest) k d) (drop_more vs k d h) ∙ get_or_at (map g (take k vs)) (get_or vs k d) (drop (k + 1) vs) d k before

pub changed_more : (g : AbsVal → AbsVal) (rs : List (Rc AbsVal Global)) (vs : List AbsVal) (k : ℕ) (d new : Rc AbsVal Global) → held_by rs ≡ changed_so_far g vs k → k < length rs → length rs ≡ length vs →
    new.value ≡ g (get_or rs k d).value → held_by (slice_set rs k new) ≡ changed_so_far g vs (k + 1)
changed_more g rs vs k d new is within same held =
    let inside : k < length vs = omega (arith, within, same) in
    let was : (get_or rs k d).value ≡ get_or vs k d.value = held-at rs k d ∙ ap (λ l. get_or l k d.value) is ∙ unchanged_yet g vs k d.value inside in
    held-set rs k new (g (get_or vs k d.value)) (changed_so_far g vs k) is (held ∙ ap g was) ∙ one_changed g vs k d.value inside

pub changed_all : (g : AbsVal → AbsVal) (now vs : List AbsVal) (k : ℕ) → now ≡ changed_so_far g vs k → length vs ≤ k → now ≡ map g vs
changed_all g now vs k is past =
    is ∙ ap (λ l. map g l ++ drop k vs) (take_all k vs past) ∙ ap (λ l. map g vs ++ l) (drop_all k vs past) ∙ append-nil (map g vs)

-- ---- inclusion of two lists, from an index on

next : (k : ℕ) → suc k ≡ k + 1
next k = omega arith

pub from_here : (rooms others : List Room) (a b : List AbsVal) (k : ℕ) (x y : AbsVal) → k < length a → k < length b →
    values_included rooms others (drop k a) (drop k b) ≡ (value_included rooms others (get_or a k x) (get_or b k y) && values_included rooms others (drop (k + 1) a) (drop (k + 1) b))
unfolding values_included
from_here rooms others a b k x y h g =
    rw (drop_more a k x h, drop_more b k y g) refl

pub past_end : (rooms others : List Room) (a b : List AbsVal) (k : ℕ) → length a ≤ k → length a ≡ length b → values_included rooms others (drop k a) (drop k b) ≡ true
unfolding values_included
past_end rooms others a b k h same = rw (drop_all k a h, drop_all k b (omega (arith, h, same))) refl

-- the rest of the test, from index k on
abbrev pub left_of : List Room → List Room → List (Rc AbsVal Global) → List (Rc AbsVal Global) → ℕ → Bool
left_of rooms others a b k = values_included rooms others (drop k (held_by a)) (drop k (held_by b))

pub length_held : (rs : List (Rc AbsVal Global)) → length (held_by rs) ≡ length rs
length_held rs = length-map rs (λ r. r.value)

-- the test at index k, and the rest
one_test : (rooms others : List Room) (a b : List (Rc AbsVal Global)) (k : ℕ) (x y : Rc AbsVal Global) → k < length a → length a ≡ length b →
    left_of rooms others a b k ≡ (value_included rooms others (get_or a k x).value (get_or b k y).value && left_of rooms others a b (k + 1))
one_test rooms others a b k x y h same =
    from_here rooms others (held_by a) (held_by b) k x.value y.value (omega (arith, h, length_held a)) (omega (arith, h, same, length_held b)) ∙
    ap (λ v. value_included rooms others v (get_or (held_by b) k y.value) && left_of rooms others a b (k + 1)) (sym (held-at a k x)) ∙
    ap (λ v. value_included rooms others (get_or a k x).value v && left_of rooms others a b (k + 1)) (sym (held-at b k y))

-- the value at index k isn't included
pub found : (rooms others : List Room) (a b : List (Rc AbsVal Global)) (k : ℕ) (x y : Rc AbsVal Global) → k < length a →
    false ≡ value_included rooms others (get_or a k x).value (get_or b k y).value → length a ≡ length b → IsValueOutside rooms others (held_by a) (held_by b) k
found rooms others a b k x y h differs same =
    let inside : k < length (held_by a) = omega (arith, h, length_held a) in
    let there : k < length (held_by b) = omega (arith, h, same, length_held b) in
    record {
      within = inside;
      outside = ap (λ v. value_included rooms others v (get_or (held_by b) k abs.Unset)) (same_within (held_by a) k abs.Unset x.value inside ∙ sym (held-at a k x)) ∙
          ap (λ v. value_included rooms others (get_or a k x).value v) (same_within (held_by b) k abs.Unset y.value there ∙ sym (held-at b k y)) ∙ sym differs;
    }

pub goes_on : (rooms others : List Room) (a b : List (Rc AbsVal Global)) (k : ℕ) (x y : Rc AbsVal Global) → k < length a → length a ≡ length b →
    true ≡ value_included rooms others (get_or a k x).value (get_or b k y).value → values_included rooms others (held_by a) (held_by b) ≡ left_of rooms others a b k →
    values_included rooms others (held_by a) (held_by b) ≡ left_of rooms others a b (k + 1)
goes_on rooms others a b k x y h same so so_far =
    so_far ∙ one_test rooms others a b k x y h same ∙ ap (λ t. t && left_of rooms others a b (k + 1)) (sym so)

pub ends : (rooms others : List Room) (a b : List (Rc AbsVal Global)) (k : ℕ) → length a ≤ k → length a ≡ length b →
    values_included rooms others (held_by a) (held_by b) ≡ left_of rooms others a b k → values_included rooms others (held_by a) (held_by b) ≡ true
ends rooms others a b k h same so_far =
    so_far ∙ past_end rooms others (held_by a) (held_by b) k (omega (arith, h, length_held a)) (length_held a ∙ same ∙ sym (length_held b))

-- ---- what was read

-- reading an index that was set to x
pub got_set : (xs : List AbsVal) (i : ℕ) (x v : AbsVal) → slice_get (slice_set xs i x) i ≡ Some v → v ≡ x
got_set [] i x v h = absurd (cc)
got_set (y ∷ xs) zero x v h = cc
got_set (y ∷ xs) (suc i) x v h = got_set xs i x v h

pub got_or : (xs : List AbsVal) (i : ℕ) (d v : AbsVal) → slice_get xs i ≡ Some v → get_or xs i d ≡ v
got_or [] i d v h = absurd (cc)
got_or (y ∷ xs) zero d v h = cc
got_or (y ∷ xs) (suc i) d v h = got_or xs i d v h
