-- Rows of slots as they are seen: those with a mark have no label.
use Rattle.std.proofs.Common.{◌≡◌, inl, inr, ℕ, zero, suc, ◌+◌, ◌/◌, ◌≤◌, List, [], ◌∷◌, ◌++◌, length, map, Bool, true, false, cond, ◌&&◌, refl, ap, sym, ◌∙◌, arith, replicate, slice_set, slice_index_or, length-append}
use Rattle.std.specs.Prelude.{slice_get, Some, None}
use Rattle.std.specs.List.{list_all}
use Rattle.std.proofs.lemmas.List.{map-append, length-replicate, get_or_append_left, get_or-append-add}
use Rattle.std.proofs.lemmas.Bool.{cond_both, cond-true, cond-false, false≢true}
use Rattle.bpf_absval.specs.declared.slot.AbsSlot.{AbsSlot}
use Rattle.bpf_absval.specs.declared.slot.AbsSlot.TheVariants as cell
use Rattle.bpf_absval.specs.declared.value.AbsVal.TheVariants as abs
use Rattle.bpf_absval.specs.declared.room.Room.{Room}
use Rattle.bpf_absval.specs.Inclusion.{slot_included}
use Rattle.bpf_absval.specs.Marked.{is_marked, OthersStay, seen_at, seen}
use Rattle.bpf_absval.specs.Unlabelled.{slot_unlabelled, slot_has_label, slot_bare}
use Rattle.bpf_absval.specs.WellFormed.{IsSlot}
use Rattle.bpf_absval.proofs.Marking.{seen_append, seen_length, seen_agree, seen_get, seen_index, seen_written, seen_all}
use Rattle.bpf_stack.specs.Included.{slots_included, IsOutside, IsSet}
use Rattle.bpf_stack.specs.Leaves.{IsEven, IsStack}
use Rattle.bpf_stack.specs.Marks.{StayOutside}
use Rattle.bpf_stack.proofs.Both.{both_sides, one_in_one}
use Rattle.bpf_stack.proofs.Unsets.{slot_stays, unset_stay, unset_include, unset_in}

same_either : {X : Type 0} (b : Bool) (x : X) → cond b x x ≡ x
same_either true x = refl
same_either false x = refl

-- ---- unset slots

pub unset_seen : (m first n : ℕ) → seen slot_bare m first (replicate n cell.Unset) ≡ replicate n cell.Unset
unfolding seen
unset_seen m first zero = refl
unset_seen m first (suc n) =
    ap (λ s. s ∷ seen slot_bare m (first + 1) (replicate n cell.Unset)) (same_either (is_marked m first) cell.Unset)
    ∙ ap (λ (rest : List AbsSlot). cell.Unset ∷ rest) (unset_seen m (first + 1) n)

-- whether an unset slot is included doesn't depend on a label
bare_admits : (rooms others : List Room) (s : AbsSlot) → slot_included rooms others cell.Unset (slot_bare s) ≡ slot_included rooms others cell.Unset s
bare_admits rooms others cell.Unset = refl
bare_admits rooms others (cell.Stored v) = refl
bare_admits rooms others (cell.Bytes mask) = refl

seen_admits : (rooms others : List Room) (m i : ℕ) (s : AbsSlot) → slot_included rooms others cell.Unset (seen_at slot_bare m i s) ≡ slot_included rooms others cell.Unset s
seen_admits rooms others m i s =
    cond_both (is_marked m i) (slot_bare s) s (λ t. slot_included rooms others cell.Unset t ≡ slot_included rooms others cell.Unset s)
    (λ e. bare_admits rooms others s) (λ e. refl)

all_seen : (rooms others : List Room) (m first : ℕ) (b : List AbsSlot)
    → list_all (slot_included rooms others cell.Unset) (seen slot_bare m first b) ≡ list_all (slot_included rooms others cell.Unset) b
unfolding seen
all_seen rooms others m first [] = refl
all_seen rooms others m first (s ∷ b) =
    ap (λ t. t && list_all (slot_included rooms others cell.Unset) (seen slot_bare m (first + 1) b)) (seen_admits rooms others m first s)
    ∙ ap (λ t. slot_included rooms others cell.Unset s && t) (all_seen rooms others m (first + 1) b)

-- the test of an unset row against another
pub unset_row_in : (rooms others : List Room) (m o first n : ℕ) (b : List AbsSlot) → n ≡ length b
    → list_all (slot_included rooms others cell.Unset) b
    ≡ slots_included rooms others (seen slot_bare m first (replicate n cell.Unset)) (seen slot_bare o first b)
unset_row_in rooms others m o first n b size =
    sym (all_seen rooms others o first b) ∙ unset_in rooms others (seen slot_bare o first b) n (size ∙ sym (seen_length slot_bare o first b))
    ∙ ap (λ a. slots_included rooms others a (seen slot_bare o first b)) (sym (unset_seen m first n))

pub in_unset_row : (rooms others : List Room) (m o first n : ℕ) (a : List AbsSlot) → length a ≡ n
    → slots_included rooms others (seen slot_bare m first a) (seen slot_bare o first (replicate n cell.Unset)) ≡ true
in_unset_row rooms others m o first n a size =
    ap (slots_included rooms others (seen slot_bare m first a)) (unset_seen o first n)
    ∙ sym (unset_include rooms others (seen slot_bare m first a) n (seen_length slot_bare m first a ∙ size))

unset_everywhere : (n i : ℕ) → slice_index_or (replicate n cell.Unset) i cell.Unset ≡ cell.Unset
unset_everywhere zero i = refl
unset_everywhere (suc n) zero = refl
unset_everywhere (suc n) (suc i) = unset_everywhere n i

pub unset_row_outside : (rooms others : List Room) (m o first n : ℕ) (b : List AbsSlot) (i : ℕ) → n ≡ length b → IsSet rooms others b i
    → IsOutside rooms others (seen slot_bare m first (replicate n cell.Unset)) (seen slot_bare o first b) i
unset_row_outside rooms others m o first n b i size h = record {
  within = omega (arith, h.within, size, seen_length slot_bare m first (replicate n cell.Unset), length-replicate n cell.Unset);
  outside =
      ap (λ s. slot_included rooms others s (slice_index_or (seen slot_bare o first b) i cell.Unset))
      (ap (λ row. slice_index_or row i cell.Unset) (unset_seen m first n) ∙ unset_everywhere n i)
      ∙ ap (slot_included rooms others cell.Unset) (seen_index slot_bare o first b i cell.Unset h.within)
      ∙ seen_admits rooms others o (first + i) (slice_index_or b i cell.Unset) ∙ h.outside;
}

-- ---- one slot

pub one_included : (rooms others : List Room) (m o first : ℕ) (a b : AbsSlot)
    → slot_included rooms others (seen_at slot_bare m first a) (seen_at slot_bare o first b) ≡ true
    → slots_included rooms others (seen slot_bare m first (a ∷ [])) (seen slot_bare o first (b ∷ [])) ≡ true
unfolding seen
one_included rooms others m o first a b h = sym (one_in_one rooms others (seen_at slot_bare m first a) (seen_at slot_bare o first b)) ∙ h

pub one_outside : (rooms others : List Room) (m o first : ℕ) (a b : AbsSlot)
    → slot_included rooms others (seen_at slot_bare m first a) (seen_at slot_bare o first b) ≡ false
    → IsOutside rooms others (seen slot_bare m first (a ∷ [])) (seen slot_bare o first (b ∷ [])) 0
unfolding seen
one_outside rooms others m o first a b h = record { within = omega arith; outside = h }

-- ---- two halves

pub half_of : (d l r : List AbsSlot) (count : ℕ) → d ≡ l ++ r → IsEven l r → count ≡ length d → length l ≡ count / 2
half_of d l r count is even size = omega (arith, size, ap length is, length-append l r, even.same)

seen_halves : (m first count : ℕ) (d l r : List AbsSlot) → d ≡ l ++ r → IsEven l r → count ≡ length d
    → seen slot_bare m first d ≡ seen slot_bare m first l ++ seen slot_bare m (first + count / 2) r
seen_halves m first count d l r is even size =
    ap (seen slot_bare m first) is ∙ seen_append slot_bare m first l r
    ∙ ap (λ k. seen slot_bare m first l ++ seen slot_bare m (first + k) r) (half_of d l r count is even size)

-- two rows of one length, each in two halves
pub record Halved (count : ℕ) (d l r d2 l2 r2 : List AbsSlot) : Type 0 where
  pub is : d ≡ l ++ r
  pub even : IsEven l r
  pub whole : count ≡ length d
  pub is_other : d2 ≡ l2 ++ r2
  pub even_other : IsEven l2 r2
  pub whole_other : count ≡ length d2

module _ (rooms others : List Room) (m o first count : ℕ) (d l r d2 l2 r2 : List AbsSlot) (h : Halved count d l r d2 l2 r2) where
  abbrev pub here : List AbsSlot
  here = seen slot_bare m first l

  abbrev pub behind : List AbsSlot
  behind = seen slot_bare m (first + count / 2) r

  abbrev pub there : List AbsSlot
  there = seen slot_bare o first l2

  abbrev pub behind_there : List AbsSlot
  behind_there = seen slot_bare o (first + count / 2) r2

  a_is : seen slot_bare m first d ≡ here ++ behind
  a_is = seen_halves m first count d l r h.is h.even h.whole

  b_is : seen slot_bare o first d2 ≡ there ++ behind_there
  b_is = seen_halves o first count d2 l2 r2 h.is_other h.even_other h.whole_other

  here_long : length here ≡ count / 2
  here_long = seen_length slot_bare m first l ∙ half_of d l r count h.is h.even h.whole

  there_long : length there ≡ count / 2
  there_long = seen_length slot_bare o first l2 ∙ half_of d2 l2 r2 count h.is_other h.even_other h.whole_other

  pub halves_included : slots_included rooms others (seen slot_bare m first d) (seen slot_bare o first d2)
      ≡ (slots_included rooms others here there && slots_included rooms others behind behind_there)
  halves_included = rw (a_is, b_is) (both_sides rooms others here behind there behind_there (here_long ∙ sym there_long))

  pub outside_first : (i : ℕ) → IsOutside rooms others here there i → IsOutside rooms others (seen slot_bare m first d) (seen slot_bare o first d2) i
  outside_first i out =
      rw (a_is, b_is) (record {
        within = omega (arith, out.within, length-append here behind);
        outside =
            ap (λ s. slot_included rooms others s (slice_index_or (there ++ behind_there) i cell.Unset)) (get_or_append_left here behind cell.Unset i out.within)
            ∙ ap (slot_included rooms others (slice_index_or here i cell.Unset)) (get_or_append_left there behind_there cell.Unset i (omega (arith, out.within, here_long, there_long)))
            ∙ out.outside;
      })

  later : (xs ys : List AbsSlot) (n i : ℕ) → length xs ≡ n → slice_index_or (xs ++ ys) (n + i) cell.Unset ≡ slice_index_or ys i cell.Unset
  later xs ys n i size = ap (λ k. slice_index_or (xs ++ ys) (k + i) cell.Unset) (sym size) ∙ get_or-append-add xs ys i cell.Unset

  pub outside_second : (i : ℕ) → IsOutside rooms others behind behind_there i → IsOutside rooms others (seen slot_bare m first d) (seen slot_bare o first d2) (count / 2 + i)
  outside_second i out =
      rw (a_is, b_is) (record {
        within = omega (arith, out.within, length-append here behind, here_long);
        outside =
            ap (λ s. slot_included rooms others s (slice_index_or (there ++ behind_there) (count / 2 + i) cell.Unset)) (later here behind (count / 2) i here_long)
            ∙ ap (slot_included rooms others (slice_index_or behind i cell.Unset)) (later there behind_there (count / 2) i there_long)
            ∙ out.outside;
      })

-- ---- a label is forgotten

bare_forgets : (label : ℕ) (s : AbsSlot) → slot_bare s ≡ slot_unlabelled label (slot_bare s)
bare_forgets label cell.Unset = refl
bare_forgets label (cell.Bytes mask) = refl
bare_forgets label (cell.Stored (abs.Frame offset l)) = refl
bare_forgets label (cell.Stored v) = refl

label_lost : (label : ℕ) (s : AbsSlot) → slot_has_label label s ≡ true → slot_bare s ≡ slot_unlabelled label s
label_lost label cell.Unset h = absurd (false≢true h)
label_lost label (cell.Bytes mask) h = absurd (false≢true h)
label_lost label (cell.Stored (abs.Frame offset None)) h = absurd (false≢true h)
label_lost label (cell.Stored (abs.Frame offset (Some l))) h = rw h refl
label_lost label (cell.Stored v) h = absurd (false≢true h)

pub one_forgotten : (label m n first : ℕ) (s : AbsSlot) → slot_has_label label s ≡ true → is_marked n first ≡ true
    → seen slot_bare n first (s ∷ []) ≡ map (slot_unlabelled label) (seen slot_bare m first (s ∷ []))
unfolding seen
one_forgotten label m n first s has marked =
    ap (λ t. t ∷ [])
    (cond-true (is_marked n first) (slot_bare s) s marked
    ∙ cond_both (is_marked m first) (slot_bare s) s (λ t. slot_bare s ≡ slot_unlabelled label t) (λ e. bare_forgets label s) (λ e. label_lost label s has))

pub one_stays : (label m first : ℕ) (s : AbsSlot) → slot_has_label label s ≡ false
    → seen slot_bare m first (s ∷ []) ≡ map (slot_unlabelled label) (seen slot_bare m first (s ∷ []))
unfolding seen
one_stays label m first s none =
    ap (λ t. t ∷ [])
    (cond_both (is_marked m first) (slot_bare s) s (λ t. t ≡ slot_unlabelled label t) (λ e. bare_forgets label s) (λ e. sym (slot_stays label s none)))

pub unset_forgotten : (label m first n : ℕ)
    → seen slot_bare m first (replicate n cell.Unset) ≡ map (slot_unlabelled label) (seen slot_bare m first (replicate n cell.Unset))
unset_forgotten label m first n = unset_seen m first n ∙ sym (unset_stay label n) ∙ ap (map (slot_unlabelled label)) (sym (unset_seen m first n))

-- first on the left of a fork, then on its right
module _ (label a b c first count : ℕ) (d l r : List AbsSlot) (is : d ≡ l ++ r) (even : IsEven l r) (size : count ≡ length d) (within : first + count ≤ 64)
    (left : StayOutside first (count / 2) a b) (right : StayOutside (first + count / 2) (count / 2) b c) where
  long : length l ≡ count / 2
  long = half_of d l r count is even size

  twice : count ≡ count / 2 + count / 2
  twice = omega (arith, size, ap length is, length-append l r, even.same)

  pub both_outside : StayOutside first count a c
  both_outside i low (inl before) = right i low (inl (omega (arith, before))) ∙ left i low (inl before)
  both_outside i low (inr after) = right i low (inr (omega (arith, after, twice))) ∙ left i low (inr (omega (arith, after, twice)))

  pub both_forgotten : seen slot_bare b first l ≡ map (slot_unlabelled label) (seen slot_bare a first l)
      → seen slot_bare c (first + count / 2) r ≡ map (slot_unlabelled label) (seen slot_bare b (first + count / 2) r)
      → seen slot_bare c first d ≡ map (slot_unlabelled label) (seen slot_bare a first d)
  both_forgotten on_left on_right =
      let h = count / 2 in
      let half_two : length r ≡ h = sym even.same ∙ long in
      let kept_left : seen slot_bare c first l ≡ seen slot_bare b first l =
      seen_agree slot_bare b c first l (λ i l h. right i (omega (arith, h, long, within, twice)) (inl (omega (arith, h, long)))) in
      let kept_right : seen slot_bare b (first + h) r ≡ seen slot_bare a (first + h) r =
      seen_agree slot_bare a b (first + h) r (λ i l h. left i (omega (arith, h, half_two, within, twice)) (inr l)) in
      seen_halves c first count d l r is even size
      ∙ ap (λ xs. xs ++ seen slot_bare c (first + h) r) (kept_left ∙ on_left)
      ∙ ap (λ ys. map (slot_unlabelled label) (seen slot_bare a first l) ++ ys) (on_right ∙ ap (map (slot_unlabelled label)) kept_right)
      ∙ sym (map-append (slot_unlabelled label) (seen slot_bare a first l) (seen slot_bare a (first + h) r))
      ∙ ap (map (slot_unlabelled label)) (sym (seen_halves a first count d l r is even size))

-- ---- a stack

slot_bare_whole : (s : AbsSlot) → IsSlot s → IsSlot (slot_bare s)
slot_bare_whole cell.Unset h = tt
slot_bare_whole (cell.Bytes mask) h = tt
slot_bare_whole (cell.Stored (abs.Frame offset l)) h = h
slot_bare_whole (cell.Stored v) h = h

pub stack_seen : (m : ℕ) (xs : List AbsSlot) → IsStack xs → IsStack (seen slot_bare m 0 xs)
stack_seen m xs h = record {
  all = seen_length slot_bare m 0 xs ∙ h.all;
  whole = seen_all slot_bare IsSlot m 0 xs slot_bare_whole h.whole;
}

pub got_bare : (m : ℕ) (xs : List AbsSlot) (i : ℕ) (s : AbsSlot) → slice_get xs i ≡ Some s → is_marked m i ≡ true → slice_get (seen slot_bare m 0 xs) i ≡ Some (slot_bare s)
got_bare m xs i s h marked =
    let first : 0 + i ≡ i = omega arith in
    seen_get slot_bare m 0 xs i s h ∙ ap Some (ap (λ k. seen_at slot_bare m k s) first ∙ cond-true (is_marked m i) (slot_bare s) s marked)

pub got : (m : ℕ) (xs : List AbsSlot) (i : ℕ) (s : AbsSlot) → slice_get xs i ≡ Some s → is_marked m i ≡ false → slice_get (seen slot_bare m 0 xs) i ≡ Some s
got m xs i s h unmarked =
    let first : 0 + i ≡ i = omega arith in
    seen_get slot_bare m 0 xs i s h ∙ ap Some (ap (λ k. seen_at slot_bare m k s) first ∙ cond-false (is_marked m i) (slot_bare s) s unmarked)

pub written : (m n i : ℕ) (xs ys : List AbsSlot) (s : AbsSlot) → length xs ≡ 64 → ys ≡ slice_set xs i s → is_marked n i ≡ false → OthersStay i m n
    → seen slot_bare n 0 ys ≡ slice_set (seen slot_bare m 0 xs) i s
written m n i xs ys s size is unmarked same =
    let first : 0 + i ≡ i = omega arith in
    ap (seen slot_bare n 0) is ∙ seen_written slot_bare m n 0 xs i s (rw first unmarked) (λ j l h apart. same j (omega (arith, h, size)) (λ e. apart (e ∙ sym first)))
