-- Values kept for a caller, some of which have lost their label.
use Rattle.std.proofs.Common.{◌≡◌, inl, inr, ℕ, zero, suc, ◌+◌, ◌<◌, ◌≤◌, true, false, List, [], ◌∷◌, length, drop, refl, ap, sym, ◌∙◌, arith, slice_set, get_or}
use Rattle.std.specs.Prelude.{◌||◌, ◌&&◌, slice_get, Some, None}
use Rattle.std.proofs.lemmas.Bool.{cond_both, cond-true, cond-false, cases_Bool, cases_eq, false≢true}
use Rattle.std.proofs.lemmas.List.{set-get_or}
use Rattle.std.specs.declared.alloc.Global.{Global}
use Rattle.std.specs.declared.rc.Rc.{Rc}
use Rattle.bpf_absval.specs.declared.value.AbsVal.{AbsVal}
use Rattle.bpf_absval.specs.declared.value.AbsVal.TheVariants as abs
use Rattle.bpf_absval.specs.Marked.{is_marked, OthersStay, seen_at, seen}
use Rattle.bpf_absval.specs.Unlabelled.{unlabelled, has_label, bare}
use Rattle.bpf_absval.proofs.Marking.{seen_length, seen_agree, seen_get, seen_index, seen_marked}
use Rattle.bpf_absval.specs.declared.room.Room.{Room}
use Rattle.bpf_absstate.specs.Difference.{lies_in_at}
use Rattle.bpf_absstate.specs.Inclusion.{values_included}
use Rattle.bpf_absstate.specs.Shared.{held_by}
use Rattle.bpf_absstate.proofs.Whole.{same_within}
use Rattle.bpf_absstate.proofs.Pointers.{changed_so_far, one_changed, unchanged_yet, held-at, length_held, from_here, past_end}

bare_forgets : (label : ℕ) (v : AbsVal) → bare v ≡ unlabelled label (bare v)
bare_forgets label (abs.Frame offset l) = refl
bare_forgets label v = refl

label_lost : (label : ℕ) (v : AbsVal) → has_label label v ≡ true → bare v ≡ unlabelled label v
label_lost label (abs.Frame offset None) h = absurd (false≢true h)
label_lost label (abs.Frame offset (Some l)) h = rw h refl
label_lost label v h = absurd (false≢true h)

label_stays : (label : ℕ) (v : AbsVal) → has_label label v ≡ false → v ≡ unlabelled label v
label_stays label (abs.Frame offset None) h = refl
label_stays label (abs.Frame offset (Some l)) h = rw h refl
label_stays label v h = refl

first : (k : ℕ) → 0 + k ≡ k
first k = omega arith

-- one more value has lost the label
module _ (rs : List (Rc AbsVal Global)) (label start m n k : ℕ) (d : Rc AbsVal Global) (few : length rs ≤ 64) (within : k < length rs)
    (others : OthersStay k m n) (so_far : seen bare m 0 (held_by rs) ≡ changed_so_far (unlabelled label) (seen bare start 0 (held_by rs)) k) where
  abbrev pub xs : List AbsVal
  xs = held_by rs

  abbrev pub vs : List AbsVal
  vs = seen bare start 0 xs

  abbrev pub x : AbsVal
  x = get_or xs k abs.Unset

  inside : k < length xs
  inside = omega (arith, within, length_held rs)

  inside_seen : k < length vs
  inside_seen = omega (arith, inside, seen_length bare start 0 xs)

  read : get_or vs k abs.Unset ≡ seen_at bare start k x
  read = rw (first k) at (seen_index bare start 0 xs k abs.Unset inside)

  lost : has_label label x ≡ true → is_marked n k ≡ true → seen bare n 0 xs ≡ changed_so_far (unlabelled label) vs (k + 1)
  lost has here =
      seen_marked bare m n 0 xs k abs.Unset (rw (first k) here) (λ i l h apart. others i (omega (arith, h, length_held rs, few)) (λ e. apart (e ∙ sym (first k))))
      ∙ ap (λ row. slice_set row k (bare x)) so_far
      ∙ ap (slice_set (changed_so_far (unlabelled label) vs k) k)
      (cond_both (is_marked start k) (bare x) x (λ t. bare x ≡ unlabelled label t) (λ e. bare_forgets label x) (λ e. label_lost label x has) ∙ ap (unlabelled label) (sym read))
      ∙ one_changed (unlabelled label) vs k abs.Unset inside_seen

  stays : has_label label x ≡ false → is_marked n k ≡ is_marked m k → seen bare n 0 xs ≡ changed_so_far (unlabelled label) vs (k + 1)
  stays none here =
      seen_agree bare m n 0 xs
      (λ i l h. elim (cases_eq i k) as (λ _. is_marked n i ≡ is_marked m i) [
        | inl is ↦ rw is here
        | inr apart ↦ others i (omega (arith, h, length_held rs, few)) apart
      ])
      ∙ so_far
      ∙ sym (set-get_or (changed_so_far (unlabelled label) vs k) k abs.Unset)
      ∙ ap (slice_set (changed_so_far (unlabelled label) vs k) k)
      (unchanged_yet (unlabelled label) vs k abs.Unset inside_seen ∙ read
      ∙ cond_both (is_marked start k) (bare x) x (λ t. t ≡ unlabelled label t) (λ e. bare_forgets label x) (λ e. label_stays label x none)
      ∙ ap (unlabelled label) (sym read))
      ∙ one_changed (unlabelled label) vs k abs.Unset inside_seen

  pub marked_more : is_marked n k ≡ (has_label label (get_or rs k d).value || is_marked m k) → seen bare n 0 xs ≡ changed_so_far (unlabelled label) vs (k + 1)
  marked_more here =
      let same : (get_or rs k d).value ≡ x = held-at rs k d ∙ same_within xs k d.value abs.Unset inside in
      let told : is_marked n k ≡ (has_label label x || is_marked m k) = here ∙ ap (λ v. has_label label v || is_marked m k) same in
      elim (cases_Bool (has_label label x)) as (λ _. seen bare n 0 xs ≡ changed_so_far (unlabelled label) vs (k + 1)) [
        | inl has ↦ lost has (told ∙ ap (λ b. b || is_marked m k) has)
        | inr none ↦ stays none (told ∙ ap (λ b. b || is_marked m k) none)
      ]

-- ---- read

held_get : (rs : List (Rc AbsVal Global)) (i : ℕ) (d : Rc AbsVal Global) → i < length rs → slice_get (held_by rs) i ≡ Some (get_or rs i d).value
held_get [] i d h = absurd (omega (arith, h))
held_get (r ∷ rs) zero d h = refl
held_get (r ∷ rs) (suc i) d h = held_get rs i d (omega (arith, h))

module _ (m : ℕ) (rs : List (Rc AbsVal Global)) (i : ℕ) (d : Rc AbsVal Global) (now : List AbsVal) (is : seen bare m 0 (held_by rs) ≡ now) (within : i < length rs) where
  pub kept_got : slice_get now i ≡ Some (seen_at bare m i (get_or rs i d).value)
  kept_got =
      ap (λ vs. slice_get vs i) (sym is) ∙ seen_get bare m 0 (held_by rs) i (get_or rs i d).value (held_get rs i d within)
      ∙ ap (λ k. Some (seen_at bare m k (get_or rs i d).value)) (first i)

  pub kept_bare : is_marked m i ≡ true → slice_get now i ≡ Some (bare (get_or rs i d).value)
  kept_bare marked = kept_got ∙ ap Some (cond-true (is_marked m i) (bare (get_or rs i d).value) (get_or rs i d).value marked)

  pub kept_whole : is_marked m i ≡ false → slice_get now i ≡ Some (get_or rs i d).value
  kept_whole unmarked = kept_got ∙ ap Some (cond-false (is_marked m i) (bare (get_or rs i d).value) (get_or rs i d).value unmarked)

-- ---- compared

module _ (rooms others : List Room) (a b : List AbsVal) (k : ℕ) (long : length a ≡ 4) (same : length b ≡ 4) where
  pub kept_goes_on : k < 4 → lies_in_at rooms others a b k ≡ true → values_included rooms others a b ≡ values_included rooms others (drop k a) (drop k b)
      → values_included rooms others a b ≡ values_included rooms others (drop (k + 1) a) (drop (k + 1) b)
  kept_goes_on h here so_far =
      so_far ∙ from_here rooms others a b k abs.Unset abs.Unset (omega (arith, h, long)) (omega (arith, h, same))
      ∙ ap (λ t. t && values_included rooms others (drop (k + 1) a) (drop (k + 1) b)) here

  pub kept_ends : 4 ≤ k → values_included rooms others a b ≡ values_included rooms others (drop k a) (drop k b) → values_included rooms others a b ≡ true
  kept_ends h so_far = so_far ∙ past_end rooms others a b k (omega (arith, h, long)) (long ∙ sym same)

pub kept_long : (m : ℕ) (rs : List (Rc AbsVal Global)) (now : List AbsVal) → seen bare m 0 (held_by rs) ≡ now → length rs ≡ 4 → length now ≡ 4
kept_long m rs now is size = ap length (sym is) ∙ seen_length bare m 0 (held_by rs) ∙ length_held rs ∙ size
