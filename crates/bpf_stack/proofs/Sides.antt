-- A write to one half of a row.
use Rattle.std.proofs.Common.{◌≡◌, ◌⊎◌, inl, inr, ℕ, zero, suc, ◌+◌, ◌-◌, ◌/◌, ◌<◌, ◌≤◌, ◌^◌, List, ◌++◌, length, slice_set, replicate, arith, ◌∙◌, sym, ap, length-append}
use Rattle.std.proofs.lemmas.List.{set-append_left, set-append_right, replicate-append-replicate, length-replicate, length-set}
use Rattle.std.proofs.lemmas.Nat.{pow_pos}
use Rattle.bpf_absval.specs.declared.slot.AbsSlot.{AbsSlot}
use Rattle.bpf_absval.specs.declared.slot.AbsSlot.TheVariants as cell
use Rattle.bpf_stack.specs.Leaves.{IsEven}

same_row : (now d : List AbsSlot) → (now ≡ d) ⊎ (now ≡ d) → now ≡ d
same_row now d (inl e) = e
same_row now d (inr e) = e

-- `now` equals the row d, and has the halves l and r
pub set_left : (d now l r l2 v : List AbsSlot) (count i : ℕ) (x : AbsSlot) → count ≡ length d → (now ≡ d) ⊎ (now ≡ d) → l ++ r ≡ now → IsEven l r
    → l2 ≡ slice_set l i x → v ≡ l2 ++ r → i < count / 2 → v ≡ slice_set d i x
set_left d now l r l2 v count i x whole was halves even set held h =
    let is : l ++ r ≡ d = halves ∙ same_row now d was in
    let within : i < length l = omega (arith, whole, ap length is, length-append l r, even.same, h) in
    rw (held, set, ← is) (sym (set-append_left l r i x within))

pub set_right : (d now l r r2 v : List AbsSlot) (count i : ℕ) (x : AbsSlot) → count ≡ length d → (now ≡ d) ⊎ (now ≡ d) → l ++ r ≡ now → IsEven l r
    → r2 ≡ slice_set r (i - count / 2) x → v ≡ l ++ r2 → count / 2 ≤ i → v ≡ slice_set d i x
set_right d now l r r2 v count i x whole was halves even set held h =
    let is : l ++ r ≡ d = halves ∙ same_row now d was in
    let half : length l ≡ count / 2 = omega (arith, whole, ap length is, length-append l r, even.same) in
    rw (held, set, ← is) (sym (set-append_right l r (count / 2) i x half h))

-- ---- rows of 2 ^ d unset slots

two_power : (d : ℕ) → 0 < d → 2 ^ (d - 1) + 2 ^ (d - 1) ≡ 2 ^ d
two_power zero h = absurd (omega (arith, h))
two_power (suc d) h = grind arith

pub half_power : (count d : ℕ) → count ≡ 2 ^ d → 0 < d → count / 2 ≡ 2 ^ (d - 1)
half_power count d whole h = omega (arith, whole, two_power d h)

pub second_half : (count d i : ℕ) → count ≡ 2 ^ d → 0 < d → i < count → count / 2 ≤ i → i - count / 2 < count / 2
second_half count d i whole h within behind = omega (arith, whole, two_power d h, within, behind)

unset_halves : (count d : ℕ) → count ≡ 2 ^ d → 0 < d → replicate (count / 2) cell.Unset ++ replicate (2 ^ (d - 1)) cell.Unset ≡ replicate count cell.Unset
unset_halves count d whole h =
    let half = half_power count d whole h in
    let two = two_power d h in
    rw (half, whole) (replicate-append-replicate (2 ^ (d - 1)) (2 ^ (d - 1)) cell.Unset ∙ ap (λ n. replicate n cell.Unset) two)

pub one_left : (count d i : ℕ) (x : AbsSlot) (l : List AbsSlot) → count ≡ 2 ^ d → 0 < d → i < count / 2
    → l ≡ slice_set (replicate (count / 2) cell.Unset) i x → l ++ replicate (2 ^ (d - 1)) cell.Unset ≡ slice_set (replicate count cell.Unset) i x
one_left count d i x l whole h within set =
    let inside : i < length (replicate (count / 2) cell.Unset) = rw (length-replicate (count / 2) cell.Unset) within in
    rw (set, ← unset_halves count d whole h) (sym (set-append_left (replicate (count / 2) cell.Unset) (replicate (2 ^ (d - 1)) cell.Unset) i x inside))

pub one_right : (count d i : ℕ) (x : AbsSlot) (r : List AbsSlot) → count ≡ 2 ^ d → 0 < d → count / 2 ≤ i
    → r ≡ slice_set (replicate (count / 2) cell.Unset) (i - count / 2) x → replicate (2 ^ (d - 1)) cell.Unset ++ r ≡ slice_set (replicate count cell.Unset) i x
one_right count d i x r whole h behind set =
    let half = half_power count d whole h in
    let size : length (replicate (2 ^ (d - 1)) cell.Unset) ≡ count / 2 = length-replicate (2 ^ (d - 1)) cell.Unset ∙ sym half in
    let rest : replicate (2 ^ (d - 1)) cell.Unset ++ replicate (count / 2) cell.Unset ≡ replicate count cell.Unset =
    ap (λ n. replicate n cell.Unset ++ replicate (count / 2) cell.Unset) (sym half) ∙ ap (λ n. replicate (count / 2) cell.Unset ++ replicate n cell.Unset) half ∙ unset_halves count d whole h in
    rw (set, ← rest) (sym (set-append_right (replicate (2 ^ (d - 1)) cell.Unset) (replicate (count / 2) cell.Unset) (count / 2) i x size behind))

pub even_left : (count d i : ℕ) (x : AbsSlot) (l : List AbsSlot) → count ≡ 2 ^ d → 0 < d
    → l ≡ slice_set (replicate (count / 2) cell.Unset) i x → IsEven l (replicate (2 ^ (d - 1)) cell.Unset)
even_left count d i x l whole h set =
    let size : length l ≡ 2 ^ (d - 1) = ap length set ∙ length-set (replicate (count / 2) cell.Unset) i x ∙ length-replicate (count / 2) cell.Unset ∙ half_power count d whole h in
    let other = length-replicate (2 ^ (d - 1)) cell.Unset in
    record { same = size ∙ sym other; some = omega (arith, size, pow_pos (d - 1)) }

pub even_right : (count d i : ℕ) (x : AbsSlot) (r : List AbsSlot) → count ≡ 2 ^ d → 0 < d
    → r ≡ slice_set (replicate (count / 2) cell.Unset) i x → IsEven (replicate (2 ^ (d - 1)) cell.Unset) r
even_right count d i x r whole h set =
    let e = even_left count d i x r whole h set in
    record { same = sym e.same; some = omega (arith, e.same, e.some) }
