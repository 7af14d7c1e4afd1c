-- If a part of a state isn't included in another, neither is the state.
use Rattle.std.proofs.Common.{◌≡◌, ℕ, zero, suc, ◌+◌, ◌-◌, ◌<◌, ◌≤◌, List, [], ◌∷◌, ◌++◌, length, Option, Some, None, Bool, true, false, refl, ap, sym, ◌∙◌, arith, slice_index_or}
use Rattle.std.specs.Prelude.{◌&&◌, ◌==◌, not, nat_le, nat_lt, IfNone, IfSome}
use Rattle.std.proofs.Math.Bool.{and-true, and-false}
use Rattle.std.proofs.lemmas.Bool.{false≢true, and_parts, ltb-true, eq-eqb}
use Rattle.std.proofs.lemmas.List.{length_push}
use Rattle.bpf_absval.specs.declared.room.Room.{Room}
use Rattle.bpf_absval.specs.declared.value.AbsVal.{AbsVal}
use Rattle.bpf_absval.specs.declared.slot.AbsSlot.TheVariants as slot
use Rattle.bpf_absval.specs.Inclusion.{value_included, slot_included}
use Rattle.bpf_stack.specs.Included.{slots_included}
use Rattle.bpf_stack.proofs.Outside.{slots_excluded}
use Rattle.bpf_absstate.specs.declared.frames.CallFrame.{CallFrame}
use Rattle.bpf_absstate.specs.declared.frames.Part.{Part}
use Rattle.bpf_absstate.specs.declared.frames.Part.TheVariants as part
use Rattle.bpf_absstate.specs.declared.frames.Place.{Place}
use Rattle.bpf_absstate.specs.declared.state.Difference.{Difference}
use Rattle.bpf_absstate.specs.declared.state.Difference.TheVariants as at
use Rattle.bpf_absstate.specs.Difference.{lies_in_at, part_outside, IsPlaceOutside, stand_together, lies_outside}
use Rattle.bpf_absstate.specs.Inclusion.{values_included, frame_included, frames_included, state_included}
use Rattle.bpf_absstate.specs.View.{View, main_frame, frame_of}
use Rattle.bpf_absstate.proofs.Chained.{get_before, get_last, included_more}

flipped : (t : Bool) → not t ≡ true → t ≡ false
flipped true h = absurd (false≢true h)
flipped false h = refl

module _ (rooms others : List Room) where
  pub values_excluded : (a b : List AbsVal) (k : ℕ) → lies_in_at rooms others a b k ≡ false → values_included rooms others a b ≡ false
  unfolding values_included
  values_excluded [] [] k h = absurd (false≢true (sym h))
  values_excluded [] (y ∷ b) k h = refl
  values_excluded (x ∷ a) [] k h = refl
  values_excluded (x ∷ a) (y ∷ b) zero h = ap (λ t. t && values_included rooms others a b) h
  values_excluded (x ∷ a) (y ∷ b) (suc k) h =
      ap (λ t. value_included rooms others x y && t) (values_excluded a b k h) ∙ and-false (value_included rooms others x y)

  pub frame_excluded : (f g : CallFrame) (p : Part) → part_outside rooms others f g p ≡ true → frame_included rooms others f g ≡ false
  frame_excluded f g part.Return h =
      ap (λ t. t && values_included rooms others f.kept g.kept && slots_included rooms others f.stack g.stack) (flipped (f.return_slot == g.return_slot) h)
  frame_excluded f g (part.Kept n) h =
      let kept = values_excluded f.kept g.kept n (flipped (lies_in_at rooms others f.kept g.kept n) (and_parts (nat_lt n 4) (not (lies_in_at rooms others f.kept g.kept n)) h).1) in
      ap (λ t. f.return_slot == g.return_slot && t && slots_included rooms others f.stack g.stack) kept ∙
      ap (λ t. t && slots_included rooms others f.stack g.stack) (and-false (f.return_slot == g.return_slot))
  frame_excluded f g (part.Slot i) h =
      let inside : Bool = slot_included rooms others (slice_index_or f.stack i slot.Unset) (slice_index_or g.stack i slot.Unset) in
      let stack = slots_excluded rooms others f.stack g.stack i (flipped inside (and_parts (nat_lt i 64) (not inside) h).1) in
      ap (λ t. f.return_slot == g.return_slot && values_included rooms others f.kept g.kept && t) stack ∙
      and-false (f.return_slot == g.return_slot && values_included rooms others f.kept g.kept)

  pub frames_excluded : (fs gs : List CallFrame) (k : ℕ) (p : Part) → k < length fs
      → part_outside rooms others (slice_index_or fs k main_frame) (slice_index_or gs k main_frame) p ≡ true → frames_included rooms others fs gs ≡ false
  unfolding frames_included
  frames_excluded [] gs k p within h = absurd (omega (arith, within))
  frames_excluded (f ∷ fs) [] k p within h = refl
  frames_excluded (f ∷ fs) (g ∷ gs) zero p within h = ap (λ t. t && frames_included rooms others fs gs) (frame_excluded f g p h)
  frames_excluded (f ∷ fs) (g ∷ gs) (suc k) p within h =
      ap (λ t. frame_included rooms others f g && t) (frames_excluded fs gs k p (omega (arith, within)) h) ∙ and-false (frame_included rooms others f g)

  as_many : (fs gs : List CallFrame) → frames_included rooms others fs gs ≡ true → length fs ≡ length gs
  unfolding frames_included
  as_many [] [] h = refl
  as_many [] (g ∷ gs) h = absurd (false≢true h)
  as_many (f ∷ fs) [] h = absurd (false≢true h)
  as_many (f ∷ fs) (g ∷ gs) h = ap suc (as_many fs gs (and_parts (frame_included rooms others f g) (frames_included rooms others fs gs) h).1)

  -- ---- the newest of n frames, and those below it

  pub newest_outside : (fs gs : List CallFrame) (f g : CallFrame) (n : ℕ) (p : Part) → n ≡ length (fs ++ f ∷ []) → n ≡ length (gs ++ g ∷ [])
      → part_outside rooms others f g p ≡ true → IsPlaceOutside rooms others (fs ++ f ∷ []) (gs ++ g ∷ []) (record { frame = n - 1; part = p })
  newest_outside fs gs f g n p whole same h =
      record {
        within = omega (arith, whole, length_push fs f);
        outside = rw (get_last fs f (n - 1) main_frame (omega (arith, whole, length_push fs f)), get_last gs g (n - 1) main_frame (omega (arith, same, length_push gs g))) h;
      }

  below_outside : (fs gs : List CallFrame) (f g : CallFrame) (p : Place) → length fs ≡ length gs
      → IsPlaceOutside rooms others fs gs p → IsPlaceOutside rooms others (fs ++ f ∷ []) (gs ++ g ∷ []) p
  below_outside fs gs f g p same h =
      record {
        within = omega (arith, h.within, length_push fs f);
        outside = rw (get_before fs f p.frame main_frame h.within, get_before gs g p.frame main_frame (omega (arith, same, h.within))) h.outside;
      }

  pub some_below : (fs gs : List CallFrame) (f g : CallFrame) (n : ℕ) (o : Option Place) → n ≡ length (fs ++ f ∷ []) → n ≡ length (gs ++ g ∷ [])
      → IfSome o (IsPlaceOutside rooms others fs gs) → IfSome o (IsPlaceOutside rooms others (fs ++ f ∷ []) (gs ++ g ∷ []))
  some_below fs gs f g n None whole same h = tt
  some_below fs gs f g n (Some p) whole same h = below_outside fs gs f g p (omega (arith, whole, same, length_push fs f, length_push gs g)) h

  pub none_below : (fs gs : List CallFrame) (f g : CallFrame) (o : Option Place) → frame_included rooms others f g ≡ true
      → IfNone o (frames_included rooms others fs gs ≡ true) → IfNone o (frames_included rooms others (fs ++ f ∷ []) (gs ++ g ∷ []) ≡ true)
  none_below fs gs f g None newest h = included_more rooms others fs gs f g ∙ ap (λ t. frames_included rooms others fs gs && t) newest ∙ and-true (frames_included rooms others fs gs) ∙ h
  none_below fs gs f g (Some p) newest h = tt

-- ---- whole states

by_contra : (s t : Bool) → (s ≡ true → t ≡ true) → t ≡ false → s ≡ false
by_contra false t f h = refl
by_contra true t f h = absurd (false≢true (sym h ∙ f refl))

together : (a b : View) → state_included a b ≡ true → stand_together a b ≡ true
together a b h =
    let all = and_parts (a.pc == b.pc && nat_le b.least a.least && values_included a.rooms b.rooms a.registers b.registers) (frames_included a.rooms b.rooms a.frames b.frames) h in
    let first = and_parts (a.pc == b.pc && nat_le b.least a.least) (values_included a.rooms b.rooms a.registers b.registers) all.0 in
    ap (λ t. t && length a.frames == length b.frames) first.0 ∙ eq-eqb (length a.frames) (length b.frames) (as_many a.rooms b.rooms a.frames b.frames all.1)

pub state_excluded : (a b : View) (d : Difference) → lies_outside a b d ≡ true → state_included a b ≡ false
state_excluded a b at.Apart h = by_contra (state_included a b) (stand_together a b) (together a b) (flipped (stand_together a b) h)
state_excluded a b (at.Register n) h =
    let inside : Bool = lies_in_at a.rooms b.rooms a.registers b.registers n in
    let values = values_excluded a.rooms b.rooms a.registers b.registers n (flipped inside (and_parts (nat_lt n 11) (not inside) h).1) in
    ap (λ t. a.pc == b.pc && nat_le b.least a.least && t && frames_included a.rooms b.rooms a.frames b.frames) values ∙
    ap (λ t. t && frames_included a.rooms b.rooms a.frames b.frames) (and-false (a.pc == b.pc && nat_le b.least a.least))
state_excluded a b (at.Frame place) h =
    let both = and_parts (nat_lt place.frame (length a.frames) && nat_lt place.frame (length b.frames)) (part_outside a.rooms b.rooms (frame_of a place.frame) (frame_of b place.frame) place.part) h in
    let within = ltb-true place.frame (length a.frames) (and_parts (nat_lt place.frame (length a.frames)) (nat_lt place.frame (length b.frames)) both.0).0 in
    let frames = frames_excluded a.rooms b.rooms a.frames b.frames place.frame place.part within both.1 in
    ap (λ t. a.pc == b.pc && nat_le b.least a.least && values_included a.rooms b.rooms a.registers b.registers && t) frames ∙
    and-false (a.pc == b.pc && nat_le b.least a.least && values_included a.rooms b.rooms a.registers b.registers)
