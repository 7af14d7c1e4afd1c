-- Stacks: kept by inclusion, by changes of labels and rooms, read and changed.
use Rattle.std.proofs.Common.{◌≡◌, ◌<◌, ℕ, zero, suc, List, [], ◌∷◌, ◌++◌, length, map, take, true, refl, ap, arith, slice_set, slice_index_or}
use Rattle.std.specs.Prelude.{◌==◌, ◌&&◌, All}
use Rattle.std.proofs.lemmas.Bool.{false≢true, and_parts}
use Rattle.std.proofs.lemmas.List.Elements.{All-head, All-tail, All-get_or}
use Rattle.bpf_model.specs.declared.StackFrame.{StackFrame}
use Rattle.bpf_model.specs.State.{empty_frame}
use Rattle.bpf_absval.specs.declared.room.Room.{Room}
use Rattle.bpf_absval.specs.declared.slot.AbsSlot.{AbsSlot}
use Rattle.bpf_absval.specs.declared.slot.AbsSlot.TheVariants as slot
use Rattle.bpf_absval.specs.Inclusion.{slot_included}
use Rattle.bpf_absval.specs.Meaning.{Labels}
use Rattle.bpf_absval.specs.WellFormed.{IsSlot}
use Rattle.bpf_absval.proofs.Keeps.{slot_keeps}
use Rattle.bpf_stack.specs.Included.{slots_included}
use Rattle.bpf_absstate.specs.declared.frames.CallFrame.{CallFrame}
use Rattle.bpf_absstate.specs.Contains.{StackHolds, StacksHold}
use Rattle.bpf_absstate.specs.Inclusion.{values_included, frame_included, frames_included}
use Rattle.bpf_absstate.specs.View.{main_frame}
use Rattle.bpf_absstate.specs.WellFormed.{IsFrame}

included_length : (rooms others : List Room) (a b : List AbsSlot) → slots_included rooms others a b ≡ true → length a ≡ length b
unfolding slots_included
included_length rooms others [] [] t = refl
included_length rooms others [] (y ∷ b) t = absurd (false≢true t)
included_length rooms others (x ∷ a) [] t = absurd (false≢true t)
included_length rooms others (x ∷ a) (y ∷ b) t =
    ap suc (included_length rooms others a b (and_parts (slot_included rooms others x y) (slots_included rooms others a b) t).1)

included_at : (rooms others : List Room) (a b : List AbsSlot) (i : ℕ) → slots_included rooms others a b ≡ true →
    slot_included rooms others (slice_index_or a i slot.Unset) (slice_index_or b i slot.Unset) ≡ true
unfolding slots_included
included_at rooms others [] [] i t = refl
included_at rooms others [] (y ∷ b) i t = absurd (false≢true t)
included_at rooms others (x ∷ a) [] i t = absurd (false≢true t)
included_at rooms others (x ∷ a) (y ∷ b) zero t = (and_parts (slot_included rooms others x y) (slots_included rooms others a b) t).0
included_at rooms others (x ∷ a) (y ∷ b) (suc i) t =
    included_at rooms others a b i (and_parts (slot_included rooms others x y) (slots_included rooms others a b) t).1

-- the parts of a frame's test
pub record FrameTest (rooms others : List Room) (f g : CallFrame) : Type 0 where
  pub slot : (f.return_slot == g.return_slot) ≡ true
  pub kept : values_included rooms others f.kept g.kept ≡ true
  pub stack : slots_included rooms others f.stack g.stack ≡ true

pub frame_test : (rooms others : List Room) (f g : CallFrame) → frame_included rooms others f g ≡ true → FrameTest rooms others f g
frame_test rooms others f g t =
    let t1 = and_parts (f.return_slot == g.return_slot && values_included rooms others f.kept g.kept) (slots_included rooms others f.stack g.stack) t in
    let t2 = and_parts (f.return_slot == g.return_slot) (values_included rooms others f.kept g.kept) t1.0 in
    record { slot = t2.0; kept = t2.1; stack = t1.1 }

stack_keeps : (e : Labels) (rooms others : List Room) (f g : CallFrame) (s : StackFrame) → IsFrame g → slots_included rooms others f.stack g.stack ≡ true →
    StackHolds e rooms f s → StackHolds e others g s
stack_keeps e rooms others f g s well t h =
    record {
      frame = h.frame;
      all = well.stack;
      slots = λ i l.
          slot_keeps e rooms others (slice_index_or f.stack i slot.Unset) (slice_index_or g.stack i slot.Unset) s i h.frame
          (All-get_or IsSlot g.stack i slot.Unset (omega (arith, well.stack)) well.slots) (included_at rooms others f.stack g.stack i t) (h.slots i l);
    }

pub stacks_keep : (e : Labels) (rooms others : List Room) (fs gs : List CallFrame) (ss : List StackFrame) → All IsFrame gs → frames_included rooms others fs gs ≡ true →
    StacksHold e rooms fs ss → StacksHold e others gs ss
unfolding frames_included StacksHold
stacks_keep e rooms others (f ∷ fs) (g ∷ gs) (s ∷ ss) well t h =
    let both = and_parts (frame_included rooms others f g) (frames_included rooms others fs gs) t in (
      stack_keeps e rooms others f g s (All-head IsFrame g gs well) (frame_test rooms others f g both.0).stack h.0,
      stacks_keep e rooms others fs gs ss (All-tail IsFrame g gs well) both.1 h.1,
    )
stacks_keep e rooms others [] [] ss well t h = h
stacks_keep e rooms others [] (g ∷ gs) ss well t h = absurd (false≢true t)
stacks_keep e rooms others (f ∷ fs) [] ss well t h = absurd (false≢true t)
stacks_keep e rooms others (f ∷ fs) (g ∷ gs) [] well t h = absurd h

-- each stack, changed by g, holds what it held
pub stacks_move : (e d : Labels) (rooms others : List Room) (g : CallFrame → CallFrame) → ((a : CallFrame) (s : StackFrame) → StackHolds e rooms a s → StackHolds d others (g a) s) →
    (fs : List CallFrame) (ss : List StackFrame) → StacksHold e rooms fs ss → StacksHold d others (map g fs) ss
unfolding StacksHold
stacks_move e d rooms others g law (f ∷ fs) (s ∷ ss) h = (law f s h.0, stacks_move e d rooms others g law fs ss h.1)
stacks_move e d rooms others g law [] [] h = h
stacks_move e d rooms others g law [] (s ∷ ss) h = absurd h
stacks_move e d rooms others g law (f ∷ fs) [] h = absurd h

pub stacks_length : (e : Labels) (rooms : List Room) (fs : List CallFrame) (ss : List StackFrame) → StacksHold e rooms fs ss → length fs ≡ length ss
unfolding StacksHold
stacks_length e rooms (f ∷ fs) (s ∷ ss) h = ap suc (stacks_length e rooms fs ss h.1)
stacks_length e rooms [] [] h = refl
stacks_length e rooms [] (s ∷ ss) h = absurd h
stacks_length e rooms (f ∷ fs) [] h = absurd h

pub stack_at : (e : Labels) (rooms : List Room) (fs : List CallFrame) (ss : List StackFrame) (k : ℕ) → StacksHold e rooms fs ss → k < length fs →
    StackHolds e rooms (slice_index_or fs k main_frame) (slice_index_or ss k empty_frame)
unfolding StacksHold
stack_at e rooms (f ∷ fs) (s ∷ ss) zero h l = h.0
stack_at e rooms (f ∷ fs) (s ∷ ss) (suc k) h l = stack_at e rooms fs ss k h.1 (omega (arith, l))
stack_at e rooms [] ss k h l = absurd (omega (arith, l))
stack_at e rooms (f ∷ fs) [] k h l = absurd h

pub stacks_set : (e : Labels) (rooms : List Room) (fs : List CallFrame) (ss : List StackFrame) (k : ℕ) (f : CallFrame) (s : StackFrame) → StacksHold e rooms fs ss →
    StackHolds e rooms f s → StacksHold e rooms (slice_set fs k f) (slice_set ss k s)
unfolding StacksHold
stacks_set e rooms [] [] k f s h m = tt
stacks_set e rooms (g ∷ fs) (t ∷ ss) zero f s h m = (m, h.1)
stacks_set e rooms (g ∷ fs) (t ∷ ss) (suc k) f s h m = (h.0, stacks_set e rooms fs ss k f s h.1 m)
stacks_set e rooms [] (t ∷ ss) k f s h m = absurd h
stacks_set e rooms (g ∷ fs) [] k f s h m = absurd h

pub stacks_push : (e : Labels) (rooms : List Room) (fs : List CallFrame) (ss : List StackFrame) (f : CallFrame) (s : StackFrame) → StacksHold e rooms fs ss →
    StackHolds e rooms f s → StacksHold e rooms (fs ++ f ∷ []) (ss ++ s ∷ [])
unfolding StacksHold
stacks_push e rooms [] [] f s h m = (m, tt)
stacks_push e rooms (g ∷ fs) (t ∷ ss) f s h m = (h.0, stacks_push e rooms fs ss f s h.1 m)
stacks_push e rooms [] (t ∷ ss) f s h m = absurd h
stacks_push e rooms (g ∷ fs) [] f s h m = absurd h

pub stacks_take : (e : Labels) (rooms : List Room) (n : ℕ) (fs : List CallFrame) (ss : List StackFrame) → StacksHold e rooms fs ss → StacksHold e rooms (take n fs) (take n ss)
unfolding StacksHold
stacks_take e rooms zero fs ss h = tt
stacks_take e rooms (suc n) [] [] h = tt
stacks_take e rooms (suc n) (g ∷ fs) (t ∷ ss) h = (h.0, stacks_take e rooms n fs ss h.1)
stacks_take e rooms (suc n) [] (t ∷ ss) h = absurd h
stacks_take e rooms (suc n) (g ∷ fs) [] h = absurd h
