-- What a state does, an abstract state that contains it may do.
use Rattle.std.proofs.Common.{◌≡◌, ◌≢◌, ◌<◌, ℕ, zero, suc, List, [], ◌∷◌, length, drop, refl, ap, sym, ◌∙◌, subst, arith, slice_index_or, slice_set, inl, inr}
use Rattle.std.proofs.lemmas.Bool.{cases_eq}
use Rattle.std.proofs.lemmas.List.{length-set, get_or-set_same, get_or-set_other, set-set}
use Rattle.bpf_regions.specs.declared.memory.Value.TheVariants as value
use Rattle.bpf_model.specs.declared.Caller.{Caller}
use Rattle.bpf_model.specs.declared.StackFrame.{StackFrame}
use Rattle.bpf_model.specs.Memory.{frame_of as stack_frame, with_frame}
use Rattle.bpf_absval.specs.declared.room.Room.{Room}
use Rattle.bpf_absval.specs.declared.slot.AbsSlot.{AbsSlot}
use Rattle.bpf_absval.specs.declared.slot.AbsSlot.TheVariants as slot
use Rattle.bpf_absval.specs.Meaning.{IsStackFrame, Labels, SlotHolds}
use Rattle.bpf_absstate.specs.declared.frames.CallFrame.{CallFrame}
use Rattle.bpf_absstate.specs.Contains.{HoldsIn, CallersHold, StackHolds}
use Rattle.bpf_absstate.specs.Laws.{GoingHolds, ChangesHold, RefinementHolds, StackChangesHold, SameSlot, SlotChangesHold, TwoSlotsHold}
use Rattle.bpf_absstate.specs.View.{frame_of, stack_of, main_frame}
use Rattle.bpf_absstate.proofs.Callers.{restacked, callers_restacked}
use Rattle.bpf_absstate.proofs.Slots.{slot_stays}
use Rattle.bpf_absstate.proofs.Stacks.{stack_at, stacks_set}
use Rattle.bpf_absstate.proofs.Values.{values_set, values_refined}

-- ---- registers

pub going_holds : GoingHolds
going_holds e a s pc h =
    record {
      pc = refl;
      registers = h.registers;
      count = h.count;
      pointer = h.pointer;
      stacks = h.stacks;
      callers = h.callers;
      some = h.some;
      least = h.least;
    }

pub changes_hold : ChangesHold
changes_hold e a s r v x h other k =
    record {
      pc = h.pc;
      registers = values_set e a.rooms a.registers s.regs r v x h.registers k;
      count = length-set a.registers r v ∙ h.count;
      pointer = get_or-set_other s.regs r 10 x value.Unset (λ same. other (sym same)) ∙ h.pointer;
      stacks = h.stacks;
      callers = h.callers;
      some = h.some;
      least = h.least;
    }

pub refinement_holds : RefinementHolds
refinement_holds e a s r v h k =
    record {
      pc = h.pc;
      registers = values_refined e a.rooms a.registers s.regs r v h.registers k;
      count = length-set a.registers r v ∙ h.count;
      pointer = h.pointer;
      stacks = h.stacks;
      callers = h.callers;
      some = h.some;
      least = h.least;
    }

-- ---- stacks

changed_callers : (e : Labels) (rooms : List Room) (fs : List CallFrame) (cs : List Caller) (k : ℕ) (stack : List AbsSlot) → CallersHold e rooms 0 (drop 1 fs) cs →
    CallersHold e rooms 0 (drop 1 (slice_set fs k (restacked (slice_index_or fs k main_frame) stack))) cs
changed_callers e rooms [] cs k stack h = h
changed_callers e rooms (f ∷ fs) cs zero stack h = h
changed_callers e rooms (f ∷ fs) cs (suc k) stack h = callers_restacked e rooms 0 fs cs k stack h

pub stack_changes_hold : StackChangesHold
stack_changes_hold e a s k stack f h new =
    record {
      pc = h.pc;
      registers = h.registers;
      count = h.count;
      pointer = rw (length-set s.stack k f) h.pointer;
      stacks = stacks_set e a.rooms a.frames s.stack k (restacked (frame_of a k) stack) f h.stacks new;
      callers = changed_callers e a.rooms a.frames s.callers k stack h.callers;
      some = rw (length-set a.frames k (restacked (frame_of a k) stack)) h.some;
      least = h.least;
    }

one_slot : (e : Labels) (rooms : List Room) (g : CallFrame) (s f : StackFrame) (i : ℕ) (x : AbsSlot) → StackHolds e rooms g s → i < 64 → IsStackFrame f →
    ((j : ℕ) → j < 64 → j ≢ i → SameSlot s f j) → SlotHolds e rooms x f i → StackHolds e rooms (restacked g (slice_set g.stack i x)) f
one_slot e rooms g s f i x h l well same k =
    record {
      frame = well;
      all = length-set g.stack i x ∙ h.all;
      slots = λ j m.
          elim (cases_eq j i) [
            | inl is ↦ rw (is, get_or-set_same g.stack i x slot.Unset (omega (arith, l, h.all))) k
            | inr differs ↦ rw (get_or-set_other g.stack i j x slot.Unset differs) (slot_stays e rooms s f j (slice_index_or g.stack j slot.Unset) (same j m differs) (h.slots j m))
          ];
    }

pub slot_changes_hold : SlotChangesHold
slot_changes_hold e a s k i x f h l m well same held =
    stack_changes_hold e a s k (slice_set (stack_of a k) i x) f h
    (one_slot e a.rooms (frame_of a k) (stack_frame s k) f i x (stack_at e a.rooms a.frames s.stack k h.stacks l) m well same held)

two_slots : (e : Labels) (rooms : List Room) (g : CallFrame) (s f : StackFrame) (i j : ℕ) (x y : AbsSlot) → StackHolds e rooms g s → i < 64 → j < 64 → i ≢ j → IsStackFrame f →
    ((l : ℕ) → l < 64 → l ≢ i → l ≢ j → SameSlot s f l) → SlotHolds e rooms x f i → SlotHolds e rooms y f j →
    StackHolds e rooms (restacked g (slice_set (slice_set g.stack i x) j y)) f
two_slots e rooms g s f i j x y h li lj apart well same held other =
    record {
      frame = well;
      all = length-set (slice_set g.stack i x) j y ∙ length-set g.stack i x ∙ h.all;
      slots = λ l m.
          elim (cases_eq l j) [
            | inl is ↦ rw (is, get_or-set_same (slice_set g.stack i x) j y slot.Unset (rw (length-set g.stack i x) (omega (arith, lj, h.all)))) other
            | inr differs ↦ rw (get_or-set_other (slice_set g.stack i x) j l y slot.Unset differs)
                (elim (cases_eq l i) [
                  | inl is ↦ rw (is, get_or-set_same g.stack i x slot.Unset (omega (arith, li, h.all))) held
                  | inr apart_too ↦ rw (get_or-set_other g.stack i l x slot.Unset apart_too) (slot_stays e rooms s f l (slice_index_or g.stack l slot.Unset) (same l m apart_too differs) (h.slots l m))
                ])
          ];
    }

-- two slots of one stack, changed in turn
twice : (fs : List CallFrame) (k : ℕ) (s : List AbsSlot) (j : ℕ) (y : AbsSlot) → k < length fs →
    slice_set (slice_set fs k (restacked (slice_index_or fs k main_frame) s)) k
    (restacked (slice_index_or (slice_set fs k (restacked (slice_index_or fs k main_frame) s)) k main_frame)
    (slice_set (slice_index_or (slice_set fs k (restacked (slice_index_or fs k main_frame) s)) k main_frame).stack j y)) ≡
    slice_set fs k (restacked (slice_index_or fs k main_frame) (slice_set s j y))
twice fs k s j y l =
    let f = restacked (slice_index_or fs k main_frame) s in
    let read : slice_index_or (slice_set fs k f) k main_frame ≡ f = get_or-set_same fs k f main_frame l in
    ap (λ g. slice_set (slice_set fs k f) k (restacked g (slice_set g.stack j y))) read ∙ set-set fs k f (restacked f (slice_set s j y))

pub two_slots_hold : TwoSlotsHold
two_slots_hold e a s k i j x y f h l li lj apart well same held other =
    let new = stack_changes_hold e a s k (slice_set (slice_set (stack_of a k) i x) j y) f h
    (two_slots e a.rooms (frame_of a k) (stack_frame s k) f i j x y (stack_at e a.rooms a.frames s.stack k h.stacks l) li lj apart well same held other) in
    let same_view = ap (λ fs. record a { frames = fs }) (sym (twice a.frames k (slice_set (stack_of a k) i x) j y l)) in
    subst (λ v. HoldsIn e v (with_frame s k f)) same_view new
