-- Forgotten labels, and raised rooms and least lengths.
use Rattle.std.proofs.Common.{◌≡◌, ℕ, zero, suc, List, [], ◌∷◌, map, drop, refl, sym, ◌∙◌, arith, slice_index_or}
use Rattle.std.proofs.lemmas.List.{length-map, map-id}
use Rattle.bpf_model.specs.declared.Caller.{Caller}
use Rattle.bpf_model.specs.declared.StackFrame.{StackFrame}
use Rattle.bpf_absval.specs.declared.room.Room.{Room}
use Rattle.bpf_absval.specs.declared.slot.AbsSlot.{AbsSlot}
use Rattle.bpf_absval.specs.declared.slot.AbsSlot.TheVariants as slot
use Rattle.bpf_absval.specs.Laws.{AgreeApart}
use Rattle.bpf_absval.specs.Meaning.{Labels}
use Rattle.bpf_absval.specs.Rooms.{raised, rooms_without}
use Rattle.bpf_absval.specs.Unlabelled.{unlabelled, slot_unlabelled}
use Rattle.bpf_absval.proofs.Forgets.{value_forgets, slot_forgets}
use Rattle.bpf_absval.proofs.Raises.{value_raises, slot_raises}
use Rattle.bpf_absstate.specs.declared.frames.CallFrame.{CallFrame}
use Rattle.bpf_absstate.specs.Contains.{CallerHolds, StackHolds}
use Rattle.bpf_absstate.specs.Laws.{ForgettingHolds, LeastHolds, RoomsHold}
use Rattle.bpf_absstate.specs.View.{frame_unlabelled}
use Rattle.bpf_absstate.proofs.Callers.{callers_move}
use Rattle.bpf_absstate.proofs.Stacks.{stacks_move}
use Rattle.bpf_absstate.proofs.Values.{values_move}

index_map : (g : AbsSlot → AbsSlot) → g slot.Unset ≡ slot.Unset → (xs : List AbsSlot) (i : ℕ) → slice_index_or (map g xs) i slot.Unset ≡ g (slice_index_or xs i slot.Unset)
index_map g none [] i = sym none
index_map g none (x ∷ xs) zero = refl
index_map g none (x ∷ xs) (suc i) = index_map g none xs i

drop_map : (g : CallFrame → CallFrame) (fs : List CallFrame) → drop 1 (map g fs) ≡ map g (drop 1 fs)
drop_map g [] = refl
drop_map g (f ∷ fs) = refl

forgotten_stack : (label : ℕ) (e d : Labels) (rooms : List Room) → AgreeApart label e d → (a : CallFrame) (s : StackFrame) → StackHolds e rooms a s →
    StackHolds d (rooms_without label rooms) (frame_unlabelled label a) s
forgotten_stack label e d rooms agree a s h =
    record {
      frame = h.frame;
      all = length-map a.stack (slot_unlabelled label) ∙ h.all;
      slots = λ i l. rw (index_map (slot_unlabelled label) refl a.stack i) (slot_forgets label e d rooms (slice_index_or a.stack i slot.Unset) s i agree (h.slots i l));
    }

forgotten_caller : (label : ℕ) (e d : Labels) (rooms : List Room) → AgreeApart label e d → (k : ℕ) (a : CallFrame) (c : Caller) → CallerHolds e rooms k a c →
    CallerHolds d (rooms_without label rooms) k (frame_unlabelled label a) c
forgotten_caller label e d rooms agree k a c h =
    record {
      slot = h.slot;
      kept = values_move e d rooms (rooms_without label rooms) (unlabelled label) (λ v x holds. value_forgets label e d rooms v x agree holds) a.kept (c.r6 ∷ c.r7 ∷ c.r8 ∷ c.r9 ∷ []) h.kept;
      r10 = h.r10;
    }

pub forgetting_holds : ForgettingHolds
forgetting_holds e d label a s agree h =
    let others = rooms_without label a.rooms in
    record {
      pc = h.pc;
      registers = values_move e d a.rooms others (unlabelled label) (λ v x holds. value_forgets label e d a.rooms v x agree holds) a.registers s.regs h.registers;
      count = length-map a.registers (unlabelled label) ∙ h.count;
      pointer = h.pointer;
      stacks = stacks_move e d a.rooms others (frame_unlabelled label) (forgotten_stack label e d a.rooms agree) a.frames s.stack h.stacks;
      callers =
          rw (drop_map (frame_unlabelled label) a.frames)
          (callers_move e d a.rooms others (frame_unlabelled label) (forgotten_caller label e d a.rooms agree) 0 (drop 1 a.frames) s.callers h.callers);
      some = rw (length-map a.frames (frame_unlabelled label)) h.some;
      least = rw agree.setting h.least;
    }

pub least_holds : LeastHolds
least_holds e a s n small h =
    record {
      pc = h.pc;
      registers = h.registers;
      count = h.count;
      pointer = h.pointer;
      stacks = h.stacks;
      callers = h.callers;
      some = h.some;
      least = omega (arith, h.least);
    }

pub rooms_hold : RoomsHold
rooms_hold e a s label n small h =
    let more = raised a.rooms label n in
    record {
      pc = h.pc;
      registers = rw (map-id a.registers) at (values_move e e a.rooms more (λ v. v) (λ v x. value_raises label n e a.rooms v x small) a.registers s.regs h.registers);
      count = h.count;
      pointer = h.pointer;
      stacks =
          rw (map-id a.frames) at
          (stacks_move e e a.rooms more (λ f. f) (λ f g holds. record {
            frame = holds.frame;
            all = holds.all;
            slots = λ i l. slot_raises label n e a.rooms (slice_index_or f.stack i slot.Unset) g i small (holds.slots i l);
          }) a.frames s.stack h.stacks);
      callers =
          rw (map-id (drop 1 a.frames)) at
          (callers_move e e a.rooms more (λ f. f) (λ k f c holds. record {
            slot = holds.slot;
            kept = rw (map-id f.kept) at (values_move e e a.rooms more (λ v. v) (λ v x. value_raises label n e a.rooms v x small) f.kept (c.r6 ∷ c.r7 ∷ c.r8 ∷ c.r9 ∷ []) holds.kept);
            r10 = holds.r10;
          }) 0 (drop 1 a.frames) s.callers h.callers);
      some = h.some;
      least = h.least;
    }
