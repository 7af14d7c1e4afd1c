-- Calls and returns.
use Rattle.std.proofs.Common.{◌≡◌, ◌<◌, ◌≤◌, ◌+◌, ◌-◌, ℕ, zero, suc, List, [], ◌∷◌, ◌++◌, length, take, drop, refl, ap, sym, ◌∙◌, subst, arith, slice_index_or, slice_set, Some, lit<}
use Rattle.std.specs.Prelude.{slice_get}
use Rattle.std.proofs.lemmas.List.{length-append, length-drop, length-set, length-take, drop-append-le, drop-take, get_or-drop, get_or-set_same}
use Rattle.bpf_regions.specs.declared.memory.Value.{Value}
use Rattle.bpf_regions.specs.declared.memory.Value.TheVariants as value
use Rattle.bpf_regions.specs.declared.memory.Region.TheVariants as region
use Rattle.bpf_model.specs.declared.Caller.{Caller}
use Rattle.bpf_model.specs.State.{State, empty_frame}
use Rattle.bpf_model.specs.Step.{caller_of, without_arguments as unset_arguments}
use Rattle.bpf_absnum.proofs.Rows.{single_keeps}
use Rattle.bpf_absval.specs.declared.room.Room.{Room}
use Rattle.bpf_absval.specs.declared.value.AbsVal.{AbsVal}
use Rattle.bpf_absval.specs.declared.value.AbsVal.TheVariants as abs
use Rattle.bpf_absval.specs.Meaning.{Labels, Holds}
use Rattle.bpf_absstate.specs.declared.frames.CallFrame.{CallFrame}
use Rattle.bpf_absstate.specs.Contains.{HoldsIn, CallerHolds, ValuesHold}
use Rattle.bpf_absstate.specs.Laws.{CallHolds, ReturnHolds}
use Rattle.bpf_absstate.specs.View.{View, frame_of, stack_end, empty_stack, main_frame, kept_registers, without_arguments}
use Rattle.bpf_absstate.proofs.Callers.{callers_length, caller_at, callers_push, callers_take}
use Rattle.bpf_absstate.proofs.Kept.{unset_stack}
use Rattle.bpf_absstate.proofs.Stacks.{stacks_length, stacks_push, stacks_take}
use Rattle.bpf_absstate.proofs.Values.{values_length, value_at, values_set, values_unset}

-- ---- calls

-- R0 and R6 to R9 are unset
abbrev without_results : List AbsVal → List AbsVal
without_results a = slice_set (slice_set (slice_set (slice_set (slice_set a 0 abs.Unset) 6 abs.Unset) 7 abs.Unset) 8 abs.Unset) 9 abs.Unset

abbrev unset_results : List Value → List Value
unset_results vs = slice_set (slice_set (slice_set (slice_set (slice_set vs 0 value.Unset) 6 value.Unset) 7 value.Unset) 8 value.Unset) 9 value.Unset

results_unset : (e : Labels) (rooms : List Room) (a : List AbsVal) (vs : List Value) → ValuesHold e rooms a vs → ValuesHold e rooms (without_results a) (unset_results vs)
results_unset e rooms a vs h =
    values_unset e rooms _ _ 9 (values_unset e rooms _ _ 8 (values_unset e rooms _ _ 7 (values_unset e rooms _ _ 6 (values_unset e rooms a vs 0 h))))

length_without_results : (a : List AbsVal) → length (without_results a) ≡ length a
length_without_results a = simp length-set

length_unset_results : (vs : List Value) → length (unset_results vs) ≡ length vs
length_unset_results vs = simp length-set

end_holds : (e : Labels) (rooms : List Room) (k : ℕ) (v : Value) → v ≡ value.Pointer (region.Stack k) 512 → Holds e rooms (stack_end k) v
end_holds e rooms k v is = rw is (refl, single_keeps 512 (lit< tt))

caller_waits : (e : Labels) (a : View) (s : State) → HoldsIn e a s → CallerHolds e a.rooms (0 + length (drop 1 a.frames))
    (record { return_slot = a.pc + 1; kept = kept_registers a; stack = empty_stack }) (caller_of s)
unfolding ValuesHold
caller_waits e a s h =
    let stacks = stacks_length e a.rooms a.frames s.stack h.stacks in
    let fewer = length-drop 1 a.frames in
    let newest : length s.stack - 1 ≡ 0 + length (drop 1 a.frames) = omega (arith, stacks, fewer, h.some) in
    let one = λ (r : ℕ). value_at e a.rooms a.registers s.regs r h.registers in
    record {
      slot = ap (λ n. n + 1) h.pc;
      kept = (one 6, (one 7, (one 8, (one 9, tt))));
      r10 = h.pointer ∙ ap (λ k. value.Pointer (region.Stack k) 512) newest;
    }

pub call_holds : CallHolds
call_holds e a s to h =
    let stacks = stacks_length e a.rooms a.frames s.stack h.stacks in
    let registers = values_length e a.rooms a.registers s.regs h.registers in
    let f : CallFrame = record { return_slot = a.pc + 1; kept = kept_registers a; stack = empty_stack } in
    let top = value.Pointer (region.Stack (length s.stack)) 512 in
    let within : 10 < length (unset_results s.regs) = rw length_unset_results (omega (arith, registers, h.count)) in
    let depth : length s.stack ≡ length (s.stack ++ empty_frame ∷ []) - 1 = rw length-append (omega arith) in
    record {
      pc = refl;
      registers =
          values_set e a.rooms (without_results a.registers) (unset_results s.regs) 10 (stack_end (length a.frames)) top
          (results_unset e a.rooms a.registers s.regs h.registers)
          (end_holds e a.rooms (length a.frames) top (ap (λ k. value.Pointer (region.Stack k) 512) (sym stacks)));
      count = length-set (without_results a.registers) 10 (stack_end (length a.frames)) ∙ length_without_results a.registers ∙ h.count;
      pointer = get_or-set_same (unset_results s.regs) 10 top value.Unset within ∙ ap (λ k. value.Pointer (region.Stack k) 512) depth;
      stacks = stacks_push e a.rooms a.frames s.stack f empty_frame h.stacks (unset_stack e a.rooms f refl);
      callers =
          rw (drop-append-le 1 a.frames (f ∷ []) h.some)
          (callers_push e a.rooms 0 (drop 1 a.frames) s.callers f (caller_of s) h.callers (caller_waits e a s h));
      some = rw length-append (omega (arith, h.some));
      least = h.least;
    }

-- ---- returns

got_within : {X : Type 0} (xs : List X) (i : ℕ) (x : X) → slice_get xs i ≡ Some x → i < length xs
got_within [] i x h = absurd (cc)
got_within (y ∷ xs) zero x h = omega arith
got_within (y ∷ xs) (suc i) x h = omega (arith, got_within xs i x h)

arguments_unset : (e : Labels) (rooms : List Room) (a : List AbsVal) (vs : List Value) → ValuesHold e rooms a vs → ValuesHold e rooms (without_arguments a) (unset_arguments vs)
arguments_unset e rooms a vs h =
    values_unset e rooms _ _ 5 (values_unset e rooms _ _ 4 (values_unset e rooms _ _ 3 (values_unset e rooms _ _ 2 (values_unset e rooms a vs 1 h))))

-- R6 to R9 as they were kept
abbrev with_kept : List AbsVal → List AbsVal → List AbsVal
with_kept a kept =
    slice_set (slice_set (slice_set (slice_set a 6 (slice_index_or kept 0 abs.Unset)) 7 (slice_index_or kept 1 abs.Unset)) 8 (slice_index_or kept 2 abs.Unset))
    9 (slice_index_or kept 3 abs.Unset)

abbrev with_waiting : List Value → Caller → List Value
with_waiting vs c = slice_set (slice_set (slice_set (slice_set vs 6 c.r6) 7 c.r7) 8 c.r8) 9 c.r9

kept_holds : (e : Labels) (rooms : List Room) (a kept : List AbsVal) (vs : List Value) (c : Caller) → ValuesHold e rooms a vs →
    ValuesHold e rooms kept (c.r6 ∷ c.r7 ∷ c.r8 ∷ c.r9 ∷ []) → ValuesHold e rooms (with_kept a kept) (with_waiting vs c)
kept_holds e rooms a kept vs c h k =
    let one = λ (r : ℕ). value_at e rooms kept (c.r6 ∷ c.r7 ∷ c.r8 ∷ c.r9 ∷ []) r k in
    values_set e rooms _ _ 9 _ _ (values_set e rooms _ _ 8 _ _ (values_set e rooms _ _ 7 _ _ (values_set e rooms a vs 6 _ _ h (one 0)) (one 1)) (one 2)) (one 3)

-- what is known of the newest caller
record Waits (e : Labels) (a : View) (s : State) (c : Caller) : Type 0 where
  some : 1 ≤ length s.callers
  depth : length a.frames ≡ length s.callers + 1
  holds : CallerHolds e a.rooms (length s.callers - 1) (frame_of a (length a.frames - 1)) c

waits : (e : Labels) (a : View) (s : State) (c : Caller) → HoldsIn e a s → slice_get s.callers (length s.callers - 1) ≡ Some c → Waits e a s c
waits e a s c h got =
    let some : length s.callers - 1 < length s.callers = got_within s.callers (length s.callers - 1) c got in
    let callers = callers_length e a.rooms 0 (drop 1 a.frames) s.callers h.callers in
    let fewer = length-drop 1 a.frames in
    let depth : length a.frames ≡ length s.callers + 1 = omega (arith, callers, fewer, h.some) in
    let newest : 1 + (length s.callers - 1) ≡ length a.frames - 1 = omega (arith, depth, some) in
    let i = length s.callers - 1 in
    let read : slice_index_or (drop 1 a.frames) i main_frame ≡ frame_of a (length a.frames - 1) =
    get_or-drop 1 a.frames i main_frame ∙ ap (λ n. slice_index_or a.frames n main_frame) newest in
    let at = caller_at e a.rooms 0 (drop 1 a.frames) s.callers i c h.callers got in
    let zero_more : 0 + i ≡ i = omega arith in
    record {
      some = omega (arith, some);
      depth = depth;
      holds = subst (λ n. CallerHolds e a.rooms n (frame_of a (length a.frames - 1)) c) zero_more (subst (λ f. CallerHolds e a.rooms (0 + i) f c) read at);
    }

pub return_holds : ReturnHolds
return_holds e a s c h got =
    let w = waits e a s c h got in
    let stacks = stacks_length e a.rooms a.frames s.stack h.stacks in
    let registers = values_length e a.rooms a.registers s.regs h.registers in
    let depth = length a.frames - 1 in
    let f = frame_of a depth in
    let i = length s.callers - 1 in
    let live : depth ≡ length s.stack - 1 = ap (λ n. n - 1) stacks in
    let end_is : c.r10 ≡ value.Pointer (region.Stack (depth - 1)) 512 =
    w.holds.r10 ∙ ap (λ k. value.Pointer (region.Stack k) 512) (let e1 : i ≡ depth - 1 = omega (arith, w.depth) in e1) in
    let within : 10 < length (with_waiting (unset_arguments s.regs) c) = simp length-set (omega (arith, registers, h.count)) in
    let left : i ≡ length (take (length s.stack - 1) s.stack) - 1 = rw length-take (omega (arith, stacks, w.depth)) in
    let both : depth ≡ 1 + i = omega (arith, w.depth, w.some) in
    record {
      pc = w.holds.slot;
      registers =
          values_set e a.rooms (with_kept (without_arguments a.registers) f.kept) (with_waiting (unset_arguments s.regs) c) 10 (stack_end (depth - 1)) c.r10
          (kept_holds e a.rooms (without_arguments a.registers) f.kept (unset_arguments s.regs) c (arguments_unset e a.rooms a.registers s.regs h.registers) w.holds.kept)
          (end_holds e a.rooms (depth - 1) c.r10 end_is);
      count = simp length-set h.count;
      pointer =
          get_or-set_same (with_waiting (unset_arguments s.regs) c) 10 c.r10 value.Unset within ∙ w.holds.r10 ∙ ap (λ k. value.Pointer (region.Stack k) 512) left;
      stacks = rw (← live) (stacks_take e a.rooms depth a.frames s.stack h.stacks);
      callers =
          let taken : drop 1 (take depth a.frames) ≡ take i (drop 1 a.frames) = ap (λ n. drop 1 (take n a.frames)) both ∙ drop-take 1 i a.frames in
          rw taken (callers_take e a.rooms 0 i (drop 1 a.frames) s.callers h.callers);
      some = rw length-take (omega (arith, w.depth, w.some));
      least = h.least;
    }
