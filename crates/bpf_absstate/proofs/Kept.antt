-- Inclusion, the entry, and what is known of a contained state.
use Rattle.std.proofs.Common.{◌≡◌, ◌≢◌, ℕ, zero, suc, List, [], ◌∷◌, length, drop, true, false, refl, ap, sym, ◌∙◌, arith, slice_index_or, replicate, Option, Some, None, lit<, lit≤}
use Rattle.std.specs.Prelude.{◌==◌, ◌&&◌, nat_le, slice_get}
use Rattle.std.proofs.lemmas.Bool.{false≢true, and_parts, eqb-true, leb-true}
use Rattle.std.proofs.lemmas.List.{length-replicate, length-drop}
use Rattle.std.proofs.lemmas.List.Elements.{All-drop}
use Rattle.bpf_regions.specs.declared.memory.Value.TheVariants as value
use Rattle.bpf_model.specs.Alu.{is_unset}
use Rattle.bpf_model.specs.State.{State, empty_frame}
use Rattle.bpf_absnum.proofs.Rows.{single_keeps}
use Rattle.bpf_absval.specs.declared.room.Room.{Room}
use Rattle.bpf_absval.specs.Meaning.{IsStackFrame, Labels, is_number}
use Rattle.bpf_absstate.specs.declared.frames.CallFrame.{CallFrame}
use Rattle.bpf_absstate.specs.Contains.{HoldsIn, CallersHold, StackHolds, StacksHold, ValuesHold}
use Rattle.bpf_absstate.specs.Inclusion.{state_included, values_included, frame_included, frames_included}
use Rattle.bpf_absstate.specs.Laws.{InclusionKeeps, EntryContains, RegistersHold, DepthsAgree, StacksAgree}
use Rattle.bpf_absval.specs.declared.slot.AbsSlot.TheVariants as slot
use Rattle.bpf_absstate.specs.View.{View, empty_stack, main_frame}
use Rattle.bpf_absstate.specs.WellFormed.{IsFrame, IsView}
use Rattle.bpf_absstate.proofs.Callers.{callers_keep, callers_length}
use Rattle.bpf_absstate.proofs.Stacks.{stacks_keep, stacks_length, stack_at}
use Rattle.bpf_absstate.proofs.Values.{values_keep, value_at}

-- ---- inclusion

-- all frames but the main one
others_included : (rooms others : List Room) (fs gs : List CallFrame) → frames_included rooms others fs gs ≡ true → frames_included rooms others (drop 1 fs) (drop 1 gs) ≡ true
unfolding frames_included
others_included rooms others [] [] t = refl
others_included rooms others [] (g ∷ gs) t = absurd (false≢true t)
others_included rooms others (f ∷ fs) [] t = absurd (false≢true t)
others_included rooms others (f ∷ fs) (g ∷ gs) t = (and_parts (frame_included rooms others f g) (frames_included rooms others fs gs) t).1

-- the parts of a state's test
record StateTest (a b : View) : Type 0 where
  pc : (a.pc == b.pc) ≡ true
  least : nat_le b.least a.least ≡ true
  registers : values_included a.rooms b.rooms a.registers b.registers ≡ true
  frames : frames_included a.rooms b.rooms a.frames b.frames ≡ true

state_test : (a b : View) → state_included a b ≡ true → StateTest a b
state_test a b t =
    let t1 = and_parts (a.pc == b.pc && nat_le b.least a.least && values_included a.rooms b.rooms a.registers b.registers) (frames_included a.rooms b.rooms a.frames b.frames) t in
    let t2 = and_parts (a.pc == b.pc && nat_le b.least a.least) (values_included a.rooms b.rooms a.registers b.registers) t1.0 in
    let t3 = and_parts (a.pc == b.pc) (nat_le b.least a.least) t2.0 in
    record { pc = t3.0; least = t3.1; registers = t2.1; frames = t1.1 }

holds_on : (e : Labels) (a b : View) (s : State) → IsView b → state_included a b ≡ true → HoldsIn e a s → HoldsIn e b s
holds_on e a b s well t h =
    let test = state_test a b t in
    record {
      pc = h.pc ∙ eqb-true a.pc b.pc test.pc;
      registers = values_keep e a.rooms b.rooms a.registers b.registers s.regs well.values test.registers h.registers;
      count = well.registers;
      pointer = h.pointer;
      stacks = stacks_keep e a.rooms b.rooms a.frames b.frames s.stack well.frames test.frames h.stacks;
      callers =
          callers_keep e a.rooms b.rooms 0 (drop 1 a.frames) (drop 1 b.frames) s.callers (All-drop IsFrame 1 b.frames well.frames)
          (others_included a.rooms b.rooms a.frames b.frames test.frames) h.callers;
      some = well.some;
      least = omega (arith, leb-true b.least a.least test.least, h.least);
    }

pub inclusion_keeps : InclusionKeeps
inclusion_keeps p a b s well t h = record { base = h.base; holds = holds_on (record { setting = p; base = h.base }) a b s well t h.holds }

-- ---- the entry

same_everywhere : {X : Type 0} (n i : ℕ) (x : X) → slice_index_or (replicate n x) i x ≡ x
same_everywhere zero i x = refl
same_everywhere (suc n) zero x = refl
same_everywhere (suc n) (suc i) x = same_everywhere n i x

abbrev no_byte : Option ℕ
no_byte = None

unset_byte : (n i b : ℕ) → slice_get (replicate n no_byte) i ≢ Some (Some b)
unset_byte zero i b h = cc
unset_byte (suc n) zero b h = cc
unset_byte (suc n) (suc i) b h = unset_byte n i b h

no_spill : (n i : ℕ) → is_number (slice_index_or (replicate n value.Unset) i value.Unset) ≡ false
no_spill n i = ap is_number (same_everywhere n i value.Unset)

no_value : (n i : ℕ) → is_unset (slice_index_or (replicate n value.Unset) i value.Unset) ≢ false
no_value n i h = false≢true (sym h ∙ ap is_unset (same_everywhere n i value.Unset))

pub empty_is_frame : IsStackFrame empty_frame
empty_is_frame =
    record {
      bytes = length-replicate 512 no_byte;
      slots = length-replicate 64 value.Unset;
      small = λ i b h. absurd (unset_byte 512 i b h);
      references = no_spill 64;
      apart = λ i j k l h. absurd (no_value 64 i h);
    }

pub unset_stack : (e : Labels) (rooms : List Room) (f : CallFrame) → f.stack ≡ empty_stack → StackHolds e rooms f empty_frame
unset_stack e rooms f is =
    record {
      frame = empty_is_frame;
      all = ap length is ∙ length-replicate 64 slot.Unset;
      slots = λ i l. rw (is, same_everywhere 64 i slot.Unset) tt;
    }

pub entry_contains : EntryContains
unfolding ValuesHold StacksHold CallersHold
entry_contains p =
    let start = single_keeps 0 (lit< tt) in
    record {
      base = λ label. 0;
      holds = record {
        pc = refl;
        registers = (tt, ((start, tt), (tt, ((tt, start), (tt, (tt, (tt, (tt, (tt, (tt, ((refl, single_keeps 512 (lit< tt)), tt)))))))))));
        count = refl;
        pointer = refl;
        stacks = (unset_stack _ [] main_frame refl, tt);
        callers = tt;
        some = lit≤ tt;
        least = omega arith;
      };
    }

-- ---- reading

pub registers_hold : RegistersHold
registers_hold e a s r h = value_at e a.rooms a.registers s.regs r h.registers

pub depths_agree : DepthsAgree
depths_agree e a s h =
    let callers = callers_length e a.rooms 0 (drop 1 a.frames) s.callers h.callers in
    let fewer = length-drop 1 a.frames in
    record { stacks = sym (stacks_length e a.rooms a.frames s.stack h.stacks); callers = omega (arith, callers, fewer, h.some) }

pub stacks_agree : StacksAgree
stacks_agree e a s k h l = stack_at e a.rooms a.frames s.stack k h.stacks l
