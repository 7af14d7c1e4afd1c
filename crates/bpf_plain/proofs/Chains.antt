-- Changes that keep a state's slot and call chain.
use Rattle.std.proofs.Common.{◌≡◌, ℕ, zero, suc, inl, inr, List, [], ◌∷◌, length, map, refl, sym, ◌∙◌, ap, subst, arith, Option, Some, None, true, false, Bool, slice_index_or, length-set, ℤ, Result, Ok, Err}
use Rattle.std.specs.Prelude.{◌==◌, if◌then◌else◌}
use Rattle.std.specs.List.{All}
use Rattle.std.proofs.lemmas.List.{length-map}
use Rattle.std.proofs.lemmas.List.Elements.{All-map, All-set}
use Rattle.bpf_insn.specs.declared.insn.AtomicOp.{AtomicOp}
use Rattle.bpf_insn.specs.declared.insn.Compare.{Compare}
use Rattle.bpf_insn.specs.declared.insn.Insn.{Insn}
use Rattle.bpf_insn.specs.declared.insn.Source.{Source}
use Rattle.bpf_insn.specs.declared.insn.Source.TheVariants as source
use Rattle.bpf_regions.specs.declared.maps.Shape.{Shape}
use Rattle.bpf_decode.specs.Program.{Begins}
use Rattle.bpf_absnum.specs.Number.{Num}
use Rattle.bpf_absval.specs.declared.value.AbsRegion.{AbsRegion}
use Rattle.bpf_absval.specs.declared.value.AbsRegion.TheVariants as place
use Rattle.bpf_absval.specs.declared.value.AbsVal.{AbsVal}
use Rattle.bpf_absval.specs.declared.value.AbsVal.TheVariants.{Unset, Number, Frame, Pointer, FrameEnd, Lookup}
use Rattle.bpf_absval.specs.declared.value.Label.{Label}
use Rattle.bpf_absval.specs.declared.slot.AbsSlot.{AbsSlot}
use Rattle.bpf_absstate.specs.declared.frames.CallFrame.{CallFrame}
use Rattle.bpf_absstate.specs.View.{View, main_frame, with_slot, without_label, frame_unlabelled, register}
use Rattle.bpf_rules.specs.declared.fault.Fault.{Fault}
use Rattle.bpf_rules.specs.declared.fault.Fault.TheVariants as fault
use Rattle.bpf_rules.specs.Memory.{unless, store, stored_into, stored_in_stack, stored_in_map, spilled, stored, bytes_stored, atomic, atomic_on, with_old, offset_of, strays, is_spill, aligned_fault}
use Rattle.bpf_rules.specs.Branches.{Split, Lesson, Nothing, AtMost, Below, split, wide_ways, narrow_ways, with_operands, with_source, lookup_ways, pointer_ways, by_null, end_test, taught, learnt, with_reach, lesson, compared_value}
use Rattle.bpf_rules.proofs.Outcomes.{okay-same, refused-okay, unless_ok, either_ok, on_ok}

abbrev pub Returns : List (Option Insn) → List CallFrame → Type 0
Returns slots fs = All (λ f. Begins slots f.return_slot) fs

-- b has the slot of a, and its functions have the return slots of those of a
pub record Keeps (a b : View) : Type 0 where
  pub pc : b.pc ≡ a.pc
  pub count : length b.frames ≡ length a.frames
  pub returns : (slots : List (Option Insn)) → Begins slots 0 → Returns slots a.frames → Returns slots b.frames

pub Keeps-self : (a : View) → Keeps a a
Keeps-self a = record { pc = refl; count = refl; returns = λ slots zero h. h }

-- each frame returns to an instruction
pub returns_at : (slots : List (Option Insn)) (fs : List CallFrame) (k : ℕ) → Begins slots 0 → Returns slots fs → Begins slots (slice_index_or fs k main_frame).return_slot
returns_at slots [] k start h = start
returns_at slots (f ∷ fs) zero start h = h 0 main_frame (omega arith)
returns_at slots (f ∷ fs) (suc k) start h = returns_at slots fs k start (λ j d less. h (suc j) d (omega (arith, less)))

pub Keeps-slot : (a b : View) (k i : ℕ) (s : AbsSlot) → Keeps a b → Keeps a (with_slot b k i s)
Keeps-slot a b k i s h = record {
  pc = h.pc;
  count = length-set b.frames k _ ∙ h.count;
  returns = λ slots start r. All-set (λ f. Begins slots f.return_slot) b.frames k _ (returns_at slots b.frames k start (h.returns slots start r)) (h.returns slots start r);
}

pub Keeps-label : (a b : View) (label : ℕ) → Keeps a b → Keeps a (without_label b label)
Keeps-label a b label h = record {
  pc = h.pc;
  count = length-map b.frames (frame_unlabelled label) ∙ h.count;
  returns = λ slots start r. All-map (λ f. Begins slots f.return_slot) (frame_unlabelled label) b.frames (h.returns slots start r);
}

-- other parts of the state
pub Keeps-rest : (a b c : View) → c.pc ≡ b.pc → c.frames ≡ b.frames → Keeps a b → Keeps a c
Keeps-rest a b c same frames h = record {
  pc = same ∙ h.pc;
  count = ap length frames ∙ h.count;
  returns = λ slots start r. subst (Returns slots) (sym frames) (h.returns slots start r);
}

pub Keeps-either : (c : Bool) (a x y : View) → Keeps a x → Keeps a y → Keeps a (if c then x else y)
Keeps-either true a x y h g = h
Keeps-either false a x y h g = g

-- ---- stores and atomics

bytes_keep : (a : View) (k at n : ℕ) → Keeps a (bytes_stored a k at n)
bytes_keep a k at n =
    let one = Keeps-slot a a k _ _ (Keeps-self a) in
    Keeps-either _ a _ _ one (Keeps-slot a _ k _ _ one)

stored_keep : (a : View) (k at n : ℕ) (v : AbsVal) → Keeps a (stored a k at n v)
stored_keep a k at n v = Keeps-either _ a _ _ (Keeps-slot a a k _ _ (Keeps-self a)) (bytes_keep a k at n)

abbrev own_frame : View → ℕ → Num → AbsVal → Result View Fault
own_frame a k at v = (if strays k v then Err fault.StackPointerStored else Ok (stored a k at.range.low 8 v))

own_keep : (a : View) (k : ℕ) (at : Num) (v : AbsVal) (b : View) → own_frame a k at v ≡ Ok b → Keeps a b
own_keep a k at v b e = elim (either_ok (strays k v) (Err fault.StackPointerStored) (Ok (stored a k at.range.low 8 v)) b e) [
  | inl g ↦ absurd (refused-okay fault.StackPointerStored b g)
  | inr g ↦ subst (Keeps a) (okay-same (stored a k at.range.low 8 v) b g) (stored_keep a k at.range.low 8 v)
]

spilled_keep : (a : View) (k : ℕ) (at : Num) (n : ℕ) (v : AbsVal) (b : View) → spilled a k at n v ≡ Ok b → Keeps a b
spilled_keep a k at n v b e =
    elim (either_ok (n == 8) (unless (aligned_fault a k at 8) (own_frame a k at v)) (Err fault.WrongOperand) b e) [
      | inl f ↦ own_keep a k at v b (unless_ok (aligned_fault a k at 8) (own_frame a k at v) b f).1
      | inr f ↦ absurd (refused-okay fault.WrongOperand b f)
    ]

in_stack_keep : (a : View) (k : ℕ) (at : Num) (n : ℕ) (v : AbsVal) (b : View) → stored_in_stack a k at n v ≡ Ok b → Keeps a b
in_stack_keep a k at n (Number x) b e = subst (Keeps a) (okay-same _ b (unless_ok _ _ b e).1) (stored_keep a k at.range.low n (Number x))
in_stack_keep a k at n (Lookup m) b e = elim (either_ok (is_spill at n) (spilled a k at n (Lookup m)) (Err fault.NotTested) b e) [
  | inl f ↦ spilled_keep a k at n (Lookup m) b f
  | inr f ↦ absurd (refused-okay fault.NotTested b f)
]
in_stack_keep a k at n v b e = spilled_keep a k at n v b e

in_map_keep : (a : View) (shape : Option Shape) (at : Num) (n : ℕ) (v : AbsVal) (b : View) → stored_in_map a shape at n v ≡ Ok b → Keeps a b
in_map_keep a shape at n (Number x) b e = subst (Keeps a) (okay-same _ b (unless_ok _ _ b e).1) (Keeps-self a)
in_map_keep a shape at n v b e = absurd (refused-okay _ b e)

into_keep : (shapes : List Shape) (a : View) (r : AbsRegion) (at : Num) (n : ℕ) (v : AbsVal) (b : View) → stored_into shapes a r at n v ≡ Ok b → Keeps a b
into_keep shapes a place.Context at n v b e = absurd (refused-okay _ b e)
into_keep shapes a (place.Stack k) at n v b e = in_stack_keep a k at n v b e
into_keep shapes a (place.Entry m) at n v b e = in_map_keep a _ at n v b e

pub store_keep : (shapes : List Shape) (a : View) (n : ℕ) (v to : AbsVal) (by : ℤ) (b : View) → store shapes a n v to by ≡ Ok b → Keeps a b
store_keep shapes a n Unset to by b e = absurd (refused-okay _ b e)
store_keep shapes a n v (Pointer r offset) by b e = into_keep shapes a r (offset_of offset by) n v b e
store_keep shapes a n v to by b e = absurd (refused-okay _ b e)

atomic_on_keep : (shapes : List Shape) (a : View) (n : ℕ) (r : AbsRegion) (at : Num) (b : View) → atomic_on shapes a n r at ≡ Ok b → Keeps a b
atomic_on_keep shapes a n place.Context at b e = absurd (refused-okay _ b e)
atomic_on_keep shapes a n (place.Stack k) at b e =
    subst (Keeps a) (okay-same _ b (unless_ok _ _ b (unless_ok _ _ b e).1).1) (bytes_keep a k at.range.low n)
atomic_on_keep shapes a n (place.Entry m) at b e = subst (Keeps a) (okay-same _ b (unless_ok _ _ b e).1) (Keeps-self a)

with_old_keep : (a b : View) (o : Option ℕ) (n : ℕ) → Keeps a b → Keeps a (with_old b o n)
with_old_keep a b None n h = h
with_old_keep a b (Some r) n h = Keeps-rest a b _ refl refl h

pub atomic_keep : (shapes : List Shape) (a : View) (n : ℕ) (op : AtomicOp) (src : ℕ) (by : ℤ) (to v r0 : AbsVal) (b : View) → atomic shapes a n op src by to v r0 ≡ Ok b → Keeps a b
atomic_keep shapes a n op src by (Pointer r offset) (Number x) (Number y) b e =
    let k = on_ok (atomic_on shapes a n r (offset_of offset by)) _ b e in
    subst (Keeps a) (okay-same _ b k.2) (with_old_keep a k.0 _ n (atomic_on_keep shapes a n r (offset_of offset by) k.0 k.1))
atomic_keep shapes a n op src by to v r0 b e = absurd (refused-okay _ b e)

-- ---- conditional jumps

abbrev pub WayKeeps : View → Option View → Type 0
WayKeeps a None = Unit {0}
WayKeeps a (Some b) = Keeps a b

abbrev pub SplitKeeps : View → Split → Type 0
SplitKeeps a s = WayKeeps a s.0 × WayKeeps a s.1

source_keep : (a b : View) (s : Source) (y : Num) → Keeps a b → Keeps a (with_source b s y)
source_keep a b (source.Imm i) y h = h
source_keep a b (source.Reg r) y h = Keeps-rest a b _ refl refl h

operands_keep : (a : View) (dst : ℕ) (s : Source) (o : Option (Num × Num)) → WayKeeps a (with_operands a dst s o)
operands_keep a dst s None = tt
operands_keep a dst s (Some p) = source_keep a _ s p.1 (Keeps-rest a a _ refl refl (Keeps-self a))

null_keep : (a : View) (taken : Bool) (x y : Option View) → WayKeeps a x → WayKeeps a y → SplitKeeps a (by_null taken x y)
null_keep a true x y h g = (g, h)
null_keep a false x y h g = (h, g)

lookup_keep : (a : View) (dst map : ℕ) (o : Option Bool) (w : Split) → lookup_ways a dst map o ≡ Ok w → SplitKeeps a w
lookup_keep a dst map None w e = absurd (refused-okay _ w e)
lookup_keep a dst map (Some taken) w e =
    subst (SplitKeeps a) (okay-same _ w e) (null_keep a taken _ _ (Keeps-rest a a _ refl refl (Keeps-self a)) (Keeps-rest a a _ refl refl (Keeps-self a)))

pointer_keep : (a : View) (o : Option Bool) (w : Split) → pointer_ways a o ≡ Ok w → SplitKeeps a w
pointer_keep a None w e = absurd (refused-okay _ w e)
pointer_keep a (Some taken) w e = subst (SplitKeeps a) (okay-same _ w e) (null_keep a taken _ _ (Keeps-self a) tt)

way_either : (c : Bool) (a : View) (b : View) → Keeps a b → WayKeeps a (if c then Some b else None)
way_either true a b h = h
way_either false a b h = tt

reach_keep : (a b : View) (offset : Num) (l : Option Label) (more : ℕ) → Keeps a b → Keeps a (with_reach b offset l more)
reach_keep a b offset None more h = h
reach_keep a b offset (Some l) more h = Keeps-either _ a _ _ (Keeps-rest a b _ refl refl h) h

learnt_keep : (a : View) (offset : Num) (l : Option Label) (more : ℕ) → WayKeeps a (learnt a offset l more)
learnt_keep a offset l more = way_either _ a _ (reach_keep a _ offset l more (Keeps-rest a a _ refl refl (Keeps-self a)))

taught_keep : (a : View) (offset : Num) (l : Option Label) (t : Lesson) → WayKeeps a (taught a offset l t)
taught_keep a offset l Nothing = Keeps-self a
taught_keep a offset l AtMost = learnt_keep a offset l 0
taught_keep a offset l Below = learnt_keep a offset l 1

end_keep : (a : View) (offset : Num) (l : Option Label) (o : Option Compare) (w : Split) → end_test a offset l o ≡ Ok w → SplitKeeps a w
end_keep a offset l None w e = absurd (refused-okay _ w e)
end_keep a offset l (Some c) w e =
    subst (SplitKeeps a) (okay-same _ w e) (taught_keep a offset l (lesson c false), taught_keep a offset l (lesson c true))

wide_keep : (a : View) (c : Compare) (dst : ℕ) (s : Source) (x y : AbsVal) (w : Split) → wide_ways a c dst s x y ≡ Ok w → SplitKeeps a w
wide_keep a c dst s (Number x) (Number y) w e = subst (SplitKeeps a) (okay-same _ w e) (operands_keep a dst s _, operands_keep a dst s _)
wide_keep a c dst s (Lookup m) (Number y) w e = lookup_keep a dst m _ w e
wide_keep a c dst s (Frame offset l) (Number y) w e = pointer_keep a _ w e
wide_keep a c dst s (Pointer r offset) (Number y) w e = pointer_keep a _ w e
wide_keep a c dst s (Frame offset l) FrameEnd w e = end_keep a offset l _ w e
wide_keep a c dst s FrameEnd (Frame offset l) w e = end_keep a offset l _ w e
wide_keep a c dst s x y w e = absurd (refused-okay _ w e)

narrow_keep : (a : View) (c : Compare) (dst : ℕ) (s : Source) (x y : AbsVal) (w : Split) → narrow_ways a c dst s x y ≡ Ok w → SplitKeeps a w
narrow_keep a c dst s (Number x) (Number y) w e = subst (SplitKeeps a) (okay-same _ w e) (operands_keep a dst s _, operands_keep a dst s _)
narrow_keep a c dst s x y w e = absurd (refused-okay _ w e)

pub split_keep : (a : View) (wide : Bool) (c : Compare) (dst : ℕ) (s : Source) (w : Split) → split a wide c dst s ≡ Ok w → SplitKeeps a w
split_keep a true c dst s w e = wide_keep a c dst s (register a dst) (compared_value true a s) w e
split_keep a false c dst s w e = narrow_keep a c dst s (register a dst) (compared_value false a s) w e
