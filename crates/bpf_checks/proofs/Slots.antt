-- A store or an atomic leaves the state at its slot.
use Rattle.std.proofs.Common.{◌≡◌, ℕ, refl, sym, ◌∙◌, ap, Bool, true, false, Option, Some, None, List, Result, slice_get, ℤ}
use Rattle.std.specs.Prelude.{◌==◌, ◌≢◌, if◌then◌else◌}
use Rattle.bpf_insn.specs.declared.insn.AtomicOp.{AtomicOp}
use Rattle.bpf_regions.specs.declared.maps.Shape.{Shape}
use Rattle.bpf_model.specs.Memory.{old_into}
use Rattle.bpf_absnum.specs.Number.{Num}
use Rattle.bpf_absval.specs.declared.value.AbsRegion.{AbsRegion}
use Rattle.bpf_absval.specs.declared.value.AbsRegion.TheVariants as place
use Rattle.bpf_absval.specs.declared.value.AbsVal.{AbsVal}
use Rattle.bpf_absval.specs.declared.value.AbsVal.TheVariants.{Unset, Number, Pointer, Lookup, Frame, FrameEnd, MapReference}
use Rattle.bpf_absstate.specs.View.{View}
use Rattle.bpf_rules.specs.declared.fault.Fault.{Fault}
use Rattle.bpf_rules.specs.declared.fault.Fault.TheVariants as fault
use Rattle.bpf_rules.proofs.Outcomes.{okay, refused, okay-same, refused-okay, unless_ok, on_ok}
use Rattle.bpf_rules.specs.Memory.{unless, bytes_stored, stored, strays, spilled, is_spill, stored_in_stack, stored_in_map, stored_into, store, atomic, atomic_on, with_old, offset_of, aligned_fault, operands_fault}

either_pc : (c : Bool) (x y : View) (n : ℕ) → x.pc ≡ n → y.pc ≡ n → (if c then x else y).pc ≡ n
either_pc true x y n h g = h
either_pc false x y n h g = g

bytes_pc : (a : View) (k at n : ℕ) → (bytes_stored a k at n).pc ≡ a.pc
bytes_pc a k at n = either_pc _ _ _ a.pc refl refl

atomic_on_pc : (shapes : List Shape) (a : View) (n : ℕ) (r : AbsRegion) (at : Num) (b : View) → atomic_on shapes a n r at ≡ okay b → b.pc ≡ a.pc
atomic_on_pc shapes a n place.Context at b e = absurd (refused-okay fault.WrongOperand b e)
atomic_on_pc shapes a n (place.Stack k) at b e =
    sym (ap (λ v. v.pc) (okay-same (bytes_stored a k at.range.low n) b
    (unless_ok _ (okay (bytes_stored a k at.range.low n)) b (unless_ok _ (unless _ (okay (bytes_stored a k at.range.low n))) b e).1).1)) ∙ bytes_pc a k at.range.low n
atomic_on_pc shapes a n (place.Entry m) at b e = sym (ap (λ v. v.pc) (okay-same a b (unless_ok _ (okay a) b e).1))

with_old_pc : (b : View) (o : Option ℕ) (n : ℕ) → (with_old b o n).pc ≡ b.pc
with_old_pc b None n = refl
with_old_pc b (Some r) n = refl

pub atomic_pc : (shapes : List Shape) (a : View) (n : ℕ) (op : AtomicOp) (src : ℕ) (by : ℤ) (to v r0 : AbsVal) (b : View) → atomic shapes a n op src by to v r0 ≡ okay b → b.pc ≡ a.pc
atomic_pc shapes a n op src by (Pointer r offset) (Number x) (Number y) b e =
    let k = on_ok (atomic_on shapes a n r (offset_of offset by)) (λ c. okay (with_old c (old_into op src) n)) b e in
    sym (ap (λ c. c.pc) (okay-same (with_old k.0 (old_into op src) n) b k.2)) ∙ with_old_pc k.0 (old_into op src) n ∙ atomic_on_pc shapes a n r (offset_of offset by) k.0 k.1
atomic_pc shapes a n op src by to v r0 b e = absurd (refused-okay _ b e)

if_ok : (c : Bool) (r : Result View Fault) (f : Fault) (b : View) → (if c then r else refused f) ≡ okay b → r ≡ okay b
if_ok true r f b e = e
if_ok false r f b e = absurd (refused-okay f b e)

if_not_ok : (c : Bool) (f : Fault) (r : Result View Fault) (b : View) → (if c then refused f else r) ≡ okay b → r ≡ okay b
if_not_ok true f r b e = absurd (refused-okay f b e)
if_not_ok false f r b e = e

stored_pc : (a : View) (k at n : ℕ) (v : AbsVal) → (stored a k at n v).pc ≡ a.pc
stored_pc a k at n v = either_pc _ _ _ a.pc refl (bytes_pc a k at n)

spilled_pc : (a : View) (k : ℕ) (at : Num) (n : ℕ) (v : AbsVal) (b : View) → spilled a k at n v ≡ okay b → b.pc ≡ a.pc
spilled_pc a k at n v b e =
    let left : View = stored a k at.range.low 8 v in
    let kept : Result View Fault = (if strays k v then refused fault.StackPointerStored else okay left) in
    let aligned : unless (aligned_fault a k at 8) kept ≡ okay b = if_ok (n == 8) (unless (aligned_fault a k at 8) kept) fault.WrongOperand b e in
    let same : left ≡ b = okay-same left b (if_not_ok (strays k v) fault.StackPointerStored (okay left) b (unless_ok (aligned_fault a k at 8) kept b aligned).1) in
    sym (ap (λ x. x.pc) same) ∙ stored_pc a k at.range.low 8 v

in_stack_pc : (a : View) (k : ℕ) (at : Num) (n : ℕ) (v : AbsVal) (b : View) → stored_in_stack a k at n v ≡ okay b → b.pc ≡ a.pc
in_stack_pc a k at n (Number x) b e =
    let left : View = stored a k at.range.low n (Number x) in
    sym (ap (λ c. c.pc) (okay-same left b (unless_ok _ (okay left) b e).1)) ∙ stored_pc a k at.range.low n (Number x)
in_stack_pc a k at n (Lookup m) b e = spilled_pc a k at n (Lookup m) b (if_ok (is_spill at n) (spilled a k at n (Lookup m)) fault.NotTested b e)
in_stack_pc a k at n v b e = spilled_pc a k at n v b e

in_map_pc : (a : View) (shape : Option Shape) (at : Num) (n : ℕ) (v : AbsVal) (b : View) → stored_in_map a shape at n v ≡ okay b → b.pc ≡ a.pc
in_map_pc a shape at n (Number x) b e = sym (ap (λ c. c.pc) (okay-same a b (unless_ok _ (okay a) b e).1))
in_map_pc a shape at n v b e = absurd (refused-okay _ b e)

into_pc : (shapes : List Shape) (a : View) (r : AbsRegion) (at : Num) (n : ℕ) (v : AbsVal) (b : View) → stored_into shapes a r at n v ≡ okay b → b.pc ≡ a.pc
into_pc shapes a place.Context at n v b e = absurd (refused-okay _ b e)
into_pc shapes a (place.Stack k) at n v b e = in_stack_pc a k at n v b e
into_pc shapes a (place.Entry m) at n v b e = in_map_pc a (slice_get shapes m) at n v b e

pub store_pc : (shapes : List Shape) (a : View) (n : ℕ) (v to : AbsVal) (by : ℤ) (b : View) → store shapes a n v to by ≡ okay b → b.pc ≡ a.pc
store_pc shapes a n Unset to by b e = absurd (refused-okay fault.Unset b e)
store_pc shapes a n v (Pointer r offset) by b e = into_pc shapes a r (offset_of offset by) n v b e
store_pc shapes a n v to by b e = absurd (refused-okay _ b e)

-- an atomic needs a pointer
pub atomic_refused : (shapes : List Shape) (a : View) (n : ℕ) (op : AtomicOp) (src : ℕ) (by : ℤ) (to v r0 : AbsVal) → ((r : AbsRegion) (offset : Num) → to ≢ Pointer r offset) → atomic shapes a n op src by to v r0 ≡ refused (operands_fault to v r0)
atomic_refused shapes a n op src by (Pointer r offset) v r0 differs = absurd (differs r offset refl)
atomic_refused shapes a n op src by Unset v r0 differs = refl
atomic_refused shapes a n op src by (Number x) v r0 differs = refl
atomic_refused shapes a n op src by (Frame offset l) v r0 differs = refl
atomic_refused shapes a n op src by FrameEnd v r0 differs = refl
atomic_refused shapes a n op src by (MapReference m) v r0 differs = refl
atomic_refused shapes a n op src by (Lookup m) v r0 differs = refl
