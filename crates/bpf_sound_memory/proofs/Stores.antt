-- Stores that the rules admit.
use Rattle.std.specs.Prelude.{◌==◌, ◌&&◌, slice_get, ℤ}
use Rattle.std.proofs.Common.{ℕ, ◌≡◌, ◌+◌, ◌/◌, ◌%◌, ◌^◌, ◌<◌, ◌≤◌, Bool, true, false, not, cond, List, length, None, Result, Ok, Err, refl, sym, ap, subst, ◌∙◌, arith}
use Rattle.std.proofs.lemmas.Bool.{eqb-true, eq-eqb, and_parts}
use Rattle.bpf_insn.specs.declared.insn.Size.TheVariants as size
use Rattle.bpf_regions.specs.declared.memory.Region.{Region}
use Rattle.bpf_regions.specs.declared.memory.Region.TheVariants as region
use Rattle.bpf_regions.specs.declared.memory.Value.{Value}
use Rattle.bpf_regions.specs.declared.memory.Value.TheVariants as value
use Rattle.bpf_words.specs.Word.{word_add, word_of}
use Rattle.bpf_model.specs.declared.Place.{Place}
use Rattle.bpf_model.specs.declared.Place.TheVariants as machine_place
use Rattle.bpf_model.specs.Alu.{is_unset}
use Rattle.bpf_model.specs.Memory.{size_bytes, with_frame, storable, storable_in_stack, store_at}
use Rattle.bpf_model.specs.Memory as machine
use Rattle.bpf_model.specs.Run.{IsFine}
use Rattle.bpf_model.specs.State.{Setting, State, Goes, Fault as Faults}
use Rattle.bpf_model.specs.State as machine_state
use Rattle.bpf_absnum.specs.Number.{Num, InNum}
use Rattle.bpf_absval.specs.declared.slot.AbsSlot.TheVariants as slot
use Rattle.bpf_absval.specs.declared.value.AbsRegion.{AbsRegion}
use Rattle.bpf_absval.specs.declared.value.AbsRegion.TheVariants as place
use Rattle.bpf_absval.specs.declared.value.AbsVal.{AbsVal}
use Rattle.bpf_absval.specs.declared.value.AbsVal.TheVariants as abs
use Rattle.bpf_absval.specs.declared.room.Room.{Room}
use Rattle.bpf_absval.specs.Meaning.{Labels, Holds, RegionHolds, IsEntry}
use Rattle.bpf_absstate.specs.View.{View, with_slot}
use Rattle.bpf_absstate.proofs.Kept.{depths_agree}
use Rattle.bpf_absstate.specs.Contains.{HoldsIn}
use Rattle.bpf_rules.specs.declared.fault.Fault.{Fault}
use Rattle.bpf_rules.specs.declared.fault.Fault.TheVariants as fault
use Rattle.bpf_rules.specs.Operands.{is_unset as rules_unset}
use Rattle.bpf_rules.specs.Memory.{offset_of, unless, entry_fault, stack_fault, aligned_fault, is_whole, stored, bytes_stored, strays, spilled, is_spill, stored_in_stack, stored_in_map, stored_into, store, next_pc}
use Rattle.bpf_sound_memory.specs.Laws.{StoreHolds}
use Rattle.bpf_rules.proofs.Outcomes.{unless_ok, okay-same}
use Rattle.bpf_sound_memory.proofs.Outcomes.{goes_with}
use Rattle.bpf_sound_memory.proofs.Offsets.{IsSize, size_is, offset_keeps, IsInStack, stack_fits, aligned_fits, entry_fits, stack_placed}
use Rattle.bpf_sound_memory.proofs.States.{goes_on}
use Rattle.bpf_sound_memory.proofs.StackReads.{is_set}
use Rattle.bpf_sound_memory.proofs.StackStores.{whole_stored, bytes_stored_hold}

-- what the machine does next
abbrev pub Fine : Labels → State → ℕ → Value → Region → ℕ → View → Type 0
Fine e s n v r x b =
    IsFine e.setting.shapes
    (cond (is_unset v) (Faults 30) (machine_state.on (storable r x n v) (λ w. machine_state.on (machine.place e.setting (length s.stack) r x n) (store_at s n w))))
    (HoldsIn e (next_pc b))

-- a value that may be stored there, at a place that exists
goes_to : (e : Labels) (s : State) (n : ℕ) (v : Value) (r : Region) (x : ℕ) (b : View) (p : Place) → is_unset v ≡ false → storable r x n v ≡ Ok v →
    machine.place e.setting (length s.stack) r x n ≡ Ok p → IsFine e.setting.shapes (store_at s n v p) (HoldsIn e (next_pc b)) → Fine e s n v r x b
goes_to e s n v r x b p set may there h =
    subst (λ t. IsFine e.setting.shapes (cond t (Faults 30) (machine_state.on (storable r x n v) (λ w. machine_state.on (machine.place e.setting (length s.stack) r x n) (store_at s n w)))) (HoldsIn e (next_pc b))) (sym set)
    (goes_with e.setting.shapes (storable r x n v) v (λ w. machine_state.on (machine.place e.setting (length s.stack) r x n) (store_at s n w)) (HoldsIn e (next_pc b)) may
    (goes_with e.setting.shapes (machine.place e.setting (length s.stack) r x n) p (store_at s n v) (HoldsIn e (next_pc b)) there h))

-- ---- the stack

same_strays : (e : Labels) (rooms : List Room) (k : ℕ) (v : AbsVal) (x : Value) → rules_unset v ≡ false → Holds e rooms v x → strays k v ≡ false → machine.strays k x ≡ false
same_strays e rooms k v (value.Pointer (region.Stack j) x) set h t = points v set h t
  where
    points : (v : AbsVal) → rules_unset v ≡ false → Holds e rooms v (value.Pointer (region.Stack j) x) → strays k v ≡ false → not (j == k) ≡ false
    points (abs.Pointer (place.Stack i) offset) set h t = subst (λ m. not (m == k) ≡ false) h.0 t
    points (abs.Pointer r offset) set h t = absurd h.0
    points abs.Unset set h t = absurd (cc)
    points v set h t = absurd h
same_strays e rooms k v x set h t = refl

-- eight bytes at a multiple of 8 take any value
takes_whole : (at : ℕ) (v : Value) → at % 8 ≡ 0 → storable_in_stack at 8 v ≡ Ok v
takes_whole at v even = by_value v
  where
    aligned : (v : Value) → ◌≡◌ {A = Result Value ℕ} (cond (at % 8 == 0) (Ok v) (Err 33)) (Ok v)
    aligned v = ap (λ b. cond b (Ok v) (Err 33)) (eq-eqb (at % 8) 0 even)

    by_value : (v : Value) → storable_in_stack at 8 v ≡ Ok v
    by_value (value.Number x) = refl
    by_value v = aligned v

-- a place in a stack frame
abbrev in_stack : Labels → State → ℕ → ℕ → ℕ → Type 0
in_stack e s k x n = machine.place e.setting (length s.stack) (region.Stack k) x n ≡ Ok (machine_place.Stack k x)

placed : (e : Labels) (a : View) (s : State) (k n : ℕ) (at : Num) (x : ℕ) → HoldsIn e a s → IsInStack a k n at x → in_stack e s k x n
placed e a s k n at x h inside =
    stack_placed k x n (length s.stack) (omega (arith, inside.lives, (depths_agree e a s h).stacks)) inside.room

-- the state after a store to the stack
stack_goes : (e : Labels) (a b : View) (s : State) (k n : ℕ) (v : Value) (x : ℕ) → in_stack e s k x n → is_unset v ≡ false → storable_in_stack x n v ≡ Ok v →
    machine.strays k v ≡ false → HoldsIn e b (with_frame s k (machine.stored (machine.frame_of s k) x n v)) → Fine e s n v (region.Stack k) x b
stack_goes e a b s k n v x there set may stays h =
    let t = with_frame s k (machine.stored (machine.frame_of s k) x n v) in
    goes_to e s n v (region.Stack k) x b (machine_place.Stack k x) set may there
    (subst (λ q. IsFine e.setting.shapes (cond q (Faults 37) (Goes (machine.next_pc t))) (HoldsIn e (next_pc b))) (sym stays) (goes_on e b t h))

number_stored_holds : (e : Labels) (a : View) (s : State) (k n x y : ℕ) (v : Num) → HoldsIn e a s → k < length a.frames → IsSize n → x + n ≤ 512 → InNum v y →
    HoldsIn e (stored a k x n (abs.Number v)) (with_frame s k (machine.stored (machine.frame_of s k) x n (value.Number y)))
number_stored_holds e a s k n x y v h low size room is = by_test (is_whole x n) refl
  where
    by_test : (b : Bool) → is_whole x n ≡ b →
        HoldsIn e (cond b (with_slot a k (x / 8) (slot.Stored (abs.Number v))) (bytes_stored a k x n)) (with_frame s k (machine.stored (machine.frame_of s k) x n (value.Number y)))
    by_test true t =
        let parts = and_parts (n == 8) (x % 8 == 0) t in
        let eight : n ≡ 8 = eqb-true n 8 parts.0 in
        subst (λ m. HoldsIn e (with_slot a k (x / 8) (slot.Stored (abs.Number v))) (with_frame s k (machine.stored (machine.frame_of s k) x m (value.Number y)))) (sym eight)
        (whole_stored e a s k x (abs.Number v) (value.Number y) h low (eqb-true (x % 8) 0 parts.1) (subst (λ m. x + m ≤ 512) eight room) refl is)
    by_test false t = bytes_stored_hold e a s k x n y h low size.some size.few room

store_number : (e : Labels) (a b : View) (s : State) (k n : ℕ) (at v : Num) (x y : ℕ) → HoldsIn e a s → IsSize n → InNum at x → InNum v y →
    stored_in_stack a k at n (abs.Number v) ≡ Ok b → Fine e s n (value.Number y) (region.Stack k) x b
store_number e a b s k n at v x y h size offset is t =
    let parts = unless_ok (stack_fault a k at n) (Ok (stored a k at.range.low n (abs.Number v))) b t in
    let inside = stack_fits a k at n x offset parts.0 in
    let left : stored a k x n (abs.Number v) ≡ b =
    ap (λ m. stored a k m n (abs.Number v)) (sym inside.offset) ∙ okay-same (stored a k at.range.low n (abs.Number v)) b parts.1 in
    stack_goes e a b s k n (value.Number y) x (placed e a s k n at x h inside) refl refl refl
    (subst (λ c. HoldsIn e c (with_frame s k (machine.stored (machine.frame_of s k) x n (value.Number y)))) left
    (number_stored_holds e a s k n x y v h inside.lives size inside.room is))

-- any other value, even a lookup result
spilled_parts : (a b : View) (k n : ℕ) (at : Num) (v : AbsVal) → spilled a k at n v ≡ Ok b → (n ≡ 8) × (aligned_fault a k at 8 ≡ None) × (strays k v ≡ false) × (stored a k at.range.low 8 v ≡ b)
spilled_parts a b k n at v t =
    let eight = by_size (n == 8) refl t in
    let parts = unless_ok (aligned_fault a k at 8) (cond (strays k v) (Err fault.StackPointerStored) (Ok (stored a k at.range.low 8 v))) b eight.1 in
    let rest = by_pointer (strays k v) parts.1 in
    (eight.0, parts.0, rest.0, rest.1)
  where
    whole : Result View Fault
    whole = unless (aligned_fault a k at 8) (cond (strays k v) (Err fault.StackPointerStored) (Ok (stored a k at.range.low 8 v)))

    by_size : (c : Bool) → (n == 8) ≡ c → cond c whole (Err fault.WrongOperand) ≡ Ok b → (n ≡ 8) × (whole ≡ Ok b)
    by_size true is t = (eqb-true n 8 is, t)
    by_size false is t = absurd (cc)

    by_pointer : (c : Bool) → ◌≡◌ {A = Result View Fault} (cond c (Err fault.StackPointerStored) (Ok (stored a k at.range.low 8 v))) (Ok b) → (c ≡ false) × (stored a k at.range.low 8 v ≡ b)
    by_pointer true t = absurd (cc)
    by_pointer false t = (refl, okay-same (stored a k at.range.low 8 v) b t)

store_whole : (e : Labels) (a b : View) (s : State) (k n : ℕ) (at : Num) (v : AbsVal) (x : ℕ) (y : Value) → HoldsIn e a s → InNum at x → rules_unset v ≡ false → Holds e a.rooms v y →
    spilled a k at n v ≡ Ok b → Fine e s n y (region.Stack k) x b
store_whole e a b s k n at v x y h offset set is t =
    let parts = spilled_parts a b k n at v t in
    let fits = aligned_fits a k at 8 x (size_is size.Double) offset parts.1 in
    let inside = fits.1 in
    let zero : (x % 8 == 0) ≡ true = eq-eqb (x % 8) 0 fits.0 in
    let left : with_slot a k (x / 8) (slot.Stored v) ≡ b =
    sym (ap (λ c. cond ((8 == 8) && c) (with_slot a k (x / 8) (slot.Stored v)) (bytes_stored a k x 8)) zero)
    ∙ ap (λ m. stored a k m 8 v) (sym inside.offset) ∙ parts.3 in
    subst (λ m. Fine e s m y (region.Stack k) x b) (sym parts.0)
    (stack_goes e a b s k 8 y x (placed e a s k 8 at x h inside) (is_set e a.rooms v y set is) (takes_whole x y fits.0) (same_strays e a.rooms k v y set is parts.2)
    (subst (λ c. HoldsIn e c (with_frame s k (machine.stored (machine.frame_of s k) x 8 y))) left (whole_stored e a s k x v y h inside.lives fits.0 inside.room set is)))

to_stack : (e : Labels) (a b : View) (s : State) (k n : ℕ) (at : Num) (x : ℕ) (v : AbsVal) (y : Value) → HoldsIn e a s → IsSize n → InNum at x → rules_unset v ≡ false → Holds e a.rooms v y →
    stored_in_stack a k at n v ≡ Ok b → Fine e s n y (region.Stack k) x b
to_stack e a b s k n at x (abs.Number v) (value.Number y) h size offset set is t = store_number e a b s k n at v x y h size offset is t
to_stack e a b s k n at x (abs.Number v) y h size offset set is t = absurd is
to_stack e a b s k n at x (abs.Lookup m) y h size offset set is t = by_test (is_spill at n) t
  where
    by_test : (c : Bool) → cond c (spilled a k at n (abs.Lookup m)) (Err fault.NotTested) ≡ Ok b → Fine e s n y (region.Stack k) x b
    by_test true t = store_whole e a b s k n at (abs.Lookup m) x y h offset refl is t
    by_test false t = absurd (cc)
to_stack e a b s k n at x v y h size offset set is t = store_whole e a b s k n at v x y h offset set is t

-- ---- maps

to_entry : (e : Labels) (a b : View) (s : State) (m map index n : ℕ) (at : Num) (x : ℕ) (v : AbsVal) (y : Value) → HoldsIn e a s → IsSize n → m ≡ map → IsEntry e.setting.shapes map index →
    InNum at x → Holds e a.rooms v y → stored_in_map a (slice_get e.setting.shapes m) at n v ≡ Ok b → Fine e s n y (region.Entry map index) x b
to_entry e a b s m map index n at x (abs.Number v) (value.Number y) h size same entry offset is t =
    let p = e.setting in
    let known = subst (λ j. stored_in_map a (slice_get p.shapes j) at n (abs.Number v) ≡ Ok b) same t in
    let parts = unless_ok (entry_fault (slice_get p.shapes map) at n) (Ok a) b known in
    let inside = entry_fits p.shapes map index at n x size entry offset parts.0 in
    goes_to e s n (value.Number y) (region.Entry map index) x b (machine_place.Word map inside.word) refl refl inside.place
    (λ answer fits. subst (λ c. HoldsIn e (next_pc c) (machine.next_pc s)) (okay-same a b parts.1) (goes_on e a s h))
to_entry e a b s m map index n at x (abs.Number v) y h size same entry offset is t = absurd is
to_entry e a b s m map index n at x v y h size same entry offset is t = absurd (cc)

-- ---- all of them

to_region : (e : Labels) (a b : View) (s : State) (n : ℕ) (at : Num) (r : AbsRegion) (q : Region) (x : ℕ) (v : AbsVal) (y : Value) → HoldsIn e a s → IsSize n → RegionHolds e r q →
    InNum at x → rules_unset v ≡ false → Holds e a.rooms v y → stored_into e.setting.shapes a r at n v ≡ Ok b → Fine e s n y q x b
to_region e a b s n at (place.Stack k) (region.Stack j) x v y h size same offset set is t =
    subst (λ i. Fine e s n y (region.Stack i) x b) same (to_stack e a b s k n at x v y h size offset set is t)
to_region e a b s n at (place.Entry m) (region.Entry map index) x v y h size same offset set is t = to_entry e a b s m map index n at x v y h size same.0 same.1 offset is t
to_region e a b s n at place.Context q x v y h size same offset set is t = absurd (cc)
to_region e a b s n at r q x v y h size same offset set is t = absurd same

through : (e : Labels) (a b : View) (s : State) (n : ℕ) (by : ℤ) (v to : AbsVal) (x t : Value) → HoldsIn e a s → IsSize n → word_of by < 2 ^ 64 → Holds e a.rooms v x → Holds e a.rooms to t →
    store e.setting.shapes a n v to by ≡ Ok b → IsFine e.setting.shapes (machine.store e.setting s n x t by) (HoldsIn e (next_pc b))
through e a b s n by abs.Unset to x t h size fits is at ok = absurd (cc)
through e a b s n by v (abs.Pointer r offset) x (value.Pointer q base) h size fits is at ok =
    to_region e a b s n (offset_of offset by) r q (word_add base (word_of by)) v x h size at.0 (offset_keeps offset base by fits at.1) refl is ok
through e a b s n by v (abs.Pointer r offset) x t h size fits is at ok = absurd at
through e a b s n by v to x t h size fits is at ok = absurd (cc)

pub store_holds : StoreHolds
store_holds e a b s size v to x t by h fits is at ok = through e a b s (size_bytes size) by v to x t h (size_is size) fits is at ok
