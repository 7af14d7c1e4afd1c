-- Atomics that the rules admit.
use Rattle.std.specs.Prelude.{slice_get, ℤ}
use Rattle.std.proofs.Common.{ℕ, ◌≡◌, ◌≢◌, ◌*◌, ◌%◌, ◌^◌, ◌<◌, Bool, true, false, cond, length, Option, Some, None, Ok, Err, refl, sym, ap, subst, ◌∙◌, arith}
use Rattle.std.proofs.lemmas.Bool.{eq-eqb}
use Rattle.std.proofs.lemmas.Nat.{pow_pos}
use Rattle.bpf_insn.specs.declared.insn.AtomicOp.{AtomicOp}
use Rattle.bpf_regions.specs.declared.maps.MapOp.{MapOp}
use Rattle.bpf_regions.specs.declared.maps.MapOp.TheVariants as map_op
use Rattle.bpf_regions.specs.declared.maps.Shape.{Shape}
use Rattle.bpf_regions.specs.Maps.{bytes_of}
use Rattle.bpf_regions.specs.declared.memory.Region.{Region}
use Rattle.bpf_regions.specs.declared.memory.Region.TheVariants as region
use Rattle.bpf_regions.specs.declared.memory.Value.{Value}
use Rattle.bpf_regions.specs.declared.memory.Value.TheVariants as value
use Rattle.bpf_words.specs.Word.{word_add, word_of}
use Rattle.bpf_model.specs.declared.Place.TheVariants as machine_place
use Rattle.bpf_model.specs.Memory.{set_bytes, with_frame, number_after, operation_of, old_into, put_old, atomically_stored, atomic_at, atomic_region}
use Rattle.bpf_model.specs.Memory as machine
use Rattle.bpf_model.specs.Run.{IsFine, IsWordOf, AccessAnswer}
use Rattle.bpf_model.specs.State.{Setting, State, Goes}
use Rattle.bpf_model.specs.State as machine_state
use Rattle.bpf_model.specs.Step.{atomic_bytes}
use Rattle.bpf_absnum.specs.Number.{Num, InNum}
use Rattle.bpf_absval.specs.declared.value.AbsRegion.{AbsRegion}
use Rattle.bpf_absval.specs.declared.value.AbsRegion.TheVariants as place
use Rattle.bpf_absval.specs.declared.value.AbsVal.{AbsVal}
use Rattle.bpf_absval.specs.declared.value.AbsVal.TheVariants as abs
use Rattle.bpf_absval.specs.Meaning.{Labels, Holds, RegionHolds, IsEntry}
use Rattle.bpf_absstate.specs.View.{View, frame_of, stack_of}
use Rattle.bpf_absstate.proofs.Kept.{depths_agree, stacks_agree}
use Rattle.bpf_absstate.specs.Contains.{HoldsIn}
use Rattle.bpf_rules.specs.Memory.{offset_of, unless, entry_fault, aligned_fault, read_fault, bytes_stored, loaded, with_old, atomic_on, atomic, next_pc}
use Rattle.bpf_sound_memory.specs.Laws.{AtomicHolds}
use Rattle.bpf_rules.proofs.Outcomes.{unless_ok, okay-same, on_ok}
use Rattle.bpf_sound_memory.proofs.Outcomes.{goes_with}
use Rattle.bpf_sound_memory.proofs.Offsets.{IsSize, offset_keeps, aligned_fits, stack_placed, entry_fits, loaded_holds}
use Rattle.bpf_sound_memory.proofs.StackFrames.{spelled}
use Rattle.bpf_sound_memory.proofs.StackReads.{read_spelled}
use Rattle.bpf_sound_memory.proofs.StackStores.{bytes_stored_hold}
use Rattle.bpf_sound_memory.proofs.States.{goes_on, puts}

atomic_size : (wide : Bool) → IsSize (atomic_bytes wide)
atomic_size true = record { some = omega arith; few = omega arith; power = 3; is_power = refl }
atomic_size false = record { some = omega arith; few = omega arith; power = 2; is_power = refl }

-- the old number goes where the operation puts it
old_holds : (e : Labels) (b : View) (s : State) (into : Option ℕ) (n old : ℕ) → HoldsIn e b s → into ≢ Some 10 → IsSize n → old < 2 ^ (8 * n) →
    HoldsIn e (next_pc (with_old b into n)) (put_old s into old)
old_holds e b s None n old h other size small = goes_on e b s h
old_holds e b s (Some r) n old h other size small =
    puts e b s r (loaded false n) (value.Number old) h (λ same. other (ap Some same)) (loaded_holds e b.rooms false n old size small)

-- what the machine does next
abbrev pub Fine : Labels → State → ℕ → MapOp → Option ℕ → Region → ℕ → View → Type 0
Fine e s n op into r x b =
    IsFine e.setting.shapes (machine_state.on (atomic_region r x n) (λ q. machine_state.on (machine.place e.setting (length s.stack) q x n) (atomic_at s n op into))) (HoldsIn e (next_pc (with_old b into n)))

on_stack : (e : Labels) (a b : View) (s : State) (k n : ℕ) (op : MapOp) (into : Option ℕ) (at : Num) (x : ℕ) → HoldsIn e a s → into ≢ Some 10 → IsSize n → InNum at x →
    atomic_on e.setting.shapes a n (place.Stack k) at ≡ Ok b → Fine e s n op into (region.Stack k) x b
on_stack e a b s k n op into at x h other size offset t =
    let p = e.setting in
    let f = machine.frame_of s k in
    let outer = unless_ok (aligned_fault a k at n) (unless (read_fault (stack_of a k) at.range.low n) (Ok (bytes_stored a k at.range.low n))) b t in
    let fits = aligned_fits a k at n x size offset outer.0 in
    let inside = fits.1 in
    let inner = unless_ok (read_fault (stack_of a k) at.range.low n) (Ok (bytes_stored a k at.range.low n)) b outer.1 in
    let none = subst (λ m. read_fault (stack_of a k) m n ≡ None) inside.offset inner.0 in
    let left : bytes_stored a k x n ≡ b = ap (λ m. bytes_stored a k m n) (sym inside.offset) ∙ okay-same (bytes_stored a k at.range.low n) b inner.1 in
    let old = spelled f x n (read_spelled e a.rooms (frame_of a k) f x n (stacks_agree e a s k h inside.lives) size.few inside.room none) in
    let P = HoldsIn e (next_pc (with_old b into n)) in
    let new = number_after (2 ^ (8 * n)) op old.0 in
    let stored : HoldsIn e b (with_frame s k (atomically_stored f x n op old.0)) = subst (λ c. HoldsIn e c (with_frame s k (atomically_stored f x n op old.0))) left (bytes_stored_hold e a s k x n new h inside.lives size.some size.few inside.room) in
    goes_with p.shapes (atomic_region (region.Stack k) x n) (region.Stack k) (λ q. machine_state.on (machine.place p (length s.stack) q x n) (atomic_at s n op into)) P
    (ap (λ c. cond c (Ok (region.Stack k)) (Err 33)) (eq-eqb (x % n) 0 fits.0))
    (goes_with p.shapes (machine.place p (length s.stack) (region.Stack k) x n) (machine_place.Stack k x) (atomic_at s n op into) P
    (stack_placed k x n (length s.stack) (omega (arith, inside.lives, (depths_agree e a s h).stacks)) inside.room)
    (goes_with p.shapes (set_bytes f x n) old.0 (λ o. Goes (put_old (with_frame s k (atomically_stored f x n op o)) into o)) P old.1
    (old_holds e b (with_frame s k (atomically_stored f x n op old.0)) into n old.0 stored other size old.2)))

-- a store returns 0, any other access a word of the map's width
answer_below : (shape : Shape) (op : MapOp) (answer : ℕ) → AccessAnswer (Some shape) op answer → IsWordOf (Some shape) answer
answer_below shape (map_op.Store y) answer h = omega (arith, h, pow_pos (8 * bytes_of shape.width))
answer_below shape op answer h = h

on_entry : (e : Labels) (a b : View) (s : State) (m map index n : ℕ) (op : MapOp) (into : Option ℕ) (at : Num) (x : ℕ) → HoldsIn e a s → into ≢ Some 10 → IsSize n → m ≡ map →
    IsEntry e.setting.shapes map index → InNum at x → atomic_on e.setting.shapes a n (place.Entry m) at ≡ Ok b → Fine e s n op into (region.Entry map index) x b
on_entry e a b s m map index n op into at x h other size same entry offset t =
    let p = e.setting in
    let known = subst (λ j. atomic_on p.shapes a n (place.Entry j) at ≡ Ok b) same t in
    let parts = unless_ok (entry_fault (slice_get p.shapes map) at n) (Ok a) b known in
    let inside = entry_fits p.shapes map index at n x size entry offset parts.0 in
    let P = HoldsIn e (next_pc (with_old b into n)) in
    goes_with p.shapes (machine.place p (length s.stack) (region.Entry map index) x n) (machine_place.Word map inside.word) (atomic_at s n op into) P inside.place
    (λ answer fits.
    let word : IsWordOf (Some inside.shape) answer = answer_below inside.shape op answer (subst (λ o. AccessAnswer o op answer) inside.known fits) in
    let small : answer < 2 ^ (8 * n) = subst (λ k. answer < 2 ^ (8 * k)) (sym inside.width) word in
    subst (λ c. HoldsIn e (next_pc (with_old c into n)) (put_old s into answer)) (okay-same a b parts.1) (old_holds e a s into n answer h other size small))

on_region : (e : Labels) (a b : View) (s : State) (n : ℕ) (op : MapOp) (into : Option ℕ) (at : Num) (r : AbsRegion) (q : Region) (x : ℕ) → HoldsIn e a s → into ≢ Some 10 → IsSize n → RegionHolds e r q →
    InNum at x → atomic_on e.setting.shapes a n r at ≡ Ok b → Fine e s n op into q x b
on_region e a b s n op into at (place.Stack k) (region.Stack j) x h other size same offset t =
    subst (λ i. Fine e s n op into (region.Stack i) x b) same (on_stack e a b s k n op into at x h other size offset t)
on_region e a b s n op into at (place.Entry m) (region.Entry map index) x h other size same offset t = on_entry e a b s m map index n op into at x h other size same.0 same.1 offset t
on_region e a b s n op into at place.Context q x h other size same offset t = absurd (cc)
on_region e a b s n op into at r q x h other size same offset t = absurd same

through : (e : Labels) (a b : View) (s : State) (n : ℕ) (op : AtomicOp) (src : ℕ) (by : ℤ) (to v r0 : AbsVal) (t x y : Value) → HoldsIn e a s → old_into op src ≢ Some 10 → IsSize n → word_of by < 2 ^ 64 →
    Holds e a.rooms to t → Holds e a.rooms v x → Holds e a.rooms r0 y → atomic e.setting.shapes a n op src by to v r0 ≡ Ok b →
    IsFine e.setting.shapes (machine.atomic e.setting s n op src by t x y) (HoldsIn e (next_pc b))
through e a b s n op src by (abs.Pointer r offset) (abs.Number v) (abs.Number r0) (value.Pointer q base) (value.Number x) (value.Number y) h other size fits at is compared ok =
    let parts = on_ok (atomic_on e.setting.shapes a n r (offset_of offset by)) (λ c. Ok (with_old c (old_into op src) n)) b ok in
    subst (λ c. IsFine e.setting.shapes (machine.atomic e.setting s n op src by (value.Pointer q base) (value.Number x) (value.Number y)) (HoldsIn e (next_pc c))) (okay-same (with_old parts.0 (old_into op src) n) b parts.2)
    (on_region e a parts.0 s n (operation_of op x y) (old_into op src) (offset_of offset by) r q (word_add base (word_of by)) h other size at.0 (offset_keeps offset base by fits at.1) parts.1)
through e a b s n op src by (abs.Pointer r offset) (abs.Number v) (abs.Number r0) (value.Pointer q base) (value.Number x) y h other size fits at is compared ok = absurd compared
through e a b s n op src by (abs.Pointer r offset) (abs.Number v) (abs.Number r0) (value.Pointer q base) x y h other size fits at is compared ok = absurd is
through e a b s n op src by (abs.Pointer r offset) (abs.Number v) (abs.Number r0) t x y h other size fits at is compared ok = absurd at
through e a b s n op src by (abs.Pointer r offset) (abs.Number v) r0 t x y h other size fits at is compared ok = absurd (cc)
through e a b s n op src by (abs.Pointer r offset) v r0 t x y h other size fits at is compared ok = absurd (cc)
through e a b s n op src by to v r0 t x y h other size fits at is compared ok = absurd (cc)

pub atomic_holds : AtomicHolds
atomic_holds e a b s op wide src to v r0 t x y by h other fits at is compared ok =
    through e a b s (atomic_bytes wide) op src by to v r0 t x y h other (atomic_size wide) fits at is compared ok
