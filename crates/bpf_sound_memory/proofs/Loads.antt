-- Loads that the rules admit.
use Rattle.std.specs.Prelude.{slice_get, ℤ}
use Rattle.std.proofs.Common.{ℕ, ◌≡◌, ◌+◌, ◌*◌, ◌^◌, ◌<◌, Bool, cond, length, Option, Some, Ok, Err, refl, sym, ap, subst, arith}
use Rattle.std.proofs.lemmas.Bool.{le-leb}
use Rattle.bpf_regions.specs.declared.memory.Region.{Region}
use Rattle.bpf_regions.specs.declared.memory.Region.TheVariants as region
use Rattle.bpf_regions.specs.declared.memory.Value.{Value}
use Rattle.bpf_regions.specs.declared.memory.Value.TheVariants as value
use Rattle.bpf_words.specs.Word.{word_add, word_of}
use Rattle.bpf_model.specs.declared.Place.TheVariants as machine_place
use Rattle.bpf_model.specs.Memory.{size_bytes, number_at, as_loaded}
use Rattle.bpf_model.specs.Memory as machine
use Rattle.bpf_model.specs.Run.{IsFine, IsWordOf}
use Rattle.bpf_model.specs.State.{Setting, State, Goes, put}
use Rattle.bpf_model.specs.State as machine_state
use Rattle.bpf_absnum.specs.Number.{Num, InNum}
use Rattle.bpf_absval.specs.declared.value.AbsRegion.{AbsRegion}
use Rattle.bpf_absval.specs.declared.value.AbsRegion.TheVariants as place
use Rattle.bpf_absval.specs.declared.value.AbsVal.{AbsVal}
use Rattle.bpf_absval.specs.declared.value.AbsVal.TheVariants as abs
use Rattle.bpf_absval.specs.declared.value.Label.{Label}
use Rattle.bpf_absval.specs.Meaning.{Labels, Holds, LabelHolds, RegionHolds, IsEntry}
use Rattle.bpf_absstate.specs.View.{View, frame_of, stack_of}
use Rattle.bpf_absstate.proofs.Kept.{depths_agree, stacks_agree}
use Rattle.bpf_absstate.specs.Contains.{HoldsIn}
use Rattle.bpf_rules.specs.Memory.{load, loaded, loaded_stack, loaded_from, offset_of, frame_fault, context_fault, entry_fault, stack_fault}
use Rattle.bpf_sound_memory.specs.Laws.{IsInput, Puts, LoadHolds}
use Rattle.bpf_sound_memory.proofs.StackReads.{stack_gives}
use Rattle.bpf_rules.proofs.Outcomes.{unless_ok, okay-same}
use Rattle.bpf_sound_memory.proofs.Outcomes.{goes_with}
use Rattle.bpf_sound_memory.proofs.Offsets.{IsSize, stack_fits, stack_placed, size_is, offset_keeps, frame_fits, context_fits, entry_fits, number_below, loaded_holds}

-- the register is set to a number
number_put : (e : Labels) (a : View) (s : State) (signed : Bool) (n dst x : ℕ) (u : AbsVal) → IsSize n → x < 2 ^ (8 * n) → loaded signed n ≡ u →
    Puts e a s dst u (put s dst (value.Number (as_loaded signed n x)))
number_put e a s signed n dst x u size small is =
    (value.Number (as_loaded signed n x), refl, subst (λ w. Holds e a.rooms w (value.Number (as_loaded signed n x))) is (loaded_holds e a.rooms signed n x size small))

-- what the machine does next
abbrev pub Fine : Labels → View → State → ℕ → Bool → ℕ → AbsVal → Region → ℕ → Type 0
Fine e a s n signed dst u r x =
    IsFine e.setting.shapes (machine_state.on (machine.place e.setting (length s.stack) r x n) (machine.load_at e.setting s n signed dst)) (Puts e a s dst u)

from_frame : (e : Labels) (a : View) (s : State) (n : ℕ) (signed : Bool) (dst : ℕ) (offset : Num) (l : Option Label) (u : AbsVal) (x : ℕ) (by : ℤ) →
    IsInput e.setting → HoldsIn e a s → IsSize n → word_of by < 2 ^ 64 → InNum offset x → LabelHolds e a.rooms l x →
    load e.setting.shapes a n signed (abs.Frame offset l) by ≡ Ok u → Fine e a s n signed dst u region.Frame (word_add x (word_of by))
from_frame e a s n signed dst offset l u x by input holds size fits h k t =
    let p = e.setting in
    let at = word_add x (word_of by) in
    let parts = unless_ok (frame_fault a offset l by n) (Ok (loaded signed n)) u t in
    let room = frame_fits e a offset l by n x holds.least fits h k parts.0 in
    goes_with p.shapes (machine.place p (length s.stack) region.Frame at n) (machine_place.Frame at) (machine.load_at p s n signed dst) (Puts e a s dst u)
    (ap (λ b. cond b (Ok (machine_place.Frame at)) (Err 32)) (le-leb (at + n) (length p.frame) room))
    (number_put e a s signed n dst (number_at p.frame at n) u size (number_below p.frame at n input.frame_bytes) (okay-same (loaded signed n) u parts.1))

from_context : (e : Labels) (a : View) (s : State) (n : ℕ) (signed : Bool) (dst : ℕ) (at : Num) (u : AbsVal) (x : ℕ) →
    IsInput e.setting → IsSize n → InNum at x → loaded_from e.setting.shapes a place.Context at n signed ≡ Ok u → Fine e a s n signed dst u region.Context x
from_context e a s n signed dst at u x input size h t =
    let p = e.setting in
    let parts = unless_ok (context_fault at n) (Ok (loaded signed n)) u t in
    goes_with p.shapes (machine.place p (length s.stack) region.Context x n) (machine_place.Context x) (machine.load_at p s n signed dst) (Puts e a s dst u)
    (ap (λ b. cond b (Ok (machine_place.Context x)) (Err 32)) (le-leb (x + n) (length p.context) (omega (arith, context_fits at n x h parts.0, input.context))))
    (number_put e a s signed n dst (number_at p.context x n) u size (number_below p.context x n input.context_bytes) (okay-same (loaded signed n) u parts.1))

from_entry : (e : Labels) (a : View) (s : State) (n : ℕ) (signed : Bool) (dst m map index : ℕ) (at : Num) (u : AbsVal) (x : ℕ) →
    IsSize n → m ≡ map → IsEntry e.setting.shapes map index → InNum at x → loaded_from e.setting.shapes a (place.Entry m) at n signed ≡ Ok u →
    Fine e a s n signed dst u (region.Entry map index) x
from_entry e a s n signed dst m map index at u x size same entry h t =
    let p = e.setting in
    let known = subst (λ k. loaded_from p.shapes a (place.Entry k) at n signed ≡ Ok u) same t in
    let parts = unless_ok (entry_fault (slice_get p.shapes map) at n) (Ok (loaded signed n)) u known in
    let inside = entry_fits p.shapes map index at n x size entry h parts.0 in
    goes_with p.shapes (machine.place p (length s.stack) (region.Entry map index) x n) (machine_place.Word map inside.word) (machine.load_at p s n signed dst) (Puts e a s dst u)
    inside.place
    (λ answer fits.
    let word : IsWordOf (Some inside.shape) answer = subst (λ o. IsWordOf o answer) inside.known fits in
    let small : answer < 2 ^ (8 * n) = subst (λ k. answer < 2 ^ (8 * k)) (sym inside.width) word in
    number_put e a s signed n dst answer u size small (okay-same (loaded signed n) u parts.1))

from_stack : (e : Labels) (a : View) (s : State) (n : ℕ) (signed : Bool) (dst k j : ℕ) (at : Num) (u : AbsVal) (x : ℕ) →
    HoldsIn e a s → IsSize n → k ≡ j → InNum at x → loaded_from e.setting.shapes a (place.Stack k) at n signed ≡ Ok u → Fine e a s n signed dst u (region.Stack j) x
from_stack e a s n signed dst k j at u x holds size same h t =
    let p = e.setting in
    let known = subst (λ i. loaded_from p.shapes a (place.Stack i) at n signed ≡ Ok u) same t in
    let parts = unless_ok (stack_fault a j at n) (loaded_stack (stack_of a j) at.range.low n signed) u known in
    let inside = stack_fits a j at n x h parts.0 in
    let loads = subst (λ i. loaded_stack (stack_of a j) i n signed ≡ Ok u) inside.offset parts.1 in
    let gives = stack_gives e a.rooms (frame_of a j) (machine.frame_of s j) x n signed u (stacks_agree e a s j holds inside.lives) size inside.room loads in
    goes_with p.shapes (machine.place p (length s.stack) (region.Stack j) x n) (machine_place.Stack j x) (machine.load_at p s n signed dst) (Puts e a s dst u)
    (stack_placed j x n (length s.stack) (omega (arith, inside.lives, (depths_agree e a s holds).stacks)) inside.room)
    (goes_with p.shapes (machine.from_stack (machine.frame_of s j) x n signed) gives.0 (λ v. Goes (put s dst v)) (Puts e a s dst u) gives.1 (gives.0, refl, gives.2))

-- ---- all of them

from_region : (e : Labels) (a : View) (s : State) (n : ℕ) (signed : Bool) (dst : ℕ) (at : Num) (u : AbsVal) (r : AbsRegion) (q : Region) (x : ℕ) →
    IsInput e.setting → HoldsIn e a s → IsSize n → RegionHolds e r q → InNum at x → loaded_from e.setting.shapes a r at n signed ≡ Ok u → Fine e a s n signed dst u q x
from_region e a s n signed dst at u place.Context region.Context x input holds size same h t = from_context e a s n signed dst at u x input size h t
from_region e a s n signed dst at u (place.Stack k) (region.Stack j) x input holds size same h t = from_stack e a s n signed dst k j at u x holds size same h t
from_region e a s n signed dst at u (place.Entry m) (region.Entry map index) x input holds size same h t = from_entry e a s n signed dst m map index at u x size same.0 same.1 h t
from_region e a s n signed dst at u r q x input holds size same h t = absurd same

abbrev Fine_load : Labels → View → State → ℕ → Bool → ℕ → AbsVal → Value → ℤ → Type 0
Fine_load e a s n signed dst u x by = IsFine e.setting.shapes (machine.load e.setting s n signed dst x by) (Puts e a s dst u)

through : (e : Labels) (a : View) (s : State) (n : ℕ) (signed : Bool) (dst : ℕ) (u : AbsVal) (by : ℤ) (v : AbsVal) (x : Value) →
    IsInput e.setting → HoldsIn e a s → IsSize n → word_of by < 2 ^ 64 → Holds e a.rooms v x → load e.setting.shapes a n signed v by ≡ Ok u →
    Fine_load e a s n signed dst u x by
through e a s n signed dst u by (abs.Frame offset l) (value.Pointer region.Frame x) input holds size fits h t =
    from_frame e a s n signed dst offset l u x by input holds size fits h.0 h.1 t
through e a s n signed dst u by (abs.Frame offset l) x input holds size fits h t = absurd h
through e a s n signed dst u by (abs.Pointer r offset) (value.Pointer q x) input holds size fits h t =
    from_region e a s n signed dst (offset_of offset by) u r q (word_add x (word_of by)) input holds size h.0 (offset_keeps offset x by fits h.1) t
through e a s n signed dst u by (abs.Pointer r offset) x input holds size fits h t = absurd h
through e a s n signed dst u by v x input holds size fits h t = absurd (cc)

pub load_holds : LoadHolds
load_holds e a s size signed dst v u x by input holds fits h t = through e a s (size_bytes size) signed dst u by v x input holds (size_is size) fits h t
