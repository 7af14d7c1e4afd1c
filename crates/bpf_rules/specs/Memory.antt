-- Loads, stores and atomics on abstract states (RFC 9669 sections 5.1 to 5.3). The checks come in this order: 30 for
-- the registers that are read, 34, 31 for kinds, 33 for width and alignment, 32 for the region, 30 and then 31 for
-- bytes of the stack, 37.
use Rattle.std.specs.Prelude.{ℕ, ◌+◌, ◌-◌, ◌*◌, ◌/◌, ◌%◌, ◌^◌, ◌==◌, nat_lt, nat_le, Bool, true, false, not, ◌||◌, ◌&&◌, if◌then◌else◌, List, length, Option, Some, None, slice_get, slice_index_or, Result, Ok, Err, bit_and, bit_or, ℤ}
use Rattle.bpf_insn.specs.declared.insn.AluOp.TheVariants.{Add}
use Rattle.bpf_insn.specs.declared.insn.AtomicOp.{AtomicOp}
use Rattle.bpf_regions.specs.declared.maps.Shape.{Shape}
use Rattle.bpf_regions.specs.Maps.{bytes_of, entry_bytes}
use Rattle.bpf_words.specs.Word.{word_add, word_of}
use Rattle.bpf_model.specs.Memory.{old_into}
use Rattle.bpf_absnum.specs.Number.{Num, num_single, is_single}
use Rattle.bpf_absnum.specs.Transfer.{num_alu, num_loaded, num_loaded_signed}
use Rattle.bpf_absval.specs.declared.value.AbsRegion.{AbsRegion}
use Rattle.bpf_absval.specs.declared.value.AbsRegion.TheVariants as place
use Rattle.bpf_absval.specs.declared.value.AbsVal.{AbsVal}
use Rattle.bpf_absval.specs.declared.value.AbsVal.TheVariants.{Unset, Number, Frame, Pointer, Lookup}
use Rattle.bpf_absval.specs.declared.value.Label.{Label}
use Rattle.bpf_absval.specs.declared.slot.AbsSlot.{AbsSlot}
use Rattle.bpf_absval.specs.declared.slot.AbsSlot.TheVariants as slot
use Rattle.bpf_absval.specs.declared.room.Room.{Room}
use Rattle.bpf_absval.specs.Rooms.{find_room}
use Rattle.bpf_absval.specs.Inclusion.{bytes_set}
use Rattle.bpf_absstate.specs.View.{View, stack_of, with_register, with_slot, at_slot}
use Rattle.bpf_rules.specs.declared.fault.Fault.{Fault}
use Rattle.bpf_rules.specs.declared.fault.Fault.TheVariants as fault
use Rattle.bpf_rules.specs.Faults.{on}
use Rattle.bpf_rules.specs.Operands.{is_unset, is_untested, wrong, wrong_two}

-- the offset of an access: the pointer's plus the instruction's
abbrev pub offset_of : Num → ℤ → Num
offset_of offset by = num_alu true Add offset (num_single (word_of by))

-- whether the low bits show that the offsets are multiples of n, a power of two
abbrev pub are_multiples : ℕ → Num → Bool
are_multiples n at = bit_and (bit_or at.bits.value at.bits.mask) (n - 1) == 0

-- ---- where an access lies

-- a room of at least that many bytes is known
abbrev pub room_reaches : Option ℕ → ℕ → Bool
room_reaches None end = false
room_reaches (Some size) end = nat_le end size

-- n bytes at offset `by` from a labelled pointer are in the room known of its label
abbrev pub in_room : List Room → Option Label → ℤ → ℕ → Bool
in_room rooms None by n = false
in_room rooms (Some l) by n =
    room_reaches (find_room rooms l.label) (word_add l.distance (word_of by) + n)

-- in the received frame: within the known least length, or in the label's room
abbrev pub frame_fault : View → Num → Option Label → ℤ → ℕ → Option Fault
frame_fault a offset l by n =
    (if nat_le ((offset_of offset by).range.high + n) a.least || in_room a.rooms l by n then None
    else Some fault.OutsideRegion)

-- in the context, which has 32 bytes
abbrev pub context_fault : Num → ℕ → Option Fault
context_fault at n = (if nat_le (at.range.high + n) 32 then None else Some fault.OutsideRegion)

-- in a map's entry: of the words' own width, at a multiple of it
abbrev pub entry_fault : Option Shape → Num → ℕ → Option Fault
entry_fault None at n = Some fault.OutsideRegion
entry_fault (Some shape) at n =
    (if n == bytes_of shape.width && are_multiples n at then
    (if nat_le (at.range.high + n) (entry_bytes shape) then None else Some fault.OutsideRegion)
    else Some fault.Misaligned)

-- in a stack: at one offset, in a live stack frame
abbrev pub stack_fault : View → ℕ → Num → ℕ → Option Fault
stack_fault a k at n =
    (if is_single at && nat_lt k (length a.frames) && nat_le (at.range.low + n) 512 then None
    else Some fault.OutsideRegion)

-- the same at a multiple of n, which is checked first
abbrev pub aligned_fault : View → ℕ → Num → ℕ → Option Fault
aligned_fault a k at n =
    (if are_multiples n at then stack_fault a k at n else Some fault.Misaligned)

-- an outcome, unless a fault comes first
abbrev pub unless : {A : Type 0} → Option Fault → Result A Fault → Result A Fault
unless None r = r
unless (Some e) r = Err e

-- ---- bytes of a stack

-- which bytes of a slot, and of the next one, n bytes at an offset touch
abbrev pub touched : ℕ → ℕ → ℕ
touched at n = (2 ^ n - 1) * 2 ^ (at % 8)

-- slot i of a stack
abbrev pub slot_at : List AbsSlot → ℕ → AbsSlot
slot_at stack i = slice_index_or stack i slot.Unset

-- the slot has a value stored whole
abbrev pub is_stored : AbsSlot → Bool
is_stored (slot.Stored v) = true
is_stored s = false

-- reading bytes of a slot: part of a stored value other than a number is 31, else an unset one 30
abbrev pub bytes_fault : AbsSlot → ℕ → Option Fault
bytes_fault s needed =
    (if bit_and (bytes_set s) needed == needed then None
    else (if is_stored s then Some fault.WrongOperand else Some fault.Unset))

-- of two faults 30 comes first
abbrev pub is_unset_fault : Option Fault → Bool
is_unset_fault (Some fault.Unset) = true
is_unset_fault e = false

-- of two faults, the one that comes first
abbrev pub worse : Option Fault → Option Fault → Option Fault
worse None b = b
worse (Some e) b = (if is_unset_fault b then b else Some e)

-- reading n bytes of a stack
abbrev pub read_fault : List AbsSlot → ℕ → ℕ → Option Fault
read_fault stack at n =
    worse (bytes_fault (slot_at stack (at / 8)) (touched at n % 256))
    (bytes_fault (slot_at stack (at / 8 + 1)) (touched at n / 256))

-- more bytes of a slot are set; a value stored whole in it is lost
abbrev pub with_bytes : AbsSlot → ℕ → AbsSlot
with_bytes s mask = slot.Bytes (bit_or (bytes_set s) mask)

-- n bytes of stack k are set
abbrev pub bytes_stored : View → ℕ → ℕ → ℕ → View
bytes_stored a k at n =
    let b = with_slot a k (at / 8) (with_bytes (slot_at (stack_of a k) (at / 8)) (touched at n % 256)) in
    (if touched at n / 256 == 0 then b
    else with_slot b k (at / 8 + 1)
    (with_bytes (slot_at (stack_of a k) (at / 8 + 1)) (touched at n / 256)))

-- eight bytes at a multiple of 8
abbrev pub is_whole : ℕ → ℕ → Bool
is_whole at n = n == 8 && at % 8 == 0

-- eight bytes at a multiple of 8 store a value whole, others set bytes
abbrev pub stored : View → ℕ → ℕ → ℕ → AbsVal → View
stored a k at n v =
    (if is_whole at n then with_slot a k (at / 8) (slot.Stored v) else bytes_stored a k at n)

-- the state at the next slot
abbrev pub next_pc : View → View
next_pc a = at_slot a (a.pc + 1)

-- ---- loads

-- any number of n bytes, sign-extended or not
abbrev pub loaded : Bool → ℕ → AbsVal
loaded signed n = Number (if signed then num_loaded_signed (8 * n) else num_loaded (8 * n))

-- bytes of a stack load a number, if all are set
abbrev pub loaded_bytes : List AbsSlot → ℕ → ℕ → Bool → Result AbsVal Fault
loaded_bytes stack at n signed = unless (read_fault stack at n) (Ok (loaded signed n))

-- a slot loads the value stored whole in it; an unset one is 30
abbrev pub loaded_whole : AbsSlot → Result AbsVal Fault → Result AbsVal Fault
loaded_whole (slot.Stored v) r = (if is_unset v then Err fault.Unset else Ok v)
loaded_whole s r = r

-- eight bytes at a multiple of 8 load the value stored whole
abbrev pub loaded_stack : List AbsSlot → ℕ → ℕ → Bool → Result AbsVal Fault
loaded_stack stack at n signed =
    (if is_whole at n && not signed
    then loaded_whole (slot_at stack (at / 8)) (loaded_bytes stack at n signed)
    else loaded_bytes stack at n signed)

-- from the context, a stack, or a map's entry
abbrev pub loaded_from : List Shape → View → AbsRegion → Num → ℕ → Bool → Result AbsVal Fault
loaded_from shapes a place.Context at n signed = unless (context_fault at n) (Ok (loaded signed n))
loaded_from shapes a (place.Stack k) at n signed =
    unless (stack_fault a k at n) (loaded_stack (stack_of a k) at.range.low n signed)
loaded_from shapes a (place.Entry m) at n signed =
    unless (entry_fault (slice_get shapes m) at n) (Ok (loaded signed n))

-- the value that a load through a pointer gives
abbrev pub load : List Shape → View → ℕ → Bool → AbsVal → ℤ → Result AbsVal Fault
load shapes a n signed (Frame offset l) by =
    unless (frame_fault a offset l by n) (Ok (loaded signed n))
load shapes a n signed (Pointer region offset) by =
    loaded_from shapes a region (offset_of offset by) n signed
load shapes a n signed v by = Err (wrong v)

-- ---- stores

-- a pointer to another stack frame than k
abbrev pub strays : ℕ → AbsVal → Bool
strays k (Pointer (place.Stack j) offset) = not (j == k)
strays k v = false

-- A value other than a number is stored in 8 bytes at one multiple of 8, and a pointer to a stack frame only into that
-- frame.
abbrev pub spilled : View → ℕ → Num → ℕ → AbsVal → Result View Fault
spilled a k at n v =
    (if n == 8 then unless (aligned_fault a k at 8)
    (if strays k v then Err fault.StackPointerStored else Ok (stored a k at.range.low 8 v))
    else Err fault.WrongOperand)

-- only so may a lookup result be stored untested
abbrev pub is_spill : Num → ℕ → Bool
is_spill at n = n == 8 && is_single at && at.range.low % 8 == 0

-- a number may be stored anywhere in a stack; other values need more checks
abbrev pub stored_in_stack : View → ℕ → Num → ℕ → AbsVal → Result View Fault
stored_in_stack a k at n (Number x) =
    unless (stack_fault a k at n) (Ok (stored a k at.range.low n (Number x)))
stored_in_stack a k at n (Lookup m) =
    (if is_spill at n then spilled a k at n (Lookup m) else Err fault.NotTested)
stored_in_stack a k at n v = spilled a k at n v

-- a map takes only numbers
abbrev pub stored_in_map : View → Option Shape → Num → ℕ → AbsVal → Result View Fault
stored_in_map a shape at n (Number x) = unless (entry_fault shape at n) (Ok a)
stored_in_map a shape at n v = Err (wrong v)

-- the fault of a store into read-only memory
abbrev pub read_only : AbsVal → Fault
read_only v = (if is_untested v then fault.NotTested else fault.WrongOperand)

-- into a stack or a map's entry; the context is read-only
abbrev pub stored_into : List Shape → View → AbsRegion → Num → ℕ → AbsVal → Result View Fault
stored_into shapes a place.Context at n v = Err (read_only v)
stored_into shapes a (place.Stack k) at n v = stored_in_stack a k at n v
stored_into shapes a (place.Entry m) at n v = stored_in_map a (slice_get shapes m) at n v

-- the state after a store through a pointer
abbrev pub store : List Shape → View → ℕ → AbsVal → AbsVal → ℤ → Result View Fault
store shapes a n Unset to by = Err fault.Unset
store shapes a n v (Pointer region offset) by =
    stored_into shapes a region (offset_of offset by) n v
store shapes a n v to by = Err (wrong_two to v)

-- ---- atomics

-- the old number goes into that register, if any
abbrev pub with_old : View → Option ℕ → ℕ → View
with_old a None n = a
with_old a (Some r) n = with_register a r (loaded false n)

-- on set bytes of a stack, or on a map's entry; the context is read-only
abbrev pub atomic_on : List Shape → View → ℕ → AbsRegion → Num → Result View Fault
atomic_on shapes a n place.Context at = Err fault.WrongOperand
atomic_on shapes a n (place.Stack k) at =
    unless (aligned_fault a k at n)
    (unless (read_fault (stack_of a k) at.range.low n) (Ok (bytes_stored a k at.range.low n)))
atomic_on shapes a n (place.Entry m) at = unless (entry_fault (slice_get shapes m) at n) (Ok a)

-- the fault of operands that aren't a pointer and numbers
abbrev pub operands_fault : AbsVal → AbsVal → AbsVal → Fault
operands_fault to v r0 =
    (if is_unset to || is_unset v || is_unset r0 then fault.Unset
    else (if is_untested to || is_untested v || is_untested r0
    then fault.NotTested else fault.WrongOperand))

-- an atomic through a pointer, with src's number and, for CMPXCHG, R0's
abbrev pub atomic :
    List Shape → View → ℕ → AtomicOp → ℕ → ℤ → AbsVal → AbsVal → AbsVal → Result View Fault
atomic shapes a n op src by (Pointer region offset) (Number x) (Number r0) =
    on (atomic_on shapes a n region (offset_of offset by))
    (λ b. Ok (with_old b (old_into op src) n))
atomic shapes a n op src by to v r0 = Err (operands_fault to v r0)
