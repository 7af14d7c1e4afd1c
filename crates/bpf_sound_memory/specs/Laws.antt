-- Soundness of the rules for loads, stores and atomics: no contained state meets a fault, and what comes next is as the
-- rules say.
use Rattle.std.specs.Prelude.{ℕ, ◌≡◌, ◌≢◌, ◌^◌, ◌<◌, Bool, length, Some, Ok, ℤ}
use Rattle.bpf_insn.specs.declared.insn.AtomicOp.{AtomicOp}
use Rattle.bpf_insn.specs.declared.insn.Insn.TheVariants as insn
use Rattle.bpf_insn.specs.declared.insn.Size.{Size}
use Rattle.bpf_insn.specs.declared.insn.Source.{Source}
use Rattle.bpf_regions.specs.declared.memory.Value.{Value}
use Rattle.bpf_words.specs.Word.{word_of}
use Rattle.bpf_model.specs.State.{Setting, State, put}
use Rattle.bpf_model.specs.Memory.{size_bytes, old_into}
use Rattle.bpf_model.specs.Memory as machine
use Rattle.bpf_model.specs.Step.{atomic_bytes}
use Rattle.bpf_model.specs.Run.{AreBytes, IsFine}
use Rattle.bpf_absval.specs.declared.value.AbsVal.{AbsVal}
use Rattle.bpf_absval.specs.Meaning.{Labels, Holds}
use Rattle.bpf_absstate.specs.View.{View}
use Rattle.bpf_absstate.specs.Contains.{HoldsIn}
use Rattle.bpf_rules.specs.Memory.{load, store, atomic, next_pc}
use Rattle.bpf_rules.specs.Covers.{InsnCovers}

-- a frame of bytes, and a context of 32 bytes
pub record IsInput (p : Setting) : Type 0 where
  pub context : length p.context ≡ 32
  pub frame_bytes : AreBytes p.frame
  pub context_bytes : AreBytes p.context

-- ---- for values

-- the next instruction, with a register set to a value that the rules allow there
abbrev pub Puts : Labels → View → State → ℕ → AbsVal → State → Type 0
Puts e a s dst u t = (y : Value) × (t ≡ put s dst y) × Holds e a.rooms u y

-- a load through a value
abbrev pub LoadHolds : Type 0
LoadHolds =
    (e : Labels) (a : View) (s : State) (size : Size) (signed : Bool) (dst : ℕ)
    (v u : AbsVal) (x : Value) (by : ℤ) →
    IsInput e.setting → HoldsIn e a s → word_of by < 2 ^ 64 → Holds e a.rooms v x →
    load e.setting.shapes a (size_bytes size) signed v by ≡ Ok u →
    IsFine e.setting.shapes
    (machine.load e.setting s (size_bytes size) signed dst x by) (Puts e a s dst u)

-- a store of a value through another
abbrev pub StoreHolds : Type 0
StoreHolds =
    (e : Labels) (a b : View) (s : State) (size : Size) (v to : AbsVal) (x t : Value) (by : ℤ) →
    HoldsIn e a s → word_of by < 2 ^ 64 → Holds e a.rooms v x → Holds e a.rooms to t →
    store e.setting.shapes a (size_bytes size) v to by ≡ Ok b →
    IsFine e.setting.shapes
    (machine.store e.setting s (size_bytes size) x t by) (HoldsIn e (next_pc b))

-- an atomic through a value; no operation writes R10
abbrev pub AtomicHolds : Type 0
AtomicHolds =
    (e : Labels) (a b : View) (s : State) (op : AtomicOp) (wide : Bool) (src : ℕ) (to v r0 : AbsVal)
    (t x y : Value) (by : ℤ) →
    HoldsIn e a s → old_into op src ≢ Some 10 → word_of by < 2 ^ 64 → Holds e a.rooms to t →
    Holds e a.rooms v x → Holds e a.rooms r0 y →
    atomic e.setting.shapes a (atomic_bytes wide) op src by to v r0 ≡ Ok b →
    IsFine e.setting.shapes
    (machine.atomic e.setting s (atomic_bytes wide) op src by t x y) (HoldsIn e (next_pc b))

-- ---- for instructions

-- loads
abbrev pub LoadCovers : Type 0
LoadCovers =
    (size : Size) (signed : Bool) (dst src : ℕ) (by : ℤ) →
    InsnCovers (insn.Load size signed dst src by)

-- stores
abbrev pub StoreCovers : Type 0
StoreCovers = (size : Size) (dst : ℕ) (by : ℤ) (s : Source) → InsnCovers (insn.Store size dst by s)

-- atomics
abbrev pub AtomicCovers : Type 0
AtomicCovers =
    (op : AtomicOp) (wide : Bool) (dst src : ℕ) (by : ℤ) →
    InsnCovers (insn.Atomic op wide dst src by)
