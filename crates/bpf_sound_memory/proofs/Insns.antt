-- Loads, stores and atomics as instructions.
use Rattle.std.specs.Prelude.{ℤ, pos, negsuc, FitsSigned, slice_get}
use Rattle.std.proofs.Common.{ℕ, ◌≡◌, ◌≢◌, ◌^◌, ◌<◌, cond, Some, None, Ok, sym, ap, subst, ◌∙◌, arith, w16}
use Rattle.std.proofs.lemmas.Int.{ints}
use Rattle.bpf_insn.specs.declared.insn.AtomicOp.{AtomicOp}
use Rattle.bpf_insn.specs.declared.insn.AtomicOp.TheVariants as atomic_op
use Rattle.bpf_insn.specs.declared.insn.Insn.{Insn}
use Rattle.bpf_insn.specs.declared.insn.Insn.TheVariants as insn
use Rattle.bpf_insn.specs.declared.insn.Source.{Source}
use Rattle.bpf_insn.specs.declared.insn.Source.TheVariants as source
use Rattle.bpf_insn.specs.Spelled.{IsSource}
use Rattle.bpf_words.specs.Word.{word_of}
use Rattle.bpf_decode.specs.Flow.{fetches}
use Rattle.bpf_decode.specs.Program.{Code, IsWhole}
use Rattle.bpf_decode.specs.Program as program
use Rattle.bpf_model.specs.Alu.{source_value as source_of}
use Rattle.bpf_model.specs.Memory.{size_bytes, old_into, compared as compared_value}
use Rattle.bpf_model.specs.Run.{IsFine}
use Rattle.bpf_model.specs.State.{Setting, State, Next, reg}
use Rattle.bpf_model.specs.Step.{next, next_at, next_of, atomic_bytes}
use Rattle.bpf_model.proofs.Within.{IsFine-weaken}
use Rattle.bpf_absnum.proofs.Rows.{single_keeps}
use Rattle.bpf_absval.specs.Meaning.{Labels, Holds}
use Rattle.bpf_absstate.specs.View.{View, register, with_register}
use Rattle.bpf_absstate.proofs.Kept.{registers_hold}
use Rattle.bpf_absstate.specs.Contains.{Contains, HoldsIn}
use Rattle.bpf_rules.specs.declared.ways.Ways.{Ways}
use Rattle.bpf_rules.specs.declared.ways.Ways.TheVariants.{One}
use Rattle.bpf_rules.specs.Covers.{IsSetting, InWays}
use Rattle.bpf_rules.specs.Examined.{put, examined, compared}
use Rattle.bpf_rules.specs.Memory.{load, store, atomic, next_pc}
use Rattle.bpf_rules.specs.Operands.{source_value}
use Rattle.bpf_sound_memory.specs.Laws.{IsInput, Puts, LoadCovers, StoreCovers, AtomicCovers}
use Rattle.bpf_sound_memory.proofs.Atomics.{atomic_holds}
use Rattle.bpf_sound_memory.proofs.Loads.{load_holds}
use Rattle.bpf_words.proofs.Immediates.{word_fits}
use Rattle.bpf_rules.proofs.Outcomes.{on_ok, okay-same}
use Rattle.bpf_sound_memory.proofs.States.{puts}
use Rattle.bpf_sound_memory.proofs.Stores.{store_holds}

-- offsets as words
offset_fits : (z : ℤ) → FitsSigned w16 z → word_of z < 2 ^ 64
offset_fits (pos n) h = omega (arith, ints, h)
offset_fits (negsuc n) h = omega arith

-- the instruction at the state's slot is executed
performed : (c : Code) (p : Setting) (a : View) (s : State) (i : Insn) → IsSetting c p → program.Holds c.slots a.pc i → Contains p a s → next p s ≡ next_of p i s
performed c p a s i setting here h =
    ap (λ o. next_at p o s) (ap (λ k. slice_get p.code k) h.holds.pc ∙ ap (λ l. slice_get l a.pc) setting.code ∙ here)

input : (c : Code) (p : Setting) → IsSetting c p → IsInput p
input c p h = record { context = h.context; frame_bytes = h.frame_bytes; context_bytes = h.context_bytes }

-- the only successor
leads_on : (p : Setting) (base : ℕ → ℕ) (b : View) (w : Ways) (x : Next) → One b ≡ w → IsFine p.shapes x (HoldsIn (record { setting = p; base = base }) b) → IsFine p.shapes x (InWays p w)
leads_on p base b w x same h =
    subst (λ v. IsFine p.shapes x (InWays p v)) same
    (IsFine-weaken p.shapes x (HoldsIn (record { setting = p; base = base }) b) (InWays p (One b)) (λ t k. record { base = base; holds = k }) h)

pub load_covers : LoadCovers
load_covers size signed dst src by c p a v whole setting here ok s h =
    let i = insn.Load size signed dst src by in
    let e : Labels = record { setting = p; base = h.base } in
    let known = subst (λ l. examined l i a ≡ Ok v) (sym setting.shapes) ok in
    let parts = on_ok (load p.shapes a (size_bytes size) signed (register a src) by) (put a 1 dst) v known in
    let b = next_pc (with_register a dst parts.0) in
    let fine = load_holds e a s size signed dst (register a src) parts.0 (reg s src) by (input c p setting) h.holds (offset_fits by (whole.insns a.pc i here).3) (registers_hold e a s src h.holds) parts.1 in
    let moves = λ (t : State) (k : Puts e a s dst parts.0 t). subst (HoldsIn e b) (sym k.1) (puts e a s dst parts.0 k.0 h.holds (λ same. whole.registers a.pc i here (ap Some same)) k.2) in
    subst (λ x. IsFine p.shapes x (InWays p v)) (sym (performed c p a s i setting here h))
    (leads_on p h.base b v (next_of p i s) (okay-same (One b) v parts.2) (IsFine-weaken p.shapes (next_of p i s) (Puts e a s dst parts.0) (HoldsIn e b) moves fine))

source_holds : (e : Labels) (a : View) (s : State) (o : Source) → HoldsIn e a s → IsSource o → Holds e a.rooms (source_value a o) (source_of s o)
source_holds e a s (source.Imm z) h fits = single_keeps (word_of z) (word_fits z fits)
source_holds e a s (source.Reg r) h fits = registers_hold e a s r h

pub store_covers : StoreCovers
store_covers size dst by o c p a v whole setting here ok s h =
    let i = insn.Store size dst by o in
    let e : Labels = record { setting = p; base = h.base } in
    let is = whole.insns a.pc i here in
    let known = subst (λ l. examined l i a ≡ Ok v) (sym setting.shapes) ok in
    let parts = on_ok (store p.shapes a (size_bytes size) (source_value a o) (register a dst) by) (λ b. Ok (One (next_pc b))) v known in
    subst (λ x. IsFine p.shapes x (InWays p v)) (sym (performed c p a s i setting here h))
    (leads_on p h.base (next_pc parts.0) v (next_of p i s) (okay-same (One (next_pc parts.0)) v parts.2)
    (store_holds e a parts.0 s size (source_value a o) (register a dst) (source_of s o) (reg s dst) by h.holds (offset_fits by is.2) (source_holds e a s o h.holds is.1) (registers_hold e a s dst h.holds) parts.1))

-- the value that CMPXCHG compares
compared_holds : (e : Labels) (a : View) (s : State) (op : AtomicOp) → HoldsIn e a s → Holds e a.rooms (compared op a) (compared_value op (reg s 0))
compared_holds e a s atomic_op.Cmpxchg h = registers_hold e a s 0 h
compared_holds e a s op h = single_keeps 0 (omega arith)

not_pointer : (op : AtomicOp) (src : ℕ) → cond (fetches op) (Some src) None ≢ Some 10 → old_into op src ≢ Some 10
not_pointer atomic_op.Cmpxchg src h = λ same. absurd (cc)
not_pointer op src h = h

pub atomic_covers : AtomicCovers
atomic_covers op wide dst src by c p a v whole setting here ok s h =
    let i = insn.Atomic op wide dst src by in
    let e : Labels = record { setting = p; base = h.base } in
    let known = subst (λ l. examined l i a ≡ Ok v) (sym setting.shapes) ok in
    let parts = on_ok (atomic p.shapes a (atomic_bytes wide) op src by (register a dst) (register a src) (compared op a)) (λ b. Ok (One (next_pc b))) v known in
    subst (λ x. IsFine p.shapes x (InWays p v)) (sym (performed c p a s i setting here h))
    (leads_on p h.base (next_pc parts.0) v (next_of p i s) (okay-same (One (next_pc parts.0)) v parts.2)
    (atomic_holds e a parts.0 s op wide src (register a dst) (register a src) (compared op a) (reg s dst) (reg s src) (compared_value op (reg s 0)) by h.holds
    (not_pointer op src (whole.registers a.pc i here)) (offset_fits by (whole.insns a.pc i here).2) (registers_hold e a s dst h.holds) (registers_hold e a s src h.holds) (compared_holds e a s op h.holds) parts.1))
