-- The examination of an instruction covers whatever it does.
use Rattle.std.proofs.Common.{◌≡◌, ◌≢◌, ◌+◌, ℕ, ℤ, Option, Some, None, Result, Ok, Bool, true, false, refl, sym, ◌∙◌, ap, subst, inl, inr, slice_get, slice_set, if◌then◌else◌}
use Rattle.bpf_insn.specs.declared.insn.Insn.{Insn}
use Rattle.bpf_insn.specs.declared.insn.Insn.TheVariants as insn
use Rattle.bpf_insn.specs.declared.insn.Source.{Source}
use Rattle.bpf_insn.specs.declared.insn.Source.TheVariants as source
use Rattle.bpf_insn.specs.Spelled.{IsSource}
use Rattle.bpf_words.specs.Word.{word_of}
use Rattle.bpf_regions.specs.declared.memory.Value.{Value}
use Rattle.bpf_regions.specs.declared.memory.Value.TheVariants as value
use Rattle.bpf_decode.specs.Flow.{IsJump, written}
use Rattle.bpf_decode.specs.Program.{Code, IsWhole}
use Rattle.bpf_decode.specs.Program as program
use Rattle.bpf_model.specs.Alu.{source_value as source_of, number as number_of}
use Rattle.bpf_model.specs.State.{Setting, State, Goes, put as put_state, goto, on as on_state, reg}
use Rattle.bpf_model.specs.Step.{next_at, next_of, target, jump, branch, put_number as put_number_state}
use Rattle.bpf_model.specs.Run.{IsFine}
use Rattle.bpf_absnum.specs.Number.{Num, InNum}
use Rattle.bpf_absnum.proofs.Instructions.{negated_keeps, extended_keeps, ordered_keeps}
use Rattle.bpf_absnum.proofs.Rows.{single_keeps}
use Rattle.bpf_absval.specs.declared.value.AbsVal.{AbsVal}
use Rattle.bpf_absval.specs.declared.value.AbsVal.TheVariants as abs
use Rattle.bpf_absval.specs.Laws.{placed}
use Rattle.bpf_absval.specs.Meaning.{Labels, Holds}
use Rattle.bpf_absval.proofs.Forgets.{value_labelled}
use Rattle.bpf_absstate.specs.Contains.{Contains, HoldsIn}
use Rattle.bpf_absstate.specs.View.{View, register, without_label, at_slot}
use Rattle.bpf_absstate.proofs.Followed.{going_holds}
use Rattle.bpf_absstate.proofs.Kept.{registers_hold}
use Rattle.bpf_absstate.proofs.Known.{forgetting_holds}
use Rattle.bpf_rules.specs.declared.fault.Fault.{Fault}
use Rattle.bpf_rules.specs.declared.ways.Ways.{Ways}
use Rattle.bpf_rules.specs.declared.ways.Ways.TheVariants.{One}
use Rattle.bpf_rules.specs.Branches.{Split, split}
use Rattle.bpf_rules.specs.Covers.{IsSetting, InWays, InsnCovers}
use Rattle.bpf_rules.specs.Examined.{landing, put, put_number, operated, ways, moved_to, branched, examined}
use Rattle.bpf_rules.specs.Operands.{number, source_value, alu, makes_label}
use Rattle.bpf_sound_flow.specs.Laws.{AluCovers, MovSxCovers, NegCovers, EndCovers, JumpCovers, JumpLongCovers, BranchCovers}
use Rattle.bpf_sound_flow.proofs.Alu.{Made, number_held, alu_holds}
use Rattle.bpf_sound_flow.proofs.Branches.{InWay, split_holds}
use Rattle.bpf_words.proofs.Immediates.{word_fits}
use Rattle.bpf_rules.proofs.Landings.{target_is}
use Rattle.bpf_rules.proofs.Outcomes.{okay-same, on_ok}
use Rattle.bpf_sound_flow.proofs.States.{puts}

abbrev pub okay : Ways → Result Ways Fault
okay w = Ok w

abbrev pub labels : Setting → (ℕ → ℕ) → Labels
labels p base = record { setting = p; base = base }

-- one step of an instruction, in its setting
abbrev pub Step : Insn → Type 0
Step i =
    (c : Code) (p : Setting) (a : View) (w : Ways) (s : State) → IsWhole c → IsSetting c p → program.Holds c.slots a.pc i → examined c.shapes i a ≡ okay w →
    (base : ℕ → ℕ) → HoldsIn (labels p base) a s → IsFine p.shapes (next_of p i s) (InWays p w)

pub covers : (i : Insn) → Step i → InsnCovers i
covers i step c p a w whole set at e s h =
    let found : slice_get p.code s.pc ≡ slice_get c.slots a.pc = ap (λ l. slice_get l s.pc) set.code ∙ ap (slice_get c.slots) h.holds.pc in
    subst (λ x. IsFine p.shapes x (InWays p w)) (sym (ap (λ o. next_at p o s) (found ∙ at))) (step c p a w s whole set at e h.base h.holds)

-- the next state is in the only successor
pub lands : (p : Setting) (b : View) (w : Ways) (t : State) (d : Labels) → d.setting ≡ p → HoldsIn d b t → okay (One b) ≡ okay w → InWays p w t
lands p b w t d here h e = subst (λ v. InWays p v t) (okay-same (One b) w e) (subst (λ q. Contains q b t) here (record { base = d.base; holds = h }))

pub lands_put : (p : Setting) (a b : View) (s : State) (w : Ways) (d : Labels) (n dst : ℕ) (v : AbsVal) (x : Value) → d.setting ≡ p → HoldsIn d b s → b.pc ≡ a.pc → dst ≢ 10 → Holds d b.rooms v x →
    put b n dst v ≡ okay w → InWays p w (record s { pc = s.pc + n; regs = slice_set s.regs dst x })
lands_put p a b s w d n dst v x here h pc other k e =
    subst (λ m. InWays p w (record s { pc = m + n; regs = slice_set s.regs dst x })) (sym h.pc)
    (lands p _ w _ d here (puts d b s (b.pc + n) dst v x h other k) e)

-- the register that an instruction writes isn't R10
pub not_pointer : (c : Code) (k r : ℕ) (i : Insn) → IsWhole c → program.Holds c.slots k i → ◌≡◌ {A = Option ℕ} (written i) (Some r) → r ≢ 10
not_pointer c k r i whole at e q = whole.registers k i at (e ∙ ap (λ (n : ℕ). Some n) q)

-- ---- arithmetic

source_holds : (e : Labels) (a : View) (s : State) (src : Source) → HoldsIn e a s → IsSource src → Holds e a.rooms (source_value a src) (source_of s src)
source_holds e a s (source.Imm i) h k = single_keeps (word_of i) (word_fits i k)
source_holds e a s (source.Reg r) h k = registers_hold e a s r h

lands_made : (p : Setting) (base : ℕ → ℕ) (a : View) (s : State) (w : Ways) (t : Bool) (dst : ℕ) (v : AbsVal) (x : Value) → HoldsIn (labels p base) a s → dst ≢ 10 →
    Made (labels p base) a.rooms a.pc t v x → put (if t then without_label a (a.pc + 1) else a) 1 dst v ≡ okay w → InWays p w (put_state s dst x)
lands_made p base a s w false dst v x h other k e = lands_put p a a s w (labels p base) 1 dst v x refl h refl other k e
lands_made p base a s w true dst v x h other k e =
    let new = value_labelled (a.pc + 1) k.1 (labels p base) a.rooms k.0 k.4 in
    let d : Labels = placed (labels p base) (a.pc + 1) k.1 in
    let b : View = without_label a (a.pc + 1) in
    let hv : Holds d b.rooms v x = subst (λ u. Holds d b.rooms u x) (sym k.2) (subst (Holds d b.rooms (abs.Frame k.0 (Some (record { label = a.pc + 1; distance = 0 })))) (sym k.3) new.1) in
    lands_put p a b s w d 1 dst v x refl (forgetting_holds (labels p base) d (a.pc + 1) a s new.0 h) refl other hv e

pub alu_covers : AluCovers
alu_covers op wide dst src = covers (insn.Alu op wide dst src) (λ c p a w s whole set at e base h.
    let d : Labels = labels p base in
    let r = on_ok (alu a.pc op wide (register a dst) (source_value a src)) (operated a op dst (register a dst) (source_value a src)) w e in
    let fits = whole.insns a.pc (insn.Alu op wide dst src) at in
    let m = alu_holds d a.rooms a.pc op wide (register a dst) (source_value a src) r.0 (reg s dst) (source_of s src) (registers_hold d a s dst h) (source_holds d a s src h fits.1) r.1 in
    subst (λ t. IsFine p.shapes (on_state t (λ v. Goes (put_state s dst v))) (InWays p w)) (sym m.1)
    (lands_made p base a s w (makes_label op (register a dst) (source_value a src)) dst r.0 m.0 h (not_pointer c a.pc dst _ whole at refl) m.2 r.2))

-- ---- operations on a number

pub number_is : (v : AbsVal) (n : Num) → number v ≡ Ok n → v ≡ abs.Number n
number_is (abs.Number m) n e = cc
number_is v n e = absurd (cc)

changes_number : (p : Setting) (a : View) (w : Ways) (s : State) (base : ℕ → ℕ) (dst : ℕ) (v : AbsVal) (x : Value) (f : Num → Num) (g : ℕ → ℕ) → HoldsIn (labels p base) a s → dst ≢ 10 →
    Holds (labels p base) a.rooms v x → ((n : Num) (y : ℕ) → InNum n y → InNum (f n) (g y)) → put_number a dst f v ≡ okay w →
    IsFine p.shapes (put_number_state s dst g (number_of x)) (InWays p w)
changes_number p a w s base dst v x f g h other k contains e =
    let r = on_ok (number v) (λ n. put a 1 dst (abs.Number (f n))) w e in
    let m = number_held (labels p base) a.rooms r.0 x (subst (λ u. Holds (labels p base) a.rooms u x) (number_is v r.0 r.1) k) in
    subst (λ y. IsFine p.shapes (put_number_state s dst g (number_of y)) (InWays p w)) (sym m.1)
    (lands_put p a a s w (labels p base) 1 dst (abs.Number (f r.0)) (value.Number (g m.0)) refl h refl other (contains r.0 m.0 m.2) r.2)

pub movsx_covers : MovSxCovers
movsx_covers from wide dst src = covers (insn.MovSx from wide dst src) (λ c p a w s whole set at e base h.
    changes_number p a w s base dst (register a src) (reg s src) _ _ h (not_pointer c a.pc dst _ whole at refl) (registers_hold (labels p base) a s src h) (extended_keeps from wide) e)

pub neg_covers : NegCovers
neg_covers wide dst = covers (insn.Neg wide dst) (λ c p a w s whole set at e base h.
    changes_number p a w s base dst (register a dst) (reg s dst) _ _ h (not_pointer c a.pc dst _ whole at refl) (registers_hold (labels p base) a s dst h) (negated_keeps wide) e)

pub end_covers : EndCovers
end_covers order width dst = covers (insn.End order width dst) (λ c p a w s whole set at e base h.
    changes_number p a w s base dst (register a dst) (reg s dst) _ _ h (not_pointer c a.pc dst _ whole at refl) (registers_hold (labels p base) a s dst h) (ordered_keeps order width) e)

-- ---- jumps

pub jump_is : (a : View) (s : State) (by : ℤ) (t : ℕ) → s.pc ≡ a.pc → IsJump a.pc by t → target s.pc by ≡ Some (landing a.pc by)
jump_is a s by t pc leads = ap (λ k. target k by) pc ∙ target_is a.pc t by leads

jumps : (p : Setting) (a : View) (w : Ways) (s : State) (base : ℕ → ℕ) (by : ℤ) (t : ℕ) → HoldsIn (labels p base) a s → IsJump a.pc by t → okay (One (at_slot a (landing a.pc by))) ≡ okay w →
    IsFine p.shapes (jump s (target s.pc by)) (InWays p w)
jumps p a w s base by t h leads e =
    subst (λ o. IsFine p.shapes (jump s o) (InWays p w)) (sym (jump_is a s by t h.pc leads))
    (lands p _ w _ (labels p base) refl (going_holds (labels p base) a s (landing a.pc by) h) e)

pub jump_covers : JumpCovers
jump_covers by = covers (insn.Jump by) (λ c p a w s whole set at e base h. let t = whole.jumps a.pc (insn.Jump by) by at refl in jumps p a w s base by t.0 h t.1 e)

pub jump_long_covers : JumpLongCovers
jump_long_covers by = covers (insn.JumpLong by) (λ c p a w s whole set at e base h. let t = whole.jumps a.pc (insn.JumpLong by) by at refl in jumps p a w s base by t.0 h t.1 e)

-- ---- conditional jumps

abbrev IsIn : Setting → Option View → State → Type 0
IsIn p None s = ⊥
IsIn p (Some b) s = Contains p b s

in_first : (p : Setting) (x y : Option View) (s : State) → IsIn p x s → InWays p (ways x y) s
in_first p None y s h = absurd h
in_first p (Some x) None s h = h
in_first p (Some x) (Some y) s h = inl h

in_second : (p : Setting) (x y : Option View) (s : State) → IsIn p y s → InWays p (ways x y) s
in_second p x None s h = absurd h
in_second p None (Some y) s h = h
in_second p (Some x) (Some y) s h = inr h

way_goes : (p : Setting) (base : ℕ → ℕ) (o : Option View) (s : State) (pc : ℕ) → InWay (labels p base) o s → IsIn p (moved_to pc o) (goto s pc)
way_goes p base None s pc h = absurd h
way_goes p base (Some b) s pc h = record { base = base; holds = going_holds (labels p base) b s pc h }

parts : (p : Setting) (a : View) (s : State) (base : ℕ → ℕ) (by : ℤ) (t : ℕ) (v : Split) (b : Bool) → s.pc ≡ a.pc → IsJump a.pc by t → InWay (labels p base) (if b then v.1 else v.0) s →
    IsFine p.shapes (branch s (target s.pc by) b) (InWays p (branched a by v))
parts p a s base by t v true pc leads h =
    subst (λ o. IsFine p.shapes (jump s o) (InWays p (branched a by v))) (sym (jump_is a s by t pc leads))
    (in_second p _ _ _ (way_goes p base v.1 s (landing a.pc by) h))
parts p a s base by t v false pc leads h =
    subst (λ n. InWays p (branched a by v) (goto s (n + 1))) (sym pc) (in_first p _ _ _ (way_goes p base v.0 s (a.pc + 1) h))

pub branch_covers : BranchCovers
branch_covers compare wide dst src by = covers (insn.Branch compare wide dst src by) (λ c p a w s whole set at e base h.
    let d : Labels = labels p base in
    let t = whole.jumps a.pc (insn.Branch compare wide dst src by) by at refl in
    let fits = whole.insns a.pc (insn.Branch compare wide dst src by) at in
    let r = on_ok (split a wide compare dst src) (λ v. okay (branched a by v)) w e in
    let k = split_holds d a s h set.frame wide compare dst src r.0 fits.1 r.1 in
    subst (λ o. IsFine p.shapes (on_state o (branch s (target s.pc by))) (InWays p w)) (sym k.1)
    (subst (λ u. IsFine p.shapes (branch s (target s.pc by) k.0) (InWays p u)) (okay-same _ w r.2) (parts p a s base by t.0 r.0 k.0 h.pc t.1 k.2)))
