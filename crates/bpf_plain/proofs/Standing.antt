-- Successors of a state at an instruction are at instructions.
use Rattle.std.proofs.Common.{◌≡◌, ℕ, zero, suc, ◌+◌, ◌-◌, ◌<◌, inl, inr, [], ◌∷◌, length, refl, sym, ◌∙◌, ap, subst, arith, Option, Some, None, true, false, Bool, slice_index_or, ℤ, Result, Ok, Err}
use Rattle.std.specs.Prelude.{◌==◌, nat_lt, if◌then◌else◌}
use Rattle.std.proofs.lemmas.List.Elements.{All-append, All-take}
use Rattle.bpf_insn.specs.declared.insn.Insn.{Insn}
use Rattle.bpf_insn.specs.declared.insn.Insn.TheVariants as insn
use Rattle.bpf_words.specs.Word.{word_of}
use Rattle.bpf_decode.specs.Flow.{jump_of, size_of, ends}
use Rattle.bpf_decode.specs.Program.{Code, Holds, Begins, IsWhole}
use Rattle.bpf_model.specs.Memory.{size_bytes}
use Rattle.bpf_model.specs.Step.{atomic_bytes}
use Rattle.bpf_absnum.specs.Number.{Num}
use Rattle.bpf_absnum.specs.Transfer.{num_negated, num_extended, num_ordered}
use Rattle.bpf_absval.specs.declared.value.AbsVal.{AbsVal}
use Rattle.bpf_absval.specs.declared.value.AbsVal.TheVariants.{Number}
use Rattle.bpf_absstate.specs.declared.frames.CallFrame.{CallFrame}
use Rattle.bpf_absstate.specs.View.{View, entry_view, register, with_register, at_slot, called, returned}
use Rattle.bpf_rules.specs.declared.fault.Fault.{Fault}
use Rattle.bpf_rules.specs.declared.ways.Ways.{Ways}
use Rattle.bpf_rules.specs.declared.ways.Ways.TheVariants.{Nowhere, One}
use Rattle.bpf_rules.specs.declared.fault.Fault.TheVariants as fault
use Rattle.bpf_rules.specs.Faults.{on}
use Rattle.bpf_rules.specs.Operands.{number, source_value, alu, makes_label, wide_value}
use Rattle.bpf_rules.specs.Memory.{load, store, atomic, next_pc}
use Rattle.bpf_rules.specs.Branches.{split}
use Rattle.bpf_rules.specs.Calls.{helped, answered, call, exit_number}
use Rattle.bpf_rules.specs.Examined.{landing, put, put_number, before_put, operated, ways, moved_to, branched, exited, compared}
use Rattle.bpf_plain.specs.Laws.{WaysStand, EntryStands}
use Rattle.bpf_plain.specs.Standing.{Stands, EachWay}
use Rattle.bpf_plain.proofs.Chains.{Keeps, Keeps-self, Keeps-label, Keeps-rest, Keeps-either, WayKeeps, Returns, returns_at, store_keep, atomic_keep, split_keep}
use Rattle.bpf_rules.proofs.Landings.{lands}
use Rattle.bpf_rules.proofs.Outcomes.{okay-same, refused-okay, either_ok, on_ok}

abbrev done : Ways → Result Ways Fault
done w = Ok w

-- forgetting a label keeps the chain
pub before_keep : (a : View) (op : _) (x y : AbsVal) → Keeps a (before_put a op x y)
before_keep a op x y = Keeps-either (makes_label op x y) a _ _ (Keeps-label a a (a.pc + 1) (Keeps-self a)) (Keeps-self a)

module _ (c : Code) (whole : IsWhole c) (a : View) (h : Stands c.slots a) where
  -- a state with that chain at an instruction
  stands_at : (b : View) (pc : ℕ) → Keeps a b → Begins c.slots pc → Stands c.slots (at_slot b pc)
  stands_at b pc k begins = record { begins = begins; returns = k.returns c.slots whole.first h.returns }

  onward : (i : Insn) → Holds c.slots a.pc i → ends i ≡ false → (n : ℕ) → size_of i ≡ n → Begins c.slots (a.pc + n)
  onward i at go n size = subst (λ m. Begins c.slots (a.pc + m)) size (whole.onward a.pc i at go)

  landing_begins : (i : Insn) (x : ℤ) → Holds c.slots a.pc i → jump_of i ≡ Some x → Begins c.slots (landing a.pc x)
  landing_begins i x at j = let r = whole.jumps a.pc i x at j in subst (Begins c.slots) (lands a.pc r.0 x r.1) r.2

  puts : (b : View) (n dst : ℕ) (v : AbsVal) (w : Ways) → Keeps a b → Begins c.slots (a.pc + n) → put b n dst v ≡ Ok w → EachWay w (Stands c.slots)
  puts b n dst v w k begins e =
      subst (λ y. EachWay y (Stands c.slots)) (okay-same _ w e)
      (stands_at (with_register b dst v) (b.pc + n) (Keeps-rest a b _ refl refl k) (subst (λ pc. Begins c.slots (pc + n)) (sym k.pc) begins))

  put_numbers : (i : Insn) (dst : ℕ) (f : Num → Num) (v : AbsVal) (w : Ways) → Holds c.slots a.pc i → ends i ≡ false → size_of i ≡ 1 →
      put_number a dst f v ≡ Ok w → EachWay w (Stands c.slots)
  put_numbers i dst f v w at go size e =
      let r = on_ok (number v) (λ x. put a 1 dst (Number (f x))) w e in
      puts a 1 dst (Number (f r.0)) w (Keeps-self a) (onward i at go 1 size) r.2

  goes : (b : View) (pc : ℕ) (w : Ways) → Keeps a b → Begins c.slots pc → done (One (at_slot b pc)) ≡ done w → EachWay w (Stands c.slots)
  goes b pc w k begins e = subst (λ y. EachWay y (Stands c.slots)) (okay-same (One (at_slot b pc)) w e) (stands_at b pc k begins)

  parts : (o q : Option View) (m n : ℕ) → WayKeeps a o → WayKeeps a q → Begins c.slots m → Begins c.slots n → EachWay (ways (moved_to m o) (moved_to n q)) (Stands c.slots)
  parts None None m n k l first second = tt
  parts (Some x) None m n k l first second = stands_at x m k first
  parts None (Some y) m n k l first second = stands_at y n l second
  parts (Some x) (Some y) m n k l first second = (stands_at x m k first, stands_at y n l second)

  calls : (x : ℤ) (w : Ways) → Holds c.slots a.pc (insn.CallLocal x) → on (call a (landing a.pc x)) (λ b. Ok (One b)) ≡ Ok w → EachWay w (Stands c.slots)
  calls x w at e =
      let r = on_ok (call a (landing a.pc x)) (λ b. Ok (One b)) w e in
      let i : Insn = insn.CallLocal x in
      let new : Stands c.slots (called a (landing a.pc x) (a.pc + 1)) = record {
        begins = landing_begins i x at refl;
        returns = All-append (λ f. Begins c.slots f.return_slot) a.frames _ h.returns (one_returns _ (onward i at refl 1 refl));
      } in
      elim (either_ok (nat_lt (length a.frames) 8) (Ok (called a (landing a.pc x) (a.pc + 1))) (Err fault.TooManyFrames) r.0 r.1) [
        | inl k ↦ subst (λ y. EachWay y (Stands c.slots)) (ap One (okay-same _ r.0 k) ∙ okay-same (One r.0) w r.2) new
        | inr k ↦ absurd (refused-okay fault.TooManyFrames r.0 k)
      ]
    where
      one_returns : (f : CallFrame) → Begins c.slots f.return_slot → Returns c.slots (f ∷ [])
      one_returns f begins zero d less = begins
      one_returns f begins (suc k) d less = absurd (omega (arith, less))

  back : Stands c.slots (returned a)
  back = record {
    begins = returns_at c.slots a.frames (length a.frames - 1) whole.first h.returns;
    returns = All-take (λ f. Begins c.slots f.return_slot) (length a.frames - 1) a.frames h.returns;
  }

  exits_by : (b : Bool) → EachWay (if b then Nowhere else One (returned a)) (Stands c.slots)
  exits_by true = tt
  exits_by false = back

  exits : (w : Ways) (v : AbsVal) → on (exit_number v) (λ x. Ok (exited a)) ≡ Ok w → EachWay w (Stands c.slots)
  exits w v e =
      let r = on_ok (exit_number v) (λ x. Ok (exited a)) w e in
      subst (λ y. EachWay y (Stands c.slots)) (okay-same (exited a) w r.2) (exits_by (length a.frames == 1))

pub ways_stand : WaysStand
ways_stand c (insn.Alu op wide dst s) a w whole at h e =
    let r = on_ok (alu a.pc op wide (register a dst) (source_value a s)) (operated a op dst (register a dst) (source_value a s)) w e in
    puts c whole a h (before_put a op (register a dst) (source_value a s)) 1 dst r.0 w (before_keep a op _ _) (onward c whole a h _ at refl 1 refl) r.2
ways_stand c (insn.MovSx from wide dst src) a w whole at h e = put_numbers c whole a h _ dst (num_extended from wide) (register a src) w at refl refl e
ways_stand c (insn.Neg wide dst) a w whole at h e = put_numbers c whole a h _ dst (num_negated wide) (register a dst) w at refl refl e
ways_stand c (insn.End order width dst) a w whole at h e = put_numbers c whole a h _ dst (num_ordered order width) (register a dst) w at refl refl e
ways_stand c (insn.Jump x) a w whole at h e = goes c whole a h a (landing a.pc x) w (Keeps-self a) (landing_begins c whole a h _ x at refl) e
ways_stand c (insn.JumpLong x) a w whole at h e = goes c whole a h a (landing a.pc x) w (Keeps-self a) (landing_begins c whole a h _ x at refl) e
ways_stand c (insn.Branch compare wide dst s x) a w whole at h e =
    let r = on_ok (split a wide compare dst s) (λ y. Ok (branched a x y)) w e in
    let k = split_keep a wide compare dst s r.0 r.1 in
    subst (λ y. EachWay y (Stands c.slots)) (okay-same (branched a x r.0) w r.2)
    (parts c whole a h r.0.0 r.0.1 (a.pc + 1) (landing a.pc x) k.0 k.1 (onward c whole a h _ at refl 1 refl) (landing_begins c whole a h _ x at refl))
ways_stand c (insn.Call helper) a w whole at h e =
    let r = on_ok (helped a (word_of helper)) (λ v. Ok (One (answered a v))) w e in
    goes c whole a h (at_slot (answered a r.0) a.pc) (a.pc + 1) w (Keeps-rest a a _ refl refl (Keeps-self a)) (onward c whole a h _ at refl 1 refl) r.2
ways_stand c (insn.CallLocal x) a w whole at h e = calls c whole a h x w at e
ways_stand c insn.Exit a w whole at h e = exits c whole a h w (register a 0) e
ways_stand c (insn.Load size signed dst src x) a w whole at h e =
    let r = on_ok (load c.shapes a (size_bytes size) signed (register a src) x) (put a 1 dst) w e in
    puts c whole a h a 1 dst r.0 w (Keeps-self a) (onward c whole a h _ at refl 1 refl) r.2
ways_stand c (insn.Store size dst x s) a w whole at h e =
    let r = on_ok (store c.shapes a (size_bytes size) (source_value a s) (register a dst) x) (λ b. Ok (One (next_pc b))) w e in
    let k = store_keep c.shapes a (size_bytes size) (source_value a s) (register a dst) x r.0 r.1 in
    goes c whole a h r.0 (r.0.pc + 1) w k (subst (λ pc. Begins c.slots (pc + 1)) (sym k.pc) (onward c whole a h _ at refl 1 refl)) r.2
ways_stand c (insn.Atomic op wide dst src x) a w whole at h e =
    let r = on_ok (atomic c.shapes a (atomic_bytes wide) op src x (register a dst) (register a src) (compared op a)) (λ b. Ok (One (next_pc b))) w e in
    let k = atomic_keep c.shapes a (atomic_bytes wide) op src x (register a dst) (register a src) (compared op a) r.0 r.1 in
    goes c whole a h r.0 (r.0.pc + 1) w k (subst (λ pc. Begins c.slots (pc + 1)) (sym k.pc) (onward c whole a h _ at refl 1 refl)) r.2
ways_stand c (insn.LoadWide dst v) a w whole at h e = puts c whole a h a 2 dst (wide_value v) w (Keeps-self a) (onward c whole a h _ at refl 2 refl) e

pub entry_stands : EntryStands
entry_stands c whole = record { begins = whole.first; returns = λ k d less. only k d less }
  where
    only : (k : ℕ) (d : CallFrame) → k < 1 → Begins c.slots (slice_index_or entry_view.frames k d).return_slot
    only zero d less = whole.first
    only (suc k) d less = absurd (omega (arith, less))
