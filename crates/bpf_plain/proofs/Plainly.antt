-- Plain programs are clear: few abstract states, and no fault.
use Rattle.std.proofs.Common.{◌≡◌, ℕ, zero, suc, ◌+◌, ◌^◌, ◌<◌, ◌≤◌, inl, inr, List, [], ◌∷◌, ◌++◌, length, refl, sym, ◌∙◌, ap, subst, arith, Option, Some, None, slice_get, slice_set, slice_index_or, false, true, Bool, ℤ, get_or-set_same, get_or-set_other, Result, Ok, length-set}
use Rattle.std.specs.Prelude.{◌==◌, if◌then◌else◌}
use Rattle.std.proofs.lemmas.Bool.{cases_eq}
use Rattle.bpf_insn.specs.declared.insn.AluOp.{AluOp}
use Rattle.bpf_insn.specs.declared.insn.AluOp.TheVariants as alu
use Rattle.bpf_insn.specs.declared.insn.Compare.{Compare}
use Rattle.bpf_insn.specs.declared.insn.Insn.{Insn}
use Rattle.bpf_insn.specs.declared.insn.Insn.TheVariants as insn
use Rattle.bpf_insn.specs.declared.insn.Source.{Source}
use Rattle.bpf_insn.specs.declared.insn.Source.TheVariants as source
use Rattle.bpf_insn.specs.declared.insn.Wide.TheVariants as wide
use Rattle.bpf_insn.specs.Spelled.{IsInsn, IsSource}
use Rattle.bpf_decode.specs.Flow.{jump_of, size_of, ends, IsJump}
use Rattle.bpf_decode.specs.Program.{Code, Holds, Begins, IsWhole}
use Rattle.bpf_words.specs.Word.{word_of}
use Rattle.bpf_absnum.specs.Number.{Num, num_single}
use Rattle.bpf_absnum.specs.Transfer.{num_negated, num_extended, num_ordered}
use Rattle.bpf_absval.specs.declared.value.AbsVal.{AbsVal}
use Rattle.bpf_absval.specs.declared.value.AbsVal.TheVariants.{Unset, Number}
use Rattle.bpf_absstate.specs.View.{View, entry_view, at_slot, register, with_register, without_label, returned}
use Rattle.bpf_rules.specs.declared.fault.Fault.{Fault}
use Rattle.bpf_rules.specs.declared.ways.Ways.{Ways}
use Rattle.bpf_rules.specs.declared.ways.Ways.TheVariants.{Nowhere, One, Two}
use Rattle.bpf_rules.specs.Faults.{on}
use Rattle.bpf_rules.specs.Operands.{source_value, alu, makes_label}
use Rattle.bpf_rules.specs.Branches.{split, number_ways, number_way, with_operands, with_source, compared_value}
use Rattle.bpf_rules.specs.Calls.{exit_number}
use Rattle.bpf_rules.specs.Examined.{examined, landing, put, put_number, operated, ways, moved_to, branched, exited}
use Rattle.bpf_decode.proofs.Whole.{begins_inside, same_insn}
use Rattle.bpf_plain.specs.Clear.{IsClear, Ends, Goes, Parts}
use Rattle.bpf_plain.specs.Paths.{IsPath}
use Rattle.bpf_plain.specs.Walks.{Follows, Falls, Jumps, IsPlain, IsPlainInsn, Reads, Writes, ReadsSource, WritesAt, is_conditional}
use Rattle.bpf_plain.proofs.Graph.{follows_begins, forward, exits_from, path_walk}
use Rattle.bpf_rules.proofs.Landings.{lands}
use Rattle.bpf_plain.proofs.Needed.{IsNumber, IsNeeded, IsReady}
use Rattle.bpf_plain.proofs.Rooms.{room, room_one, room_two, room_some, room_start}
use Rattle.std.proofs.lemmas.Option.{same_Some}

-- the last slot of a path
abbrev end_of : ℕ → List ℕ → ℕ
end_of k [] = k
end_of k (t ∷ rest) = end_of t rest

needed_reads : (slots : List (Option Insn)) (r k : ℕ) (rest : List ℕ) → IsNeeded slots r k rest → (i : Insn) × Holds slots (end_of k rest) i × Reads i r
unfolding IsNeeded
needed_reads slots r k [] h = h
needed_reads slots r k (t ∷ rest) h = needed_reads slots r t rest h.4

needed_path : (slots : List (Option Insn)) (r k : ℕ) (rest tail : List ℕ) → IsNeeded slots r k rest → IsPath slots (end_of k rest) tail → IsPath slots k (rest ++ tail)
unfolding IsNeeded IsPath
needed_path slots r k [] tail h g = g
needed_path slots r k (t ∷ rest) tail h g = (h.3, needed_path slots r t rest tail h.4 g)

needed_place : (k : ℕ) (rest tail : List ℕ) → slice_get (k ∷ (rest ++ tail)) (length rest) ≡ Some (end_of k rest)
needed_place k [] tail = refl
needed_place k (t ∷ rest) tail = needed_place t rest tail

abbrev no_place : Option ℕ
no_place = None

no_place-place : (n : ℕ) → no_place ≡ Some n → ⊥
no_place-place n e = cc

-- nothing before the last slot of the path writes the register
needed_unwritten : (slots : List (Option Insn)) (r k : ℕ) (rest tail : List ℕ) → IsNeeded slots r k rest → (m : ℕ) → m < length rest → WritesAt slots (k ∷ (rest ++ tail)) m r → ⊥
unfolding IsNeeded
needed_unwritten slots r k [] tail h m small w = absurd (omega (arith, small))
needed_unwritten slots r k (t ∷ rest) tail h zero small w =
    let at : Holds slots k w.insn = subst (λ x. Holds slots x w.insn) (sym (same_Some k w.slot w.place)) w.stands in
    h.2 (subst (λ i. Writes i r) (same_insn slots k w.insn h.0 at h.1) w.writes)
needed_unwritten slots r k (t ∷ rest) tail h (suc m) small w =
    needed_unwritten slots r t rest tail h.4 m (omega (arith, small)) (record { slot = w.slot; insn = w.insn; place = w.place; stands = w.stands; writes = w.writes })

needed_begins : (c : Code) → IsWhole c → (r k : ℕ) (rest : List ℕ) → IsNeeded c.slots r k rest → Begins c.slots (end_of k rest)
needed_begins c whole r k rest h = let i = needed_reads c.slots r k rest h in (i.0, i.1)

-- in a plain program nothing is needed at the start
nothing_needed : (c : Code) → IsWhole c → IsPlain c.slots → (r : ℕ) (rest : List ℕ) → IsNeeded c.slots r 0 rest → ⊥
nothing_needed c whole plain r rest h =
    let i = needed_reads c.slots r 0 rest h in
    let tail = exits_from c whole plain (end_of 0 rest) (i.0, i.1) in
    let walk = path_walk c.slots (rest ++ tail.0) (needed_path c.slots r 0 rest tail.0 h tail.1) in
    let w = plain.written (0 ∷ (rest ++ tail.0)) (length rest) r walk (record { slot = end_of 0 rest; insn = i.0; place = needed_place 0 rest tail.0; stands = i.1; reads = i.2 }) in
    needed_unwritten c.slots r 0 rest tail.0 h w.0 w.1 w.2

pub start_ready : (c : Code) → IsWhole c → IsPlain c.slots → IsReady c.slots entry_view
start_ready c whole plain = record { begins = whole.first; size = refl; main = refl; knows = λ r rest h. absurd (nothing_needed c whole plain r rest h) }

-- what is needed after an instruction that does not write it is needed before it
needed_before : (slots : List (Option Insn)) (r k t : ℕ) (i : Insn) (rest : List ℕ) → Holds slots k i → Follows slots k t → (Writes i r → ⊥) → IsNeeded slots r t rest → IsNeeded slots r k (t ∷ rest)
unfolding IsNeeded
needed_before slots r k t i rest at f unwritten needed = (i, at, unwritten, f, needed)

-- what an instruction reads is needed before it
needed_here : (slots : List (Option Insn)) (r k : ℕ) (i : Insn) → Holds slots k i → Reads i r → IsNeeded slots r k []
unfolding IsNeeded
needed_here slots r k i at reads = (i, at, reads)

-- ---- states with the numbers of another, and perhaps more

record HasMore (a b : View) : Type 0 where
  size : length b.registers ≡ length a.registers
  main : length b.frames ≡ length a.frames
  more : (r : ℕ) → IsNumber (register a r) → IsNumber (register b r)

has_itself : (a : View) → HasMore a a
has_itself a = record { size = refl; main = refl; more = λ r h. h }

has_register : (a b : View) (d : ℕ) (n : Num) → d < length b.registers → HasMore a b → HasMore a (with_register b d (Number n))
has_register a b d n small h = record {
  size = length-set b.registers d (Number n) ∙ h.size;
  main = h.main;
  more = λ r k. elim (cases_eq r d) [
    | inl same ↦ (n, subst (λ x. slice_index_or (slice_set b.registers d (Number n)) x Unset ≡ Number n) (sym same) (get_or-set_same b.registers d (Number n) Unset small))
    | inr other ↦ subst IsNumber (sym (get_or-set_other b.registers d r (Number n) Unset other)) (h.more r k)
  ];
}

abbrev done : Ways → Result Ways Fault
done w = Ok w

-- a successor: it is ready, and at a later slot
record GoesTo (slots : List (Option Insn)) (a x : View) : Type 0 where
  ready : IsReady slots x
  ahead : a.pc < x.pc

abbrev WayGoes : List (Option Insn) → View → Option View → Type 0
WayGoes slots a None = Unit {0}
WayGoes slots a (Some x) = GoesTo slots a x

-- the successors of a ready state
data Step (c : Code) (a : View) : Type 0 where
  Last : (i : Insn) → Holds c.slots a.pc i → examined c.shapes i a ≡ Ok Nowhere → Step c a
  Straight : (i : Insn) (x : View) → Holds c.slots a.pc i → examined c.shapes i a ≡ Ok (One x) → GoesTo c.slots a x → Step c a
  Parted : (i : Insn) (x y : View) → Holds c.slots a.pc i → examined c.shapes i a ≡ Ok (Two x y) → is_conditional (Some i) ≡ true → GoesTo c.slots a x → GoesTo c.slots a y → Step c a

-- operations on numbers give numbers
alu_moves : (pc : ℕ) (w : Bool) (x : AbsVal) (n : Num) → (k : Num) × (alu pc alu.Mov w x (Number n) ≡ Ok (Number k))
alu_moves pc w x n = (_, refl)

alu_computes : (pc : ℕ) (op : AluOp) (w : Bool) (m n : Num) → (k : Num) × (alu pc op w (Number m) (Number n) ≡ Ok (Number k))
alu_computes pc alu.Mov w m n = (_, refl)
alu_computes pc alu.Add true m n = (_, refl)
alu_computes pc alu.Add false m n = (_, refl)
alu_computes pc alu.Sub true m n = (_, refl)
alu_computes pc alu.Sub false m n = (_, refl)
alu_computes pc op w m n = (_, refl)

-- and make no label
no_label : (op : AluOp) (m n : Num) → makes_label op (Number m) (Number n) ≡ false
no_label alu.Add m n = refl
no_label alu.Sub m n = refl
no_label op m n = refl

module _ (c : Code) (whole : IsWhole c) (plain : IsPlain c.slots) (a : View) (ready : IsReady c.slots a) (i : Insn) (at : Holds c.slots a.pc i) where
  -- only register d is written
  goes_with : (d t : ℕ) (n : Num) → Follows c.slots a.pc t → d ≤ 10 → ((r : ℕ) → Writes i r → r ≡ d) → GoesTo c.slots a (at_slot (with_register a d (Number n)) t)
  goes_with d t n f small only =
      let has = has_register a a d n (let s = ready.size in omega (arith, s, small)) (has_itself a) in
      record {
        ready = record {
          begins = follows_begins c whole a.pc t f;
          size = has.size ∙ ready.size;
          main = ready.main;
          knows = λ r rest needed. elim (cases_eq r d) [
            | inl same ↦ (n, subst (λ x. slice_index_or (slice_set a.registers d (Number n)) x Unset ≡ Number n) (sym same) (get_or-set_same a.registers d (Number n) Unset (let s = ready.size in omega (arith, s, small))))
            | inr other ↦ has.more r (ready.knows r (t ∷ rest) (needed_before c.slots r a.pc t i rest at f (λ w. other (only r w)) needed))
          ];
        };
        ahead = forward c.slots plain a.pc t f;
      }

  goes_same : (b : View) (t : ℕ) → HasMore a b → Follows c.slots a.pc t → ((r : ℕ) → Writes i r → ⊥) → GoesTo c.slots a (at_slot b t)
  goes_same b t has f none =
      record {
        ready = record {
          begins = follows_begins c whole a.pc t f;
          size = has.size ∙ ready.size;
          main = has.main ∙ ready.main;
          knows = λ r rest needed. has.more r (ready.knows r (t ∷ rest) (needed_before c.slots r a.pc t i rest at f (none r) needed));
        };
        ahead = forward c.slots plain a.pc t f;
      }

  reads_number : (r : ℕ) → Reads i r → IsNumber (register a r)
  reads_number r reads = ready.knows r [] (needed_here c.slots r a.pc i at reads)

  source_number : (from : Source) → ((r : ℕ) → ReadsSource from r → Reads i r) → IsNumber (source_value a from)
  source_number (source.Imm n) reads = (num_single (word_of n), refl)
  source_number (source.Reg r) reads = reads_number r (reads r refl)

  compared_number : (w : Bool) (from : Source) → ((r : ℕ) → ReadsSource from r → Reads i r) → IsNumber (compared_value w a from)
  compared_number w (source.Imm n) reads = (_, refl)
  compared_number w (source.Reg r) reads = reads_number r (reads r refl)

  puts : (d n : ℕ) (m : Num) → ends i ≡ false → size_of i ≡ n → d ≤ 10 → ((r : ℕ) → Writes i r → r ≡ d) → examined c.shapes i a ≡ put a n d (Number m) → Step c a
  puts d n m go size small only e =
      Straight i (at_slot (with_register a d (Number m)) (a.pc + n)) at e
      (goes_with d (a.pc + n) m (Falls i at go (ap (λ k. a.pc + k) (sym size))) small only)

  puts_number : (d r : ℕ) (f : Num → Num) → Reads i r → ends i ≡ false → size_of i ≡ 1 → d ≤ 10 → ((t : ℕ) → Writes i t → t ≡ d) →
      examined c.shapes i a ≡ put_number a d f (register a r) → Step c a
  puts_number d r f reads go size small only e =
      let n = reads_number r reads in
      puts d 1 (f n.0) go size small only (e ∙ ap (put_number a d f) n.1)

  jumps : (x : ℤ) → jump_of i ≡ Some x → ((r : ℕ) → Writes i r → ⊥) → examined c.shapes i a ≡ done (One (at_slot a (landing a.pc x))) → Step c a
  jumps x j unwritten e =
      let to = whole.jumps a.pc i x at j in
      Straight i (at_slot a (landing a.pc x)) at e (goes_same a (landing a.pc x) (has_itself a) (Jumps i x at j (subst (IsJump a.pc x) (lands a.pc to.0 x to.1) to.1)) unwritten)

  -- both branches, one of them, or none
  parted : (o q : Option View) (m n : ℕ) → is_conditional (Some i) ≡ true → WayGoes c.slots a (moved_to m o) → WayGoes c.slots a (moved_to n q) →
      examined c.shapes i a ≡ done (ways (moved_to m o) (moved_to n q)) → Step c a
  parted None None m n one g h e = Last i at e
  parted (Some x) None m n one g h e = Straight i (at_slot x m) at e g
  parted None (Some y) m n one g h e = Straight i (at_slot y n) at e h
  parted (Some x) (Some y) m n one g h e = Parted i (at_slot x m) (at_slot y n) at e one g h

  source_more : (b : View) (from : Source) (y : Num) → IsSource from → HasMore a b → HasMore a (with_source b from y)
  source_more b (source.Imm n) y valid h = h
  source_more b (source.Reg r) y valid h = has_register a b r y (let s = ready.size in let t = h.size in omega (arith, s, t, valid)) h

  way_goes : (d t : ℕ) (from : Source) (o : Option (Num × Num)) → d ≤ 10 → IsSource from → Follows c.slots a.pc t → ((r : ℕ) → Writes i r → ⊥) →
      WayGoes c.slots a (moved_to t (with_operands a d from o))
  way_goes d t from None small valid f none = tt
  way_goes d t from (Some p) small valid f none =
      goes_same (with_source (with_register a d (Number p.0)) from p.1) t
      (source_more (with_register a d (Number p.0)) from p.1 valid (has_register a a d p.0 (let s = ready.size in omega (arith, s, small)) (has_itself a))) f none

  branches : (w : Bool) (k : Compare) (d : ℕ) (from : Source) (x : ℤ) (m n : Num) → d ≤ 10 → IsSource from → jump_of i ≡ Some x → ends i ≡ false → size_of i ≡ 1 →
      is_conditional (Some i) ≡ true → ((r : ℕ) → Writes i r → ⊥) →
      examined c.shapes i a ≡ done (branched a x (number_ways a w k d from m n)) → Step c a
  branches w k d from x m n small valid j go size one none e =
      let to = whole.jumps a.pc i x at j in
      parted (number_way a w k false d from m n) (number_way a w k true d from m n) (a.pc + 1) (landing a.pc x) one
      (way_goes d (a.pc + 1) from _ small valid (Falls i at go (ap (λ q. a.pc + q) (sym size))) none)
      (way_goes d (landing a.pc x) from _ small valid (Jumps i x at j (subst (IsJump a.pc x) (lands a.pc to.0 x to.1) to.1)) none) e

split_numbers : (a : View) (w : Bool) (k : Compare) (d : ℕ) (from : Source) (m n : Num) → register a d ≡ Number m → compared_value w a from ≡ Number n →
    split a w k d from ≡ Ok (number_ways a w k d from m n)
split_numbers a true k d from m n e g = rw (e, g) refl
split_numbers a false k d from m n e g = rw (e, g) refl

operated_numbers : (a : View) (op : AluOp) (d : ℕ) (x y v : AbsVal) → makes_label op x y ≡ false → operated a op d x y v ≡ put a 1 d v
operated_numbers a op d x y v e = ap (λ b. put (if b then without_label a (a.pc + 1) else a) 1 d v) e

steps : (c : Code) (whole : IsWhole c) (plain : IsPlain c.slots) (a : View) (i : Insn) → IsReady c.slots a → Holds c.slots a.pc i → IsInsn i → IsPlainInsn i → Step c a
steps c whole plain a (insn.Alu alu.Mov w d from) ready at valid allowed =
    let i : Insn = insn.Alu alu.Mov w d from in
    let y = source_number c whole plain a ready i at from (λ r h. h) in
    let k = alu_moves a.pc w (register a d) y.0 in
    puts c whole plain a ready i at d 1 k.0 refl refl valid.0 (λ r h. sym (same_Some d r h))
    (ap (λ v. on (alu a.pc alu.Mov w (register a d) v) (operated a alu.Mov d (register a d) v)) y.1 ∙ ap (λ v. on v (operated a alu.Mov d (register a d) (Number y.0))) k.1)
steps c whole plain a (insn.Alu op w d from) ready at valid allowed = operates op from valid at (inl refl) (λ r h. inr h) (λ r h. sym (same_Some d r h))
  where
    operates : (op : AluOp) (from : Source) → IsInsn (insn.Alu op w d from) → (at : Holds c.slots a.pc (insn.Alu op w d from)) → Reads (insn.Alu op w d from) d → ((r : ℕ) → ReadsSource from r → Reads (insn.Alu op w d from) r) →
        ((r : ℕ) → Writes (insn.Alu op w d from) r → r ≡ d) → Step c a
    operates op from valid at reads reads2 only =
        let i : Insn = insn.Alu op w d from in
        let x = reads_number c whole plain a ready i at d reads in
        let y = source_number c whole plain a ready i at from reads2 in
        let k = alu_computes a.pc op w x.0 y.0 in
        puts c whole plain a ready i at d 1 k.0 refl refl valid.0 only
        (ap (λ u. on (alu a.pc op w u (source_value a from)) (operated a op d u (source_value a from))) x.1
        ∙ ap (λ v. on (alu a.pc op w (Number x.0) v) (operated a op d (Number x.0) v)) y.1
        ∙ ap (λ v. on v (operated a op d (Number x.0) (Number y.0))) k.1
        ∙ operated_numbers a op d (Number x.0) (Number y.0) (Number k.0) (no_label op x.0 y.0))
steps c whole plain a (insn.MovSx from w d r) ready at valid allowed =
    puts_number c whole plain a ready (insn.MovSx from w d r) at d r (num_extended from w) refl refl refl valid.1 (λ t h. sym (same_Some d t h)) refl
steps c whole plain a (insn.Neg w d) ready at valid allowed =
    puts_number c whole plain a ready (insn.Neg w d) at d d (num_negated w) refl refl refl valid (λ t h. sym (same_Some d t h)) refl
steps c whole plain a (insn.End order width d) ready at valid allowed =
    puts_number c whole plain a ready (insn.End order width d) at d d (num_ordered order width) refl refl refl valid (λ t h. sym (same_Some d t h)) refl
steps c whole plain a (insn.LoadWide d (wide.Number n)) ready at valid allowed =
    puts c whole plain a ready (insn.LoadWide d (wide.Number n)) at d 2 (num_single n) refl refl valid.0 (λ t h. sym (same_Some d t h)) refl
steps c whole plain a (insn.Jump x) ready at valid allowed = jumps c whole plain a ready (insn.Jump x) at x refl (λ r h. no_place-place r h) refl
steps c whole plain a (insn.JumpLong x) ready at valid allowed = jumps c whole plain a ready (insn.JumpLong x) at x refl (λ r h. no_place-place r h) refl
steps c whole plain a (insn.Branch compare w d from x) ready at valid allowed =
    let i : Insn = insn.Branch compare w d from x in
    let m = reads_number c whole plain a ready i at d (inl refl) in
    let n = compared_number c whole plain a ready i at w from (λ r h. inr h) in
    branches c whole plain a ready i at w compare d from x m.0 n.0 valid.0 valid.1 refl refl refl refl (λ r h. no_place-place r h)
    (ap (λ s. on s (λ q. done (branched a x q))) (split_numbers a w compare d from m.0 n.0 m.1 n.1))
steps c whole plain a insn.Exit ready at valid allowed =
    let n = reads_number c whole plain a ready insn.Exit at 0 refl in
    Last insn.Exit at (ap (λ v. on (exit_number v) (λ x. done (exited a))) n.1 ∙ ap (λ k. done (if k == 1 then Nowhere else One (returned a))) ready.main)
steps c whole plain a i ready at valid allowed = absurd allowed

clear_by : (c : Code) (whole : IsWhole c) (plain : IsPlain c.slots) (fuel : ℕ) (a : View) → length c.slots ≤ a.pc + fuel → IsReady c.slots a → IsClear c a (room c.slots a.pc)
clear_by c whole plain zero a le ready = let w = begins_inside c.slots a.pc ready.begins in absurd (omega (arith, le, w))
clear_by c whole plain (suc fuel) a le ready =
    let b = ready.begins in
    elim (steps c whole plain a b.0 ready b.1 (whole.insns a.pc b.0 b.1) (plain.operations a.pc b.0 b.1)) [
      | Last i at e ↦ Ends a (room c.slots a.pc) i at e (room_some c.slots a.pc (begins_inside c.slots a.pc b))
      | Straight i x at e g ↦
          Goes a (room c.slots a.pc) i x (room c.slots x.pc) at e (clear_by c whole plain fuel x (let h = g.ahead in omega (arith, le, h)) g.ready)
          (room_one c.slots a.pc x.pc g.ahead (begins_inside c.slots x.pc g.ready.begins))
      | Parted i x y at e one g h ↦
          Parts a (room c.slots a.pc) i x y (room c.slots x.pc) (room c.slots y.pc) at e
          (clear_by c whole plain fuel x (let k = g.ahead in omega (arith, le, k)) g.ready) (clear_by c whole plain fuel y (let k = h.ahead in omega (arith, le, k)) h.ready)
          (room_two c.slots a.pc x.pc y.pc (Some i) at one g.ahead h.ahead (begins_inside c.slots x.pc g.ready.begins) (begins_inside c.slots y.pc h.ready.begins))
    ]

pub IsClear-le : (c : Code) (a : View) (m n : ℕ) → m ≤ n → IsClear c a m → IsClear c a n
IsClear-le c a m n less (Ends a2 m2 i at e le) = Ends a n i at e (omega (arith, le, less))
IsClear-le c a m n less (Goes a2 m2 i x k at e h le) = Goes a n i x k at e h (omega (arith, le, less))
IsClear-le c a m n less (Parts a2 m2 i x y k l at e h g le) = Parts a n i x y k l at e h g (omega (arith, le, less))

pub plain_clear : (c : Code) → IsWhole c → IsPlain c.slots → IsClear c entry_view (2 ^ 22)
plain_clear c whole plain =
    IsClear-le c entry_view (room c.slots 0) (2 ^ 22) (room_start c.slots plain.few whole.short)
    (clear_by c whole plain (length c.slots) entry_view (omega arith) (start_ready c whole plain))
