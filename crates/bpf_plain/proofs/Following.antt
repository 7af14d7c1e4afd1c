-- In a plain program each successor is one step of a walk.
use Rattle.std.proofs.Common.{◌≡◌, ℕ, ◌+◌, refl, sym, ◌∙◌, ap, subst, Option, Some, None, false, ℤ, Result, Ok}
use Rattle.std.specs.Prelude.{◌==◌, if◌then◌else◌}
use Rattle.bpf_insn.specs.declared.insn.Insn.{Insn}
use Rattle.bpf_insn.specs.declared.insn.Insn.TheVariants as insn
use Rattle.bpf_insn.specs.declared.insn.Wide.TheVariants as wide
use Rattle.bpf_decode.specs.Flow.{IsJump, jump_of, size_of, ends}
use Rattle.bpf_decode.specs.Program.{Code, Holds, IsWhole}
use Rattle.bpf_absnum.specs.Number.{Num, num_single}
use Rattle.bpf_absnum.specs.Transfer.{num_negated, num_extended, num_ordered}
use Rattle.bpf_absval.specs.declared.value.AbsVal.{AbsVal}
use Rattle.bpf_absval.specs.declared.value.AbsVal.TheVariants.{Number}
use Rattle.bpf_absstate.specs.View.{View, register, with_register, at_slot, returned}
use Rattle.bpf_rules.specs.declared.fault.Fault.{Fault}
use Rattle.bpf_rules.specs.declared.ways.Ways.{Ways}
use Rattle.bpf_rules.specs.declared.ways.Ways.TheVariants.{Nowhere, One}
use Rattle.bpf_rules.specs.Operands.{number, source_value, alu}
use Rattle.bpf_rules.specs.Branches.{split}
use Rattle.bpf_rules.specs.Calls.{exit_number}
use Rattle.bpf_rules.specs.Faults.{on}
use Rattle.bpf_rules.specs.Examined.{examined, landing, put, put_number, before_put, operated, ways, moved_to, branched, exited}
use Rattle.bpf_plain.specs.Laws.{WaysFollow}
use Rattle.bpf_plain.specs.Standing.{EachWay, IsMain, IsNextOf}
use Rattle.bpf_plain.specs.Walks.{Follows, Falls, Jumps, IsPlainInsn}
use Rattle.bpf_plain.proofs.Chains.{Keeps, Keeps-self, Keeps-rest, WayKeeps, split_keep}
use Rattle.bpf_rules.proofs.Landings.{lands}
use Rattle.bpf_rules.proofs.Outcomes.{okay-same, on_ok}
use Rattle.bpf_plain.proofs.Standing.{before_keep}

abbrev done : Ways → Result Ways Fault
done w = Ok w

module _ (c : Code) (whole : IsWhole c) (a : View) (main : IsMain a) (i : Insn) (at : Holds c.slots a.pc i) where
  abbrev AreNext : Ways → Type 0
  AreNext w = EachWay w (IsNextOf c.slots a.pc)

  next_at : (b : View) (t : ℕ) → Keeps a b → Follows c.slots a.pc t → IsNextOf c.slots a.pc (at_slot b t)
  next_at b t k f = record { follows = f; main = k.count ∙ main }

  falls : (n : ℕ) → ends i ≡ false → size_of i ≡ n → Follows c.slots a.pc (a.pc + n)
  falls n go size = Falls i at go (ap (λ m. a.pc + m) (sym size))

  lands_there : (x : ℤ) → jump_of i ≡ Some x → Follows c.slots a.pc (landing a.pc x)
  lands_there x j = let r = whole.jumps a.pc i x at j in Jumps i x at j (subst (IsJump a.pc x) (lands a.pc r.0 x r.1) r.1)

  puts : (b : View) (n dst : ℕ) (v : AbsVal) (w : Ways) → Keeps a b → ends i ≡ false → size_of i ≡ n → put b n dst v ≡ Ok w → AreNext w
  puts b n dst v w k go size e =
      subst AreNext (okay-same _ w e)
      (next_at (with_register b dst v) (b.pc + n) (Keeps-rest a b _ refl refl k) (subst (λ pc. Follows c.slots a.pc (pc + n)) (sym k.pc) (falls n go size)))

  put_numbers : (dst : ℕ) (f : Num → Num) (v : AbsVal) (w : Ways) → ends i ≡ false → size_of i ≡ 1 → put_number a dst f v ≡ Ok w → AreNext w
  put_numbers dst f v w go size e =
      let r = on_ok (number v) (λ x. put a 1 dst (Number (f x))) w e in
      puts a 1 dst (Number (f r.0)) w (Keeps-self a) go size r.2

  jumps : (x : ℤ) (w : Ways) → jump_of i ≡ Some x → done (One (at_slot a (landing a.pc x))) ≡ done w → AreNext w
  jumps x w j e = subst AreNext (okay-same _ w e) (next_at a (landing a.pc x) (Keeps-self a) (lands_there x j))

  parts : (o q : Option View) (m n : ℕ) → WayKeeps a o → WayKeeps a q → Follows c.slots a.pc m → Follows c.slots a.pc n → AreNext (ways (moved_to m o) (moved_to n q))
  parts None None m n k l f g = tt
  parts (Some x) None m n k l f g = next_at x m k f
  parts None (Some y) m n k l f g = next_at y n l g
  parts (Some x) (Some y) m n k l f g = (next_at x m k f, next_at y n l g)

  exits : (w : Ways) (v : AbsVal) → on (exit_number v) (λ x. done (exited a)) ≡ done w → AreNext w
  exits w v e =
      let r = on_ok (exit_number v) (λ x. done (exited a)) w e in
      let over : exited a ≡ Nowhere = ap (λ k. if k == 1 then Nowhere else One (returned a)) main in
      subst AreNext (sym over ∙ okay-same (exited a) w r.2) tt

follow_insn : (c : Code) (whole : IsWhole c) (a : View) (main : IsMain a) (i : Insn) (at : Holds c.slots a.pc i) (w : Ways) → IsPlainInsn i → examined c.shapes i a ≡ Ok w →
    EachWay w (IsNextOf c.slots a.pc)
follow_insn c whole a main (insn.Alu op wide dst s) at w plain e =
    let r = on_ok (alu a.pc op wide (register a dst) (source_value a s)) (operated a op dst (register a dst) (source_value a s)) w e in
    puts c whole a main _ at (before_put a op (register a dst) (source_value a s)) 1 dst r.0 w (before_keep a op _ _) refl refl r.2
follow_insn c whole a main (insn.MovSx from wide dst src) at w plain e = put_numbers c whole a main _ at dst (num_extended from wide) (register a src) w refl refl e
follow_insn c whole a main (insn.Neg wide dst) at w plain e = put_numbers c whole a main _ at dst (num_negated wide) (register a dst) w refl refl e
follow_insn c whole a main (insn.End order width dst) at w plain e = put_numbers c whole a main _ at dst (num_ordered order width) (register a dst) w refl refl e
follow_insn c whole a main (insn.Jump x) at w plain e = jumps c whole a main _ at x w refl e
follow_insn c whole a main (insn.JumpLong x) at w plain e = jumps c whole a main _ at x w refl e
follow_insn c whole a main (insn.Branch compare wide dst s x) at w plain e =
    let i : Insn = insn.Branch compare wide dst s x in
    let r = on_ok (split a wide compare dst s) (λ y. done (branched a x y)) w e in
    let k = split_keep a wide compare dst s r.0 r.1 in
    subst (λ y. EachWay y (IsNextOf c.slots a.pc)) (okay-same (branched a x r.0) w r.2)
    (parts c whole a main i at r.0.0 r.0.1 (a.pc + 1) (landing a.pc x) k.0 k.1 (falls c whole a main i at 1 refl refl) (lands_there c whole a main i at x refl))
follow_insn c whole a main insn.Exit at w plain e = exits c whole a main insn.Exit at w (register a 0) e
follow_insn c whole a main (insn.LoadWide dst (wide.Number n)) at w plain e = puts c whole a main _ at a 2 dst (Number (num_single n)) w (Keeps-self a) refl refl e
follow_insn c whole a main i at w plain e = absurd plain

pub ways_follow : WaysFollow
ways_follow c i a w whole plain at main e = follow_insn c whole a main i at w (plain.operations a.pc i at) e
