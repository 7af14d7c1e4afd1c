-- A program's instructions have the bytes that spell the program as their code.
use Rattle.std.specs.Prelude.{◌≡◌, ◌≤◌, ◌+◌, ◌*◌, ℕ, List, [], ◌∷◌, ◌++◌, length, drop, slice_get, Option, Some, None, Ok, refl, suc, zero}
use Rattle.std.proofs.Common.{arith, sym, ◌∙◌, ap, subst, append_assoc}
use Rattle.std.proofs.lemmas.List.{append-nil, take-append-drop}
use Rattle.std.proofs.Math.Seq.{drop-nil}
use Rattle.std.proofs.Math.ListN.{drop_of_length-le}
use Rattle.bpf_insn.specs.declared.fields.Fields.{Fields}
use Rattle.bpf_insn.specs.declared.insn.Insn.{Insn}
use Rattle.bpf_insn.specs.declared.insn.Insn.TheVariants as insn
use Rattle.bpf_insn.specs.Slot.{slot_of}
use Rattle.bpf_insn.specs.Spelled.{fields_of, second_of, second_slot_of}
use Rattle.bpf_decode.specs.Flow.{size_of}
use Rattle.bpf_decode.specs.Code.{slot}
use Rattle.bpf_decode.specs.Program.{Code, Holds, Spells}
use Rattle.bpf_decode.proofs.Whole.{spelled_whole}
use Rattle.bpf_decode.proofs.Bytes.{first_bytes, half_bytes}
use Rattle.bpf_text.specs.Texts.{lines_of, bytes_of, second_bytes, assembled, disassembled}
use Rattle.bpf_text.proofs.Texts.{code_of, AreInsns, assembled-again}

-- an element, and the rest after it
head_of : {X : Type 0} (all : List X) (k : ℕ) (x : X) (r : List X) → drop k all ≡ x ∷ r → (slice_get all k ≡ Some x) × (drop (suc k) all ≡ r)
head_of [] zero x r e = absurd cc
head_of [] (suc k) x r e = absurd cc
head_of (y ∷ ys) zero x r e = (cc, cc)
head_of (y ∷ ys) (suc k) x r e = head_of ys k x r e

drop_more : {X : Type 0} (n k m : ℕ) (all : List X) → m ≡ k + n → drop n (drop k all) ≡ drop m all
drop_more n zero m all e = let same : n ≡ m = omega (arith, e) in ap (λ i. drop i all) same
drop_more n (suc k) m [] e = drop-nil n ∙ sym (drop-nil m)
drop_more n (suc k) zero (y ∷ ys) e = absurd (omega (arith, e))
drop_more n (suc k) (suc m) (y ∷ ys) e = drop_more n k m ys (omega (arith, e))

-- a slot, and the bytes after it
slot_then : (bytes : List ℕ) (k : ℕ) → drop (8 * k) bytes ≡ slot bytes k ++ drop (8 * (k + 1)) bytes
slot_then bytes k =
    let e : 8 * k + 8 ≡ 8 * (k + 1) = omega arith in
    sym (take-append-drop 8 (drop (8 * k) bytes)) ∙ ap (λ t. slot bytes k ++ t) (drop_more 8 (8 * k) (8 * (k + 1)) bytes (sym e))

-- the code from slot k on
abbrev Code-from : List ℕ → ℕ → List (Option Insn) → Type 0
Code-from bytes k rest = code_of rest ≡ drop (8 * k) bytes

-- the bytes of an instruction of one slot
one_slot : (i : Insn) → (size_of i ≡ 2 → ⊥) → bytes_of i ≡ slot_of (fields_of i)
one_slot (insn.LoadWide d v) other = absurd (other refl)
one_slot (insn.Alu op w d s) other = append-nil _
one_slot (insn.MovSx from w d s) other = append-nil _
one_slot (insn.Neg w d) other = append-nil _
one_slot (insn.End order width d) other = append-nil _
one_slot (insn.Jump x) other = append-nil _
one_slot (insn.JumpLong x) other = append-nil _
one_slot (insn.Branch c w d s x) other = append-nil _
one_slot (insn.Call helper) other = append-nil _
one_slot (insn.CallLocal x) other = append-nil _
one_slot insn.Exit other = append-nil _
one_slot (insn.Load z signed d s x) other = append-nil _
one_slot (insn.Store z d x s) other = append-nil _
one_slot (insn.Atomic op w d s x) other = append-nil _

second_by : (o : Option Fields) (second : List ℕ) → second_slot_of o ≡ Some second → second_bytes o ≡ second
second_by None second e = absurd cc
second_by (Some f) second e = cc

-- the bytes of a wide load's two slots
two_slots : (i : Insn) (second : List ℕ) → second_slot_of (second_of i) ≡ Some second → bytes_of i ≡ slot_of (fields_of i) ++ second
two_slots i second e = ap (λ t. slot_of (fields_of i) ++ t) (second_by (second_of i) second e)

-- the first of these slots isn't a second half
abbrev NotHalf : List (Option Insn) → Type 0
NotHalf [] = Unit {0}
NotHalf (None ∷ slots) = ⊥
NotHalf (Some i ∷ slots) = Unit {0}

-- one instruction and the code after it
joined_one : (bytes : List ℕ) (k : ℕ) (i : Insn) (rest : List ℕ) → bytes_of i ≡ slot bytes k → rest ≡ drop (8 * (k + 1)) bytes → bytes_of i ++ rest ≡ drop (8 * k) bytes
joined_one bytes k i rest b r = rw (b, r) (sym (slot_then bytes k))

joined_two : (bytes : List ℕ) (k : ℕ) (i : Insn) (rest : List ℕ) → bytes_of i ≡ slot bytes k ++ slot bytes (k + 1) → rest ≡ drop (8 * (k + 2)) bytes → bytes_of i ++ rest ≡ drop (8 * k) bytes
joined_two bytes k i rest b r =
    let e : k + 1 + 1 ≡ k + 2 = omega arith in
    let next : slot bytes (k + 1) ++ drop (8 * (k + 2)) bytes ≡ drop (8 * (k + 1)) bytes = subst (λ n. slot bytes (k + 1) ++ drop (8 * n) bytes ≡ drop (8 * (k + 1)) bytes) e (sym (slot_then bytes (k + 1))) in
    rw (b, r) (append_assoc (slot bytes k) (slot bytes (k + 1)) (drop (8 * (k + 2)) bytes) ∙ ap (λ t. slot bytes k ++ t) next ∙ sym (slot_then bytes k))

head_at : {X : Type 0} (all : List X) (k : ℕ) (x : X) (r : List X) → drop k all ≡ x ∷ r → (slice_get all k ≡ Some x) × (drop (k + 1) all ≡ r)
head_at all k x r e =
    let same : suc k ≡ k + 1 = omega arith in
    let h = head_of all k x r e in (h.0, subst (λ n. drop n all ≡ r) same h.1)

-- nothing is at the end
none_at : {X : Type 0} (all : List X) (k : ℕ) (x : X) → drop k all ≡ [] → slice_get all k ≡ Some x → ⊥
none_at [] zero x e f = absurd cc
none_at [] (suc k) x e f = absurd cc
none_at (y ∷ ys) zero x e f = absurd cc
none_at (y ∷ ys) (suc k) x e f = none_at ys k x e f

past_end : {X : Type 0} (all : List X) (k : ℕ) → drop k all ≡ [] → length all ≤ k
past_end [] k e = omega arith
past_end (y ∷ ys) zero e = absurd cc
past_end (y ∷ ys) (suc k) e = let h = past_end ys k e in omega (arith, h)

at_end : (c : Code) (bytes : List ℕ) (k : ℕ) → Spells bytes c → drop k c.slots ≡ [] → [] ≡ drop (8 * k) bytes
at_end c bytes k s e =
    let far = past_end c.slots k e in
    let many = s.table.len in
    let whole = s.well_formed.whole in
    sym (drop_of_length-le bytes (omega (arith, far, many, whole)))

-- an instruction with no second half after it takes one slot
alone : (c : Code) (bytes : List ℕ) (k : ℕ) (i : Insn) → Spells bytes c → Holds c.slots k i → (slice_get c.slots (k + 1) ≡ Some None → ⊥) → bytes_of i ≡ slot bytes k
alone c bytes k i s holds other =
    let w = spelled_whole bytes c s in
    one_slot i (λ two. other ((w.halves k).1 (i, holds, two))) ∙ first_bytes bytes c.slots k i s.table holds

after_half : (c : Code) (bytes : List ℕ) (k : ℕ) (rest : List (Option Insn)) → Spells bytes c → slice_get c.slots k ≡ Some None → drop (k + 1) c.slots ≡ rest → NotHalf rest
after_half c bytes k [] s half e = tt
after_half c bytes k (Some i ∷ rest) s half e = tt
after_half c bytes k (None ∷ rest) s half e =
    let w = spelled_whole bytes c s in
    let before = (w.halves k).0 (head_at c.slots (k + 1) None rest e).0 in
    absurd (let holds = before.1 in cc)

pair : (c : Code) (bytes : List ℕ) (k : ℕ) (i : Insn) → Spells bytes c → Holds c.slots k i → slice_get c.slots (k + 1) ≡ Some None → bytes_of i ≡ slot bytes k ++ slot bytes (k + 1)
pair c bytes k i s holds half =
    let h = half_bytes bytes c.slots k (Some i) s.table half holds in
    let same : h.0 ≡ i = let e = h.1 in cc in
    let second = subst (λ (j : Insn). second_slot_of (second_of j) ≡ Some (slot bytes (k + 1))) same h.2 in
    two_slots i (slot bytes (k + 1)) second ∙ ap (λ t. t ++ slot bytes (k + 1)) (first_bytes bytes c.slots k i s.table holds)

code_from : (c : Code) (bytes : List ℕ) (k : ℕ) (rest : List (Option Insn)) → Spells bytes c → drop k c.slots ≡ rest → NotHalf rest → code_of rest ≡ drop (8 * k) bytes
code_from c bytes k [] s e ahead = at_end c bytes k s e
code_from c bytes k (None ∷ rest) s e ahead = absurd ahead
code_from c bytes k (Some i ∷ []) s e ahead =
    let h = head_at c.slots k (Some i) [] e in
    joined_one bytes k i [] (alone c bytes k i s h.0 (none_at c.slots (k + 1) None h.1)) (at_end c bytes (k + 1) s h.1)
code_from c bytes k (Some i ∷ Some j ∷ rest) s e ahead =
    let h = head_at c.slots k (Some i) (Some j ∷ rest) e in
    let g = head_at c.slots (k + 1) (Some j) rest h.1 in
    joined_one bytes k i (code_of (Some j ∷ rest)) (alone c bytes k i s h.0 (λ half. absurd (let there = g.0 in cc))) (code_from c bytes (k + 1) (Some j ∷ rest) s h.1 tt)
code_from c bytes k (Some i ∷ None ∷ rest) s e ahead =
    let h = head_at c.slots k (Some i) (None ∷ rest) e in
    let g = head_at c.slots (k + 1) None rest h.1 in
    let same : k + 1 + 1 ≡ k + 2 = omega arith in
    let tail : drop (k + 2) c.slots ≡ rest = subst (λ n. drop n c.slots ≡ rest) same g.1 in
    joined_two bytes k i (code_of rest) (pair c bytes k i s h.0 g.0) (code_from c bytes (k + 2) rest s tail (after_half c bytes (k + 1) rest s g.0 g.1))

are_insns : (c : Code) (bytes : List ℕ) (k : ℕ) (rest : List (Option Insn)) → Spells bytes c → drop k c.slots ≡ rest → AreInsns rest
are_insns c bytes k [] s e = tt
are_insns c bytes k (None ∷ rest) s e = are_insns c bytes (k + 1) rest s (head_at c.slots k None rest e).1
are_insns c bytes k (Some i ∷ rest) s e =
    let h = head_at c.slots k (Some i) rest e in
    ((spelled_whole bytes c s).insns k i h.0, are_insns c bytes (k + 1) rest s h.1)

first_ahead : (c : Code) (bytes : List ℕ) (rest : List (Option Insn)) → Spells bytes c → c.slots ≡ rest → NotHalf rest
first_ahead c bytes [] s e = tt
first_ahead c bytes (Some i ∷ rest) s e = tt
first_ahead c bytes (None ∷ rest) s e =
    let begins = (spelled_whole bytes c s).first in
    let half = (head_at c.slots 0 None rest e).0 in absurd (let holds = begins.1 in cc)

-- the text of a program is assembled to the bytes that spell it
pub assembled-disassembled : (c : Code) (bytes : List ℕ) → Spells bytes c → assembled 1 [] (lines_of (disassembled c.slots)) ≡ Ok bytes
assembled-disassembled c bytes s =
    let code : code_of c.slots ≡ bytes = code_from c bytes 0 c.slots s refl (first_ahead c bytes c.slots s refl) in
    let whole = s.well_formed.whole in
    let short = s.well_formed.short in
    let room : length (code_of c.slots) ≤ 8 * 16384 = rw code (omega (arith, whole, short)) in
    assembled-again 1 [] c.slots (are_insns c bytes 0 c.slots s refl) (omega (arith, room)) ∙ ap Ok code
