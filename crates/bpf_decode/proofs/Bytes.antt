-- The bytes of a program, slot by slot.
use Rattle.std.proofs.Common.{◌≡◌, ℕ, zero, suc, ◌+◌, ◌*◌, ◌<◌, ◌≤◌, List, ◌++◌, length, get_or, take, drop, Option, Some, None, Bool, true, false, cond, refl, sym, ap, subst, ◌∙◌, arith}
use Rattle.std.specs.Prelude.{slice_get, nat_lt, unwrap_or, ◌-◌}
use Rattle.std.proofs.Math.Seq.{take-add}
use Rattle.std.proofs.lemmas.List.{take_all, same_lists}
use Rattle.std.proofs.lemmas.Option.{same_Some, slice_get-get_or}
use Rattle.bpf_insn.specs.declared.insn.Insn.{Insn}
use Rattle.bpf_insn.specs.declared.insn.Insn.TheVariants as insn
use Rattle.bpf_insn.specs.Slot.{slot_of}
use Rattle.bpf_insn.specs.Spelled.{fields_of, second_of, second_slot_of}
use Rattle.bpf_insn.proofs.Slotted.{one_spelled}
use Rattle.bpf_regions.specs.declared.maps.Shape.{Shape}
use Rattle.bpf_decode.specs.Flow.{size_of}
use Rattle.bpf_decode.specs.Code.{count, slot, slot_if, starts, At}
use Rattle.bpf_decode.specs.Program.{Code, IsEntry, IsTable, Holds}
use Rattle.bpf_decode.proofs.Whole.{halves_into, first_start}

-- the bytes of a slot that starts an instruction
pub first_bytes : (bytes : List ℕ) (slots : List (Option Insn)) (k : ℕ) (i : Insn) → IsTable bytes slots (count bytes) → Holds slots k i → slot_of (fields_of i) ≡ slot bytes k
first_bytes bytes slots k i t holds = sym (t.entry k (Some i) holds).1.first_slot

some_slot : (b : Bool) (x s : List ℕ) → cond b (Some x) None ≡ Some s → s ≡ x
some_slot true x s e = cc
some_slot false x s e = absurd cc

-- the bytes of a wide load's second slot
second_bytes : (bytes : List ℕ) (k : ℕ) (i : Insn) → At bytes k i → size_of i ≡ 2 → second_slot_of (second_of i) ≡ Some (slot bytes (k + 1))
second_bytes bytes k (insn.LoadWide d v) at two = ap (λ (s : List ℕ). Some s) (some_slot (nat_lt (k + 1) (count bytes)) (slot bytes (k + 1)) _ at.second_slot)
second_bytes bytes k _ at two = absurd (omega arith)

-- a second half is spelled by the instruction before it
pub half_bytes : (bytes : List ℕ) (slots : List (Option Insn)) (k : ℕ) (o : Option Insn) → IsTable bytes slots (count bytes) → slice_get slots (k + 1) ≡ Some None → slice_get slots k ≡ Some o
    → (i : Insn) × (o ≡ Some i) × (second_slot_of (second_of i) ≡ Some (slot bytes (k + 1)))
half_bytes bytes slots k o t half here =
    let h = halves_into bytes slots k t half in
    let same : o ≡ Some h.0 = let e = h.1 in cc in
    (h.0, same, second_bytes bytes k h.0 (t.entry k (Some h.0) h.1).1 h.2)

-- no program begins with a second half
pub no_half_first : (bytes : List ℕ) (slots : List (Option Insn)) → IsTable bytes slots (count bytes) → slice_get slots 0 ≡ Some None → ⊥
no_half_first bytes slots t half = let a : starts bytes 0 ≡ false = t.entry 0 None half in let b = first_start bytes in cc

-- one slot more extends the bytes
pub take_slot : (bytes out new : List ℕ) (n : ℕ) → out ≡ take (8 * n) bytes → new ≡ slot bytes n → out ++ new ≡ take (8 * (n + 1)) bytes
take_slot bytes out new n p q =
    let e : 8 * (n + 1) ≡ 8 * n + 8 = omega arith in
    let more : take (8 * n + 8) bytes ≡ take (8 * n) bytes ++ take 8 (drop (8 * n) bytes) = take-add (8 * n) 8 bytes in
    rw (p, q, e) (sym more)

-- indexing reads the table's entry
pub index_get : (slots : List (Option Insn)) (k : ℕ) (d o : Option Insn) → k < length slots → get_or slots k d ≡ o → slice_get slots k ≡ Some o
index_get slots k d o less e = slice_get-get_or slots k d less ∙ ap (λ (p : Option Insn). Some p) e

-- the same for the preceding slot
pub before_get : (slots : List (Option Insn)) (at : ℕ) (d o : Option Insn) → at < length slots → (at ≡ 0 → ⊥) → get_or slots (at - 1) d ≡ o → slice_get slots (at - 1) ≡ Some o
before_get slots at d o less some e = index_get slots (at - 1) d o (omega arith) e

pub half_before : (bytes : List ℕ) (slots : List (Option Insn)) (at : ℕ) (o : Option Insn) → IsTable bytes slots (count bytes) → (at ≡ 0 → ⊥) → slice_get slots at ≡ Some None → slice_get slots (at - 1) ≡ Some o
    → (i : Insn) × (o ≡ Some i) × (second_slot_of (second_of i) ≡ Some (slot bytes at))
half_before bytes slots at o t some half here =
    let same : at ≡ at - 1 + 1 = omega arith in
    let h = half_bytes bytes slots (at - 1) o t (subst (λ k. slice_get slots k ≡ Some None) same half) here in
    (h.0, h.1, subst (λ k. second_slot_of (second_of h.0) ≡ Some (slot bytes k)) (sym same) h.2)

unwrapped : (r : Option (List ℕ)) (s d : List ℕ) → r ≡ Some s → unwrap_or r d ≡ s
unwrapped r s d e = ap (λ (x : Option (List ℕ)). unwrap_or x d) e

pub half_read : (bytes : List ℕ) (slots : List (Option Insn)) (at : ℕ) (i : Insn) (r : Option (List ℕ)) (d : List ℕ) → IsTable bytes slots (count bytes) → (at ≡ 0 → ⊥) → slice_get slots at ≡ Some None
    → slice_get slots (at - 1) ≡ Some (Some i) → r ≡ second_slot_of (second_of i) → unwrap_or r d ≡ slot bytes at
half_read bytes slots at i r d t some half here e =
    let h = half_before bytes slots at (Some i) t some half here in
    let same : i ≡ h.0 = same_Some i h.0 h.1 in
    unwrapped r (slot bytes at) d (e ∙ ap (λ (j : Insn). second_slot_of (second_of j)) same ∙ h.2)

pub no_half_after_half : (bytes : List ℕ) (slots : List (Option Insn)) (at : ℕ) → IsTable bytes slots (count bytes) → (at ≡ 0 → ⊥) → slice_get slots at ≡ Some None → slice_get slots (at - 1) ≡ Some None → ⊥
no_half_after_half bytes slots at t some half here = let h = half_before bytes slots at None t some half here in let e = h.1 in cc

-- At most one sequence of bytes spells a program.
one_slot : (a b : List ℕ) (slots : List (Option Insn)) (k : ℕ) (o : Option Insn) → IsTable a slots (count a) → IsTable b slots (count b) → slice_get slots k ≡ Some o → slot a k ≡ slot b k
one_slot a b slots k (Some i) s t e = sym (first_bytes a slots k i s e) ∙ first_bytes b slots k i t e
one_slot a b slots zero None s t e = absurd (no_half_first a slots s e)
one_slot a b slots (suc k) None s t e =
    let same : suc k ≡ k + 1 = omega arith in
    let half : slice_get slots (k + 1) ≡ Some None = subst (λ j. slice_get slots j ≡ Some None) same e in
    let first = halves_into a slots k s half in
    let x = second_bytes a k first.0 (s.entry k (Some first.0) first.1).1 first.2 in
    let y = second_bytes b k first.0 (t.entry k (Some first.0) first.1).1 first.2 in
    let both : slot a (k + 1) ≡ slot b (k + 1) = cc in
    subst (λ j. slot a j ≡ slot b j) (sym same) both

same_front : (a b : List ℕ) (slots : List (Option Insn)) (n : ℕ) → IsTable a slots (count a) → IsTable b slots (count b) → n ≤ length slots → take (8 * n) a ≡ take (8 * n) b
same_front a b slots zero s t le = refl
same_front a b slots (suc n) s t le =
    let less : n < length slots = omega arith in
    let here = one_slot a b slots n (get_or slots n None) s t (slice_get-get_or slots n None less) in
    let front = same_front a b slots n s t (omega arith) in
    let same : n + 1 ≡ suc n = omega arith in
    let both : take (8 * (n + 1)) a ≡ take (8 * (n + 1)) b =
    sym (take_slot a (take (8 * n) a) (slot a n) n refl refl) ∙ take_slot b (take (8 * n) a) (slot a n) n front here in
    subst (λ m. take (8 * m) a ≡ take (8 * m) b) same both

pub same_bytes : (a b : List ℕ) (slots : List (Option Insn)) → IsTable a slots (count a) → IsTable b slots (count b) → length a ≡ 8 * count a → length b ≡ 8 * count b → a ≡ b
same_bytes a b slots s t p q =
    let n = length slots in
    let whole_a : length a ≤ 8 * n = let x = s.len in omega arith in
    let whole_b : length b ≤ 8 * n = let x = t.len in omega arith in
    sym (take_all (8 * n) a whole_a) ∙ same_front a b slots n s t (omega arith) ∙ take_all (8 * n) b whole_b

-- Bytes spell at most one program.
same_entry : (bytes : List ℕ) (k : ℕ) (o p : Option Insn) → IsEntry bytes k o → IsEntry bytes k p → o ≡ p
same_entry bytes k None None s t = refl
same_entry bytes k None (Some j) s t = absurd (let a : starts bytes k ≡ false = s in let b : starts bytes k ≡ true = t.0.1 in cc)
same_entry bytes k (Some i) None s t = absurd (let a : starts bytes k ≡ true = s.0.1 in let b : starts bytes k ≡ false = t in cc)
same_entry bytes k (Some i) (Some j) s t = ap (λ (x : Insn). Some x) (one_spelled (slot bytes k) (slot_if bytes (k + 1)) i j s.1 t.1)

pub same_slots : (a : List ℕ) (x y : List (Option Insn)) → IsTable a x (count a) → IsTable a y (count a) → x ≡ y
same_slots a x y s t =
    let len : length x ≡ length y = let p = s.len in let q = t.len in omega arith in
    same_lists x y len (λ k d less.
    let there_x = slice_get-get_or x k d less in
    let less_y : k < length y = omega arith in
    let there_y = slice_get-get_or y k d less_y in
    same_entry a k (get_or x k d) (get_or y k d) (s.entry k _ there_x) (t.entry k _ there_y))

abbrev code_of : List (Option Insn) → List Shape → Code
code_of slots shapes = record { slots = slots; shapes = shapes }

same_parts : (a b : List (Option Insn)) (x y : List Shape) → a ≡ b → x ≡ y → code_of a x ≡ code_of b y
same_parts a b x y p q = cc

pub same_code : (c d : Code) → c.slots ≡ d.slots → c.shapes ≡ d.shapes → c ≡ d
same_code c d p q = same_parts c.slots d.slots c.shapes d.shapes p q
