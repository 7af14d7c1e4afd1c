-- What well-formedness means for slots.
use Rattle.std.proofs.Common.{◌≡◌, ℕ, ◌+◌, ◌*◌, ◌<◌, ◌⊎◌, ◌↔◌, List, length, get_or, Option, Some, None, Bool, true, false, cond, inl, inr, refl, sym, ap, subst, ◌∙◌, arith}
use Rattle.std.specs.Prelude.{slice_get, slice_index, ℤ, pos, negsuc, ◌+ℤ◌, ◌≤ℤ◌, not, ◌&&◌, nat_eq, nat_lt, IsTrue}
use Rattle.std.proofs.lemmas.Int.{ints}
use Rattle.std.proofs.lemmas.Bool.{cases_lt, ltb-true, ne_eqb, eqb-true, true_from_ne_false}
use Rattle.std.proofs.lemmas.Option.{same_Some, slice_get_within, slice_get-get_or}
use Rattle.bpf_insn.specs.declared.insn.Insn.{Insn}
use Rattle.bpf_insn.specs.declared.insn.Insn.TheVariants as insn
use Rattle.bpf_insn.specs.declared.insn.Wide.TheVariants as wide
use Rattle.bpf_insn.specs.declared.insn.Source.TheVariants as source
use Rattle.bpf_insn.specs.declared.insn.ByteOrder.{ByteOrder}
use Rattle.bpf_insn.specs.declared.insn.ByteOrder.TheVariants as order
use Rattle.bpf_insn.specs.declared.fields.Fields.{Fields}
use Rattle.bpf_insn.specs.Slot.{slot_of}
use Rattle.bpf_insn.specs.Opcodes.{alu_class, jump_class, end_code, load_code, atomic_opcode, alu_code, compare_code, size_code}
use Rattle.bpf_insn.specs.Spelled.{fields_of}
use Rattle.bpf_regions.specs.declared.maps.Shape.{Shape}
use Rattle.bpf_regions.specs.Maps.{entry_bytes}
use Rattle.bpf_decode.specs.Flow.{jump_of, IsJump, size_of, ends, KnowsHelper, KnowsMap, HasByte}
use Rattle.bpf_decode.specs.Code.{count, slot, slot_if, is_wide, starts, Starts, At, Leads, JumpsInside, RuleFault, Astray, PastEnd, FramePointer, Helper, UnknownMap, InRules}
use Rattle.bpf_decode.specs.Program.{Code, IsEntry, IsTable, Spells, Holds, Begins, IsWhole, IsTarget, Start, Jumped, Returned, Tells}
use Rattle.bpf_decode.proofs.Firsts.{starts_next}

-- no other instruction has the opcode of a wide load
not_wide : (o : ℕ) → (o ≡ 24 → ⊥) → nat_eq o 24 ≡ false
not_wide o h = ne_eqb o 24 h

alu_other : (w : Bool) (n : ℕ) → 16 * n + alu_class w ≡ 24 → ⊥
alu_other true n h = omega arith
alu_other false n h = omega arith

alu_other_register : (w : Bool) (n : ℕ) → 16 * n + 8 + alu_class w ≡ 24 → ⊥
alu_other_register true n h = omega arith
alu_other_register false n h = omega arith

jump_other : (w : Bool) (n : ℕ) → 16 * n + jump_class w ≡ 24 → ⊥
jump_other true n h = omega arith
jump_other false n h = omega arith

jump_other_register : (w : Bool) (n : ℕ) → 16 * n + 8 + jump_class w ≡ 24 → ⊥
jump_other_register true n h = omega arith
jump_other_register false n h = omega arith

end_other : (o : ByteOrder) → end_code o ≡ 24 → ⊥
end_other order.Little h = omega arith
end_other order.Big h = omega arith
end_other order.Swap h = omega arith

load_other : (s : Bool) (n : ℕ) → load_code s + 8 * n ≡ 24 → ⊥
load_other true n h = omega arith
load_other false n h = omega arith

atomic_other : (w : Bool) → atomic_opcode w ≡ 24 → ⊥
atomic_other true h = omega arith
atomic_other false h = omega arith

pub wide_by_size : (i : Insn) → nat_eq (fields_of i).opcode 24 ≡ nat_eq (size_of i) 2
wide_by_size (insn.LoadWide d v) = refl
wide_by_size (insn.Alu op w d (source.Imm n)) = not_wide _ (alu_other w (alu_code op))
wide_by_size (insn.Alu op w d (source.Reg r)) = not_wide _ (alu_other_register w (alu_code op))
wide_by_size (insn.MovSx from w d s) = not_wide _ (alu_other_register w 11)
wide_by_size (insn.Neg w d) = not_wide _ (alu_other w 8)
wide_by_size (insn.End o x d) = not_wide _ (end_other o)
wide_by_size (insn.Jump x) = refl
wide_by_size (insn.JumpLong x) = refl
wide_by_size (insn.Branch c w d (source.Imm n) x) = not_wide _ (jump_other w (compare_code c))
wide_by_size (insn.Branch c w d (source.Reg r) x) = not_wide _ (jump_other_register w (compare_code c))
wide_by_size (insn.Call h) = refl
wide_by_size (insn.CallLocal x) = refl
wide_by_size insn.Exit = refl
wide_by_size (insn.Load z signed d s x) = not_wide _ (load_other signed (size_code z))
wide_by_size (insn.Store z d x (source.Imm n)) = not_wide _ (λ h. omega arith)
wide_by_size (insn.Store z d x (source.Reg r)) = not_wide _ (λ h. omega arith)
wide_by_size (insn.Atomic op w d s x) = not_wide _ (atomic_other w)

first_byte : (f : Fields) → slice_index (slot_of f) 0 ≡ f.opcode
unfolding slot_of
first_byte f = refl

-- the instruction at a slot has the opcode of a wide load exactly if it has two slots
at_wide : (bytes : List ℕ) (k : ℕ) (i : Insn) → At bytes k i → is_wide bytes k ≡ nat_eq (size_of i) 2
at_wide bytes k i at =
    let opcode : slice_index (slot bytes k) 0 ≡ (fields_of i).opcode = ap (λ (s : List ℕ). slice_index s 0) at.first_slot ∙ first_byte (fields_of i) in
    ap (λ n. nat_eq n 24) opcode ∙ wide_by_size i

-- whether the slot after one that starts an instruction starts one
starts_after : (bytes : List ℕ) (k : ℕ) (i : Insn) → starts bytes k ≡ true → At bytes k i → starts bytes (k + 1) ≡ not (nat_eq (size_of i) 2)
starts_after bytes k i start at =
    let wide = at_wide bytes k i at in
    starts_next bytes k ∙ rw (start, wide) refl

starts_twice : (bytes : List ℕ) (k : ℕ) → starts bytes (k + 1) ≡ false → starts bytes (k + 1 + 1) ≡ true
starts_twice bytes k half = starts_next bytes (k + 1) ∙ rw half refl

inside_by : (b : Bool) (x s : List ℕ) → cond b (Some x) None ≡ Some s → b ≡ true
inside_by true x s e = refl
inside_by false x s e = absurd cc

-- a slot that exists is inside the code
pub slot_there : (bytes : List ℕ) (k : ℕ) (s : List ℕ) → slot_if bytes k ≡ Some s → k < count bytes
slot_there bytes k s e = ltb-true k (count bytes) (inside_by (nat_lt k (count bytes)) (slot bytes k) s e)

-- a wide load's second half is inside the code
wide_fits : (bytes : List ℕ) (k : ℕ) (i : Insn) → At bytes k i → size_of i ≡ 2 → k + 1 < count bytes
wide_fits bytes k (insn.LoadWide d v) at two = slot_there bytes (k + 1) _ at.second_slot
wide_fits bytes k _ at two = absurd (omega arith)

one_or_two : (i : Insn) → (size_of i ≡ 1) ⊎ (size_of i ≡ 2)
one_or_two (insn.LoadWide d v) = inr refl
one_or_two _ = inl refl

-- an instruction follows each one that isn't the last
goes_on : (bytes : List ℕ) (k : ℕ) (i : Insn) → Starts bytes k → At bytes k i → (k + size_of i ≡ count bytes → ⊥) → Starts bytes (k + size_of i)
goes_on bytes k i start at more =
    let after = starts_after bytes k i start.1 at in
    elim (one_or_two i) [
      | inl one ↦
          let inside : k + 1 < count bytes = let a = start.0 in omega arith in
          let next : starts bytes (k + 1) ≡ true = subst (λ n. starts bytes (k + 1) ≡ not (nat_eq n 2)) one after in
          subst (λ n. Starts bytes (k + n)) (sym one) (inside, next)
      | inr two ↦
          let inside : k + 1 + 1 < count bytes = let a = wide_fits bytes k i at two in omega arith in
          let half : starts bytes (k + 1) ≡ false = subst (λ n. starts bytes (k + 1) ≡ not (nat_eq n 2)) two after in
          let same : k + 1 + 1 ≡ k + size_of i = omega arith in
          subst (Starts bytes) same (inside, starts_twice bytes k half)
    ]

stable_lt : (a b : ℕ) → ((a < b → ⊥) → ⊥) → a < b
stable_lt a b f = elim (cases_lt a b) [ inl less ↦ less | inr more ↦ absurd (f (λ l. omega arith)) ]

stable_true : (b : Bool) → ((b ≡ true → ⊥) → ⊥) → b ≡ true
stable_true true f = refl
stable_true false f = absurd (f (λ e. cc))

stable_start : (bytes : List ℕ) (t : ℕ) → ((Starts bytes t → ⊥) → ⊥) → Starts bytes t
stable_start bytes t f = (stable_lt t (count bytes) (λ no. f (λ s. no s.0)), stable_true (starts bytes t) (λ no. f (λ s. no s.1)))

same_target : (k : ℕ) (x : ℤ) (t u : ℕ) → IsJump k x t → IsJump k x u → u ≡ t
same_target k x t u p q = omega (arith, ints)

leads_there : (bytes : List ℕ) (k : ℕ) (x : ℤ) (t : ℕ) → IsJump k x t → Leads bytes k x → Starts bytes t
leads_there bytes k x t e l = subst (Starts bytes) (same_target k x t l.0 e l.1) l.2

stable_leads : (bytes : List ℕ) (k : ℕ) (x z : ℤ) → z ≡ pos (k + 1) +ℤ x → ((Leads bytes k x → ⊥) → ⊥) → Leads bytes k x
stable_leads bytes k x (pos t) e f = (t, e, stable_start bytes t (λ no. f (λ l. no (leads_there bytes k x t e l))))
stable_leads bytes k x (negsuc n) e f = absurd (f (λ l. let h = l.1 in omega (arith, ints)))

stable_jump : (bytes : List ℕ) (k : ℕ) (j : Option ℤ) (x : ℤ) → j ≡ Some x → ((JumpsInside bytes k j → ⊥) → ⊥) → Leads bytes k x
stable_jump bytes k j x e f =
    let g : (JumpsInside bytes k (Some x) → ⊥) → ⊥ = subst (λ (y : Option ℤ). (JumpsInside bytes k y → ⊥) → ⊥) e f in
    stable_leads bytes k x _ refl g

stable_helper : (h : ℤ) → (((pos 1 ≤ℤ h) × (h ≤ℤ pos 5) → ⊥) → ⊥) → (pos 1 ≤ℤ h) × (h ≤ℤ pos 5)
stable_helper (pos n) f =
    let low : 0 < n = stable_lt 0 n (λ no. f (λ p. no (let h = p.0 in omega (arith, ints)))) in
    let high : n < 6 = stable_lt n 6 (λ no. f (λ p. no (let h = p.1 in omega (arith, ints)))) in
    (omega (arith, ints), omega (arith, ints))
stable_helper (negsuc n) f = absurd (f (λ p. let h = p.0 in omega (arith, ints)))

knows_helper : (i : Insn) → ((KnowsHelper i → ⊥) → ⊥) → KnowsHelper i
knows_helper (insn.Call h) f = stable_helper h f
knows_helper _ f = tt

same_shape : (s t : Shape) (r : Option Shape) → r ≡ Some s → r ≡ Some t → s ≡ t
same_shape s t r p q = cc

stable_byte : (shapes : List Shape) (m o : ℕ) (r : Option Shape) → slice_get shapes m ≡ r → ((HasByte shapes m o → ⊥) → ⊥) → HasByte shapes m o
stable_byte shapes m o None e f = absurd (f (λ h. let g = h.1 in cc))
stable_byte shapes m o (Some s) e f =
    (s, e, stable_lt o (entry_bytes s) (λ no. f (λ h. no (subst (λ (t : Shape). o < entry_bytes t) (same_shape h.0 s (slice_get shapes m) h.1 e) h.2))))

knows_map : (shapes : List Shape) (i : Insn) → ((KnowsMap shapes i → ⊥) → ⊥) → KnowsMap shapes i
knows_map shapes (insn.LoadWide d (wide.Map m)) f = stable_lt m (length shapes) f
knows_map shapes (insn.LoadWide d (wide.MapValue m o)) f = stable_byte shapes m o (slice_get shapes m) refl f
knows_map shapes _ f = tt

both_true : (a b : Bool) → not (a && b) ≡ false → (a ≡ true) × (b ≡ true)
both_true true true e = (refl, refl)
both_true true false e = absurd cc
both_true false b e = absurd cc

begins_by : (bytes : List ℕ) (slots : List (Option Insn)) (k : ℕ) (o : Option Insn) → slice_get slots k ≡ Some o → IsEntry bytes k o → starts bytes k ≡ true → Begins slots k
begins_by bytes slots k None e entry start = absurd (let f : starts bytes k ≡ false = entry in cc)
begins_by bytes slots k (Some i) e entry start = (i, e)

half_by : (bytes : List ℕ) (slots : List (Option Insn)) (k : ℕ) (o : Option Insn) → slice_get slots k ≡ Some o → IsEntry bytes k o → starts bytes k ≡ false → slice_get slots k ≡ Some None
half_by bytes slots k None e entry half = e
half_by bytes slots k (Some i) e entry half = absurd (let f : starts bytes k ≡ true = entry.0.1 in cc)

get_there : (slots : List (Option Insn)) (k : ℕ) → k < length slots → slice_get slots k ≡ Some (get_or slots k None)
get_there slots k less = slice_get-get_or slots k None less

table_begins : (bytes : List ℕ) (slots : List (Option Insn)) (k : ℕ) → IsTable bytes slots (count bytes) → Starts bytes k → Begins slots k
table_begins bytes slots k t start =
    let less : k < length slots = let a = t.len in let b = start.0 in omega arith in
    let there = get_there slots k less in
    begins_by bytes slots k (get_or slots k None) there (t.entry k _ there) start.1

table_half : (bytes : List ℕ) (slots : List (Option Insn)) (k : ℕ) → IsTable bytes slots (count bytes) → k < count bytes → starts bytes k ≡ false → slice_get slots k ≡ Some None
table_half bytes slots k t inside half =
    let less : k < length slots = let a = t.len in omega arith in
    let there = get_there slots k less in
    half_by bytes slots k (get_or slots k None) there (t.entry k _ there) half

pub halves_into : (bytes : List ℕ) (slots : List (Option Insn)) (k : ℕ) → IsTable bytes slots (count bytes) → slice_get slots (k + 1) ≡ Some None → (i : Insn) × Holds slots k i × (size_of i ≡ 2)
halves_into bytes slots k t e =
    let inside : k + 1 < length slots = slice_get_within slots (k + 1) None e in
    let half : starts bytes (k + 1) ≡ false = t.entry (k + 1) None e in
    let both = both_true (starts bytes k) (is_wide bytes k) (sym (starts_next bytes k) ∙ half) in
    let start : Starts bytes k = (let a = t.len in omega arith, both.0) in
    let begins = table_begins bytes slots k t start in
    let entry = t.entry k (Some begins.0) begins.1 in
    (begins.0, begins.1, eqb-true (size_of begins.0) 2 (sym (at_wide bytes k begins.0 entry.1) ∙ both.1))

halves_out : (bytes : List ℕ) (slots : List (Option Insn)) (k : ℕ) (i : Insn) → IsTable bytes slots (count bytes) → Holds slots k i → size_of i ≡ 2 → slice_get slots (k + 1) ≡ Some None
halves_out bytes slots k i t holds two =
    let entry = t.entry k (Some i) holds in
    let after = starts_after bytes k i entry.0.1 entry.1 in
    let half : starts bytes (k + 1) ≡ false = subst (λ n. starts bytes (k + 1) ≡ not (nat_eq n 2)) two after in
    table_half bytes slots (k + 1) t (wide_fits bytes k i entry.1 two) half

pub first_start : (bytes : List ℕ) → starts bytes 0 ≡ true
unfolding starts
first_start bytes = refl

-- well-formed bytes spell whole code
pub spelled_whole : (bytes : List ℕ) (c : Code) → Spells bytes c → IsWhole c
spelled_whole bytes c s =
    let w = s.well_formed in
    let t = s.table in
    let slots = c.slots in
    let fine : (k : ℕ) (i : Insn) → Holds slots k i → (n : ℕ) → RuleFault bytes c.shapes k i n → ⊥ =
    λ k i holds n f. (let entry = t.entry k (Some i) holds in w.faultless k n (InRules i n entry.0 entry.1 f)) in
    let some : 0 < count bytes = let a = w.some in let b = w.whole in omega arith in
    record {
      some = let a = t.len in omega arith;
      short = let a = t.len in let b = w.short in omega arith;
      insns = λ k i holds. (t.entry k (Some i) holds).1.is_insn;
      first = table_begins bytes slots 0 t (some, first_start bytes);
      onward = λ k i holds e.
          let entry = t.entry k (Some i) holds in
          table_begins bytes slots (k + size_of i) t (goes_on bytes k i entry.0 entry.1 (λ last. fine k i holds 16 (PastEnd last e)));
      jumps = λ k i x holds e.
          let l = stable_jump bytes k (jump_of i) x e (λ no. fine k i holds 15 (Astray no)) in
          (l.0, l.1, table_begins bytes slots l.0 t l.2);
      halves = λ k. (halves_into bytes slots k t, λ h. halves_out bytes slots k h.0 t h.1 h.2);
      last = λ k i holds e. true_from_ne_false (ends i) (λ f. fine k i holds 16 (PastEnd (e ∙ t.len) f));
      registers = λ k i holds e. fine k i holds 17 (FramePointer e);
      helpers = λ k i holds. knows_helper i (λ no. fine k i holds 18 (Helper no));
      maps = λ k i holds. knows_map c.shapes i (λ no. fine k i holds 19 (UnknownMap no));
    }

pub begins_inside : (slots : List (Option Insn)) (k : ℕ) → Begins slots k → k < length slots
begins_inside slots k b = slice_get_within slots k (Some b.0) b.1

-- a slot starts at most one instruction
pub same_insn : (slots : List (Option Insn)) (k : ℕ) (i j : Insn) → Holds slots k i → Holds slots k j → i ≡ j
same_insn slots k i j h g = same_Some i j (same_Some (Some i) (Some j) (sym h ∙ g))

-- every target of whole code starts an instruction
pub target_begins : (c : Code) (t : ℕ) → IsWhole c → IsTarget c.slots t → Begins c.slots t
target_begins c t w (Start e) = subst (Begins c.slots) (sym e) w.first
target_begins c t w (Jumped k i x holds e j) =
    let l = w.jumps k i x holds e in
    subst (Begins c.slots) (same_target k x t l.0 j l.1) l.2
target_begins c t w (Returned k x holds e) = subst (Begins c.slots) (sym e) (w.onward k (insn.CallLocal x) holds refl)

-- a table that marks exactly the targets within its length marks exactly the targets
pub targets_told : (c : Code) (targets : List Bool) (n : ℕ) → IsWhole c → n ≡ length c.slots → ((t : ℕ) → IsTrue (get_or targets t false) ↔ ((t < n) × IsTarget c.slots t)) → Tells targets c.slots
targets_told c targets n w same told t = (
  λ h. ((told t).0 h).1,
  λ h. (told t).1 (let inside = begins_inside c.slots t (target_begins c t w h) in (omega arith, h)),
)
