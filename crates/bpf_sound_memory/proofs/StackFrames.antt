-- What a stack frame holds after a store.
use Rattle.std.proofs.Common.{ℕ, zero, suc, ◌≡◌, ◌≢◌, ◌+◌, ◌-◌, ◌*◌, ◌/◌, ◌%◌, ◌^◌, ◌<◌, ◌≤◌, ◌⊎◌, inl, inr, ⊎_elim, false, List, length, Option, Some, None, Ok, slice_index_or, slice_set, refl, sym, ap, subst, ◌∙◌, arith}
use Rattle.std.specs.Prelude.{slice_get}
use Rattle.std.proofs.lemmas.Bool.{cases_eq, cases_lt, true≢false}
use Rattle.std.proofs.lemmas.List.{length-set, get_or-set_same, get_or-set_other, get_or_past}
use Rattle.std.proofs.lemmas.Nat.{pow-add, mod-pow-add}
use Rattle.std.proofs.lemmas.Option.{get_or_from_slice_get, slice_get-get_or}
use Rattle.bpf_regions.specs.declared.memory.Value.{Value}
use Rattle.bpf_regions.specs.declared.memory.Value.TheVariants as value
use Rattle.bpf_model.specs.declared.StackFrame.{StackFrame}
use Rattle.bpf_model.specs.Alu.{is_unset}
use Rattle.bpf_model.proofs.SetBytes.{joined_parts, set_byte_is}
use Rattle.bpf_model.specs.Memory.{set_byte, joined, set_bytes, with_number, without, number_stored, spilled}
use Rattle.bpf_absval.specs.Meaning.{is_number, IsStackFrame}
use Rattle.bpf_sound_memory.proofs.Bytes.{byte_at, IsSet, length-with_number, number_before, number_behind, number_first, number_within, length-without, without_before, without_behind, without_within}

-- ---- the number that set bytes spell

abbrev pub AreSpelled : StackFrame → ℕ → ℕ → Type 0
AreSpelled f at n = (i : ℕ) → at ≤ i → i < at + n → IsSet (byte_at f.bytes i)

more_bytes : (n : ℕ) → 2 ^ (8 * suc n) ≡ 2 ^ (8 * n) * 256
more_bytes n =
    let e : 8 * suc n ≡ 8 * n + 8 = omega arith in
    ap (λ k. 2 ^ k) e ∙ pow-add 2 (8 * n) 8

pub spelled : (f : StackFrame) (at n : ℕ) → AreSpelled f at n → (x : ℕ) × (set_bytes f at n ≡ Ok x) × (x < 2 ^ (8 * n))
unfolding set_bytes
spelled f at zero h = (0, refl, omega arith)
spelled f at (suc n) h =
    let rest = spelled f (at + 1) n (λ i low high. h i (omega arith) (omega arith)) in
    let first = h at (omega arith) (omega arith) in (
      first.0 + 256 * rest.0,
      ap (λ o. joined (set_byte f at o) (set_bytes f (at + 1) n)) first.1 ∙ ap (joined (Ok first.0)) rest.1,
      omega (arith, more_bytes n, first.2, rest.2),
    )

pub spelled_set : (f : StackFrame) (at n x : ℕ) → set_bytes f at n ≡ Ok x → (i : ℕ) → at ≤ i → i < at + n → (b : ℕ) × (byte_at f.bytes i ≡ Some b)
unfolding set_bytes
spelled_set f at zero x h i low high = absurd (omega arith)
spelled_set f at (suc n) x h i low high =
    let parts = joined_parts (set_byte f at (byte_at f.bytes at)) (set_bytes f (at + 1) n) x h in
    ⊎_elim
    (λ same. subst (λ k. (b : ℕ) × (byte_at f.bytes k ≡ Some b)) (sym same) (set_byte_is f at (byte_at f.bytes at) parts.0.0 parts.0.1))
    (λ apart. spelled_set f (at + 1) n parts.1.0 parts.1.1 i (omega (arith, apart)) (omega arith))
    (cases_eq i at)

-- the number that was written
pub written_spelled : (f : StackFrame) (bytes : List (Option ℕ)) (at n x : ℕ) → f.bytes ≡ with_number bytes at n x → at + n ≤ length bytes →
    set_bytes f at n ≡ Ok (x % 2 ^ (8 * n))
unfolding set_bytes with_number
written_spelled f bytes at zero x e room = let none : x % 2 ^ (8 * 0) ≡ 0 = omega arith in sym (ap Ok none)
written_spelled f bytes at (suc n) x e room =
    let rest = written_spelled f (slice_set bytes at (Some (x % 256))) (at + 1) n (x / 256) e (omega (arith, length-set bytes at (Some (x % 256)))) in
    let first : byte_at f.bytes at ≡ Some (x % 256) = ap (λ l. byte_at l at) e ∙ number_first bytes at n x (omega arith) in
    let split : 8 * suc n ≡ 8 * n + 8 = omega arith in
    let sum : x % 256 + 256 * ((x / 256) % 2 ^ (8 * n)) ≡ x % 2 ^ (8 * suc n) = omega (arith, mod-pow-add x (8 * n) 8, ap (λ k. x % 2 ^ k) split) in
    ap (λ o. joined (set_byte f at o) (set_bytes f (at + 1) n)) first ∙ ap (joined (Ok (x % 256))) rest ∙ ap Ok sum

-- ---- stack frames of a run

abbrev pub spill : StackFrame → ℕ → Value
spill f i = slice_index_or f.spills i value.Unset

pub byte_got : (bytes : List (Option ℕ)) (i b : ℕ) → byte_at bytes i ≡ Some b → slice_get bytes i ≡ Some (Some b)
byte_got bytes i b h =
    ⊎_elim
    (λ within. slice_get-get_or bytes i None within ∙ ap Some h)
    (λ past. absurd (cc (get_or_past bytes i None past)))
    (cases_lt i (length bytes))

pub small_byte : (f : StackFrame) (i b : ℕ) → IsStackFrame f → byte_at f.bytes i ≡ Some b → b < 256
small_byte f i b h e = h.small i b (byte_got f.bytes i b e)

-- a slot with a spilled value has no set byte
pub spilled_apart : (f : StackFrame) (i j : ℕ) → IsStackFrame f → i < 64 → j < 8 → is_unset (spill f i) ≡ false → byte_at f.bytes (8 * i + j) ≡ None
spilled_apart f i j h low small e = get_or_from_slice_get f.bytes (8 * i + j) None None (h.apart i j low small e)

-- the same, given the bytes and the spills
pub frame_by : (bytes : List (Option ℕ)) (spills : List Value) → length bytes ≡ 512 → length spills ≡ 64 →
    ((i b : ℕ) → byte_at bytes i ≡ Some b → b < 256) → ((i : ℕ) → is_number (slice_index_or spills i value.Unset) ≡ false) →
    ((i j : ℕ) → i < 64 → j < 8 → is_unset (slice_index_or spills i value.Unset) ≡ false → byte_at bytes (8 * i + j) ≡ None) →
    IsStackFrame (record { bytes = bytes; spills = spills })
frame_by bytes spills long many small references apart =
    record {
      bytes = long;
      slots = many;
      small = λ i b e. small i b (get_or_from_slice_get bytes i (Some b) None e);
      references = references;
      apart = λ i j low few e. slice_get-get_or bytes (8 * i + j) None (omega (arith, long)) ∙ ap Some (apart i j low few e);
    }

-- ---- a number is stored

-- slot i isn't touched
abbrev pub IsElsewhere : ℕ → ℕ → ℕ → Type 0
IsElsewhere at n i = (i ≢ at / 8) × (i ≢ (at + n - 1) / 8)

abbrev pub spills_after : StackFrame → ℕ → ℕ → List Value
spills_after f at n = slice_set (slice_set f.spills (at / 8) value.Unset) ((at + n - 1) / 8) value.Unset

pub spill_elsewhere : (f : StackFrame) (at n i : ℕ) → IsElsewhere at n i → slice_index_or (spills_after f at n) i value.Unset ≡ spill f i
spill_elsewhere f at n i h =
    get_or-set_other (slice_set f.spills (at / 8) value.Unset) ((at + n - 1) / 8) i value.Unset value.Unset h.1
    ∙ get_or-set_other f.spills (at / 8) i value.Unset value.Unset h.0

-- a slot whose spill is removed
unset_there : (spills : List Value) (i : ℕ) → slice_index_or (slice_set spills i value.Unset) i value.Unset ≡ value.Unset
unset_there spills i =
    ⊎_elim
    (λ within. get_or-set_same spills i value.Unset value.Unset within)
    (λ past. get_or_past (slice_set spills i value.Unset) i value.Unset (omega (arith, length-set spills i value.Unset, past)))
    (cases_lt i (length spills))

unset_kept : (spills : List Value) (k i : ℕ) → slice_index_or spills i value.Unset ≡ value.Unset → slice_index_or (slice_set spills k value.Unset) i value.Unset ≡ value.Unset
unset_kept spills k i h =
    ⊎_elim
    (λ same. subst (λ j. slice_index_or (slice_set spills k value.Unset) j value.Unset ≡ value.Unset) (sym same) (unset_there spills k))
    (λ apart. get_or-set_other spills k i value.Unset value.Unset apart ∙ h)
    (cases_eq i k)

pub spill_touched : (f : StackFrame) (at n i : ℕ) → (i ≡ at / 8) ⊎ (i ≡ (at + n - 1) / 8) → slice_index_or (spills_after f at n) i value.Unset ≡ value.Unset
spill_touched f at n i (inl h) =
    unset_kept (slice_set f.spills (at / 8) value.Unset) ((at + n - 1) / 8) i
    (subst (λ j. slice_index_or (slice_set f.spills (at / 8) value.Unset) j value.Unset ≡ value.Unset) (sym h) (unset_there f.spills (at / 8)))
spill_touched f at n i (inr h) =
    subst (λ j. slice_index_or (spills_after f at n) j value.Unset ≡ value.Unset) (sym h)
    (unset_there (slice_set f.spills (at / 8) value.Unset) ((at + n - 1) / 8))

pub touched_or : (at n i : ℕ) → ((i ≡ at / 8) ⊎ (i ≡ (at + n - 1) / 8)) ⊎ IsElsewhere at n i
touched_or at n i =
    ⊎_elim
    (λ same. inl (inl same))
    (λ first. ⊎_elim (λ same. inl (inr same)) (λ second. inr (first, second)) (cases_eq i ((at + n - 1) / 8)))
    (cases_eq i (at / 8))

-- a byte of the store, or none
pub within_or : (at n i : ℕ) → ((at ≤ i) × (i < at + n)) ⊎ ((i < at) ⊎ (at + n ≤ i))
within_or at n i =
    ⊎_elim (λ low. inr (inl low)) (λ low. ⊎_elim (λ high. inl (low, high)) (λ high. inr (inr high)) (cases_lt i (at + n))) (cases_lt i at)

pub number_outside : (bytes : List (Option ℕ)) (at n x i : ℕ) → (i < at) ⊎ (at + n ≤ i) → byte_at (with_number bytes at n x) i ≡ byte_at bytes i
number_outside bytes at n x i (inl h) = number_before bytes at n x i h
number_outside bytes at n x i (inr h) = number_behind bytes at n x i h

pub number_elsewhere : (bytes : List (Option ℕ)) (at n x i j : ℕ) → j < 8 → 1 ≤ n → n ≤ 8 → IsElsewhere at n i →
    byte_at (with_number bytes at n x) (8 * i + j) ≡ byte_at bytes (8 * i + j)
number_elsewhere bytes at n x i j few some size h = number_outside bytes at n x (8 * i + j) (outside (cases_lt (8 * i + j) at))
  where
    first : i ≢ at / 8
    first = h.0

    second : i ≢ (at + n - 1) / 8
    second = h.1

    outside : (8 * i + j < at) ⊎ (at ≤ 8 * i + j) → (8 * i + j < at) ⊎ (at + n ≤ 8 * i + j)
    outside (inl low) = inl low
    outside (inr high) = inr (omega arith)

small_after : (f : StackFrame) (at n x i b : ℕ) → IsStackFrame f → at + n ≤ 512 → byte_at (with_number f.bytes at n x) i ≡ Some b → b < 256
small_after f at n x i b h room e = by_place (within_or at n i)
  where
    by_place : ((at ≤ i) × (i < at + n)) ⊎ ((i < at) ⊎ (at + n ≤ i)) → b < 256
    by_place (inl p) =
        let set = number_within f.bytes at n x i p.0 p.1 (omega (arith, h.bytes)) in
        let same : Some set.0 ≡ Some b = sym set.1 ∙ e in
        let eq : set.0 ≡ b = cc in
        omega (arith, eq, set.2)
    by_place (inr p) = small_byte f i b h (sym (number_outside f.bytes at n x i p) ∙ e)

references_after : (f : StackFrame) (at n i : ℕ) → IsStackFrame f → is_number (slice_index_or (spills_after f at n) i value.Unset) ≡ false
references_after f at n i h = by_place (touched_or at n i)
  where
    by_place : ((i ≡ at / 8) ⊎ (i ≡ (at + n - 1) / 8)) ⊎ IsElsewhere at n i → is_number (slice_index_or (spills_after f at n) i value.Unset) ≡ false
    by_place (inl p) = ap is_number (spill_touched f at n i p)
    by_place (inr p) = ap is_number (spill_elsewhere f at n i p) ∙ h.references i

apart_after : (f : StackFrame) (at n x i j : ℕ) → IsStackFrame f → 1 ≤ n → n ≤ 8 → i < 64 → j < 8 →
    is_unset (slice_index_or (spills_after f at n) i value.Unset) ≡ false → byte_at (with_number f.bytes at n x) (8 * i + j) ≡ None
apart_after f at n x i j h some size low few e = by_place (touched_or at n i)
  where
    by_place : ((i ≡ at / 8) ⊎ (i ≡ (at + n - 1) / 8)) ⊎ IsElsewhere at n i → byte_at (with_number f.bytes at n x) (8 * i + j) ≡ None
    by_place (inl p) = absurd (true≢false (sym (ap is_unset (spill_touched f at n i p)) ∙ e))
    by_place (inr p) = number_elsewhere f.bytes at n x i j few some size p ∙ spilled_apart f i j h low few (sym (ap is_unset (spill_elsewhere f at n i p)) ∙ e)

pub number_keeps : (f : StackFrame) (at n x : ℕ) → IsStackFrame f → 1 ≤ n → n ≤ 8 → at + n ≤ 512 → IsStackFrame (number_stored f at n x)
number_keeps f at n x h some size room =
    frame_by (with_number f.bytes at n x) (spills_after f at n)
    (length-with_number f.bytes at n x ∙ h.bytes)
    (length-set (slice_set f.spills (at / 8) value.Unset) ((at + n - 1) / 8) value.Unset ∙ length-set f.spills (at / 8) value.Unset ∙ h.slots)
    (λ i b e. small_after f at n x i b h room e)
    (λ i. references_after f at n i h)
    (λ i j low few e. apart_after f at n x i j h some size low few e)

-- ---- a value is spilled

without_outside : (bytes : List (Option ℕ)) (at n i : ℕ) → (i < at) ⊎ (at + n ≤ i) → byte_at (without bytes at n) i ≡ byte_at bytes i
without_outside bytes at n i (inl h) = without_before bytes at n i h
without_outside bytes at n i (inr h) = without_behind bytes at n i h

pub without_elsewhere : (bytes : List (Option ℕ)) (at i j : ℕ) → j < 8 → at % 8 ≡ 0 → i ≢ at / 8 → byte_at (without bytes at 8) (8 * i + j) ≡ byte_at bytes (8 * i + j)
without_elsewhere bytes at i j few even h = without_outside bytes at 8 (8 * i + j) (outside (cases_lt (8 * i + j) at))
  where
    outside : (8 * i + j < at) ⊎ (at ≤ 8 * i + j) → (8 * i + j < at) ⊎ (at + 8 ≤ 8 * i + j)
    outside (inl low) = inl low
    outside (inr high) = inr (omega arith)

pub spill_keeps : (f : StackFrame) (at : ℕ) (v : Value) → IsStackFrame f → at % 8 ≡ 0 → at + 8 ≤ 512 → is_number v ≡ false → IsStackFrame (spilled f at v)
spill_keeps f at v h even room other =
    frame_by (without f.bytes at 8) (slice_set f.spills (at / 8) v)
    (length-without f.bytes at 8 ∙ h.bytes)
    (length-set f.spills (at / 8) v ∙ h.slots)
    (λ i b e. small i b e (within_or at 8 i))
    (λ i. references i (cases_eq i (at / 8)))
    (λ i j low few e. apart i j low few e (cases_eq i (at / 8)))
  where
    small : (i b : ℕ) → byte_at (without f.bytes at 8) i ≡ Some b → ((at ≤ i) × (i < at + 8)) ⊎ ((i < at) ⊎ (at + 8 ≤ i)) → b < 256
    small i b e (inl p) = absurd (cc (without_within f.bytes at 8 i p.0 p.1 (omega (arith, h.bytes))))
    small i b e (inr p) = small_byte f i b h (sym (without_outside f.bytes at 8 i p) ∙ e)

    references : (i : ℕ) → (i ≡ at / 8) ⊎ (i ≡ at / 8 → ⊥) → is_number (slice_index_or (slice_set f.spills (at / 8) v) i value.Unset) ≡ false
    references i (inl same) =
        ap is_number (ap (λ k. slice_index_or (slice_set f.spills (at / 8) v) k value.Unset) same ∙ get_or-set_same f.spills (at / 8) v value.Unset (omega (arith, h.slots))) ∙ other
    references i (inr apart) = ap is_number (get_or-set_other f.spills (at / 8) i v value.Unset apart) ∙ h.references i

    apart : (i j : ℕ) → i < 64 → j < 8 → is_unset (slice_index_or (slice_set f.spills (at / 8) v) i value.Unset) ≡ false → (i ≡ at / 8) ⊎ (i ≡ at / 8 → ⊥) → byte_at (without f.bytes at 8) (8 * i + j) ≡ None
    apart i j low few e (inl same) = without_within f.bytes at 8 (8 * i + j) (omega arith) (omega arith) (omega (arith, h.bytes))
    apart i j low few e (inr other) =
        without_elsewhere f.bytes at i j few even other
        ∙ spilled_apart f i j h low few (sym (ap is_unset (get_or-set_other f.spills (at / 8) i v value.Unset other)) ∙ e)
