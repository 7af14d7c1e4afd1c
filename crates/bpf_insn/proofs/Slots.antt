-- Slots and their fields determine each other.
use Rattle.std.proofs.Common.{ℕ, ◌≡◌, ◌+◌, ◌*◌, ◌/◌, ◌%◌, ◌^◌, ◌<◌, List, [], ◌∷◌, ◌++◌, length, get_or, refl, sym, ap, ◌∙◌, arith}
use Rattle.std.specs.Prelude.{ℤ, FitsSigned}
use Rattle.std.specs.Int.{w16, w32, cast_signed, cast_unsigned}
use Rattle.std.proofs.lemmas.Int.{of_z-to_z, to_z-of_z}
use Rattle.std.proofs.Math.Facts.{Fits-of_z}
use Rattle.byteorder.specs.Endian.{little_from, little_bytes}
use Rattle.bpf_insn.specs.declared.fields.Fields.{Fields}
use Rattle.bpf_insn.specs.Slot.{slot_of, fields_at, FitsSlot}

abbrev pub AreBytes : List ℕ → Type 0
AreBytes s = (i : ℕ) → get_or s i 0 < 256

low_two : (n : ℕ) → n < 2 ^ 16 → n % 256 + 256 * (n / 256 % 256 + 256 * 0) ≡ n
low_two n h = omega arith

low_four : (n : ℕ) → n < 2 ^ 32 → n % 256 + 256 * (n / 256 % 256 + 256 * (n / 65536 % 256 + 256 * (n / 16777216 % 256 + 256 * 0))) ≡ n
low_four n h = omega arith

two_bytes : (a b n : ℕ) → a < 256 → b < 256 → n ≡ a + 256 * (b + 256 * 0) → little_bytes 2 n ≡ a ∷ b ∷ []
two_bytes a b n p q e =
    let x : n % 256 ≡ a = omega arith in
    let y : n / 256 % 256 ≡ b = omega arith in
    cc

four_bytes : (a b c d n : ℕ) → a < 256 → b < 256 → c < 256 → d < 256 → n ≡ a + 256 * (b + 256 * (c + 256 * (d + 256 * 0))) → little_bytes 4 n ≡ a ∷ b ∷ c ∷ d ∷ []
four_bytes a b c d n p q r s e =
    let x : n % 256 ≡ a = omega arith in
    let y : n / 256 % 256 ≡ b = omega arith in
    let z : n / 65536 % 256 ≡ c = omega arith in
    let w : n / 16777216 % 256 ≡ d = omega arith in
    cc

pair_back : (a b : ℕ) → a < 256 → b < 256 → little_bytes 2 (cast_unsigned w16 (cast_signed w16 (a + 256 * (b + 256 * 0)))) ≡ a ∷ b ∷ []
pair_back a b p q = two_bytes a b _ p q (of_z-to_z w16 (a + 256 * (b + 256 * 0)) (omega arith))

four_back : (a b c d : ℕ) → a < 256 → b < 256 → c < 256 → d < 256 → little_bytes 4 (cast_unsigned w32 (cast_signed w32 (a + 256 * (b + 256 * (c + 256 * (d + 256 * 0)))))) ≡ a ∷ b ∷ c ∷ d ∷ []
four_back a b c d p q r s = four_bytes a b c d _ p q r s (of_z-to_z w32 (a + 256 * (b + 256 * (c + 256 * (d + 256 * 0)))) (omega arith))

byte_back : (b : ℕ) → b % 16 + 16 * (b / 16) ≡ b
byte_back b = omega arith

pub same_bytes : (a b b' : ℕ) (xs xs' ys ys' : List ℕ) → b ≡ b' → xs ≡ xs' → ys ≡ ys' → a ∷ b ∷ (xs ++ ys) ≡ a ∷ b' ∷ (xs' ++ ys')
same_bytes a b b' xs xs' ys ys' p q r = cc

eight : (a b c d e f g h : ℕ) → AreBytes (a ∷ b ∷ c ∷ d ∷ e ∷ f ∷ g ∷ h ∷ []) → a ∷ b ∷ c ∷ d ∷ e ∷ f ∷ g ∷ h ∷ [] ≡ slot_of (fields_at (a ∷ b ∷ c ∷ d ∷ e ∷ f ∷ g ∷ h ∷ []))
unfolding slot_of fields_at
eight a b c d e f g h fits = sym (same_bytes a _ b _ (c ∷ d ∷ []) _ (e ∷ f ∷ g ∷ h ∷ []) (byte_back b) (pair_back c d (fits 2) (fits 3)) (four_back e f g h (fits 4) (fits 5) (fits 6) (fits 7)))

pub slot_back : (s : List ℕ) → length s ≡ 8 → AreBytes s → s ≡ slot_of (fields_at s)
slot_back [] l fits = absurd (omega arith)
slot_back (a ∷ []) l fits = absurd (omega arith)
slot_back (a ∷ b ∷ []) l fits = absurd (omega arith)
slot_back (a ∷ b ∷ c ∷ []) l fits = absurd (omega arith)
slot_back (a ∷ b ∷ c ∷ d ∷ []) l fits = absurd (omega arith)
slot_back (a ∷ b ∷ c ∷ d ∷ e ∷ []) l fits = absurd (omega arith)
slot_back (a ∷ b ∷ c ∷ d ∷ e ∷ f ∷ []) l fits = absurd (omega arith)
slot_back (a ∷ b ∷ c ∷ d ∷ e ∷ f ∷ g ∷ []) l fits = absurd (omega arith)
slot_back (a ∷ b ∷ c ∷ d ∷ e ∷ f ∷ g ∷ h ∷ []) l fits = eight a b c d e f g h fits
slot_back (a ∷ b ∷ c ∷ d ∷ e ∷ f ∷ g ∷ h ∷ i ∷ s) l fits = absurd (omega arith)

abbrev pub made : ℕ → ℕ → ℕ → ℤ → ℤ → Fields
made o d s x y = record { opcode = o; dst = d; src = s; offset = x; imm = y }

pub same_fields : (o d d' s s' : ℕ) (x x' y y' : ℤ) → d ≡ d' → s ≡ s' → x ≡ x' → y ≡ y' → made o d s x y ≡ made o d' s' x' y'
same_fields o d d' s s' x x' y y' p q r t = cc

unsigned_two : (z : ℤ) → FitsSigned w16 z → cast_unsigned w16 z < 2 ^ 16
unsigned_two z h = let k = Fits-of_z {w = w16} {z = z} h in omega arith

pub unsigned_four : (z : ℤ) → FitsSigned w32 z → cast_unsigned w32 z < 2 ^ 32
unsigned_four z h = let k = Fits-of_z {w = w32} {z = z} h in omega arith

pub fields_back : (f : Fields) → FitsSlot f → fields_at (slot_of f) ≡ f
unfolding slot_of fields_at
fields_back f fits =
    same_fields f.opcode _ f.dst _ f.src _ f.offset _ f.imm
    (omega (arith, fits.dst))
    (omega (arith, fits.dst))
    (ap (cast_signed w16) (low_two (cast_unsigned w16 f.offset) (unsigned_two f.offset fits.offset)) ∙ to_z-of_z w16 f.offset fits.offset)
    (ap (cast_signed w32) (low_four (cast_unsigned w32 f.imm) (unsigned_four f.imm fits.imm)) ∙ to_z-of_z w32 f.imm fits.imm)

-- equal slots have equal fields
pub fields_same : (f g : Fields) → FitsSlot f → FitsSlot g → slot_of f ≡ slot_of g → f ≡ g
fields_same f g p q e = sym (fields_back f p) ∙ ap fields_at e ∙ fields_back g q

-- eight bytes put together are the slot
pub written : (f : Fields) (o i : List ℕ) → FitsSlot f → o ≡ little_bytes 2 (cast_unsigned w16 (cast_signed w16 (cast_unsigned w16 f.offset)))
    → i ≡ little_bytes 4 (cast_unsigned w32 (cast_signed w32 (cast_unsigned w32 f.imm)))
    → f.opcode ∷ (f.dst + 16 * f.src) ∷ get_or o 0 0 ∷ get_or o 1 0 ∷ get_or i 0 0 ∷ get_or i 1 0 ∷ get_or i 2 0 ∷ get_or i 3 0 ∷ [] ≡ slot_of f
unfolding slot_of
written f o i fits p q =
    let e : o ≡ little_bytes 2 (cast_unsigned w16 f.offset) = p ∙ ap (λ z. little_bytes 2 (cast_unsigned w16 z)) (to_z-of_z w16 f.offset fits.offset) in
    let k : i ≡ little_bytes 4 (cast_unsigned w32 f.imm) = q ∙ ap (λ z. little_bytes 4 (cast_unsigned w32 z)) (to_z-of_z w32 f.imm fits.imm) in
    rw (e, k) refl

-- the fields read are the slot's fields
pub read_fields : (s : List ℕ) (x y : ℤ) → FitsSigned w16 x → FitsSigned w32 y → x ≡ cast_signed w16 (little_from 2 2 s) → y ≡ cast_signed w32 (little_from 4 4 s)
    → made (get_or s 0 0) (get_or s 1 0 % 16) (get_or s 1 0 / 16) (cast_signed w16 (cast_unsigned w16 x)) (cast_signed w32 (cast_unsigned w32 y)) ≡ fields_at s
unfolding fields_at
read_fields s x y f g p q = same_fields _ _ _ _ _ _ _ _ _ refl refl (to_z-of_z w16 x f ∙ p) (to_z-of_z w32 y g ∙ q)
