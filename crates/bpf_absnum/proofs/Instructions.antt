-- Abstract results of instructions contain each result of the machine.
use Rattle.std.proofs.Common.{ℕ, ◌≡◌, ◌+◌, ◌-◌, ◌%◌, ◌^◌, ◌<◌, ◌≤◌, refl, sym, ap, subst, ◌∙◌, arith, ⊎_elim, true, false, cond, Bool, ◌&&◌, ◌||◌}
use Rattle.std.specs.Prelude.{nat_lt}
use Rattle.std.proofs.lemmas.Bool.{cond_both, cond-true, and_parts, or_cases, ltb-true, lt-ltb}
use Rattle.std.proofs.lemmas.Nat.{pow_pos}
use Rattle.std.proofs.Math.Nat.{mod-lt, mod-eq_of_lt}
use Rattle.std.proofs.Math.Pow.{mod-mod-pow, pow_mono}
use Rattle.bpf_insn.specs.declared.insn.AluOp.{AluOp}
use Rattle.bpf_insn.specs.declared.insn.AluOp.TheVariants.{Add, Sub, Mul, Div, Or, And, Lsh, Rsh, Mod, Xor, Mov, Arsh, Sdiv, Smod}
use Rattle.bpf_insn.specs.declared.insn.ByteOrder.{ByteOrder}
use Rattle.bpf_insn.specs.declared.insn.ByteOrder.TheVariants.{Little, Big, Swap}
use Rattle.bpf_insn.specs.declared.insn.Extension.{Extension}
use Rattle.bpf_insn.specs.declared.insn.Extension.TheVariants as extension
use Rattle.bpf_insn.specs.declared.insn.OrderWidth.{OrderWidth}
use Rattle.bpf_insn.specs.declared.insn.OrderWidth.TheVariants as width
use Rattle.bpf_insn.specs.Widths.{extension_bits, order_bits}
use Rattle.bpf_model.specs.Alu.{computed, negation, extended, ordered}
use Rattle.bpf_words.specs.Word.{sign_extended, swapped}
use Rattle.bpf_words.proofs.Swap.{swap_16-lt, swap_32-lt, swap_64-lt}
use Rattle.bpf_tnum.specs.Tnum.{tnum_full, tnum_cut}
use Rattle.bpf_tnum.proofs.Low as low
use Rattle.bpf_interval.specs.Interval.{bounds, bounds_full, bounds_of_bits, bounds_included}
use Rattle.bpf_interval.specs.Signed.{InSigned, signed_of_bits}
use Rattle.bpf_interval.proofs.Sound as ends
use Rattle.bpf_interval.proofs.SoundSigned as signs
use Rattle.bpf_absnum.specs.Number.{Num, InNum, num_tighten, num_again, num_full, num_single, num_cut, is_single, or_full}
use Rattle.bpf_absnum.specs.Transfer.{num_tight, kept, num_row, is_move, all_single, num_alu, num_negated, row_extended, row_extended_32, num_extended, row_ordered, num_ordered, num_within, num_loaded, num_loaded_signed}
use Rattle.bpf_absnum.specs.Laws.{CutContains, AluContains, NegatedContains, ExtendedContains, OrderedContains, WithinContains, LoadedContains, LoadedSignedContains}
use Rattle.bpf_absnum.proofs.Rows.{tight_keeps, kept_keeps, full_keeps, single_keeps, signed_keeps, single_is, unsigned_keeps, range_keeps, wide_row_keeps, narrow_row_keeps}

pub cut_keeps : CutContains
unfolding num_cut
cut_keeps a x h =
    cond_both (nat_lt a.range.high (2 ^ 32)) (or_full (num_again a)) (or_full (num_tighten (bounds 0 (2 ^ 32 - 1)) bounds_full (tnum_cut 32 a.bits))) (λ n. InNum n (x % 2 ^ 32))
    (λ t.
    let same : x % 2 ^ 32 ≡ x = omega (arith, ltb-true a.range.high (2 ^ 32) t, h.within.below) in
    subst (InNum (kept a)) (sym same) (kept_keeps a x h))
    (λ _. unsigned_keeps (bounds 0 (2 ^ 32 - 1)) (tnum_cut 32 a.bits) (x % 2 ^ 32)
    (record { above = omega arith; below = omega arith; fits = omega arith }) (low.cut_contains a.bits 32 x (omega arith) h.known))

-- ---- ALU

computed-lt : (wide : Bool) (op : AluOp) (x y : ℕ) → x < 2 ^ 64 → y < 2 ^ 64 → computed wide op x y < 2 ^ 64
computed-lt true op x y p q = (wide_row_keeps op num_full num_full x y (full_keeps x p) (full_keeps y q)).known.is_word
computed-lt false op x y p q =
    let l : x % 2 ^ 32 < 2 ^ 32 = omega arith in
    let r : y % 2 ^ 32 < 2 ^ 32 = omega arith in
    let low = narrow_row_keeps num_full num_full (x % 2 ^ 32) (y % 2 ^ 32) l r (full_keeps (x % 2 ^ 32) (omega arith)) (full_keeps (y % 2 ^ 32) (omega arith)) op in
    omega (arith, low.low_is)

move_is : (op : AluOp) → is_move op ≡ true → op ≡ Mov
move_is Mov t = refl
move_is Add t = absurd (cc)
move_is Sub t = absurd (cc)
move_is Mul t = absurd (cc)
move_is Div t = absurd (cc)
move_is Or t = absurd (cc)
move_is And t = absurd (cc)
move_is Lsh t = absurd (cc)
move_is Rsh t = absurd (cc)
move_is Mod t = absurd (cc)
move_is Xor t = absurd (cc)
move_is Arsh t = absurd (cc)
move_is Sdiv t = absurd (cc)
move_is Smod t = absurd (cc)

move_computes : (op : AluOp) (wide : Bool) (m x y : ℕ) → is_move op ≡ true → computed wide op m y ≡ computed wide op x y
move_computes op wide m x y t = subst (λ o. computed wide o m y ≡ computed wide o x y) (sym (move_is op t)) (same wide)
  where
    same : (w : Bool) → computed w Mov m y ≡ computed w Mov x y
    same true = refl
    same false = refl

wide_move : (op : AluOp) (wide : Bool) (x y : ℕ) → (wide && is_move op) ≡ true → computed wide op x y ≡ y
wide_move op wide x y t =
    let parts = and_parts wide (is_move op) t in
    subst (λ o. computed wide o x y ≡ y) (sym (move_is op parts.1)) (cond-true wide y (y % 2 ^ 32) parts.0)

single_computes : (op : AluOp) (wide : Bool) (a b : Num) (x y : ℕ) → all_single op a b ≡ true → InNum a x → InNum b y
    → computed wide op a.range.low b.range.low ≡ computed wide op x y
single_computes op wide a b x y t h k =
    let parts = and_parts (is_single b) (is_move op || is_single a) t in
    ap (computed wide op a.range.low) (single_is b y parts.0 k)
    ∙ ⊎_elim (λ m. move_computes op wide a.range.low x y m) (λ s. ap (λ l. computed wide op l y) (single_is a x s h)) (or_cases (is_move op) (is_single a) parts.1)

pub alu_keeps : AluContains
unfolding num_alu
alu_keeps wide op a b x y h k =
    let z = computed wide op x y in
    let P : Num → Type 0 = λ n. InNum n z in
    let single = num_single (computed wide op a.range.low b.range.low) in
    let by_row = cond wide (num_row true op a b) (num_cut (num_row false op (num_cut a) (num_cut b))) in
    cond_both (wide && is_move op) b (cond (all_single op a b) single by_row) P
    (λ t. subst (InNum b) (sym (wide_move op wide x y t)) k)
    (λ _. cond_both (all_single op a b) single by_row P
    (λ t. subst (λ n. InNum (num_single n) z) (sym (single_computes op wide a b x y t h k)) (single_keeps z (computed-lt wide op x y h.known.is_word k.known.is_word)))
    (λ _. row_keeps wide op a b x y h k))
  where
    row_keeps : (w : Bool) (op : AluOp) (a b : Num) (x y : ℕ) → InNum a x → InNum b y
        → InNum (cond w (num_row true op a b) (num_cut (num_row false op (num_cut a) (num_cut b)))) (computed w op x y)
    row_keeps true op a b x y h k = wide_row_keeps op a b x y h k
    row_keeps false op a b x y h k =
        let low = narrow_row_keeps (num_cut a) (num_cut b) (x % 2 ^ 32) (y % 2 ^ 32) (omega arith) (omega arith) (cut_keeps a x h) (cut_keeps b y k) op in
        subst (InNum (num_cut (num_row false op (num_cut a) (num_cut b)))) low.low_is
        (cut_keeps (num_row false op (num_cut a) (num_cut b)) low.word low.member)

negation_is : (wide : Bool) (x : ℕ) → x < 2 ^ 64 → computed wide Sub 0 x ≡ negation wide x
negation_is true x h = omega arith
negation_is false x h = omega arith

pub negated_keeps : NegatedContains
unfolding num_negated
negated_keeps wide a x h =
    subst (InNum (num_alu wide Sub (num_single 0) a)) (negation_is wide x h.known.is_word)
    (alu_keeps wide Sub (num_single 0) a 0 x (single_keeps 0 (omega arith)) h)

-- ---- MOVSX

extended-lt : (w n x : ℕ) → n ≤ w → sign_extended w n x < 2 ^ w
extended-lt w n x within =
    let whole : 2 ^ n ≤ 2 ^ w = pow_mono within in
    let less : x % 2 ^ n < 2 ^ n = mod-lt x (pow_pos n) in
    cond_both (nat_lt (x % 2 ^ n) (2 ^ (n - 1))) (x % 2 ^ n) (x % 2 ^ n + (2 ^ w - 2 ^ n)) (λ z. z < 2 ^ w) (λ _. omega arith) (λ _. omega arith)

-- a word below 2 ^ (n - 1) is its own low n bits
extended_small : (w n x : ℕ) → 1 ≤ n → x < 2 ^ (n - 1) → sign_extended w n x ≡ x
extended_small w n x some h =
    let below : n - 1 ≤ n = omega arith in
    let less : 2 ^ (n - 1) ≤ 2 ^ n = pow_mono below in
    let e : x % 2 ^ n ≡ x = mod-eq_of_lt (omega arith) in
    cond-true (nat_lt (x % 2 ^ n) (2 ^ (n - 1))) _ _ (lt-ltb (x % 2 ^ n) (2 ^ (n - 1)) (omega arith)) ∙ e

signed_fits : (n : ℕ) → 1 ≤ n → n ≤ 64 → (signed_of_bits n).high < 2 ^ 64
unfolding signed_of_bits
signed_fits n some within =
    let below : n - 1 ≤ 63 = omega arith in
    let less : 2 ^ (n - 1) ≤ 2 ^ 63 = pow_mono below in
    omega (arith, pow_pos (n - 1))

wide_extended_keeps : (n : ℕ) (a : Num) (x : ℕ) → 1 ≤ n → n ≤ 64 → InNum a x → InNum (row_extended n a) (sign_extended 64 n x)
unfolding row_extended
wide_extended_keeps n a x some within h =
    let z = sign_extended 64 n x in
    let fits : z < 2 ^ 64 = extended-lt 64 n x within in
    let reads = signs.extension_contains n x some within in
    let part = num_tight a.range (signed_of_bits n) a.bits in
    let rest = num_tight bounds_full (signed_of_bits n) tnum_full in
    cond_both (bounds_included a.signed (signed_of_bits n)) (kept a) (cond (nat_lt a.range.high (2 ^ (n - 1))) part rest) (λ r. InNum r z)
    (λ t.
    let inside : InSigned (signed_of_bits n) x = ends.included_contains a.signed (signed_of_bits n) _ (signed_fits n some within) t h.reads in
    subst (InNum (kept a)) (sym (signs.extension_keeps n x some within h.known.is_word inside)) (kept_keeps a x h))
    (λ _. cond_both (nat_lt a.range.high (2 ^ (n - 1))) part rest (λ r. InNum r z)
    (λ t.
    let same : z ≡ x = extended_small 64 n x some (omega (arith, ltb-true a.range.high (2 ^ (n - 1)) t, h.within.below)) in
    tight_keeps a.range (signed_of_bits n) a.bits z (rw same h.within) reads (rw same h.known))
    (λ _. signed_keeps (signed_of_bits n) z fits reads))

-- in ALU, of a low half
narrow_extended_keeps : (n : ℕ) (c : Num) (x z : ℕ) → z < 2 ^ 32 → InNum c (x % 2 ^ 32) → (x % 2 ^ 32 < 2 ^ (n - 1) → z ≡ x % 2 ^ 32) → InNum (row_extended_32 n c) z
unfolding row_extended_32
narrow_extended_keeps n c x z fits h small =
    cond_both (nat_lt c.range.high (2 ^ (n - 1))) (kept c) num_full (λ r. InNum r z)
    (λ t.
    let same = small (omega (arith, ltb-true c.range.high (2 ^ (n - 1)) t, h.within.below)) in
    subst (InNum (kept c)) (sym same) (kept_keeps c (x % 2 ^ 32) h))
    (λ _. full_keeps z (omega arith))

low_of_half : (n x : ℕ) → n ≤ 32 → x % 2 ^ 32 % 2 ^ n ≡ x % 2 ^ n
low_of_half n x within = let e : 32 ≡ (32 - n) + n = omega arith in ap (λ k. x % 2 ^ k % 2 ^ n) e ∙ mod-mod-pow x (32 - n) n

extended_half : (n x : ℕ) → n ≤ 32 → sign_extended 32 n (x % 2 ^ 32) ≡ sign_extended 32 n x
extended_half n x within =
    ap (λ r. cond (nat_lt r (2 ^ (n - 1))) r (r + (2 ^ 32 - 2 ^ n))) (low_of_half n x within)

half_small : (n x : ℕ) → 1 ≤ n → n ≤ 32 → x % 2 ^ 32 < 2 ^ (n - 1) → sign_extended 32 n x ≡ x % 2 ^ 32
half_small n x some within h = sym (extended_half n x within) ∙ extended_small 32 n (x % 2 ^ 32) some h

narrow_is_half : (from : Extension) (x : ℕ) → (extended from false x < 2 ^ 32) × (x % 2 ^ 32 < 2 ^ (extension_bits from - 1) → extended from false x ≡ x % 2 ^ 32)
narrow_is_half extension.Byte x = (extended-lt 32 8 x (omega arith), half_small 8 x (omega arith) (omega arith))
narrow_is_half extension.Half x = (extended-lt 32 16 x (omega arith), half_small 16 x (omega arith) (omega arith))
narrow_is_half extension.Word x = (omega arith, λ _. refl)

wide_is_extended : (from : Extension) (x : ℕ) → extended from true x ≡ sign_extended 64 (extension_bits from) x
wide_is_extended extension.Byte x = refl
wide_is_extended extension.Half x = refl
wide_is_extended extension.Word x = refl

bits_of_extension : (from : Extension) → (1 ≤ extension_bits from) × (extension_bits from ≤ 64)
bits_of_extension extension.Byte = (omega arith, omega arith)
bits_of_extension extension.Half = (omega arith, omega arith)
bits_of_extension extension.Word = (omega arith, omega arith)

extended_fits : (from : Extension) (wide : Bool) (x : ℕ) → extended from wide x < 2 ^ 64
extended_fits from true x = rw (wide_is_extended from x) (extended-lt 64 (extension_bits from) x (bits_of_extension from).1)
extended_fits from false x = omega (arith, (narrow_is_half from x).0)

extended_row : (from : Extension) (wide : Bool) (a : Num) (x : ℕ) → InNum a x
    → InNum (cond wide (row_extended (extension_bits from) a) (num_cut (row_extended_32 (extension_bits from) (num_cut a)))) (extended from wide x)
extended_row from true a x h =
    let bits = bits_of_extension from in
    rw (wide_is_extended from x) (wide_extended_keeps (extension_bits from) a x bits.0 bits.1 h)
extended_row from false a x h =
    let z = extended from false x in
    let half = narrow_is_half from x in
    let same : z % 2 ^ 32 ≡ z = omega (arith, half.0) in
    subst (InNum (num_cut (row_extended_32 (extension_bits from) (num_cut a)))) same
    (cut_keeps (row_extended_32 (extension_bits from) (num_cut a)) z
    (narrow_extended_keeps (extension_bits from) (num_cut a) x z half.0 (cut_keeps a x h) half.1))

pub extended_keeps : ExtendedContains
unfolding num_extended
extended_keeps from wide a x h =
    let z = extended from wide x in
    cond_both (is_single a) (num_single (extended from wide a.range.low)) (cond wide (row_extended (extension_bits from) a) (num_cut (row_extended_32 (extension_bits from) (num_cut a))))
    (λ r. InNum r z)
    (λ t. subst (λ l. InNum (num_single (extended from wide l)) z) (sym (single_is a x t h)) (single_keeps z (extended_fits from wide x)))
    (λ _. extended_row from wide a x h)

-- ---- END

swapped_fits : (w : OrderWidth) (x : ℕ) → swapped (order_bits w) x < 2 ^ order_bits w
swapped_fits width.Half x = swap_16-lt (x % 2 ^ 16)
swapped_fits width.Word x = swap_32-lt (x % 2 ^ 32)
swapped_fits width.Double x = swap_64-lt x

ordered_fits : (order : ByteOrder) (w : OrderWidth) (x : ℕ) → ordered order w x < 2 ^ order_bits w
ordered_fits Little w x = mod-lt x (pow_pos (order_bits w))
ordered_fits Big w x = swapped_fits w x
ordered_fits Swap w x = swapped_fits w x

order_within : (w : OrderWidth) → order_bits w ≤ 64
order_within width.Half = omega arith
order_within width.Word = omega arith
order_within width.Double = omega arith

order_is_word : (order : ByteOrder) (w : OrderWidth) (x : ℕ) → ordered order w x < 2 ^ 64
order_is_word order w x = omega (arith, ordered_fits order w x, pow_mono (order_within w))

low_row : (w : OrderWidth) (a : Num) (x : ℕ) → InNum a x → InNum (num_tight (bounds_of_bits (order_bits w)) bounds_full (tnum_cut (order_bits w) a.bits)) (x % 2 ^ order_bits w)
low_row w a x h =
    unsigned_keeps (bounds_of_bits (order_bits w)) (tnum_cut (order_bits w) a.bits) (x % 2 ^ order_bits w)
    (ends.width_contains (order_bits w) (x % 2 ^ order_bits w) (order_within w) (mod-lt x (pow_pos (order_bits w))))
    (low.cut_contains a.bits (order_bits w) x (order_within w) h.known)

swapped_row : (w : OrderWidth) (x : ℕ) → InNum (num_tight (bounds_of_bits (order_bits w)) bounds_full tnum_full) (swapped (order_bits w) x)
swapped_row w x = range_keeps (bounds_of_bits (order_bits w)) (swapped (order_bits w) x) (ends.width_contains (order_bits w) (swapped (order_bits w) x) (order_within w) (swapped_fits w x))

ordered_row : (order : ByteOrder) (w : OrderWidth) (a : Num) (x : ℕ) → InNum a x → InNum (row_ordered order w a) (ordered order w x)
unfolding row_ordered
ordered_row Little width.Double a x h =
    let same : x % 2 ^ 64 ≡ x = omega (arith, h.known.is_word) in
    rw same (unsigned_keeps a.range a.bits x h.within h.known)
ordered_row Little width.Half a x h = low_row width.Half a x h
ordered_row Little width.Word a x h = low_row width.Word a x h
ordered_row Big width.Half a x h = swapped_row width.Half x
ordered_row Big width.Word a x h = swapped_row width.Word x
ordered_row Big width.Double a x h = swapped_row width.Double x
ordered_row Swap width.Half a x h = swapped_row width.Half x
ordered_row Swap width.Word a x h = swapped_row width.Word x
ordered_row Swap width.Double a x h = swapped_row width.Double x

pub ordered_keeps : OrderedContains
unfolding num_ordered
ordered_keeps order w a x h =
    let z = ordered order w x in
    cond_both (is_single a) (num_single (ordered order w a.range.low)) (row_ordered order w a) (λ r. InNum r z)
    (λ t. subst (λ l. InNum (num_single (ordered order w l)) z) (sym (single_is a x t h)) (single_keeps z (order_is_word order w x)))
    (λ _. ordered_row order w a x h)

-- ---- what is loaded

pub within_keeps : WithinContains
unfolding num_within
within_keeps r x h = range_keeps r x h

pub loaded_keeps : LoadedContains
unfolding num_loaded
loaded_keeps n x within fits = within_keeps (bounds_of_bits n) x (ends.width_contains n x within fits)

pub loaded_signed_keeps : LoadedSignedContains
unfolding num_loaded_signed
loaded_signed_keeps n x some within = signed_keeps (signed_of_bits n) (sign_extended 64 n x) (extended-lt 64 n x within) (signs.extension_contains n x some within)
