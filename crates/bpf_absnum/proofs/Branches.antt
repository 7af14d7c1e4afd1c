-- A branch of a conditional jump keeps every pair of words that takes it.
use Rattle.std.proofs.Common.{ℕ, zero, suc, ◌≡◌, ◌+◌, ◌*◌, ◌/◌, ◌%◌, ◌^◌, ◌<◌, ◌≤◌, refl, sym, ap, subst, ◌∙◌, arith, Some, None, Option, ⊎_elim, true, false, not, cond, Bool, ◌&&◌, ◌==◌, bit_and, bit_or}
use Rattle.std.specs.Prelude.{nat_eq, nat_lt, count_ones}
use Rattle.std.specs.Int.{bit_at, is_power_of_two}
use Rattle.std.specs.Int.Bits.{and_zero_r}
use Rattle.std.proofs.lemmas.Bool.{cond_both, and_parts, not-true, not-false, ltb-true, ltb-false, leb-true, leb-false, eqb-true, eqb-false}
use Rattle.std.proofs.lemmas.Nat.{and_assoc, and_comm, ones_cat, ones_le_self, zero_from_ones}
use Rattle.std.proofs.lemmas.Nat.Bits.{and_pow, bit_at-lt}
use Rattle.std.proofs.Math.Nat.{pow-suc}
use Rattle.bpf_insn.specs.declared.insn.Compare.{Compare}
use Rattle.bpf_insn.specs.declared.insn.Compare.TheVariants.{Eq, Gt, Ge, Set, Ne, Sgt, Sge, Lt, Le, Slt, Sle}
use Rattle.bpf_model.specs.Alu.{holds}
use Rattle.bpf_words.specs.Word.{word_not, signed_place}
use Rattle.bpf_words.proofs.Bits.{bit_cases}
use Rattle.bpf_tnum.specs.Tnum.{Bits, InTnum, tnum_of, tnum_meet}
use Rattle.bpf_tnum.proofs.Contains.{most, most_is_or, within_most}
use Rattle.bpf_tnum.proofs.Meet.{meet_contains, clear_contains, set_contains}
use Rattle.bpf_interval.specs.Interval.{Bounds, InBounds, after_greater, after_at_most, bounds_meet, without_end}
use Rattle.bpf_interval.specs.Signed.{InSigned, place}
use Rattle.bpf_interval.proofs.Sound as ends
use Rattle.bpf_interval.proofs.SoundSigned.{place_twice}
use Rattle.bpf_absnum.specs.Number.{Num, InNum, num_of, num_again, is_single, and_then}
use Rattle.bpf_absnum.specs.Branch.{NumPair, pair_of, turned, with_range, with_signed, num_greater, num_at_most, num_signed_greater, num_signed_at_most, num_equal, num_without, num_met, num_some_set, num_none_set, by_single, num_holds, num_fails, is_signed, tells, goes, compares, num_branch}
use Rattle.bpf_absnum.specs.Laws.{BranchKeeps}
use Rattle.bpf_absnum.proofs.Tighten.{Gives, then_gives, tighten_gives}
use Rattle.bpf_absnum.proofs.Rows.{single_is}

-- both words are kept
abbrev IsPair : ℕ → ℕ → (Num × Num) → Type 0
IsPair x y p = InNum p.0 x × InNum p.1 y

abbrev Keeps : ℕ → ℕ → NumPair → Type 0
Keeps x y = Gives (IsPair x y)

again_gives : (a : Num) (x : ℕ) → InNum a x → Gives (λ n. InNum n x) (num_again a)
again_gives a x h = tighten_gives a.range a.signed a.bits x h.within h.reads h.known

pair_keeps : (a b : Num) (x y : ℕ) → InNum a x → InNum b y → Keeps x y (pair_of a b)
unfolding pair_of
pair_keeps a b x y h k =
    then_gives (λ u. InNum u x) (IsPair x y) (num_again a) (λ u. and_then (num_again b) (λ v. Some (u, v))) (again_gives a x h)
    (λ u hu. then_gives (λ v. InNum v y) (IsPair x y) (num_again b) (λ v. Some (u, v)) (again_gives b y k)
    (λ v hv. ((u, v), refl, (hu, hv))))

turned_keeps : (o : NumPair) (x y : ℕ) → Keeps y x o → Keeps x y (turned o)
turned_keeps o x y g = then_gives (IsPair y x) (IsPair x y) o (λ p. Some (p.1, p.0)) g (λ p q. ((p.1, p.0), refl, (q.1, q.0)))

-- a with another part that also has x
in_range : (a : Num) (r : Bounds) (x : ℕ) → InBounds r x → InNum a x → InNum (with_range a r) x
in_range a r x k h = record { within = k; reads = h.reads; known = h.known }

in_signed : (a : Num) (s : Bounds) (x : ℕ) → InSigned s x → InNum a x → InNum (with_signed a s) x
in_signed a s x k h = record { within = h.within; reads = k; known = h.known }

in_bits : (a : Num) (t : Bits) (x : ℕ) → InTnum t x → InNum a x → InNum (num_of a.range a.signed t) x
in_bits a t x k h = record { within = h.within; reads = h.reads; known = k }

-- ---- order

module _ (a b : Num) (x y : ℕ) (h : InNum a x) (k : InNum b y) where
  greater_keeps : y < x → Keeps x y (num_greater a b)
  unfolding num_greater
  greater_keeps more =
      let g = ends.greater_keeps a.range b.range x y h.within k.within more in
      then_gives (λ (p : Bounds × Bounds). InBounds p.0 x × InBounds p.1 y) (IsPair x y) (after_greater a.range b.range) (λ p. pair_of (with_range a p.0) (with_range b p.1))
      (g.0, g.1, (g.2, g.3))
      (λ p q. pair_keeps (with_range a p.0) (with_range b p.1) x y (in_range a p.0 x q.0 h) (in_range b p.1 y q.1 k))

  at_most_keeps : x ≤ y → Keeps x y (num_at_most a b)
  unfolding num_at_most
  at_most_keeps less =
      let g = ends.at_most_keeps a.range b.range x y h.within k.within less in
      then_gives (λ (p : Bounds × Bounds). InBounds p.0 x × InBounds p.1 y) (IsPair x y) (after_at_most a.range b.range) (λ p. pair_of (with_range a p.0) (with_range b p.1))
      (g.0, g.1, (g.2, g.3))
      (λ p q. pair_keeps (with_range a p.0) (with_range b p.1) x y (in_range a p.0 x q.0 h) (in_range b p.1 y q.1 k))

  signed_greater_keeps : place y < place x → Keeps x y (num_signed_greater true a b)
  unfolding num_signed_greater
  signed_greater_keeps more =
      let g = ends.greater_keeps a.signed b.signed (place x) (place y) h.reads k.reads more in
      then_gives (λ (p : Bounds × Bounds). InSigned p.0 x × InSigned p.1 y) (IsPair x y) (after_greater a.signed b.signed) (λ p. pair_of (with_signed a p.0) (with_signed b p.1))
      (g.0, g.1, (g.2, g.3))
      (λ p q. pair_keeps (with_signed a p.0) (with_signed b p.1) x y (in_signed a p.0 x q.0 h) (in_signed b p.1 y q.1 k))

  signed_at_most_keeps : place x ≤ place y → Keeps x y (num_signed_at_most true a b)
  unfolding num_signed_at_most
  signed_at_most_keeps less =
      let g = ends.at_most_keeps a.signed b.signed (place x) (place y) h.reads k.reads less in
      then_gives (λ (p : Bounds × Bounds). InSigned p.0 x × InSigned p.1 y) (IsPair x y) (after_at_most a.signed b.signed) (λ p. pair_of (with_signed a p.0) (with_signed b p.1))
      (g.0, g.1, (g.2, g.3))
      (λ p q. pair_keeps (with_signed a p.0) (with_signed b p.1) x y (in_signed a p.0 x q.0 h) (in_signed b p.1 y q.1 k))

-- the order of a signed comparison: of places, or of low halves that aren't negative
abbrev place_in : Bool → ℕ → ℕ
place_in wide x = cond wide (place x) x

signed_greater_in : (wide : Bool) (a b : Num) (x y : ℕ) → InNum a x → InNum b y → place_in wide y < place_in wide x → Keeps x y (num_signed_greater wide a b)
unfolding num_signed_greater
signed_greater_in true a b x y h k more = signed_greater_keeps a b x y h k more
signed_greater_in false a b x y h k more = greater_keeps a b x y h k more

signed_at_most_in : (wide : Bool) (a b : Num) (x y : ℕ) → InNum a x → InNum b y → place_in wide x ≤ place_in wide y → Keeps x y (num_signed_at_most wide a b)
unfolding num_signed_at_most
signed_at_most_in true a b x y h k less = signed_at_most_keeps a b x y h k less
signed_at_most_in false a b x y h k less = at_most_keeps a b x y h k less

-- ---- equal and unequal

equal_rest : (wide : Bool) (a b : Num) (r : Bounds) (t : Bits) (x : ℕ) → InNum a x → InNum b x → InBounds r x → InTnum t x
    → Keeps x x (cond wide (and_then (bounds_meet a.signed b.signed) (λ s. pair_of (num_of r s t) (num_of r s t))) (pair_of (num_of r a.signed t) (num_of r b.signed t)))
equal_rest true a b r t x h k hr ht =
    then_gives (λ s. InSigned s x) (IsPair x x) (bounds_meet a.signed b.signed) (λ s. pair_of (num_of r s t) (num_of r s t))
    (ends.meet_contains a.signed b.signed (place x) h.reads k.reads)
    (λ s hs. let both : InNum (num_of r s t) x = record { within = hr; reads = hs; known = ht } in pair_keeps (num_of r s t) (num_of r s t) x x both both)
equal_rest false a b r t x h k hr ht =
    pair_keeps (num_of r a.signed t) (num_of r b.signed t) x x
    (record { within = hr; reads = h.reads; known = ht }) (record { within = hr; reads = k.reads; known = ht })

equal_keeps : (wide : Bool) (a b : Num) (x y : ℕ) → InNum a x → InNum b y → x ≡ y → Keeps x y (num_equal wide a b)
unfolding num_equal
equal_keeps wide a b x y h k same =
    let kx : InNum b x = subst (InNum b) (sym same) k in
    subst (λ n. Keeps x n (num_equal wide a b)) same
    (then_gives (λ r. InBounds r x) (IsPair x x) (bounds_meet a.range b.range) _ (ends.meet_contains a.range b.range x h.within kx.within)
    (λ r hr. then_gives (λ t. InTnum t x) (IsPair x x) (tnum_meet a.bits b.bits) _ (meet_contains a.bits b.bits x h.known kx.known)
    (λ t ht. equal_rest wide a b r t x h kx hr ht)))

places_differ : (x c : ℕ) → x < 2 ^ 64 → c < 2 ^ 64 → (x ≡ c → ⊥) → place x ≡ place c → ⊥
places_differ x c p q other e = other (sym (place_twice x p) ∙ ap place e ∙ place_twice c q)

without_keeps : (wide : Bool) (a : Num) (c x : ℕ) → c < 2 ^ 64 → InNum a x → (x ≡ c → ⊥) → Gives (λ n. InNum n x) (num_without wide a c)
unfolding num_without
without_keeps wide a c x fits h other =
    let Q : Num → Type 0 = λ n. InNum n x in
    then_gives (λ r. InBounds r x) Q (without_end a.range c) _ (ends.without_keeps a.range c x h.within other)
    (λ r hr. then_gives (λ s. InSigned s x) Q (cond wide (without_end a.signed (place c)) (Some a.signed)) (λ s. Some (num_of r s a.bits))
    (cond_both wide (without_end a.signed (place c)) (Some a.signed) (Gives (λ s. InSigned s x))
    (λ _. ends.without_keeps a.signed (place c) (place x) h.reads (places_differ x c h.known.is_word fits other))
    (λ _. (a.signed, refl, h.reads)))
    (λ s hs. (num_of r s a.bits, refl, record { within = hr; reads = hs; known = h.known })))

-- ---- bits

met_keeps : (a : Num) (t : Bits) (x : ℕ) → InNum a x → InTnum t x → Gives (λ n. InNum n x) (num_met a t)
unfolding num_met
met_keeps a t x h k =
    then_gives (λ u. InTnum u x) (λ n. InNum n x) (tnum_meet a.bits t) (λ u. Some (num_of a.range a.signed u)) (meet_contains a.bits t x h.known k)
    (λ u hu. (num_of a.range a.signed u, refl, in_bits a u x hu h))

none_set_keeps : (a : Num) (c x : ℕ) → c < 2 ^ 64 → InNum a x → bit_and x c ≡ 0 → Gives (λ n. InNum n x) (num_none_set a c)
unfolding num_none_set
none_set_keeps a c x fits h clear = met_keeps a (tnum_of 0 (word_not c)) x h (clear_contains c x fits h.known.is_word clear)

-- a number with one bit set is a power of 2
one_bit : (w n : ℕ) → n < 2 ^ w → count_ones n ≡ 1 → (k : ℕ) × (n ≡ 2 ^ k)
one_bit zero n fits one = absurd (omega (arith, ones_le_self n))
one_bit (suc w) n fits one =
    let split : count_ones (n / 2 * 2 ^ 1 + n % 2) ≡ count_ones (n / 2) + count_ones (n % 2) = ones_cat 1 (n / 2) (n % 2) (omega arith) in
    let whole : n / 2 * 2 ^ 1 + n % 2 ≡ n = omega arith in
    let sum : count_ones n ≡ count_ones (n / 2) + count_ones (n % 2) = ap count_ones (sym whole) ∙ split in
    ⊎_elim
    (λ even.
    let rest = one_bit w (n / 2) (omega (arith, pow-suc 2 w)) (omega (arith, ones_le_self (n % 2))) in
    (suc rest.0, omega (arith, rest.1, pow-suc 2 rest.0)))
    (λ odd. ⊎_elim
    (λ none. absurd (omega (arith, zero_from_ones (n % 2) none)))
    (λ some. (0, omega (arith, zero_from_ones (n / 2) (omega arith))))
    (bit_cases (count_ones (n % 2)) (omega (arith, ones_le_self (n % 2)))))
    (bit_cases (n % 2) (omega arith))

some_set_keeps : (a : Num) (c x : ℕ) → c < 2 ^ 64 → InNum a x → (bit_and x c ≡ 0 → ⊥) → Gives (λ n. InNum n x) (num_some_set a c)
unfolding num_some_set
some_set_keeps a c x fits h some =
    let P : Option Num → Type 0 = Gives (λ n. InNum n x) in
    let could = bit_and (bit_or a.bits.value a.bits.mask) c in
    cond_both (nat_eq could 0) None _ P
    (λ t.
    let gone : could ≡ 0 = eqb-true could 0 t in
    let gone_most : bit_and (most a.bits) c ≡ 0 = ap (λ n. bit_and n c) (sym (most_is_or a.bits x h.known)) ∙ gone in
    absurd (some (ap (λ n. bit_and n c) (sym (within_most a.bits x h.known)) ∙ and_assoc c x (most a.bits) ∙ ap (bit_and x) gone_most ∙ and_zero_r x)))
    (λ _. cond_both (is_power_of_two c) (num_met a (tnum_of c (word_not c))) (Some a) P
    (λ t.
    let power = one_bit 64 c fits (eqb-true (count_ones c) 1 t) in
    let k = power.0 in
    let at_bit : bit_and x c ≡ bit_at x k * 2 ^ k = ap (bit_and x) power.1 ∙ and_pow x k in
    let set : bit_and x c ≡ c =
    ⊎_elim (λ z. absurd (some (at_bit ∙ ap (λ d. d * 2 ^ k) z ∙ omega arith))) (λ o. at_bit ∙ ap (λ d. d * 2 ^ k) o ∙ omega (arith, power.1))
    (bit_cases (bit_at x k) (bit_at-lt x k)) in
    met_keeps a (tnum_of c (word_not c)) x h (set_contains c x fits h.known.is_word set))
    (λ _. (a, refl, h)))

-- ---- by the side that is single

by_single_keeps : (f : Num → ℕ → Option Num) (a b : Num) (x y : ℕ) → InNum a x → InNum b y
    → Gives (λ n. InNum n x) (f a y) → Gives (λ n. InNum n y) (f b x) → Keeps x y (by_single f a b)
unfolding by_single
by_single_keeps f a b x y h k one two =
    let by_b = and_then (f a b.range.low) (λ u. pair_of u b) in
    let by_a = and_then (f b a.range.low) (λ v. pair_of a v) in
    cond_both (is_single b) by_b (cond (is_single a) by_a (Some (a, b))) (Keeps x y)
    (λ t. then_gives (λ n. InNum n x) (IsPair x y) (f a b.range.low) (λ u. pair_of u b)
    (subst (λ c. Gives (λ n. InNum n x) (f a c)) (sym (single_is b y t k)) one) (λ u hu. pair_keeps u b x y hu k))
    (λ _. cond_both (is_single a) by_a (Some (a, b)) (Keeps x y)
    (λ t. then_gives (λ n. InNum n y) (IsPair x y) (f b a.range.low) (λ v. pair_of a v)
    (subst (λ c. Gives (λ n. InNum n y) (f b c)) (sym (single_is a x t h)) two) (λ v hv. pair_keeps a v x y h hv))
    (λ _. ((a, b), refl, (h, k))))

-- ---- every comparison

-- what it means that a comparison holds
abbrev Says : Bool → Compare → ℕ → ℕ → Type 0
Says wide Eq x y = x ≡ y
Says wide Ne x y = x ≡ y → ⊥
Says wide Gt x y = y < x
Says wide Ge x y = y ≤ x
Says wide Lt x y = x < y
Says wide Le x y = x ≤ y
Says wide Set x y = bit_and x y ≡ 0 → ⊥
Says wide Sgt x y = place_in wide y < place_in wide x
Says wide Sge x y = place_in wide y ≤ place_in wide x
Says wide Slt x y = place_in wide x < place_in wide y
Says wide Sle x y = place_in wide x ≤ place_in wide y

abbrev Denies : Bool → Compare → ℕ → ℕ → Type 0
Denies wide Eq x y = x ≡ y → ⊥
Denies wide Ne x y = x ≡ y
Denies wide Gt x y = x ≤ y
Denies wide Ge x y = x < y
Denies wide Lt x y = y ≤ x
Denies wide Le x y = y < x
Denies wide Set x y = bit_and x y ≡ 0
Denies wide Sgt x y = place_in wide x ≤ place_in wide y
Denies wide Sge x y = place_in wide x < place_in wide y
Denies wide Slt x y = place_in wide y ≤ place_in wide x
Denies wide Sle x y = place_in wide y < place_in wide x

module _ (wide : Bool) (a b : Num) (x y : ℕ) (h : InNum a x) (k : InNum b y) where
  holds_keeps : (compare : Compare) → Says wide compare x y → Keeps x y (num_holds wide compare a b)
  unfolding num_holds
  holds_keeps Eq s = equal_keeps wide a b x y h k s
  holds_keeps Ne s =
      by_single_keeps (num_without wide) a b x y h k (without_keeps wide a y x k.known.is_word h s) (without_keeps wide b x y h.known.is_word k (λ e. s (sym e)))
  holds_keeps Gt s = greater_keeps a b x y h k s
  holds_keeps Ge s = turned_keeps (num_at_most b a) x y (at_most_keeps b a y x k h s)
  holds_keeps Lt s = turned_keeps (num_greater b a) x y (greater_keeps b a y x k h s)
  holds_keeps Le s = at_most_keeps a b x y h k s
  holds_keeps Set s =
      by_single_keeps num_some_set a b x y h k (some_set_keeps a y x k.known.is_word h s) (some_set_keeps b x y h.known.is_word k (λ e. s (and_comm x y ∙ e)))
  holds_keeps Sgt s = signed_greater_in wide a b x y h k s
  holds_keeps Sge s = turned_keeps (num_signed_at_most wide b a) x y (signed_at_most_in wide b a y x k h s)
  holds_keeps Slt s = turned_keeps (num_signed_greater wide b a) x y (signed_greater_in wide b a y x k h s)
  holds_keeps Sle s = signed_at_most_in wide a b x y h k s

  fails_keeps : (compare : Compare) → Denies wide compare x y → Keeps x y (num_fails wide compare a b)
  unfolding num_fails
  fails_keeps Eq s = holds_keeps Ne s
  fails_keeps Ne s = holds_keeps Eq s
  fails_keeps Gt s = holds_keeps Le s
  fails_keeps Ge s = holds_keeps Lt s
  fails_keeps Lt s = holds_keeps Ge s
  fails_keeps Le s = holds_keeps Gt s
  fails_keeps Set s =
      by_single_keeps num_none_set a b x y h k (none_set_keeps a y x k.known.is_word h s) (none_set_keeps b x y h.known.is_word k (and_comm y x ∙ s))
  fails_keeps Sgt s = holds_keeps Sle s
  fails_keeps Sge s = holds_keeps Slt s
  fails_keeps Slt s = holds_keeps Sge s
  fails_keeps Sle s = holds_keeps Sgt s

-- ---- the machine's test

wide_says : (compare : Compare) (x y : ℕ) → holds 64 compare x y ≡ true → Says true compare x y
wide_says Eq x y t = eqb-true x y t
wide_says Ne x y t = eqb-false x y (not-true (x == y) t)
wide_says Gt x y t = ltb-true y x t
wide_says Ge x y t = leb-true y x t
wide_says Lt x y t = ltb-true x y t
wide_says Le x y t = leb-true x y t
wide_says Set x y t = eqb-false (bit_and x y) 0 (not-true (bit_and x y == 0) t)
wide_says Sgt x y t = ltb-true (place y) (place x) t
wide_says Sge x y t = leb-true (place y) (place x) t
wide_says Slt x y t = ltb-true (place x) (place y) t
wide_says Sle x y t = leb-true (place x) (place y) t

wide_denies : (compare : Compare) (x y : ℕ) → holds 64 compare x y ≡ false → Denies true compare x y
wide_denies Eq x y t = eqb-false x y t
wide_denies Ne x y t = eqb-true x y (not-false (x == y) t)
wide_denies Gt x y t = ltb-false y x t
wide_denies Ge x y t = leb-false y x t
wide_denies Lt x y t = ltb-false x y t
wide_denies Le x y t = leb-false x y t
wide_denies Set x y t = eqb-true (bit_and x y) 0 (not-false (bit_and x y == 0) t)
wide_denies Sgt x y t = ltb-false (place y) (place x) t
wide_denies Sge x y t = leb-false (place y) (place x) t
wide_denies Slt x y t = ltb-false (place x) (place y) t
wide_denies Sle x y t = leb-false (place x) (place y) t

-- low halves below a limit: the signed places of those below 2 ^ 31 are in their order
abbrev limit_of : Compare → ℕ
limit_of compare = cond (is_signed compare) (2 ^ 31) (2 ^ 32)

abbrev half_place : ℕ → ℕ
half_place x = signed_place 32 x

narrow_says : (compare : Compare) (x y : ℕ) → x < limit_of compare → y < limit_of compare → holds 32 compare x y ≡ true → Says false compare x y
narrow_says Eq x y p q t = eqb-true x y t
narrow_says Ne x y p q t = eqb-false x y (not-true (x == y) t)
narrow_says Gt x y p q t = ltb-true y x t
narrow_says Ge x y p q t = leb-true y x t
narrow_says Lt x y p q t = ltb-true x y t
narrow_says Le x y p q t = leb-true x y t
narrow_says Set x y p q t = eqb-false (bit_and x y) 0 (not-true (bit_and x y == 0) t)
narrow_says Sgt x y p q t = omega (arith, ltb-true (half_place y) (half_place x) t)
narrow_says Sge x y p q t = omega (arith, leb-true (half_place y) (half_place x) t)
narrow_says Slt x y p q t = omega (arith, ltb-true (half_place x) (half_place y) t)
narrow_says Sle x y p q t = omega (arith, leb-true (half_place x) (half_place y) t)

narrow_denies : (compare : Compare) (x y : ℕ) → x < limit_of compare → y < limit_of compare → holds 32 compare x y ≡ false → Denies false compare x y
narrow_denies Eq x y p q t = eqb-false x y t
narrow_denies Ne x y p q t = eqb-true x y (not-false (x == y) t)
narrow_denies Gt x y p q t = ltb-false y x t
narrow_denies Ge x y p q t = leb-false y x t
narrow_denies Lt x y p q t = ltb-false x y t
narrow_denies Le x y p q t = leb-false x y t
narrow_denies Set x y p q t = eqb-true (bit_and x y) 0 (not-false (bit_and x y == 0) t)
narrow_denies Sgt x y p q t = omega (arith, ltb-false (half_place y) (half_place x) t)
narrow_denies Sge x y p q t = omega (arith, leb-false (half_place y) (half_place x) t)
narrow_denies Slt x y p q t = omega (arith, ltb-false (half_place x) (half_place y) t)
narrow_denies Sle x y p q t = omega (arith, leb-false (half_place x) (half_place y) t)

-- ---- one branch

-- the limits that JMP32 requires
told_limits : (compare : Compare) (a b : Num) (x y : ℕ) → tells false compare a b ≡ true → InNum a x → InNum b y → (x < limit_of compare) × (y < limit_of compare)
told_limits compare a b x y t h k =
    let parts = and_parts (nat_lt a.range.high (limit_of compare)) (nat_lt b.range.high (limit_of compare)) t in
    (omega (arith, ltb-true a.range.high (limit_of compare) parts.0, h.within.below), omega (arith, ltb-true b.range.high (limit_of compare) parts.1, k.within.below))

limit_is_half : (compare : Compare) → limit_of compare ≤ 2 ^ 32
limit_is_half compare = cond_both (is_signed compare) (2 ^ 31) (2 ^ 32) (λ l. l ≤ 2 ^ 32) (λ _. omega arith) (λ _. omega arith)

-- the machine's test, of words that are low halves
half_test : (compare : Compare) (x y : ℕ) (t : Bool) → x < limit_of compare → y < limit_of compare → compares false compare x y ≡ t → holds 32 compare x y ≡ t
half_test compare x y t p q e =
    let l = limit_is_half compare in
    let ex : x % 2 ^ 32 ≡ x = omega arith in
    let ey : y % 2 ^ 32 ≡ y = omega arith in
    sym (λ i. holds 32 compare (ex i) (ey i)) ∙ e

told_keeps : (wide : Bool) (compare : Compare) (taken : Bool) (a b : Num) (x y : ℕ) → InNum a x → InNum b y → tells wide compare a b ≡ true → compares wide compare x y ≡ taken
    → Keeps x y (cond taken (num_holds wide compare a b) (num_fails wide compare a b))
told_keeps true compare true a b x y h k u e = holds_keeps true a b x y h k compare (wide_says compare x y e)
told_keeps true compare false a b x y h k u e = fails_keeps true a b x y h k compare (wide_denies compare x y e)
told_keeps false compare true a b x y h k u e =
    let l = told_limits compare a b x y u h k in
    holds_keeps false a b x y h k compare (narrow_says compare x y l.0 l.1 (half_test compare x y true l.0 l.1 e))
told_keeps false compare false a b x y h k u e =
    let l = told_limits compare a b x y u h k in
    fails_keeps false a b x y h k compare (narrow_denies compare x y l.0 l.1 (half_test compare x y false l.0 l.1 e))

-- a branch is taken if the test says so
goes_along : (taken test : Bool) → test ≡ taken → goes taken test ≡ true
goes_along true test e = e
goes_along false test e = ap not e

branch_gives : (wide : Bool) (compare : Compare) (taken : Bool) (a b : Num) (x y : ℕ) → InNum a x → InNum b y → compares wide compare x y ≡ taken → Keeps x y (num_branch wide compare taken a b)
unfolding num_branch
branch_gives wide compare taken a b x y h k e =
    let decided = cond (goes taken (compares wide compare a.range.low b.range.low)) (Some (a, b)) None in
    let told = cond (tells wide compare a b) (cond taken (num_holds wide compare a b) (num_fails wide compare a b)) (Some (a, b)) in
    cond_both (is_single a && is_single b) decided told (Keeps x y)
    (λ t.
    let parts = and_parts (is_single a) (is_single b) t in
    let same : compares wide compare a.range.low b.range.low ≡ taken =
    (λ i. compares wide compare (single_is a x parts.0 h i) (single_is b y parts.1 k i)) ∙ e in
    cond_both (goes taken (compares wide compare a.range.low b.range.low)) (Some (a, b)) None (Keeps x y)
    (λ _. ((a, b), refl, (h, k)))
    (λ f. let g : true ≡ false = sym (goes_along taken (compares wide compare a.range.low b.range.low) same) ∙ f in absurd (cc)))
    (λ _. cond_both (tells wide compare a b) (cond taken (num_holds wide compare a b) (num_fails wide compare a b)) (Some (a, b)) (Keeps x y)
    (λ u. told_keeps wide compare taken a b x y h k u e)
    (λ _. ((a, b), refl, (h, k))))

pub branch_keeps : BranchKeeps
branch_keeps wide compare taken a b x y h k e = let g = branch_gives wide compare taken a b x y h k e in (g.0, g.1, g.2.0, g.2.1)
