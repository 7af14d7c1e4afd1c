-- The smallest fields.
use Rattle.std.proofs.Common.{◌≡◌, ℕ, ◌^◌, ◌<◌, ◌≤◌, Bool, true, false, cond, ltb, leb, List, [], ◌∷◌, ◌++◌, length, take, drop, Some, None, refl, sym, subst, arith}
use Rattle.std.specs.Int.{Width, w16, w32, w64, byte_len, from_le_bytes, to_le_bytes}
use Rattle.std.proofs.lemmas.Bool.{ltb-false, le-ltb, leb-true, le-leb, eqb-true, eq-eqb}
use Rattle.std.proofs.lemmas.List.{take_at, drop_at, take-append-drop, length-append, length-take}
use Rattle.std.proofs.lemmas.Nat.{le_bytes_2, le_bytes_4, le_bytes_8, from_le_bytes-to_le_bytes_2, from_le_bytes-to_le_bytes_4, from_le_bytes-to_le_bytes_8}
use Rattle.bpf_interval.specs.Signed.{place}
use Rattle.bpf_interval.proofs.SoundSigned.{place_twice}
use Rattle.bpf_absnum.specs.Number.{Num}
use Rattle.bpf_cert_format.specs.Fits.{FitsNumber, AreBytes}
use Rattle.bpf_cert_format.specs.Spelling.{number}
use Rattle.bpf_cert_format.specs.Reading.{Reader, chained, only_if, byte_at, word_at, taken, pair_at, are_ordered, are_apart, are_signed_ordered, number_of, number_at}
use Rattle.bpf_cert_format.proofs.Formats.{IsBytes, IsBytes-drop, IsBytes-take, IsBytes-rest, some_is, Takes, IsFormat, chained_format, read_as_format, only_if_format}

-- ---- a byte

byte_takes : (bytes : List ℕ) (x : ℕ × List ℕ) → IsBytes bytes → byte_at bytes ≡ Some x → Takes bytes (x.0 ∷ []) x.1 × (x.0 < 256)
byte_takes [] x fits e = absurd cc
byte_takes (b ∷ rest) x fits e =
    let made : ℕ × List ℕ = (b, rest) in
    subst (λ (y : ℕ × List ℕ). Takes (b ∷ rest) (y.0 ∷ []) y.1 × (y.0 < 256)) (some_is made x e) (record { parts = refl; rest_fits = IsBytes-rest b rest fits }, fits 0)

pub byte_format : IsFormat ℕ (λ b. b ∷ []) (λ b. b < 256) byte_at
byte_format = record { takes = byte_takes; again = λ b rest fits. refl }

-- ---- numbers

pub record IsWide (w : Width) (limit : ℕ) : Type 0 where
  pub len : (n : ℕ) → length (to_le_bytes w n) ≡ byte_len w
  pub back : (bytes : List ℕ) → length bytes ≡ byte_len w → IsBytes bytes → to_le_bytes w (from_le_bytes w bytes) ≡ bytes
  pub again : (n : ℕ) → n < limit → from_le_bytes w (to_le_bytes w n) ≡ n
  pub below : (bytes : List ℕ) → IsBytes bytes → from_le_bytes w bytes < limit

pub wide16 : IsWide w16 (2 ^ 16)
wide16 = record {
  len = λ n. refl;
  back = λ bytes len fits. le_bytes_2 bytes _ len fits refl;
  again = λ n lt. from_le_bytes-to_le_bytes_2 n lt;
  below = λ bytes fits. omega (arith, fits 0, fits 1);
}

pub wide32 : IsWide w32 (2 ^ 32)
wide32 = record {
  len = λ n. refl;
  back = λ bytes len fits. le_bytes_4 bytes _ len fits refl;
  again = λ n lt. from_le_bytes-to_le_bytes_4 n lt;
  below = λ bytes fits. omega (arith, fits 0, fits 1, fits 2, fits 3);
}

pub wide64 : IsWide w64 (2 ^ 64)
wide64 = record {
  len = λ n. refl;
  back = λ bytes len fits. le_bytes_8 bytes _ len fits refl;
  again = λ n lt. from_le_bytes-to_le_bytes_8 n lt;
  below = λ bytes fits. omega (arith, fits 0, fits 1, fits 2, fits 3, fits 4, fits 5, fits 6, fits 7);
}

guard_none : {A : Type 0} (b : Bool) (x y : A) → cond b None (Some x) ≡ Some y → (b ≡ false) × (x ≡ y)
guard_none true x y e = absurd cc
guard_none false x y e = (refl, cc)

word_takes : (w : Width) (limit : ℕ) → IsWide w limit → (bytes : List ℕ) (x : ℕ × List ℕ) → IsBytes bytes → word_at w bytes ≡ Some x → Takes bytes (to_le_bytes w x.0) x.1 × (x.0 < limit)
unfolding word_at
word_takes w limit wide bytes x fits e =
    let made : ℕ × List ℕ = (from_le_bytes w (take (byte_len w) bytes), drop (byte_len w) bytes) in
    let g = guard_none (ltb (length bytes) (byte_len w)) made x e in
    let long : byte_len w ≤ length bytes = ltb-false _ _ g.0 in
    let front : to_le_bytes w made.0 ≡ take (byte_len w) bytes = wide.back (take (byte_len w) bytes) (omega (arith, length-take (byte_len w) bytes)) (IsBytes-take (byte_len w) bytes fits) in
    let parts : bytes ≡ to_le_bytes w made.0 ++ made.1 = rw front (sym (take-append-drop (byte_len w) bytes)) in
    subst (λ (y : ℕ × List ℕ). Takes bytes (to_le_bytes w y.0) y.1 × (y.0 < limit)) g.1
    (record { parts = parts; rest_fits = IsBytes-drop (byte_len w) bytes fits }, wide.below (take (byte_len w) bytes) (IsBytes-take (byte_len w) bytes fits))

word_again : (w : Width) (limit : ℕ) → IsWide w limit → (n : ℕ) (rest : List ℕ) → n < limit → word_at w (to_le_bytes w n ++ rest) ≡ Some (n, rest)
unfolding word_at
word_again w limit wide n rest lt =
    let len = wide.len n in
    let long : ltb (length (to_le_bytes w n ++ rest)) (byte_len w) ≡ false = le-ltb _ _ (omega (arith, length-append (to_le_bytes w n) rest)) in
    rw (long, take_at (to_le_bytes w n) rest (byte_len w) len, drop_at (to_le_bytes w n) rest (byte_len w) len, wide.again n lt) refl

pub word_format : (w : Width) (limit : ℕ) → IsWide w limit → IsFormat ℕ (to_le_bytes w) (λ n. n < limit) (word_at w)
word_format w limit wide = record { takes = word_takes w limit wide; again = word_again w limit wide }

-- ---- n bytes

pub AreBytes-is : (bytes : List ℕ) → IsBytes bytes → AreBytes bytes
AreBytes-is [] fits = tt
AreBytes-is (b ∷ bytes) fits = (fits 0, AreBytes-is bytes (IsBytes-rest b bytes fits))

taken_takes : (n : ℕ) (bytes : List ℕ) (x : List ℕ × List ℕ) → IsBytes bytes → taken n bytes ≡ Some x → Takes bytes x.0 x.1 × (AreBytes x.0 × (length x.0 ≡ n))
unfolding taken
taken_takes n bytes x fits e =
    let made : List ℕ × List ℕ = (take n bytes, drop n bytes) in
    let g = guard_none (ltb (length bytes) n) made x e in
    let long : n ≤ length bytes = ltb-false _ _ g.0 in
    let len : length (take n bytes) ≡ n = omega (arith, length-take n bytes) in
    subst (λ (y : List ℕ × List ℕ). Takes bytes y.0 y.1 × (AreBytes y.0 × (length y.0 ≡ n))) g.1
    (record { parts = sym (take-append-drop n bytes); rest_fits = IsBytes-drop n bytes fits }, (AreBytes-is (take n bytes) (IsBytes-take n bytes fits), len))

taken_again : (n : ℕ) (xs rest : List ℕ) → AreBytes xs × (length xs ≡ n) → taken n (xs ++ rest) ≡ Some (xs, rest)
unfolding taken
taken_again n xs rest fits =
    let len : length xs ≡ n = fits.1 in
    let long : ltb (length (xs ++ rest)) n ≡ false = le-ltb _ _ (omega (arith, length-append xs rest, len)) in
    rw (long, take_at xs rest n len, drop_at xs rest n len) refl

pub taken_format : (n : ℕ) → IsFormat (List ℕ) (λ xs. xs) (λ xs. AreBytes xs × (length xs ≡ n)) (taken n)
taken_format n = record { takes = taken_takes n; again = taken_again n }

-- ---- abstract numbers

abbrev IsWord : ℕ → Type 0
IsWord n = n < 2 ^ 64

abbrev spelled_pair : ℕ × ℕ → List ℕ
spelled_pair p = to_le_bytes w64 p.0 ++ to_le_bytes w64 p.1

abbrev AreWords : ℕ × ℕ → Type 0
AreWords p = IsWord p.0 × IsWord p.1

pair_format : IsFormat (ℕ × ℕ) spelled_pair AreWords pair_at
pair_format = chained_format ℕ ℕ (to_le_bytes w64) IsWord (word_at w64) (λ _. to_le_bytes w64) (λ _. IsWord) (λ _. word_at w64) (word_format w64 (2 ^ 64) wide64) (λ x h. word_format w64 (2 ^ 64) wide64)

abbrev Pair : Type 0
Pair = ℕ × ℕ

abbrev Six : Type 0
Six = Pair × (Pair × Pair)

abbrev spelled_six : Six → List ℕ
spelled_six p = spelled_pair p.0 ++ (spelled_pair p.1.0 ++ spelled_pair p.1.1)

abbrev FitsSix : Six → Type 0
FitsSix p = (AreWords p.0 × (are_ordered p.0 ≡ true)) × ((AreWords p.1.0 × (are_apart p.1.0 ≡ true)) × (AreWords p.1.1 × (are_signed_ordered p.1.1 ≡ true)))

abbrev four_at : Reader (Pair × Pair)
four_at = chained (only_if are_apart pair_at) (λ _. only_if are_signed_ordered pair_at)

abbrev six_at : Reader Six
six_at = chained (only_if are_ordered pair_at) (λ _. four_at)

six_format : IsFormat Six spelled_six FitsSix six_at
six_format =
    let ordered = only_if_format Pair spelled_pair AreWords pair_at are_ordered pair_format in
    let apart = only_if_format Pair spelled_pair AreWords pair_at are_apart pair_format in
    let signed = only_if_format Pair spelled_pair AreWords pair_at are_signed_ordered pair_format in
    let four : IsFormat (Pair × Pair) (λ p. spelled_pair p.0 ++ spelled_pair p.1) (λ p. (AreWords p.0 × (are_apart p.0 ≡ true)) × (AreWords p.1 × (are_signed_ordered p.1 ≡ true))) four_at =
    chained_format Pair Pair spelled_pair (λ p. AreWords p × (are_apart p ≡ true)) (only_if are_apart pair_at) (λ _. spelled_pair) (λ _ p. AreWords p × (are_signed_ordered p ≡ true)) (λ _. only_if are_signed_ordered pair_at) apart (λ x h. signed) in
    chained_format Pair (Pair × Pair) spelled_pair (λ p. AreWords p × (are_ordered p ≡ true)) (only_if are_ordered pair_at) (λ _ p. spelled_pair p.0 ++ spelled_pair p.1)
    (λ _ p. (AreWords p.0 × (are_apart p.0 ≡ true)) × (AreWords p.1 × (are_signed_ordered p.1 ≡ true))) (λ _. four_at) ordered (λ x h. four)

place_fits : (x : ℕ) → place x < 2 ^ 64
place_fits x = omega arith

number_shape : (p : Six) → FitsSix p → (number (number_of p) ≡ spelled_six p) × FitsNumber (number_of p)
number_shape p fits =
    let low : place (place p.1.1.0) ≡ p.1.1.0 = place_twice p.1.1.0 fits.1.1.0.0 in
    let high : place (place p.1.1.1) ≡ p.1.1.1 = place_twice p.1.1.1 fits.1.1.0.1 in (
      rw (low, high) refl,
      record {
        ordered = leb-true _ _ fits.0.1;
        range = fits.0.0.1;
        value = fits.1.0.0.0;
        mask = fits.1.0.0.1;
        apart = eqb-true _ _ fits.1.0.1;
        signed_ordered = leb-true _ _ fits.1.1.1;
        signed = place_fits p.1.1.1;
      },
    )

number_back : (n : Num) → FitsNumber n → (p : Six) × FitsSix p × (number_of p ≡ n)
number_back n fits =
    let low_fits : n.signed.low < 2 ^ 64 = omega (arith, fits.signed_ordered, fits.signed) in
    let low : place (place n.signed.low) ≡ n.signed.low = place_twice n.signed.low low_fits in
    let high : place (place n.signed.high) ≡ n.signed.high = place_twice n.signed.high fits.signed in
    let p : Six = ((n.range.low, n.range.high), ((n.bits.value, n.bits.mask), (place n.signed.low, place n.signed.high))) in
    let signed : leb (place (place n.signed.low)) (place (place n.signed.high)) ≡ true = rw (low, high) (le-leb _ _ fits.signed_ordered) in (
      p,
      (
        ((omega (arith, fits.ordered, fits.range), fits.range), le-leb _ _ fits.ordered),
        (((fits.value, fits.mask), eq-eqb _ _ fits.apart), ((place_fits n.signed.low, place_fits n.signed.high), signed)),
      ),
      rw (low, high) refl,
    )

pub number_format : IsFormat Num number FitsNumber number_at
unfolding number_at
number_format = read_as_format Six Num spelled_six FitsSix six_at number FitsNumber number_of number_shape number_back six_format
