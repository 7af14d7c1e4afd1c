-- Texts of one word.
use Rattle.std.specs.Prelude.{◌≡◌, ◌≢◌, ◌<◌, ◌^◌, ℕ, ℤ, pos, negsuc, List, [], ◌∷◌, ◌++◌, length, Bool, true, false, ◌&&◌, codes, refl, suc, zero, slice_index, not, nat_lt, nat_eq}
use Rattle.std.specs.List.{list_all}
use Rattle.std.proofs.Common.{rules, tests, arith, sym, ◌∙◌, ap}
use Rattle.std.proofs.lemmas.Bool.Decides.{nat_tests}
use Rattle.std.proofs.lemmas.List.{append-nil}
use Rattle.std.specs.Char.{digit_value}
use Rattle.std.specs.Fmt.{decimal, signed_decimal}
use Rattle.std.specs.Str.Parse.{AllDigits}
use Rattle.std.proofs.lemmas.Fmt.{decimal_is_IsNumeral}
use Rattle.bpf_line.specs.Words.{words, ends_word, goes_on, joined}
use Rattle.bpf_line.specs.Spellings.{register_text, offset_text, memory_text, two_text, one_text}
use Rattle.bpf_line.proofs.Cuts.{step, words-space, words-comma}

-- a character that ends neither a word nor a line
abbrev in_word : ℕ → Bool
in_word c = not (ends_word c) && not (nat_eq c 10)

abbrev pub Plain : List ℕ → Type 0
Plain [] = Unit {0}
Plain (c ∷ cs) = (in_word c ≡ true) × Plain cs

in_word-ends : (c : ℕ) → in_word c ≡ true → ends_word c ≡ false
in_word-ends c e = search (rules, tests, nat_tests)

in_word-feed : (c : ℕ) → in_word c ≡ true → c ≢ 10
in_word-feed c e = search (rules, tests, nat_tests)

-- no character is a line feed
abbrev pub NoFeed : List ℕ → Type 0
NoFeed [] = Unit {0}
NoFeed (c ∷ cs) = (c ≢ 10) × NoFeed cs

pub NoFeed-append : (xs ys : List ℕ) → NoFeed xs → NoFeed ys → NoFeed (xs ++ ys)
NoFeed-append [] ys p q = q
NoFeed-append (x ∷ xs) ys p q = (p.0, NoFeed-append xs ys p.1 q)

NoFeed-plain : (w : List ℕ) → Plain w → NoFeed w
NoFeed-plain [] p = tt
NoFeed-plain (c ∷ cs) p = (in_word-feed c p.0, NoFeed-plain cs p.1)

pub Plain-append : (xs ys : List ℕ) → Plain xs → Plain ys → Plain (xs ++ ys)
Plain-append [] ys p q = q
Plain-append (x ∷ xs) ys p q = (p.0, Plain-append xs ys p.1 q)

goes_on-plain : (c : ℕ) (cs : List ℕ) → ends_word c ≡ false → goes_on (c ∷ cs) ≡ true
goes_on-plain c cs e = rw e refl

-- a word followed by a character that ends it
words-cons : (c : ℕ) (cs t : List ℕ) → ends_word c ≡ false → Plain cs → goes_on t ≡ false → words ((c ∷ cs) ++ t) ≡ (c ∷ cs) ∷ words t
words-cons c [] t e p g = rw g at (step c t e)
words-cons c (d ∷ ds) t e p g =
    let on : goes_on ((d ∷ ds) ++ t) ≡ true = goes_on-plain d (ds ++ t) (in_word-ends d p.0) in
    let h = words-cons d ds t (in_word-ends d p.0) p.1 g in
    (rw on at (step c ((d ∷ ds) ++ t) e)) ∙ ap (joined c) h

pub words-word_before : (w t : List ℕ) → 0 < length w → Plain w → goes_on t ≡ false → words (w ++ t) ≡ w ∷ words t
words-word_before [] t some p g = absurd (omega arith)
words-word_before (c ∷ cs) t some p g = words-cons c cs t (in_word-ends c p.0) p.1 g

pub words-alone : (w : List ℕ) → 0 < length w → Plain w → words w ≡ w ∷ []
unfolding words
words-alone w some p = ap words (sym (append-nil w)) ∙ words-word_before w [] some p refl

-- a text of one word
pub record IsWord (w : List ℕ) : Type 0 where
  pub some : 0 < length w
  pub plain : Plain w

-- a word followed by a space
pub words-spaced : (w t : List ℕ) → IsWord w → words (w ++ (32 ∷ t)) ≡ w ∷ words t
words-spaced w t h = words-word_before w (32 ∷ t) h.some h.plain refl ∙ ap (λ ws. w ∷ ws) (words-space (32 ∷ t) refl)

pub words-one : (name a : List ℕ) → IsWord name → IsWord a → words (one_text name a) ≡ name ∷ a ∷ []
words-one name a n w =
    words-word_before name (32 ∷ a) n.some n.plain refl
    ∙ ap (λ t. name ∷ t) (words-space (32 ∷ a) refl ∙ words-alone a w.some w.plain)

-- an operand, a comma and the rest
words-comma_after : (a b : List ℕ) → IsWord a → words (a ++ (codes ", " ++ b)) ≡ a ∷ codes "," ∷ words b
words-comma_after a b w =
    words-word_before a (44 ∷ 32 ∷ b) w.some w.plain refl
    ∙ ap (λ t. a ∷ t) (words-comma (44 ∷ 32 ∷ b) refl ∙ ap (λ t. codes "," ∷ t) (words-space (32 ∷ b) refl))

pub words-rest : (name a b : List ℕ) → IsWord name → IsWord a → words (two_text name a b) ≡ name ∷ a ∷ codes "," ∷ words b
words-rest name a b n w =
    words-word_before name (32 ∷ (a ++ (codes ", " ++ b))) n.some n.plain refl
    ∙ ap (λ t. name ∷ t) (words-space (32 ∷ (a ++ (codes ", " ++ b))) refl ∙ words-comma_after a b w)

pub words-two : (name a b : List ℕ) → IsWord name → IsWord a → IsWord b → words (two_text name a b) ≡ name ∷ a ∷ codes "," ∷ b ∷ []
words-two name a b n w v = words-rest name a b n w ∙ ap (λ t. name ∷ a ∷ codes "," ∷ t) (words-alone b v.some v.plain)

pub words-three : (name a b c : List ℕ) → IsWord name → IsWord a → IsWord b → IsWord c
    → words (two_text name a (b ++ (codes ", " ++ c))) ≡ name ∷ a ∷ codes "," ∷ b ∷ codes "," ∷ c ∷ []
words-three name a b c n w v u =
    words-rest name a (b ++ (codes ", " ++ c)) n w
    ∙ ap (λ t. name ∷ a ∷ codes "," ∷ t) (words-comma_after b c v ∙ ap (λ t. b ∷ codes "," ∷ t) (words-alone c u.some u.plain))

Plain-test : (w : List ℕ) → list_all in_word w ≡ true → Plain w
Plain-test [] e = tt
Plain-test (c ∷ cs) e = search (rules, tests, Plain-test cs)

-- a literal is a word, by a test
pub IsWord-test : (w : List ℕ) → (nat_lt 0 (length w) && list_all in_word w) ≡ true → IsWord w
IsWord-test w e = record { some = grind (arith, nat_tests); plain = Plain-test w (search (rules, tests)) }

-- the number's digits fit 64 bits
abbrev pub Small : ℤ → Type 0
Small (pos n) = n < 2 ^ 64
Small (negsuc n) = suc n < 2 ^ 64

digit_plain : (c : ℕ) → digit_value c < 10 → in_word c ≡ true
digit_plain c h = grind (arith, nat_tests)

Plain-digits : (ds : List ℕ) → AllDigits 10 ds → Plain ds
Plain-digits [] h = tt
Plain-digits (c ∷ cs) h = (digit_plain c h.0, Plain-digits cs h.1)

pub IsWord-decimal : (n : ℕ) → n < 2 ^ 64 → IsWord (decimal n)
IsWord-decimal n small =
    let d = (decimal_is_IsNumeral n small).0 in record { some = d.0; plain = Plain-digits (decimal n) d.1 }

pub IsWord-cons : (c : ℕ) (cs : List ℕ) → in_word c ≡ true → Plain cs → IsWord (c ∷ cs)
IsWord-cons c cs e p = record { some = omega arith; plain = (e, p) }

Plain-decimal : (n : ℕ) → n < 2 ^ 64 → Plain (decimal n)
Plain-decimal n small = (IsWord-decimal n small).plain

pub IsWord-register : (r : ℕ) → r < 2 ^ 64 → IsWord (register_text r)
IsWord-register r small = IsWord-cons 114 (decimal r) refl (Plain-decimal r small)

pub IsWord-offset : (x : ℤ) → Small x → IsWord (offset_text x)
IsWord-offset (pos n) small = IsWord-cons 43 (decimal n) refl (Plain-decimal n small)
IsWord-offset (negsuc n) small = IsWord-cons 45 (decimal (suc n)) refl (Plain-decimal (suc n) small)

pub IsWord-signed : (z : ℤ) → Small z → IsWord (signed_decimal z)
IsWord-signed (pos n) small = IsWord-decimal n small
IsWord-signed (negsuc n) small = IsWord-cons 45 (decimal (suc n)) refl (Plain-decimal (suc n) small)

pub IsWord-memory : (r : ℕ) (x : ℤ) → r < 2 ^ 64 → Small x → IsWord (memory_text r x)
IsWord-memory r x small fits =
    let after = Plain-append (offset_text x) (codes "]") (IsWord-offset x fits).plain (refl, tt) in
    IsWord-cons 91 (register_text r ++ (offset_text x ++ codes "]")) refl (Plain-append (register_text r) (offset_text x ++ codes "]") (IsWord-register r small).plain after)

pub NoFeed-word : (w : List ℕ) → IsWord w → NoFeed w
NoFeed-word w h = NoFeed-plain w h.plain

pub NoFeed-one : (name a : List ℕ) → NoFeed name → NoFeed a → NoFeed (one_text name a)
NoFeed-one name a n w = NoFeed-append name (32 ∷ a) n (λ e. absurd (omega (arith, e)), w)

pub NoFeed-comma : (a b : List ℕ) → NoFeed a → NoFeed b → NoFeed (a ++ (codes ", " ++ b))
NoFeed-comma a b w v =
    NoFeed-append a (codes ", " ++ b) w (λ e. absurd (omega (arith, e)), (λ e. absurd (omega (arith, e)), v))

pub NoFeed-two : (name a b : List ℕ) → NoFeed name → NoFeed a → NoFeed b → NoFeed (two_text name a b)
NoFeed-two name a b n w v = NoFeed-one name (a ++ (codes ", " ++ b)) n (NoFeed-comma a b w v)

pub NoFeed-at : (t : List ℕ) → NoFeed t → (k : ℕ) → k < length t → slice_index t k ≢ 10
NoFeed-at [] p k h = absurd (omega arith)
NoFeed-at (c ∷ cs) p zero h = p.0
NoFeed-at (c ∷ cs) p (suc k) h = NoFeed-at cs p.1 k (omega (arith, h))
