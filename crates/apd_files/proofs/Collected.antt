-- Digits that are collected.
use Rattle.std.proofs.Common.{◌≡◌, ◌∙◌, ℕ, zero, suc, ◌+◌, ◌<◌, Bool, true, false, List, [], ◌∷◌, ◌++◌, length, take, drop, get_or, slice_index, refl, sym, ap, subst, arith, append_assoc, append-nil}
use Rattle.std.specs.Prelude.{not, filter, Result, Ok, Err, OnOk, is_err}
use Rattle.std.specs.List.{AllPass}
use Rattle.std.specs.Char.{is_ascii_whitespace}
use Rattle.std.proofs.lemmas.List.Elements.{filter-append, All-push}
use Rattle.std.proofs.lemmas.List.{take_more, take_all}
use Rattle.hex.specs.Hex.{is_hex_digit}
use Rattle.apd_files.specs.Held.{Keeps, digits_of}
use Rattle.apd_files.specs.Reading.{Collects, Adds, IsForeign, Stops}

filter_out : (p : ℕ → Bool) (xs : List ℕ) (x : ℕ) → p x ≡ false → filter p (xs ++ x ∷ []) ≡ filter p xs
filter_out p xs x h = filter-append p xs (x ∷ []) ∙ (rw h (append-nil (filter p xs)))

filter_in : (p : ℕ → Bool) (xs : List ℕ) (x : ℕ) → p x ≡ true → filter p (xs ++ x ∷ []) ≡ filter p xs ++ x ∷ []
filter_in p xs x h = filter-append p xs (x ∷ []) ∙ (rw h refl)

not_true : (b : Bool) → b ≡ true → not b ≡ false
not_true b h = rw h refl

not_false : (b : Bool) → b ≡ false → not b ≡ true
not_false b h = rw h refl

pub Collects-white : (most : ℕ) (text digits : List ℕ) (b : ℕ) → is_ascii_whitespace b ≡ true → Collects most text digits → Collects most (text ++ b ∷ []) digits
Collects-white most text digits b white c =
    let e = filter_out (λ byte. not (is_ascii_whitespace byte)) text b (not_true _ white) in
    record {
      all = subst (λ l. AllPass is_hex_digit l) (sym e) c.all;
      kept_all = c.kept_all;
      keeps = subst (λ l. Keeps most 16 l digits) (sym e) c.keeps;
    }

pub Collects-digit : (most : ℕ) (text digits : List ℕ) (b : ℕ) → is_ascii_whitespace b ≡ false → AllPass is_hex_digit (digits_of text ++ b ∷ [])
    → AllPass is_hex_digit digits → Keeps most 16 (digits_of text ++ b ∷ []) digits → Collects most (text ++ b ∷ []) digits
Collects-digit most text digits b black all kept_all keeps =
    let e = filter_in (λ byte. not (is_ascii_whitespace byte)) text b (not_false _ black) in
    record {
      all = subst (λ l. AllPass is_hex_digit l) (sym e) all;
      kept_all = kept_all;
      keeps = subst (λ l. Keeps most 16 l digits) (sym e) keeps;
    }

pieces : (xs : List ℕ) (i : ℕ) → i < length xs → xs ≡ take i xs ++ get_or xs i 0 ∷ drop (suc i) xs
pieces [] i h = absurd (omega arith)
pieces (x ∷ xs) zero h = refl
pieces (x ∷ xs) (suc i) h = ap (λ l. x ∷ l) (pieces xs i (omega arith))

pub Stops-at : (most : ℕ) (block old digits : List ℕ) (at : ℕ) → at < length block → IsForeign (slice_index block at) → Adds most (take at block) old digits → Stops most old block at
Stops-at most block old digits at within foreign a = record {
  within = within;
  first = λ front c. record {
    before = front ++ take at block;
    after = drop (suc at) block;
    split = ap (λ l. front ++ l) (pieces block at within) ∙ sym (append_assoc front (take at block) (get_or block at 0 ∷ drop (suc at) block));
    fine = (a.adds front c).all;
    foreign = foreign;
  };
}

pub Adds-none : (most : ℕ) (old : List ℕ) → Adds most [] old old
Adds-none most old = record { adds = λ front c. subst (λ l. Collects most l old) (sym (append-nil front)) c }

pub Adds-more : (most : ℕ) (bytes a b c : List ℕ) (x : ℕ) → Adds most bytes a b → Adds most (x ∷ []) b c → Adds most (bytes ++ x ∷ []) a c
Adds-more most bytes a b c x first then = record {
  adds = λ front h. subst (λ l. Collects most l c) (append_assoc front bytes (x ∷ [])) (then.adds (front ++ bytes) (first.adds front h));
}

pub Adds-step : (most : ℕ) (block a b c : List ℕ) (at : ℕ) → at < length block → Adds most (take at block) a b → Adds most (slice_index block at ∷ []) b c → Adds most (take (at + 1) block) a c
Adds-step most block a b c at within first then =
    subst (λ l. Adds most l a c) (sym (take_more block at 0 within)) (Adds-more most (take at block) a b c (slice_index block at) first then)

pub Adds-whole : (most : ℕ) (block a b : List ℕ) → Adds most (take (length block) block) a b → Adds most block a b
Adds-whole most block a b h = subst (λ l. Adds most l a b) (take_all (length block) block (omega arith)) h

pub Adds-white : (most : ℕ) (old : List ℕ) (b : ℕ) → is_ascii_whitespace b ≡ true → Adds most (b ∷ []) old old
Adds-white most old b white = record { adds = λ front c. Collects-white most front old b white c }

pub Adds-digit : (most : ℕ) (old new : List ℕ) (b : ℕ) → is_ascii_whitespace b ≡ false → is_hex_digit b ≡ true
    → ((whole : List ℕ) → Keeps most 16 whole old → Keeps most 16 (whole ++ b ∷ []) new) → (AllPass is_hex_digit old → AllPass is_hex_digit new) → Adds most (b ∷ []) old new
Adds-digit most old new b black digit keeps all = record {
  adds = λ front c. Collects-digit most front new b black (All-push (λ x. is_hex_digit x ≡ true) (digits_of front) b c.all digit) (all c.kept_all) (keeps (digits_of front) c.keeps);
}

is_digit_by : (b : ℕ) (d : Bool) → is_hex_digit b ≡ d → is_ascii_whitespace b ≡ false → (IsForeign b → ⊥) → is_hex_digit b ≡ true
is_digit_by b true e black known = e
is_digit_by b false e black known = absurd (known (record { not_white = black; not_digit = e }))

pub is_digit : (b : ℕ) → is_ascii_whitespace b ≡ false → (IsForeign b → ⊥) → is_hex_digit b ≡ true
is_digit b black known = is_digit_by b (is_hex_digit b) refl black known

pub Adds-kept : {A E : Type 0} (r : Result A E) (most : ℕ) (old new : List ℕ) (b : ℕ) → is_ascii_whitespace b ≡ false → (IsForeign b → ⊥)
    → ((whole : List ℕ) → Keeps most 16 whole old → OnOk r (Keeps most 16 (whole ++ b ∷ []) new)) → (AllPass is_hex_digit old → OnOk r (AllPass is_hex_digit new)) → OnOk r (Adds most (b ∷ []) old new)
Adds-kept (Ok x) most old new b black known keeps all = Adds-digit most old new b black (is_digit b black known) keeps all
Adds-kept (Err e) most old new b black known keeps all = tt

pub on_ok : {A E : Type 0} (r : Result A E) (P : Type 0) → is_err r ≡ false → OnOk r P → P
on_ok (Ok x) P h p = p
on_ok (Err e) P h p = absurd (let no : true ≡ false = h in cc)
