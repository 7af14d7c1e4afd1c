-- Walking over elements.
use Rattle.std.proofs.Common.{◌≡◌, ℕ, zero, suc, ◌+◌, ◌<◌, ◌≤◌, true, false, not, eqb, List, [], ◌∷◌, ◌++◌, length, take, drop, slice_index, refl, sym, ap, ◌∙◌, arith, inl, inr}
use Rattle.std.proofs.lemmas.Bool.{cases_lt}
use Rattle.std.proofs.lemmas.List.{length-take-le, length-drop, take-append-drop}
use Rattle.mac_frame.specs.Elements.{Element, elements_text, AreElements, cut_after, is_cut, elements_within, elements_in, CutsNone, ReadsElements, IsSendable}

differs : false ≡ true → ⊥
differs e = cc

-- ---- the test

-- the bytes of an element are skipped
skips : (n : ℕ) (xs : List ℕ) → n ≤ length xs → cut_after n xs ≡ cut_after 0 (drop n xs)
skips zero xs le = refl
skips (suc n) [] le = absurd (omega arith)
skips (suc n) (x ∷ xs) le = skips n xs (omega arith)

misses : (n : ℕ) (xs : List ℕ) → length xs < n → cut_after n xs ≡ true
misses zero xs lt = absurd (omega arith)
misses (suc n) [] lt = refl
misses (suc n) (x ∷ xs) lt = misses n xs (omega arith)

pub one_on : (xs : List ℕ) → 2 ≤ length xs → 2 + slice_index xs 1 ≤ length xs → is_cut xs ≡ is_cut (drop (2 + slice_index xs 1) xs)
unfolding is_cut
one_on [] two le = absurd (omega arith)
one_on (id ∷ []) two le = absurd (omega arith)
one_on (id ∷ len ∷ rest) two le =
    let e : 2 + len ≡ suc (suc len) = omega arith in
    skips len rest (omega arith) ∙ ap (λ n. cut_after 0 (drop n (id ∷ len ∷ rest))) (sym e)

pub cut_here : (xs : List ℕ) → 2 ≤ length xs → length xs < 2 + slice_index xs 1 → is_cut xs ≡ true
unfolding is_cut
cut_here [] two lt = absurd (omega arith)
cut_here (id ∷ []) two lt = absurd (omega arith)
cut_here (id ∷ len ∷ rest) two lt = misses len rest (omega arith)

pub at_end : (xs : List ℕ) → length xs < 2 → is_cut xs ≡ not (eqb (length xs) 0)
unfolding is_cut
at_end [] lt = refl
at_end (x ∷ []) lt = refl
at_end (x ∷ y ∷ rest) lt = absurd (omega arith)

-- ---- bytes in which no element is cut are elements

take_back : (n : ℕ) (xs : List ℕ) → n ≤ length xs → n ∷ xs ≡ length (take n xs) ∷ (take n xs ++ drop n xs)
take_back n xs le = rw (length-take-le n xs le, take-append-drop n xs) refl

uncut : (n : ℕ) (xs : List ℕ) → cut_after n xs ≡ false → n ≤ length xs
uncut n xs e =
    elim (cases_lt (length xs) n) [
      | inl lt ↦ absurd (differs (sym e ∙ misses n xs lt))
      | inr le ↦ le
    ]

parts_of : (fuel : ℕ) (bytes : List ℕ) → length bytes ≤ fuel → cut_after 0 bytes ≡ false → AreElements bytes
parts_of fuel [] le e = record { elements = []; text = refl }
parts_of zero (id ∷ rest) le e = absurd (omega arith)
parts_of (suc fuel) (id ∷ []) le e = absurd (differs (sym e))
parts_of (suc fuel) (id ∷ len ∷ rest) le e =
    let fits : len ≤ length rest = uncut len rest e in
    let others = parts_of fuel (drop len rest) (omega (arith, length-drop len rest)) (sym (skips len rest fits) ∙ e) in
    let front : len ∷ rest ≡ length (take len rest) ∷ (take len rest ++ drop len rest) = take_back len rest fits in
    record {
      elements = record { id = id; bytes = take len rest } ∷ others.elements;
      text = ap (λ (x : List ℕ). id ∷ x) (front ∙ ap (λ (x : List ℕ). length (take len rest) ∷ (take len rest ++ x)) others.text);
    }

passes : (bs rest : List ℕ) → cut_after (length bs) (bs ++ rest) ≡ cut_after 0 rest
passes [] rest = refl
passes (x ∷ bs) rest = passes bs rest

whole_text : (es : List Element) → cut_after 0 (elements_text es) ≡ false
whole_text [] = refl
whole_text (e ∷ es) = passes e.bytes (elements_text es) ∙ whole_text es

pub cuts_none : CutsNone
unfolding is_cut
cuts_none bytes = (λ e. parts_of (length bytes) bytes (omega arith) e, λ h. ap (λ (x : List ℕ). cut_after 0 x) h.text ∙ whole_text h.elements)

pub are_elements : (bytes : List ℕ) → is_cut bytes ≡ false → AreElements bytes
are_elements bytes e = (cuts_none bytes).0 e

pub not_cut : (bytes : List ℕ) → AreElements bytes → is_cut bytes ≡ false
not_cut bytes h = (cuts_none bytes).1 h

-- ---- reading what elements spell gives these

front_of : (bs rest : List ℕ) → take (length bs) (bs ++ rest) ≡ bs
front_of [] rest = refl
front_of (b ∷ bs) rest = ap (λ (x : List ℕ). b ∷ x) (front_of bs rest)

back_of : (bs rest : List ℕ) → drop (length bs) (bs ++ rest) ≡ rest
back_of [] rest = refl
back_of (b ∷ bs) rest = back_of bs rest

length_after : (bs rest : List ℕ) → length (bs ++ rest) ≡ length bs + length rest
length_after [] rest = omega arith
length_after (b ∷ bs) rest = omega (arith, length_after bs rest)

reads_within : (most : ℕ) (es : List Element) → length (elements_text es) ≤ most → elements_within most (elements_text es) ≡ es
reads_within zero [] le = refl
reads_within (suc most) [] le = refl
reads_within zero (e ∷ es) le = absurd (omega arith)
reads_within (suc most) (e ∷ es) le =
    let others : elements_within most (elements_text es) ≡ es = reads_within most es (omega (arith, length_after e.bytes (elements_text es))) in
    rw (front_of e.bytes (elements_text es), back_of e.bytes (elements_text es), others) refl

pub reads_elements : ReadsElements
unfolding elements_in
reads_elements es = reads_within (length (elements_text es)) es (omega arith)

-- ---- one element after another

-- the first element of bytes that elements spell
pub record Peels (xs : List ℕ) (es : List Element) : Type 0 where
  pub first : Element
  pub others : List Element
  pub are : es ≡ first ∷ others
  pub room : slice_index xs 1 ≤ length (drop 2 xs)
  pub id : first.id ≡ slice_index xs 0
  pub bytes : first.bytes ≡ take (slice_index xs 1) (drop 2 xs)
  pub rest : drop (slice_index xs 1) (drop 2 xs) ≡ elements_text others

peel : (xs : List ℕ) (es : List Element) → 2 ≤ length xs → xs ≡ elements_text es → Peels xs es
peel xs [] two e = absurd (omega (arith, two, ap (λ (x : List ℕ). length x) e))
peel xs (f ∷ fs) two e = record {
  first = f;
  others = fs;
  are = refl;
  room = rw e (omega (arith, length_after f.bytes (elements_text fs)));
  id = rw e refl;
  bytes = rw e (sym (front_of f.bytes (elements_text fs)));
  rest = rw e (back_of f.bytes (elements_text fs));
}

pub room_for : (xs : List ℕ) → 2 ≤ length xs → AreElements xs → slice_index xs 1 ≤ length (drop 2 xs)
room_for xs two h = (peel xs h.elements two h.text).room

pub none_left : (xs : List ℕ) → length xs < 2 → AreElements xs → elements_in xs ≡ []
unfolding elements_in
none_left [] short h = refl
none_left (x ∷ []) short h = refl
none_left (x ∷ y ∷ rest) short h = absurd (omega arith)

pub first_left : (xs : List ℕ) → 2 ≤ length xs → AreElements xs
    → elements_in xs ≡ record { id = slice_index xs 0; bytes = take (slice_index xs 1) (drop 2 xs) } ∷ elements_in (drop (slice_index xs 1) (drop 2 xs))
first_left xs two h =
    let p = peel xs h.elements two h.text in
    let here : elements_in xs ≡ p.first ∷ p.others = ap elements_in h.text ∙ reads_elements h.elements ∙ p.are in
    let there : elements_in (drop (slice_index xs 1) (drop 2 xs)) ≡ p.others = ap elements_in p.rest ∙ reads_elements p.others in
    here ∙ rw (there, ← p.id, ← p.bytes) refl

pub others_left : (xs : List ℕ) → 2 ≤ length xs → AreElements xs → AreElements (drop (slice_index xs 1) (drop 2 xs))
others_left xs two h = let p = peel xs h.elements two h.text in record { elements = p.others; text = p.rest }

-- ---- one element to be sent

append_nothing : (xs : List ℕ) → xs ++ [] ≡ xs
append_nothing [] = refl
append_nothing (x ∷ xs) = ap (λ (r : List ℕ). x ∷ r) (append_nothing xs)

pub one_sendable : (bytes : List ℕ) (id : ℕ) (content : List ℕ) → bytes ≡ id ∷ length content ∷ content → length content < 256 → IsSendable bytes
one_sendable bytes id content e short = record {
  spelled = record { elements = record { id = id; bytes = content } ∷ []; text = e ∙ ap (λ (r : List ℕ). id ∷ length content ∷ r) (sym (append_nothing content)) };
  short = rw e (omega arith);
}
