-- Labels, regions, values and stack slots as formats.
use Rattle.std.proofs.Common.{◌≡◌, ℕ, ◌+◌, ◌-◌, ◌^◌, ◌<◌, ◌≤◌, Bool, true, false, cond, ltb, leb, eqb, List, ◌∷◌, ◌++◌, Option, Some, None, refl, sym, ap, subst, ◌∙◌, arith, inl, inr}
use Rattle.std.specs.Prelude.{◌&&◌}
use Rattle.std.specs.Int.{w16, to_le_bytes}
use Rattle.std.proofs.lemmas.Bool.{ltb-true, lt-ltb, le-ltb, leb-true, le-leb, eqb-true, eq-eqb, ne_eqb, cases_eq, and_parts}
use Rattle.bpf_absnum.specs.Number.{Num}
use Rattle.bpf_absval.specs.declared.value.AbsRegion.{AbsRegion}
use Rattle.bpf_absval.specs.declared.value.AbsRegion.TheVariants as place
use Rattle.bpf_absval.specs.declared.value.AbsVal.{AbsVal}
use Rattle.bpf_absval.specs.declared.value.AbsVal.TheVariants as abs
use Rattle.bpf_absval.specs.declared.value.Label.{Label}
use Rattle.bpf_cert_format.specs.Fits.{FitsNumber, FitsLabels, FitsRegion, FitsValue, FitsStored}
use Rattle.bpf_cert_format.specs.Spelling.{number, label, region, value}
use Rattle.bpf_cert_format.specs.Reading.{chained, read_as, only_if, word_at, number_at, is_label, label_of, label_at, region_named, frame_pointer_at, pointer_into}
use Rattle.bpf_cert_format.proofs.Formats.{IsBytes, bind_some, chosen, some_is, Takes, IsFormat, chained_format, read_as_format, only_if_format}
use Rattle.bpf_cert_format.proofs.Smallest.{word_format, wide16, number_format}

-- ---- labels

abbrev pub Pair : Type 0
Pair = ℕ × ℕ

abbrev pub AreShort : Pair → Type 0
AreShort p = (p.0 < 2 ^ 16) × (p.1 < 2 ^ 16)

abbrev pub spelled_short : Pair → List ℕ
spelled_short p = to_le_bytes w16 p.0 ++ to_le_bytes w16 p.1

pub short_format : IsFormat Pair spelled_short AreShort (chained (word_at w16) (λ _. word_at w16))
short_format = chained_format ℕ ℕ (to_le_bytes w16) (λ n. n < 2 ^ 16) (word_at w16) (λ _. to_le_bytes w16) (λ _ n. n < 2 ^ 16) (λ _. word_at w16) (word_format w16 (2 ^ 16) wide16) (λ x h. word_format w16 (2 ^ 16) wide16)

abbrev AreLabel : Pair → Type 0
AreLabel p = AreShort p × (is_label p ≡ true)

zero_label : (p : Pair) → p.0 ≡ 0 → AreLabel p → (label (label_of p) ≡ spelled_short p) × FitsLabels (label_of p)
zero_label p e fits =
    let b : eqb p.0 0 ≡ true = eq-eqb p.0 0 e in
    let h : cond (eqb p.0 0) (eqb p.1 0) (leb p.1 2400) ≡ true = fits.1 in
    let f : eqb p.1 0 ≡ true = ap (λ (t : Bool). cond t (eqb p.1 0) (leb p.1 2400)) (sym b) ∙ h in
    let e1 : p.1 ≡ 0 = eqb-true p.1 0 f in
    let none : label_of p ≡ None = ap (λ (t : Bool). cond t None (Some (record { label = p.0; distance = p.1 }))) b in
    let spelled : to_le_bytes w16 0 ++ to_le_bytes w16 0 ≡ spelled_short p = rw (e, e1) refl in
    (ap label none ∙ spelled, subst FitsLabels (sym none) tt)

some_label : (p : Pair) → (p.0 ≡ 0 → ⊥) → AreLabel p → (label (label_of p) ≡ spelled_short p) × FitsLabels (label_of p)
some_label p ne fits =
    let b : eqb p.0 0 ≡ false = ne_eqb p.0 0 ne in
    let h : cond (eqb p.0 0) (eqb p.1 0) (leb p.1 2400) ≡ true = fits.1 in
    let f : leb p.1 2400 ≡ true = ap (λ (t : Bool). cond t (eqb p.1 0) (leb p.1 2400)) (sym b) ∙ h in
    let some : label_of p ≡ Some (record { label = p.0; distance = p.1 }) = ap (λ (t : Bool). cond t None (Some (record { label = p.0; distance = p.1 }))) b in
    (ap label some, subst FitsLabels (sym some) (record { some = omega (arith, ne); label = fits.0.0; distance = leb-true _ _ f }))

label_shape : (p : Pair) → AreLabel p → (label (label_of p) ≡ spelled_short p) × FitsLabels (label_of p)
label_shape p fits = elim (cases_eq p.0 0) [ inl e ↦ zero_label p e fits | inr ne ↦ some_label p ne fits ]

label_back : (l : Option Label) → FitsLabels l → (p : Pair) × AreLabel p × (label_of p ≡ l)
label_back None fits = ((0, 0), ((omega arith, omega arith), refl), refl)
label_back (Some l) fits =
    let some : l.label ≡ 0 → ⊥ = λ e. omega (arith, fits.some, e) in
    let b : eqb l.label 0 ≡ false = ne_eqb l.label 0 some in
    let near : leb l.distance 2400 ≡ true = le-leb _ _ fits.distance in
    let short : l.distance < 2 ^ 16 = omega (arith, fits.distance) in (
      (l.label, l.distance),
      ((fits.label, short), ap (λ (t : Bool). cond t (eqb l.distance 0) (leb l.distance 2400)) b ∙ near),
      ap (λ (t : Bool). cond t None (Some l)) b,
    )

pub label_format : IsFormat (Option Label) label FitsLabels label_at
unfolding label_at
label_format =
    read_as_format Pair (Option Label) spelled_short AreLabel (only_if is_label (chained (word_at w16) (λ _. word_at w16))) label FitsLabels label_of label_shape label_back
    (only_if_format Pair spelled_short AreShort (chained (word_at w16) (λ _. word_at w16)) is_label short_format)

-- ---- regions

named : (maps frames b : ℕ) (r : AbsRegion) → region_named maps frames b ≡ Some r → (region r ≡ b) × FitsRegion maps frames r
named maps frames b r e =
    elim (chosen (eqb b 1) (Some place.Context) _ (Some r) e) [
      | inl h ↦ subst (λ (x : AbsRegion). (region x ≡ b) × FitsRegion maps frames x) (some_is place.Context r h.1) (sym (eqb-true b 1 h.0), tt)
      | inr h ↦ elim (chosen (leb 16 b && ltb b (16 + frames)) (Some (place.Stack (b - 16))) _ (Some r) h.1) [
        | inl k ↦
            let p = and_parts (leb 16 b) (ltb b (16 + frames)) k.0 in
            let low = leb-true _ _ p.0 in
            let high = ltb-true _ _ p.1 in
            subst (λ (x : AbsRegion). (region x ≡ b) × FitsRegion maps frames x) (some_is (place.Stack (b - 16)) r k.1) (omega (arith, low), omega (arith, low, high))
        | inr k ↦ elim (chosen (leb 32 b && ltb b (32 + maps)) (Some (place.Entry (b - 32))) None (Some r) k.1) [
          | inl m ↦
              let p = and_parts (leb 32 b) (ltb b (32 + maps)) m.0 in
              let low = leb-true _ _ p.0 in
              let high = ltb-true _ _ p.1 in
              subst (λ (x : AbsRegion). (region x ≡ b) × FitsRegion maps frames x) (some_is (place.Entry (b - 32)) r m.1) (omega (arith, low), omega (arith, low, high))
          | inr m ↦ let e : None ≡ Some r = m.1 in absurd cc
        ]
      ]
    ]

-- a region's byte names that region
pub names : (maps frames : ℕ) (r : AbsRegion) → frames ≤ 8 → FitsRegion maps frames r → region_named maps frames (region r) ≡ Some r
names maps frames place.Context few fits = refl
names maps frames (place.Stack k) few fits =
    let a : eqb (16 + k) 1 ≡ false = ne_eqb _ _ (λ e. omega (arith, e)) in
    let b : leb 16 (16 + k) ≡ true = le-leb _ _ (omega arith) in
    let c : ltb (16 + k) (16 + frames) ≡ true = lt-ltb _ _ (omega (arith, fits)) in
    let back : 16 + k - 16 ≡ k = omega arith in
    rw (a, b, c, back) refl
names maps frames (place.Entry m) few fits =
    let a : eqb (32 + m) 1 ≡ false = ne_eqb _ _ (λ e. omega (arith, e)) in
    let b : leb 16 (32 + m) ≡ true = le-leb _ _ (omega arith) in
    let c : ltb (32 + m) (16 + frames) ≡ false = le-ltb _ _ (omega (arith, few)) in
    let d : leb 32 (32 + m) ≡ true = le-leb _ _ (omega arith) in
    let f : ltb (32 + m) (32 + maps) ≡ true = lt-ltb _ _ (omega (arith, fits)) in
    let back : 32 + m - 32 ≡ m = omega arith in
    rw (a, b, c, d, f, back) refl

pub region_some : (r : AbsRegion) → eqb (region r) 0 ≡ false
region_some place.Context = refl
region_some (place.Stack k) = ne_eqb _ _ (λ e. omega (arith, e))
region_some (place.Entry m) = ne_eqb _ _ (λ e. omega (arith, e))

-- ---- pointers

pub Takes-cons : (b : ℕ) (bytes text rest : List ℕ) → Takes bytes text rest → Takes (b ∷ bytes) (b ∷ text) rest
Takes-cons b bytes text rest t = record { parts = ap (λ (w : List ℕ). b ∷ w) t.parts; rest_fits = t.rest_fits }

abbrev pub Place : Type 0
Place = Num × Option Label

abbrev pub spelled_place : Place → List ℕ
spelled_place p = number p.0 ++ label p.1

abbrev pub FitsPlace : Place → Type 0
FitsPlace p = FitsNumber p.0 × FitsLabels p.1

pub place_format : IsFormat Place spelled_place FitsPlace (chained number_at (λ _. label_at))
place_format = chained_format Num (Option Label) number FitsNumber number_at (λ _. label) (λ _. FitsLabels) (λ _. label_at) number_format (λ x h. label_format)

-- what follows a tag is a value
abbrev pub Tagged : ℕ → ℕ → ℕ → List ℕ → AbsVal × List ℕ → Type 0
Tagged maps frames tag bytes x = Takes (tag ∷ bytes) (value x.0) x.1 × FitsValue maps frames x.0 × ((tag ≡ 0 → ⊥) → FitsStored maps frames x.0)

pub pointer_takes : (maps frames b : ℕ) (bytes : List ℕ) (x : AbsVal × List ℕ) → IsBytes bytes → pointer_into maps frames b bytes ≡ Some x → Tagged maps frames 2 (b ∷ bytes) x
unfolding pointer_into
pointer_takes maps frames b bytes x fits e =
    elim (chosen (eqb b 0) (frame_pointer_at bytes) _ (Some x) e) [
      | inl h ↦
          let a = bind_some (chained number_at (λ _. label_at) bytes) (λ x. Some (abs.Frame x.0.0 x.0.1, x.1)) x h.1 in
          let t = place_format.takes bytes a.0 fits a.1 in
          let made : AbsVal × List ℕ = (abs.Frame a.0.0.0 a.0.0.1, a.0.1) in
          let zero_is : b ≡ 0 = eqb-true b 0 h.0 in
          let text = Takes-cons 2 (0 ∷ bytes) (0 ∷ spelled_place a.0.0) a.0.1 (Takes-cons 0 bytes (spelled_place a.0.0) a.0.1 t.0) in
          subst (λ (k : ℕ). Tagged maps frames 2 (k ∷ bytes) x) (sym zero_is)
          (subst (Tagged maps frames 2 (0 ∷ bytes)) (some_is made x a.2) (text, t.1, λ ne. t.1))
      | inr h ↦
          let g = bind_some (region_named maps frames b) (λ region. read_as (abs.Pointer region) number_at bytes) x h.1 in
          let a = bind_some (number_at bytes) (λ x. Some (abs.Pointer g.0 x.0, x.1)) x g.2 in
          let t = number_format.takes bytes a.0 fits a.1 in
          let n = named maps frames b g.0 g.1 in
          let made : AbsVal × List ℕ = (abs.Pointer g.0 a.0.0, a.0.1) in
          let text = Takes-cons 2 (region g.0 ∷ bytes) (region g.0 ∷ number a.0.0) a.0.1 (Takes-cons (region g.0) bytes (number a.0.0) a.0.1 t.0) in
          subst (λ (k : ℕ). Tagged maps frames 2 (k ∷ bytes) x) n.0
          (subst (Tagged maps frames 2 (region g.0 ∷ bytes)) (some_is made x a.2) (text, (n.1, t.1), λ ne. (n.1, t.1)))
    ]
