-- What is kept of a list.
use Rattle.std.proofs.Common.{◌≡◌, ◌∙◌, true, Bool, ℕ, ◌+◌, ◌-◌, ◌*◌, ◌%◌, ◌<◌, ◌≤◌, List, [], ◌∷◌, ◌++◌, length, take, refl, sym, ap, subst, arith, Ok, length-append, length-take}
use Rattle.std.specs.Prelude.{not}
use Rattle.std.specs.List.{AllPass}
use Rattle.std.specs.Char.{is_ascii_whitespace}
use Rattle.std.proofs.lemmas.List.Elements.{All-nil}
use Rattle.std.proofs.lemmas.List.Sums.{length-filter, count_by-le-length}
use Rattle.hex.specs.Hex.{is_hex_digit, decode_of}
use Rattle.hex.proofs.HexLemmas.{decode_of-ok, decode_of-digits}
use Rattle.apd_files.specs.Kinds.{most_of}
use Rattle.apd_files.specs.Held.{Held, Keeps, HoldsCode, HoldsKept, digits_of, code_of}
use Rattle.apd_files.specs.Held.{Whole, Part}
use Rattle.apd_files.specs.Reading.{Collects, HasCollected, HasDecoded, IsShort}
use Rattle.apd_files.specs.declared.inputs.files.FileKind.{FileKind}
use Rattle.apd_files.specs.declared.inputs.files.FileKind.TheVariants.{Certificate}

pub Keeps-push : (most : ℕ) (whole kept : List ℕ) (x : ℕ) → Keeps most 16 whole kept → Keeps most 16 (whole ++ x ∷ []) (kept ++ x ∷ [])
Keeps-push most whole kept x (Whole same) = Whole (ap (λ l. l ++ x ∷ []) same)
Keeps-push most whole kept x (Part long longer even) =
    Part (simp length-append (omega arith)) (simp length-append (omega arith)) (simp length-append (omega (arith, even)))

shorter : (most : ℕ) (whole kept : List ℕ) → most < length whole → length kept % 16 ≡ length whole % 16 → most + 16 < length kept → Keeps most 16 whole (take (length kept - 16) kept)
shorter most whole kept long even past =
    Part long (simp length-take (omega arith)) (simp length-take (omega (arith, even, past)))

pub Keeps-shorter : (most : ℕ) (whole kept : List ℕ) → most + 16 < length kept → Keeps most 16 whole kept → Keeps most 16 whole (take (length kept - 16) kept)
Keeps-shorter most whole kept past (Whole same) = shorter most whole kept (rw (← same) (omega arith)) (rw same refl) past
Keeps-shorter most whole kept past (Part long longer even) = shorter most whole kept long even past

-- the code of the kept digits is what is kept of the whole code
halves : (most : ℕ) (whole kept a b : List ℕ) → decode_of whole ≡ Ok a → decode_of kept ≡ Ok b → Keeps (2 * most) 16 whole kept → Keeps most 8 a b
halves most whole kept a b wa kb (Whole same) =
    Whole (let e : Ok b ≡ Ok a = sym kb ∙ (rw same wa) in cc)
halves most whole kept a b wa kb (Part long longer even) =
    let la : length whole ≡ 2 * length a = (decode_of-ok whole a wa).2 in
    let lb : length kept ≡ 2 * length b = (decode_of-ok kept b kb).2 in
    Part (omega arith) (omega arith) (omega (arith, la, lb, even))

parity : (most : ℕ) (whole kept : List ℕ) → Keeps most 16 whole kept → length kept % 2 ≡ length whole % 2
parity most whole kept (Whole same) = rw same refl
parity most whole kept (Part long longer even) = omega (arith, even)

pub Collects-parity : (most : ℕ) (text digits : List ℕ) → Collects most text digits → length digits % 2 ≡ length (digits_of text) % 2
Collects-parity most text digits c = parity most (digits_of text) digits c.keeps

pub HasDecoded-collected : (kind : FileKind) (most : ℕ) (files : Held) (path digits kept : List ℕ) → length digits % 2 ≡ 0 → decode_of digits ≡ Ok kept → HasCollected kind (2 * most) files path digits
    → HasDecoded kind most files path kept
HasDecoded-collected kind most files path digits kept even decoded h =
    let e : length (digits_of h.text) % 2 ≡ 0 = sym (Collects-parity (2 * most) h.text digits h.collects) ∙ even in
    let whole = decode_of-digits (digits_of h.text) e h.collects.all in
    record {
      text = h.text;
      there = h.there;
      short = h.short;
      code = whole.0;
      spelled = whole.1;
      keeps = halves most (digits_of h.text) digits whole.0 kept whole.1 decoded h.collects.keeps;
    }

pub HoldsKept-decoded : (kind : FileKind) (most : ℕ) (files : Held) (path kept : List ℕ) → HasDecoded kind most files path kept → HoldsKept most files path kept
HoldsKept-decoded kind most files path kept h = record {
  code = h.code;
  held = record { text = h.text; there = h.there; spelled = h.spelled };
  keeps = h.keeps;
}

pub IsShort-decoded : (kind : FileKind) (most : ℕ) (files : Held) (path kept : List ℕ) → HasDecoded kind most files path kept → IsShort kind files path
IsShort-decoded kind most files path kept h = record { text = h.text; there = h.there; short = h.short }

-- the code of a text has at most half as many bytes
halved : (text code : List ℕ) → code_of text ≡ Ok code → 2 * length code ≤ length text
halved text code spelled =
    let black : ℕ → Bool = λ byte. not (is_ascii_whitespace byte) in
    let few : length (digits_of text) ≤ length text = rw (length-filter black text) (count_by-le-length black text) in
    let l : length (digits_of text) ≡ 2 * length code = (decode_of-ok (digits_of text) code spelled).2 in
    omega (arith, few, l)

whole_by : (most : ℕ) (code kept : List ℕ) → length code ≤ most → Keeps most 8 code kept → kept ≡ code
whole_by most code kept few (Whole same) = same
whole_by most code kept few (Part long longer even) = absurd (omega (arith, few, long))

-- a certificate's file is kept whole
pub HoldsCode-decoded : (most : ℕ) (files : Held) (path kept : List ℕ) → most_of Certificate ≤ 2 * most → HasDecoded Certificate most files path kept → HoldsCode files path kept
HoldsCode-decoded most files path kept enough h =
    let few : length h.code ≤ most = omega (arith, halved h.text h.code h.spelled, h.short, enough) in
    let same : kept ≡ h.code = whole_by most h.code kept few h.keeps in
    record { text = h.text; there = h.there; spelled = rw same h.spelled }

pub Collects-none : (most : ℕ) (digits : List ℕ) → digits ≡ [] → Collects most [] digits
Collects-none most digits none = record {
  all = All-nil (λ x. is_hex_digit x ≡ true);
  kept_all = subst (λ l. AllPass is_hex_digit l) (sym none) (All-nil (λ x. is_hex_digit x ≡ true));
  keeps = Whole none;
}
