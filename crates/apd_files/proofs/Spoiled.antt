-- Texts that aren't pairs of hex digits.
use Rattle.std.proofs.Common.{◌≡◌, ◌∙◌, ◌⊎◌, inl, inr, ℕ, ◌%◌, Bool, true, false, List, [], ◌∷◌, ◌++◌, length, refl, sym, ap, subst, append_assoc, Option, slice_index, Result, Ok, Err}
use Rattle.std.specs.Prelude.{not, filter}
use Rattle.std.specs.List.{All, AllPass}
use Rattle.std.specs.Char.{is_ascii_whitespace}
use Rattle.std.proofs.lemmas.List.Elements.{filter-append, All-head, All-tail}
use Rattle.hex.specs.Hex.{is_hex_digit}
use Rattle.hex.specs.declared.error.FromHexError.{FromHexError}
use Rattle.hex.specs.declared.error.FromHexError.TheVariants.{OddLength}
use Rattle.hex.proofs.HexLemmas.{decode_of-ok, decode_of-odd}
use Rattle.apd_files.specs.Held.{Held, digits_of, code_of}
use Rattle.apd_files.specs.Reading.{Collects, Gives, IsRead, HasCollected, IsFirstForeign, StopsAt}
use Rattle.apd_files.specs.Faults.{HoldsNoCode, IsFaultOf, Tells}
use Rattle.apd_files.specs.declared.inputs.files.FileKind.{FileKind}
use Rattle.apd_files.specs.declared.inputs.code.CodeFault.{CodeFault}
use Rattle.apd_files.specs.declared.inputs.digits.BlockFault.{BlockFault}
use Rattle.apd_files.specs.declared.inputs.digits.BlockFault.TheVariants as block_fault
use Rattle.apd_files.specs.declared.inputs.code.DigitFault.TheVariants.{Odd}
use Rattle.apd_files.proofs.Kept.{Collects-parity}
use Rattle.apd_files.proofs.Blocks.{IsRead-gives}

known : (r : Result (List ℕ) FromHexError) → ((x : List ℕ) × (r ≡ Ok x)) ⊎ ((e : FromHexError) × (r ≡ Err e))
known (Ok x) = inl (x, refl)
known (Err e) = inr (e, refl)

filter_middle : (p : ℕ → Bool) (xs ys : List ℕ) (x : ℕ) → p x ≡ true → filter p (xs ++ x ∷ ys) ≡ filter p xs ++ x ∷ filter p ys
filter_middle p xs ys x h = filter-append p xs (x ∷ ys) ∙ (rw h refl)

all_middle : (P : ℕ → Type 0) (xs ys : List ℕ) (x : ℕ) → All P (xs ++ x ∷ ys) → P x
all_middle P [] ys x h = All-head P x ys h
all_middle P (y ∷ xs) ys x h = all_middle P xs ys x (All-tail P y (xs ++ x ∷ ys) h)

pub foreign_refused : (byte : ℕ) (text : List ℕ) → IsFirstForeign byte text → (e : FromHexError) × (code_of text ≡ Err e)
foreign_refused byte text f = elim (known (code_of text)) [
  | inl good ↦
      let all = (decode_of-ok (digits_of text) good.0 good.1).1 in
      let black : not (is_ascii_whitespace byte) ≡ true = rw f.foreign.not_white refl in
      let e : digits_of text ≡ digits_of f.before ++ byte ∷ digits_of f.after = ap digits_of f.split ∙ filter_middle (λ b. not (is_ascii_whitespace b)) f.before f.after byte black in
      let passes : is_hex_digit byte ≡ true = all_middle (λ b. is_hex_digit b ≡ true) (digits_of f.before) (digits_of f.after) byte (subst (λ l. AllPass is_hex_digit l) e all) in
      absurd (let no : true ≡ false = sym passes ∙ f.foreign.not_digit in cc)
  | inr bad ↦ bad
]

pub HoldsNoCode-odd : (kind : FileKind) (most : ℕ) (files : Held) (path digits : List ℕ) → length digits % 2 ≡ 1 → HasCollected kind most files path digits → HoldsNoCode files path Odd
HoldsNoCode-odd kind most files path digits odd h =
    let e : length (digits_of h.text) % 2 ≡ 1 = sym (Collects-parity most h.text digits h.collects) ∙ odd in
    record {
      text = h.text;
      there = h.there;
      spoils = (h.collects.all, e);
      why = OddLength;
      refused = decode_of-odd (digits_of h.text) e;
    }

longer : (byte : ℕ) (text rest : List ℕ) → IsFirstForeign byte text → IsFirstForeign byte (text ++ rest)
longer byte text rest f = record {
  before = f.before;
  after = f.after ++ rest;
  split = ap (λ l. l ++ rest) f.split ∙ append_assoc f.before (byte ∷ f.after) rest;
  fine = f.fine;
  foreign = f.foreign;
}

pub IsFaultOf-block : (kind : FileKind) (files : Held) (path : List ℕ) (most : ℕ) (front block digits : List ℕ) (left later : Option (List ℕ)) (f : BlockFault) (r : CodeFault) → IsRead front (files path) left → Gives block left later
    → Collects most front digits → StopsAt most digits block f → Tells block f r → IsFaultOf kind files path r
IsFaultOf-block kind files path most front block digits left later block_fault.NoMemory r read gives c stops tells = subst (λ x. IsFaultOf kind files path x) (sym tells) tt
IsFaultOf-block kind files path most front block digits left later (block_fault.Foreign at) r read gives c stops tells =
    let whole = IsRead-gives front block (files path) left later read gives in
    let first = longer (slice_index block at) (front ++ block) whole.rest (stops.first front c) in
    let refused = foreign_refused (slice_index block at) ((front ++ block) ++ whole.rest) first in
    subst (λ x. IsFaultOf kind files path x) (sym tells.1) (record {
      text = (front ++ block) ++ whole.rest;
      there = whole.whole;
      spoils = first;
      why = refused.0;
      refused = refused.1;
    })
