-- Entries by the positions of their bytes.
use Rattle.std.proofs.Common.{◌≡◌, ℕ, ◌+◌, ◌-◌, ◌≤◌, List, [], ◌∷◌, ◌++◌, length, drop, Some, refl, sym, ap, subst, ◌∙◌, arith, length-append}
use Rattle.std.proofs.lemmas.List.{drop-drop}
use Rattle.bpf_cert_format.specs.Fits.{FitsEntry}
use Rattle.bpf_cert_format.specs.Reading.{entry_at}
use Rattle.bpf_cert_format.specs.Spelling.{entry}
use Rattle.bpf_cert_format.specs.Unread.{TextView, entry_read, entry_from}
use Rattle.bpf_cert_format.specs.Views.{EntryView}
use Rattle.bpf_cert_format.proofs.Formats.{IsBytes, IsBytes-drop}
use Rattle.bpf_cert_format.proofs.Whole.{entry_format}

skipped : (w after : List ℕ) → drop (length w) (w ++ after) ≡ after
skipped [] after = refl
skipped (x ∷ w) after = skipped w after

-- the second bytes are a suffix of the first
pub record IsLast (bytes rest : List ℕ) : Type 0 where
  pub short : length rest ≤ length bytes
  pub same : rest ≡ drop (length bytes - length rest) bytes

behind : (bytes rest w after : List ℕ) → IsLast bytes rest → rest ≡ w ++ after → IsLast bytes after
behind bytes rest w after last parts =
    let short : length rest ≤ length bytes = last.short in
    let e : length rest ≡ length w + length after = ap length parts ∙ length-append w after in
    let p : ℕ = length bytes - length rest in
    let at : p + length w ≡ length bytes - length after = omega (arith, e, short) in
    record {
      short = omega (arith, e, short);
      same = sym (skipped w after) ∙ ap (drop (length w)) (sym parts ∙ last.same) ∙ drop-drop (length w) p bytes ∙ ap (λ (n : ℕ). drop n bytes) at;
    }

pub all_last : (bytes : List ℕ) → IsLast bytes bytes
all_last bytes =
    let none : length bytes - length bytes ≡ 0 = omega arith in
    record { short = omega arith; same = ap (λ (n : ℕ). drop n bytes) (sym none) }

-- what is left after an entry
pub entry_behind : (maps : ℕ) (bytes rest after : List ℕ) (e : EntryView) → IsBytes bytes → IsLast bytes rest → entry_at maps rest ≡ Some (e, after) → IsLast bytes after
entry_behind maps bytes rest after e fits last h =
    let b : IsBytes rest = subst IsBytes (sym last.same) (IsBytes-drop (length bytes - length rest) bytes fits) in
    behind bytes rest (entry e) after last ((entry_format maps).takes rest (e, after) b h).0.parts

-- what is read at a position fits
pub entry_fits : (maps place : ℕ) (bytes rest after : List ℕ) (e : EntryView) → IsBytes bytes → rest ≡ drop place bytes → entry_at maps rest ≡ Some (e, after) → FitsEntry maps e
entry_fits maps place bytes rest after e fits same h =
    let b : IsBytes rest = subst IsBytes (sym same) (IsBytes-drop place bytes fits) in
    ((entry_format maps).takes rest (e, after) b h).1

-- it is the entry spelled there
pub stands_there : (t : TextView) (maps : ℕ) (bytes rest after : List ℕ) (e : EntryView) → t ≡ record { maps = maps; bytes = bytes } → IsLast bytes rest → entry_at maps rest ≡ Some (e, after) → e ≡ entry_from (record { text = t; place = length bytes - length rest })
stands_there t maps bytes rest after e same last h =
    let place : ℕ = length bytes - length rest in
    sym (ap (λ (x : TextView). entry_from (record { text = x; place = place })) same ∙ ap (λ (w : List ℕ). entry_read (entry_at maps w)) (sym last.same) ∙ ap entry_read h)
