-- Reading a whole certificate.
use Rattle.std.proofs.Common.{◌≡◌, ℕ, cond, eqb, List, [], ◌++◌, length, Option, Some, None, Result, Ok, Err, sym, ap, subst, ◌∙◌}
use Rattle.std.specs.Prelude.{IfOk}
use Rattle.std.proofs.lemmas.Bool.{eqb-true}
use Rattle.std.proofs.lemmas.List.{append-nil, nil_from_length}
use Rattle.bpf_regions.specs.declared.maps.Shape.{Shape}
use Rattle.bpf_cert_format.specs.declared.fault.ReadFault.{ReadFault}
use Rattle.bpf_cert_format.specs.declared.fault.ReadFault.TheVariants.{Memory, Malformed}
use Rattle.bpf_cert_format.specs.Views.{CertificateView}
use Rattle.bpf_cert_format.specs.Fits.{FitsCertificate}
use Rattle.bpf_cert_format.specs.Spelling.{spelling}
use Rattle.bpf_cert_format.specs.Answers.{Gives, Spells, Reads}
use Rattle.bpf_cert_format.specs.Reading.{◌>>=◌, certificate_at, all_of}
use Rattle.bpf_cert_format.proofs.Formats.{IsBytes, bind_some, guard_some, found, some_is}
use Rattle.bpf_cert_format.proofs.Whole.{certificate_format}

all_takes : (shapes : List Shape) (bytes : List ℕ) (c : CertificateView) → IsBytes bytes → all_of (length shapes) bytes ≡ Some c → Spells shapes bytes c
unfolding all_of
all_takes shapes bytes c fits e =
    let maps = length shapes in
    let a = bind_some (certificate_at maps bytes) (λ x. cond (eqb (length x.1) 0) (Some x.0) None) c e in
    let g = guard_some (eqb (length a.0.1) 0) a.0.0 c a.2 in
    let t = (certificate_format maps).takes bytes a.0 fits a.1 in
    let no_rest : a.0.1 ≡ [] = nil_from_length a.0.1 (eqb-true _ _ g.0) in
    let all : bytes ≡ spelling a.0.0 = t.0.parts ∙ ap (λ (w : List ℕ). spelling a.0.0 ++ w) no_rest ∙ append-nil (spelling a.0.0) in
    subst (Spells shapes bytes) g.1 (record { fits = t.1; spelled = all })

all_again : (shapes : List Shape) (c : CertificateView) → FitsCertificate (length shapes) c → all_of (length shapes) (spelling c) ≡ Some c
unfolding all_of
all_again shapes c fits =
    let maps = length shapes in
    let one : certificate_at maps (spelling c) ≡ Some (c, []) = ap (certificate_at maps) (sym (append-nil (spelling c))) ∙ (certificate_format maps).again c [] fits in
    ap (λ (o : Option (CertificateView × List ℕ)). o >>= λ x. cond (eqb (length x.1) 0) (found x.0) None) one

pub is_found : (shapes : List Shape) (bytes : List ℕ) (r : Result CertificateView ReadFault) → IsBytes bytes → Gives (λ c. c) r (all_of (length shapes) bytes) → IfOk r (Spells shapes bytes)
is_found shapes bytes (Ok c) fits h = all_takes shapes bytes c fits h
is_found shapes bytes (Err e) fits h = tt

reads : (r : Result CertificateView ReadFault) (c : CertificateView) → Gives (λ x. x) r (Some c) → Reads r c
reads (Ok x) c h = some_is x c (sym h)
reads (Err Memory) c h = tt
reads (Err Malformed) c h = absurd cc

pub is_only : (shapes : List Shape) (bytes : List ℕ) (r : Result CertificateView ReadFault) (c : CertificateView) → Gives (λ x. x) r (all_of (length shapes) bytes) → Spells shapes bytes c → Reads r c
is_only shapes bytes r c h spelled =
    let one : all_of (length shapes) bytes ≡ Some c = ap (all_of (length shapes)) spelled.spelled ∙ all_again shapes c spelled.fits in
    reads r c (subst (Gives (λ x. x) r) one h)
