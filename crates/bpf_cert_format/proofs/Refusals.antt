-- What fits, as the parts of a certificate are written.
use Rattle.std.proofs.Common.{◌≡◌, ℕ, ◌<◌, List, length, get_or, Result, subst}
use Rattle.std.specs.Prelude.{IsErrAnd}
use Rattle.std.specs.List.{AllByRecursion}
use Rattle.std.proofs.lemmas.List.Elements.{All-from_recursion}
use Rattle.std.proofs.lemmas.Result.{err_from_is_err_and}
use Rattle.bpf_absval.specs.declared.value.AbsVal.{AbsVal}
use Rattle.bpf_absval.specs.declared.value.AbsVal.TheVariants as abs
use Rattle.bpf_cert_format.specs.declared.fault.WriteFault.{WriteFault}
use Rattle.bpf_cert_format.specs.declared.fault.WriteFault.TheVariants.{Memory}
use Rattle.bpf_cert_format.specs.Answers.{RefusedForMemoryAlone}
use Rattle.bpf_cert_format.specs.Fits.{FitsValue, FitsStored}

-- the fault of a part is the fault of the whole
pub passed_on : {X : Type 0} (r : Result X WriteFault) (fault : WriteFault) → IsErrAnd r (λ y. y ≡ fault) → fault ≡ Memory → RefusedForMemoryAlone r
passed_on r fault gives memory = let p = err_from_is_err_and r gives in rw (p.1, p.2) memory

-- if all fit, the one at an index fits
pub fits_at : {X : Type 0} (P : X → Type 0) (xs : List X) (i : ℕ) (x : X) → i < length xs → get_or xs i x ≡ x → AllByRecursion P xs → P x
fits_at P xs i x lt here all = subst P here (All-from_recursion P xs all i x lt)

-- a value that fits where it is stored fits
pub stored_fits : (maps count : ℕ) (v : AbsVal) → FitsStored maps count v → FitsValue maps count v
stored_fits maps count abs.Unset fits = absurd fits
stored_fits maps count (abs.Number n) fits = fits
stored_fits maps count (abs.Frame offset l) fits = fits
stored_fits maps count (abs.Pointer at offset) fits = fits
stored_fits maps count abs.FrameEnd fits = fits
stored_fits maps count (abs.MapReference m) fits = fits
stored_fits maps count (abs.Lookup m) fits = fits
