-- A helper's result may be put into R0 before or after R1 to R5 are unset; what is already unset needs no writing.
use Rattle.std.proofs.Common.{◌≡◌, ℕ, List, [], ◌∷◌, refl, sym, ◌∙◌, ap, slice_set, get_or}
use Rattle.std.proofs.lemmas.List.{set-get_or}
use Rattle.bpf_absval.specs.declared.value.AbsVal.{AbsVal}
use Rattle.bpf_absval.specs.declared.value.AbsVal.TheVariants.{Unset}
use Rattle.bpf_absstate.specs.View.{View, register, without_arguments}

pub answered_last : (rs : List AbsVal) (v : AbsVal) → slice_set (without_arguments rs) 0 v ≡ without_arguments (slice_set rs 0 v)
answered_last [] v = refl
answered_last (r ∷ rs) v = refl

unset_again : (rs : List AbsVal) (i : ℕ) → get_or rs i Unset ≡ Unset → slice_set rs i Unset ≡ rs
unset_again rs i e = ap (slice_set rs i) (sym e) ∙ set-get_or rs i Unset

pub cleared_again : (a : View) → register a 1 ≡ Unset → register a 2 ≡ Unset → register a 3 ≡ Unset → register a 4 ≡ Unset → register a 5 ≡ Unset →
    without_arguments a.registers ≡ a.registers
cleared_again a e1 e2 e3 e4 e5 =
    let rs = a.registers in
    ap (λ l. slice_set (slice_set (slice_set (slice_set l 2 Unset) 3 Unset) 4 Unset) 5 Unset) (unset_again rs 1 e1) ∙
    ap (λ l. slice_set (slice_set (slice_set l 3 Unset) 4 Unset) 5 Unset) (unset_again rs 2 e2) ∙
    ap (λ l. slice_set (slice_set l 4 Unset) 5 Unset) (unset_again rs 3 e3) ∙
    ap (λ l. slice_set l 5 Unset) (unset_again rs 4 e4) ∙
    unset_again rs 5 e5
