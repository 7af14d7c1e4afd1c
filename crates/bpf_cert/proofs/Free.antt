-- Calling functions of which nothing is said, as a loop checks it.
use Rattle.std.proofs.Common.{◌≡◌, ℕ, zero, suc, ◌+◌, ◌-◌, ◌≤◌, ◌<◌, Bool, true, false, List, [], ◌∷◌, length, take, drop, get_or, refl, sym, ◌∙◌, arith}
use Rattle.std.specs.Prelude.{◌&&◌}
use Rattle.std.specs.List.{list_all}
use Rattle.bpf_rules.specs.Operands.{is_unset}
use Rattle.bpf_cert_format.specs.declared.frame.Frame.{Frame}
use Rattle.bpf_cert.specs.States.{callers_free}

free_step : (fs : List Frame) (j : ℕ) (d : Frame) → j + 1 < length fs → callers_free (drop j fs) ≡ list_all is_unset (take 6 (get_or fs j d).registers) && callers_free (drop (suc j) fs)
unfolding callers_free
free_step [] j d lt = absurd (omega (arith, lt))
free_step (f ∷ []) zero d lt = absurd (omega (arith, lt))
free_step (f ∷ g ∷ fs) zero d lt = refl
free_step (f ∷ fs) (suc j) d lt = free_step fs j d (omega (arith, lt))

free_end : (fs : List Frame) (j : ℕ) → length fs ≤ j + 1 → callers_free (drop j fs) ≡ true
unfolding callers_free
free_end [] zero le = refl
free_end [] (suc j) le = refl
free_end (f ∷ []) zero le = refl
free_end (f ∷ g ∷ fs) zero le = absurd (omega (arith, le))
free_end (f ∷ fs) (suc j) le = free_end fs j (omega (arith, le))

pub goes_on : (fs : List Frame) (k : ℕ) (d : Frame) (r : Bool) → 1 ≤ k → k < length fs → r ≡ list_all is_unset (take 6 (get_or fs (k - 1) d).registers) → r ≡ true → callers_free (drop (k + 1 - 1) fs) ≡ callers_free (drop (k - 1) fs)
goes_on fs k d r one lt e h =
    let next : suc (k - 1) ≡ k + 1 - 1 = omega arith in
    let all : list_all is_unset (take 6 (get_or fs (k - 1) d).registers) ≡ true = sym e ∙ h in
    sym (free_step fs (k - 1) d (omega (arith, one, lt)) ∙ rw (all, next) refl)

pub stops : (fs : List Frame) (k : ℕ) (d : Frame) (r : Bool) → 1 ≤ k → k < length fs → r ≡ list_all is_unset (take 6 (get_or fs (k - 1) d).registers) → r ≡ false → callers_free (drop (k - 1) fs) ≡ false
stops fs k d r one lt e h =
    let none : list_all is_unset (take 6 (get_or fs (k - 1) d).registers) ≡ false = sym e ∙ h in
    free_step fs (k - 1) d (omega (arith, one, lt)) ∙ rw none refl

pub at_end : (fs : List Frame) (k : ℕ) → length fs ≤ k → callers_free (drop (k - 1) fs) ≡ true
at_end fs k le = free_end fs (k - 1) (omega arith)
