-- The rows of a capture, from their parts.
use Rattle.std.proofs.Common.{◌≡◌, ◌==◌, ℕ, true, false, List, [], Some, None, refl, subst, ap, sym, ◌∙◌}
use Rattle.apd_eval.specs.Metered.{Metered}
use Rattle.bpf_regions.specs.declared.hooks.Hook.{Hook}
use Rattle.bpf_regions.specs.declared.hooks.Hook.TheVariants.{Association, Addba, Data}
use Rattle.bpf_regions.specs.declared.maps.Shape.{Shape}
use Rattle.bpf_regions.specs.Hooks.{number_of}
use Rattle.bpf_machine.specs.Verified.{Verified}
use Rattle.capture.specs.Packets.{Seen}
use Rattle.ap_model.specs.Readings.{Config}
use Rattle.program_judge.specs.Programs.{Programs, no_programs, program_at, replaced}
use Rattle.apd_eval.specs.Asked.{IsAlone, IsFollowed}
use Rattle.apd_eval.specs.Evaluated.{IsJudged}
use Rattle.apd_eval.specs.Taken.{AreTaken, IsHandedOn}
use Rattle.apd_eval.specs.declared.row.Row.{Row}
use Rattle.apd_eval.specs.declared.tried.Policy.{Policy}

not_both : true ≡ false → ⊥
not_both = λ (both : true ≡ false). cc

no_other : (own hook : Hook) (shapes : List Shape) (v : Verified) → (number_of hook == number_of own) ≡ false → program_at hook (replaced own (no_programs shapes) (Some v)) ≡ None
no_other Association Association shapes v e = absurd (not_both e)
no_other Association Addba shapes v e = refl
no_other Association Data shapes v e = refl
no_other Addba Association shapes v e = refl
no_other Addba Addba shapes v e = absurd (not_both e)
no_other Addba Data shapes v e = refl
no_other Data Association shapes v e = refl
no_other Data Addba shapes v e = refl
no_other Data Data shapes v e = absurd (not_both e)

pub own_of : (own : Hook) (shapes : List Shape) (v : Verified) → program_at own (replaced own (no_programs shapes) (Some v)) ≡ Some v
own_of Association shapes v = refl
own_of Addba shapes v = refl
own_of Data shapes v = refl

-- a program alone, at its hook
pub own_program : (p : Policy) (v : Verified) → p.hook ≡ v.hook → p.programs.now ≡ replaced v.hook (no_programs v.code.shapes) (Some v) → program_at p.hook p.programs.now ≡ Some v
own_program p v hook programs = ap (λ (h : Hook). program_at h p.programs.now) hook ∙ (ap (λ (s : Programs). program_at v.hook s) programs ∙ own_of v.hook v.code.shapes v)

-- a program alone is the only one
pub is_alone : (p : Policy) (v : Verified) → p.hook ≡ v.hook → p.programs.now ≡ replaced v.hook (no_programs v.code.shapes) (Some v) → IsAlone p
is_alone p v hook programs = record {
  others = λ other e.
      subst (λ (s : Programs). program_at other s ≡ None) (sym programs) (no_other v.hook other v.code.shapes v (ap (λ (h : Hook). number_of other == number_of h) (sym hook) ∙ e));
}

-- what such a program holds at first, and what it holds then
pub is_judged : (v : Verified) (draw : ℕ) (config : Config) (packets : List Seen) (p : Policy) (first last : Metered) (counts : List ℕ) (rows : List Row) → p.hook ≡ v.hook
    → p.programs.now ≡ replaced v.hook (no_programs v.code.shapes) (Some v) → first.held.draw ≡ draw → first.counts ≡ counts → IsFollowed p config packets first rows last → IsJudged v draw config packets counts rows last.counts
is_judged v draw config packets p first last counts rows hook programs drawn from followed = record {
  policy = p;
  hook = hook;
  programs = programs;
  first = first;
  drawn = drawn;
  from = from;
  last = last;
  to = refl;
  followed = followed;
}

-- the rows of such a program, as they are taken
pub are_taken : {S : Type 0} (takes : S → Row → List ℕ → S → Type 0) (v : Verified) (draw : ℕ) (config : Config) (packets : List Seen) (p : Policy) (first last : Metered) (s t : S) → p.hook ≡ v.hook
    → p.programs.now ≡ replaced v.hook (no_programs v.code.shapes) (Some v) → first.held.draw ≡ draw → first.counts ≡ [] → IsHandedOn takes p config packets first s last t → AreTaken takes v draw config packets s t
are_taken takes v draw config packets p first last s t hook programs drawn from on = record {
  rows = on.rows;
  evaluated = (last.counts, is_judged v draw config packets p first last [] on.rows hook programs drawn from on.followed);
  taken = on.taken;
}
