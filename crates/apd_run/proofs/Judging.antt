-- Verdicts of accepted programs.
use Rattle.std.proofs.Common.{◌≡◌, ℕ, Option, Some, None, List, [], ◌∷◌, get_or, inl, inr, refl}
use Rattle.std.specs.List.{All}
use Rattle.std.proofs.lemmas.List.Elements.{All-cons, All-nil}
use Rattle.bpf_machine.specs.Verified.{Verified}
use Rattle.hook_judge.specs.Counted.{Counted}
use Rattle.hook_judge.specs.Verdicts.{GivesVerdict, VerdictOf}
use Rattle.versions.specs.declared.list.Load.{Load}
use Rattle.versions.specs.Numbers.{number_at, numbers_of}
use Rattle.versions.specs.Sets.{Programs, program_at, set_of}
use mathlib.Core.List.{IsPrefix}
use Rattle.ap_model.specs.Asks.{Ask, Answered}
use Rattle.ap_model.specs.Runs.{Entry}
use Rattle.ap_live.specs.Lives.{Live}
use Rattle.ap_live.specs.Verdicts.{AreJudged, IsJudged}
use Rattle.versions.proofs.Beginnings.{prefix_trans}
use Rattle.apd_run.specs.Deciding.{WasJudged}

-- these verdicts go by more loads, if more were published
judged_more : (least : ℕ) (xs ys : List Load) → IsPrefix xs ys → (e : Entry) → WasJudged least xs e → WasJudged least ys e
judged_more least xs ys p e j = record { loads = j.loads; first = prefix_trans j.loads xs ys j.first p; many = j.many; judged = j.judged }

pub all_judged : (least : ℕ) (xs ys : List Load) → IsPrefix xs ys → (es : List Entry) → All (WasJudged least xs) es → All (WasJudged least ys) es
all_judged least xs ys p es all k d low = judged_more least xs ys p (get_or es k d) (all k d low)

module _ (a : Live) (worker clock stations : ℕ) where
  judged_one : (programs : Programs) (load : ℕ) (h h' : Counted) (ask : Ask) (verdict steps : ℕ) (p : Option Verified) → program_at ask.hook programs ≡ p
      → VerdictOf (record { maps = a.stock.maps; worker = worker; clock = clock; stations = stations }) load p h ask verdict steps h' → IsJudged programs ask verdict
  judged_one programs load h h' ask verdict steps None is v = inl (record { none = is; number = v.0 })
  judged_one programs load h h' ask verdict steps (Some p) is v =
      inr (record {
        accepted = p;
        in_force = is;
        for_hook = v.run.for_hook;
        safe = v.run.safe;
        asked = v.run.asked;
        steps = steps;
        notes = v.run.notes;
        ends = v.run.ends;
        within = v.run.within;
      })

  -- those that the programs gave in which these loads result
  pub are_judged : (loads : List Load) (h h' : Counted) (asked : List (Ask × ℕ))
      → Answered (GivesVerdict (record { maps = a.stock.maps; worker = worker; clock = clock; stations = stations }) loads) h asked h' → AreJudged (set_of loads) asked
  are_judged loads h h' [] is = All-nil (λ (x : Ask × ℕ). IsJudged (set_of loads) x.0 x.1)
  are_judged loads h h' (x ∷ asked) v =
      All-cons (λ (x : Ask × ℕ). IsJudged (set_of loads) x.0 x.1) x asked
      (judged_one (set_of loads) (number_at x.0.hook (numbers_of loads)) h v.0 x.0 x.1 v.1.0 (program_at x.0.hook (set_of loads)) refl v.1.1)
      (are_judged loads v.0 h' asked v.2)
