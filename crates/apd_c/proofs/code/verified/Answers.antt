use Rattle.std.proofs.Common.{◌≡◌, ◌≤◌, ◌*◌, ℕ, Result, Ok, Err, IfOk, IfErr, Option, Some, None, inl, inr, ap, sym, subst, ◌∙◌}
use Rattle.bpf_decode.specs.Program.{Code}
use Rattle.bpf_machine.specs.Verified.{Verified}
use Rattle.bpf_verifier.specs.Admission.{IsRefusal, IsRefusalWithin}
use Rattle.bpf_verifier.specs.Limits.{units_of}
use Rattle.bpf_verifier.specs.Spent.{IsMemoryOrPassed, IsWithin}
use Rattle.bpf_verifier.specs.declared.limit.Limits.{Limits}
use Rattle.bpf_verifier.specs.declared.refusal.Refusal.{Refusal}
use Rattle.apd_c.specs.Code.{IsWithinWork, IsUnsafe, IsMemoryOrWork}
use Rattle.apd_c.proofs.code.verified.Goals as goal

-- without a limit of work only memory may be lacking
unlimited : {X : Type 0} (program : Code) (limit : ℕ) (work : Option ℕ) (r : Result X Refusal) → IfErr r (IsRefusal program limit) → IfErr r (IsUnsafe program limit work)
unlimited program limit work (Ok x) h = h
unlimited program limit work (Err e) h = record { begins = h.begins; plain = λ most plain. inl (h.plain most plain); clear = λ clear. inl (h.clear clear) }

passed : (program : Code) (limits : Limits) (most : ℕ) (e : Refusal) → limits.work ≡ Some most → (h : IsRefusalWithin program limits e) → IsMemoryOrPassed e.fault h.tally → IsMemoryOrWork limits.work e.fault
passed program limits most e some h (inl memory) = inl memory
passed program limits most e some h (inr passes) =
    inr (record { tally = h.tally; within = some ∙ ap (λ n. Some n) (sym (h.spent.most ∙ ap units_of some)); counted = h.counted; passed = passes })

limited : {X : Type 0} (program : Code) (limits : Limits) (most : ℕ) (r : Result X Refusal) → limits.work ≡ Some most → IfErr r (IsRefusalWithin program limits) → IfErr r (IsUnsafe program limits.states limits.work)
limited program limits most (Ok x) some h = h
limited program limits most (Err e) some h = record {
  begins = h.after.begins;
  plain = λ greatest plain. passed program limits most e some h (h.after.plain greatest plain);
  clear = λ clear. passed program limits most e some h (h.after.clear clear);
}

pub returns-in-None-clause-refused : goal.returns-in-None-clause-refused
returns-in-None-clause-refused c = unlimited c.args.program c.args.limits.states c.args.limits.work _ c.verify_within.ensures.refused

pub returns-in-Some-clause-refused : goal.returns-in-Some-clause-refused
returns-in-Some-clause-refused c = limited c.args.program c.args.limits _ _ c.in-Some.is c.verify_limited.ensures.refused

-- without a limit of work nothing is to be shown
free : (work : Option ℕ) (budget most : ℕ) → work ≡ None → work ≡ Some most → 80 * budget ≤ most
free work budget most none some = absurd (cc)

unbounded : (work : Option ℕ) (r : Result Verified Refusal) → work ≡ None → IfOk r (λ a. IsWithinWork work a.budget)
unbounded work (Ok a) none = λ most some. free work a.budget most none some
unbounded work (Err e) none = tt

earned : (limits : Limits) (r : Result Verified Refusal) → IfOk r (λ a. IsWithin limits a.budget) → IfOk r (λ a. IsWithinWork limits.work a.budget)
earned limits (Ok a) h = λ most some. subst (λ (w : Option ℕ). 80 * a.budget ≤ units_of w) some h
earned limits (Err e) h = h

pub returns-in-None-clause-earned : goal.returns-in-None-clause-earned
returns-in-None-clause-earned c = unbounded c.args.limits.work _ c.in-None.is

pub returns-in-Some-clause-earned : goal.returns-in-Some-clause-earned
returns-in-Some-clause-earned c = earned c.args.limits _ c.verify_limited.ensures.earned
