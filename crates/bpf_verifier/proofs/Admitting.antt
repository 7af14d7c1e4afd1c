-- From parts of a verdict to the verdict.
use Rattle.std.proofs.Common.{◌≡◌, ◌≤◌, ◌^◌, ℕ, None, Result, Ok, Err, IfOk, IfErr, OnOk, inl, inr, refl, sym, subst, arith}
use Rattle.bpf_decode.specs.Program.{Code, Begins}
use Rattle.bpf_model.specs.Run.{Safe}
use Rattle.bpf_absstate.specs.View.{entry_view}
use Rattle.bpf_plain.specs.Clear.{IsClear}
use Rattle.bpf_plain.specs.Walks.{IsPlain, HasWalk}
use Rattle.bpf_prune.specs.Spending.{Tally, CountsAll, HasPassed, unspent}
use Rattle.bpf_rules.specs.declared.fault.Fault.TheVariants.{NoMemory}
use Rattle.bpf_rules.specs.declared.fault.Fault.{Fault}
use Rattle.bpf_verifier.specs.Admission.{IsSafeBudget, IsRefusal, IsRefusalAfter, IsRefusalWithin}
use Rattle.bpf_verifier.specs.Limits.{IsStateLimit, units_of}
use Rattle.bpf_verifier.specs.Spent.{IsSpent, IsEarned, IsWithin, IsAmple, IsMemoryOrPassed}
use Rattle.bpf_verifier.specs.Causes.{IsDue, ByMemory}
use Rattle.bpf_verifier.specs.declared.limit.Limits.{Limits}
use Rattle.bpf_verifier.specs.declared.explanation.Explanation.{Explanation}
use Rattle.bpf_verifier.specs.declared.refusal.Refusal.{Refusal}

-- a plain program is clear within the greatest limit
abbrev PlainIsClear : Code → Type 0
PlainIsClear program = IsPlain program.slots → IsClear program entry_view (2 ^ 22)

pub refusal_after : (program : Code) (limit : ℕ) (w : Tally) (e : Refusal) → PlainIsClear program → Begins program.slots e.pc → (IsClear program entry_view limit → IsMemoryOrPassed e.fault w) → IsRefusalAfter program limit w e
refusal_after program limit w e law begins clear = record {
  begins = begins;
  plain = λ most plain. clear (subst (IsClear program entry_view) (sym most) (law plain));
  clear = clear;
}

-- memory ran out before the first instruction
pub starved_after : (program : Code) (limit : ℕ) (w : Tally) → Begins program.slots 0 → IsRefusalAfter program limit w (record { fault = NoMemory; pc = 0 })
starved_after program limit w begins = record { begins = begins; plain = λ most plain. inl refl; clear = λ clear. inl refl }

-- no work is done
pub spends_none : (limit : ℕ) (w : Tally) → IsSpent limit w w
spends_none limit w = record { few = omega arith; units = omega arith; again = omega arith; most = refl }

-- ample work is never passed
never_passed : (limits : Limits) (w : Tally) → IsAmple limits → IsSpent limits.states (unspent (units_of limits.work)) w → HasPassed w → ⊥
never_passed limits w ample spent passed = omega (arith, ample, spent.few, spent.units, spent.again, spent.most, passed.passes, passed.small)

pub by_memory : (limits : Limits) (w : Tally) (fault : Fault) → IsAmple limits → IsSpent limits.states (unspent (units_of limits.work)) w → IsMemoryOrPassed fault w → fault ≡ NoMemory
by_memory limits w fault ample spent (inl memory) = memory
by_memory limits w fault ample spent (inr passed) = absurd (never_passed limits w ample spent passed)

exact : (program : Code) (limits : Limits) (e : Refusal) → IsAmple limits → IsRefusalWithin program limits e → IsRefusal program limits.states e
exact program limits e ample h = record {
  begins = h.after.begins;
  plain = λ most plain. by_memory limits h.tally e.fault ample h.spent (h.after.plain most plain);
  clear = λ clear. by_memory limits h.tally e.fault ample h.spent (h.after.clear clear);
}

-- with ample work the refusal is that without a limit on work
pub exacts : {X : Type 0} (program : Code) (limits : Limits) (r : Result X Refusal) → IsAmple limits → IfErr r (IsRefusalWithin program limits) → IfErr r (IsRefusal program limits.states)
exacts program limits (Ok x) ample h = h
exacts program limits (Err e) ample h = exact program limits e ample h

pub explains : {E : Type 0} (program : Code) (limits : Limits) (r : Result Explanation E) → IsAmple limits → IfOk r (λ x. IfErr x.verdict (IsRefusalWithin program limits))
    → IfOk r (λ x. IfErr x.verdict (IsRefusal program limits.states))
explains program limits (Ok x) ample h = exacts program limits x.verdict ample h
explains program limits (Err e) ample h = h

pub ample_most : (states : ℕ) → IsStateLimit states → IsAmple (record { states = states; work = None })
ample_most states limit = omega (arith, limit.0, limit.1)

-- a limit of states alone
pub exacts_alone : {X : Type 0} (program : Code) (states : ℕ) (limits : Limits) (r : Result X Refusal) → limits ≡ record { states = states; work = None } → IsStateLimit states → IfErr r (IsRefusalWithin program limits)
    → IfErr r (IsRefusal program states)
exacts_alone program states limits r e limit h = exacts program (record { states = states; work = None }) r (ample_most states limit) (subst (λ (l : Limits). IfErr r (IsRefusalWithin program l)) e h)

pub explains_alone : {E : Type 0} (program : Code) (states : ℕ) (limits : Limits) (r : Result Explanation E) → limits ≡ record { states = states; work = None } → IsStateLimit states
    → IfOk r (λ x. IfErr x.verdict (IsRefusalWithin program limits)) → IfOk r (λ x. IfErr x.verdict (IsRefusal program states))
explains_alone program states limits r e limit h =
    explains program (record { states = states; work = None }) r (ample_most states limit) (subst (λ (l : Limits). IfOk r (λ x. IfErr x.verdict (IsRefusalWithin program l))) e h)

pub withins : {X : Type 0} (program : Code) (limits : Limits) (w : Tally) (r : Result X Refusal) → IsSpent limits.states (unspent (units_of limits.work)) w → CountsAll w → IfErr r (IsRefusalAfter program limits.states w) → IfErr r (IsDue program limits.states (unspent (units_of limits.work)) w)
    → IfErr r (IsRefusalWithin program limits)
withins program limits w (Ok x) spent counted after due = after
withins program limits w (Err e) spent counted after due = record { tally = w; spent = spent; counted = counted; after = after; due = due }

-- an earned budget is within the limit on work
earned_within : (limits : Limits) (w : Tally) (b : ℕ) → IsSpent limits.states (unspent (units_of limits.work)) w → CountsAll w → IsEarned b (unspent (units_of limits.work)) w → IsWithin limits b
earned_within limits w b spent counted earned = omega (arith, spent.most, counted.allowed, counted.all, earned)

pub found_within : {X E : Type 0} (f : X → ℕ) (limits : Limits) (w : Tally) (r : Result X E) → IsSpent limits.states (unspent (units_of limits.work)) w → CountsAll w
    → IfOk r (λ x. IsEarned (f x) (unspent (units_of limits.work)) w) → IfOk r (λ x. IsWithin limits (f x))
found_within f limits w (Ok x) spent counted earned = earned_within limits w (f x) spent counted earned
found_within f limits w (Err e) spent counted earned = earned

pub explored_within : {X E : Type 0} (program : Code) (limits : Limits) (w : Tally) (r : Result X E) → IsSpent limits.states (unspent (units_of limits.work)) w → CountsAll w
    → OnOk r ((b : ℕ) × IsSafeBudget program limits.states b × IsEarned b (unspent (units_of limits.work)) w) → OnOk r ((b : ℕ) × IsSafeBudget program limits.states b × IsWithin limits b)
explored_within program limits w (Ok x) spent counted h = (h.0, h.1, earned_within limits w h.0 spent counted h.2)
explored_within program limits w (Err e) spent counted h = h

pub budgets : (program : Code) (limit : ℕ) (r : Result ℕ Refusal) → IfOk r (Safe program.slots program.shapes) → IfOk r (λ b. b ≤ limit)
    → IfOk r (λ b. IsPlain program.slots → HasWalk program.slots b) → IfOk r (IsSafeBudget program limit)
budgets program limit (Ok budget) safe small walk = record { safe = safe; small = small; walk = walk }
budgets program limit (Err e) safe small walk = safe

pub refusal_within : (program : Code) (limits : Limits) (w : Tally) (e : Refusal) → PlainIsClear program → IsSpent limits.states (unspent (units_of limits.work)) w → CountsAll w → Begins program.slots e.pc
    → (IsClear program entry_view limits.states → IsMemoryOrPassed e.fault w) → IsDue program limits.states (unspent (units_of limits.work)) w e → IsRefusalWithin program limits e
refusal_within program limits w e law spent counted begins clear due = record {
  tally = w;
  spent = spent;
  counted = counted;
  after = refusal_after program limits.states w e law begins clear;
  due = due;
}

pub starved_within : (program : Code) (limits : Limits) → Begins program.slots 0 → IsRefusalWithin program limits (record { fault = NoMemory; pc = 0 })
starved_within program limits begins = record {
  tally = unspent (units_of limits.work);
  spent = spends_none limits.states (unspent (units_of limits.work));
  counted = record { allowed = omega arith; all = omega arith };
  after = starved_after program limits.states (unspent (units_of limits.work)) begins;
  due = ByMemory refl;
}

pub refusals : (program : Code) (limits : Limits) (w : Tally) (r : Result ℕ Refusal) → PlainIsClear program → IsSpent limits.states (unspent (units_of limits.work)) w → CountsAll w → IfErr r (λ e. Begins program.slots e.pc)
    → IfErr r (λ e. IsClear program entry_view limits.states → IsMemoryOrPassed e.fault w) → IfErr r (IsDue program limits.states (unspent (units_of limits.work)) w) → IfErr r (IsRefusalWithin program limits)
refusals program limits w (Ok budget) law spent counted begins clear due = begins
refusals program limits w (Err e) law spent counted begins clear due = refusal_within program limits w e law spent counted begins clear due
