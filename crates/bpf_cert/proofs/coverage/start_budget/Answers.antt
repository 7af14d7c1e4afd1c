use Rattle.std.proofs.Common.{sym, subst, ◌+◌, ◌<◌, length, arith}
use Rattle.std.proofs.lemmas.Option.{get_or_from_slice_get}
use Rattle.bpf_absstate.specs.View.{entry_view}
use Rattle.bpf_cert.specs.Covered.{Includes}
use Rattle.bpf_cert.specs.Steps.{IsLeast}
use Rattle.bpf_cert.proofs.Told.{told_true, told_false}
use Rattle.bpf_cert.proofs.Least.{SoFar, passes, takes}
use Rattle.bpf_cert.proofs.coverage.start_budget.Goals as goal
use Rattle.bpf_cert.proofs.coverage.start_budget.Goals.{then-includes, else-includes}

pub loop-place-preserved : goal.loop-place-preserved
loop-place-preserved c =
    elim c.if-includes.branch [
      | then-includes w ↦
          let es = c.args.claims.now in
          let i = c.loop-place.place in
          let e = c.in_ok-claim.claim in
          let lt : i < length es = let size = c.len-place-end.ensures.is in omega (arith, size, c.loop-place-test.true) in
          let in_e : Includes e entry_view = rw c.requires.start at (told_true c.includes.result (Includes e c.args.start.now) w.if-includes.true c.includes.ensures.is) in
          let all = takes es i e c.loop-place.best lt (sym (get_or_from_slice_get es i e e c.in_ok-claim.ensures.is)) in_e c.loop-place.invariant in
          subst (SoFar es (i + 1)) (sym w.best-is) (subst (IsLeast es (i + 1)) (sym w.lesser.ensures.is) all)
      | else-includes w ↦
          let es = c.args.claims.now in
          let i = c.loop-place.place in
          let e = c.in_ok-claim.claim in
          let lt : i < length es = let size = c.len-place-end.ensures.is in omega (arith, size, c.loop-place-test.true) in
          let out : Includes e entry_view → ⊥ = rw c.requires.start at (told_false c.includes.result (Includes e c.args.start.now) w.if-includes.false c.includes.ensures.is) in
          subst (SoFar es (i + 1)) (sym w.best-is) (passes es i e c.loop-place.best lt (sym (get_or_from_slice_get es i e e c.in_ok-claim.ensures.is)) out c.loop-place.invariant)
    ]
