use Rattle.std.proofs.Common.{◌≡◌, ℕ, List, ap, subst, sym, ◌∙◌}
use Rattle.std.specs.Prelude.{slice_index_or}
use Rattle.apd_run.specs.Hands.{RunWorker}
use Rattle.apd_run.specs.Returning.{TookBack}
use Rattle.apd_run.proofs.access.returned.Returned.take_back.Goals as goal

pub returns-clause-took : goal.returns-clause-took
returns-clause-took g c =
    let worker : RunWorker = c.swap_remove-worker.result in
    let number : worker.number ≡ c.args.number =
    ap (λ (w : RunWorker). w.number) c.swap_remove-worker.ensures.value
    ∙ (ap (λ (l : List RunWorker). (slice_index_or l c.in_ok-at.at worker).number) (sym c.as_slice.ensures.value) ∙ c.in_ok-at.ensures.there worker) in
    let loads = c.args.loads.now.loads in
    let new = c.keep.new.self in
    subst (λ (n : ℕ). TookBack loads n c.args.self.now.register c.args.self.now.hoard.value new.hoard.value c.args.self.now.pages.value new.pages.value) number
    (subst (λ r. TookBack loads worker.number r.register r.hoard.value new.hoard.value r.pages.value new.pages.value) c.compare.ensures.same c.keep.ensures.took)
