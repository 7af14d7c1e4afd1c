use Rattle.std.proofs.Common.{sym, ap, ◌∙◌}
use Rattle.std.proofs.lemmas.Result.{on_err_weaker}
use Rattle.std_alloc.specs.Box.{with_value}
use Rattle.ap_single.specs.Leading.{Parts}
use Rattle.apd_c.specs.declared.handle.Content.TheVariants as content
use Rattle.apd_c.proofs.loads.put_in.Goals as goal

pub returns-in-Link-clause-err : goal.returns-in-Link-clause-err
returns-in-Link-clause-err c =
    on_err_weaker c.put.result
    (λ same. ap (λ (a : Parts). content.Link (with_value c.in-Link.access_point a)) (same ∙ c.deref_mut.ensures.value) ∙ sym c.in-Link.is)
    c.put.ensures.err
