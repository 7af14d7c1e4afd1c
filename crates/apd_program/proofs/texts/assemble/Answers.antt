use Rattle.std.proofs.Common.{◌≡◌, ◌∙◌, take, ap}
use Rattle.std.specs.Str.Lossy.{utf8_valid_len}
use Rattle.std.proofs.lemmas.Result.{IfOk-weaker}
use Rattle.apd_program.proofs.Said.{IsAssembly-broken}
use Rattle.apd_program.proofs.texts.assemble.Goals as goal

pub returns-in-Ok-from_utf8-clause-assembly : goal.returns-in-Ok-from_utf8-clause-assembly
returns-in-Ok-from_utf8-clause-assembly c =
    let bad = (c.in-Err.ensures.cases).0 in
    let front : c.in-Ok-from_utf8.front.now ≡ take (utf8_valid_len c.args.text.now) c.args.text.now =
    (c.in-Ok-from_utf8.ensures.cases).0 ∙ ap (λ n. take n c.args.text.now) (c.valid_up_to.ensures ∙ c.in-Err.ensures.valid_len) in
    IfOk-weaker c.broken.result _ _ (λ a h. IsAssembly-broken c.args.text.now c.in-Ok-from_utf8.front.now a bad front h) c.broken.ensures.fault
