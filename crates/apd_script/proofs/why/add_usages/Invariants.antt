use Rattle.std.proofs.Common.{◌≡◌, ◌+◌, vec_len}
use Rattle.apd_script.proofs.why.add_usages.Given as goal

abbrev pub invariant-loop-form : goal.invariant-loop-form
invariant-loop-form l = record { many : vec_len l.usages ≡ vec_len l.initial.usages + l.form-index }
