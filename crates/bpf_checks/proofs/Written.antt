-- What a register already holds needs no writing.
use Rattle.std.proofs.Common.{◌≡◌, ℕ, sym, ◌∙◌, ap, slice_set}
use Rattle.std.proofs.lemmas.List.{set-get_or}
use Rattle.bpf_absval.specs.declared.value.AbsVal.{AbsVal}
use Rattle.bpf_absval.specs.declared.value.AbsVal.TheVariants.{Unset}
use Rattle.bpf_absstate.specs.View.{View, register, with_register}

pub written_again : (a : View) (r : ℕ) (v : AbsVal) → register a r ≡ v → a ≡ with_register a r v
written_again a r v e = sym (ap (λ l. record a { registers = l }) (ap (λ w. slice_set a.registers r w) (sym e) ∙ set-get_or a.registers r Unset))
