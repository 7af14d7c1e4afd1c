use Rattle.std.proofs.Common.{◌≡◌, ◌<◌, Some, slice_get, get_or, sym, ◌∙◌, subst}
use Rattle.std.proofs.lemmas.Option.{slice_get_within, slice_get-get_or}
use Rattle.bpf_machine.proofs.Going.{some_is}
use Rattle.bpf_machine.proofs.one_step.are_bytes.Goals as goal

pub returns : goal.returns
returns c =
    record {
      is = λ i b e.
          let h : get_or c.args.bytes.now i 0 < 256 = (c.type_inv.bytes i).fits in
          let at : slice_get c.args.bytes.now i ≡ Some (get_or c.args.bytes.now i 0) =
          slice_get-get_or c.args.bytes.now i 0 (slice_get_within c.args.bytes.now i b e) in
          subst (λ x. x < 256) (some_is _ _ (sym at ∙ e)) h;
    }
