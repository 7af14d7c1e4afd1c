use Rattle.std.proofs.Common.{◌<◌, ◌↔◌, List, length, false, IsTrue, get_or, subst, arith, ap}
use Rattle.std.proofs.lemmas.Grind.{common_steps}
use Rattle.std.specs.Prelude.{Option}
use Rattle.bpf_insn.specs.declared.insn.Insn.{Insn}
use Rattle.bpf_decode.specs.Code.{WellFormed}
use Rattle.bpf_decode.specs.Program.{Code, Spells, IsTarget}
use Rattle.bpf_decode.proofs.Whole.{spelled_whole, targets_told}
use Rattle.bpf_decode.proofs.decoder.decode.Goals as goal

pub new-requires : goal.new-requires
new-requires c =
    let code : Code = record { slots = c.in_ok-slots.slots.items; shapes = c.args.shapes } in
    let formed : WellFormed c.args.code.now c.args.shapes = record {
      some = grind (arith, common_steps);
      whole = let a = c.if-code-ne0.false in omega arith;
      short = let a = c.if-code-gt16384.false in omega arith;
      faultless = c.in_ok-slots.ensures.clean;
    } in
    let spelled : Spells c.args.code.now code = record { well_formed = formed; table = c.in_ok-slots.ensures.table } in
    record {
      decoded = record {
        bytes = c.args.code.now;
        spelled = spelled;
        told = targets_told code c.in_ok-targets.targets.items (length c.deref-2.result.now) (spelled_whole c.args.code.now code spelled)
            (ap length c.deref-2.ensures.value)
            (λ t. subst (λ (v : List (Option Insn)). IsTrue (get_or c.in_ok-targets.targets.items t false) ↔ ((t < length c.deref-2.result.now) × IsTarget v t)) c.deref-2.ensures.value (c.in_ok-targets.ensures.told t));
      };
    }
