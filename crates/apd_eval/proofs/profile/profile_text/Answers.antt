use Rattle.std.proofs.Common.{ℕ, IfOk, ◌∙◌, length, replicate, subst, ap, string_bytes}
use Rattle.bpf_decode.specs.Program.{Code}
use Rattle.capture.specs.Walks.{packets_in}
use Rattle.apd_eval.specs.Profile.{IsProfile, IsUncounted}
use Rattle.apd_eval.proofs.profile.profile_text.Goals as goal

pub profiled-requires : goal.profiled-requires
profiled-requires c = record {
  fresh = (
    c.args.accepted,
    record {
      programs = c.in_ok-tested.ensures.programs;
      zeros = c.in_ok-counts.ensures.is ∙ ap (λ n. replicate n 0) (c.len.ensures.is ∙ ap (λ (p : Code). length p.slots) c.program.ensures.is);
      hook_is = c.hook.ensures.is;
      budget_is = c.budget.ensures.is;
    },
  );
}

pub returns : goal.returns
returns c =
    let v = c.args.accepted in
    let fresh : IsUncounted v c.in_ok-tested.tested c.in_ok-counts.counts.items (record { hook = c.hook.result; budget = c.budget.result; replay = c.args.replay }) = record {
      programs = c.in_ok-tested.ensures.programs;
      zeros = c.in_ok-counts.ensures.is ∙ ap (λ n. replicate n 0) (c.len.ensures.is ∙ ap (λ (p : Code). length p.slots) c.program.ensures.is);
      hook_is = c.hook.ensures.is;
      budget_is = c.budget.ensures.is;
    } in
    record {
      is = subst (λ (d : ℕ). IfOk c.profiled.result (λ text. IsProfile v d c.args.replay.link.now (packets_in c.args.replay.recording.bytes.now) c.args.form (string_bytes text)))
          c.in_ok-tested.ensures.draw (c.profiled.ensures.profile v fresh);
    }
