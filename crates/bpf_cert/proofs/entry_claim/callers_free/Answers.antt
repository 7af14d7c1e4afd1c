use Rattle.std.proofs.Common.{◌≡◌, ◌-◌, false, true, get_or, take, refl, sym, ◌∙◌, ap}
use Rattle.std.specs.List.{list_all}
use Rattle.bpf_rules.specs.Operands.{is_unset}
use Rattle.bpf_cert_format.specs.declared.frame.Frame.{Frame}
use Rattle.bpf_cert.proofs.Free.{goes_on, stops, at_end}
use Rattle.bpf_cert.proofs.entry_claim.callers_free.Goals as goal

pub returns-then-not-says_nothing : goal.returns-then-not-says_nothing
returns-then-not-says_nothing c =
    let fs = c.args.frames.now in
    let k = c.loop-k.k in
    let f : Frame = c.index-frames-k.result in
    let e : false ≡ list_all is_unset (take 6 (get_or fs (k - 1) f).registers) =
    c.if-not-says_nothing.ensures.is ∙ ap (λ (g : Frame). list_all is_unset (take 6 g.registers)) c.index-frames-k.is in
    record { is = sym (stops fs k f false c.loop-k.auto.k c.loop-k-test.true e refl) ∙ c.loop-k.invariant }

pub loop-k-preserved : goal.loop-k-preserved
loop-k-preserved c =
    let fs = c.args.frames.now in
    let k = c.loop-k.k in
    let f : Frame = c.index-frames-k.result in
    let e : true ≡ list_all is_unset (take 6 (get_or fs (k - 1) f).registers) =
    c.if-not-says_nothing.ensures.is ∙ ap (λ (g : Frame). list_all is_unset (take 6 g.registers)) c.index-frames-k.is in
    goes_on fs k f true c.loop-k.auto.k c.loop-k-test.true e refl ∙ c.loop-k.invariant

pub returns : goal.returns
returns c = record { is = sym (at_end c.args.frames.now c.loop-k.k c.loop-k-test.false) ∙ c.loop-k.invariant }
