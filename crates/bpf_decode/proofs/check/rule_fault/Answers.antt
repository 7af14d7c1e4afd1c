use Rattle.std.proofs.Common.{◌≡◌, ◌+◌, false, sym, subst}
use Rattle.std.specs.Prelude.{IsTrue, ◌↔◌}
use Rattle.bpf_decode.specs.Flow.{jump_of, size_of, ends, KnowsHelper, KnowsMap}
use Rattle.bpf_decode.specs.Code.{JumpsInside}
use Rattle.bpf_decode.proofs.Rules.{FindsLeast, finds, not_iff}
use Rattle.bpf_decode.proofs.check.rule_fault.Goals as goal

found : (c : goal.After-lowest) → FindsLeast c.args.code.now c.args.shapes.now c.args.at c.args.insn.now c.lowest.result
found c =
    let past = subst (λ n. IsTrue c.goes_past_end-past.result ↔ ((c.args.at + size_of c.args.insn.now ≡ n) × (ends c.args.insn.now ≡ false))) c.requires.count c.goes_past_end-past.ensures.is in
    subst (FindsLeast c.args.code.now c.args.shapes.now c.args.at c.args.insn.now) (sym c.lowest.ensures.is)
    (finds c.args.code.now c.args.shapes.now c.args.at c.args.insn.now _ _ _ _ _
    (record {
      astray = not_iff c.jumps_inside-inside.result (JumpsInside c.args.code.now c.args.at (jump_of c.args.insn.now)) c.jumps_inside-inside.ensures.is;
      past = past;
      frame = c.writes_frame-frame.ensures.is;
      helper = not_iff c.knows_helper-helper.result (KnowsHelper c.args.insn.now) c.knows_helper-helper.ensures.is;
      map = not_iff c.knows_map-map.result (KnowsMap c.args.shapes.now c.args.insn.now) c.knows_map-map.ensures.is;
    }))

pub returns-clause-none : goal.returns-clause-none
returns-clause-none c = (found c).none

pub returns-clause-some : goal.returns-clause-some
returns-clause-some c = (found c).some

pub returns-clause-least : goal.returns-clause-least
returns-clause-least c = (found c).least
