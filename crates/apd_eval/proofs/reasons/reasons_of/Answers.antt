use Rattle.std.proofs.Common.{rules, ◌≡◌, ◌≤◌, ◌+◌, ◌-◌, ◌^◌, ◌∷◌, ◌∙◌, ℕ, List, [], length, refl, sym, ap, ap₂, subst, arith}
use Rattle.capture.specs.Packets.{Seen, seen_of}
use Rattle.capture.specs.Walks.{packets_in}
use Rattle.bpf_regions.specs.declared.hooks.Hook.TheVariants.{Association}
use Rattle.apd_eval.specs.Unjudged.{no_packets, reason_of, reasons_of, with_packet, AreAtMost}
use Rattle.apd_eval.specs.declared.reasons.Reason.{Reason}
use Rattle.apd_eval.specs.declared.reasons.Reasons.{Reasons}
use Rattle.apd_policies.proofs.Nexts.{none_left, some_left}
use Rattle.apd_eval.proofs.Passing.{plus, plus_first, all_passed, at_most_more, at_most_weaker}
use Rattle.apd_eval.proofs.reasons.reasons_of.Goals as goal

pub loop-walk-init : goal.loop-walk-init
loop-walk-init c =
    let counted : length c.walk-walk.result ≡ c.args.replay.recording.count = ap length c.walk-walk.ensures.packets ∙ c.args.replay.recording.counted in
    record {
      few = (0, omega (arith, counted), subst (λ (r : Reasons). AreAtMost 0 r) (sym c.none-passed.ensures.is) (record { missing = omega arith; other = omega arith; elsewhere = omega arith; encrypted = omega arith; refused = omega arith; requests = omega arith }));
      counted = ap₂ (λ (r : Reasons) (l : List Seen). plus c.args.hook c.octets-address.result r l) c.none-passed.ensures.is c.walk-walk.ensures.packets;
    }

pub loop-walk-preserved : goal.loop-walk-preserved
loop-walk-preserved c =
    let i = c.loop-walk.invariant in
    let hook = c.args.hook in
    let address = c.octets-address.result in
    let packet : Seen = seen_of c.in-Some.packet in
    let more : List Seen = c.next.new.self in
    let first : c.loop-walk.walk ≡ packet ∷ more = some_left c.loop-walk.walk more c.in_ok-packet.field-0 c.in-Some.packet c.in_ok-packet.ensures.next c.in-Some.is in
    let long : length c.loop-walk.walk ≡ length more + 1 = omega (arith, ap length first) in
    let added : c.with-passed.result ≡ with_packet c.loop-walk.passed (reason_of hook address packet.frame) (reason_of Association address packet.frame) = c.with-passed.ensures.is
    ∙ ap₂ (λ (a b : Reason). with_packet c.loop-walk.passed a b) c.reason_of-reason.ensures.is c.reason_of-at_association.ensures.is in
    record {
      few = (i.few.0 + 1, omega (arith, i.few.1, long), subst (λ (r : Reasons). AreAtMost (i.few.0 + 1) r) (sym added) (at_most_more i.few.0 c.loop-walk.passed _ _ i.few.2));
      counted = ap (λ (r : Reasons). plus hook address r more) added ∙ (sym (plus_first hook address c.loop-walk.passed packet more) ∙ (ap (λ (l : List Seen). plus hook address c.loop-walk.passed l) (sym first) ∙ i.counted));
    }

pub with-passed-requires : goal.with-passed-requires
with-passed-requires c =
    let i = c.loop-walk.invariant in
    let packet : Seen = seen_of c.in-Some.packet in
    let more : List Seen = c.next.new.self in
    let first : c.loop-walk.walk ≡ packet ∷ more = some_left c.loop-walk.walk more c.in_ok-packet.field-0 c.in-Some.packet c.in_ok-packet.ensures.next c.in-Some.is in
    let long : length c.loop-walk.walk ≡ length more + 1 = omega (arith, ap length first) in
    record { room = at_most_weaker i.few.0 (2 ^ 64 - 2) c.loop-walk.passed (omega (arith, i.few.1, long)) i.few.2 }

pub returns : goal.returns
returns c =
    let i = c.loop-walk.invariant in
    let packets = packets_in c.args.replay.recording.bytes.now in
    let ended : c.loop-walk.walk ≡ [] = none_left c.loop-walk.walk c.next.new.self c.in_ok-packet.field-0 c.in_ok-packet.ensures.next c.in_default.is in
    let passed = subst (λ (l : List Seen). plus c.args.hook c.octets-address.result c.loop-walk.passed l ≡ plus c.args.hook c.octets-address.result no_packets packets) ended i.counted in
    let address : c.octets-address.result ≡ c.args.replay.link.now.bssid = search rules in
    let r : Reasons = c.loop-walk.passed in
    let make : ℕ → Reasons = λ n. record { missing = r.missing; other = r.other; elsewhere = r.elsewhere; encrypted = r.encrypted; refused = n; requests = r.requests } in
    record {
      is = ap make c.saturating_sub-refused.ensures
          ∙ (all_passed c.args.hook c.octets-address.result r packets c.args.judged passed ∙ ap (λ (a : List ℕ). reasons_of c.args.hook a packets c.args.judged) address);
    }
