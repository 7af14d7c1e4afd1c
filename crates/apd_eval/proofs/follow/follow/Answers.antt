use Rattle.std.proofs.Common.{rules, ◌≡◌, ◌≤◌, ◌+◌, ◌++◌, ◌∷◌, ◌∙◌, ℕ, List, [], length, max, refl, sym, ap, subst, arith, append_assoc}
use Rattle.std.proofs.lemmas.List.{length-append}
use Rattle.capture.specs.Packets.{Seen, seen_of}
use Rattle.capture.specs.Walks.{packets_in}
use Rattle.ap_core.specs.declared.shard.Shard.{Shard}
use Rattle.apd_policies.specs.Script.{start_of, unit_of}
use Rattle.apd_policies.proofs.Nexts.{none_left, some_left}
use Rattle.apd_eval.specs.Again.{frame_at, received}
use Rattle.apd_eval.specs.Follows.{Follows, PacketComes, rows_of}
use Rattle.apd_eval.specs.Metered.{Metered}
use Rattle.apd_eval.specs.Taken.{TakesAll, IsHandedOn}
use Rattle.apd_eval.proofs.Asking.{rows_asked, at_number}
use Rattle.apd_eval.proofs.Following.{Goes, Makes, Makes-more, Makes-end}
use Rattle.apd_eval.proofs.Taking.{of_packet}
use Rattle.ap_laws.proofs.AskLaws.{steps_ask_once}
use Rattle.apd_eval.proofs.follow.follow.Goals as goal

pub loop-walk-init : goal.loop-walk-init
loop-walk-init g c =
    let p = c.args.policy in
    let all = packets_in c.args.replay.recording.bytes.now in
    let start = c.in_ok-start.start in
    let takes = g.S.TakesRows.takes in
    let is : c.walk-walk.result ≡ all = c.walk-walk.ensures.packets in
    let counted : length c.walk-walk.result ≡ c.args.replay.recording.count = ap length is ∙ c.args.replay.recording.counted in
    record {
      few = omega (arith, counted);
      before = ([], sym is, refl);
      place = search rules;
      fitting = c.requires.fitting;
      room = omega (arith, c.requires.fresh);
      makes = λ shards' h' t goes. subst (λ (l : List Seen). Goes takes p start all 1 0 c.in_ok-shards.shards c.args.state.now c.args.sink.now l shards' h' t) is goes;
    }

pub loop-walk-preserved : goal.loop-walk-preserved
loop-walk-preserved g c =
    let l = c.loop-walk in
    let i = l.invariant in
    let p = c.args.policy in
    let all = packets_in c.args.replay.recording.bytes.now in
    let start = c.in_ok-start.start in
    let takes = g.S.TakesRows.takes in
    let G = Goes takes p start all 1 0 c.in_ok-shards.shards c.args.state.now c.args.sink.now all in
    let packet : Seen = seen_of c.in-Some.packet in
    let more : List Seen = c.next.new.self in
    let first : l.walk ≡ packet ∷ more = some_left l.walk more c.in_ok-packet.field-0 c.in-Some.packet c.in_ok-packet.ensures.next c.in-Some.is in
    let long : length l.walk ≡ length more + 1 = omega (arith, ap length first) in
    let front : List Seen = i.before.0 in
    let split : all ≡ front ++ packet ∷ more = i.before.1 ∙ ap (λ (x : List Seen). front ++ x) first in
    let number : l.done + 1 ≡ length front + 1 = omega (arith, i.before.2) in
    let frame : frame_at all (l.done + 1) ≡ received packet.frame = at_number all front more packet (l.done + 1) split number in
    let last = c.in_ok-last.last in
    let comes = subst (λ (n : ℕ). PacketComes p l.clock n packet.frame last l.shards l.state c.arrive.new.shards c.arrive.new.state) c.unit-now.ensures.is c.in_ok-last.ensures.comes in
    let one = of_packet takes all (received packet.frame) p.hook (l.done + 1) last l.sink c.hand_on.new.sink frame c.in_ok-hand_on.ensures.taken in
    let here = subst (λ (x : List Seen). Makes takes p start all G (l.done + 1) l.clock l.shards l.state l.sink x) first i.makes in
    let made = Makes-more takes p start all G (l.done + 1) l.clock l.shards c.arrive.new.shards l.state c.arrive.new.state l.sink c.hand_on.new.sink packet more last here comes one in
    let later : c.max-clock.result ≡ max l.clock (unit_of start packet.time) = c.max-clock.ensures ∙ ap (λ n. max l.clock n) c.unit-now.ensures.is in
    record {
      few = omega (arith, i.few, long);
      before = (front ++ packet ∷ [], split ∙ sym (append_assoc front (packet ∷ []) more), omega (arith, i.before.2, length-append front (packet ∷ [])));
      place = c.arrive.ensures.place;
      fitting = c.arrive.ensures.fitting;
      room = omega (arith, i.room, c.in_ok-hand_on.ensures.few);
      makes = subst (λ (n : ℕ). Makes takes p start all G (l.done + 1 + 1) n c.arrive.new.shards c.arrive.new.state c.hand_on.new.sink more) (sym later) made;
    }

pub returns : goal.returns
returns g c =
    let l = c.loop-walk in
    let i = l.invariant in
    let p = c.args.policy in
    let all = packets_in c.args.replay.recording.bytes.now in
    let start = c.in_ok-start.start in
    let takes = g.S.TakesRows.takes in
    let G = Goes takes p start all 1 0 c.in_ok-shards.shards c.args.state.now c.args.sink.now all in
    let ended = none_left l.walk c.next.new.self c.in_ok-packet.field-0 c.in_ok-packet.ensures.next c.in_default.is in
    let goes = Makes-end takes p start all G (l.done + 1) l.clock l.shards l.state l.sink l.walk i.makes ended in
    let rows = goes.0 in
    let follows : Follows p (start_of all) 1 0 c.in_ok-shards.shards c.args.state.now all rows l.shards l.state =
    subst (λ (s : ℕ). Follows p s 1 0 c.in_ok-shards.shards c.args.state.now all rows l.shards l.state) c.in_ok-start.ensures.is goes.1 in
    record {
      rows = record {
        rows = rows;
        followed = record {
          shards = c.in_ok-shards.shards;
          fresh = c.in_ok-shards.ensures.fresh;
          shards' = l.shards;
          follows = follows;
          asked = rows_asked steps_ask_once p c.requires.alone all (start_of all) 1 0 [] all _ _ _ _ _ refl (omega arith) follows;
        };
        taken = goes.2;
      };
    }
