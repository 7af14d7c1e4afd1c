use Rattle.std.proofs.Common.{◌≡◌, ◌+◌, ◌++◌, ◌∙◌, ◌↔◌, ℕ, List, [], drop, map, sym, ap, subst, append-nil, arith}
use Rattle.std.proofs.lemmas.List.{drop_all}
use Rattle.capture.specs.Captures.{Holds}
use Rattle.capture.specs.Writing.{heading, blocks_of, packet_block, file_of, seen_from, written_of}
use Rattle.capture.proofs.Counted.{all_counted, next_block, one_more}
use Rattle.capture.proofs.Written.{reads_back}
use Rattle.capture.proofs.write.write_capture.Goals as goal

pub loop-packet-init : goal.loop-packet-init
loop-packet-init c =
    ap (λ l. l ++ blocks_of (map written_of c.args.packets.now)) (c.in_ok-append_heading.ensures.ok ∙ ap (λ l. l ++ heading) c.new-file.ensures.items)

pub loop-packet-preserved : goal.loop-packet-preserved
loop-packet-preserved c =
    one_more (file_of (map written_of c.args.packets.now)) c.loop-packet.file.items c.append_packet.new.out.items (packet_block (written_of c.packet-item.result))
    (blocks_of (map written_of (drop (c.loop-packet.packet-index + 1) c.args.packets.now))) (blocks_of (map written_of (drop c.loop-packet.packet-index c.args.packets.now)))
    c.loop-packet.invariant
    (next_block c.args.packets.now c.loop-packet.packet-index c.packet-item.result c.loop-packet-test.true c.packet-item.is)
    c.in_ok-append_packet.ensures.ok

pub returns : goal.returns
returns c =
    let none : drop c.loop-packet.packet-index c.args.packets.now ≡ [] = drop_all c.loop-packet.packet-index c.args.packets.now (omega (arith, c.loop-packet-test.false)) in
    let all : c.loop-packet.file.items ≡ file_of (map written_of c.args.packets.now) =
    sym (append-nil c.loop-packet.file.items) ∙ (ap (λ l. c.loop-packet.file.items ++ blocks_of (map written_of l)) (sym none) ∙ c.loop-packet.invariant) in
    record {
      is = all;
      read = λ seen.
          let P : List ℕ → Type 0 = λ file. Holds file seen ↔ (seen ≡ map seen_from (map written_of c.args.packets.now)) in
          subst P (sym all) (reads_back (map written_of c.args.packets.now) (all_counted c.args.packets.now) seen);
    }
