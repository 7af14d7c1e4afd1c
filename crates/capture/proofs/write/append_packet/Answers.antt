use Rattle.std.proofs.Common.{◌<◌, ◌+◌, ◌^◌, ◌++◌, ◌∙◌, length, sym, ap, subst}
use Rattle.capture.specs.Writing.{block_of, written_of}
use Rattle.capture.proofs.Written.{packet_short}
use Rattle.capture.proofs.write.append_packet.Goals as goal

pub append_block-requires : goal.append_block-requires
append_block-requires c =
    record { short = subst (λ l. length l + 12 < 2 ^ 32) (sym (c.as_slice.ensures.value ∙ c.in_ok-body.ensures.is)) (packet_short (written_of c.args.packet) c.args.packet.counted) }

pub returns : goal.returns
returns c =
    record { ok = c.in_ok-append_block.ensures.ok ∙ ap (λ l. c.args.out.now.items ++ block_of 6 l) (c.as_slice.ensures.value ∙ c.in_ok-body.ensures.is) }
