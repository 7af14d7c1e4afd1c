use Rattle.std.proofs.Common.{◌≡◌, ◌++◌, List, ℕ, ◌/◌, ◌%◌, ◌^◌, length, ap, ◌∙◌, rules}
use Rattle.byteorder.specs.Endian.{little_bytes}
use Rattle.capture.specs.Writing.{number_of, original, padding, most_kept, option_of, ending, cut_to, written_of}
use Rattle.capture.proofs.Counted.{begun, more, last}
use Rattle.capture.proofs.write.packet_body.Goals as goal

pub returns : goal.returns
returns c =
    let p = written_of c.args.packet in
    let kept : List ℕ = cut_to most_kept p.bytes in
    let comment : List ℕ = cut_to 65535 p.comment in
    let x1 : List ℕ = little_bytes 4 (number_of p.side) in
    let x2 : List ℕ = little_bytes 4 (p.time / 2 ^ 32) in
    let x3 : List ℕ = little_bytes 4 (p.time % 2 ^ 32) in
    let x4 : List ℕ = little_bytes 4 (length kept) in
    let x5 : List ℕ = little_bytes 4 (original p.bytes) in
    let x6 : List ℕ = kept in
    let x7 : List ℕ = padding (length kept) in
    let x8 : List ℕ = option_of 1 comment in
    let x9 : List ℕ = ending in
    let r8 : List ℕ = x9 in
    let r7 : List ℕ = x8 ++ r8 in
    let r6 : List ℕ = x7 ++ r7 in
    let r5 : List ℕ = x6 ++ r6 in
    let r4 : List ℕ = x5 ++ r5 in
    let r3 : List ℕ = x4 ++ r4 in
    let r2 : List ℕ = x3 ++ r3 in
    let r1 : List ℕ = x2 ++ r2 in
    let all : List ℕ = x1 ++ r1 in
    let s0 : c.new-body.result.items ++ all ≡ all = begun c.new-body.result.items all c.new-body.ensures.items in
    let e1 : c.append_u32.new.out.items ≡ c.new-body.result.items ++ x1 = search rules in
    let s1 = more (all) (c.new-body.result.items) (c.append_u32.new.out.items) x1 r1 s0 e1 in
    let e2 : c.append_u32-2.new.out.items ≡ c.append_u32.new.out.items ++ x2 = c.in_ok-append_u32-2.ensures.ok in
    let s2 = more (all) (c.append_u32.new.out.items) (c.append_u32-2.new.out.items) x2 r2 s1 e2 in
    let e3 : c.append_u32-3.new.out.items ≡ c.append_u32-2.new.out.items ++ x3 = c.in_ok-append_u32-3.ensures.ok in
    let s3 = more (all) (c.append_u32-2.new.out.items) (c.append_u32-3.new.out.items) x3 r3 s2 e3 in
    let e4 : c.append_u32-4.new.out.items ≡ c.append_u32-3.new.out.items ++ x4 = c.in_ok-append_u32-4.ensures.ok ∙ ap (λ l. c.append_u32-3.new.out.items ++ little_bytes 4 (length l)) c.first-kept.ensures.is in
    let s4 = more (all) (c.append_u32-3.new.out.items) (c.append_u32-4.new.out.items) x4 r4 s3 e4 in
    let e5 : c.append_u32-5.new.out.items ≡ c.append_u32-4.new.out.items ++ x5 = c.in_ok-append_u32-5.ensures.ok ∙ ap (λ n. c.append_u32-4.new.out.items ++ little_bytes 4 n) c.min.ensures in
    let s5 = more (all) (c.append_u32-4.new.out.items) (c.append_u32-5.new.out.items) x5 r5 s4 e5 in
    let e6 : c.extend_from_slice.new.self.items ≡ c.append_u32-5.new.out.items ++ x6 = c.in_ok-extend_from_slice.ensures.items ∙ ap (λ l. c.append_u32-5.new.out.items ++ l) c.first-kept.ensures.is in
    let s6 = more (all) (c.append_u32-5.new.out.items) (c.extend_from_slice.new.self.items) x6 r6 s5 e6 in
    let e7 : c.append_padding.new.out.items ≡ c.extend_from_slice.new.self.items ++ x7 = c.in_ok-append_padding.ensures.ok ∙ ap (λ l. c.extend_from_slice.new.self.items ++ padding (length l)) c.first-kept.ensures.is in
    let s7 = more (all) (c.extend_from_slice.new.self.items) (c.append_padding.new.out.items) x7 r7 s6 e7 in
    let e8 : c.append_option.new.out.items ≡ c.append_padding.new.out.items ++ x8 = c.in_ok-append_option.ensures.ok ∙ ap (λ l. c.append_padding.new.out.items ++ option_of 1 l) c.first.ensures.is in
    let s8 = more (all) (c.append_padding.new.out.items) (c.append_option.new.out.items) x8 r8 s7 e8 in
    let e9 : c.extend_from_slice-2.new.self.items ≡ c.append_option.new.out.items ++ x9 = c.in_ok-extend_from_slice-2.ensures.items in
    record { is = last (all) (c.append_option.new.out.items) (c.extend_from_slice-2.new.self.items) x9 s8 e9 }
