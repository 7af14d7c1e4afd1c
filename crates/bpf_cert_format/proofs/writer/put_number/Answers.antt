use Rattle.std.proofs.Common.{◌≡◌, ◌++◌, List, ℕ, append_assoc, ap, ◌∙◌}
use Rattle.std.specs.Int.{w64, to_le_bytes}
use Rattle.bpf_interval.specs.Signed.{word_at}
use Rattle.bpf_cert_format.proofs.writer.put_number.Goals as goal

three : (o o1 o2 o3 a b c : List ℕ) → o1 ≡ o ++ a → o2 ≡ o1 ++ b → o3 ≡ o2 ++ c → o3 ≡ o ++ (a ++ (b ++ c))
three o o1 o2 o3 a b c e1 e2 e3 =
    e3 ∙ ap (λ (t : List ℕ). t ++ c) (e2 ∙ ap (λ (t : List ℕ). t ++ b) e1 ∙ append_assoc o a b) ∙ append_assoc o (a ++ b) c ∙ ap (λ (t : List ℕ). o ++ t) (append_assoc a b c)

pub returns : goal.returns
returns c =
    let n = c.args.number in
    record {
      is = three c.args.out.now.items c.put_range.new.out.items c.put_bits.new.out.items c.put_signed.new.out.items
          (to_le_bytes w64 n.range.low ++ to_le_bytes w64 n.range.high) (to_le_bytes w64 n.bits.value ++ to_le_bytes w64 n.bits.mask) (to_le_bytes w64 (word_at n.signed.low) ++ to_le_bytes w64 (word_at n.signed.high))
          (rw c.range.ensures at c.in_ok-put_range.ensures.is) (rw c.bits.ensures at c.in_ok-put_bits.ensures.is) (rw c.signed.ensures at c.in_ok-put_signed.ensures.is);
    }
