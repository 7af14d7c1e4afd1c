use Rattle.std.proofs.Common.{◌≡◌, ◌++◌, ◌∷◌, [], List, ℕ, false, true, append_assoc, ap, subst, ◌∙◌}
use Rattle.bpf_cert_format.specs.Fits.{FitsValue}
use Rattle.bpf_cert_format.specs.Spelling.{number, label, region}
use Rattle.bpf_cert_format.proofs.writer.put_value.Goals as goal

-- two bytes, and what follows
two : (o o1 o2 c : List ℕ) (a b : ℕ) → o1 ≡ o ++ a ∷ b ∷ [] → o2 ≡ o1 ++ c → o2 ≡ o ++ a ∷ b ∷ c
two o o1 o2 c a b e f = f ∙ ap (λ (t : List ℕ). t ++ c) e ∙ append_assoc o (a ∷ b ∷ []) c

pub returns-in_ok-put_place-in-Frame-clause-is : goal.returns-in_ok-put_place-in-Frame-clause-is
returns-in_ok-put_place-in-Frame-clause-is c =
    rw c.in-Frame.is (two c.args.out.now.items c.put_two.new.out.items c.put_place.new.out.items (number c.in-Frame.offset ++ label c.in-Frame.label) 2 0 c.in_ok-put_two-in-Frame.ensures.is c.in_ok-put_place-in-Frame.ensures.is)

pub returns-in_ok-put_number-in-Pointer-clause-is : goal.returns-in_ok-put_number-in-Pointer-clause-is
returns-in_ok-put_number-in-Pointer-clause-is c =
    rw c.in-Pointer.is (two c.args.out.now.items c.put_two-in-Pointer.new.out.items c.put_number-in-Pointer.new.out.items (number c.in-Pointer.offset) 2 (region c.in-Pointer.region)
    (rw c.in_ok-byte-in-Pointer.ensures.is at c.in_ok-put_two-in-Pointer.ensures.is) c.in_ok-put_number-in-Pointer.ensures.is)

-- the region of a pointer that fits has a byte
pub returns-in_err-byte-in-Pointer-clause-fitting : goal.returns-in_err-byte-in-Pointer-clause-fitting
returns-in_err-byte-in-Pointer-clause-fitting c = λ maps count few_maps few_frames fits.
    let here = subst (FitsValue maps count) c.in-Pointer.is fits in
    let has_byte : false ≡ true = c.in_err-byte-in-Pointer.ensures.fitting maps count few_maps few_frames here.0 in absurd cc
