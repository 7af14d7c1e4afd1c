-- The target of a jump, in terms of decoding, of the machine and of the examination.
use Rattle.std.proofs.Common.{◌≡◌, ℕ, ◌+◌, ◌-◌, ◌≤◌, ℤ, pos, negsuc, ◌+ℤ◌, refl, ap, arith, Some, None, cond}
use Rattle.std.proofs.lemmas.Bool.{le-leb}
use Rattle.std.proofs.lemmas.Int.{ints}
use Rattle.bpf_decode.specs.Flow.{IsJump}
use Rattle.bpf_model.specs.Step.{target}
use Rattle.bpf_rules.specs.Examined.{landing}

pub pos-same : (m n : ℕ) → pos m ≡ pos n → m ≡ n
pos-same m n e = cc

back : (k t n : ℕ) → pos t ≡ pos (k + 1) +ℤ negsuc n → (n ≤ k) × (t ≡ k - n)
back k t n e = (omega (arith, ints, e), omega (arith, ints, e))

pub lands : (k t : ℕ) (x : ℤ) → IsJump k x t → t ≡ landing k x
lands k t (pos n) e = pos-same t (k + 1 + n) e
lands k t (negsuc n) e = (back k t n e).1

pub target_is : (k t : ℕ) (x : ℤ) → IsJump k x t → target k x ≡ Some (landing k x)
target_is k t (pos n) e = refl
target_is k t (negsuc n) e = ap (λ b. cond b (Some (k - n)) None) (le-leb n k (back k t n e).0)
