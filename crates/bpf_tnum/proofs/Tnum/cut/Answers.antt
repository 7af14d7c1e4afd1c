use Rattle.std.proofs.Common.{◌≡◌, ℕ, ◌≤◌, ◌-◌, ◌/◌, ◌^◌, bit_and}
use Rattle.bpf_tnum.specs.Tnum.{tnum_cut, tnum_of}
use Rattle.bpf_words.proofs.Bits.{and_ones_shr, apart_cut}
use Rattle.bpf_tnum.proofs.Tnum.cut.Goals as goal

cut_is : (v m w : ℕ) → w ≤ 64 → tnum_of (bit_and v ((2 ^ 64 - 1) / 2 ^ (64 - w))) (bit_and m ((2 ^ 64 - 1) / 2 ^ (64 - w))) ≡ tnum_cut w (tnum_of v m)
unfolding tnum_cut
cut_is v m w h = (λ i. tnum_of (and_ones_shr v w h i) (and_ones_shr m w h i))

pub returns : goal.returns
returns c = rw (← c.self.view_is) (cut_is c.self.inside.value c.self.inside.mask c.args.width c.requires.within)

pub invariant_of-result : goal.invariant_of-result
invariant_of-result c = apart_cut c.self.inside.value c.self.inside.mask _ c.self.invariant
