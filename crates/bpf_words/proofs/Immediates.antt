-- Immediates as words.
use Rattle.std.proofs.Common.{◌^◌, ◌<◌, ℤ, pos, negsuc, FitsSigned, w32, arith}
use Rattle.std.proofs.lemmas.Int.{ints}
use Rattle.bpf_words.specs.Word.{word_of}

pub word_fits : (x : ℤ) → FitsSigned w32 x → word_of x < 2 ^ 64
word_fits (pos n) h = omega (arith, ints, h)
word_fits (negsuc n) h = omega arith
