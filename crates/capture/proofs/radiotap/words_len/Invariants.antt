use Rattle.std.proofs.Common.{◌≡◌, ◌+◌, length, option_map}
use Rattle.capture.specs.Radiotap.{words_len}
use Rattle.capture.proofs.radiotap.words_len.Given as goal

abbrev pub invariant-loop-rest : goal.invariant-loop-rest
invariant-loop-rest l = record {
  same : words_len l.bytes ≡ option_map (λ more. l.count + more) (words_len l.rest);
  within : l.count + length l.rest ≡ length l.bytes;
}

abbrev pub decreases-loop-rest : goal.decreases-loop-rest
decreases-loop-rest l = length l.rest
