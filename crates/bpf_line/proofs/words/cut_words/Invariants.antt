use Rattle.std.proofs.Common.{◌≡◌, ◌≤◌, ◌++◌, length, map, take}
use denote.Text.{Utf8}
use denote.Shadow.{shadow}
use Rattle.bpf_line.specs.Words.{words}
use Rattle.bpf_line.proofs.words.cut_words.Given as goal

abbrev pub invariant-loop-after : goal.invariant-loop-after
invariant-loop-after l =
    shadow (Utf8 l.rest) × record {
      few : l.count ≤ 6;
      six : length l.cut ≡ 6;
      first : words l.line ≡ map (λ w. w.now) (take l.count l.cut) ++ words l.rest;
    }

abbrev pub decreases-loop-after : goal.decreases-loop-after
decreases-loop-after l = length l.rest
