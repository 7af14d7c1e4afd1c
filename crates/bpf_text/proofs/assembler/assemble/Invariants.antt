use Rattle.std.proofs.Common.{◌≡◌, ◌≤◌, ◌+◌, [], length}
use denote.Text.{Utf8}
use denote.Shadow.{shadow}
use Rattle.bpf_text.specs.Texts.{lines_of, assembled}
use Rattle.bpf_text.proofs.assembler.assemble.Given as goal

abbrev pub invariant-loop-code : goal.invariant-loop-code
invariant-loop-code l =
    shadow (Utf8 l.rest) × record {
      same : assembled 1 [] (lines_of l.text) ≡ assembled l.number l.code.items (lines_of l.rest);
      counted : l.number + length l.rest ≤ length l.text + 1;
    }

abbrev pub decreases-loop-code : goal.decreases-loop-code
decreases-loop-code l = length l.rest
