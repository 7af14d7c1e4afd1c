use Rattle.std.proofs.Common.{◌≡◌, ◌≤◌, ◌++◌, length, take}
use denote.Text.{Utf8}
use denote.Shadow.{shadow}
use Rattle.apd_script.specs.Words.{words, texts}
use Rattle.apd_script.proofs.line.cut_words.Given as goal

abbrev pub invariant-loop-word : goal.invariant-loop-word
invariant-loop-word l =
    shadow (Utf8 l.rest) × record {
      few : l.count ≤ 4;
      four : length l.cut ≡ 4;
      first : words l.text ≡ texts (take l.count l.cut) ++ words l.rest;
    }

abbrev pub decreases-loop-word : goal.decreases-loop-word
decreases-loop-word l = length l.rest
