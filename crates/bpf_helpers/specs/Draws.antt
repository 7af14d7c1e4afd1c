-- The words that a program draws.
use Rattle.std.specs.Prelude.{ℕ, zero, suc, ◌+◌, ◌*◌, ◌%◌, ◌^◌, List, [], ◌∷◌}

-- the draw word after x (the constants of Knuth's 64-bit linear congruential generator)
abbrev pub next_draw : ℕ → ℕ
next_draw x = (x * 6364136223846793005 + 1442695040888963407) % 2 ^ 64

-- the first n words of the sequence that begins with x
abbrev pub words_from : ℕ → ℕ → List ℕ
words_from x zero = []
words_from x (suc n) = x ∷ words_from (next_draw x) n

-- the word after those n
abbrev pub word_after : ℕ → ℕ → ℕ
word_after x zero = x
word_after x (suc n) = word_after (next_draw x) n
