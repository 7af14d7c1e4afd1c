-- How the first piece of a text relates to its words.
use Rattle.std.specs.Prelude.{◌≡◌, ◌<◌, ℕ, List, [], ◌∷◌, length}
use Rattle.bpf_line.specs.Words.{words}
use Rattle.bpf_line.specs.declared.words.Piece.{Piece}
use Rattle.bpf_line.specs.declared.words.Piece.TheVariants.{End, Space, Word}

-- no words; or a shorter rest with the same words; or the first word, and a shorter rest with the others
abbrev pub Begins : List ℕ → Piece → Type 0
Begins text End = words text ≡ []
Begins text (Space rest) = (words text ≡ words rest.now) × (length rest.now < length text)
Begins text (Word word rest) =
    (words text ≡ word.now ∷ words rest.now) × (length rest.now < length text)
