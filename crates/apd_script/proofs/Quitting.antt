-- Texts that begin with a line `quit`.
use Rattle.std.specs.Prelude.{◌≡◌, ℕ, List, [], ◌∷◌, false, IsTrue}
use Rattle.std.proofs.Common.{◌∙◌, sym, ap, subst}
use Rattle.apd_script.specs.Batches.{IsQuit, BeginsWithQuit}
use Rattle.apd_script.specs.Script.{lines_of}
use Rattle.apd_script.proofs.Chunks.{first_of}

abbrev first_or : List (List ℕ) → List ℕ
first_or [] = []
first_or (x ∷ xs) = x

abbrev rest_or : List (List ℕ) → List (List ℕ)
rest_or [] = []
rest_or (x ∷ xs) = xs

-- the first line is `quit`
pub quits : (text line rest : List ℕ) → lines_of text ≡ line ∷ lines_of rest → IsQuit line → BeginsWithQuit text
quits text line rest cut is = record { line = line; rest = rest; cut = cut; quit = is }

-- so it is, if the text begins with such a line
pub is_quit : (text line rest : List ℕ) → lines_of text ≡ line ∷ lines_of rest → BeginsWithQuit text → IsQuit line
is_quit text line rest cut h = subst IsQuit (ap first_or (sym h.cut ∙ cut)) h.quit

none_is_one : (first : List ℕ) (more : List (List ℕ)) → [] ≡ first ∷ more → ⊥
none_is_one first more e = cc

-- a text without a whole line doesn't
pub no_quit : (text line : List ℕ) → lines_of text ≡ line ∷ [] → BeginsWithQuit text → ⊥
no_quit text line one h =
    let first = first_of h.rest in
    none_is_one first.0 first.1 (sym (ap rest_or one) ∙ ap rest_or h.cut ∙ first.2)

-- a test that fails
pub untrue : IsTrue false → ⊥
untrue e = cc
