-- Lines of slots: the first, and the rest.
use Rattle.std.proofs.Common.{◌≡◌, ◌≤◌, ◌<◌, ◌/◌, ℕ, suc, List, [], ◌++◌, length, take, drop, refl, append_assoc, arith, length-drop}
use Rattle.hex.specs.Hex.{encode_lower}
use Rattle.apd_program.specs.Slots.{line_of, slot_lines}

pub slot_lines-more : (rest : List ℕ) → 8 ≤ length rest → slot_lines (length rest / 8) rest ≡ line_of (encode_lower (take 8 rest)) ++ slot_lines (length (drop 8 rest) / 8) (drop 8 rest)
unfolding slot_lines
slot_lines-more rest enough =
    let count : length rest / 8 ≡ suc (length (drop 8 rest) / 8) = omega (arith, length-drop 8 rest) in
    rw count refl

pub slot_lines-none : (rest : List ℕ) → length rest < 8 → slot_lines (length rest / 8) rest ≡ []
unfolding slot_lines
slot_lines-none rest few =
    let count : length rest / 8 ≡ 0 = omega arith in
    rw count refl

-- the text with one more line, and the lines of the rest
pub lines_go_on : (old new rest slot left all : List ℕ) → old ++ slot_lines (length rest / 8) rest ≡ all → 8 ≤ length rest → slot ≡ take 8 rest → left ≡ drop 8 rest → new ≡ old ++ line_of (encode_lower slot)
    → new ++ slot_lines (length left / 8) left ≡ all
lines_go_on old new rest slot left all far enough first after grown =
    rw (grown, first, after) (rw (slot_lines-more rest enough, ← append_assoc) at far)
