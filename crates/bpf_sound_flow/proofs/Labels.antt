-- Distances from a label's position.
use Rattle.std.proofs.Common.{◌≡◌, ℕ, List, ◌^◌, ◌<◌, true, Option, Some, None, ap, ◌∙◌, nat_le, arith}
use Rattle.std.proofs.lemmas.Bool.{eqb-true, cond_both}
use Rattle.bpf_words.specs.Word.{word_add, word_sub}
use Rattle.bpf_absnum.specs.Number.{Num, InNum, is_single}
use Rattle.bpf_absval.specs.declared.value.Label.{Label}
use Rattle.bpf_absval.specs.declared.room.Room.{Room}
use Rattle.bpf_absval.specs.Meaning.{Labels, LabelHolds}
use Rattle.bpf_rules.specs.Operands.{label_moved}

-- a position and a distance from it move alike
abbrev pub Moves : (ℕ → ℕ → ℕ) → Type 0
Moves f = (b d c : ℕ) → c < 2 ^ 64 → f (word_add b d) c ≡ word_add b (f d c)

pub add_moves : Moves word_add
add_moves b d c l = omega arith

pub sub_moves : Moves word_sub
sub_moves b d c l = omega arith

-- a number with one word is that word
pub is_low : (n : Num) (c : ℕ) → InNum n c → is_single n ≡ true → c ≡ n.range.low
is_low n c h e = let same = eqb-true n.range.low n.range.high e in omega (arith, same, h.within.above, h.within.below)

pub label_moves : (e : Labels) (rooms : List Room) (f : ℕ → ℕ → ℕ) (l : Option Label) (x c : ℕ) → Moves f → c < 2 ^ 64 → LabelHolds e rooms l x → LabelHolds e rooms (label_moved f c l) (f x c)
label_moves e rooms f None x c moves fits h = tt
label_moves e rooms f (Some l) x c moves fits h =
    cond_both (nat_le (f l.distance c) 2400) (Some (record { label = l.label; distance = f l.distance c })) None (λ o. LabelHolds e rooms o (f x c))
    (λ near. record { word = h.word; far = ap (λ y. f y c) h.far ∙ moves (e.base l.label) l.distance c fits; room = h.room })
    (λ far. tt)
