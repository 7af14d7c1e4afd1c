-- Consecutive lines of slots.
use Rattle.std.proofs.Common.{◌≡◌, ◌≤◌, ◌<◌, ◌+◌, ◌-◌, ◌/◌, ℕ, Bool, true, false, List, [], ◌∷◌, ◌++◌, length, take, drop, Option, if◌then◌else◌, refl, sym, subst, append_assoc, arith, length-drop}
use Rattle.std.proofs.lemmas.List.{append-nil}
use Rattle.bpf_insn.specs.declared.insn.Insn.{Insn}
use Rattle.bpf_insn.specs.Spelled.{Spelled}
use Rattle.apd_text.specs.Raw.{insn_line, slot_line, second_of, after_insn, IsFirstLine, OfInsn, OfSlot, OfRest, Lists, IsRawOf, IsRaw, Nothing, More}

-- the lines so far, followed by those of the rest, are the lines of the whole
abbrev pub GoesOn : Bool → List ℕ → List ℕ → List ℕ → Type 0
GoesOn slots code text rest = (more : List ℕ) → IsRawOf slots (length code) rest more → IsRaw slots code (text ++ more)

pub starts : (slots : Bool) (code text : List ℕ) → text ≡ [] → GoesOn slots code text code
starts slots code text none more raw = rw none raw

pub goes_on : (slots : Bool) (code rest left old new : List ℕ) (slot : ℕ) → GoesOn slots code old rest → 0 < length rest → slot ≡ (length code - length rest) / 8 → Lists slots slot rest left old new
    → GoesOn slots code new left
goes_on slots code rest left old new slot far some at lists more raw =
    let Line : ℕ → Type 0 = λ n. IsFirstLine slots n rest lists.line left in
    let next : IsRawOf slots (length code) rest (lists.line ++ more) = More rest left lists.line more some (subst Line at lists.is) raw in
    rw (lists.grown, append_assoc) (far (lists.line ++ more) next)

pub ends : (slots : Bool) (code text rest : List ℕ) → GoesOn slots code text rest → length rest ≡ 0 → IsRaw slots code text
ends slots code text [] far none = rw append-nil at (far [] Nothing)
ends slots code text (byte ∷ bytes) far some = absurd (omega (arith, some))

-- ---- the line of the first slot

pub none_left : (n : ℕ) (ys : List ℕ) → take (n - n) ys ≡ []
none_left n ys = let zero_left : n - n ≡ 0 = omega arith in rw zero_left refl

pub lists_rest : (slots : Bool) (slot : ℕ) (code left old new : List ℕ) → 0 < length code → length code < 8 → left ≡ [] → new ≡ old ++ slot_line slots slot code → Lists slots slot code left old new
lists_rest slots slot code left old new some short none grown =
    let P : List ℕ → Type 0 = λ r. IsFirstLine slots slot code (slot_line slots slot code) r in
    record { line = slot_line slots slot code; is = subst P (sym none) (OfRest short); grown = grown; shorter = rw none some }

after_by : (b : Bool) (others : List ℕ) → length (if b then drop 8 others else others) ≤ length others
after_by true others = omega (arith, length-drop 8 others)
after_by false others = omega arith

module _ (slots : Bool) (slot : ℕ) (code first others old new : List ℕ) (second : Option (List ℕ)) (first_is : first ≡ take 8 code) (others_is : others ≡ drop 8 code) (many : length others + 8 ≡ length code) (second_is : second ≡ second_of others) where
  enough : 8 ≤ length code
  enough = omega (arith, many)

  pub lists_insn : (left : List ℕ) (insn : Insn) → Spelled first second insn → left ≡ after_insn first others → new ≡ old ++ insn_line slots slot insn → Lists slots slot code left old new
  lists_insn left insn spelled left_is grown =
      let whole : Spelled (take 8 code) (second_of (drop 8 code)) insn = rw (second_is, others_is, first_is) at spelled in
      let follows : left ≡ after_insn (take 8 code) (drop 8 code) = rw (first_is, others_is) at left_is in
      let P : List ℕ → Type 0 = λ r. IsFirstLine slots slot code (insn_line slots slot insn) r in
      let within : length left ≤ length others = rw left_is (after_by _ others) in
      record { line = insn_line slots slot insn; is = subst P (sym follows) (OfInsn insn enough whole); grown = grown; shorter = omega (arith, within, many) }

  pub lists_slot : ((insn : Insn) → Spelled first second insn → ⊥) → new ≡ old ++ slot_line slots slot first → Lists slots slot code others old new
  lists_slot unspelled grown =
      let none : (insn : Insn) → Spelled (take 8 code) (second_of (drop 8 code)) insn → ⊥ = λ insn spelled. unspelled insn (rw (second_is, others_is, first_is) spelled) in
      let P : List ℕ → Type 0 = λ r. IsFirstLine slots slot code (slot_line slots slot (take 8 code)) r in
      record { line = slot_line slots slot (take 8 code); is = subst P (sym others_is) (OfSlot enough none); grown = rw first_is at grown; shorter = omega (arith, many) }
