-- What is left of entries that are kept one by one.
use Rattle.std.proofs.Common.{◌≡◌, ℕ, ◌+◌, ◌-◌, ◌<◌, ◌≤◌, List, [], ◌∷◌, ◌++◌, length, drop, refl, sym, ap, ◌∙◌, subst, arith, inl, inr}
use Rattle.std.proofs.lemmas.Bool.{eqb-true, eqb-false, cases_Bool, cond-true, cond-false}
use Rattle.std.proofs.lemmas.List.{append_assoc, length-append, length-drop, length-set, drop-append-le, drop-drop, drop_at, get_or-set_same, get_or-set_other, ext_get_or}
use Rattle.bpf_prune.specs.declared.kept.Entry.{Entry}
use Rattle.bpf_prune.specs.Covering.{newest_of, with_newest, kept_at, with_entry}
use Rattle.bpf_prune.specs.Keeping.{with_entries, is_at, those_at, KeepsNewest, LeavesOut}

-- of the newest, and more, the newest
newest_again : (xs ys : List Entry) → newest_of (newest_of xs ++ ys) ≡ newest_of (xs ++ ys)
newest_again xs ys =
    let n : ℕ = length xs - 64 in
    let all : List Entry = xs ++ ys in
    let within : n ≤ length xs = omega arith in
    let front : newest_of xs ++ ys ≡ drop n all = sym (drop-append-le n xs ys within) in
    let rest : length (drop n all) ≡ length all - n = length-drop n all in
    let size : length all ≡ length xs + length ys = length-append xs ys in
    let count : n + (length (drop n all) - 64) ≡ length all - 64 = omega (arith, rest, size) in
    ap newest_of front ∙ drop-drop (length (drop n all) - 64) n all ∙ ap (λ k. drop k all) count

-- kept one by one at one slot
unfoldable kept_all : List Entry → List Entry → List Entry
kept_all xs [] = xs
kept_all xs (e ∷ es) = kept_all (with_newest xs e) es

kept_all_is : (xs : List Entry) (e : Entry) (es : List Entry) → kept_all xs (e ∷ es) ≡ newest_of (xs ++ e ∷ es)
unfolding kept_all with_newest
kept_all_is xs e [] = refl
kept_all_is xs e (f ∷ es) =
    kept_all_is (with_newest xs e) f es ∙ newest_again (xs ++ e ∷ []) (f ∷ es) ∙ ap newest_of (append_assoc xs (e ∷ []) (f ∷ es))

-- 64 push all others out
many : (xs es : List Entry) → 64 ≤ length es → newest_of (xs ++ es) ≡ newest_of es
many xs es h =
    let all : List Entry = xs ++ es in
    let size : length all ≡ length xs + length es = length-append xs es in
    let count : length all - 64 ≡ length xs + (length es - 64) = omega (arith, size, h) in
    ap (λ k. drop k all) count ∙ sym (drop-drop (length es - 64) (length xs) all) ∙ ap (drop (length es - 64)) (drop_at xs es (length xs) refl)

kept_all_many : (xs ys es : List Entry) → 64 ≤ length es → kept_all xs es ≡ kept_all ys es
kept_all_many xs ys [] h = absurd (omega (arith, h))
kept_all_many xs ys (e ∷ es) h =
    kept_all_is xs e es ∙ many xs (e ∷ es) h ∙ sym (many ys (e ∷ es) h) ∙ sym (kept_all_is ys e es)

length-entries : (table : List (List Entry)) (es : List Entry) → length (with_entries table es) ≡ length table
unfolding with_entries
length-entries table [] = refl
length-entries table (e ∷ es) = length-entries (with_entry table e) es ∙ length-set table e.state.pc (with_newest (kept_at table e.state.pc) e)

-- one entry, at its slot and elsewhere
here : (table : List (List Entry)) (e : Entry) (pc : ℕ) → pc < length table → e.state.pc ≡ pc → kept_at (with_entry table e) pc ≡ with_newest (kept_at table pc) e
here table e pc within same =
    subst (λ k. k < length table → kept_at (with_entry table e) k ≡ with_newest (kept_at table k) e) same
    (λ lt. get_or-set_same table e.state.pc (with_newest (kept_at table e.state.pc) e) [] lt) within

elsewhere : (table : List (List Entry)) (e : Entry) (pc : ℕ) → (e.state.pc ≡ pc → ⊥) → kept_at (with_entry table e) pc ≡ kept_at table pc
elsewhere table e pc other = get_or-set_other table e.state.pc pc (with_newest (kept_at table e.state.pc) e) [] (λ same. other (sym same))

-- each slot has what is kept there one by one
at_one : (table : List (List Entry)) (es : List Entry) (pc : ℕ) → pc < length table → kept_at (with_entries table es) pc ≡ kept_all (kept_at table pc) (those_at pc es)
unfolding with_entries kept_all
at_one table [] pc within = refl
at_one table (e ∷ es) pc within =
    let size : length (with_entry table e) ≡ length table = length-set table e.state.pc (with_newest (kept_at table e.state.pc) e) in
    let rest = at_one (with_entry table e) es pc (omega (arith, size, within)) in
    elim (cases_Bool (is_at pc e)) [
      | inl is ↦
          rest ∙ ap (λ x. kept_all x (those_at pc es)) (here table e pc within (eqb-true e.state.pc pc is))
          ∙ ap (kept_all (kept_at table pc)) (sym (cond-true (is_at pc e) (e ∷ those_at pc es) (those_at pc es) is))
      | inr other ↦
          rest ∙ ap (λ x. kept_all x (those_at pc es)) (elsewhere table e pc (eqb-false e.state.pc pc other))
          ∙ ap (kept_all (kept_at table pc)) (sym (cond-false (is_at pc e) (e ∷ those_at pc es) (those_at pc es) other))
    ]

some_are : (xs es : List Entry) → 0 < length es → kept_all xs es ≡ newest_of (xs ++ es)
some_are xs [] h = absurd (omega (arith, h))
some_are xs (e ∷ es) h = kept_all_is xs e es

pub keeps_newest : KeepsNewest
keeps_newest table es pc within some = at_one table es pc within ∙ some_are (kept_at table pc) (those_at pc es) some

pub leaves_out : LeavesOut
leaves_out table e es many_more =
    let more : List (List Entry) = with_entry table e in
    let size : length more ≡ length table = length-set table e.state.pc (with_newest (kept_at table e.state.pc) e) in
    let first = length-entries more es in
    let second = length-entries table es in
    ext_get_or [] (with_entries more es) (with_entries table es) (first ∙ size ∙ sym second)
    (λ pc lt.
    let within : pc < length table = omega (arith, lt, first, size) in
    let inside : pc < length more = omega (arith, lt, first) in
    at_one more es pc inside ∙ elim (cases_Bool (is_at pc e)) [
      | inl is ↦ kept_all_many (kept_at more pc) (kept_at table pc) (those_at pc es) (subst (λ k. 64 ≤ length (those_at k es)) (eqb-true e.state.pc pc is) many_more)
      | inr other ↦ ap (λ x. kept_all x (those_at pc es)) (elsewhere table e pc (eqb-false e.state.pc pc other))
    ] ∙ sym (at_one table es pc within))
