-- The steps on a journal's book keep its rule.
use Rattle.std.proofs.Common.{◌≡◌, ◌≢◌, ℕ, zero, suc, ◌+◌, ◌<◌, ◌≤◌, ◌==◌, Bool, true, false, List, [], ◌∷◌, ◌++◌, length, set, refl, ap, sym, subst, ◌∙◌, arith, inl, length-append, None, nat_lt, get_or-set_same, get_or-set_other}
use Rattle.std.proofs.lemmas.List.{append-nil, get_or_append_left, get_or-append-add, length-set}
use Rattle.std.proofs.lemmas.Bool.{lt-ltb, le-ltb, ltb-true, ltb-false}
use Rattle.std.proofs.lemmas.Bool.Decides.{nat_tests}
use prog.Atomic.{either}
use Rattle.logbook.specs.Pages.{Cell, cell, keeps, gives, adds, Nib, nib, no_nib, may_write, may_make, step, Moves, Goes, Away}
use Rattle.ap_journal.specs.Turns.{HasTurns, IsKept, MakesTurn, Adds, Looks}
use Rattle.ap_journal.proofs.Prefixes.{prefix_whole}

-- the first word is at home
pub first_home : (cells : List Cell) (n : ℕ) → HasTurns cells n → (0 < length cells) × ((cell cells 0).1 ≡ true)
first_home cells n kept =
    let some : 0 < length cells = omega (arith, kept.counted) in
    (some, kept.home 0 some ∙ lt-ltb 0 n kept.begun)

-- the same words, with the first rewritten
pub same_turns : (cells : List Cell) (n value : ℕ) → HasTurns cells n → value ≡ (cell cells 0).0 → HasTurns (set cells 0 (value, true)) n
same_turns [] n value kept is = absurd (omega (arith, kept.counted))
same_turns (first ∷ others) n value kept is = record {
  counted = omega (arith, kept.counted, is);
  begun = kept.begun;
  ahead = kept.ahead;
  home = home;
}
  where
    home : (k : ℕ) → k < length ((value, true) ∷ others) → (cell ((value, true) ∷ others) k).1 ≡ nat_lt k n
    home zero within = sym (lt-ltb 0 n kept.begun)
    home (suc k) within = kept.home (suc k) within

-- an added word is the last, and is away
added_away : (others : List Cell) (n k : ℕ) → k < length others + 1 → n ≤ length others + 1
    → ((j : ℕ) → j < length others → (cell others j).1 ≡ nat_lt (suc j) n) → (b : Bool) → nat_lt k (length others) ≡ b
    → (cell (others ++ (0, false) ∷ []) k).1 ≡ nat_lt (suc k) n
added_away others n k within few home true is =
    ap (λ (c : Cell). c.1) (get_or_append_left others ((0, false) ∷ []) (0, false) k (ltb-true k (length others) is)) ∙ home k (ltb-true k (length others) is)
added_away others n k within few home false is =
    let last : k ≡ length others + 0 = omega (arith, ltb-false k (length others) is) in
    rw last (ap (λ (c : Cell). c.1) (get_or-append-add others ((0, false) ∷ []) 0 (0, false)) ∙ sym (le-ltb (suc (length others + 0)) n (omega arith)))

-- with one more turn, which the first word then counts
pub more_turns : (cells : List Cell) (n value : ℕ) → HasTurns cells n → value ≡ (cell cells 0).0 + 1
    → HasTurns (set cells 0 (value, true) ++ (0, false) ∷ []) n
more_turns [] n value kept is = absurd (omega (arith, kept.counted))
more_turns (first ∷ others) n value kept is =
    let long : length (others ++ (0, false) ∷ []) ≡ length others + 1 = length-append others ((0, false) ∷ []) in
    record {
      counted = omega (arith, kept.counted, is, long);
      begun = kept.begun;
      ahead = omega (arith, kept.ahead, long);
      home = home;
    }
  where
    home : (k : ℕ) → k < length ((value, true) ∷ (others ++ (0, false) ∷ [])) → (cell ((value, true) ∷ (others ++ (0, false) ∷ [])) k).1 ≡ nat_lt k n
    home zero within = sym (lt-ltb 0 n kept.begun)
    home (suc k) within =
        added_away others n k (omega (arith, length-append others ((0, false) ∷ []))) (omega (arith, kept.ahead))
        (λ j small. kept.home (suc j) (omega arith)) (nat_lt k (length others)) refl

-- the word of the used turn is at home
turn_home : (cells : List Cell) (n k value j : ℕ) → HasTurns cells n → k < length cells → k ≡ n → j < length cells
    → (b : Bool) → (j == k) ≡ b → (cell (set cells k (value, true)) j).1 ≡ nat_lt j (n + 1)
turn_home cells n k value j kept in_cells last within true is =
    let same : j ≡ k = grind (arith, nat_tests) in
    rw same (ap (λ (c : Cell). c.1) (get_or-set_same cells k (value, true) (0, false) in_cells) ∙ sym (lt-ltb k (n + 1) (omega arith)))
turn_home cells n k value j kept in_cells last within false is =
    let apart : j ≢ k = grind (arith, nat_tests) in
    ap (λ (c : Cell). c.1) (get_or-set_other cells k j (value, true) (0, false) apart) ∙ (kept.home j within ∙ grind (arith, nat_tests))

-- the words after the next turn was used
pub turn_taken : (cells : List Cell) (n k value : ℕ) → HasTurns cells n → k < length cells → k ≡ n → HasTurns (set cells k (value, true)) (n + 1)
turn_taken cells n k value kept in_cells last =
    let first : cell (set cells k (value, true)) 0 ≡ cell cells 0 = get_or-set_other cells k 0 (value, true) (0, false) (λ zero_is. omega (arith, kept.begun)) in
    record {
      counted = ap (λ (c : Cell). c.0 + 1) first ∙ (kept.counted ∙ sym (length-set cells k (value, true)));
      begun = omega arith;
      ahead = omega (arith, length-set cells k (value, true));
      home = λ j within. turn_home cells n k value j kept in_cells last (omega (arith, length-set cells k (value, true))) (j == k) refl;
    }

-- exchanging a number for itself
either_same : (n : ℕ) → either (n == 0) 0 n ≡ n
either_same n = either_same_at n (n == 0) refl
  where
    either_same_at : (n : ℕ) (b : Bool) → (n == 0) ≡ b → either (n == 0) 0 n ≡ n
    either_same_at n true is = let none : n ≡ 0 = grind (arith, nat_tests) in rw is (sym none)
    either_same_at n false is = rw is refl

module _ {E : Type 0} where
  abbrev pub shown : List E → List E
  shown entries = []

  abbrev pub moved : List E → List E → ℕ → Type 0
  moved before after n = Unit {0}

  -- for every book, the exchange makes the turn after the last one, if that has the expected number
  turn_goes : (v : List E) (e : E) (last : ℕ) (cs : List Cell) (log : List E) → IsKept cs log → (b : Bool) → ((cell cs 0).0 == last) ≡ b
      → Goes IsKept shown moved 0 (v, (no_nib, None)) (λ n. either (n == last) (last + 1) n) (MakesTurn (step 0 last (last + 1) e) (v, (no_nib, None))) cs log
  turn_goes v e last cs log kept true is =
      let found : (cell cs 0).0 ≡ last = grind (arith, nat_tests) in
      let n : either ((cell cs 0).0 == last) (last + 1) (cell cs 0).0 ≡ (cell cs 0).0 + 1 = rw is (omega arith) in (
        adds,
        [],
        None,
        tt,
        subst (IsKept _) (sym (append-nil log)) (more_turns cs (length log + 1) _ kept n),
        inl (refl, refl),
        rw is (ap (λ k. nib may_make k 0) (omega (arith, kept.counted))),
      )
  turn_goes v e last cs log kept false is =
      let n : either ((cell cs 0).0 == last) (last + 1) (cell cs 0).0 ≡ (cell cs 0).0 = rw is refl in (
        keeps,
        [],
        None,
        tt,
        subst (IsKept _) (sym (append-nil log)) (same_turns cs (length log + 1) _ kept n),
        inl (refl, refl),
        rw is tt,
      )

  pub turn_moves : (v : List E) (e : E) (last : ℕ)
      → Moves IsKept shown moved 0 (v, (no_nib, None)) (λ n. either (n == last) (last + 1) n) (MakesTurn (step 0 last (last + 1) e) (v, (no_nib, None)))
  turn_moves v e last cs log kept pre away =
      let first = first_home cs (length log + 1) kept in (first.0, first.1, turn_goes v e last cs log kept ((cell cs 0).0 == last) refl)

  -- an unused turn bounds the journal
  turn_bounds : (p : Nib) (cs : List Cell) (log : List E) → p.right ≡ may_write → IsKept cs log → Away p cs → (p.key < length cs) × (length log + 1 ≤ p.key)
  turn_bounds p cs log right kept away =
      let at = away right in (at.0, ltb-false p.key (length log + 1) (sym (kept.home p.key at.0) ∙ at.1))

  -- the owner of the turn after all that was seen adds its entry at the end of the journal
  pub add_moves : (v : List E) (e : E) (p : Nib) → p.right ≡ may_write → p.key ≡ length v + 1
      → Moves IsKept shown moved 0 (v, (p, None)) (λ n. either (n == 0) 0 n) (Adds (step 0 0 0 e) (v, (p, None)))
  add_moves v e p right next cs log kept pre away =
      let first = first_home cs (length log + 1) kept in
      let bounds = turn_bounds p cs log right kept away in
      let same : v ≡ log = prefix_whole v log pre (omega (arith, bounds.1)) in
      let written = same_turns cs (length log + 1) (either ((cell cs 0).0 == 0) 0 (cell cs 0).0) kept (either_same (cell cs 0).0) in
      let in_cells : p.key < length (set cs 0 (either ((cell cs 0).0 == 0) 0 (cell cs 0).0, true)) = omega (arith, bounds.0, length-set cs 0 (either ((cell cs 0).0 == 0) 0 (cell cs 0).0, true)) in
      let long : length log + 1 + 1 ≡ length (log ++ e ∷ []) + 1 = omega (arith, length-append log (e ∷ [])) in (
        first.0,
        first.1,
        (
          gives,
          e ∷ [],
          None,
          right,
          subst (HasTurns _) long (turn_taken _ (length log + 1) p.key p.value written in_cells (omega (arith, next, ap length same))),
          inl (refl, refl),
          ap (λ w. w ++ e ∷ []) (sym same),
        ),
      )

  -- the owner of a turn finds that the journal has at most the entries before it
  pub look_moves : (v : List E) (e : E) (p : Nib) → p.right ≡ may_write
      → Moves IsKept shown moved 0 (v, (p, None)) (λ n. either (n == 0) 0 n) (Looks (step 0 0 0 e) (v, (p, None)))
  look_moves v e p right cs log kept pre away =
      let first = first_home cs (length log + 1) kept in
      let bounds = turn_bounds p cs log right kept away in (
        first.0,
        first.1,
        (
          keeps,
          [],
          None,
          tt,
          subst (IsKept _) (sym (append-nil log)) (same_turns cs (length log + 1) _ kept (either_same (cell cs 0).0)),
          inl (refl, refl),
          (refl, subst (λ (entries : List E). length entries + 1 ≤ p.key) (sym (append-nil log)) bounds.1),
        ),
      )
