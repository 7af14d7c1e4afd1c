-- Each move keeps the rule of the queue.
use Rattle.std.proofs.Common.{◌≡◌, ◌≢◌, ◌==◌, ◌<◌, ◌≤◌, ◌+◌, ◌⊎◌, inl, inr, ℕ, zero, suc, Bool, true, false, true≢false, List, [], ◌∷◌, ◌++◌, length, set, get_or, sym, refl, ap, ◌∙◌, subst, ⊎_elim, append_assoc, if◌then◌else◌, arith}
use Rattle.std.proofs.lemmas.Bool.Decides.{nat_tests}
use mathlib.Core.Option.{some, some-ne-none, some-injective}
use lib.ListN.{get_elem?}
use Rattle.crossbeam_queue.specs.Fifo.{Pushes, Pops, Forks, Merges, Learns, Held}
use Rattle.std.proofs.lemmas.List.{append-nil, map-append}
use mathlib.Core.Logic.{dite}
use native.Mathlib.Decide.{ℕ_discrete}
use Rattle.crossbeam_queue.proofs.Lists.{at_set}
use Rattle.ap_queues.specs.Items.{Item}
use Rattle.ap_queues.specs.declared.item.Queued.{Queued}
use Rattle.ap_queues.specs.declared.item.View.{View}
use Rattle.ap_queues.specs.Queues.{of, items_of, nobody, maker, worker, operator, both, with_maker, without_maker, founder, Fits, OneQueue, EndsIn, PutAll}

-- a member of a list with one more is in the list, or is that one
at_last_or : (l : List View) (a b : View) (j : ℕ) → get_elem? (l ++ a ∷ []) j ≡ some b → (get_elem? l j ≡ some b) ⊎ ((j ≡ length l) × (a ≡ b))
at_last_or [] a b zero e = inr (refl, some-injective a b e)
at_last_or [] a b (suc j) e = absurd (some-ne-none b (sym e))
at_last_or (x ∷ xs) a b zero e = inl e
at_last_or (x ∷ xs) a b (suc j) e = ⊎_elim (λ h. inl h) (λ (t : (j ≡ length xs) × (a ≡ b)). inr (ap suc t.0, t.1)) (at_last_or xs a b j e)

-- each view fits at its index
abbrev All : (ℕ → View → Type 0) → List View → Type 0
All F views = (pass : ℕ) (v : View) → get_elem? views pass ≡ some v → F pass v

-- one view is replaced
all_set : (F : ℕ → View → Type 0) (views : List View) (pass : ℕ) (w : View) → F pass w → ((j : ℕ) (u : View) → j ≢ pass → get_elem? views j ≡ some u → F j u) → All F (set views pass w)
all_set F views pass w mine others j u e = ⊎_elim (λ (x : (j ≡ pass) × (w ≡ u)). subst (λ (y : ℕ × View). F y.0 y.1) (λ i. (sym x.0 i, x.1 i)) mine)
    (λ (x : (j ≢ pass) × (get_elem? views j ≡ some u)). others j u x.0 x.1) (at_set views pass j w u e)

-- a handle is split
fork_all : (F : ℕ → View → Type 0) (views : List View) (pass : ℕ) (l r : View) → F pass l → ((j : ℕ) (u : View) → j ≢ pass → get_elem? views j ≡ some u → F j u) → F (length (set views pass l)) r
    → All F (set views pass l ++ r ∷ [])
fork_all F views pass l r mine others new j u e = ⊎_elim (all_set F views pass l mine others j u) (λ (x : (j ≡ length (set views pass l)) × (r ≡ u)). subst (λ (y : ℕ × View). F y.0 y.1) (λ i. (sym x.0 i, x.1 i)) new)
    (at_last_or (set views pass l) r u j e)

-- one more item at the front, if it is the operator's
of_step : (x : Item) (xs ys zs : List Item) (b : Bool) → zs ≡ xs ++ ys → (if b then x ∷ zs else zs) ≡ (if b then x ∷ xs else xs) ++ ys
of_step x xs ys zs true h = ap (λ l. x ∷ l) h
of_step x xs ys zs false h = h

pub of_append : (p : ℕ) (xs ys : List Queued) → of p (xs ++ ys) ≡ of p xs ++ of p ys
of_append p [] ys = refl
of_append p (x ∷ xs) ys = of_step x.item (of p xs) (of p ys) (of p (xs ++ ys)) (x.operator == p) (of_append p xs ys)

-- an item of the operator comes last
of_grows : (p : ℕ) (put : List Queued) (x : Queued) → x.operator ≡ p → of p (put ++ x ∷ []) ≡ of p put ++ x.item ∷ []
of_grows p put x is =
    let t : (x.operator == p) ≡ true = grind (arith, nat_tests) in
    let one : of p (x ∷ []) ≡ x.item ∷ [] = rw t refl in
    of_append p put (x ∷ []) ∙ ap (λ l. of p put ++ l) one

-- an item of another operator makes no difference
of_stays : (p : ℕ) (put : List Queued) (x : Queued) → x.operator ≢ p → of p (put ++ x ∷ []) ≡ of p put
of_stays p put x n =
    let t : (x.operator == p) ≡ false = grind (arith, nat_tests) in
    let no : of p (x ∷ []) ≡ [] = rw t refl in
    of_append p put (x ∷ []) ∙ (ap (λ l. of p put ++ l) no ∙ append-nil (of p put))

no : {P : Type 0} → false ≡ true → P
no p = absurd (true≢false (sym p))

-- the seats, after p moved to handle k
abbrev moved : ℕ → ℕ → (ℕ → ℕ) → ℕ → ℕ
moved p k seat q = if q == p then k else seat q

moved_here : (p k : ℕ) (seat : ℕ → ℕ) → k ≡ moved p k seat p
moved_here p k seat = let t : (p == p) ≡ true = grind (arith, nat_tests) in rw t refl

moved_else : (p k q : ℕ) (seat : ℕ → ℕ) → q ≢ p → seat q ≡ moved p k seat q
moved_else p k q seat n = let t : (q == p) ≡ false = grind (arith, nat_tests) in rw t refl

-- an empty queue and its first handle
pub begins : OneQueue [] (founder ∷ [])
begins = (0, 0, 0, (λ p. 0), [], [], refl, (λ p le. refl), at_first)
  where
    at_first : (pass : ℕ) (v : View) → get_elem? (founder ∷ []) pass ≡ some v → Fits 0 0 0 (λ p. 0) [] [] pass v
    at_first zero v e = subst (Fits 0 0 0 (λ p. 0) [] [] 0) (some-injective founder v e) ((λ p. (refl, refl)), (λ p. (refl, refl)), (λ p. no p))
    at_first (suc n) v e = absurd (some-ne-none v (sym e))

-- an operator puts an item of its own
pub puts : (n pass : ℕ) (v : View) (x : Queued) → v.puts ≡ true → x.operator ≡ v.operator → Pushes OneQueue n pass v x (λ w. w ≡ record v { put = v.put ++ x.item ∷ [] })
puts n pass v x may from items views room h at =
    let mine = h.8 pass v at in
    let me = mine.2 may in
    let put : List Queued = h.4 ++ x ∷ [] in
    let w : View = record v { put = v.put ++ x.item ∷ [] } in (
      w,
      (
        h.0,
        h.1,
        h.2,
        h.3,
        put,
        h.5,
        ap (λ l. l ++ x ∷ []) h.6 ∙ append_assoc h.5 items (x ∷ []),
        (λ p le. let below = me.1 in of_stays p h.4 x (λ is. let same = is in absurd (omega arith)) ∙ h.7 p le),
        all_set (Fits h.0 h.1 h.2 h.3 put h.5) views pass w (mine.0, mine.1, λ _. (me.0, me.1, ap (λ l. l ++ x.item ∷ []) me.2 ∙ sym (of_grows v.operator h.4 x from)))
            (λ j u apart e.
            let t = h.8 j u e in
            (t.0, t.1, λ p. let it = t.2 p in (it.0, it.1, it.2 ∙ sym (of_stays u.operator h.4 x (λ is. apart (it.0 ∙ (ap h.3 (sym is ∙ from) ∙ sym me.0))))))),
      ),
      refl,
    )

-- the worker takes the oldest item
pub takes : (pass : ℕ) (v : View) → v.takes ≡ true → Pops OneQueue pass v (λ x w. w ≡ record v { taken = v.taken ++ x ∷ [] })
takes pass v may x items views h at =
    let mine = h.8 pass v at in
    let me = mine.1 may in
    let taken : List Queued = h.5 ++ x ∷ [] in
    let w : View = record v { taken = v.taken ++ x ∷ [] } in (
      w,
      (
        h.0,
        h.1,
        h.2,
        h.3,
        h.4,
        taken,
        h.6 ∙ sym (append_assoc h.5 (x ∷ []) items),
        h.7,
        all_set (Fits h.0 h.1 h.2 h.3 h.4 taken) views pass w (mine.0, (λ _. (me.0, ap (λ l. l ++ x ∷ []) me.1)), mine.2)
            (λ j u apart e. let t = h.8 j u e in (t.0, (λ p. absurd (apart ((t.1 p).0 ∙ sym me.0))), t.2)),
      ),
      refl,
    )

-- the first handle gives away the right to take
pub founds : (pass : ℕ) (v : View) → v.makes ≡ true → v.takes ≡ true → Forks OneQueue pass v (maker v.made) (worker v.taken)
founds pass v a b items views h at =
    let mine = h.8 pass v at in
    let k : ℕ = length (set views pass (maker v.made)) in (
      h.0,
      k,
      h.2,
      h.3,
      h.4,
      h.5,
      h.6,
      h.7,
      fork_all (Fits h.0 k h.2 h.3 h.4 h.5) views pass (maker v.made) (worker v.taken) ((λ _. mine.0 a), (λ p. no p), (λ p. no p))
          (λ j u apart e. let t = h.8 j u e in (t.0, (λ p. absurd (apart ((t.1 p).0 ∙ sym (mine.1 b).0))), t.2))
          ((λ p. no p), (λ _. (refl, (mine.1 b).1)), (λ p. no p)),
    )

pub hires : (pass : ℕ) (v : View) → v.makes ≡ true → Forks OneQueue pass v (maker (v.made + 1)) (operator v.made [])
hires pass v a items views h at =
    let mine = (h.8 pass v at).0 a in
    let made = mine.1 in
    let k : ℕ = length (set views pass (maker (v.made + 1))) in
    let seat : ℕ → ℕ = moved v.made k h.3 in (
      h.0,
      h.1,
      v.made + 1,
      seat,
      h.4,
      h.5,
      h.6,
      (λ p le. h.7 p (omega arith)),
      fork_all (Fits h.0 h.1 (v.made + 1) seat h.4 h.5) views pass (maker (v.made + 1)) (operator v.made []) ((λ _. (mine.0, refl)), (λ p. no p), (λ p. no p))
          (λ j u apart e.
          let t = h.8 j u e in
          ((λ p. absurd (apart ((t.0 p).0 ∙ sym mine.0))), t.1, λ p. let it = t.2 p in let low = it.1 in (it.0 ∙ moved_else v.made k u.operator h.3 (λ is. absurd (omega arith)), (omega arith), it.2)))
          ((λ p. no p), (λ p. no p), (λ _. (moved_here v.made k h.3, (omega arith), sym (h.7 v.made (omega arith))))),
    )

-- a handle that may do nothing
pub spares : (pass : ℕ) (v : View) → Forks OneQueue pass v v nobody
spares pass v items views h at = (
  h.0,
  h.1,
  h.2,
  h.3,
  h.4,
  h.5,
  h.6,
  h.7,
  fork_all (Fits h.0 h.1 h.2 h.3 h.4 h.5) views pass v nobody (h.8 pass v at) (λ j u apart e. h.8 j u e) ((λ p. no p), (λ p. no p), (λ p. no p)),
)

-- the worker takes an operator's handle
pub meets : (pass : ℕ) (v : View) (other : ℕ) (w : View) → v.takes ≡ true → w.puts ≡ true → Merges OneQueue pass v other w (both v.taken w.operator w.put) nobody
meets pass v other w a b items views h at two at' =
    let mine = (h.8 pass v at).1 a in
    let all : View = both v.taken w.operator w.put in
    let was : get_elem? views other ≡ some w = ⊎_elim (λ x. absurd (two x.0)) (λ x. x.1) (at_set views pass other all w at') in
    let theirs = (h.8 other w was).2 b in
    let seat : ℕ → ℕ = moved w.operator pass h.3 in
    let F : ℕ → View → Type 0 = Fits h.0 h.1 h.2 seat h.4 h.5 in
    let Now : ℕ → View → Type 0 = λ j u. j ≢ other → F j u in
    let now : All Now (set views pass all) = all_set Now views pass all (λ _. ((λ p. no p), (λ _. mine), (λ _. (moved_here w.operator pass h.3, theirs.1, theirs.2))))
    (λ j u _ e apart.
    let t = h.8 j u e in
    (t.0, t.1, λ p. let it = t.2 p in (it.0 ∙ moved_else w.operator pass u.operator h.3 (λ is. apart (it.0 ∙ (ap h.3 is ∙ sym theirs.0))), it.1, it.2))) in
    (h.0, h.1, h.2, seat, h.4, h.5, h.6, h.7, all_set F (set views pass all) other nobody ((λ p. no p), (λ p. no p), (λ p. no p)) (λ j u apart e. now j u e apart))

-- the worker returns it
pub parts : (pass : ℕ) (v : View) → v.takes ≡ true → v.puts ≡ true → Forks OneQueue pass v (worker v.taken) (operator v.operator v.put)
parts pass v a b items views h at =
    let mine = h.8 pass v at in
    let me = mine.2 b in
    let k : ℕ = length (set views pass (worker v.taken)) in
    let seat : ℕ → ℕ = moved v.operator k h.3 in (
      h.0,
      h.1,
      h.2,
      seat,
      h.4,
      h.5,
      h.6,
      h.7,
      fork_all (Fits h.0 h.1 h.2 seat h.4 h.5) views pass (worker v.taken) (operator v.operator v.put) ((λ p. no p), (λ _. mine.1 a), (λ p. no p))
          (λ j u apart e.
          let t = h.8 j u e in
          (t.0, t.1, λ p. let it = t.2 p in (it.0 ∙ moved_else v.operator k u.operator h.3 (λ is. apart (it.0 ∙ (ap h.3 is ∙ sym me.0))), it.1, it.2)))
          ((λ p. no p), (λ p. no p), (λ _. (moved_here v.operator k h.3, me.1, me.2))),
    )

-- what was taken of that operator is a prefix of what it put, and the rest is in the queue
pub learns : (pass : ℕ) (v : View) → v.takes ≡ true → v.puts ≡ true → Learns OneQueue pass v (λ items. v.put ≡ of v.operator v.taken ++ of v.operator items)
learns pass v a b items views h at =
    let mine = h.8 pass v at in
    (mine.2 b).2 ∙ (ap (of v.operator) (h.6 ∙ ap (λ l. l ++ items) (sym (mine.1 a).1)) ∙ of_append v.operator v.taken items)

-- the handle takes the maker's
pub gathers : (pass : ℕ) (v : View) (other : ℕ) (w : View) → w.makes ≡ true → Merges OneQueue pass v other w (with_maker v w.made) nobody
gathers pass v other w b items views h at two at' =
    let mine = h.8 pass v at in
    let all : View = with_maker v w.made in
    let was : get_elem? views other ≡ some w = ⊎_elim (λ x. absurd (two x.0)) (λ x. x.1) (at_set views pass other all w at') in
    let theirs = (h.8 other w was).0 b in
    let F : ℕ → View → Type 0 = Fits pass h.1 h.2 h.3 h.4 h.5 in
    let Now : ℕ → View → Type 0 = λ j u. j ≢ other → F j u in
    let now : All Now (set views pass all) = all_set Now views pass all (λ _. ((λ _. (refl, theirs.1)), mine.1, mine.2))
    (λ j u _ e apart. let t = h.8 j u e in ((λ p. absurd (apart ((t.0 p).0 ∙ sym theirs.0))), t.1, t.2)) in
    (pass, h.1, h.2, h.3, h.4, h.5, h.6, h.7, all_set F (set views pass all) other nobody ((λ p. no p), (λ p. no p), (λ p. no p)) (λ j u apart e. now j u e apart))

-- it returns the maker's
pub releases : (pass : ℕ) (v : View) → v.makes ≡ true → Forks OneQueue pass v (without_maker v) (maker v.made)
releases pass v a items views h at =
    let mine = h.8 pass v at in
    let root = mine.0 a in
    let k : ℕ = length (set views pass (without_maker v)) in (
      k,
      h.1,
      h.2,
      h.3,
      h.4,
      h.5,
      h.6,
      h.7,
      fork_all (Fits k h.1 h.2 h.3 h.4 h.5) views pass (without_maker v) (maker v.made) ((λ p. no p), mine.1, mine.2)
          (λ j u apart e. let t = h.8 j u e in ((λ p. absurd (apart ((t.0 p).0 ∙ sym root.0))), t.1, t.2))
          ((λ _. (refl, root.1)), (λ p. no p), (λ p. no p)),
    )

-- each is the first operator's
abbrev AllFirst : List Queued → Type 0
AllFirst [] = Unit {0}
AllFirst (x ∷ xs) = (x.operator ≡ 0) × AllFirst xs

-- an item of the operator is in its list
not_none : {P : Type 0} (x : Queued) (xs : List Queued) → of x.operator (x ∷ xs) ≡ [] → P
not_none x xs e =
    let t : (x.operator == x.operator) ≡ true = grind (arith, nat_tests) in
    let is : of x.operator (x ∷ xs) ≡ x.item ∷ of x.operator xs = rw t refl in
    let many : suc (length (of x.operator xs)) ≡ 0 = ap length (sym is ∙ e) in
    absurd (omega arith)

-- if no other operator put anything, all is the first operator's
firsts : (xs : List Queued) → ((p : ℕ) → 1 ≤ p → of p xs ≡ []) → AllFirst xs
firsts [] none = tt
firsts (x ∷ xs) none =
    let here : x.operator ≡ 0 = dite (ℕ_discrete x.operator 0) (λ e. e) (λ ne. not_none x xs (none x.operator (omega (arith, ne)))) in
    let others : (p : ℕ) → 1 ≤ p → of p xs ≡ [] =
    λ p le.
    let f : (x.operator == p) ≡ false = grind (arith, nat_tests) in
    let same : of p (x ∷ xs) ≡ of p xs = rw f refl in
    sym same ∙ none p le in
    (here, firsts xs others)

-- then the first operator's items are all items
all_of : (xs : List Queued) → AllFirst xs → of 0 xs ≡ items_of xs
all_of [] all = refl
all_of (x ∷ xs) all =
    let here : x.operator ≡ 0 = all.0 in
    let t : (x.operator == 0) ≡ true = grind (arith, nat_tests) in
    let is : of 0 (x ∷ xs) ≡ x.item ∷ of 0 xs = rw t refl in
    is ∙ ap (λ l. x.item ∷ l) (all_of xs all.1)

-- and so is each of a prefix
firsts_at : (xs ys : List Queued) (k : ℕ) (d : Queued) → AllFirst (xs ++ ys) → k < length xs → (get_or xs k d).operator ≡ 0
firsts_at [] ys k d all low = absurd (omega arith)
firsts_at (x ∷ xs) ys zero d all low = all.0
firsts_at (x ∷ xs) ys (suc k) d all low = firsts_at xs ys k d all.1 (omega arith)

-- if one operator was made, it put all: what was taken, and what the queue holds
pub learns_all : (pass : ℕ) (v : View) → v.takes ≡ true → v.puts ≡ true → v.makes ≡ true → v.made ≡ 1 → Learns OneQueue pass v (PutAll v)
learns_all pass v a b c one items views h at =
    let mine = h.8 pass v at in
    let made : h.2 ≡ 1 = sym (mine.0 c).1 ∙ one in
    let low = (mine.2 b).1 in
    let first : v.operator ≡ 0 = omega arith in
    let none : (p : ℕ) → 1 ≤ p → of p h.4 ≡ [] = λ p le. h.7 p (omega arith) in
    let put_is : h.4 ≡ v.taken ++ items = h.6 ∙ ap (λ l. l ++ items) (sym (mine.1 a).1) in
    let all = firsts h.4 none in
    record {
      own = λ k d low. firsts_at v.taken items k d (subst (λ l. AllFirst l) put_is all) low ∙ sym first;
      put = (mine.2 b).2 ∙ (ap (λ n. of n h.4) first ∙ (all_of h.4 all ∙ (ap items_of put_is ∙ map-append (λ (x : Queued). x.item) v.taken items)));
    }

no_item : (xs : List Queued) → length xs ≡ 0 → xs ≡ []
no_item [] none = refl
no_item (x ∷ xs) none = absurd (omega (arith, none))

-- if the queue then held nothing, all that was put was taken
pub none_left : (v : View) → Held 0 (PutAll v) → v.put ≡ items_of v.taken
none_left v h = h.2.put ∙ (ap (λ (l : List Queued). items_of v.taken ++ items_of l) (no_item h.0 h.1) ∙ append-nil (items_of v.taken))

-- the operator's items in the queue are the last that it put
pub ends_in : (pass : ℕ) (v : View) → v.puts ≡ true → Learns OneQueue pass v (EndsIn v)
ends_in pass v b items views h at = (of v.operator h.5, ((h.8 pass v at).2 b).2 ∙ (ap (of v.operator) h.6 ∙ of_append v.operator h.5 items))
