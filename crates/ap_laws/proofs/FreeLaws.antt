-- If equally many stations are associated in two readings of a shard, an identifier is free in both or in neither.
use Rattle.std.proofs.Common.{◌≡◌, ◌≢◌, ℕ, ◌%◌, ◌<◌, ◌≤◌, ◌⊎◌, inl, inr, ⊎_elim, None, Some, List, refl, sym, ap, ◌∙◌, subst, arith}
use Rattle.std.proofs.lemmas.Bool.{cases_lt, cases_eq}
use Rattle.assoc.specs.declared.standing.Known.TheVariants.{Authenticated, Associated}
use Rattle.assoc.specs.Standings.{Standings, Standing, IsOwn, IsFree, NoneTwice, state_of, aid_of}
use Rattle.assoc.proofs.Tables.{address_tells}
use Rattle.ap_laws.proofs.Pigeonhole.{KeepsApart, misses_none, all_at_once}
use Rattle.ap_laws.proofs.Same.{same_number}

own_tells : (s n : ℕ) → IsOwn s n ⊎ (IsOwn s n → ⊥)
own_tells s n =
    ⊎_elim
    (λ zero. inr (λ own. let low = own.low in omega arith))
    (λ low.
    ⊎_elim
    (λ high.
    ⊎_elim
    (λ mine. inl (record { low = low; high = omega arith; mine = mine }))
    (λ other. inr (λ own. other own.mine))
    (cases_eq (n % 8) s))
    (λ far. inr (λ own. let high = own.high in omega arith))
    (cases_lt n 2008))
    (cases_lt n 1)

-- a station in State 3 has an identifier
pub identifier_of : (x : Standing) → state_of x ≡ 3 → x ≡ Some (Associated (aid_of x))
identifier_of None e = absurd (omega arith)
identifier_of (Some Authenticated) e = absurd (omega arith)
identifier_of (Some (Associated n)) e = refl

module _ (s : ℕ) (f g : Standings) (a : List ℕ) (n : ℕ)
    (same : (b : List ℕ) → state_of (f b) ≡ state_of (g b))
    (own : (b : List ℕ) (m : ℕ) → f b ≡ Some (Associated m) → IsOwn s m) (once : NoneTwice f)
    (free : IsFree s f a n) where
  -- another station has it, in g
  record Taken (m : ℕ) : Type 0 where
    station : List ℕ
    has : g station ≡ Some (Associated m)
    other : station ≢ a

  -- if none is free in g, each of the shard's is taken
  not_free : ((m : ℕ) → IsFree s g a m → ⊥) → (m : ℕ) → ((IsOwn s m → Taken m) → ⊥) → ⊥
  not_free none m fails =
      ⊎_elim
      (λ mine.
      none m (record {
        own = mine;
        free = λ b has.
            ⊎_elim
            (λ same_one. sym same_one.1)
            (λ different. absurd (fails (λ own. record { station = b; has = has; other = λ e. different.1 (sym e) })))
            (address_tells a b);
      }))
      (λ not_mine. fails (λ own. absurd (not_mine own)))
      (own_tells s m)

  module _ (taken : (m : ℕ) → m < 2008 → IsOwn s m → Taken m) where
    -- the identifier in f of the station that has m in g
    record There (m : ℕ) : Type 0 where
      station : List ℕ
      was : g station ≡ Some (Associated m)
      number : ℕ
      has : f station ≡ Some (Associated number)
      other : number ≢ n

    there : (m : ℕ) → m < 2008 → IsOwn s m → There m
    there m lt mine =
        let t = taken m lt mine in
        let three : state_of (f t.station) ≡ 3 = same t.station ∙ ap state_of t.has in
        let is = identifier_of (f t.station) three in
        record {
          station = t.station;
          was = t.has;
          number = aid_of (f t.station);
          has = is;
          other = λ e. t.other (free.free t.station (let P : ℕ → Type 0 = λ x. f t.station ≡ Some (Associated x) in subst P e is));
        }

    -- each identifier of the shard goes to another, and every other number to itself
    goes_by : (m : ℕ) → (m < 2008) ⊎ (2008 ≤ m) → IsOwn s m ⊎ (IsOwn s m → ⊥) → ℕ
    goes_by m (inl lt) (inl mine) = (there m lt mine).number
    goes_by m (inl lt) (inr not) = m
    goes_by m (inr far) d = m

    goes : ℕ → ℕ
    goes m = goes_by m (cases_lt m 2008) (own_tells s m)

    -- what is known of its image
    data Going (m k : ℕ) : Type 0 where
      mine_to : IsOwn s m → (t : There m) → k ≡ t.number → Going m k
      itself : (IsOwn s m → ⊥) → k ≡ m → Going m k

    going_by : (m : ℕ) (d : (m < 2008) ⊎ (2008 ≤ m)) (o : IsOwn s m ⊎ (IsOwn s m → ⊥)) → m < 2008 → Going m (goes_by m d o)
    unfolding goes_by
    going_by m (inl lt) (inl mine) fits = mine_to mine (there m lt mine) refl
    going_by m (inl lt) (inr not) fits = itself not refl
    going_by m (inr far) o fits = absurd (omega arith)

    going : (m : ℕ) → m < 2008 → Going m (goes m)
    unfolding goes
    going m fits = going_by m (cases_lt m 2008) (own_tells s m) fits

    going_fits : (m k : ℕ) → m < 2008 → Going m k → k < 2008
    going_fits m k lt (mine_to mine t is) = let high = (own t.station t.number t.has).high in omega arith
    going_fits m k lt (itself not is) = omega arith

    going_misses : (m k : ℕ) → Going m k → k ≢ n
    going_misses m k (mine_to mine t is) e = t.other (sym is ∙ e)
    going_misses m k (itself not is) e = let P : ℕ → Type 0 = λ x. IsOwn s x in not (subst P (sym e ∙ is) free.own)

    going_apart : (i j k : ℕ) → Going i k → Going j k → i ≡ j
    going_apart i j k (mine_to mine t is) (mine_to mine2 t2 is2) =
        let P : ℕ → Type 0 = λ x. f t2.station ≡ Some (Associated x) in
        let one : t.station ≡ t2.station = once t.station t2.station t.number t.has (subst P (sym is2 ∙ is) t2.has) in
        same_number i j (sym t.was ∙ ap g one ∙ t2.was)
    going_apart i j k (mine_to mine t is) (itself not is2) =
        let P : ℕ → Type 0 = λ x. IsOwn s x in absurd (not (subst P (sym is ∙ is2) (own t.station t.number t.has)))
    going_apart i j k (itself not is) (mine_to mine t is2) =
        let P : ℕ → Type 0 = λ x. IsOwn s x in absurd (not (subst P (sym is2 ∙ is) (own t.station t.number t.has)))
    going_apart i j k (itself not is) (itself not2 is2) = sym is ∙ is2

    no_room : ⊥
    no_room =
        let apart : KeepsApart 2008 goes =
        λ i j lt lt2 e. let P : ℕ → Type 0 = λ k. Going j k in going_apart i j (goes i) (going i lt) (subst P (sym e) (going j lt2)) in
        let high = free.own.high in
        misses_none 2007 goes n (omega arith) (λ i lt. going_fits i (goes i) lt (going i lt)) apart (λ i lt. going_misses i (goes i) (going i lt))

  -- if an identifier is free in f, not all are taken in g
  pub some_free : ((m : ℕ) → IsFree s g a m → ⊥) → ⊥
  some_free none = all_at_once (λ m. IsOwn s m → Taken m) 2008 (λ m lt. not_free none m) no_room
