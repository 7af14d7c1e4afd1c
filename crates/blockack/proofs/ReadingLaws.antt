-- The readings of an agreement suffice: what holds for them holds for every window with these readings.
use Rattle.std.proofs.Common.{◌≡◌, ℕ, zero, suc, ◌+◌, ◌-◌, ◌%◌, ◌<◌, ◌≤◌, ◌≢◌, ◌↔◌, inl, inr, ⊎_elim, Bool, true, false, not, Option, None, Some, List, [], get_or, refl, sym, ap, ◌∙◌, subst, arith, map}
use Rattle.std.specs.Prelude.{is_some, IsSome, IsTrue, max}
use Rattle.std.specs.List.{range_with_len}
use Rattle.std.proofs.lemmas.Bool.{cases_lt, cases_Bool, cases_eq}
use Rattle.std.proofs.lemmas.List.{append-nil, get_or_past}
use Rattle.std.proofs.lemmas.List.FromFn.{get_or-map-range_with_len, length-map-range_with_len}
use Rattle.blockack.specs.Window.{Items, Window, IsUnwrapped, IsNextFree, Brings, with_item, RequestStep}
use Rattle.blockack.specs.Passed.{passed, PassesUp}
use Rattle.blockack.specs.Ring.{ring_at, gathered, ahead, IsSoundRing}
use Rattle.blockack.specs.Reading.{Reading, held_at, Reads, IsWanted, AfterData, AfterRequest, AfterEnd}
use Rattle.blockack.specs.declared.scoreboard.Bitmap.{Bitmap}
use Rattle.blockack.proofs.SlotLaws.{ring_in, ring_out, none_some, none_from}
use Rattle.blockack.proofs.MoveLaws.{with_same, with_other, not_some}
use Rattle.blockack.proofs.PassedLaws.{passes_up, gathered_last}

module _ {F : Type 0} where
  -- the held slots of a reading are the ring's
  pub held_is : (h : Items F) → ((i : ℕ) → 64 ≤ i → h i ≡ None) → (i : ℕ) → get_or (map h (range_with_len 0 64)) i None ≡ h i
  held_is h out i =
      ⊎_elim
      (λ lt. get_or-map-range_with_len h 0 64 i i None lt (omega arith))
      (λ past. get_or_past (map h (range_with_len 0 64)) i None (let e = length-map-range_with_len h 0 64 in omega (arith, e)) ∙ sym (out i past))
      (cases_lt i 64)

  -- the least free index is the least free number
  pub next_from : (h a : Items F) (w m j : ℕ) → ((i : ℕ) → a (w + i) ≡ h i) → IsNextFree h m j → IsNextFree a (w + m) (w + j)
  next_from h a w m j same next =
      record {
        above = let le = next.above in omega arith;
        free = same j ∙ next.free;
        full = λ k from lt.
            let e : w + (k - w) ≡ k = omega arith in
            let f : m ≤ k - w = omega arith in
            let l : k - w < j = omega arith in
            let P : ℕ → Type 0 = λ x. IsSome (a x) in
            subst P e (ap is_some (same (k - w)) ∙ next.full (k - w) f l);
      }

  -- what was taken, with the item, from the window's start on
  pub with_from : (h a : Items F) (w d : ℕ) (item : Option F) → ((i : ℕ) → a (w + i) ≡ h i) → (i : ℕ) → with_item a (w + d) item (w + i) ≡ with_item h d item i
  with_from h a w d item same i =
      ⊎_elim
      (λ e. let f : w + i ≡ w + d = omega arith in with_same a (w + d) item (w + i) f ∙ sym (with_same h d item i e))
      (λ ne. let f : w + i ≢ w + d = λ p. ne (omega arith) in with_other a (w + d) item (w + i) f ∙ same i ∙ sym (with_other h d item i ne))
      (cases_eq i d)

  pub brings_of : (v : Reading F) (number : ℕ) → number < 4096 → (window : Window F) → Reads window v → IsWanted v number → Brings window number (window.start + ahead v.start number)
  brings_of v number fits window reads wanted =
      let r = reads.residue in
      let near = wanted.near in
      record {
        is = record { residue = omega arith; low = omega arith; high = omega arith };
        from_start = omega arith;
        new = reads.held (ahead v.start number) ∙ wanted.free;
      }

  -- a number from the start on is as far ahead as its sequence number
  pub ahead_is : (v : Reading F) (number n : ℕ) → number < 4096 → (window : Window F) → Reads window v → IsUnwrapped window.start number n → window.start ≤ n → n ≡ window.start + ahead v.start number
  ahead_is v number n fits window reads is from =
      let r = reads.residue in let e = is.residue in let hi = is.high in
      omega arith

  pub wanted_of : (v : Reading F) (number n : ℕ) → number < 4096 → (window : Window F) → Reads window v → Brings window number n → IsWanted v number
  wanted_of v number n fits window reads b =
      let e = ahead_is v number n fits window reads b.is b.from_start in
      let hi = b.is.high in
      record { near = omega arith; free = sym (reads.held (ahead v.start number)) ∙ ap window.taken (sym e) ∙ b.new }

  pub wants_law : (v : Reading F) (number : ℕ) (r : Bool) → number < 4096 → (IsTrue r ↔ IsWanted v number) → (window : Window F) → Reads window v → (IsTrue r ↔ ((n : ℕ) × Brings window number n))
  wants_law v number r fits both window reads =
      (λ t. (window.start + ahead v.start number, brings_of v number fits window reads (both.0 t)), λ p. both.1 (wanted_of v number p.0 fits window reads p.1))

  -- data that is taken, from the readings
  pub does_take : (h : Items F) (v v2 : Reading F) (number j : ℕ) (item : Option F) (out : List (ℕ × F)) → ((i : ℕ) → held_at v i ≡ h i) → number < 4096 → 1 ≤ v.size → IsWanted v number →
      IsNextFree (with_item h (ahead v.start number) item) (ahead v.start number + 1 - v.size) j →
      ((i : ℕ) → held_at v2 i ≡ with_item h (ahead v.start number) item (j + i)) → v2.start ≡ (v.start + j) % 4096 →
      out ≡ gathered (with_item h (ahead v.start number) item) v.start j →
      (window : Window F) → Reads window v → AfterData true v.size number item window v2 out
  does_take h v v2 number j item out is fits some wanted next rest moved sent window reads =
      let r = reads.residue in
      let w : ℕ = window.start in
      let n : ℕ = w + ahead v.start number in
      let taken : Items F = with_item window.taken n item in
      let h2 : Items F = with_item h (ahead v.start number) item in
      let same : (i : ℕ) → taken (w + i) ≡ h2 i = with_from h window.taken w (ahead v.start number) item (λ i. reads.held i ∙ is i) in
      let m : w + (ahead v.start number + 1 - v.size) ≡ max w (n + 1 - v.size) = omega arith in
      let P : ℕ → Type 0 = λ x. IsNextFree taken x (w + j) in
      let Q : List (ℕ × F) → Type 0 = λ xs. PassesUp window (record { taken = taken; start = w + j }) xs in
      record {
        next = record { taken = taken; start = w + j };
        step = record { n = n; brings = brings_of v number fits window reads wanted; gains = refl; next = subst P m (next_from h2 taken w (ahead v.start number + 1 - v.size) j same next) };
        reads = record {
          residue = omega arith;
          held = λ i. ap taken (let e : w + j + i ≡ w + (j + i) = omega arith in e) ∙ same (j + i) ∙ sym (rest i);
        };
        passes = subst Q (sym sent) (passes_up h2 window taken v.start j same (λ k lt. with_other window.taken n item k (λ e. omega arith)) r);
      }

  -- data that isn't taken
  pub does_leave : (v v2 : Reading F) (number : ℕ) (item : Option F) (out : List (ℕ × F)) → number < 4096 → (IsWanted v number → ⊥) → ((i : ℕ) → held_at v2 i ≡ held_at v i) → v2.start ≡ v.start → out ≡ [] → (window : Window F) → Reads window v → AfterData false v.size number item window v2 out
  does_leave v v2 number item out fits not same start none window reads =
      record {
        next = window;
        step = record { other = λ n b. not (wanted_of v number n fits window reads b); stays = refl };
        reads = record { residue = start ∙ reads.residue; held = λ i. reads.held i ∙ sym (same i) };
        passes = record { frames = []; grows = sym (append-nil (passed window)); sent = none };
      }

  -- a request that isn't old, from the readings
  pub does_move : (h : Items F) (v v2 : Reading F) (number j : ℕ) (out : List (ℕ × F)) → ((i : ℕ) → held_at v i ≡ h i) → number < 4096 → ahead v.start number < 2048 → h 0 ≡ None → IsNextFree h (ahead v.start number) j →
      ((i : ℕ) → held_at v2 i ≡ h (j + i)) → v2.start ≡ (v.start + j) % 4096 → out ≡ gathered h v.start j →
      (window : Window F) → Reads window v → AfterRequest number window v2 out
  does_move h v v2 number j out is fits near front next rest moved sent window reads =
      let r = reads.residue in
      let w : ℕ = window.start in
      let same : (i : ℕ) → window.taken (w + i) ≡ h i = λ i. reads.held i ∙ is i in
      let moved_window : Window F = record { taken = window.taken; start = w + j } in
      let Q : List (ℕ × F) → Type 0 = λ xs. PassesUp window moved_window xs in
      let step : RequestStep number window moved_window =
      ⊎_elim
      (λ zero_ahead.
      let still : j ≡ 0 =
      ⊎_elim (λ lt. absurd (not_some (h 0) front (next.full 0 (omega arith) lt))) (λ le. let e : j ≡ 0 = omega arith in e) (cases_lt 0 j) in
      let here : w + j ≡ w = omega arith in
      inr (record { other = λ n un beyond. let e = ahead_is v number n fits window reads un (omega arith) in absurd (omega arith); stays = ap (λ x. record { taken = window.taken; start = x }) here }))
      (λ not_zero.
      inl (record {
        n = w + ahead v.start number;
        is = record { residue = omega arith; low = omega arith; high = omega arith };
        beyond = omega arith;
        same = refl;
        next = next_from h window.taken w (ahead v.start number) j same next;
      }))
      (cases_eq (ahead v.start number) 0) in
      record {
        next = moved_window;
        step = step;
        reads = record {
          residue = omega arith;
          held = λ i. ap window.taken (let e : w + j + i ≡ w + (j + i) = omega arith in e) ∙ same (j + i) ∙ sym (rest i);
        };
        passes = subst Q (sym sent) (passes_up h window window.taken v.start j same (λ k lt. refl) r);
      }

  -- an old request
  pub does_stay : (v v2 : Reading F) (number : ℕ) (out : List (ℕ × F)) → number < 4096 → 2048 ≤ ahead v.start number → ((i : ℕ) → held_at v2 i ≡ held_at v i) → v2.start ≡ v.start → out ≡ [] → (window : Window F) → Reads window v → AfterRequest number window v2 out
  does_stay v v2 number out fits far same start none window reads =
      record {
        next = window;
        step = inr (record { other = λ n un beyond. let e = ahead_is v number n fits window reads un (omega arith) in let y = un.high in absurd (omega arith); stays = refl });
        reads = record { residue = start ∙ reads.residue; held = λ i. reads.held i ∙ sym (same i) };
        passes = record { frames = []; grows = sym (append-nil (passed window)); sent = none };
      }

  -- the index after the last one held
  pub record Last (h : Items F) (n : ℕ) : Type 0 where
    pub e : ℕ
    pub within : e ≤ n
    pub none : (k : ℕ) → e ≤ k → k < n → h k ≡ None
    pub held : 0 < e → IsSome (h (e - 1))

  pub last_of : (h : Items F) (n : ℕ) → Last h n
  last_of h zero = record { e = 0; within = omega arith; none = λ k a b. absurd (omega arith); held = λ p. absurd (omega arith) }
  last_of h (suc n) =
      let ih : Last h n = last_of h n in
      ⊎_elim
      (λ t. record { e = n + 1; within = omega arith; none = λ k a b. absurd (omega arith); held = λ p. (let P : ℕ → Type 0 = λ x. IsSome (h x) in let q : n ≡ n + 1 - 1 = omega arith in subst P q t) })
      (λ f. record {
        e = ih.e;
        within = (let x = ih.within in omega arith);
        none = λ k from lt. ⊎_elim (λ below. ih.none k from below) (λ at. let q : k ≡ n = omega arith in ap h q ∙ none_from (h n) f) (cases_lt k n);
        held = ih.held;
      })
      (cases_Bool (is_some (h n)))

  -- the end, from the readings
  pub does_end : (h : Items F) (v : Reading F) (size j : ℕ) (out : List (ℕ × F)) → ((i : ℕ) → held_at v i ≡ h i) → ((i : ℕ) → size ≤ i → h i ≡ None) → IsNextFree h size j → out ≡ gathered h v.start j → (window : Window F) → Reads window v → AfterEnd window out
  does_end h v size j out is past next sent window reads =
      let w : ℕ = window.start in
      let same : (i : ℕ) → window.taken (w + i) ≡ h i = λ i. reads.held i ∙ is i in
      let above = next.above in
      let exact : j ≡ size = ⊎_elim (λ lt. absurd (not_some (h size) (past size (omega arith)) (next.full size (omega arith) lt))) (λ le. let e : j ≡ size = omega arith in e) (cases_lt size j) in
      let l : Last h size = last_of h size in
      let Q : List (ℕ × F) → Type 0 = λ xs. PassesUp window (record { taken = window.taken; start = w + l.e }) xs in
      let within = l.within in
      record {
        next = record { taken = window.taken; start = w + l.e };
        step = record {
          same = refl;
          above = omega arith;
          all = λ k some.
              ⊎_elim (λ lt. lt)
              (λ le.
              let q : k ≡ w + (k - w) = omega arith in
              let none : window.taken k ≡ None =
              ap window.taken q ∙ same (k - w) ∙
              ⊎_elim (λ lt. l.none (k - w) (let f : l.e ≤ k - w = omega arith in f) lt) (λ far. past (k - w) far) (cases_lt (k - w) size) in
              absurd (not_some (window.taken k) none some))
              (cases_lt k (w + l.e));
          last = λ lt.
              let pos : 0 < l.e = omega arith in
              let q : w + (l.e - 1) ≡ w + l.e - 1 = omega arith in
              let P : ℕ → Type 0 = λ x. IsSome (window.taken x) in
              subst P q (ap is_some (same (l.e - 1)) ∙ l.held pos);
        };
        passes = subst Q (sym (sent ∙ ap (gathered h v.start) exact ∙ gathered_last h v.start l.e size l.within l.none)) (passes_up h window window.taken v.start l.e same (λ k lt. refl) reads.residue);
      }

  -- what a contract sees of the fields
  abbrev pub seen : List (Option (Option F)) → ℕ → ℕ → Bitmap → Reading F
  seen slots start size bitmap = record { start = start; size = size; held = map (ring_at slots start) (range_with_len 0 64); scoreboard_start = bitmap.start; scoreboard_bits = bitmap.bits }

  pub held_seen : (slots : List (Option (Option F))) (start size : ℕ) (bitmap : Bitmap) (i : ℕ) → held_at (seen slots start size bitmap) i ≡ ring_at slots start i
  unfolding held_at
  held_seen slots start size bitmap i = held_is (ring_at slots start) (ring_out slots start) i

  pub wanted_in : (slots : List (Option (Option F))) (start size : ℕ) (bitmap : Bitmap) (number : ℕ) → IsSoundRing slots start size → number < 4096 → ahead start number < 2048 → (ahead start number < size → get_or slots (number % 64) None ≡ None) → IsWanted (seen slots start size bitmap) number
  wanted_in slots start size bitmap number sound fits near free =
      let sfits = sound.start_fits in let ssize = sound.size_fits in
      record {
        near = near;
        free = held_seen slots start size bitmap (ahead start number) ∙
            ⊎_elim
            (λ lt.
            let in64 : ahead start number < 64 = omega arith in
            let place : (start + ahead start number) % 64 ≡ number % 64 = omega arith in
            ring_in slots start (ahead start number) in64 ∙ ap (λ x. get_or slots x None) place ∙ free lt)
            (λ past. sound.past (ahead start number) past)
            (cases_lt (ahead start number) size);
      }

  pub free_in : (slots : List (Option (Option F))) (start size : ℕ) (bitmap : Bitmap) (number : ℕ) → IsSoundRing slots start size → number < 4096 → ahead start number < size → IsWanted (seen slots start size bitmap) number → get_or slots (number % 64) None ≡ None
  free_in slots start size bitmap number sound fits lt wanted =
      let sfits = sound.start_fits in let ssize = sound.size_fits in
      let in64 : ahead start number < 64 = omega arith in
      let place : (start + ahead start number) % 64 ≡ number % 64 = omega arith in
      ap (λ x. get_or slots x None) (sym place) ∙ sym (ring_in slots start (ahead start number) in64) ∙ sym (held_seen slots start size bitmap (ahead start number)) ∙ wanted.free

  -- what `is_none` returns
  pub none_is : (o : Option (Option F)) (r : Bool) → is_some o ≡ not r → r ≡ true → o ≡ None
  none_is None r h t = refl
  none_is (Some x) r h t = absurd (none_some (sym (h ∙ ap not t)))

  pub none_of : (o : Option (Option F)) (r : Bool) → is_some o ≡ not r → o ≡ None → r ≡ true
  none_of o true h e = refl
  none_of o false h e = absurd (none_some (ap is_some (sym e) ∙ h))
