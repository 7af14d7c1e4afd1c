-- A window's start doesn't depend on its items.
use Rattle.std.proofs.Common.{◌≡◌, ℕ, ◌+◌, ◌-◌, ◌%◌, ◌<◌, ◌≤◌, ⊎_elim, inl, inr, true, false, cond, Option, None, refl, sym, ap, ◌∙◌, subst, arith}
use Rattle.std.specs.Prelude.{is_some, IsSome, max, nat_lt}
use Rattle.std.proofs.lemmas.Bool.{cases_lt, cases_eq}
use Rattle.std.proofs.lemmas.Bool.Decides.{nat_tests}
use Rattle.blockack.specs.Window.{Window, IsNextFree, IsUnwrapped, Brings, with_item, DataStep, TakesData, MovesTo, Stays, EndStep}
use Rattle.blockack.specs.Reading.{Reading, Reads, held_at, window_of}
use Rattle.blockack.specs.Same.{TookTheSame, ReadTheSame, DataLeavesTheSame, RequestLeavesTheSame, EndLeavesTheSame, HaveWindows, DataReadsTheSame, RequestReadsTheSame}
use Rattle.blockack.proofs.SlotLaws.{none_some, none_from}
use Rattle.blockack.proofs.MoveLaws.{one_number, with_same, with_other}

module _ {F : Type 0} where
  turned : (one other : Window F) → TookTheSame one other → TookTheSame other one
  turned one other same = record { start = sym same.start; numbers = λ k. sym (same.numbers k) }

  brings_too : (one other : Window F) (number n : ℕ) → TookTheSame one other → Brings one number n → Brings other number n
  brings_too one other number n same p =
      let s = same.start in let low = p.is.low in let high = p.is.high in let from = p.from_start in
      record {
        is = record { residue = p.is.residue; low = omega arith; high = omega arith };
        from_start = omega arith;
        new = none_from (other.taken n) (sym (same.numbers n) ∙ ap is_some p.new);
      }

  unwrapped_too : (one other : Window F) (number n : ℕ) → TookTheSame one other → IsUnwrapped one.start number n → IsUnwrapped other.start number n
  unwrapped_too one other number n same p =
      let s = same.start in let low = p.low in let high = p.high in
      record { residue = p.residue; low = omega arith; high = omega arith }

  stay_same : (one other one2 other2 : Window F) → TookTheSame one other → one2 ≡ one → other2 ≡ other → TookTheSame one2 other2
  stay_same one other one2 other2 same p q =
      let P : Window F → Type 0 = λ w. TookTheSame w other2 in
      let Q : Window F → Type 0 = λ w. TookTheSame one w in
      subst P (sym p) (subst Q (sym q) same)

  -- the least free number is unique
  next_le : (one other : Window F) (from n m : ℕ) → ((k : ℕ) → is_some (one.taken k) ≡ is_some (other.taken k)) → IsNextFree one.taken from n → IsNextFree other.taken from m → m ≤ n
  next_le one other from n m same p q =
      ⊎_elim
      (λ lt. absurd (none_some (ap is_some (sym p.free) ∙ same n ∙ q.full n p.above lt)))
      (λ le. le)
      (cases_lt n m)

  next_same : (one other : Window F) (from : ℕ) → ((k : ℕ) → is_some (one.taken k) ≡ is_some (other.taken k)) → IsNextFree one.taken from one.start → IsNextFree other.taken from other.start → TookTheSame one other
  next_same one other from same p q =
      let down = next_le one other from one.start other.start same p q in
      let up = next_le other one from other.start one.start (λ k. sym (same k)) q p in
      record { start = omega arith; numbers = same }

  with_both : (one other : Window F) (n : ℕ) (x y : Option F) → TookTheSame one other → (k : ℕ) → is_some (with_item one.taken n x k) ≡ is_some (with_item other.taken n y k)
  with_both one other n x y same k =
      ⊎_elim
      (λ e. ap is_some (with_same one.taken n x k e) ∙ sym (ap is_some (with_same other.taken n y k e)))
      (λ ne. ap is_some (with_other one.taken n x k ne) ∙ same.numbers k ∙ sym (ap is_some (with_other other.taken n y k ne)))
      (cases_eq k n)

  both_take : (size number : ℕ) (x y : Option F) (one other one2 other2 : Window F) → TookTheSame one other → TakesData size number x one one2 → TakesData size number y other other2 → TookTheSame one2 other2
  both_take size number x y one other one2 other2 same p q =
      let q_brings = brings_too other one number q.n (turned one other same) q.brings in
      let e : q.n ≡ p.n = one_number one.start number q.n p.n q_brings.is p.brings.is in
      let gains : other2.taken ≡ with_item other.taken p.n y = q.gains ∙ ap (λ n. with_item other.taken n y) e in
      let alike : (k : ℕ) → is_some (one2.taken k) ≡ is_some (other2.taken k) =
      λ k. ap (λ f. is_some (f k)) p.gains ∙ with_both one other p.n x y same k ∙ sym (ap (λ f. is_some (f k)) gains) in
      let s = same.start in
      let from : max other.start (q.n + 1 - size) ≡ max one.start (p.n + 1 - size) = omega arith in
      let P : ℕ → Type 0 = λ m. IsNextFree other2.taken m other2.start in
      next_same one2 other2 (max one.start (p.n + 1 - size)) alike p.next (subst P from q.next)

  pub data_same : DataLeavesTheSame F
  data_same size number x y true true one other one2 other2 same p q = (refl, both_take size number x y one other one2 other2 same p q)
  data_same size number x y true false one other one2 other2 same p q = absurd (q.other p.n (brings_too one other number p.n same p.brings))
  data_same size number x y false true one other one2 other2 same p q = absurd (p.other q.n (brings_too other one number q.n (turned one other same) q.brings))
  data_same size number x y false false one other one2 other2 same p q = (refl, stay_same one other one2 other2 same p.stays q.stays)

  both_move : (number : ℕ) (one other one2 other2 : Window F) → TookTheSame one other → MovesTo number one one2 → MovesTo number other other2 → TookTheSame one2 other2
  both_move number one other one2 other2 same p q =
      let q_is = unwrapped_too other one number q.n (turned one other same) q.is in
      let e : q.n ≡ p.n = one_number one.start number q.n p.n q_is p.is in
      let alike : (k : ℕ) → is_some (one2.taken k) ≡ is_some (other2.taken k) =
      λ k. ap (λ f. is_some (f k)) p.same ∙ same.numbers k ∙ sym (ap (λ f. is_some (f k)) q.same) in
      let P : ℕ → Type 0 = λ m. IsNextFree other2.taken m other2.start in
      next_same one2 other2 p.n alike p.next (subst P e q.next)

  -- it can't be that one moves and the other stays
  only_one_moves : (number : ℕ) (one other one2 other2 : Window F) → TookTheSame one other → MovesTo number one one2 → Stays number other other2 → ⊥
  only_one_moves number one other one2 other2 same p q =
      let s = same.start in let beyond = p.beyond in
      q.other p.n (unwrapped_too one other number p.n same p.is) (omega arith)

  pub request_same : RequestLeavesTheSame F
  request_same number one other one2 other2 same (inl p) (inl q) = both_move number one other one2 other2 same p q
  request_same number one other one2 other2 same (inl p) (inr q) = absurd (only_one_moves number one other one2 other2 same p q)
  request_same number one other one2 other2 same (inr p) (inl q) = absurd (only_one_moves number other one other2 one2 (turned one other same) q p)
  request_same number one other one2 other2 same (inr p) (inr q) = stay_same one other one2 other2 same p.stays q.stays

  end_le : (one other one2 other2 : Window F) → TookTheSame one other → EndStep one one2 → EndStep other other2 → other2.start ≤ one2.start
  end_le one other one2 other2 same p q =
      let s = same.start in let above = p.above in
      ⊎_elim
      (λ lt.
      let some : IsSome (one.taken (other2.start - 1)) = same.numbers (other2.start - 1) ∙ q.last (omega arith) in
      let below = p.all (other2.start - 1) some in
      absurd (omega arith))
      (λ le. le)
      (cases_lt one2.start other2.start)

  pub end_same : EndLeavesTheSame F
  end_same one other one2 other2 same p q =
      let down = end_le one other one2 other2 same p q in
      let up = end_le other one other2 one2 (turned one other same) q p in
      record {
        start = omega arith;
        numbers = λ k. ap (λ f. is_some (f k)) p.same ∙ same.numbers k ∙ sym (ap (λ f. is_some (f k)) q.same);
      }

  after_start : (v : Reading F) (i : ℕ) → cond (nat_lt (v.start + i) v.start) None (held_at v (v.start + i - v.start)) ≡ held_at v i
  after_start v i =
      let e : v.start + i - v.start ≡ i = omega arith in
      let at : held_at v (v.start + i - v.start) ≡ held_at v i = ap (held_at v) e in
      grind (arith, nat_tests)

  pub have_windows : HaveWindows F
  have_windows v fits = record { residue = omega arith; held = after_start v }

  windows_same : (one other : Reading F) → ReadTheSame one other → TookTheSame (window_of one) (window_of other)
  windows_same one other same =
      record {
        start = same.start;
        numbers = λ k.
            let s = same.start in
            let e : k - one.start ≡ k - other.start = omega arith in
            ap (λ x. is_some (cond (nat_lt k x) None (held_at one (k - one.start)))) same.start ∙
            ⊎_elim
            (λ lt. let below : nat_lt k other.start ≡ true = grind (arith, nat_tests) in
            ap (λ b. is_some (cond b None (held_at one (k - one.start)))) below ∙ sym (ap (λ b. is_some (cond b None (held_at other (k - other.start)))) below))
            (λ le. let past : nat_lt k other.start ≡ false = grind (arith, nat_tests) in
            ap (λ b. is_some (cond b None (held_at one (k - one.start)))) past ∙ same.held (k - one.start) ∙ ap (λ x. is_some (held_at other x)) e ∙ sym (ap (λ b. is_some (cond b None (held_at other (k - other.start)))) past))
            (cases_lt k other.start);
      }

  readings_same : (one other : Window F) (v u : Reading F) → TookTheSame one other → Reads one v → Reads other u → v.size ≡ u.size → ReadTheSame v u
  readings_same one other v u same p q size =
      record {
        start = p.residue ∙ ap (λ x. x % 4096) same.start ∙ sym q.residue;
        size = size;
        held = λ i. ap is_some (sym (p.held i)) ∙ same.numbers (one.start + i) ∙ ap (λ x. is_some (other.taken (x + i))) same.start ∙ ap is_some (q.held i);
      }

  pub data_reads_same : DataReadsTheSame F
  data_reads_same number x y took took2 one other one2 other2 out out2 fits same size size2 p q =
      let s = same.start in
      let other_fits : other.start < 4096 = omega arith in
      let a = p (window_of one) (have_windows one fits) in
      let b = q (window_of other) (have_windows other other_fits) in
      let P : ℕ → Type 0 = λ n. DataStep took2 n number y (window_of other) b.next in
      let r = data_same one.size number x y took took2 (window_of one) (window_of other) a.next b.next (windows_same one other same) a.step (subst P (sym same.size) b.step) in
      (r.0, readings_same a.next b.next one2 other2 r.1 a.reads b.reads (size ∙ same.size ∙ sym size2))

  pub request_reads_same : RequestReadsTheSame F
  request_reads_same number one other one2 other2 out out2 fits same size size2 p q =
      let s = same.start in
      let other_fits : other.start < 4096 = omega arith in
      let a = p (window_of one) (have_windows one fits) in
      let b = q (window_of other) (have_windows other other_fits) in
      let r = request_same number (window_of one) (window_of other) a.next b.next (windows_same one other same) a.step b.step in
      readings_same a.next b.next one2 other2 r a.reads b.reads (size ∙ same.size ∙ sym size2)
