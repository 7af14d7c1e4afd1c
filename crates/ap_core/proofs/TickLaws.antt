-- Passing time.
use Rattle.std.proofs.Common.{◌≡◌, ℕ, suc, ◌+◌, ◌-◌, ◌^◌, ◌≤◌, min, Bool, true, false, cond, Option, Some, None, List, [], ◌∷◌, ◌++◌, map, refl, sym, ap, subst, ◌∙◌, arith, append_assoc, length, length-append}
use Rattle.std.proofs.lemmas.List.{append-nil}
use Rattle.std.proofs.lemmas.Bool.{and_parts}
use Rattle.std.proofs.lemmas.Bool.Decides.{nat_tests}
use Rattle.std.specs.Prelude.{◌↔◌, nat_le, AllPairs, Contains}
use Rattle.assoc.specs.Standings.{Standings}
use Rattle.blockack.specs.Reading.{EndPassesUp, numbers_held}
use Rattle.ap_model.specs.declared.event.Out.{Out}
use Rattle.ap_model.specs.Readings.{Readings, Rules, Using, Held}
use Rattle.ap_model.specs.Agreements.{ups, delba}
use Rattle.ap_model.specs.Steps.{IsBefore, IsTimedOut, EndsAt, EndInTurn, nobody_ends, one_end, Ticks}
use Rattle.ap_agreements.specs.Tables.{Kept, key_of, agreement_in, is_late, IsLateIn, unless_late, all_held}
use Rattle.std.proofs.lemmas.List.Sums.{sum_by_push}
use Rattle.ap_core.specs.Ticking.{EndInOrder, no_more, next_ends, EndsOne, EndsAll, outs_of_ends}
use Rattle.ap_core.proofs.EndLaws.{passes_some}
use Rattle.ap_core.proofs.Lists.{image_of, into_image}

-- ---- one end after another

module _ (c : Rules) where
  longer : (a b d : List Out) (x : Out) → (a ++ (x ∷ b)) ++ d ≡ a ++ (x ∷ (b ++ d))
  longer a b d x = append_assoc a (x ∷ b) d

  pub one_more : {ks : List Kept} {outs : List Out} → EndInOrder c ks outs → (k : Kept) (passed : List (ℕ × Held)) → EndPassesUp k.using.window passed →
      EndInOrder c (ks ++ k ∷ []) (outs ++ (ups k.station k.tid passed ++ delba c k.station k.tid 39 ∷ []))
  one_more no_more k passed h = next_ends k [] passed [] h no_more
  one_more (next_ends x ks before rest e t) k passed h =
      let last = ups k.station k.tid passed ++ delba c k.station k.tid 39 ∷ [] in
      subst (λ (l : List Out). EndInOrder c (x ∷ (ks ++ k ∷ [])) l) (sym (longer (ups x.station x.tid before) rest last (delba c x.station x.tid 39)))
      (next_ends x (ks ++ k ∷ []) before (rest ++ last) e (one_more t k passed h))

  pub in_turn : (r : Readings) {ks : List Kept} {outs : List Out} → EndInOrder c ks outs →
      ((k : Kept) → Contains ks k → r.agreement k.station k.tid ≡ Some k.using) → EndInTurn c r (map key_of ks) outs
  in_turn r no_more h = nobody_ends
  in_turn r (next_ends k ks passed rest e t) h =
      one_end k.station k.tid (map key_of ks) (ups k.station k.tid passed) rest
      (passes_some k.station k.tid (r.agreement k.station k.tid) k.using passed (h k (0, omega arith, refl)) e)
      (in_turn r t (λ x m. h x (suc m.0, omega (arith, m.1), m.2)))

-- the outputs so far
pub record Ending (c : Rules) (all : List Kept) (old : List Out) (yielded rest : List Kept) (now : List Out) : Type 0 where
  pub parts : all ≡ yielded ++ rest
  pub more : List Out
  pub ends : EndInOrder c yielded more
  pub outs : now ≡ old ++ more
  pub few : length now ≤ length old + outs_of_ends yielded

pub ending_none : (c : Rules) (all : List Kept) (old : List Out) → Ending c all old [] all old
ending_none c all old = record { parts = refl; more = []; ends = no_more; outs = sym (append-nil old); few = omega arith }

pub ending_more : (c : Rules) (all : List Kept) (old : List Out) (yielded rest rest2 : List Kept) (now now2 : List Out) (k : Kept) →
    Ending c all old yielded rest now → rest ≡ k ∷ rest2 → EndsOne c k now now2 → length now2 ≤ length now + (numbers_held k.using.window + 1) → Ending c all old (yielded ++ k ∷ []) rest2 now2
ending_more c all old yielded rest rest2 now now2 k p e o l =
    record {
      parts = p.parts ∙ ap (λ (t : List Kept). yielded ++ t) e ∙ sym (append_assoc yielded (k ∷ []) rest2);
      more = p.more ++ (ups k.station k.tid o.passed ++ delba c k.station k.tid 39 ∷ []);
      ends = one_more c p.ends k o.passed o.ends;
      outs =
          o.is ∙ ap (λ (t : List Out). t ++ (ups k.station k.tid o.passed ++ delba c k.station k.tid 39 ∷ [])) p.outs
          ∙ append_assoc old p.more (ups k.station k.tid o.passed ++ delba c k.station k.tid 39 ∷ []);
      few =
          let held : all_held (yielded ++ k ∷ []) ≡ all_held yielded + numbers_held k.using.window = sum_by_push (λ (x : Kept). numbers_held x.using.window) yielded k in
          omega (arith, p.few, l, held, length-append yielded (k ∷ []));
    }

pub all_ended : (c : Rules) (all : List Kept) (old : List Out) (yielded rest : List Kept) (now : List Out) → Ending c all old yielded rest now → rest ≡ [] → EndsAll c all old now
all_ended c all old yielded rest now p e =
    let f : all ≡ yielded = p.parts ∙ ap (λ (t : List Kept). yielded ++ t) e ∙ append-nil yielded in
    record { more = p.more; ends = subst (λ (t : List Kept). EndInOrder c t p.more) (sym f) p.ends; is = p.outs }

-- ---- which agreements have timed out

module _ (c : Rules) (r : Readings) (clock : ℕ) (u : Using) where
  timed : is_late clock u ≡ true → IsTimedOut c r clock u
  timed e =
      let b = and_parts (nat_le 1 u.timeout) (nat_le (u.last_use + u.timeout) clock) e in
      let f = b.0 in
      let g = b.1 in
      record { limited = grind (arith, nat_tests); idle = grind (arith, nat_tests) }

  late_from : IsTimedOut c r clock u → is_late clock u ≡ true
  late_from t =
      let a = t.limited in
      let b = t.idle in
      let f : nat_le 1 u.timeout ≡ true = grind (arith, nat_tests) in
      let g : nat_le (u.last_use + u.timeout) clock ≡ true = grind (arith, nat_tests) in
      rw (f, g) refl

gone_by : (clock : ℕ) (o : Option Using) (u : Using) → o ≡ Some u → is_late clock u ≡ true → unless_late clock o ≡ None
gone_by clock o u e l = ap (λ (p : Option Using). unless_late clock p) e ∙ ap (λ (b : Bool). cond b None (Some u)) l

stays_by : (u : Using) (b : Bool) → (b ≡ true → ⊥) → cond b None (Some u) ≡ Some u
stays_by u true h = absurd (h refl)
stays_by u false h = refl

stays : (clock : ℕ) (o : Option Using) → ((u : Using) → o ≡ Some u → is_late clock u ≡ true → ⊥) → unless_late clock o ≡ o
stays clock None h = refl
stays clock (Some u) h = stays_by u (is_late clock u) (h u refl)

-- ---- the tick

module _ (c : Rules) (standing : Standings) (ks ks2 ended : List Kept) (clock clock2 n : ℕ) (outs : List Out)
    (late_in : (k : Kept) → Contains ended k ↔ IsLateIn clock2 ks k) where
  abbrev pub before : Readings
  before = record { standing = standing; agreement = agreement_in ks; clock = clock }

  abbrev pub after : Readings
  after = record { standing = standing; agreement = agreement_in ks2; clock = clock2 }

  ends_at : (key : List ℕ × ℕ) → Contains (map key_of ended) key → EndsAt c before clock2 key
  ends_at key m =
      let g = image_of key_of ended key m in
      let l = (late_in g.0).0 g.1 in
      record {
        using = g.0.using;
        is = subst (λ (p : List ℕ × ℕ). agreement_in ks p.0 p.1 ≡ Some g.0.using) g.2 l.is;
        late = timed c before clock2 g.0.using l.late;
      }

  in_ending : (key : List ℕ × ℕ) → EndsAt c before clock2 key → Contains (map key_of ended) key
  in_ending key x =
      let k : Kept = record { station = key.0; tid = key.1; using = x.using } in
      into_image key_of ended k ((late_in k).1 (record { is = x.is; late = late_from c before clock2 x.using x.late }))

  pub ticked : clock2 ≡ min (clock + n) (2 ^ 64 - 1) → AllPairs IsBefore (map key_of ended) →
      ((a : List ℕ) (tid : ℕ) → agreement_in ks2 a tid ≡ unless_late clock2 (agreement_in ks a tid)) → EndInOrder c ended outs →
      Ticks c before n [] outs after
  ticked e rising others t =
      record {
        silent = refl;
        clock = e;
        standing = λ q. refl;
        ending = map key_of ended;
        rising = rising;
        exact = λ key. (ends_at key, in_ending key);
        ends = in_turn c before t (λ k m. ((late_in k).0 m).is);
        gone = λ key m. let x = ends_at key m in others key.0 key.1 ∙ gone_by clock2 (agreement_in ks key.0 key.1) x.using x.is (late_from c before clock2 x.using x.late);
        others = λ key no.
            others key.0 key.1
            ∙ stays clock2 (agreement_in ks key.0 key.1) (λ u f l. no (in_ending key (record { using = u; is = f; late = timed c before clock2 u l })));
      }
