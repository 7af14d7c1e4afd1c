-- The two tables stay in agreement.
use Rattle.std.proofs.Common.{◌≡◌, ◌≢◌, ℕ, ◌+◌, ◌*◌, ◌/◌, ◌%◌, ◌<◌, ◌≤◌, ◌⊎◌, inl, inr, Option, None, Some, List, length, cond, true, false, Bool, slice_index_or, slice_set, refl, sym, ◌∙◌, ap, subst, arith, get_or-set_same, get_or-set_other}
use Rattle.std.proofs.lemmas.Grind.{common_steps}
use Rattle.std.proofs.lemmas.Bool.{cases_lt}
use Rattle.std.proofs.lemmas.Bool.Decides.{eqb_tells}
use Rattle.std.proofs.lemmas.Cmp.{nat_list_eq_equiv}
use Rattle.std.proofs.lemmas.Slice.Eq.{bytes_eq-Decides}
use Rattle.assoc.specs.declared.standing.Known.{Known}
use Rattle.assoc.specs.declared.standing.Known.TheVariants.{Authenticated, Associated}
use Rattle.assoc.specs.Standings.{Standings, Standing, IsOwn, IsFree, IsLeastFree, IsMoved, NoneTwice, same_address}
use Rattle.assoc.specs.Sound.{IsSound, IsTaken}
use Rattle.assoc.specs.Standings.{IsFull}
use Rattle.std.specs.List.{IsDistinct}
use Rattle.std.specs.Map.{lookup, keys_of}
use Rattle.std.proofs.lemmas.Map.Made.{is_some-lookup}
use Rattle.std.proofs.lemmas.Map.Entries.{length-keys_of}
use Rattle.std.proofs.lemmas.Map.Steps.{length-le_from_keys}
use Rattle.std.proofs.lemmas.Option.{none-some}

-- two addresses are equal or not
pub address_tells : (a b : List ℕ) → ((same_address a b ≡ true) × (a ≡ b)) ⊎ ((same_address a b ≡ false) × (a ≢ b))
address_tells a b =
    let d = bytes_eq-Decides a b in
    let go : (t : Bool) → same_address a b ≡ t → ((same_address a b ≡ true) × (a ≡ b)) ⊎ ((same_address a b ≡ false) × (a ≢ b)) =
    λ t. elim t as (λ t. same_address a b ≡ t → ((same_address a b ≡ true) × (a ≡ b)) ⊎ ((same_address a b ≡ false) × (a ≢ b))) [
      | true ↦ λ e. inl (e, d.0 e)
      | false ↦ λ e. inr (e, λ w. let x = d.1 w in cc)
    ] in
    go (same_address a b) refl

-- a standing after a move: that of the station that moved, or another's as before
module _ (f : Standings) (a : List ℕ) (s : Standing) (g : Standings) (m : IsMoved f a s g) where
  pub moved_here : g a ≡ s
  moved_here = m a ∙ ap (λ b. cond b s (f a)) ((bytes_eq-Decides a a).1 refl)

  pub moved_other : (b : List ℕ) → a ≢ b → g b ≡ f b
  moved_other b ne =
      let go : ((same_address a b ≡ true) × (a ≡ b)) ⊎ ((same_address a b ≡ false) × (a ≢ b)) → g b ≡ f b =
      λ x. elim x [ inl y ↦ absurd (ne y.1) | inr y ↦ m b ∙ ap (λ t. cond t s (f b)) y.0 ] in
      go (address_tells a b)

  pub moved_cases : (b : List ℕ) → ((a ≡ b) × (g b ≡ s)) ⊎ ((a ≢ b) × (g b ≡ f b))
  moved_cases b =
      let go : ((same_address a b ≡ true) × (a ≡ b)) ⊎ ((same_address a b ≡ false) × (a ≢ b)) → ((a ≡ b) × (g b ≡ s)) ⊎ ((a ≢ b) × (g b ≡ f b)) =
      λ x. elim x [ inl y ↦ inl (y.1, subst (λ t. g t ≡ s) y.1 moved_here) | inr y ↦ inr (y.1, moved_other b y.1) ] in
      go (address_tells a b)

same_station : (H : List (Option (List ℕ))) (k : ℕ) (a b : List ℕ) → slice_index_or H k None ≡ Some a → slice_index_or H k None ≡ Some b → a ≡ b
same_station H k a b p q = cc

same_number : (v : Option Known) (m n : ℕ) → v ≡ Some (Associated m) → v ≡ Some (Associated n) → m ≡ n
same_number v m n p q = cc

pub twice_none : (s : ℕ) (f : Standings) (c : ℕ) (H : List (Option (List ℕ))) → IsSound s f c H → NoneTwice f
twice_none s f c H i a b n p q = same_station H (n / 8) a b (i.holds a n p) (i.holds b n q)

-- a station without an identifier moves to a standing without one
pub plain_sound : (s : ℕ) (f : Standings) (c : ℕ) (H : List (Option (List ℕ))) (a : List ℕ) (c2 : ℕ) (v : Standing) (g : Standings) →
    IsSound s f c H → ((n : ℕ) → f a ≡ Some (Associated n) → ⊥) → ((n : ℕ) → v ≡ Some (Associated n) → ⊥) → IsMoved f a v g → c2 ≤ 512 → IsSound s g c2 H
plain_sound s f c H a c2 v g i old new m few =
    let back : (b : List ℕ) (n : ℕ) → g b ≡ Some (Associated n) → f b ≡ Some (Associated n) =
    λ b n e. elim (moved_cases f a v g m b) [ inl x ↦ absurd (new n (sym x.1 ∙ e)) | inr x ↦ sym x.1 ∙ e ] in
    record {
      shard = i.shard;
      few = few;
      own = λ b n e. i.own b n (back b n e);
      holds = λ b n e. i.holds b n (back b n e);
      held = λ k b e.
          let p : f b ≡ Some (Associated (8 * k + s)) = i.held k b e in
          elim (moved_cases f a v g m b) [ inl x ↦ absurd (old (8 * k + s) (subst (λ t. f t ≡ Some (Associated (8 * k + s))) (sym x.0) p)) | inr x ↦ x.1 ∙ p ];
    }

pub place : (k s n : ℕ) → s < 8 → 8 * k + s ≡ n → k ≡ n / 8
place k s n l e = omega arith

pub none_set : (H : List (Option (List ℕ))) (k : ℕ) → slice_index_or (slice_set H k None) k None ≡ None
none_set H k =
    elim (eqb_tells 0 0) [ inl y ↦ grind (arith, common_steps) | inr y ↦ grind (arith, common_steps) ]

-- the identifier of station a is taken back
pub back_sound : (s : ℕ) (f : Standings) (c : ℕ) (H : List (Option (List ℕ))) (a : List ℕ) (n c2 : ℕ) (g : Standings) →
    IsSound s f c H → f a ≡ Some (Associated n) → IsMoved f a (Some Authenticated) g → c2 ≤ 512 → IsSound s g c2 (slice_set H (n / 8) None)
back_sound s f c H a n c2 g i is m few =
    let back : (b : List ℕ) (k : ℕ) → g b ≡ Some (Associated k) → (a ≢ b) × (f b ≡ Some (Associated k)) =
    λ b k e. elim (moved_cases f a (Some Authenticated) g m b) [ inl x ↦ absurd (let w : Some Authenticated ≡ Some (Associated k) = sym x.1 ∙ e in cc) | inr x ↦ (x.0, sym x.1 ∙ e) ] in
    record {
      shard = i.shard;
      few = few;
      own = λ b k e. i.own b k (back b k e).1;
      holds = λ b k e.
          let p = i.holds b k (back b k e).1 in
          let q = i.holds a n is in
          let ne : k / 8 ≢ n / 8 = λ w. (back b k e).0 (same_station H (n / 8) a b q (subst (λ t. slice_index_or H t None ≡ Some b) w p)) in
          get_or-set_other H (n / 8) (k / 8) None None ne ∙ p;
      held = λ k b e.
          elim (eqb_tells k (n / 8)) [
            | inl y ↦
                let z : slice_index_or (slice_set H (n / 8) None) (n / 8) None ≡ Some b = subst (λ t. slice_index_or (slice_set H (n / 8) None) t None ≡ Some b) y.1 e in
                absurd (none-some b (sym (none_set H (n / 8)) ∙ z))
            | inr y ↦
                let p : slice_index_or H k None ≡ Some b = sym (get_or-set_other H (n / 8) k None None y.1) ∙ e in
                let r = i.held k b p in
                elim (moved_cases f a (Some Authenticated) g m b) [
                  | inl x ↦
                      let t : 8 * k + s ≡ n = same_number (f a) (8 * k + s) n (subst (λ t. f t ≡ Some (Associated (8 * k + s))) (sym x.0) r) is in
                      let l : s < 8 = i.shard in
                      let d : k ≡ n / 8 = place k s n l t in
                      absurd (y.1 d)
                  | inr x ↦ x.1 ∙ r
                ]
          ];
    }

-- station a gets the free identifier n
pub grant_sound : (s : ℕ) (f : Standings) (c : ℕ) (H : List (Option (List ℕ))) (a : List ℕ) (n c2 : ℕ) (g : Standings) →
    IsSound s f c H → length H ≡ 251 → ((k : ℕ) → f a ≡ Some (Associated k) → ⊥) → IsFree s f a n → IsMoved f a (Some (Associated n)) g → c2 ≤ 512 → IsSound s g c2 (slice_set H (n / 8) (Some a))
grant_sound s f c H a n c2 g i long old free m few =
    let low : 8 * (n / 8) + s ≡ n = (let w : n % 8 ≡ s = free.own.mine in omega arith) in
    let in_range : n / 8 < length H = (let w : n ≤ 2007 = free.own.high in omega arith) in
    record {
      shard = i.shard;
      few = few;
      own = λ b k e. elim (moved_cases f a (Some (Associated n)) g m b) [
        | inl x ↦ subst (λ t. IsOwn s t) (same_number (g b) n k x.1 e) free.own
        | inr x ↦ i.own b k (sym x.1 ∙ e)
      ];
      holds = λ b k e. elim (moved_cases f a (Some (Associated n)) g m b) [
        | inl x ↦ subst (λ t. slice_index_or (slice_set H (n / 8) (Some a)) (t / 8) None ≡ Some b) (same_number (g b) n k x.1 e) (get_or-set_same H (n / 8) (Some a) None in_range ∙ ap Some x.0)
        | inr x ↦
            let p : f b ≡ Some (Associated k) = sym x.1 ∙ e in
            let ne : k / 8 ≢ n / 8 = λ w.
            let o = i.own b k p in
            let mk : k % 8 ≡ s = o.mine in
            let same : k ≡ n = omega arith in
            x.0 (sym (free.free b (subst (λ t. f b ≡ Some (Associated t)) same p))) in
            get_or-set_other H (n / 8) (k / 8) (Some a) None ne ∙ i.holds b k p
      ];
      held = λ k b e.
          elim (eqb_tells k (n / 8)) [
            | inl y ↦
                let z : Some a ≡ Some b = sym (get_or-set_same H (n / 8) (Some a) None in_range) ∙ subst (λ t. slice_index_or (slice_set H (n / 8) (Some a)) t None ≡ Some b) y.1 e in
                let ab : a ≡ b = cc in
                let w : 8 * k + s ≡ n = omega arith in
                subst (λ t. g b ≡ Some (Associated t)) (sym w) (subst (λ t. g t ≡ Some (Associated n)) ab (moved_here f a (Some (Associated n)) g m))
            | inr y ↦
                let p : slice_index_or H k None ≡ Some b = sym (get_or-set_other H (n / 8) k (Some a) None y.1) ∙ e in
                let r = i.held k b p in
                elim (moved_cases f a (Some (Associated n)) g m b) [
                  | inl x ↦ absurd (old (8 * k + s) (subst (λ t. f t ≡ Some (Associated (8 * k + s))) (sym x.0) r))
                  | inr x ↦ x.1 ∙ r
                ]
          ];
    }

-- an identifier that no other station holds is free
pub free_from : (s : ℕ) (f : Standings) (c : ℕ) (H : List (Option (List ℕ))) (a : List ℕ) (k : ℕ) →
    IsSound s f c H → 1 ≤ 8 * k + s → 8 * k + s ≤ 2007 → ((b : List ℕ) → slice_index_or H k None ≡ Some b → b ≡ a) → IsFree s f a (8 * k + s)
free_from s f c H a k i low high here =
    let l : s < 8 = i.shard in
    record {
      own = record { low = low; high = high; mine = omega arith };
      free = λ b e. here b (subst (λ t. slice_index_or H t None ≡ Some b) (sym (place k s (8 * k + s) l refl)) (i.holds b (8 * k + s) e));
    }

-- if each index is taken, no identifier is free
pub none_free : (s : ℕ) (f : Standings) (c : ℕ) (H : List (Option (List ℕ))) (a : List ℕ) →
    IsSound s f c H → ((k : ℕ) → k < 251 → IsTaken s H a k) → (n : ℕ) → IsFree s f a n → ⊥
none_free s f c H a i taken n w =
    let high : n ≤ 2007 = w.own.high in
    let m : n % 8 ≡ s = w.own.mine in
    let e : 8 * (n / 8) + s ≡ n = omega arith in
    let t = taken (n / 8) (omega arith) (subst (λ x. IsOwn s x) (sym e) w.own) in
    t.2 (w.free t.0 (subst (λ x. f t.0 ≡ Some (Associated x)) e (i.held (n / 8) t.0 t.1)))

-- if each index below this one is taken, no lesser identifier is free
pub least_from : (s : ℕ) (f : Standings) (c : ℕ) (H : List (Option (List ℕ))) (a : List ℕ) (k : ℕ) →
    IsSound s f c H → ((j : ℕ) → j < k → IsTaken s H a j) → IsFree s f a (8 * k + s) → IsLeastFree s f a (8 * k + s)
least_from s f c H a k i taken free =
    let l : s < 8 = i.shard in
    record {
      free = free;
      least = λ n w. elim (cases_lt (n / 8) k) [
        | inl below ↦
            let m : n % 8 ≡ s = w.own.mine in
            let e : 8 * (n / 8) + s ≡ n = omega arith in
            let t = taken (n / 8) below (subst (λ x. IsOwn s x) (sym e) w.own) in
            absurd (t.2 (w.free t.0 (subst (λ x. f t.0 ≡ Some (Associated x)) e (i.held (n / 8) t.0 t.1))))
        | inr above ↦ (let m : n % 8 ≡ s = w.own.mine in omega arith)
      ];
    }

pub full_from : (es : List (List ℕ × Known)) → IsDistinct same_address (keys_of es) → 512 ≤ length es → IsFull (λ a. lookup (same_address a) es)
full_from es d l =
    record {
      stations = keys_of es;
      apart = d;
      known = λ q h. is_some-lookup (same_address q) es ∙ h;
      many = rw (length-keys_of es) l;
    }

pub full_length : (es : List (List ℕ × Known)) → IsFull (λ a. lookup (same_address a) es) → 512 ≤ length es
full_length es w = (let x = length-le_from_keys nat_list_eq_equiv w.stations es w.apart w.known in let y = w.many in omega arith)
