-- Lists.
use Rattle.std.proofs.Common.{◌≡◌, ℕ, ◌+◌, ◌<◌, ◌≤◌, zero, suc, Some, None, List, [], ◌∷◌, ◌++◌, length, map, refl, sym, ap, ◌∙◌, arith, append_assoc, length-append, All}
use Rattle.std.specs.Prelude.{Contains, slice_index_or}
use Rattle.std.specs.Option.{option_map}
use Rattle.mac_frame.specs.Elements.{rates_text}
use Rattle.std.proofs.lemmas.List.{append-nil}
use Rattle.ap_model.specs.declared.event.Up.{Up}
use Rattle.ap_model.specs.declared.event.Out.{Out}
use Rattle.ap_model.specs.declared.event.Out.TheVariants as out
use Rattle.ap_model.specs.Readings.{Held}
use Rattle.ap_model.specs.Agreements.{ups, up_held}

pub length-rates_text : (rates : List ℕ) → length rates ≤ 8 → length (rates_text rates) ≤ 12
length-rates_text rates few = let e = ap length (append-nil rates) in omega arith

-- what is passed up with one more
pub ups-more : (a : List ℕ) (tid : ℕ) (xs : List (ℕ × Held)) (n : ℕ) (h : Held) → ups a tid (xs ++ (n, h) ∷ []) ≡ ups a tid xs ++ up_held a tid n h
ups-more a tid [] n h = append-nil (up_held a tid n h)
ups-more a tid (x ∷ xs) n h =
    ap (λ (t : List Out). up_held a tid x.0 x.1 ++ t) (ups-more a tid xs n h) ∙ sym (append_assoc (up_held a tid x.0 x.1) (ups a tid xs) (up_held a tid n h))

abbrev pub as_up : List ℕ → ℕ → ℕ → List ℕ × ℕ × List ℕ → Up
as_up a tid n h = record { source = a; destination = h.0; tid = Some tid; number = n; mark = h.1; body = h.2 }

pub held_up_is : (a : List ℕ) (tid n : ℕ) (h : Held) (u : Up) → Some u ≡ option_map (as_up a tid n) h → up_held a tid n h ≡ out.Up u ∷ []
held_up_is a tid n None u e = absurd (cc)
held_up_is a tid n (Some h) u e = let f : as_up a tid n h ≡ u = cc in ap (λ (x : Up). out.Up x ∷ []) f

pub none_up_is : (a : List ℕ) (tid n : ℕ) (h : Held) → None ≡ option_map (as_up a tid n) h → up_held a tid n h ≡ []
none_up_is a tid n None e = refl
none_up_is a tid n (Some h) e = absurd (cc)

-- the members of a list of images
module _ {X Y : Type 0} (f : X → Y) where
  one_later : (x : X) (xs : List X) (y : Y) → ((z : X) × Contains xs z × (f z ≡ y)) → (z : X) × Contains (x ∷ xs) z × (f z ≡ y)
  one_later x xs y g = (g.0, (suc g.1.0, omega (arith, g.1.1), g.1.2), g.2)

  image_at : (xs : List X) (y : Y) (n : ℕ) → n < length (map f xs) → slice_index_or (map f xs) n y ≡ y → (z : X) × Contains xs z × (f z ≡ y)
  image_at [] y n l e = absurd (omega arith)
  image_at (x ∷ xs) y zero l e = (x, (zero, omega arith, refl), e)
  image_at (x ∷ xs) y (suc n) l e = one_later x xs y (image_at xs y n (omega (arith, l)) e)

  -- each member is the image of an element
  pub image_of : (xs : List X) (y : Y) → Contains (map f xs) y → (z : X) × Contains xs z × (f z ≡ y)
  image_of xs y c = image_at xs y c.0 c.1 c.2

  into_image_at : (xs : List X) (x : X) (n : ℕ) → n < length xs → slice_index_or xs n x ≡ x → Contains (map f xs) (f x)
  into_image_at [] x n l e = absurd (omega arith)
  into_image_at (z ∷ xs) x zero l e = (zero, omega arith, ap f e)
  into_image_at (z ∷ xs) x (suc n) l e = let c = into_image_at xs x n (omega (arith, l)) e in (suc c.0, omega (arith, c.1), c.2)

  -- the image of each element is a member
  pub into_image : (xs : List X) (x : X) → Contains xs x → Contains (map f xs) (f x)
  into_image xs x c = into_image_at xs x c.0 c.1 c.2

pub middle : {X : Type 0} (P : X → Type 0) (xs ys : List X) (x : X) → All P (xs ++ x ∷ ys) → P x
middle P [] ys x h = h zero x (omega arith)
middle P (y ∷ xs) ys x h = middle P xs ys x (λ k d l. h (suc k) d (omega (arith, l)))

-- what is passed up so far
pub record Passing (a : List ℕ) (tid : ℕ) (all : List (ℕ × Held)) (old : List Out) (yielded rest : List (ℕ × Held)) (now : List Out) : Type 0 where
  pub parts : all ≡ yielded ++ rest
  pub outs : now ≡ old ++ ups a tid yielded
  pub few : length now ≤ length old + length yielded

pub passing_none : (a : List ℕ) (tid : ℕ) (all : List (ℕ × Held)) (old : List Out) → Passing a tid all old [] all old
passing_none a tid all old = record { parts = refl; outs = sym (append-nil old); few = omega arith }

pub passing_more : (a : List ℕ) (tid : ℕ) (all : List (ℕ × Held)) (old : List Out) (yielded rest rest2 : List (ℕ × Held)) (now now2 : List Out) (n : ℕ) (h : Held) →
    Passing a tid all old yielded rest now → rest ≡ (n, h) ∷ rest2 → now2 ≡ now ++ up_held a tid n h → length now2 ≤ length now + 1 →
    Passing a tid all old (yielded ++ (n, h) ∷ []) rest2 now2
passing_more a tid all old yielded rest rest2 now now2 n h p e f l =
    record {
      parts = p.parts ∙ ap (λ (t : List (ℕ × Held)). yielded ++ t) e ∙ sym (append_assoc yielded ((n, h) ∷ []) rest2);
      outs =
          f ∙ ap (λ (t : List Out). t ++ up_held a tid n h) p.outs ∙ append_assoc old (ups a tid yielded) (up_held a tid n h)
          ∙ ap (λ (t : List Out). old ++ t) (sym (ups-more a tid yielded n h));
      few = omega (arith, p.few, l, length-append yielded ((n, h) ∷ []));
    }
