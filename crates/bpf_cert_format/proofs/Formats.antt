-- Matching readers and spellings, and how they are combined.
use Rattle.std.proofs.Common.{◌≡◌, ℕ, zero, suc, ◌+◌, ◌<◌, Bool, true, false, cond, List, [], ◌∷◌, ◌++◌, length, get_or, take, drop, Option, Some, None, refl, sym, ap, subst, ◌∙◌, append_assoc, arith, inl, inr, ◌⊎◌}
use Rattle.std.specs.List.{flat_map, AllByRecursion}
use Rattle.std.proofs.lemmas.List.Concat.{flat_map-cons}
use Rattle.std.proofs.lemmas.List.{get_or-drop, get_or-take, get_or_past, length-take}
use Rattle.std.proofs.lemmas.Bool.{cases_lt}
use Rattle.bpf_cert_format.specs.Reading.{◌>>=◌, Reader, chained, read_as, only_if, many}

abbrev pub IsBytes : List ℕ → Type 0
IsBytes bytes = (i : ℕ) → get_or bytes i 0 < 256

pub IsBytes-drop : (n : ℕ) (bytes : List ℕ) → IsBytes bytes → IsBytes (drop n bytes)
IsBytes-drop n bytes h i = rw get_or-drop (h (n + i))

pub IsBytes-take : (n : ℕ) (bytes : List ℕ) → IsBytes bytes → IsBytes (take n bytes)
IsBytes-take n bytes h i =
    elim (cases_lt i n) [
      | inl lt ↦ rw (get_or-take n bytes i 0 lt) (h i)
      | inr le ↦ rw (get_or_past (take n bytes) i 0 (omega (arith, length-take n bytes))) (omega arith)
    ]

pub IsBytes-rest : (b : ℕ) (bytes : List ℕ) → IsBytes (b ∷ bytes) → IsBytes bytes
IsBytes-rest b bytes h i = h (suc i)

-- the value of a step that gave one
pub bind_some : {A B : Type 0} (r : Option A) (f : A → Option B) (y : B) → (r >>= f) ≡ Some y → (x : A) × (r ≡ Some x) × (f x ≡ Some y)
bind_some (Some x) f y e = (x, refl, e)
bind_some None f y e = absurd cc

-- a passed test
pub guard_some : {A : Type 0} (b : Bool) (x y : A) → cond b (Some x) None ≡ Some y → (b ≡ true) × (x ≡ y)
guard_some true x y e = (refl, cc)
guard_some false x y e = absurd cc

-- the outcome of a choice
pub chosen : {A : Type 0} (b : Bool) (x y z : A) → cond b x y ≡ z → ((b ≡ true) × (x ≡ z)) ⊎ ((b ≡ false) × (y ≡ z))
chosen true x y z e = inl (refl, e)
chosen false x y z e = inr (refl, e)

abbrev pub found : {A : Type 0} → A → Option A
found x = Some x

pub some_is : {A : Type 0} (x y : A) → found x ≡ found y → x ≡ y
some_is x y e = cc

-- what a reader took from the front
pub record Takes (bytes text rest : List ℕ) : Type 0 where
  pub parts : bytes ≡ text ++ rest
  pub rest_fits : IsBytes rest

pub Takes-then : (a x b y c : List ℕ) → Takes a x b → Takes b y c → Takes a (x ++ y) c
Takes-then a x b y c p q = record { parts = p.parts ∙ ap (λ (t : List ℕ). x ++ t) q.parts ∙ sym (append_assoc x y c); rest_fits = q.rest_fits }

-- what is read is spelled that way, and what is spelled that way is read
pub record IsFormat (A : Type 0) (spell : A → List ℕ) (Fits : A → Type 0) (r : Reader A) : Type 0 where
  pub takes : (bytes : List ℕ) (x : A × List ℕ) → IsBytes bytes → r bytes ≡ Some x → Takes bytes (spell x.0) x.1 × Fits x.0
  pub again : (x : A) (rest : List ℕ) → Fits x → r (spell x ++ rest) ≡ Some (x, rest)

module _ (A B : Type 0) (sa : A → List ℕ) (Fa : A → Type 0) (ra : Reader A) where
  -- the second may depend on the first
  pub chained_format : (sb : A → B → List ℕ) (Fb : A → B → Type 0) (rb : A → Reader B) → IsFormat A sa Fa ra →
      ((x : A) → Fa x → IsFormat B (sb x) (Fb x) (rb x)) →
      IsFormat (A × B) (λ p. sa p.0 ++ sb p.0 p.1) (λ p. Fa p.0 × Fb p.0 p.1) (chained ra rb)
  chained_format sb Fb rb f g = record {
    takes = λ bytes x fits e.
        let a = bind_some (ra bytes) (λ x. rb x.0 x.1 >>= λ y. Some ((x.0, y.0), y.1)) x e in
        let b = bind_some (rb a.0.0 a.0.1) (λ y. Some ((a.0.0, y.0), y.1)) x a.2 in
        let t = f.takes bytes a.0 fits a.1 in
        let u = (g a.0.0 t.1).takes a.0.1 b.0 t.0.rest_fits b.1 in
        let made : (A × B) × List ℕ = ((a.0.0, b.0.0), b.0.1) in
        subst (λ (y : (A × B) × List ℕ). Takes bytes (sa y.0.0 ++ sb y.0.0 y.0.1) y.1 × (Fa y.0.0 × Fb y.0.0 y.0.1)) (some_is made x b.2)
        (Takes-then bytes (sa a.0.0) a.0.1 (sb a.0.0 b.0.0) b.0.1 t.0 u.0, (t.1, u.1));
    again = λ p rest fits.
        let regrouped : (sa p.0 ++ sb p.0 p.1) ++ rest ≡ sa p.0 ++ (sb p.0 p.1 ++ rest) = append_assoc (sa p.0) (sb p.0 p.1) rest in
        ap (chained ra rb) regrouped
        ∙ ap (λ (o : Option (A × List ℕ)). o >>= λ x. rb x.0 x.1 >>= λ y. Some ((x.0, y.0), y.1)) (f.again p.0 (sb p.0 p.1 ++ rest) fits.0)
        ∙ ap (λ (o : Option (B × List ℕ)). o >>= λ y. Some ((p.0, y.0), y.1)) ((g p.0 fits.0).again p.1 rest fits.1);
  }

  -- the same value in another form
  pub read_as_format : (sb : B → List ℕ) (Fb : B → Type 0) (f : A → B) → ((x : A) → Fa x → (sb (f x) ≡ sa x) × Fb (f x)) →
      ((y : B) → Fb y → (x : A) × Fa x × (f x ≡ y)) → IsFormat A sa Fa ra → IsFormat B sb Fb (read_as f ra)
  read_as_format sb Fb f shape back g = record {
    takes = λ bytes x fits e.
        let a = bind_some (ra bytes) (λ x. Some (f x.0, x.1)) x e in
        let t = g.takes bytes a.0 fits a.1 in
        let s = shape a.0.0 t.1 in
        let made : B × List ℕ = (f a.0.0, a.0.1) in
        subst (λ (y : B × List ℕ). Takes bytes (sb y.0) y.1 × Fb y.0) (some_is made x a.2) (subst (λ (w : List ℕ). Takes bytes w a.0.1) (sym s.0) t.0, s.1);
    again = λ y rest fits.
        let b = back y fits in
        let same : sb y ≡ sa b.0 = ap sb (sym b.2) ∙ (shape b.0 b.1).0 in
        ap (λ (w : List ℕ). read_as f ra (w ++ rest)) same
        ∙ ap (λ (o : Option (A × List ℕ)). o >>= λ x. Some (f x.0, x.1)) (g.again b.0 rest b.1)
        ∙ ap (λ (z : B). found (z, rest)) b.2;
  }

module _ (A : Type 0) (s : A → List ℕ) (F : A → Type 0) (r : Reader A) where
  -- only if it passes a test
  pub only_if_format : (p : A → Bool) → IsFormat A s F r → IsFormat A s (λ x. F x × (p x ≡ true)) (only_if p r)
  only_if_format p h = record {
    takes = λ bytes x fits e.
        let a = bind_some (r bytes) (λ x. cond (p x.0) (Some x) None) x e in
        let g = guard_some (p a.0.0) a.0 x a.2 in
        let t = h.takes bytes a.0 fits a.1 in
        subst (λ (y : A × List ℕ). Takes bytes (s y.0) y.1 × (F y.0 × (p y.0 ≡ true))) g.1 (t.0, (t.1, g.0));
    again = λ x rest fits.
        ap (λ (o : Option (A × List ℕ)). o >>= λ x. cond (p x.0) (Some x) None) (h.again x rest fits.0)
        ∙ ap (λ (b : Bool). cond b (found (x, rest)) None) fits.1;
  }

  many_takes : IsFormat A s F r → (n : ℕ) (bytes : List ℕ) (x : List A × List ℕ) → IsBytes bytes → many r n bytes ≡ Some x →
      Takes bytes (flat_map s x.0) x.1 × (AllByRecursion F x.0 × (length x.0 ≡ n))
  unfolding many
  many_takes h zero bytes x fits e =
      let made : List A × List ℕ = ([], bytes) in
      subst (λ (y : List A × List ℕ). Takes bytes (flat_map s y.0) y.1 × (AllByRecursion F y.0 × (length y.0 ≡ 0))) (some_is made x e)
      (record { parts = refl; rest_fits = fits }, (tt, refl))
  many_takes h (suc n) bytes x fits e =
      let a = bind_some (r bytes) (λ x. many r n x.1 >>= λ y. Some (x.0 ∷ y.0, y.1)) x e in
      let b = bind_some (many r n a.0.1) (λ y. Some (a.0.0 ∷ y.0, y.1)) x a.2 in
      let t = h.takes bytes a.0 fits a.1 in
      let u = many_takes h n a.0.1 b.0 t.0.rest_fits b.1 in
      let made : List A × List ℕ = (a.0.0 ∷ b.0.0, b.0.1) in
      let both = Takes-then bytes (s a.0.0) a.0.1 (flat_map s b.0.0) b.0.1 t.0 u.0 in
      let all : Takes bytes (flat_map s (a.0.0 ∷ b.0.0)) b.0.1 = subst (λ (w : List ℕ). Takes bytes w b.0.1) (sym (flat_map-cons s a.0.0 b.0.0)) both in
      let len : length (a.0.0 ∷ b.0.0) ≡ suc n = let k = u.1.1 in omega (arith, k) in
      subst (λ (y : List A × List ℕ). Takes bytes (flat_map s y.0) y.1 × (AllByRecursion F y.0 × (length y.0 ≡ suc n))) (some_is made x b.2)
      (all, ((t.1, u.1.0), len))

  many_again : IsFormat A s F r → (n : ℕ) (xs : List A) (rest : List ℕ) → AllByRecursion F xs → length xs ≡ n → many r n (flat_map s xs ++ rest) ≡ Some (xs, rest)
  unfolding many
  many_again h zero [] rest fits e = refl
  many_again h (suc n) [] rest fits e = absurd (omega (arith, e))
  many_again h zero (x ∷ xs) rest fits e = absurd (omega (arith, e))
  many_again h (suc n) (x ∷ xs) rest fits e =
      let len : length xs ≡ n = omega (arith, e) in
      let regrouped : flat_map s (x ∷ xs) ++ rest ≡ s x ++ (flat_map s xs ++ rest) =
      ap (λ (w : List ℕ). w ++ rest) (flat_map-cons s x xs) ∙ append_assoc (s x) (flat_map s xs) rest in
      ap (many r (suc n)) regrouped
      ∙ ap (λ (o : Option (A × List ℕ)). o >>= λ x. many r n x.1 >>= λ y. Some (x.0 ∷ y.0, y.1)) (h.again x (flat_map s xs ++ rest) fits.0)
      ∙ ap (λ (o : Option (List A × List ℕ)). o >>= λ y. Some (x ∷ y.0, y.1)) (many_again h n xs rest fits.1 len)

  -- n of them, one after the other
  pub many_format : (n : ℕ) → IsFormat A s F r → IsFormat (List A) (flat_map s) (λ xs. AllByRecursion F xs × (length xs ≡ n)) (many r n)
  many_format n h = record {
    takes = λ bytes x fits e. many_takes h n bytes x fits e;
    again = λ xs rest fits. many_again h n xs rest fits.0 fits.1;
  }
