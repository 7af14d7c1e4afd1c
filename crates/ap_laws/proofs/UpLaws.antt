-- What is passed up of one station for one TID.
use Rattle.std.proofs.Common.{◌≡◌, ◌≢◌, ℕ, ◌==◌, ◌&&◌, ⊎_elim, Bool, true, false, None, Some, List, [], ◌∷◌, ◌++◌, refl, sym, ap, ◌∙◌, subst, append_assoc}
use Rattle.std.specs.Prelude.{Contains, if◌then◌else◌}
use Rattle.std.proofs.Math.Bool.{and-false}
use Rattle.std.proofs.lemmas.Bool.{eq-eqb, ne_eqb}
use Rattle.std.proofs.lemmas.List.Elements.{Contains-append_left, Contains-append_right, Contains-push}
use Rattle.assoc.specs.Standings.{same_address}
use Rattle.assoc.proofs.Tables.{address_tells}
use Rattle.ap_model.specs.declared.event.Out.{Out}
use Rattle.ap_model.specs.declared.event.Out.TheVariants as out
use Rattle.ap_model.specs.declared.event.Up.{Up}
use Rattle.ap_model.specs.Readings.{Held}
use Rattle.ap_model.specs.Agreements.{ups, up_held}
use Rattle.ap_laws.specs.InOrder.{is_tid, is_up_of, ups_of}
use Rattle.ap_laws.proofs.Forms.{NoUp}

-- ---- lists

chosen : (b : Bool) (o : Out) (xs ys : List Out) → (if b then o ∷ xs else xs) ++ ys ≡ (if b then o ∷ (xs ++ ys) else (xs ++ ys))
chosen true o xs ys = refl
chosen false o xs ys = refl

pub ups_of-append : (a : List ℕ) (tid : ℕ) (xs ys : List Out) → ups_of a tid (xs ++ ys) ≡ ups_of a tid xs ++ ups_of a tid ys
ups_of-append a tid [] ys = refl
ups_of-append a tid (o ∷ xs) ys =
    let ih = ups_of-append a tid xs ys in
    ap (λ zs. if is_up_of a tid o then o ∷ zs else zs) ih ∙ sym (chosen (is_up_of a tid o) o (ups_of a tid xs) (ups_of a tid ys))

skipped : (b : Bool) (o : Out) (xs : List Out) → b ≡ false → xs ≡ [] → (if b then o ∷ xs else xs) ≡ []
skipped b o xs out none = ap (λ x. if x then o ∷ xs else xs) out ∙ none

pub none_of : (a : List ℕ) (tid : ℕ) (outs : List Out) → ((d : Up) → Contains outs (out.Up d) → is_up_of a tid (out.Up d) ≡ false) → ups_of a tid outs ≡ []
none_of a tid [] others = refl
none_of a tid (o ∷ outs) others =
    skipped (is_up_of a tid o) o (ups_of a tid outs) (first o (λ d e. let P : Out → Type 0 = λ x. Contains (o ∷ outs) x in others d (subst P e (Contains-append_left (o ∷ []) outs o (Contains-push [] o)))))
    (none_of a tid outs (λ d inside. others d (Contains-append_right (o ∷ []) outs (out.Up d) inside)))
  where
    first : (o : Out) → ((d : Up) → o ≡ out.Up d → is_up_of a tid (out.Up d) ≡ false) → is_up_of a tid o ≡ false
    first (out.Up d) f = f d refl
    first (out.Send bytes) f = refl
    first (out.Note n) f = refl

pub none_of_no_up : (a : List ℕ) (tid : ℕ) (outs : List Out) → NoUp outs → ups_of a tid outs ≡ []
none_of_no_up a tid outs none = none_of a tid outs (λ d inside. absurd (none d inside))

-- ---- tests

pub other_station : (a : List ℕ) (tid : ℕ) (d : Up) → d.source ≢ a → is_up_of a tid (out.Up d) ≡ false
other_station a tid d ne =
    ⊎_elim
    (λ same. absurd (ne (sym same.1)))
    (λ other. ap (λ b. b && is_tid tid d.tid) other.0)
    (address_tells a d.source)

pub no_tid : (a : List ℕ) (tid : ℕ) (d : Up) → d.tid ≡ None → is_up_of a tid (out.Up d) ≡ false
no_tid a tid d none = ap (λ t. same_address a d.source && is_tid tid t) none ∙ and-false (same_address a d.source)

pub other_tid : (a : List ℕ) (tid t : ℕ) (d : Up) → d.tid ≡ Some t → t ≢ tid → is_up_of a tid (out.Up d) ≡ false
other_tid a tid t d is ne =
    ap (λ x. same_address a d.source && is_tid tid x) is ∙ ap (λ b. same_address a d.source && b) (ne_eqb tid t (λ e. ne (sym e))) ∙ and-false (same_address a d.source)

pub its_own : (a : List ℕ) (tid : ℕ) (d : Up) → d.source ≡ a → d.tid ≡ Some tid → is_up_of a tid (out.Up d) ≡ true
its_own a tid d source told =
    ⊎_elim
    (λ same. ap (λ x. same_address a d.source && is_tid tid x) told ∙ ap (λ b. b && (tid == tid)) same.0 ∙ eq-eqb tid tid refl)
    (λ other. absurd (other.1 (sym source)))
    (address_tells a d.source)

-- ---- what windows pass up

own_held : (a : List ℕ) (tid k : ℕ) (h : Held) → ups_of a tid (up_held a tid k h) ≡ up_held a tid k h
own_held a tid k None = refl
own_held a tid k (Some h) =
    let d : Up = record { source = a; destination = h.0; tid = Some tid; number = k; mark = h.1; body = h.2 } in
    ap (λ b. if b then out.Up d ∷ [] else []) (its_own a tid d refl refl)

pub own_ups : (a : List ℕ) (tid : ℕ) (passed : List (ℕ × Held)) → ups_of a tid (ups a tid passed) ≡ ups a tid passed
own_ups a tid [] = refl
own_ups a tid (p ∷ passed) =
    let ih = own_ups a tid passed in
    ups_of-append a tid (up_held a tid p.0 p.1) (ups a tid passed) ∙ ap (λ xs. xs ++ ups_of a tid (ups a tid passed)) (own_held a tid p.0 p.1) ∙ ap (λ xs. up_held a tid p.0 p.1 ++ xs) ih

pub ups-append : (a : List ℕ) (tid : ℕ) (xs ys : List (ℕ × Held)) → ups a tid (xs ++ ys) ≡ ups a tid xs ++ ups a tid ys
ups-append a tid [] ys = refl
ups-append a tid (p ∷ xs) ys =
    let ih = ups-append a tid xs ys in
    ap (λ zs. up_held a tid p.0 p.1 ++ zs) ih ∙ sym (append_assoc (up_held a tid p.0 p.1) (ups a tid xs) (ups a tid ys))
