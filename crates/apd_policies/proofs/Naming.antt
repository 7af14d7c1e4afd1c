-- What the packets of a capture name, one after another.
use Rattle.std.proofs.Common.{◌≡◌, ◌≢◌, ◌∙◌, ℕ, Bool, true, false, if◌then◌else◌, List, [], ◌∷◌, ◌++◌, Option, Some, None, refl, sym, ap, subst, append_assoc, append-nil}
use Rattle.std.specs.List.{All}
use Rattle.std.specs.Option.{option_to_list}
use Rattle.std.specs.Str.{bytes_eq}
use Rattle.std.proofs.lemmas.List.Concat.{flat_map-cons}
use Rattle.std.proofs.lemmas.List.Elements.{All-push, All-nil, Contains-push, Contains-append_left}
use Rattle.std.proofs.lemmas.Slice.Eq.{bytes_eq-Decides}
use Rattle.capture.specs.Packets.{Seen}
use Rattle.apd_policies.specs.Chosen.{AreNamed, named_with, point_in, points_of}
use Rattle.apd_policies.specs.declared.frames.chosen.Named.{Named}
use Rattle.apd_policies.specs.declared.frames.chosen.Named.TheVariants.{NoOne, One, Several}

-- what is named after these packets, too
abbrev pub named_from : Named → List Seen → Named
named_from n [] = n
named_from n (packet ∷ packets) = named_from (named_with n (point_in packet.frame)) packets

module _ (points : List (List ℕ)) (p : List ℕ) where
  first : points ≡ [] → AreNamed (points ++ p ∷ []) (One p)
  first none =
      let P : List (List ℕ) → Type 0 = λ l. All (λ a. a ≡ p) l in
      (Contains-push points p, All-push (λ a. a ≡ p) points p (subst P (sym none) (All-nil (λ a. a ≡ p))) refl)

  second : (a : List ℕ) (same : Bool) → (same ≡ true → a ≡ p) → (a ≡ p → same ≡ true) → AreNamed points (One a) → AreNamed (points ++ p ∷ []) (if same then One a else Several)
  second a true is not named =
      (Contains-append_left points (p ∷ []) a named.0, All-push (λ b. b ≡ a) points p named.1 (sym (is refl)))
  second a false is not named =
      let other : a ≢ p = λ e. let bad : false ≡ true = not e in cc in
      (a, p, Contains-append_left points (p ∷ []) a named.0, Contains-push points p, other)

  still : AreNamed points Several → AreNamed (points ++ p ∷ []) Several
  still (a, b, has_a, has_b, other) = (a, b, Contains-append_left points (p ∷ []) a has_a, Contains-append_left points (p ∷ []) b has_b, other)

AreNamed-with : (points : List (List ℕ)) (n : Named) (o : Option (List ℕ)) → AreNamed points n → AreNamed (points ++ option_to_list o) (named_with n o)
AreNamed-with points NoOne None named = let P : List (List ℕ) → Type 0 = λ l. AreNamed l NoOne in subst P (sym (append-nil points)) named
AreNamed-with points (One a) None named = let P : List (List ℕ) → Type 0 = λ l. AreNamed l (One a) in subst P (sym (append-nil points)) named
AreNamed-with points Several None named = let P : List (List ℕ) → Type 0 = λ l. AreNamed l Several in subst P (sym (append-nil points)) named
AreNamed-with points NoOne (Some p) named = first points p named
AreNamed-with points (One a) (Some p) named = second points p a (bytes_eq a p) (bytes_eq-Decides a p).0 (bytes_eq-Decides a p).1 named
AreNamed-with points Several (Some p) named = still points p named

pub AreNamed-from : (packets : List Seen) (points : List (List ℕ)) (n : Named) → AreNamed points n → AreNamed (points ++ points_of packets) (named_from n packets)
AreNamed-from [] points n named = let P : List (List ℕ) → Type 0 = λ l. AreNamed l n in subst P (sym (append-nil points)) named
AreNamed-from (packet ∷ packets) points n named =
    let more = option_to_list (point_in packet.frame) in
    let last = named_with n (point_in packet.frame) in
    let P : List (List ℕ) → Type 0 = λ l. AreNamed l (named_from last packets) in
    subst P (append_assoc points more (points_of packets) ∙ ap (λ l. points ++ l) (sym (flat_map-cons (λ (s : Seen). option_to_list (point_in s.frame)) packet packets)))
    (AreNamed-from packets (points ++ more) last (AreNamed-with points n (point_in packet.frame) named))
