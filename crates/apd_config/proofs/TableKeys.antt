-- What a `Table` finds and lists, by the definitions on its members.
use Rattle.std.proofs.Common.{◌≡◌, ℕ, Bool, true, false, cond, not, List, [], ◌∷◌, Option, Some, None, option_map, Bor, String, Global, string_bytes, refl, ap, sym, ◌∙◌, inl, inr, arith}
use Rattle.std.specs.List.{find, list_all, Contains}
use Rattle.std.specs.Map.{keys_of}
use Rattle.std.proofs.lemmas.Bool.{cases_Bool}
use Rattle.std.proofs.lemmas.List.Elements.{Contains-append_right}
use Rattle.std.proofs.lemmas.Option.{same_Some}
use Rattle.toml.specs.Data.{Members}
use Rattle.toml.specs.View.{members_view}
use Rattle.toml.specs.declared.value.Value.{Value}
use Rattle.apd_config.specs.Meaning.{keys_in}
use Rattle.apd_config.specs.Text.{HasUnknownKey}

abbrev pub Entry : Type 0
Entry = String Global × Value

-- the texts of the references that a search found
text_of_found : (r : Option (Bor (String Global))) → option_map (λ k. string_bytes k.now) r ≡ option_map string_bytes (option_map (λ k. k.now) r)
text_of_found None = refl
text_of_found (Some k) = refl

bytes_of_cond : (b : Bool) (k : String Global) (o : Option (String Global)) (p : Option (List ℕ)) → option_map string_bytes o ≡ p → option_map string_bytes (cond b (Some k) o) ≡ cond b (Some (string_bytes k)) p
bytes_of_cond true k o p e = refl
bytes_of_cond false k o p e = e

-- the first of a map's keys that passes is the first of the table's texts that does
find-keys : (p : List ℕ → Bool) (es : List Entry) → option_map string_bytes (find (λ k. p (string_bytes k)) (keys_of es)) ≡ find p (keys_in (members_view es))
find-keys p [] = refl
find-keys p (e ∷ es) = bytes_of_cond (p (string_bytes e.0)) e.0 _ _ (find-keys p es)

pub find_key : (p : List ℕ → Bool) (r : Option (Bor (String Global))) (es : List Entry) → option_map (λ k. k.now) r ≡ find (λ k. p (string_bytes k)) (keys_of es)
    → option_map (λ k. string_bytes k.now) r ≡ find p (keys_in (members_view es))
find_key p r es e = text_of_found r ∙ ap (option_map string_bytes) e ∙ find-keys p es

-- no key fails the test
pub all_from_none : (p : List ℕ → Bool) (xs : List (List ℕ)) → find (λ x. not (p x)) xs ≡ None → list_all p xs ≡ true
all_from_none p [] e = refl
all_from_none p (x ∷ xs) e =
    elim (cases_Bool (p x)) [
      | inl holds ↦ rw holds (all_from_none p xs (rw holds at e))
      | inr fails ↦ let bad : Some x ≡ None = rw fails at e in cc
    ]

pub found_fails : (p : List ℕ → Bool) (xs : List (List ℕ)) (x : List ℕ) → find (λ x. not (p x)) xs ≡ Some x → Contains xs x × (p x ≡ false)
found_fails p [] x e = cc
found_fails p (y ∷ xs) x e =
    elim (cases_Bool (p y)) [
      | inl holds ↦
          let (there, failing) = found_fails p xs x (rw holds at e) in (Contains-append_right (y ∷ []) xs x there, failing)
      | inr fails ↦
          let first : y ≡ x = same_Some _ _ (rw fails at e) in
          (rw (← first) (0, omega arith, refl), rw (← first) fails)
    ]

pub keys_known : (p : List ℕ → Bool) (r : Option (Bor (String Global))) (t : Members) → option_map (λ k. string_bytes k.now) r ≡ find (λ k. not (p k)) (keys_in t) → r ≡ None → list_all p (keys_in t) ≡ true
keys_known p r t e none = all_from_none p (keys_in t) (sym e ∙ ap (option_map (λ k. string_bytes k.now)) none)

pub key_unknown : (p : List ℕ → Bool) (r : Option (Bor (String Global))) (t : Members) (k : Bor (String Global)) (text : List ℕ) → option_map (λ k. string_bytes k.now) r ≡ find (λ k. not (p k)) (keys_in t) → r ≡ Some k → text ≡ string_bytes k.now
    → HasUnknownKey t p text
key_unknown p r t k text e some same =
    let (there, fails) = found_fails p (keys_in t) (string_bytes k.now) (sym e ∙ ap (option_map (λ k. string_bytes k.now)) some) in
    record { there = rw same there; unknown = rw same fails }
