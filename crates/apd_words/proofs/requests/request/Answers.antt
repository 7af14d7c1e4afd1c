use Rattle.std.proofs.Common.{◌≡◌, ◌∙◌, Bool, true, false, if◌then◌else◌, List, Option, Some, None, option_map, codes, refl, sym, ap, ap₂}
use Rattle.std.specs.Str.{bytes_eq}
use Rattle.std.proofs.lemmas.Option.{same_Some}
use Rattle.std.proofs.lemmas.Slice.Eq.{bytes_eq-Decides}
use Rattle.clap.specs.Matches.{found_of}
use Rattle.clap.specs.Walk.{Row, Text, rows_of}
use Rattle.apd_words.specs.Asked.{answers_to, command_wants, live_of, run_of, test_of, wanted_in}
use Rattle.apd_words.proofs.requests.request.Goals as goal

module _ {X A B : Type 0} (f : X → A × B) where
  both : (s : Option X) (a : A) (b : B) → Some a ≡ option_map (λ x. (f x).0) s → Some b ≡ option_map (λ p. p.1) (option_map f s) → option_map f s ≡ Some (a, b)
  both None a b d e = cc
  both (Some x) a b d e = ap₂ (λ (i : A) (j : B). Some (i, j)) (sym (same_Some _ _ d)) (sym (same_Some _ _ e))

where_false : (b : Bool) → (b ≡ true → ⊥) → b ≡ false
where_false true other = absurd (other refl)
where_false false other = refl

is_other : (name word : Text) → (name ≡ word → ⊥) → bytes_eq name word ≡ false
is_other name word other = where_false (bytes_eq name word) (λ e. other ((bytes_eq-Decides name word).0 e))

-- a command that runs no lines, and judges no cases, wants an answer
wants : (name : Text) (rows : List Row) → (name ≡ codes "run" → ⊥) → (name ≡ codes "live" → ⊥) → (name ≡ codes "test" → ⊥) → command_wants name rows ≡ answers_to name rows
wants name rows run live test =
    ap (λ b. (if b then run_of rows else (if bytes_eq name (codes "live") then live_of rows else (if bytes_eq name (codes "test") then test_of rows else answers_to name rows)))) (is_other name (codes "run") run)
    ∙ ap (λ b. (if b then live_of rows else (if bytes_eq name (codes "test") then test_of rows else answers_to name rows))) (is_other name (codes "live") live)
    ∙ ap (λ b. (if b then test_of rows else answers_to name rows)) (is_other name (codes "test") test)

pub returns-in_default-name : goal.returns-in_default-name
returns-in_default-name c =
    let found = both _ _ _ _ c.in-Some.ensures.name c.in-Some.ensures.rows in
    record { is = c.answer.ensures.is ∙ (sym (wants c.in-Some.name.now (rows_of (found_of c.in-Some.matches.now)) c.in_default-name.not-run c.in_default-name.not-live c.in_default-name.not-test) ∙ sym (ap wanted_in found)) }
