-- Lines of sums, part by part.
use Rattle.std.proofs.Common.{◌≡◌, ◌∙◌, ◌++◌, ℕ, List, ap}
use Rattle.apd_eval.specs.Sums.{judged_line, json_judged}

pub same_line : {a a' b b' : ℕ} {c c' d d' : List ℕ} → a ≡ a' → b ≡ b' → c ≡ c' → d ≡ d' → judged_line a b c d ≡ judged_line a' b' c' d'
same_line {a} {a'} {b} {b'} {c} {c'} {d} {d'} e f g h =
    ap (λ x. judged_line x b c d) e ∙ (ap (λ x. judged_line a' x c d) f ∙ (ap (λ x. judged_line a' b' x d) g ∙ ap (λ x. judged_line a' b' c' x) h))

-- the same in JSON
pub same_json : {a a' b b' : ℕ} {c c' d d' : List ℕ} → a ≡ a' → b ≡ b' → c ≡ c' → d ≡ d' → json_judged a b c d ≡ json_judged a' b' c' d'
same_json {a} {a'} {b} {b'} {c} {c'} {d} {d'} e f g h =
    ap (λ x. json_judged x b c d) e ∙ (ap (λ x. json_judged a' x c d) f ∙ (ap (λ x. json_judged a' b' x d) g ∙ ap (λ x. json_judged a' b' c' x) h))

-- one text after another
pub same_both : {a a' b b' : List ℕ} → a ≡ a' → b ≡ b' → a ++ b ≡ a' ++ b'
same_both {a} {a'} {b} {b'} e f = ap (λ x. x ++ b) e ∙ ap (λ x. a' ++ x) f
