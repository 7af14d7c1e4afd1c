-- The number that a text names, within a limit.
use Rattle.std.proofs.Common.{◌≡◌, ℕ, Bool, true, false, Some, None, if◌then◌else◌, refl}
use Rattle.std.specs.Str.Parse.{digits_value, without_leading_plus}
use Rattle.clap.specs.Values.{IsUnsignedIn}
use Rattle.clap.specs.ValueTests.{is_unsigned_in}
use Rattle.clap.specs.Words.{Text}
use Rattle.clap.specs.declared.builder.value_parser.ValueParser.TheVariants.{Unsigned}
use Rattle.clap.proofs.ValueTestLemmas.{accepts-Accepts, Accepts-accepts}
use Rattle.apd_words.specs.Asked.{number_to}

where_true : (b : Bool) (n : ℕ) → b ≡ true → Some n ≡ (if b then Some n else None)
where_true true n e = refl
where_true false n e = cc

where_false : (b : Bool) (n : ℕ) → (b ≡ true → ⊥) → None ≡ (if b then Some n else None)
where_false true n h = absurd (h refl)
where_false false n h = refl

-- such a number, and a text that isn't one
pub names : (most : ℕ) (text : Text) → IsUnsignedIn 1 most text → Some (digits_value 10 (without_leading_plus text)) ≡ number_to most text
names most text h = where_true (is_unsigned_in 1 most text) _ (Accepts-accepts false (Unsigned 1 most) text h)

pub names_none : (most : ℕ) (text : Text) → (IsUnsignedIn 1 most text → ⊥) → None ≡ number_to most text
names_none most text h = where_false (is_unsigned_in 1 most text) _ (λ e. h (accepts-Accepts false (Unsigned 1 most) text e))
