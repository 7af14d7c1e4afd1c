-- The options of an interface, with the first one split off.
use Rattle.std.proofs.Common.{◌≡◌, ◌≢◌, ◌≤◌, ◌<◌, ◌==◌, ◌||◌, ℕ, zero, suc, List, length, drop, slice_index, nat_lt, Some, None, if◌then◌else◌, Option, refl, sym, ◌∙◌, ap, arith, rules, tests, length-drop}
use Rattle.std.proofs.lemmas.Bool.Decides.{nat_tests}
use Rattle.capture.specs.declared.fields.Endian.{Endian}
use Rattle.capture.specs.Fields.{number_at}
use Rattle.capture.specs.Interfaces.{padded, resolution_in}

-- what follows the first option
abbrev after : Endian → List ℕ → List ℕ
after endian options = drop (padded (number_at endian 2 2 options)) (drop 4 options)

-- what the first option says, or `later` if nothing
abbrev says : Endian → List ℕ → Option ℕ → Option ℕ
says endian options later =
    (if nat_lt (length options) 4 || number_at endian 2 0 options == 0 then Some 6 else
    (if nat_lt (length (drop 4 options)) (padded (number_at endian 2 2 options)) then None else
    (if number_at endian 2 0 options == 9 then
    (if number_at endian 2 2 options == 1 then Some (slice_index options 4) else None) else
    later)))

step : (n : ℕ) (endian : Endian) (options : List ℕ) → resolution_in (suc n) endian options ≡ says endian options (resolution_in n endian (after endian options))
unfolding resolution_in
step n endian options = refl

none : (endian : Endian) (options : List ℕ) → resolution_in zero endian options ≡ Some 6
unfolding resolution_in
none endian options = refl

says_few : (endian : Endian) (options : List ℕ) (later : Option ℕ) → length options < 4 → says endian options later ≡ Some 6
says_few endian options later short = search (rules, tests, nat_tests)

pub few : (n : ℕ) (endian : Endian) (options : List ℕ) → length options < 4 → resolution_in n endian options ≡ Some 6
few zero endian options short = none endian options
few (suc n) endian options short = step n endian options ∙ says_few endian options (resolution_in n endian (after endian options)) short

after_short : (n : ℕ) (endian : Endian) (options : List ℕ) → length options ≤ suc n → length (after endian options) ≤ n
after_short n endian options short = omega (arith, length-drop 4 options, length-drop (padded (number_at endian 2 2 options)) (drop 4 options))

-- as many options as bytes are enough
enough : (n m : ℕ) (endian : Endian) (options : List ℕ) → length options ≤ n → length options ≤ m → resolution_in n endian options ≡ resolution_in m endian options
enough zero m endian options short long = none endian options ∙ sym (few m endian options (omega arith))
enough (suc n) zero endian options long short = few (suc n) endian options (omega arith) ∙ sym (none endian options)
enough (suc n) (suc m) endian options long short =
    step n endian options ∙ ap (says endian options) (enough n m endian (after endian options) (after_short n endian options long) (after_short m endian options short)) ∙ sym (step m endian options)

stepped : (n : ℕ) (endian : Endian) (options : List ℕ) → 4 ≤ n → length options ≤ n → resolution_in n endian options ≡ says endian options (resolution_in (length (after endian options)) endian (after endian options))
stepped zero endian options some short = absurd (omega arith)
stepped (suc n) endian options some short =
    step n endian options ∙ ap (says endian options) (enough n (length (after endian options)) endian (after endian options) (after_short n endian options short) (omega arith))

pub first : (endian : Endian) (options : List ℕ) → 4 ≤ length options → resolution_in (length options) endian options ≡ says endian options (resolution_in (length (after endian options)) endian (after endian options))
first endian options some = stepped (length options) endian options some (omega arith)

says_later : (endian : Endian) (options : List ℕ) (later : Option ℕ) → 4 ≤ length options → number_at endian 2 0 options ≢ 0 → padded (number_at endian 2 2 options) ≤ length (drop 4 options)
    → number_at endian 2 0 options ≢ 9 → says endian options later ≡ later
says_later endian options later long code whole other = search (rules, tests, nat_tests)

-- an option that says nothing
pub next : (endian : Endian) (options rest : List ℕ) → 4 ≤ length options → number_at endian 2 0 options ≢ 0 → padded (number_at endian 2 2 options) ≤ length (drop 4 options)
    → number_at endian 2 0 options ≢ 9 → rest ≡ after endian options → resolution_in (length options) endian options ≡ resolution_in (length rest) endian rest
next endian options rest long code whole other follows =
    rw follows (first endian options long ∙ says_later endian options _ long code whole other)

module _ (endian : Endian) (options : List ℕ) (long : 4 ≤ length options) where
  pub ends : number_at endian 2 0 options ≡ 0 → resolution_in (length options) endian options ≡ Some 6
  ends code = first endian options long ∙ search (rules, tests, nat_tests)

  pub cut : number_at endian 2 0 options ≢ 0 → length (drop 4 options) < padded (number_at endian 2 2 options) → resolution_in (length options) endian options ≡ None
  cut code short = first endian options long ∙ search (rules, tests, nat_tests)

  module _ (code : number_at endian 2 0 options ≡ 9) (whole : padded (number_at endian 2 2 options) ≤ length (drop 4 options)) where
    -- the first option is the resolution
    pub found : number_at endian 2 2 options ≡ 1 → resolution_in (length options) endian options ≡ Some (slice_index options 4)
    found one = first endian options long ∙ search (rules, tests, nat_tests)

    -- it isn't one byte
    pub wrong : number_at endian 2 2 options ≢ 1 → resolution_in (length options) endian options ≡ None
    wrong other = first endian options long ∙ search (rules, tests, nat_tests)
