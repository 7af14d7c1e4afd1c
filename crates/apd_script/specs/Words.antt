-- The words of a line, and what single words spell.
use Rattle.std.specs.Borrow.{Bor}
use Rattle.std.specs.Prelude.{◌≡◌, ℕ, ◌==◌, ◌&&◌, ◌||◌, nat_lt, Bool, false, List, [], ◌∷◌, length, map, filter, Option, Some, None, if◌then◌else◌}
use Rattle.std.specs.List.{list_all, slice_split}
use Rattle.std.specs.Result.{result_ok}
use Rattle.std.specs.Str.{bytes_eq}
use Rattle.std.specs.Char.{is_ascii_digit}
use Rattle.std.specs.Str.Parse.{digits_value}
use Rattle.hex.specs.Hex.{decode_sized}
use Rattle.bpf_regions.specs.Hooks.{name_of}
use Rattle.bpf_regions.specs.declared.hooks.Hook.{Hook}
use Rattle.bpf_regions.specs.declared.hooks.Hook.TheVariants.{Association, Addba, Data}

-- whether it has a byte
abbrev pub is_some_text : List ℕ → Bool
is_some_text t = nat_lt 0 (length t)

-- a word, if it has a byte
abbrev pub if_some : List ℕ → List (List ℕ)
if_some t = filter is_some_text (t ∷ [])

-- the words of a line, separated by one or more spaces, which may also precede and follow them
abbrev pub words : List ℕ → List (List ℕ)
words line = filter is_some_text (slice_split (λ c. c == 32) line)

-- the first word of a text, and the rest; `None` if the text has no word
abbrev pub BeginsWith : List ℕ → Option (Bor (List ℕ) × Bor (List ℕ)) → Type 0
BeginsWith text None = words text ≡ []
BeginsWith text (Some (word, rest)) = words text ≡ word.now ∷ words rest.now

-- the texts that references point to
abbrev pub texts : List (Bor (List ℕ)) → List (List ℕ)
texts words = map (λ w. w.now) words

-- a tab or a carriage return, which no line may have
abbrev pub is_forbidden : ℕ → Bool
is_forbidden c = c == 9 || c == 13

-- a comment's first word begins with `#`
abbrev pub begins_comment : List ℕ → Bool
begins_comment [] = false
begins_comment (c ∷ cs) = c == 35

-- one or more decimal digits, and nothing else; leading zeros are allowed
abbrev pub is_decimal : List ℕ → Bool
is_decimal t = is_some_text t && list_all is_ascii_digit t

-- the number that decimal digits spell, if it is below a limit
abbrev pub number_below : ℕ → List ℕ → Option ℕ
number_below limit t =
    (if is_decimal t && nat_lt (digits_value 10 t) limit then Some (digits_value 10 t) else None)

-- the six octets that twelve hex digits of either case spell
abbrev pub address : List ℕ → Option (List ℕ)
address t = result_ok (decode_sized t 6)

-- the hook with that name
abbrev pub hook_named : List ℕ → Option Hook
hook_named t =
    (if bytes_eq t (name_of Association) then Some Association else
    (if bytes_eq t (name_of Addba) then Some Addba else
    (if bytes_eq t (name_of Data) then Some Data else None)))
