-- The 32 bytes that tell a program about a station and its frame; numbers of two bytes are little-endian. The layout
-- is our own.
use Rattle.std.specs.Prelude.{ℕ, List, [], ◌∷◌, ◌++◌, Bool, true, false, Option, Some, None}
use Rattle.std.specs.Int.{w16, to_le_bytes}
use Rattle.bpf_regions.specs.declared.hooks.Hook.{Hook}
use Rattle.bpf_regions.specs.declared.hooks.Hook.TheVariants as hook
use Rattle.bpf_regions.specs.Hooks.{number_of}
use Rattle.assoc.specs.Standings.{Standing, state_of, aid_of}

-- two bytes, the low one first
abbrev pub word : ℕ → List ℕ
word n = to_le_bytes w16 n

-- 1 if it holds
abbrev pub flag : Bool → ℕ
flag true = 1
flag false = 0

-- bytes 18 to 31
abbrev pub unused : List ℕ
unused = 0 ∷ 0 ∷ 0 ∷ 0 ∷ 0 ∷ 0 ∷ 0 ∷ 0 ∷ 0 ∷ 0 ∷ 0 ∷ 0 ∷ 0 ∷ 0 ∷ []

-- bytes 0 to 5 the station, 6 the hook's number, 7 the number of the station's state, 8 and 9 its association identifier
-- or 0, 10 the TID or 255, 11 unused, 12 and 13, 14 and 15, 16 and 17 the hook's own three numbers
abbrev pub context : Hook → List ℕ → Standing → ℕ → ℕ → ℕ → ℕ → List ℕ
context asks station standing tid first second third =
    station ++ (number_of asks ∷ state_of standing ∷ (word (aid_of standing)
    ++ (tid ∷ 0 ∷ (word first ++ (word second ++ (word third ++ unused))))))

-- for a (re)association request: 12 the capability, 14 the listen interval, 16 whether it is a reassociation
abbrev pub association_context : List ℕ → Standing → ℕ → ℕ → Bool → List ℕ
association_context station standing capability listen_interval reassociation =
    context hook.Association station standing 255 capability listen_interval (flag reassociation)

-- for an ADDBA request: 12 the asked size as sent, 14 the timeout, 16 the starting sequence number
abbrev pub addba_context : List ℕ → Standing → ℕ → ℕ → ℕ → ℕ → List ℕ
addba_context station standing tid asked timeout start =
    context hook.Addba station standing tid asked timeout start

-- the TID, or 255 for none
abbrev pub tid_or_none : Option ℕ → ℕ
tid_or_none None = 255
tid_or_none (Some tid) = tid

-- the window's start, or 0 for none
abbrev pub start_or_zero : Option ℕ → ℕ
start_or_zero None = 0
start_or_zero (Some start) = start

-- there is a window
abbrev pub is_there : Option ℕ → Bool
is_there None = false
is_there (Some start) = true

-- for data: 12 its sequence number, 14 the start of its agreement's window or 0, 16 whether there is an agreement
abbrev pub data_context : List ℕ → Standing → Option ℕ → ℕ → Option ℕ → List ℕ
data_context station standing tid number window =
    context hook.Data station standing (tid_or_none tid) number
    (start_or_zero window) (flag (is_there window))
