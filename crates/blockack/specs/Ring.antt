-- The ring of 64 slots that holds a window: the slot of number n is n modulo 64.
use Rattle.std.specs.Prelude.{◌≡◌, ℕ, zero, suc, ◌+◌, ◌-◌, ◌%◌, ◌<◌, ◌≤◌, nat_lt, cond, Option, None, List, [], ◌++◌, length, is_some, slice_index_or}
use Rattle.std.specs.List.{sum_by}
use Rattle.blockack.specs.Window.{Items, with_item}
use Rattle.blockack.specs.Passed.{frame_of}

-- how far a sequence number is ahead of another, modulo 4096
abbrev pub ahead : ℕ → ℕ → ℕ
ahead start number = (number + 4096 - start) % 4096

module _ {F : Type 0} where
  -- the slot i after that of `start`
  unfoldable pub ring_at : List (Option (Option F)) → ℕ → Items F
  ring_at slots start i = cond (nat_lt i 64) (slice_index_or slots ((start + i) % 64) None) None

  -- the slots after the first n
  abbrev pub Shifts : ℕ → Items F → Items F → Type 0
  Shifts n old new = (i : ℕ) → new i ≡ old (n + i)

  -- how many slots are held
  unfoldable pub held_count : List (Option (Option F)) → ℕ
  held_count slots = sum_by (λ slot. cond (is_some slot) 1 0) slots

  -- the frames of the first n slots, with their sequence numbers
  unfoldable pub gathered : Items F → ℕ → ℕ → List (ℕ × F)
  gathered slots start zero = []
  gathered slots start (suc n) = gathered slots start n ++ frame_of ((start + n) % 4096) (slots n)

  -- what a ring holds from `start` on, with the item at its number
  abbrev pub stored : List (Option (Option F)) → ℕ → ℕ → Option F → Items F
  stored slots start number item = with_item (ring_at slots start) (ahead start number) item

  -- the ring of a window has 64 slots: its first number isn't held, nor any after its last
  pub record IsSoundRing (slots : List (Option (Option F))) (start size : ℕ) : Type 0 where
    pub long : length slots ≡ 64
    pub start_fits : start < 4096
    pub some_size : 1 ≤ size
    pub size_fits : size ≤ 64
    pub front : ring_at slots start 0 ≡ None
    pub past : (i : ℕ) → size ≤ i → ring_at slots start i ≡ None
