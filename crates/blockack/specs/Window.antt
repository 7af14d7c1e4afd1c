-- The receive reordering buffer of an agreement, over whole numbers that never wrap (IEEE 802.11-2016, 10.24.7.6):
-- what it took, where its window starts, and its step at each event.
use Rattle.std.specs.Prelude.{◌≡◌, ℕ, ◌+◌, ◌-◌, ◌%◌, ◌<◌, ◌≤◌, max, Option, None, Some, IsSome, cond, ◌==◌, ◌⊎◌, Bool, true, false}

-- what was taken: for each number the item taken there, `None` if its verdict dropped the frame
abbrev pub Items : Type 0 → Type 0
Items F = ℕ → Option (Option F)

-- all that was taken, and the first number of the window
pub record Window (F : Type 0) : Type 0 where
  pub taken : Items F
  pub start : ℕ

-- n is the whole number that a sequence number means to a window that starts here: the only one with this residue
-- modulo 4096 from 2048 before the start to 2047 after it
pub record IsUnwrapped (start number n : ℕ) : Type 0 where
  pub residue : n % 4096 ≡ number
  pub low : start ≤ n + 2048
  pub high : n < start + 2048

module _ {F : Type 0} where
  -- a window that has taken nothing
  abbrev pub opening : ℕ → Window F
  opening start = record { taken = λ _. None; start = start }

  -- what was taken, with the item at n
  abbrev pub with_item : Items F → ℕ → Option F → Items F
  with_item taken n item k = cond (k == n) (Some item) (taken k)

  -- n is the least number from `from` on at which nothing was taken
  pub record IsNextFree (taken : Items F) (from n : ℕ) : Type 0 where
    pub above : from ≤ n
    pub free : taken n ≡ None
    pub full : (k : ℕ) → from ≤ k → k < n → IsSome (taken k)

  -- data with this sequence number brings n to the window: it is in the window or after it, and wasn't taken
  pub record Brings (window : Window F) (number n : ℕ) : Type 0 where
    pub is : IsUnwrapped window.start number n
    pub from_start : window.start ≤ n
    pub new : window.taken n ≡ None

  -- data that is taken: the window moves far enough to contain n, and then to the first missing number
  pub record TakesData (size number : ℕ) (item : Option F) (old new : Window F) : Type 0 where
    pub n : ℕ
    pub brings : Brings old number n
    pub gains : new.taken ≡ with_item old.taken n item
    pub next : IsNextFree new.taken (max old.start (n + 1 - size)) new.start

  -- data that isn't taken: it is old, or a duplicate
  pub record LeavesData (number : ℕ) (old new : Window F) : Type 0 where
    pub other : (n : ℕ) → Brings old number n → ⊥
    pub stays : new ≡ old

  -- the step of a window of this size at data (10.24.7.6.2); the first argument says whether the item is taken
  abbrev pub DataStep : Bool → ℕ → ℕ → Option F → Window F → Window F → Type 0
  DataStep true size number item old new = TakesData size number item old new
  DataStep false size number item old new = LeavesData number old new

  -- a request beyond the start: the window moves there, and then to the first missing number
  pub record MovesTo (number : ℕ) (old new : Window F) : Type 0 where
    pub n : ℕ
    pub is : IsUnwrapped old.start number n
    pub beyond : old.start < n
    pub same : new.taken ≡ old.taken
    pub next : IsNextFree new.taken n new.start

  -- a request that isn't beyond it
  pub record Stays (number : ℕ) (old new : Window F) : Type 0 where
    pub other : (n : ℕ) → IsUnwrapped old.start number n → old.start < n → ⊥
    pub stays : new ≡ old

  -- the step at a BlockAckReq with this starting sequence number (10.24.7.6.3)
  abbrev pub RequestStep : ℕ → Window F → Window F → Type 0
  RequestStep number old new = MovesTo number old new ⊎ Stays number old new

  -- the step at the end of the agreement: the window moves just past the last taken number, if it isn't past it
  pub record EndStep (old new : Window F) : Type 0 where
    pub same : new.taken ≡ old.taken
    pub above : old.start ≤ new.start
    pub all : (k : ℕ) → IsSome (old.taken k) → k < new.start
    pub last : old.start < new.start → IsSome (old.taken (new.start - 1))
