-- What a window passes up (IEEE 802.11-2016, 10.24.7.6.1): the frames of numbers below its start, in increasing order.
use Rattle.std.specs.Prelude.{◌≡◌, ℕ, zero, suc, ◌%◌, Option, None, Some, List, [], ◌∷◌, ◌++◌, map}
use Rattle.blockack.specs.Window.{Items, Window}

module _ {F : Type 0} where
  -- the frame of an item, with its number; a dropped item has none
  abbrev pub frame_of : ℕ → Option (Option F) → List (ℕ × F)
  frame_of n None = []
  frame_of n (Some None) = []
  frame_of n (Some (Some frame)) = (n, frame) ∷ []

  -- the frames of the numbers below n
  abbrev pub frames_below : Items F → ℕ → List (ℕ × F)
  frames_below taken zero = []
  frames_below taken (suc n) = frames_below taken n ++ frame_of n (taken n)

  -- all that the window has passed up since the agreement was opened
  abbrev pub passed : Window F → List (ℕ × F)
  passed window = frames_below window.taken window.start

  -- frames with their sequence numbers: their numbers modulo 4096
  abbrev pub numbered : List (ℕ × F) → List (ℕ × F)
  numbered frames = map (λ p. (p.0 % 4096, p.1)) frames

  -- the list of what was passed up grew by these frames
  pub record PassesUp (old new : Window F) (out : List (ℕ × F)) : Type 0 where
    pub frames : List (ℕ × F)
    pub grows : passed new ≡ passed old ++ frames
    pub sent : out ≡ numbered frames
