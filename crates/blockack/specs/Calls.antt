-- Whole lists of calls on one agreement, and all that they passed up.
use Rattle.std.specs.Prelude.{◌≡◌, ◌≢◌, ℕ, ◌<◌, ◌↔◌, Bool, true, false, Option, Some, List, [], ◌∷◌, ◌++◌, AllPairs, Contains}
use Rattle.blockack.specs.Window.{Window, opening, TakesData, LeavesData, RequestStep, EndStep}
use Rattle.blockack.specs.Passed.{numbered}
use Rattle.blockack.specs.Reading.{Reading, Reads, DataMovesWindow, RequestMovesWindow, EndPassesUp, DataMarksScoreboard, RequestMovesScoreboard}

-- what came to an agreement: data with its item, taken or not, or a request
pub data Event (F : Type 0) : Type 0 where
  DataCame : (number : ℕ) (item : Option F) (took : Bool) → Event F
  RequestCame : (number : ℕ) → Event F

-- one call for data, from one reading to the next
pub record DataCall {F : Type 0} (took : Bool) (number : ℕ) (item : Option F) (old new : Reading F) (out : List (ℕ × F)) : Type 0 where
  pub size : new.size ≡ old.size
  pub window : DataMovesWindow took number item old new out
  pub scoreboard : DataMarksScoreboard number old new

-- one call for a request
pub record RequestCall {F : Type 0} (number : ℕ) (old new : Reading F) (out : List (ℕ × F)) : Type 0 where
  pub size : new.size ≡ old.size
  pub window : RequestMovesWindow number old new out
  pub scoreboard : RequestMovesScoreboard number old new

module _ {F : Type 0} where
  abbrev pub Call : Event F → Reading F → Reading F → List (ℕ × F) → Type 0
  Call (DataCame number item took) old new out = DataCall took number item old new out
  Call (RequestCame number) old new out = RequestCall number old new out

  -- calls one after another, and the list of all that they passed up
  pub data Calls : List (Event F) → Reading F → Reading F → List (ℕ × F) → Type 0 where
    no_call : (v : Reading F) → Calls [] v v []
    next_call : (e : Event F) (events : List (Event F)) (old mid new : Reading F) (first rest : List (ℕ × F)) →
        Call e old mid first → Calls events mid new rest → Calls (e ∷ events) old new (first ++ rest)

  -- the same events over whole numbers: the steps of a window, and the list of items it took, each with its number
  pub data Run (size : ℕ) : List (Event F) → Window F → List (ℕ × Option F) → Window F → Type 0 where
    no_event : (window : Window F) → Run size [] window [] window
    takes : (number : ℕ) (item : Option F) (events : List (Event F)) (taken : List (ℕ × Option F)) (old mid new : Window F) →
        (step : TakesData size number item old mid) → Run size events mid taken new →
        Run size (DataCame number item true ∷ events) old ((step.n, item) ∷ taken) new
    leaves : (number : ℕ) (item : Option F) (events : List (Event F)) (taken : List (ℕ × Option F)) (old mid new : Window F) →
        LeavesData number old mid → Run size events mid taken new →
        Run size (DataCame number item false ∷ events) old taken new
    asks : (number : ℕ) (events : List (Event F)) (taken : List (ℕ × Option F)) (old mid new : Window F) →
        RequestStep number old mid → Run size events mid taken new →
        Run size (RequestCame number ∷ events) old taken new

  -- the frames are those of the taken items below this number that weren't dropped, once each, by increasing number
  pub record IsInOrder (taken : List (ℕ × Option F)) (below : ℕ) (frames : List (ℕ × F)) : Type 0 where
    pub once : AllPairs (λ p q. p.0 ≢ q.0) taken
    pub rising : AllPairs (λ p q. p.0 < q.0) frames
    pub exact : (n : ℕ) (frame : F) → Contains frames (n, frame) ↔ ((n < below) × Contains taken (n, Some frame))

  -- what an agreement with this start and size passed up during these events
  pub record HandsUp (start size : ℕ) (events : List (Event F)) (v : Reading F) (out : List (ℕ × F)) : Type 0 where
    pub taken : List (ℕ × Option F)
    pub window : Window F
    pub run : Run size events (opening start) taken window
    pub reads : Reads window v
    pub frames : List (ℕ × F)
    pub order : IsInOrder taken window.start frames
    pub sent : out ≡ numbered frames

  -- the same once it has ended: all that was taken is below the window
  pub record HandsUpAll (start size : ℕ) (events : List (Event F)) (out : List (ℕ × F)) : Type 0 where
    pub taken : List (ℕ × Option F)
    pub window : Window F
    pub run : Run size events (opening start) taken window
    pub last : Window F
    pub end : EndStep window last
    pub frames : List (ℕ × F)
    pub order : IsInOrder taken last.start frames
    pub whole : (n : ℕ) (item : Option F) → Contains taken (n, item) → n < last.start
    pub sent : out ≡ numbered frames

-- Over any list of calls for data and requests, an agreement passes up exactly the taken items below the window that
-- aren't `None`, each once, in increasing order of their whole numbers.
abbrev pub HandsUpInOrder : Type 0 → Type 0
HandsUpInOrder F =
    (start : ℕ) (events : List (Event F)) (first last : Reading F) (out : List (ℕ × F)) →
    Reads (opening start) first → Calls events first last out → HandsUp start first.size events last out

-- with its end, it passes up all taken items that aren't `None`, each once, in increasing order
abbrev pub HandsUpAllInOrder : Type 0 → Type 0
HandsUpAllInOrder F =
    (start : ℕ) (events : List (Event F)) (first last : Reading F) (out more : List (ℕ × F)) →
    Reads (opening start) first → Calls events first last out → EndPassesUp last more → HandsUpAll start first.size events (out ++ more)
