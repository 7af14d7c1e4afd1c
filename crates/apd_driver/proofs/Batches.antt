-- Intervals with the answers that follow them.
use Rattle.std.proofs.Common.{◌≡◌, ℕ, List, [], Bool, false, ◌||◌, Option, None, refl}
use Rattle.std.specs.Io.KnownBytes.{Keeps}
use Rattle.apd_driver.specs.Crews.{Crew}
use Rattle.apd_driver.specs.Semantics.{Semantics}
use Rattle.apd_driver.specs.Asking.{Unanswered}
use Rattle.apd_driver.specs.Shows.{Nothing, Then, ThenAnswers, ThenFlushes, ShowsBatch, ShowsScript, Breaks, InInterval, BehindInterval, BreaksBatch, InReports, InAnswer, is_over}
use Rattle.apd_driver.specs.declared.manner.Manner.{Manner}

-- no interval yet
pub shows_none : {s : Semantics} → (manner : Manner) (old : Option (List ℕ)) (crew : Crew s) → ShowsScript manner None old old crew crew false false
shows_none manner old crew = record { lines = []; malformed = []; shows = Nothing; done = tt }

-- one more interval, and the answer behind it
pub shows_more : {s : Semantics} → (manner : Manner) (old mid new : Option (List ℕ)) (crew before after : Crew s) (memory more refused again : Bool)
    → ShowsScript manner None old mid crew before memory refused → is_over manner.strict refused ≡ false → ShowsBatch manner mid new before after more again
    → ShowsScript manner None old new crew after (memory || more) (refused || again)
shows_more manner old mid new crew before after memory more refused again shown goes_on b =
    record { lines = _; malformed = _; shows = ThenAnswers _ _ _ _ _ _ _ _ (Then _ _ _ _ _ _ _ _ _ _ _ _ shown.shows goes_on b.shows) b.tells b.looks; done = tt }

-- what was written is flushed
pub shows_flushed : {s : Semantics} → (manner : Manner) (old mid new : Option (List ℕ)) (crew before : Crew s) (memory refused : Bool)
    → ShowsScript manner None old mid crew before memory refused → Keeps mid new → ShowsScript manner None old new crew before memory refused
shows_flushed manner old mid new crew before memory refused shown keeps =
    record { lines = shown.lines; malformed = shown.malformed; shows = ThenFlushes _ _ _ _ _ _ _ shown.shows keeps; done = tt }

-- it breaks off
pub breaks_more : {s : Semantics} → (manner : Manner) (old mid new : Option (List ℕ)) (crew before : Crew s) (memory refused : Bool)
    → ShowsScript manner None old mid crew before memory refused → is_over manner.strict refused ≡ false → BreaksBatch manner mid new before → Breaks manner None old new crew
breaks_more manner old mid new crew before memory refused shown goes_on (InReports all malformed b) = InInterval _ _ _ _ _ _ _ _ shown.shows goes_on b.breaks tt
breaks_more manner old mid new crew before memory refused shown goes_on (InAnswer lines malformed last after more again one b) =
    BehindInterval _ _ _ _ _ _ (Then _ _ _ _ _ _ _ _ _ _ _ _ shown.shows goes_on one) b tt

-- no line comes any more
pub breaks_flushed : {s : Semantics} → (manner : Manner) (old mid new : Option (List ℕ)) (crew before : Crew s) (memory refused : Bool)
    → ShowsScript manner None old mid crew before memory refused → Keeps mid new → Breaks manner None old new crew
breaks_flushed manner old mid new crew before memory refused shown keeps =
    BehindInterval _ _ _ _ _ _ (ThenFlushes _ _ _ _ _ _ _ shown.shows keeps) (Unanswered refl) tt
