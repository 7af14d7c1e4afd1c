-- Reading and summing up words for a question.
use Rattle.std.proofs.Common.{◌≡◌, Option, refl, ap, ◌∙◌}
use Rattle.apd_script.specs.Asked.{Asked}
use Rattle.apd_driver.specs.declared.reports.report.Told.{Told}
use Rattle.apd_driver.specs.Crews.{Crew, LooksOn, Works, with_work}
use Rattle.apd_driver.specs.Following.{AtMore, AtNothing, AtOne, IsLook}
use Rattle.apd_driver.specs.Semantics.{Semantics}

-- nothing was read
pub looks_none : {s : Semantics} → (c d : Crew s) → d ≡ c → LooksOn c d
looks_none c d same = rw same record { works = refl; looks = AtNothing c.work }

-- a word was read or summed up
pub looks_one : {s : Semantics} → (c d : Crew s) (a : Asked) (told : Option Told) → Works c d → IsLook a → s.Does c.work d.work a told → LooksOn c d
looks_one c d a told works is does = record { works = works; looks = AtOne c.work d.work a told is does }

-- and then more
pub looks_more : {s : Semantics} → (c d e : Crew s) → LooksOn c d → LooksOn d e → LooksOn c e
looks_more {s} c d e h k =
    record { works = k.works ∙ ap (λ (x : Crew s). with_work x e.work) h.works; looks = AtMore c.work d.work e.work h.looks k.looks }
