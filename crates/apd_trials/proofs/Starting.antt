-- What a run begins with.
use Rattle.std.specs.Prelude.{◌≡◌, ℕ, List, map}
use Rattle.std.proofs.Common.{sym, ◌∙◌, ap, subst}
use Rattle.bpf_regions.specs.declared.maps.Shape.{Shape}
use Rattle.bpf_decode.specs.Program.{Code}
use Rattle.bpf_machine.specs.Runs.{Ran, setting_of}
use Rattle.bpf_machine.specs.declared.outcome.Outcome.{Outcome}
use Rattle.bpf_helpers.specs.Plain.{Plain}
use Rattle.apd_text.specs.Trace.{Gives}
use Rattle.apd_cases.specs.Situations.{Situation, preset_of}
use Rattle.apd_cases.specs.declared.situation.Preset.{Preset}
use Rattle.apd_trials.specs.Trials.{stored, port_of, port_in}

-- the maps, with the words of the situation
pub port_in-stored : (s : Situation) (shapes shapes2 : List Shape) (draw : ℕ) (port q : Plain) (presets : List Preset)
    → shapes ≡ shapes2 → port ≡ port_of s shapes draw → s.presets ≡ map preset_of presets → q ≡ stored shapes port (map preset_of presets)
    → q ≡ port_in s shapes2 draw
port_in-stored s shapes shapes2 draw port q presets same begins are is =
    is ∙ ap (λ p. stored shapes p (map preset_of presets)) begins ∙ ap (λ l. stored shapes (port_of s shapes draw) l) (sym are)
    ∙ ap (λ l. stored l (port_of s l draw) s.presets) same

-- a run on the same frame, from the same port
pub ran_same : (code : Code) (frame frame2 context : List ℕ) (p p2 q : Plain) (o : Outcome)
    → frame ≡ frame2 → p ≡ p2 → Ran Gives (setting_of code frame context) p q o → Ran Gives (setting_of code frame2 context) p2 q o
ran_same code frame frame2 context p p2 q o same begins h =
    subst (λ f. Ran Gives (setting_of code f context) p2 q o) same (subst (λ x. Ran Gives (setting_of code frame context) x q o) begins h)
