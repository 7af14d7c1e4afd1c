-- What holds for the runs that follow the lines so far.
use Rattle.std.specs.Prelude.{ℕ, List, [], ◌∷◌, ◌++◌, map, Option, Some, None, option_map}
use Rattle.bpf_regions.specs.declared.hooks.Hook.{Hook}
use Rattle.apd_script.specs.Digits.{bytes_of}
use Rattle.apd_script.specs.Words.{words}
use Rattle.apd_cases.specs.Said.{Said, Policy, Config, Given, Clock, Stations, Word, Frame, Expect}
use Rattle.apd_cases.specs.declared.line.Place.{Place}
use Rattle.apd_cases.specs.declared.situation.Policy as code_policy
use Rattle.apd_cases.specs.declared.situation.Preset.{Preset}
use Rattle.apd_cases.specs.declared.situation.Situation as code

-- the policy's hook and path, the path of the configuration, the words that are given, the clock, how many stations are
-- associated, the words of maps, and the frame
pub record Situation : Type 0 where
  pub policy : Option (Hook × List ℕ)
  pub config : Option (List ℕ)
  pub given : List (List ℕ)
  pub clock : ℕ
  pub stations : ℕ
  pub presets : List (Place × ℕ)
  pub frame : Option (List ℕ)

-- before the first line: no policy, configuration and frame; nothing is given; clock 0, and no station
abbrev pub start : Situation
start = record {
  policy = None;
  config = None;
  given = [];
  clock = 0;
  stations = 0;
  presets = [];
  frame = None;
}

-- A line holds until the next of its kind. Words of maps add up, until the next configuration.
abbrev pub after : Situation → Said → Situation
after s (Policy hook path) = record s { policy = Some (hook, path) }
after s (Config path) = record s { config = Some path; presets = [] }
after s (Given given) = record s { given = given }
after s (Clock clock) = record s { clock = clock }
after s (Stations stations) = record s { stations = stations }
after s (Word place value) = record s { presets = s.presets ++ (place, value) ∷ [] }
after s (Frame bytes) = record s { frame = Some bytes }
after s (Expect e) = s

-- a word of a map, and its value
abbrev pub preset_of : Preset → Place × ℕ
preset_of preset = (preset.place, preset.value)

-- a policy's hook and path
abbrev pub policy_of : code_policy.Policy → Hook × List ℕ
policy_of policy = (policy.hook, policy.path.now)

-- what the program keeps of a situation
abbrev pub situation_of : code.Situation → Situation
situation_of s = record {
  policy = option_map policy_of s.policy;
  config = option_map (λ path. path.now) s.config;
  given = words s.given.now;
  clock = s.clock;
  stations = s.stations.count;
  presets = map preset_of s.presets.items;
  frame = option_map (λ text. bytes_of text.digits.now) s.frame;
}
