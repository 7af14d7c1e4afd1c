-- Runs on a new access point.
use Rattle.std.specs.Prelude.{◌≡◌, ◌<◌, ℕ, List, [], replicate, Option, Some, None}
use Rattle.ap_books.specs.Counts.{none}
use Rattle.ap_model.specs.Readings.{Config}
use Rattle.ap_live.specs.Lives.{Live}
use Rattle.apd_config.specs.Text.{IsTextOf}
use Rattle.apd_config.specs.declared.configuration.Configuration.{Configuration}
use Rattle.bpf_helpers.specs.Hooked.{shapes_of}
use Rattle.bpf_regions.specs.declared.maps.Shape.{Shape}
use Rattle.bpf_verifier.specs.declared.limit.Limits.{Limits}
use Rattle.apd_files.specs.Held.{Held, Holds}
use Rattle.apd_script.specs.Asked.{Asked}
use Rattle.apd_script.specs.Script.{IsScript}
use Rattle.apd_driver.specs.Crews.{Crew}
use Rattle.apd_driver.specs.Shows.{IsBroken, Runs}
use Rattle.apd_driver.specs.declared.manner.Manner.{Manner}
use Rattle.apd_run.specs.Work.{live}

-- what an access point is made from: its link, and the shapes of its maps
pub record Plan : Type 0 where
  pub link : Config
  pub maps : List Shape

-- that of this access point, under this configuration of the link
abbrev pub plan_at : Config → Live → Plan
plan_at config a = record { link = config; maps = shapes_of a.stock.maps }

-- An operator that works with these files, as far as they are known, within these limits, at an access point with this
-- configuration of the link and maps of these shapes. There is a worker. Nothing was counted or taken over yet, no queue of
-- a worker got an event, and nothing is published or was told.
pub record IsNewCrew (files : Held) (limits : Limits) (plan : Plan) (c : Crew live) : Type 0 where
  pub some : 0 < c.workers
  pub nothing : c.counted ≡ none
  pub files_are : c.work.files ≡ files
  pub limits_are : c.work.limits ≡ limits
  pub link_is : c.work.config ≡ plan.link
  pub maps_are : shapes_of c.work.maps ≡ plan.maps
  pub unput : c.work.puts ≡ replicate c.workers []
  pub untaken : c.work.batches ≡ []
  pub untold : c.work.told ≡ replicate 8 0
  pub no_loads : c.work.loads.loads ≡ []

-- a run of these lines, if they are known, at such an access point: it doesn't begin, and nothing is printed, or a new
-- operator follows them
pub data RunsNew (files : Held) (limits : Limits) (plan : Plan) (manner : Manner) (script : Option (List (ℕ × Asked))) (old new : Option (List ℕ)) : ℕ → Type 0 where
  NotBegun : (status : ℕ) → new ≡ old → IsBroken status → RunsNew files limits plan manner script old new status
  Begun : (crew : Crew live) (status : ℕ) → IsNewCrew files limits plan crew → Runs manner script old new crew status
      → RunsNew files limits plan manner script old new status

-- what a configuration says of the link
abbrev pub link_of : Configuration → Config
link_of c = record { bssid = c.bssid; ssid = c.ssid.items; rates = c.rates.items }

-- and of what an access point is made from
abbrev pub plan_of : Configuration → Plan
plan_of c = record { link = link_of c; maps = c.maps }

-- the configuration in the file at this path, as far as its text is known
pub record IsConfigurationAt (files : Held) (path : List ℕ) (c : Configuration) : Type 0 where
  pub text : List ℕ
  pub holds : Holds files path text
  pub is_text : IsTextOf text c

-- the lines of the script in the file at this path, as far as its text is known, where maps have these shapes
pub record IsScriptAt (files : Held) (path : List ℕ) (shapes : List Shape) (lines : List (ℕ × Asked)) : Type 0 where
  pub text : List ℕ
  pub holds : Holds files path text
  pub is_script : IsScript shapes text lines

-- a run of the script in the second of these files, under the configuration in the first: one is not read, and nothing is
-- printed, or the script's lines are run
pub data RunsScript (files : Held) (limits : Limits) (config path : List ℕ) (manner : Manner) (old new : Option (List ℕ)) : ℕ → Type 0 where
  NotRead : (status : ℕ) → new ≡ old → IsBroken status → RunsScript files limits config path manner old new status
  Read : (c : Configuration) (lines : List (ℕ × Asked)) (status : ℕ) → IsConfigurationAt files config c → IsScriptAt files path c.maps lines
      → RunsNew files limits (plan_of c) manner (Some lines) old new status → RunsScript files limits config path manner old new status

-- a run of lines as they come, under the configuration in the file at this path: it is not read, and nothing is printed, or
-- the lines are run
pub data RunsInput (files : Held) (limits : Limits) (config : List ℕ) (manner : Manner) (old new : Option (List ℕ)) : ℕ → Type 0 where
  NotConfigured : (status : ℕ) → new ≡ old → IsBroken status → RunsInput files limits config manner old new status
  Configured : (c : Configuration) (status : ℕ) → IsConfigurationAt files config c → RunsNew files limits (plan_of c) manner None old new status
      → RunsInput files limits config manner old new status
