-- Access points that C keeps, and their programs.
use Rattle.std.specs.Prelude.{◌≡◌, ◌≤◌, ℕ, List, map, take, Option, Some, None}
use Rattle.bpf_regions.specs.declared.hooks.Hook.{Hook}
use Rattle.bpf_regions.specs.Hooks.{number_of}
use Rattle.bpf_machine.specs.Verified.{Verified}
use Rattle.ap_model.specs.Readings.{Config}
use Rattle.ap_core.specs.AccessPoints.{AreFresh}
use Rattle.hook_judge.specs.Owned.{none_for, with_program}
use Rattle.ap_single.specs.Leading.{Parts}
use Rattle.apd_c.specs.declared.handle.Content.{Content}
use Rattle.apd_c.specs.declared.handle.Content.TheVariants as content
use Rattle.apd_c.specs.declared.link.Network.{Network}
use Rattle.apd_c.specs.declared.shapes.MapShape.{MapShape}
use Rattle.apd_c.specs.Answers.{IsDone, Perhaps, Unless, UnlessNone, UnlessSome}
use Rattle.apd_c.specs.Code.{code_of}
use Rattle.apd_c.specs.Given.{AreInLimits, IsHook, shape_of}

-- the configuration
abbrev pub config_of : Network → Config
config_of n = record { bssid = n.bssid; ssid = take n.name_length n.name; rates = take n.rate_count n.rates }

-- the name and the rates are within their limits
pub record IsNetwork (n : Network) : Type 0 where
  pub named : n.name_length ≤ 32
  pub some : 1 ≤ n.rate_count
  pub few : n.rate_count ≤ 8

-- the access point that is held
abbrev pub link_of : Option Content → Option Parts
link_of (Some (content.Link boxed)) = Some boxed.value
link_of _ = None

-- perhaps 40, for lack of memory; otherwise 90 exactly if the name, the rates or the shapes are out of their limits;
-- otherwise 0
abbrev pub IsNewNumber : Network → List MapShape → ℕ → Type 0
IsNewNumber network shapes = Perhaps 40 (Unless (IsNetwork network × AreInLimits shapes) 90 IsDone)

-- The number of filling an empty handle with an access point: 92 exactly if it isn't empty; otherwise the number of
-- making one.
abbrev pub IsLinkNumber : Network → List MapShape → Option Content → ℕ → Type 0
IsLinkNumber network shapes o = UnlessNone o 92 (IsNewNumber network shapes)

-- a new access point of this configuration, without programs, for maps of these shapes
pub record IsMade (network : Network) (shapes : List MapShape) (a : Parts) : Type 0 where
  pub fresh : AreFresh (config_of network) a.shards
  pub programs : a.programs ≡ none_for (map shape_of shapes)

-- the content is such an access point
abbrev pub HoldsMade : Network → List MapShape → Option Content → Type 0
HoldsMade network shapes o = (a : Parts) × (link_of o ≡ Some a) × IsMade network shapes a

-- the program, verified for this hook and for the access point's maps, replaces the hook's old one
pub record Puts (hook : Hook) (program : Verified) (a a' : Parts) : Type 0 where
  pub for_hook : program.hook ≡ hook
  pub for_maps : program.code.shapes ≡ a.programs.shapes
  pub programs : a'.programs ≡ with_program hook a.programs (Some program)
  pub shards : a'.shards ≡ a.shards

-- the same if the content is an access point
abbrev pub HasPut : Hook → Verified → Option Content → Option Content → Type 0
HasPut hook program o o' = (a : Parts) × (a' : Parts) × (link_of o ≡ Some a) × (link_of o' ≡ Some a') × Puts hook program a a'

-- the hook's program is removed
pub record Unloads (hook : Hook) (a a' : Parts) : Type 0 where
  pub programs : a'.programs ≡ with_program hook a.programs None
  pub shards : a'.shards ≡ a.shards

-- the same if the content is an access point
abbrev pub HasUnloaded : Hook → Option Content → Option Content → Type 0
HasUnloaded hook o o' = (a : Parts) × (a' : Parts) × (link_of o ≡ Some a) × (link_of o' ≡ Some a') × Unloads hook a a'

-- the number of unloading: 90 exactly if there is no such hook; otherwise 91 exactly if the handle holds no access
-- point; otherwise 0
abbrev pub IsUnloadNumber : ℕ → Option Content → ℕ → Type 0
IsUnloadNumber hook link = Unless (IsHook hook) 90 (UnlessSome (link_of link) 91 (λ a. IsDone))

-- 95 exactly if the program was verified for another hook; otherwise 93 exactly if it is for maps of other shapes;
-- otherwise 0
abbrev pub IsPutNumber : ℕ → Verified → Parts → ℕ → Type 0
IsPutNumber hook program a = Unless (number_of program.hook ≡ hook) 95 (Unless (program.code.shapes ≡ a.programs.shapes) 93 IsDone)

-- the same for a hook and an access point: 90 exactly if there is no such hook; otherwise 91 exactly if the handle
-- holds none
abbrev pub IsPutAtNumber : ℕ → Verified → Option Content → ℕ → Type 0
IsPutAtNumber hook program link = Unless (IsHook hook) 90 (UnlessSome (link_of link) 91 (IsPutNumber hook program))

-- The number of loading: 91 exactly if a handle holds no program; otherwise the number of putting it there.
abbrev pub IsLoadNumber : ℕ → Option Content → Option Content → ℕ → Type 0
IsLoadNumber hook code link = UnlessSome (code_of code) 91 (λ program. IsPutAtNumber hook program link)
