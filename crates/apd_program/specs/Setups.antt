-- The maps and the frames that files and words spell.
use Rattle.std.specs.Prelude.{◌≡◌, ◌≤◌, ◌^◌, ℕ, Bool, true, false, List, [], length, slice_index, Option, Some, None, Ok}
use Rattle.hex.specs.Hex.{decode_of}
use Rattle.bpf_regions.specs.declared.hooks.Hook.{Hook}
use Rattle.bpf_regions.specs.Hooks.{number_of}
use Rattle.apd_text.specs.Trace.{context_of}
use Rattle.apd_files.specs.Held.{Held, Holds, HoldsKept}
use Rattle.apd_config.specs.Text.{IsTextOf}
use Rattle.apd_config.specs.declared.configuration.Configuration.{Configuration}
use Rattle.apd_words.specs.declared.Source.{Source}
use Rattle.apd_words.specs.Asked.{config_of}
use Rattle.apd_program.specs.declared.inputs.Loaded.{Loaded}
use Rattle.apd_program.specs.declared.inputs.Setup.{Setup}

-- the word's hex digits of either case spell the frame
pub record IsFrame (word frame : List ℕ) : Type 0 where
  pub spelled : decode_of word ≡ Ok frame
  pub short : length frame ≤ 2400

-- The context of a traced program: 0 except for the hook's number, if nothing is given for it; otherwise it has the
-- hook's number, and only tests show the rest.
abbrev pub IsContext : Hook → Option (List ℕ) → Bool → List ℕ → Type 0
IsContext hook None false context = context ≡ context_of hook
IsContext hook None true context = slice_index context 6 ≡ number_of hook
IsContext hook (Some words) from_frame context = slice_index context 6 ≡ number_of hook

-- the file is a configuration with this setup
pub record HoldsSetup (files : Held) (path : List ℕ) (setup : Setup) : Type 0 where
  pub text : List ℕ
  pub there : Holds files path text
  pub configuration : Configuration
  pub is : IsTextOf text configuration
  pub maps : setup.shapes ≡ configuration.maps
  pub draw : setup.draw ≡ configuration.draw

-- without a configuration: no maps, and 0 is drawn first
abbrev pub Configures : Held → Option (List ℕ) → Setup → Type 0
Configures files None setup = setup ≡ record { shapes = []; draw = 0 }
Configures files (Some path) setup = HoldsSetup files path setup

-- what is read from a source: its configuration's setup, and what is kept of its code
pub record IsLoaded (files : Held) (source : Source) (loaded : Loaded) : Type 0 where
  pub configured : Configures files (config_of source) loaded.setup
  pub kept : HoldsKept (2 ^ 17) files source.file.now loaded.code.items
