-- Reports in colours.
use Rattle.std.specs.Prelude.{ℕ, Bool, true, false, List, [], ◌∷◌, ◌++◌, codes, decimal, Option, Some, None}
use Rattle.apd_driver.specs.declared.reports.report.Told.{Told}
use Rattle.apd_driver.specs.declared.reports.report.Told.TheVariants as told

-- the colour of a report, if it has one: red (31) for what went wrong, green (32) for what is in force
abbrev pub colour_of : Told → Option ℕ
colour_of (told.Handled outs dropped) = None
colour_of told.Memory = Some 31
colour_of (told.Loaded budget slots) = Some 32
colour_of (told.Fault fault) = Some 31
colour_of (told.Refused fault slot) = Some 31
colour_of (told.Certificate fault) = Some 31
colour_of (told.Unreadable why) = Some 31
colour_of (told.Word value) = None
colour_of (told.Malformed why) = Some 31

-- the same, if colours are asked for
abbrev pub colour_in : Bool → Told → Option ℕ
colour_in true told = colour_of told
colour_in false told = None

-- the control sequence that selects a rendition (ECMA-48, 8.3.117); 27 is ESC, and 0 is the usual one
abbrev pub rendition : ℕ → List ℕ
rendition number = 27 ∷ (codes "[" ++ (decimal number ++ codes "m"))

-- what begins a text in a colour
abbrev pub beginning : Option ℕ → List ℕ
beginning None = []
beginning (Some colour) = rendition colour

-- what ends it
abbrev pub ending : Option ℕ → List ℕ
ending None = []
ending (Some colour) = rendition 0

-- text in a colour, if there is one
abbrev pub painted : Option ℕ → List ℕ → List ℕ
painted colour text = beginning colour ++ (text ++ ending colour)
