-- Limits of files.
use Rattle.std.specs.Prelude.{ℕ, ◌^◌}
use Rattle.apd_files.specs.declared.inputs.files.FileKind.{FileKind}
use Rattle.apd_files.specs.declared.inputs.files.FileKind.TheVariants.{Configuration, Code, Certificate, Text, Capture, Script}

-- the most bytes of a file, by kind: 1 MiB, 16 MiB, 256 MiB or 1 GiB
abbrev pub most_of : FileKind → ℕ
most_of Configuration = 2 ^ 20
most_of Code = 2 ^ 30
most_of Certificate = 2 ^ 28
most_of Text = 2 ^ 24
most_of Capture = 2 ^ 30
most_of Script = 2 ^ 30
