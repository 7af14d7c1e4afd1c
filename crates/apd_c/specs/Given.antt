-- What C passes: shapes and the numbers of hooks.
use Rattle.std.specs.Prelude.{◌≡◌, ◌==◌, ◌⊎◌, if◌then◌else◌, ℕ, List, map}
use Rattle.std.specs.List.{All}
use Rattle.bpf_regions.specs.declared.hooks.Hook.{Hook}
use Rattle.bpf_regions.specs.Hooks.{number_of}
use Rattle.bpf_regions.specs.Maps.{AreShapes}
use Rattle.bpf_regions.specs.declared.maps.Shape.{Shape}
use Rattle.bpf_regions.specs.declared.maps.Scope.TheVariants.{Shared}
use Rattle.bpf_regions.specs.declared.maps.WordWidth.{WordWidth}
use Rattle.bpf_regions.specs.declared.maps.WordWidth.TheVariants.{Four, Eight}
use Rattle.apd_c.specs.declared.shapes.MapShape.{MapShape}

-- a width by its bytes; what isn't 8 counts as 4
abbrev pub width_of : ℕ → WordWidth
width_of bytes = if bytes == 8 then Eight else Four

-- a shape of words that all workers share
abbrev pub shape_of : MapShape → Shape
shape_of given = record { entries = given.entries; words = given.words; width = width_of given.width; scope = Shared }

-- a width that a word may have
abbrev pub IsWidth : ℕ → Type 0
IsWidth bytes = (bytes ≡ 4) ⊎ (bytes ≡ 8)

-- at most 16 shapes, each in its limits
pub record AreInLimits (shapes : List MapShape) : Type 0 where
  pub widths : All (λ s. IsWidth s.width) shapes
  pub shapes_are : AreShapes (map shape_of shapes)

-- there is a hook of that number
abbrev pub IsHook : ℕ → Type 0
IsHook number = (hook : Hook) × (number ≡ number_of hook)

-- there is such a hook, and the shapes are in their limits
abbrev pub IsAskable : ℕ → List MapShape → Type 0
IsAskable hook shapes = IsHook hook × AreInLimits shapes
