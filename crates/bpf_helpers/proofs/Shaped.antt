-- The shapes of maps of zeros.
use Rattle.std.proofs.Common.{◌≡◌, ℕ, List, [], ◌∷◌, map, refl, ap, ◌∙◌}
use Rattle.bpf_regions.specs.declared.maps.Shape.{Shape}
use Rattle.bpf_regions.specs.declared.maps.MapOp.{MapOp}
use Rattle.bpf_helpers.specs.Plain.{Table, after, shape_of, zeros}

pub shapes_of_zeros : (shapes : List Shape) → map shape_of (map zeros shapes) ≡ shapes
shapes_of_zeros [] = refl
shapes_of_zeros (s ∷ shapes) = ap (λ l. s ∷ l) (shapes_of_zeros shapes)

-- an access keeps the shape
pub keeps_shape : (now before held : Table) (word : ℕ) (op : MapOp) → now ≡ after before word op → before ≡ held → shape_of now ≡ shape_of held
keeps_shape now before held word op e e2 = ap shape_of e ∙ ap shape_of e2
