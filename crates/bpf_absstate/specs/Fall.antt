-- The frames below the newest one are fewer.
use Rattle.std.specs.Prelude.{◌≤◌, max, length, [], ◌∷◌}
use Rattle.std.proofs.Common.{arith, length-append}
use Rattle.bpf_absstate.specs.declared.frames.Link.{Link}
use Rattle.bpf_absstate.specs.declared.frames.Link.TheVariants.{End, More}
use Rattle.bpf_absstate.specs.declared.frames.Chain.TheDeep.{deep-Link}
use Rattle.bpf_absstate.specs.Linked.{linked}

-- a chain is at most as deep as it has frames
pub fall : (n : Link) → max (deep-Link n) 0 ≤ length (linked n)
fall End = omega arith
fall (More frame below) = omega (arith, length-append below.value (frame ∷ []))
