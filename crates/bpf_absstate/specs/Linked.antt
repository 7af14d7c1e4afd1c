-- The frames of a chain, the main function's first.
use Rattle.std.specs.Prelude.{List, [], ◌∷◌, ◌++◌}
use Rattle.bpf_absstate.specs.declared.frames.CallFrame.{CallFrame}
use Rattle.bpf_absstate.specs.declared.frames.Link.{Link}
use Rattle.bpf_absstate.specs.declared.frames.Link.TheVariants.{End, More}

-- those below a frame come before it
abbrev pub linked : Link → List CallFrame
linked End = []
linked (More frame below) = below.value ++ frame ∷ []
