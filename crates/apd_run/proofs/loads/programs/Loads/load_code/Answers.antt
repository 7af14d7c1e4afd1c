use Rattle.std.proofs.Common.{refl, subst, ◌∙◌}
use Rattle.bpf_decode.specs.Answer.{Refuses}
use Rattle.apd_run.specs.Loading.{Decoded, NotDecoded, NoRoomToDecode}
use Rattle.apd_run.proofs.loads.programs.Loads.load_code.Goals as goal

pub returns-in_default : goal.returns-in_default
returns-in_default g c = NoRoomToDecode refl

pub returns-in-Ok-decode : goal.returns-in-Ok-decode
returns-in-Ok-decode g c =
    Decoded c.in-Ok-decode.program c.load_program-told.result c.in-Ok-decode.ensures.ok
    (c.in-Ok-decode.ensures.shapes ∙ c.in-Ok.ensures.is) c.load_program-told.ensures

pub returns-in-NoMemory : goal.returns-in-NoMemory
returns-in-NoMemory g c = NoRoomToDecode refl

pub returns-in_default-fault : goal.returns-in_default-fault
returns-in_default-fault g c =
    NotDecoded c.in-Err.fault c.in_default-fault.not-NoMemory
    (subst (λ shapes. Refuses c.args.code.now shapes c.in-Err.fault) c.in-Ok.ensures.is c.in-Err.ensures.err) refl
