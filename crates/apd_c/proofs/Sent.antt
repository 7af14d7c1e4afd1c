-- What a handle owns is the same to every thread.
use Rattle.std.specs.Prelude.{Bool, true, false}
use mir.Raw.{raw}
use base.Shift.{Keyless}
use denote.RattleType.{RattleType}
use denote.Memory.{lone}
use denote.RawPtr.{Ptr}
use denote.Builtin.{bool, RawPtr}
use denote.Struct.Struct.{exits_of}
use denote.Struct.Owning.{shape, fields, to}
use denote.Param.Send.{IsSend, AllSend, owning_send, struct_send, sendable}
use Rattle.std.proofs.Crossing.{frees}
use Rattle.std_alloc.proofs.SendSync.{lies, quiet}
use Rattle.apd_c.specs.Holding.{heap, holds}
use Rattle.apd_c.specs.contracts.handle.Content as content
use Rattle.apd_c.specs.contracts.handle.Handle as handle
use Rattle.apd_c.proofs.handle.Content.TheSendSync as crosses

held : (R : RattleType) → IsSend R → (full : Bool) (p : Ptr) (x : R.Denot) → Keyless (holds R full p x)
held R s true p x = (lies R s p x, frees.frees heap (raw (lone R.mir)) p)
held R s false p x = tt

bool_sent : IsSend bool
bool_sent = search sendable

pointer_sent : IsSend RawPtr
pointer_sent = search sendable

pub handle_sent : IsSend handle.the_row
handle_sent =
    let O = handle.the_type in
    let all : AllSend (fields O) = (bool_sent, (pointer_sent, tt)) in
    owning_send O all (λ d. held content.the_row crosses.the_send d.full d.at d.content) (λ k. quiet (to O) (exits_of k (fields O)) ((struct_send (shape O) all).leaving k))
