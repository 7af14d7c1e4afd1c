-- The outputs of an event, as C reads them.
use Rattle.std.specs.Prelude.{ℕ, List, [], ◌∷◌, length, Option, Some, None}
use Rattle.ap_model.specs.declared.event.Out.{Out}
use Rattle.ap_model.specs.declared.event.Out.TheVariants as out
use Rattle.ap_model.specs.declared.event.Up.{Up}
use Rattle.apd_c.specs.declared.handle.Content.{Content}
use Rattle.apd_c.specs.declared.handle.Content.TheVariants as content
use Rattle.apd_c.specs.declared.outs.OutHead.{OutHead}

-- the outputs that are held; none if the content is something else
abbrev pub outs_of : Option Content → List Out
outs_of (Some (content.Outs v)) = v.list.items
outs_of _ = []

-- the caller's number that they are held with; 0 if the content is something else
abbrev pub user_of : Option Content → ℕ
user_of (Some (content.Outs v)) = v.user
user_of _ = 0

-- no address
abbrev pub nowhere : List ℕ
nowhere = 0 ∷ 0 ∷ 0 ∷ 0 ∷ 0 ∷ 0 ∷ []

-- the head for no output
abbrev pub nothing_out : OutHead
nothing_out = record { kind = 0; length = 0; user = 0; source = nowhere; destination = nowhere; number = 0; tid = 0; mark = 0; note = 0 }

-- a TID, or 255
abbrev pub tid_of : Option ℕ → ℕ
tid_of None = 255
tid_of (Some tid) = tid

-- the head of data passed up
abbrev pub up_head : ℕ → Up → OutHead
up_head user up =
    record { kind = 2; length = length up.body; user = user; source = up.source; destination = up.destination; number = up.number; tid = tid_of up.tid; mark = up.mark; note = 0 }

-- an output without its bytes, with the caller's number
abbrev pub head_of : ℕ → Option Out → OutHead
head_of user None = nothing_out
head_of user (Some (out.Send bytes)) =
    record { kind = 1; length = length bytes; user = user; source = nowhere; destination = nowhere; number = 0; tid = 0; mark = 0; note = 0 }
head_of user (Some (out.Up up)) = up_head user up
head_of user (Some (out.Note number)) =
    record { kind = 3; length = 0; user = user; source = nowhere; destination = nowhere; number = 0; tid = 0; mark = 0; note = number }

-- the bytes of an output
abbrev pub body_of : Option Out → List ℕ
body_of None = []
body_of (Some (out.Send bytes)) = bytes
body_of (Some (out.Up up)) = up.body
body_of (Some (out.Note number)) = []
