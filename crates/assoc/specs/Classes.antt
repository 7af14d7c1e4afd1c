-- Frame classes (IEEE 802.11-2016, 11.3.3).
use Rattle.std.specs.Prelude.{ℕ, nat_le, ◌==◌, if◌then◌else◌}
use Rattle.mac_frame.specs.declared.subtype.Subtype.{Subtype}
use Rattle.mac_frame.specs.declared.subtype.Subtype.TheVariants as frames
use Rattle.assoc.specs.declared.class.Class.{Class}
use Rattle.assoc.specs.declared.class.Class.TheVariants.{One, Two, Three}
use Rattle.assoc.specs.declared.class.ClassAnswer.{ClassAnswer}
use Rattle.assoc.specs.declared.class.ClassAnswer.TheVariants.{Permitted, Deauthenticate, Disassociate}
use Rattle.assoc.specs.Standings.{Standing, state_of}

-- the class of each kind of frame; that of block acknowledgement frames is our own rule
abbrev pub class_of : Subtype → Class
class_of frames.Authentication = One
class_of frames.Deauthentication = One
class_of frames.AssociationRequest = Two
class_of frames.AssociationResponse = Two
class_of frames.ReassociationRequest = Two
class_of frames.ReassociationResponse = Two
class_of frames.Disassociation = Two
class_of frames.Data = Three
class_of frames.Null = Three
class_of frames.QosData = Three
class_of frames.QosNull = Three
class_of frames.Action = Three
class_of frames.BlockAckReq = Three
class_of frames.BlockAck = Three

-- classes are counted from 1
abbrev pub class_number : Class → ℕ
class_number One = 1
class_number Two = 2
class_number Three = 3

-- the response to a frame that isn't permitted: in State 1 a deauthentication, in State 2 a disassociation; reason 6
-- is 'class 2 frame from a nonauthenticated station', 7 'class 3 frame from a nonassociated station' (Table 9-45)
abbrev pub rejection : ℕ → ℕ → ClassAnswer
rejection state class =
    if state == 1 then Deauthenticate (if class == 2 then 6 else 7) else Disassociate 7

-- a frame of class c is permitted in each state from c on
abbrev pub class_answer : Standing → Class → ClassAnswer
class_answer standing class =
    if nat_le (class_number class) (state_of standing) then Permitted
    else rejection (state_of standing) (class_number class)
