-- Outputs as JSON, one object a line.
use Rattle.std.specs.Prelude.{ℕ, List, [], ◌++◌, codes, decimal, Option, Some, None}
use Rattle.std.specs.List.{flat_map}
use Rattle.hex.specs.Hex.{encode_lower}
use Rattle.mac_types.specs.Texts.{address_text}
use Rattle.ap_model.specs.declared.event.Out.{Out}
use Rattle.ap_model.specs.declared.event.Out.TheVariants.{Send, Up, Note}
use Rattle.ap_model.specs.declared.event.Up as passed
use Rattle.apd_driver.specs.Notices.{notice_of}
use Rattle.apd_driver.specs.NoticeTexts.{drop_members, notice_members}
use Rattle.apd_driver.specs.declared.reports.notice.Dropped.{Dropped}
use Rattle.apd_driver.specs.declared.reports.notice.Notice.{Notice}

-- the object of the line with this number, which has these members too, and a line feed (10)
abbrev pub json_line : ℕ → List ℕ → List ℕ
json_line number members = codes "{\"line\":" ++ (decimal number ++ (codes "," ++ (members ++ codes "}\n")))

-- a TID, or `null`
abbrev pub tid_value : Option ℕ → List ℕ
tid_value None = codes "null"
tid_value (Some tid) = decimal tid

-- a frame in hex digits
abbrev pub send_members : List ℕ → List ℕ
send_members frame = codes "\"event\":\"send\",\"frame\":\"" ++ (encode_lower frame ++ codes "\"")

-- the notice of a frame, or else the frame
abbrev pub notice_or_frame : List ℕ → Option Notice → List ℕ
notice_or_frame frame None = send_members frame
notice_or_frame frame (Some notice) = notice_members notice

-- a frame that is sent
abbrev pub sent_members : List ℕ → List ℕ
sent_members frame = notice_or_frame frame (notice_of frame)

-- whom data comes from, and whom it goes to
abbrev pub addresses_members : passed.Up → List ℕ
addresses_members u =
    codes "\"source\":\"" ++ (address_text u.source ++ (codes "\",\"destination\":\""
    ++ (address_text u.destination ++ codes "\"")))

-- its TID, its number and its mark
abbrev pub numbers_members : passed.Up → List ℕ
numbers_members u =
    codes "\"tid\":" ++ (tid_value u.tid ++ (codes ",\"number\":" ++ (decimal u.number
    ++ (codes ",\"mark\":" ++ decimal u.mark))))

-- data that is passed up
abbrev pub up_members : passed.Up → List ℕ
up_members u =
    codes "\"event\":\"up\"," ++ (addresses_members u ++ (codes "," ++ (numbers_members u
    ++ (codes ",\"body\":\"" ++ (encode_lower u.body ++ codes "\"")))))

-- a note
abbrev pub note_members : ℕ → List ℕ
note_members number = codes "\"event\":\"note\",\"number\":" ++ decimal number

-- a frame sent, data passed up, or a note
abbrev pub out_members : Out → List ℕ
out_members (Send frame) = sent_members frame
out_members (Up u) = up_members u
out_members (Note number) = note_members number

-- an object for each output, in order
abbrev pub outs_json : ℕ → List Out → List ℕ
outs_json number outs = flat_map (λ out. json_line number (out_members out)) outs

-- an object for data that was dropped
abbrev pub drop_json : ℕ → Option Dropped → List ℕ
drop_json number None = []
drop_json number (Some dropped) = json_line number (drop_members dropped)

-- a program is in force, with this budget
abbrev pub loaded_members : ℕ → List ℕ
loaded_members budget = codes "\"event\":\"loaded\",\"budget\":" ++ decimal budget
