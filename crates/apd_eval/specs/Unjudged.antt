-- Why packets of a capture weren't judged.
use Rattle.std.specs.Prelude.{ℕ, ◌+◌, ◌≤◌, ◌-◌, ◌/◌, ◌%◌, ◌==◌, ◌&&◌, ◌||◌, nat_le, nat_lt, Bool, true, false, not, List, [], ◌∷◌, ◌++◌, codes, count_by, decimal, length, slice_index_or, slice_range, Result, Ok, Err, if◌then◌else◌}
use Rattle.std.specs.Str.{bytes_eq}
use Rattle.bpf_regions.specs.declared.hooks.Hook.{Hook}
use Rattle.bpf_regions.specs.declared.hooks.Hook.TheVariants.{Association, Addba, Data}
use Rattle.capture.specs.Packets.{Seen}
use Rattle.capture.specs.declared.fault.LeftOut.{LeftOut}
use Rattle.apd_eval.specs.Follows.{is_received}
use Rattle.apd_eval.specs.declared.reasons.Reason.{Reason}
use Rattle.apd_eval.specs.declared.reasons.Reasons.{Reasons}
use Rattle.apd_eval.specs.declared.reasons.Reason.TheVariants.{NoFrame, OtherKind, OtherReceiver, Encrypted, Unasked}

-- the octet at an index, or 0 past the end
abbrev pub octet : List ℕ → ℕ → ℕ
octet bytes at = slice_index_or bytes at 0

-- The hook judges frames of this kind: by type and subtype in the first octet, of an action frame also by category and
-- action (IEEE 802.11-2016, 9.2.4.1.3, 9.6.5.2). Data without a body isn't judged.
abbrev pub is_judged : Hook → List ℕ → Bool
is_judged Association bytes = octet bytes 0 == 0x00 || octet bytes 0 == 0x20
is_judged Addba bytes =
    octet bytes 0 == 0xd0 && (nat_le 26 (length bytes) && (octet bytes 24 == 3 && octet bytes 25 == 0))
is_judged Data bytes =
    octet bytes 0 % 4 == 0 && (octet bytes 0 / 4 % 4 == 2 && octet bytes 0 / 64 % 2 == 0)

-- the frame's receiver, in octets 4 to 9, has this address
abbrev pub is_for : List ℕ → List ℕ → Bool
is_for address bytes = nat_le 10 (length bytes) && bytes_eq (slice_range bytes 4 10) address

-- the flag Protected Frame is set, in the second octet (9.2.4.1.9)
abbrev pub is_encrypted : List ℕ → Bool
is_encrypted bytes = octet bytes 1 / 64 % 2 == 1

-- the first reason for which a frame wasn't judged by this hook of an access point with this address
abbrev pub reason_of : Hook → List ℕ → Result (List ℕ) LeftOut → Reason
reason_of hook address (Err left_out) = NoFrame
reason_of hook address (Ok bytes) =
    (if not (is_received bytes) then NoFrame
    else (if not (is_judged hook bytes) then OtherKind
    else (if not (is_for address bytes) then OtherReceiver
    else (if is_encrypted bytes then Encrypted else Unasked))))

-- two reasons are the same
abbrev pub is_same : Reason → Reason → Bool
is_same NoFrame NoFrame = true
is_same OtherKind OtherKind = true
is_same OtherReceiver OtherReceiver = true
is_same Encrypted Encrypted = true
is_same Unasked Unasked = true
is_same _ _ = false

-- how many packets weren't judged for this reason
abbrev pub count : Reason → Hook → List ℕ → List Seen → ℕ
count reason hook address packets =
    count_by (λ packet. is_same (reason_of hook address packet.frame) reason) packets

-- the frames that a hook doesn't judge
abbrev pub other_kind : Hook → List ℕ
other_kind Association = codes "no association request"
other_kind Addba = codes "no ADDBA request"
other_kind Data = codes "not data"

-- How many packets weren't judged for each reason, if this many were. What isn't encrypted, and is of the hook's kind and
-- to the address, was refused before any program unless it was judged.
abbrev pub reasons_of : Hook → List ℕ → List Seen → ℕ → Reasons
reasons_of hook address packets judged = record {
  missing = count NoFrame hook address packets;
  other = count OtherKind hook address packets;
  elsewhere = count OtherReceiver hook address packets;
  encrypted = count Encrypted hook address packets;
  refused = count Unasked hook address packets - judged;
  requests = count Unasked Association address packets;
}

-- the same while packets come: of none
abbrev pub no_packets : Reasons
no_packets = record { missing = 0; other = 0; elsewhere = 0; encrypted = 0; refused = 0; requests = 0 }

-- with one more packet, for this reason, and by the hook of associations for that
abbrev pub with_packet : Reasons → Reason → Reason → Reasons
with_packet r reason at_association = record {
  missing = r.missing + (if is_same reason NoFrame then 1 else 0);
  other = r.other + (if is_same reason OtherKind then 1 else 0);
  elsewhere = r.elsewhere + (if is_same reason OtherReceiver then 1 else 0);
  encrypted = r.encrypted + (if is_same reason Encrypted then 1 else 0);
  refused = r.refused + (if is_same reason Unasked then 1 else 0);
  requests = r.requests + (if is_same at_association Unasked then 1 else 0);
}

-- at most so many packets of each reason
pub record AreAtMost (n : ℕ) (r : Reasons) : Type 0 where
  pub missing : r.missing ≤ n
  pub other : r.other ≤ n
  pub elsewhere : r.elsewhere ≤ n
  pub encrypted : r.encrypted ≤ n
  pub refused : r.refused ≤ n
  pub requests : r.requests ≤ n

-- what separates a list so far from its next part
abbrev pub separator : List ℕ → List ℕ
separator text = (if length text == 0 then [] else codes ", ")

-- a list with one more part, if that counts anything
unfoldable pub with_part : List ℕ → ℕ → List ℕ → List ℕ
with_part text n what =
    (if n == 0 then text else text ++ (separator text ++ (decimal n ++ (codes " " ++ what))))

-- a list, and behind it the reasons that apply, with how many packets each
abbrev pub parts_behind : List ℕ → Hook → Reasons → List ℕ
parts_behind text hook r =
    with_part (with_part (with_part (with_part (with_part text
    r.missing (codes "without a frame"))
    r.other (other_kind hook))
    r.elsewhere (codes "to another address"))
    r.encrypted (codes "encrypted"))
    r.refused (codes "refused before any program")

-- the list of these
abbrev pub parts_text : Hook → Reasons → List ℕ
parts_text hook r = parts_behind [] hook r

-- the line of sums of a table without rows
abbrev pub colon : List ℕ → List ℕ
colon parts = (if length parts == 0 then [] else codes ": ")

abbrev pub none_line : ℕ → List ℕ → List ℕ
none_line packets parts =
    codes "judged 0 of " ++ (decimal packets ++ (codes " packets" ++ (colon parts ++ (parts ++ 10 ∷ []))))

-- the line below the sums of a table with rows, if some packets weren't judged
abbrev pub others_line : List ℕ → List ℕ
others_line parts = (if length parts == 0 then [] else codes "not judged: " ++ (parts ++ 10 ∷ []))

-- frames were refused, and no request for an association was received
abbrev pub is_lonely : Reasons → Bool
is_lonely r = r.requests == 0 && nat_lt 0 r.refused

-- what is said then: only a station that is associated leads to queries
abbrev pub lonely_line : Reasons → List ℕ
lonely_line r =
    (if is_lonely r then codes "no station associates in this capture, and frames of a station that is not associated come to no program\n"
    else [])

-- the sums of a table without rows
abbrev pub none_text : Hook → List ℕ → List Seen → List ℕ
none_text hook address packets =
    none_line (length packets) (parts_text hook (reasons_of hook address packets 0))
    ++ lonely_line (reasons_of hook address packets 0)

-- the same counts in JSON, as the end of an object
abbrev pub json_reasons : Reasons → List ℕ
json_reasons r =
    codes ",\"not_judged\":{\"without_frame\":" ++ (decimal r.missing
    ++ (codes ",\"other_kind\":" ++ (decimal r.other
    ++ (codes ",\"other_address\":" ++ (decimal r.elsewhere
    ++ (codes ",\"encrypted\":" ++ (decimal r.encrypted
    ++ (codes ",\"refused\":" ++ (decimal r.refused ++ codes "}}\n")))))))))
