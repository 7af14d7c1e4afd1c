-- The words of a run's line after its number.
use Rattle.std.specs.Prelude.{ℕ, List, [], ◌∷◌, ◌++◌, codes, decimal, Option, Some, None}
use Rattle.hex.specs.Hex.{encode_lower}
use Rattle.mac_types.specs.Texts.{address_text}
use Rattle.ap_books.specs.declared.totals.Totals.{Totals}
use Rattle.ap_model.specs.declared.event.Out.{Out}
use Rattle.ap_model.specs.declared.event.Out.TheVariants.{Send, Up, Note}
use Rattle.ap_model.specs.declared.event.Up as passed

-- words separated by a space (32)
abbrev pub then : List ℕ → List ℕ → List ℕ
then word words = word ++ 32 ∷ words

-- a TID in decimal, or a dash (45) for none
abbrev pub tid_word : Option ℕ → List ℕ
tid_word None = 45 ∷ []
tid_word (Some tid) = decimal tid

-- bytes in hex digits, or a dash for none
abbrev pub bytes_word : List ℕ → List ℕ
bytes_word [] = 45 ∷ []
bytes_word (byte ∷ bytes) = encode_lower (byte ∷ bytes)

-- `SOURCE DESTINATION TID NUMBER MARK BODY`
abbrev pub up_words : passed.Up → List ℕ
up_words u =
    then (address_text u.source) (then (address_text u.destination)
    (then (tid_word u.tid) (then (decimal u.number) (then (decimal u.mark) (bytes_word u.body)))))

-- a frame sent, data passed up, or a note
abbrev pub out_words : Out → List ℕ
out_words (Send frame) = then (codes "send") (encode_lower frame)
out_words (Up u) = then (codes "up") (up_words u)
out_words (Note number) = then (codes "note") (decimal number)

-- `events N sent N up N dropped N notes N`
abbrev pub counter_words : Totals → List ℕ
counter_words t =
    then (codes "events") (then (decimal t.events) (then (codes "sent") (then (decimal t.sent)
    (then (codes "up") (then (decimal t.up) (then (codes "dropped") (then (decimal t.dropped)
    (then (codes "notes") (decimal t.notes)))))))))
