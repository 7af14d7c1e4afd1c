-- What is read of a written file.
use Rattle.std.proofs.Common.{◌≡◌, ◌<◌, ◌≤◌, ◌==◌, ◌∙◌, ◌↔◌, ℕ, ◌+◌, ◌-◌, ◌*◌, ◌/◌, ◌%◌, ◌^◌, min, Bool, true, false, nat_lt, List, [], ◌∷◌, ◌++◌, length, take, drop, map, slice_get, Some, Result, Ok, Err, refl, sym, ap, subst, arith, lit<, append_assoc, append-nil, length-append, if◌then◌else◌}
use Rattle.std.proofs.Math.Nat.{min-eq_left}
use Rattle.std.proofs.Math.Seq.{drop-append_seam, take-append_seam, drop-append-add}
use Rattle.std.proofs.lemmas.List.{take_all, length-take, length-replicate}
use Rattle.std.proofs.lemmas.Bool.Decides.{nat_tests}
use Rattle.byteorder.specs.Endian.{little_number, little_bytes}
use Rattle.byteorder.specs.Numbers.{little_number-reads_back, length-bytes_low_first}
use Rattle.capture.specs.declared.fault.CaptureFault.{CaptureFault}
use Rattle.capture.specs.declared.fault.CaptureFault.TheVariants.{CutBlock, BadBlock}
use Rattle.capture.specs.declared.fault.LeftOut.{LeftOut}
use Rattle.capture.specs.declared.fault.LeftOut.TheVariants.{Cut}
use Rattle.capture.specs.declared.fields.Endian.TheVariants.{Little}
use Rattle.capture.specs.declared.form.Link.{Link}
use Rattle.capture.specs.declared.form.Link.TheVariants.{Plain, Other}
use Rattle.capture.specs.declared.new_packet.Side.{Side}
use Rattle.capture.specs.declared.new_packet.Side.TheVariants.{In, Out, Up}
use Rattle.capture.specs.Fields.{number_at}
use Rattle.capture.specs.Blocks.{Framed, section, endian_of, endian_shown, is_odd, ordered, block_at}
use Rattle.capture.specs.Captures.{Holds}
use Rattle.capture.specs.Interfaces.{Described, padded, resolution_in}
use Rattle.capture.specs.Packets.{Seen, frame_of, linked_frame}
use Rattle.capture.specs.Sections.{State, Reached, Opened, Passed, opening, after_block, with_packet, enhanced, enhanced_of, place_of, stamp_of, stamp_in, HoldsBlocks}
use Rattle.capture.specs.Writing.{Written, IsCounted, AreCounted, number_of, most_kept, cut_to, padding, block_of, option_of, ending, section_body, interface_body, heading, original, packet_rest, body_of, packet_body, packet_block, blocks_of, file_of, whole_frame, frame_read, seen_from}
use Rattle.capture.proofs.Unique.{unique}

-- ---- lists

behind : (n : ℕ) (xs ys : List ℕ) → length xs ≡ n → drop n (xs ++ ys) ≡ ys
behind n xs ys e = let P : ℕ → Type 0 = λ m. drop m (xs ++ ys) ≡ ys in subst P e (drop-append_seam xs ys)

further : (n m : ℕ) (xs ys : List ℕ) → length xs ≡ n → drop (n + m) (xs ++ ys) ≡ drop m ys
further n m xs ys e = let P : ℕ → Type 0 = λ k. drop (k + m) (xs ++ ys) ≡ drop m ys in subst P e (drop-append-add xs ys m)

two : (x : ℕ) → length (little_bytes 2 x) ≡ 2
two x = length-bytes_low_first 0 2 x

four : (x : ℕ) → length (little_bytes 4 x) ≡ 4
four x = length-bytes_low_first 0 4 x

reads : (x : ℕ) (rest : List ℕ) → x < 2 ^ 32 → little_number 4 (little_bytes 4 x ++ rest) ≡ x
reads x rest h = little_number-reads_back 4 x rest h

-- a list with its padding
filled : (xs rest : List ℕ) → length (xs ++ (padding (length xs) ++ rest)) ≡ (length xs + 3) / 4 * 4 + length rest
filled xs rest =
    let a = length-append xs (padding (length xs) ++ rest) in
    let b = length-append (padding (length xs)) rest in
    let p = length-replicate {A = ℕ} (padded (length xs) - length xs) 0 in
    let up : length xs + (padded (length xs) - length xs) ≡ (length xs + 3) / 4 * 4 = omega arith in
    omega (arith, a, b, p, up)

-- ---- numbers

small : (n k c : ℕ) → n ≡ 20 + ((k + 3) / 4 * 4 + (4 + ((c + 3) / 4 * 4 + 4))) → k ≤ 262144 → c ≤ 65535 → n + 12 < 2 ^ 32
small n k c e h g = omega (arith, e, h, g)

even : (n k c : ℕ) → n ≡ 20 + ((k + 3) / 4 * 4 + (4 + ((c + 3) / 4 * 4 + 4))) → n % 4 ≡ 0
even n k c e = omega (arith, e)

long_enough : (n k c : ℕ) → n ≡ 20 + ((k + 3) / 4 * 4 + (4 + ((c + 3) / 4 * 4 + 4))) → 20 + k ≤ n
long_enough n k c e = omega (arith, e)

within : (m k n : ℕ) → m + k ≤ n → m ≤ n
within m k n h = omega (arith, h)

not_less : (m n : ℕ) → n ≤ m → nat_lt m n ≡ false
not_less m n h = grind (arith, nat_tests, h)

holds_kept : (n t k d c : ℕ) → n ≡ 20 + t → 20 + k ≤ n → d ≡ t → c ≡ k → c ≤ d
holds_kept n t k d c e h f g = omega (arith, e, h, f, g)

upper_few : (time : ℕ) → time < 2 ^ 64 → time / 2 ^ 32 < 2 ^ 32
upper_few time h = omega (arith, h)

lower_few : (time : ℕ) → time % 2 ^ 32 < 2 ^ 32
lower_few time = omega arith

kept_few : (k : ℕ) → k ≤ 262144 → k < 2 ^ 32
kept_few k h = omega (arith, h)

halves : (time : ℕ) → time / 2 ^ 32 * 2 ^ 32 + time % 2 ^ 32 ≡ time
halves time = omega arith

counts : (time : ℕ) → time < 2 ^ 64 → stamp_of 1000000000 time ≡ time
counts time h =
    let whole : time * 1000000000 / 1000000000 ≡ time = omega arith in
    ap (λ t. min t (2 ^ 64 - 1)) whole ∙ min-eq_left (omega (arith, h))

-- ---- one block

flattened : (kind : ℕ) (body rest : List ℕ) → block_of kind body ++ rest ≡ little_bytes 4 kind ++ (little_bytes 4 (length body + 12) ++ (body ++ (little_bytes 4 (length body + 12) ++ rest)))
flattened kind body rest =
    let n = length body + 12 in
    append_assoc (little_bytes 4 kind) (little_bytes 4 n ++ (body ++ little_bytes 4 n)) rest
    ∙ ap (λ l. little_bytes 4 kind ++ l) (append_assoc (little_bytes 4 n) (body ++ little_bytes 4 n) rest
    ∙ ap (λ l. little_bytes 4 n ++ l) (append_assoc body (little_bytes 4 n) rest))

module _ (kind : ℕ) (body rest : List ℕ) (small : kind < 2 ^ 32) (short : length body + 12 < 2 ^ 32) (even : length body % 4 ≡ 0) where
  abbrev n : ℕ
  n = length body + 12

  abbrev bytes : List ℕ
  bytes = little_bytes 4 kind ++ (little_bytes 4 n ++ (body ++ (little_bytes 4 n ++ rest)))

  long : length bytes ≡ 12 + (length body + length rest)
  long =
      let a = length-append (little_bytes 4 kind) (little_bytes 4 n ++ (body ++ (little_bytes 4 n ++ rest))) in
      let b = length-append (little_bytes 4 n) (body ++ (little_bytes 4 n ++ rest)) in
      let c = length-append body (little_bytes 4 n ++ rest) in
      let d = length-append (little_bytes 4 n) rest in
      omega (arith, a, b, c, d, four kind, four n)

  first : number_at Little 4 0 bytes ≡ kind
  first = reads kind (little_bytes 4 n ++ (body ++ (little_bytes 4 n ++ rest))) small

  past_kind : drop 4 bytes ≡ little_bytes 4 n ++ (body ++ (little_bytes 4 n ++ rest))
  past_kind = behind 4 (little_bytes 4 kind) (little_bytes 4 n ++ (body ++ (little_bytes 4 n ++ rest))) (four kind)

  second : number_at Little 4 4 bytes ≡ n
  second = ap (little_number 4) past_kind ∙ reads n (body ++ (little_bytes 4 n ++ rest)) short

  past_length : drop 8 bytes ≡ body ++ (little_bytes 4 n ++ rest)
  past_length =
      further 4 4 (little_bytes 4 kind) (little_bytes 4 n ++ (body ++ (little_bytes 4 n ++ rest))) (four kind)
      ∙ behind 4 (little_bytes 4 n) (body ++ (little_bytes 4 n ++ rest)) (four n)

  past : (m : ℕ) → drop (8 + m) bytes ≡ drop m (body ++ (little_bytes 4 n ++ rest))
  past m =
      let e : 8 + m ≡ 4 + (4 + m) = omega arith in
      ap (λ k. drop k bytes) e
      ∙ (further 4 (4 + m) (little_bytes 4 kind) (little_bytes 4 n ++ (body ++ (little_bytes 4 n ++ rest))) (four kind)
      ∙ further 4 m (little_bytes 4 n) (body ++ (little_bytes 4 n ++ rest)) (four n))

  past_body : drop (8 + length body) bytes ≡ little_bytes 4 n ++ rest
  past_body = past (length body) ∙ drop-append_seam body (little_bytes 4 n ++ rest)

  past_all : drop (8 + (length body + 4)) bytes ≡ rest
  past_all = past (length body + 4) ∙ drop-append-add body (little_bytes 4 n ++ rest) 4 ∙ behind 4 (little_bytes 4 n) rest (four n)

  third : number_at Little 4 (n - 4) bytes ≡ n
  third =
      let at : n - 4 ≡ 8 + length body = omega arith in
      ap (λ k. little_number 4 (drop k bytes)) at ∙ (ap (little_number 4) past_body ∙ reads n rest short)

  odd : is_odd n ≡ false
  odd = grind (arith, nat_tests, even)

  -- the block is read
  block_read : (place : ℕ) → endian_of Little bytes ≡ Some Little → block_at place Little bytes ≡ Ok (record { endian = Little; kind = kind; body = body; after = rest })
  block_read place shown =
      let enough : nat_lt (length bytes) 12 ≡ false = grind (arith, nat_tests, long) in
      let fits : nat_lt (length bytes) n ≡ false = grind (arith, nat_tests, long) in
      let same : (n == n) ≡ true = grind (arith, nat_tests) in
      let made : ℕ → List ℕ → List ℕ → Result Framed CaptureFault = λ k b a. Ok (record { endian = Little; kind = k; body = b; after = a }) in
      let is_body : take (n - 12) (drop 8 bytes) ≡ body = (let w : n - 12 ≡ length body = omega arith in ap (λ k. take k (drop 8 bytes)) w ∙ (ap (take (length body)) past_length ∙ take-append_seam body (little_bytes 4 n ++ rest))) in
      let is_after : drop n bytes ≡ rest = (let w : n ≡ 8 + (length body + 4) = omega arith in ap (λ k. drop k bytes) w ∙ past_all) in
      let on_total : (t : ℕ) → Result Framed CaptureFault = λ t.
      (if is_odd t then Err (BadBlock place) else
      (if nat_lt (length bytes) t then Err (CutBlock place) else
      (if number_at Little 4 (t - 4) bytes == t then made (number_at Little 4 0 bytes) (take (t - 12) (drop 8 bytes)) (drop t bytes) else Err (BadBlock place)))) in
      ap (λ (t : Bool). (if t then Err (CutBlock place) else ordered place bytes (endian_of Little bytes))) enough
      ∙ (ap (ordered place bytes) shown
      ∙ (ap on_total second
      ∙ (ap (λ (t : Bool). (if t then Err (BadBlock place) else
      (if nat_lt (length bytes) n then Err (CutBlock place) else
      (if number_at Little 4 (n - 4) bytes == n then made (number_at Little 4 0 bytes) (take (n - 12) (drop 8 bytes)) (drop n bytes) else Err (BadBlock place))))) odd
      ∙ (ap (λ (t : Bool). (if t then Err (CutBlock place) else
      (if number_at Little 4 (n - 4) bytes == n then made (number_at Little 4 0 bytes) (take (n - 12) (drop 8 bytes)) (drop n bytes) else Err (BadBlock place)))) fits
      ∙ (ap (λ (k : ℕ). (if k == n then made (number_at Little 4 0 bytes) (take (n - 12) (drop 8 bytes)) (drop n bytes) else Err (BadBlock place))) third
      ∙ (ap (λ (t : Bool). (if t then made (number_at Little 4 0 bytes) (take (n - 12) (drop 8 bytes)) (drop n bytes) else Err (BadBlock place))) same
      ∙ (ap (λ k. made k (take (n - 12) (drop 8 bytes)) (drop n bytes)) first
      ∙ (ap (λ b. made kind b (drop n bytes)) is_body
      ∙ ap (λ a. made kind body a) is_after))))))))

-- a block of another type than a section header
read_as : (place kind : ℕ) (body rest : List ℕ) → kind < 2 ^ 32 → length body + 12 < 2 ^ 32 → length body % 4 ≡ 0 → (kind == section) ≡ false
    → block_at place Little (block_of kind body ++ rest) ≡ Ok (record { endian = Little; kind = kind; body = body; after = rest })
read_as place kind body rest small short even other =
    let all = bytes kind body rest small short even in
    let known : (number_at Little 4 0 all == section) ≡ false = ap (λ k. k == section) (first kind body rest small short even) ∙ other in
    let shown : endian_of Little all ≡ Some Little = ap (λ (t : Bool). (if t then endian_shown all else Some Little)) known in
    ap (block_at place Little) (flattened kind body rest) ∙ block_read kind body rest small short even place shown

-- a section header
read_section : (place : ℕ) (rest : List ℕ) → block_at place Little (block_of section section_body ++ rest) ≡ Ok (record { endian = Little; kind = section; body = section_body; after = rest })
read_section place rest =
    ap (block_at place Little) (flattened section section_body rest) ∙ block_read section section_body rest (lit< tt) (lit< tt) refl place refl

-- ---- packets

-- the link of a written interface
abbrev link_of : Side → Link
link_of In = Plain
link_of Out = Plain
link_of Up = Other 1

abbrev described_by : Side → Described
described_by side = record { link = link_of side; units = 1000000000; most = most_kept }

abbrev interfaces : List Described
interfaces = described_by In ∷ described_by Out ∷ described_by Up ∷ []

abbrev so_far : List Seen → State
so_far packets = record { endian = Little; interfaces = interfaces; packets = packets }

numbered : (side : Side) → slice_get interfaces (number_of side) ≡ Some (described_by side)
numbered In = refl
numbered Out = refl
numbered Up = refl

numbers_few : (side : Side) → number_of side < 2 ^ 32
numbers_few In = lit< tt
numbers_few Out = lit< tt
numbers_few Up = lit< tt

linked : (side : Side) (bytes : List ℕ) → linked_frame (link_of side) bytes ≡ whole_frame side bytes
linked In l = refl
linked Out l = refl
linked Up l = refl

-- the body of a packet's block
module _ (side : Side) (time many : ℕ) (kept comment : List ℕ) (counted : time < 2 ^ 64) (few : many < 2 ^ 32) (short : length kept ≤ 262144) (brief : length comment ≤ 65535) where
  abbrev tail : List ℕ
  tail = packet_rest kept comment

  abbrev body : List ℕ
  body = body_of side time many kept comment

  tail_length : length tail ≡ (length kept + 3) / 4 * 4 + (4 + ((length comment + 3) / 4 * 4 + 4))
  tail_length =
      let o = option_of 1 comment in
      let f = filled kept (o ++ ending) in
      let a : o ++ ending ≡ little_bytes 2 1 ++ (little_bytes 2 (length comment) ++ (comment ++ (padding (length comment) ++ ending))) =
      append_assoc (little_bytes 2 1) (little_bytes 2 (length comment) ++ (comment ++ padding (length comment))) ending
      ∙ ap (λ l. little_bytes 2 1 ++ l) (append_assoc (little_bytes 2 (length comment)) (comment ++ padding (length comment)) ending
      ∙ ap (λ l. little_bytes 2 (length comment) ++ l) (append_assoc comment (padding (length comment)) ending)) in
      let b = ap length a in
      let c = length-append (little_bytes 2 1) (little_bytes 2 (length comment) ++ (comment ++ (padding (length comment) ++ ending))) in
      let d = length-append (little_bytes 2 (length comment)) (comment ++ (padding (length comment) ++ ending)) in
      let e = filled comment ending in
      omega (arith, f, b, c, d, e, two 1, two (length comment))

  body_length : length body ≡ 20 + length tail
  body_length =
      let a = length-append (little_bytes 4 (number_of side)) (little_bytes 4 (time / 2 ^ 32) ++ (little_bytes 4 (time % 2 ^ 32) ++ (little_bytes 4 (length kept) ++ (little_bytes 4 many ++ tail)))) in
      let b = length-append (little_bytes 4 (time / 2 ^ 32)) (little_bytes 4 (time % 2 ^ 32) ++ (little_bytes 4 (length kept) ++ (little_bytes 4 many ++ tail))) in
      let c = length-append (little_bytes 4 (time % 2 ^ 32)) (little_bytes 4 (length kept) ++ (little_bytes 4 many ++ tail)) in
      let d = length-append (little_bytes 4 (length kept)) (little_bytes 4 many ++ tail) in
      let e = length-append (little_bytes 4 many) tail in
      omega (arith, a, b, c, d, e, four (number_of side), four (time / 2 ^ 32), four (time % 2 ^ 32), four (length kept), four many)

  -- the lengths alone
  padded_length : length body ≡ 20 + ((length kept + 3) / 4 * 4 + (4 + ((length comment + 3) / 4 * 4 + 4)))
  padded_length = body_length ∙ ap (λ n. 20 + n) tail_length

  short_body : length body + 12 < 2 ^ 32
  short_body = small (length body) (length kept) (length comment) padded_length short brief

  even_body : length body % 4 ≡ 0
  even_body = even (length body) (length kept) (length comment) padded_length

  long_body : 20 + length kept ≤ length body
  long_body = long_enough (length body) (length kept) (length comment) padded_length

  -- what follows each of the numbers
  abbrev rest16 : List ℕ
  rest16 = little_bytes 4 many ++ tail

  abbrev rest12 : List ℕ
  rest12 = little_bytes 4 (length kept) ++ rest16

  abbrev rest8 : List ℕ
  rest8 = little_bytes 4 (time % 2 ^ 32) ++ rest12

  abbrev rest4 : List ℕ
  rest4 = little_bytes 4 (time / 2 ^ 32) ++ rest8

  at0 : number_at Little 4 0 body ≡ number_of side
  at0 = reads (number_of side) rest4 (numbers_few side)

  drop4 : drop 4 body ≡ rest4
  drop4 = behind 4 (little_bytes 4 (number_of side)) rest4 (four (number_of side))

  drop8 : drop 8 body ≡ rest8
  drop8 =
      further 4 4 (little_bytes 4 (number_of side)) rest4 (four (number_of side))
      ∙ behind 4 (little_bytes 4 (time / 2 ^ 32)) rest8 (four (time / 2 ^ 32))

  drop12 : drop 12 body ≡ rest12
  drop12 =
      further 4 8 (little_bytes 4 (number_of side)) rest4 (four (number_of side))
      ∙ (further 4 4 (little_bytes 4 (time / 2 ^ 32)) rest8 (four (time / 2 ^ 32))
      ∙ behind 4 (little_bytes 4 (time % 2 ^ 32)) rest12 (four (time % 2 ^ 32)))

  drop16 : drop 16 body ≡ rest16
  drop16 =
      further 4 12 (little_bytes 4 (number_of side)) rest4 (four (number_of side))
      ∙ (further 4 8 (little_bytes 4 (time / 2 ^ 32)) rest8 (four (time / 2 ^ 32))
      ∙ (further 4 4 (little_bytes 4 (time % 2 ^ 32)) rest12 (four (time % 2 ^ 32))
      ∙ behind 4 (little_bytes 4 (length kept)) rest16 (four (length kept))))

  drop20 : drop 20 body ≡ tail
  drop20 =
      further 4 16 (little_bytes 4 (number_of side)) rest4 (four (number_of side))
      ∙ (further 4 12 (little_bytes 4 (time / 2 ^ 32)) rest8 (four (time / 2 ^ 32))
      ∙ (further 4 8 (little_bytes 4 (time % 2 ^ 32)) rest12 (four (time % 2 ^ 32))
      ∙ (further 4 4 (little_bytes 4 (length kept)) rest16 (four (length kept))
      ∙ behind 4 (little_bytes 4 many) tail (four many))))

  at4 : number_at Little 4 4 body ≡ time / 2 ^ 32
  at4 = ap (little_number 4) drop4 ∙ reads (time / 2 ^ 32) rest8 (upper_few time counted)

  at8 : number_at Little 4 8 body ≡ time % 2 ^ 32
  at8 = ap (little_number 4) drop8 ∙ reads (time % 2 ^ 32) rest12 (lower_few time)

  at12 : number_at Little 4 12 body ≡ length kept
  at12 = ap (little_number 4) drop12 ∙ reads (length kept) rest16 (kept_few (length kept) short)

  at16 : number_at Little 4 16 body ≡ many
  at16 = ap (little_number 4) drop16 ∙ reads many tail few

  captured : take (number_at Little 4 12 body) (drop 20 body) ≡ kept
  captured = ap (λ k. take k (drop 20 body)) at12 ∙ (ap (take (length kept)) drop20 ∙ take-append_seam kept (padding (length kept) ++ (option_of 1 comment ++ ending)))

  stamped : number_at Little 4 4 body * 2 ^ 32 + number_at Little 4 8 body ≡ time
  stamped = ap (λ u. u * 2 ^ 32 + number_at Little 4 8 body) at4 ∙ (ap (λ l. time / 2 ^ 32 * 2 ^ 32 + l) at8 ∙ halves time)

  -- the packet is read
  body_read : (place : ℕ) (rest : List ℕ) (frame : Result (List ℕ) LeftOut) → frame_of (link_of side) many kept ≡ frame
      → enhanced place interfaces (record { endian = Little; kind = 6; body = body; after = rest }) ≡ Ok (record { time = Some time; frame = frame })
  body_read place rest frame is =
      let b : Framed = record { endian = Little; kind = 6; body = body; after = rest } in
      let enough : nat_lt (length body) 20 ≡ false = not_less (length body) 20 (within 20 (length kept) (length body) long_body) in
      let fits : nat_lt (length (drop 20 body)) (number_at Little 4 12 body) ≡ false =
      not_less (length (drop 20 body)) (number_at Little 4 12 body) (holds_kept (length body) (length tail) (length kept) (length (drop 20 body)) (number_at Little 4 12 body) body_length long_body (ap length drop20) at12) in
      let framed : frame_of (link_of side) (number_at Little 4 16 body) (take (number_at Little 4 12 body) (drop 20 body)) ≡ frame =
      ap (λ f. frame_of (link_of side) (number_at Little 4 16 body) f) captured ∙ (ap (λ k. frame_of (link_of side) k kept) at16 ∙ is) in
      let timed : stamp_in (described_by side) b ≡ time = ap (stamp_of 1000000000) stamped ∙ counts time counted in
      ap (λ (x : Bool). (if x then Err (BadBlock place) else enhanced_of place b (slice_get interfaces (number_at Little 4 0 body)))) enough
      ∙ (ap (λ k. enhanced_of place b (slice_get interfaces k)) at0
      ∙ (ap (enhanced_of place b) (numbered side)
      ∙ (ap (λ (x : Bool). (if x then Err (BadBlock place) else Ok (record { time = Some (stamp_in (described_by side) b); frame = frame_of (link_of side) (number_at Little 4 16 body) (take (number_at Little 4 12 body) (drop 20 body)) }))) fits
      ∙ (ap (λ f. Ok (record { time = Some (stamp_in (described_by side) b); frame = f })) framed
      ∙ ap (λ x. Ok (record { time = Some x; frame = frame })) timed))))

cut_is : (most : ℕ) (l : List ℕ) → cut_to most l ≡ take most l
unfolding cut_to
cut_is most l = refl

framed_by : (most : ℕ) → most < 2 ^ 32 - 1 → (side : Side) (bytes kept : List ℕ) (b : Bool) → kept ≡ take most bytes → nat_lt most (length bytes) ≡ b
    → frame_of (link_of side) (original bytes) kept ≡ (if b then Err Cut else whole_frame side bytes)
framed_by most below side bytes kept true e is =
    let less : nat_lt (length kept) (original bytes) ≡ true = (let l = length-take most bytes in let k = ap length e in grind (arith, nat_tests, is, l, k, below)) in
    ap (λ (x : Bool). (if x then Err Cut else linked_frame (link_of side) kept)) less
framed_by most below side bytes kept false e is =
    let few : length bytes ≤ most = grind (arith, nat_tests, is) in
    let all : kept ≡ bytes = e ∙ take_all most bytes few in
    let less : nat_lt (length kept) (original bytes) ≡ false = (let s = ap length all in grind (arith, nat_tests, s, few)) in
    ap (λ (x : Bool). (if x then Err Cut else linked_frame (link_of side) kept)) less
    ∙ (linked side kept ∙ ap (whole_frame side) all)

-- the frame of a packet that is cut, or isn't
framed_as : (most : ℕ) → most < 2 ^ 32 - 1 → (side : Side) (bytes : List ℕ) → frame_of (link_of side) (original bytes) (cut_to most bytes) ≡ (if nat_lt most (length bytes) then Err Cut else whole_frame side bytes)
framed_as most below side bytes = framed_by most below side bytes (cut_to most bytes) (nat_lt most (length bytes)) (cut_is most bytes) refl

kept_short : (most : ℕ) (bytes : List ℕ) → length (cut_to most bytes) ≤ most
kept_short most bytes = let l = length-take most bytes in let k = ap length (cut_is most bytes) in grind (arith, l, k)

original_few : (bytes : List ℕ) → original bytes < 2 ^ 32
original_few bytes = grind arith

module _ (p : Written) (counted : IsCounted p) where
  pub packet_short : length (packet_body p) + 12 < 2 ^ 32
  packet_short = short_body p.side p.time (original p.bytes) (cut_to most_kept p.bytes) (cut_to 65535 p.comment) counted (original_few p.bytes) (kept_short most_kept p.bytes) (kept_short 65535 p.comment)

  packet_even : length (packet_body p) % 4 ≡ 0
  packet_even = even_body p.side p.time (original p.bytes) (cut_to most_kept p.bytes) (cut_to 65535 p.comment) counted (original_few p.bytes) (kept_short most_kept p.bytes) (kept_short 65535 p.comment)

  packet_read : (place : ℕ) (packets : List Seen) (rest : List ℕ)
      → after_block place (so_far packets) (record { endian = Little; kind = 6; body = packet_body p; after = rest }) ≡ Ok (so_far (packets ++ seen_from p ∷ []))
  packet_read place packets rest =
      ap (with_packet (so_far packets))
      (body_read p.side p.time (original p.bytes) (cut_to most_kept p.bytes) (cut_to 65535 p.comment) counted (original_few p.bytes) (kept_short most_kept p.bytes) (kept_short 65535 p.comment)
      place rest (frame_read p) (framed_as most_kept (lit< tt) p.side p.bytes))

-- ---- the whole file

some : (xs ys : List ℕ) → 0 < length xs → 0 < length (xs ++ ys)
some xs ys h = let l = length-append xs ys in omega (arith, l, h)

splits : (a i o u rest : List ℕ) → (a ++ (i ++ (o ++ u))) ++ rest ≡ a ++ (i ++ (o ++ (u ++ rest)))
splits a i o u rest =
    append_assoc a (i ++ (o ++ u)) rest
    ∙ ap (λ l. a ++ l) (append_assoc i (o ++ u) rest ∙ ap (λ l. i ++ l) (append_assoc o u rest))

-- a section whose interfaces were described so far
abbrev with : List Described → State
with described = record { endian = Little; interfaces = described; packets = [] }

-- the bytes of an interface
abbrev bytes_of : Side → List ℕ
bytes_of In = 105 ∷ 0 ∷ 0 ∷ 0 ∷ 0 ∷ 0 ∷ 4 ∷ 0 ∷ 2 ∷ 0 ∷ 2 ∷ 0 ∷ 105 ∷ 110 ∷ 0 ∷ 0 ∷ 9 ∷ 0 ∷ 1 ∷ 0 ∷ 9 ∷ 0 ∷ 0 ∷ 0 ∷ 0 ∷ 0 ∷ 0 ∷ 0 ∷ []
bytes_of Out = 105 ∷ 0 ∷ 0 ∷ 0 ∷ 0 ∷ 0 ∷ 4 ∷ 0 ∷ 2 ∷ 0 ∷ 3 ∷ 0 ∷ 111 ∷ 117 ∷ 116 ∷ 0 ∷ 9 ∷ 0 ∷ 1 ∷ 0 ∷ 9 ∷ 0 ∷ 0 ∷ 0 ∷ 0 ∷ 0 ∷ 0 ∷ 0 ∷ []
bytes_of Up = 1 ∷ 0 ∷ 0 ∷ 0 ∷ 0 ∷ 0 ∷ 4 ∷ 0 ∷ 2 ∷ 0 ∷ 2 ∷ 0 ∷ 117 ∷ 112 ∷ 0 ∷ 0 ∷ 9 ∷ 0 ∷ 1 ∷ 0 ∷ 9 ∷ 0 ∷ 0 ∷ 0 ∷ 0 ∷ 0 ∷ 0 ∷ 0 ∷ []

spelled : (side : Side) → interface_body side ≡ bytes_of side
spelled In = refl
spelled Out = refl
spelled Up = refl

any_block : (kind : ℕ) (body : List ℕ) → 0 < length (block_of kind body)
any_block kind body =
    let l = length-append (little_bytes 4 kind) (little_bytes 4 (length body + 12) ++ (body ++ little_bytes 4 (length body + 12))) in
    let f = four kind in
    omega (arith, l, f)

short_interface : (side : Side) → length (bytes_of side) + 12 < 2 ^ 32
short_interface In = lit< tt
short_interface Out = lit< tt
short_interface Up = lit< tt

even_interface : (side : Side) → length (bytes_of side) % 4 ≡ 0
even_interface In = refl
even_interface Out = refl
even_interface Up = refl

module _ (file : List ℕ) where
  packet_passed : (p : Written) → IsCounted p → (packets : List Seen) (rest : List ℕ) → Reached file (so_far packets) (packet_block p ++ rest) → Reached file (so_far (packets ++ seen_from p ∷ [])) rest
  packet_passed p counted packets rest reached =
      let bytes = packet_block p ++ rest in
      Passed (so_far packets) (so_far (packets ++ seen_from p ∷ [])) bytes (record { endian = Little; kind = 6; body = packet_body p; after = rest }) reached
      (some (packet_block p) rest (any_block 6 (packet_body p)))
      (read_as (place_of file bytes) 6 (packet_body p) rest (lit< tt) (packet_short p counted) (packet_even p counted) refl)
      (packet_read p counted (place_of file bytes) packets rest)

  passed : (written : List Written) → AreCounted written → (packets : List Seen) → Reached file (so_far packets) (blocks_of written) → Reached file (so_far (packets ++ map seen_from written)) []
  passed [] counted packets reached = let P : List Seen → Type 0 = λ l. Reached file (so_far l) [] in subst P (sym (append-nil packets)) reached
  passed (p ∷ written) counted packets reached =
      let P : List Seen → Type 0 = λ l. Reached file (so_far l) [] in
      subst P (append_assoc packets (seen_from p ∷ []) (map seen_from written)) (passed written counted.1 (packets ++ seen_from p ∷ []) (packet_passed p counted.0 packets (blocks_of written) reached))

  begun_section : (place : ℕ) (rest : List ℕ) → after_block place opening (record { endian = Little; kind = section; body = section_body; after = rest }) ≡ Ok (with [])
  begun_section place rest = refl

  described : (side : Side) (before : List Described) (place : ℕ) (rest : List ℕ)
      → after_block place (with before) (record { endian = Little; kind = 1; body = bytes_of side; after = rest }) ≡ Ok (with (before ++ described_by side ∷ []))
  unfolding resolution_in
  described In before place rest = refl
  described Out before place rest = refl
  described Up before place rest = refl

  interface_passed : (side : Side) (before : List Described) (rest : List ℕ) → Reached file (with before) (block_of 1 (interface_body side) ++ rest) → Reached file (with (before ++ described_by side ∷ [])) rest
  interface_passed side before rest reached =
      let bytes = block_of 1 (bytes_of side) ++ rest in
      let P : List ℕ → Type 0 = λ l. Reached file (with before) (block_of 1 l ++ rest) in
      Passed (with before) (with (before ++ described_by side ∷ [])) bytes (record { endian = Little; kind = 1; body = bytes_of side; after = rest }) (subst P (spelled side) reached)
      (some (block_of 1 (bytes_of side)) rest (any_block 1 (bytes_of side))) (read_as (place_of file bytes) 1 (bytes_of side) rest (lit< tt) (short_interface side) (even_interface side) refl)
      (described side before (place_of file bytes) rest)

  after_heading : (rest : List ℕ) → Reached file opening (heading ++ rest) → Reached file (so_far []) rest
  after_heading rest reached =
      let i = block_of 1 (interface_body In) in
      let o = block_of 1 (interface_body Out) in
      let u = block_of 1 (interface_body Up) in
      let more = i ++ (o ++ (u ++ rest)) in
      let from = subst (λ l. Reached file opening l) (splits (block_of section section_body) i o u rest) reached in
      let one = Passed opening (with []) (block_of section section_body ++ more) (record { endian = Little; kind = section; body = section_body; after = more }) from
      (some (block_of section section_body) more (any_block section section_body)) (read_section (place_of file (block_of section section_body ++ more)) more) (begun_section (place_of file (block_of section section_body ++ more)) more) in
      interface_passed Up (described_by In ∷ described_by Out ∷ []) rest
      (interface_passed Out (described_by In ∷ []) (u ++ rest) (interface_passed In [] (o ++ (u ++ rest)) one))

pub holds : (written : List Written) → AreCounted written → HoldsBlocks (file_of written) (map seen_from written)
holds written counted =
    let file = file_of written in
    record {
      state = so_far (map seen_from written);
      reached = passed file written counted [] (after_heading file (blocks_of written) Opened);
      are = refl;
    }

-- what is read of a written file is what was written
pub reads_back : (written : List Written) → AreCounted written → (seen : List Seen) → Holds (file_of written) seen ↔ (seen ≡ map seen_from written)
reads_back written counted seen = (
  λ h. unique (file_of written) seen (map seen_from written) h (holds written counted),
  λ e. let P : List Seen → Type 0 = λ l. HoldsBlocks (file_of written) l in subst P (sym e) (holds written counted),
)
