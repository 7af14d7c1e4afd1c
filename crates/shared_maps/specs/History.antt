-- Legal map histories: what a plain array of numbers returns for a list of accesses.
use Rattle.std.specs.Prelude.{◌≡◌, ℕ, ◌+◌, ◌*◌, ◌%◌, ◌^◌, ◌<◌, ◌==◌, if◌then◌else◌, List, [], ◌∷◌, ◌++◌, length, slice_index, slice_set, replicate, bit_and, bit_or, bit_xor}
use Rattle.bpf_regions.specs.declared.maps.Shape.{Shape}
use Rattle.bpf_regions.specs.declared.maps.WordWidth.{WordWidth}
use Rattle.bpf_regions.specs.declared.maps.MapOp.{MapOp}
use Rattle.bpf_regions.specs.declared.maps.MapOp.TheVariants.{Load, Store, Swap, Add, Or, And, Xor, CompareExchange}
use Rattle.bpf_regions.specs.Maps.{bytes_of, word_count}
use Rattle.shared_maps.specs.declared.seen.Entry.{Entry}

-- how many numbers a word of this width can hold
abbrev pub modulus : WordWidth → ℕ
modulus width = 2 ^ (8 * bytes_of width)

-- the number after an operation, from n below m; add, or, and, xor, exchange and compare-and-exchange are those of
-- RFC 9669, section 5.3
abbrev pub number_after : ℕ → MapOp → ℕ → ℕ
number_after m Load n = n
number_after m (Store x) n = x % m
number_after m (Swap x) n = x % m
number_after m (Add x) n = (n + x) % m
number_after m (Or x) n = bit_or n (x % m)
number_after m (And x) n = bit_and n (x % m)
number_after m (Xor x) n = bit_xor n (x % m)
number_after m (CompareExchange x y) n = if n == x % m then y % m else n

-- what it returns: 0 for a store, otherwise the old number
abbrev pub answer_to : MapOp → ℕ → ℕ
answer_to Load n = n
answer_to (Store x) n = 0
answer_to (Swap x) n = n
answer_to (Add x) n = n
answer_to (Or x) n = n
answer_to (And x) n = n
answer_to (Xor x) n = n
answer_to (CompareExchange x y) n = n

-- the values an operation may return
abbrev pub IsAnswer : WordWidth → MapOp → ℕ → Type 0
IsAnswer width (Store x) answer = answer ≡ 0
IsAnswer width operation answer = answer < modulus width

-- an access of a seat to a word, with its answer
abbrev pub entry : ℕ → ℕ → MapOp → ℕ → Entry
entry seat word operation answer =
    record { seat = seat; word = word; operation = operation; answer = answer }

-- the array after an access
abbrev pub array_after : ℕ → List ℕ → Entry → List ℕ
array_after m array e =
    slice_set array e.word (number_after m e.operation (slice_index array e.word))

-- the array after all accesses
abbrev pub array_of : ℕ → List ℕ → List Entry → List ℕ
array_of m array [] = array
array_of m array (e ∷ es) = array_of m (array_after m array e) es

-- each access is to a word of the array, and its answer is what the array gives at that point
abbrev pub Answers : ℕ → List ℕ → List Entry → Type 0
Answers m array [] = Unit {0}
Answers m array (e ∷ es) =
    (e.word < length array) × (e.answer ≡ answer_to e.operation (slice_index array e.word))
    × Answers m (array_after m array e) es

-- the words of a new map
abbrev pub zeros : Shape → List ℕ
zeros shape = replicate (word_count shape) 0

-- a legal history of a map of this shape
abbrev pub IsLegal : Shape → List Entry → Type 0
IsLegal shape history = Answers (modulus shape.width) (zeros shape) history

-- the accesses of one seat
abbrev pub accesses_by : ℕ → List Entry → List Entry
accesses_by seat [] = []
accesses_by seat (e ∷ es) = if e.seat == seat then e ∷ accesses_by seat es else accesses_by seat es

-- `seen` is a prefix of the history
abbrev pub StartsWith : List Entry → List Entry → Type 0
StartsWith history seen = (more : List Entry) × (history ≡ seen ++ more)
