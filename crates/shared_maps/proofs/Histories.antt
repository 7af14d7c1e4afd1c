-- Histories with accesses appended.
use Rattle.std.proofs.Common.{◌≡◌, ℕ, zero, suc, eqb, eq-eqb, ne_eqb, ◌<◌, ◌≢◌, Bool, true, false, cond, List, [], ◌∷◌, ◌++◌, length, slice_index, refl, sym, ap, ◌∙◌, subst, append_assoc, arith}
use Rattle.std.proofs.lemmas.List.{append-nil, length-set}
use mathlib.Core.Option.{some, some-ne-none}
use lib.ListN.{get_elem?}
use Rattle.bpf_regions.specs.declared.maps.Shape.{Shape}
use Rattle.bpf_regions.specs.declared.maps.WordWidth.{WordWidth}
use Rattle.bpf_regions.specs.declared.maps.MapOp.{MapOp}
use Rattle.bpf_regions.specs.declared.maps.MapOp.TheVariants.{Load, Store, Swap, Add, Or, And, Xor, CompareExchange}
use Rattle.shared_maps.specs.declared.seen.Entry.{Entry}
use Rattle.shared_maps.specs.History.{modulus, answer_to, IsAnswer, entry, array_after, array_of, zeros, Answers, IsLegal, accesses_by, StartsWith}
use Rattle.shared_maps.specs.Seats.{Known, Extends}

pub length-array_of : (m : ℕ) (array : List ℕ) (es : List Entry) → length (array_of m array es) ≡ length array
length-array_of m array [] = refl
length-array_of m array (e ∷ es) = length-array_of m (array_after m array e) es ∙ length-set array e.word _

pub array_of-append : (m : ℕ) (array : List ℕ) (xs ys : List Entry) → array_of m array (xs ++ ys) ≡ array_of m (array_of m array xs) ys
array_of-append m array [] ys = refl
array_of-append m array (e ∷ es) ys = array_of-append m (array_after m array e) es ys

pub Answers-append : (m : ℕ) (array : List ℕ) (xs ys : List Entry) → Answers m array xs → Answers m (array_of m array xs) ys → Answers m array (xs ++ ys)
Answers-append m array [] ys a b = b
Answers-append m array (e ∷ es) ys a b = (a.0, a.1, Answers-append m (array_after m array e) es ys a.2 b)

pub Answers-begin : (m : ℕ) (array : List ℕ) (xs ys : List Entry) → Answers m array (xs ++ ys) → Answers m array xs
Answers-begin m array [] ys a = tt
Answers-begin m array (e ∷ es) ys a = (a.0, a.1, Answers-begin m (array_after m array e) es ys a.2)

cond-append : (b : Bool) (e : Entry) (xs ys : List Entry) → cond b (e ∷ (xs ++ ys)) (xs ++ ys) ≡ cond b (e ∷ xs) xs ++ ys
cond-append true e xs ys = refl
cond-append false e xs ys = refl

pub accesses_by-append : (seat : ℕ) (xs ys : List Entry) → accesses_by seat (xs ++ ys) ≡ accesses_by seat xs ++ accesses_by seat ys
accesses_by-append seat [] ys = refl
accesses_by-append seat (e ∷ es) ys = ap (λ (zs : List Entry). cond (eqb e.seat seat) (e ∷ zs) zs) (accesses_by-append seat es ys) ∙ cond-append (eqb e.seat seat) e (accesses_by seat es) (accesses_by seat ys)

-- one more access, by this seat or by another
pub accesses_by-own : (seat : ℕ) (es : List Entry) (e : Entry) → e.seat ≡ seat → accesses_by seat (es ++ e ∷ []) ≡ accesses_by seat es ++ e ∷ []
accesses_by-own seat es e is = accesses_by-append seat es (e ∷ []) ∙ ap (λ (b : Bool). accesses_by seat es ++ cond b (e ∷ []) []) (eq-eqb e.seat seat is)

pub accesses_by-other : (seat : ℕ) (es : List Entry) (e : Entry) → e.seat ≢ seat → accesses_by seat (es ++ e ∷ []) ≡ accesses_by seat es
accesses_by-other seat es e other = accesses_by-append seat es (e ∷ []) ∙ (ap (λ (b : Bool). accesses_by seat es ++ cond b (e ∷ []) []) (ne_eqb e.seat seat other) ∙ append-nil (accesses_by seat es))

pub starts_longer : (history seen : List Entry) (e : Entry) → StartsWith history seen → StartsWith (history ++ e ∷ []) seen
starts_longer history seen e s = (s.0 ++ e ∷ [], ap (λ (zs : List Entry). zs ++ e ∷ []) s.1 ∙ append_assoc seen s.0 (e ∷ []))

pub in_range : {A : Type 0} (xs : List A) (i : ℕ) (a : A) → get_elem? xs i ≡ some a → i < length xs
in_range [] i a e = absurd (some-ne-none a (sym e))
in_range (x ∷ xs) zero a e = omega arith
in_range (x ∷ xs) (suc i) a e = let h = in_range xs i a e in omega arith

-- the last answer of a legal history
last_answer : (m : ℕ) (array : List ℕ) (es : List Entry) (e : Entry) → Answers m array (es ++ e ∷ []) → e.answer ≡ answer_to e.operation (slice_index (array_of m array es) e.word)
last_answer m array [] e a = a.1
last_answer m array (x ∷ es) e a = last_answer m (array_after m array x) es e a.2

is_answer : (width : WordWidth) (operation : MapOp) (n answer : ℕ) → answer ≡ answer_to operation n → answer < modulus width → IsAnswer width operation answer
is_answer width (Load) n answer is low = low
is_answer width (Store x) n answer is low = is
is_answer width (Swap x) n answer is low = low
is_answer width (Add x) n answer is low = low
is_answer width (Or x) n answer is low = low
is_answer width (And x) n answer is low = low
is_answer width (Xor x) n answer is low = low
is_answer width (CompareExchange x y) n answer is low = low

-- an answer in range is one that its operation may get
pub answers_in_range : (shape : Shape) (v : Known) (word : ℕ) (operation : MapOp) (answer : ℕ) (w : Known) → Extends shape v word operation answer w → answer < modulus shape.width → IsAnswer shape.width operation answer
answers_in_range shape v word operation answer w made low =
    let es : List Entry = v.seen ++ made.between in
    is_answer shape.width operation (slice_index (array_of (modulus shape.width) (zeros shape) es) word) answer
    (last_answer (modulus shape.width) (zeros shape) es (entry v.number word operation answer) (subst (λ (history : List Entry). IsLegal shape history) made.seen made.witnessed.legal)) low
