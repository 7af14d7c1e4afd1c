-- A file with sections holds the packets of one list alone.
use Rattle.std.proofs.Common.{◌≡◌, ◌<◌, ◌⊎◌, ◌∙◌, ℕ, List, [], length, Result, Ok, inl, inr, refl, sym, ap, subst, arith}
use Rattle.capture.specs.declared.fault.CaptureFault.{CaptureFault}
use Rattle.capture.specs.Blocks.{Framed, block_at}
use Rattle.capture.specs.Packets.{Seen}
use Rattle.capture.specs.Sections.{State, Reached, Opened, Passed, opening, after_block, place_of, HoldsBlocks}

-- blocks lead from a point of a file to an end
data Goes (file : List ℕ) (u : State) (end : List ℕ) : State → List ℕ → Type 0 where
  Rests : Goes file u end u end
  Steps : (s t : State) (rest : List ℕ) (block : Framed) → 0 < length rest → block_at (place_of file rest) s.endian rest ≡ Ok block
      → after_block (place_of file rest) s block ≡ Ok t → Goes file u end t block.after → Goes file u end s rest

-- one more block
goes_on : {file : List ℕ} {u : State} {end : List ℕ} {s : State} {rest : List ℕ} → (v : State) (block : Framed) → Goes file u end s rest → 0 < length end → block_at (place_of file end) u.endian end ≡ Ok block
    → after_block (place_of file end) u block ≡ Ok v → Goes file v block.after s rest
goes_on {file} {u} {end} v block Rests some is leads = Steps u v end block some is leads Rests
goes_on v block (Steps s t rest b some0 is0 leads0 g) some is leads = Steps s t rest b some0 is0 leads0 (goes_on v block g some is leads)

from_opening : (file : List ℕ) (s : State) (rest : List ℕ) → Reached file s rest → Goes file s rest opening file
from_opening file s rest Opened = Rests
from_opening file t rest (Passed s _ rest0 block reached some is leads) = goes_on t block (from_opening file s rest0 reached) some is leads

abbrev ok : {X : Type 0} → X → Result X CaptureFault
ok x = Ok x

framed_is : (x y : Framed) (r : Result Framed CaptureFault) → r ≡ ok x → r ≡ ok y → x ≡ y
framed_is x y r a b = let same : ok x ≡ ok y = sym a ∙ b in cc

state_is : (x y : State) (r : Result State CaptureFault) → r ≡ ok x → r ≡ ok y → x ≡ y
state_is x y r a b = let same : ok x ≡ ok y = sym a ∙ b in cc

-- of two points that are reached from one, one is reached from the other
either : {file : List ℕ} {u : State} {end : List ℕ} {v : State} {stop : List ℕ} {s : State} {rest : List ℕ} → Goes file u end s rest → Goes file v stop s rest
    → Goes file u end v stop ⊎ Goes file v stop u end
either Rests h = inr h
either (Steps s t rest b some is leads g) Rests = inl (Steps s t rest b some is leads g)
either {file} {u} {end} {v} {stop} (Steps s t rest b some is leads g) (Steps _ t2 _ b2 some2 is2 leads2 h) =
    let same : b2 ≡ b = framed_is b2 b (block_at (place_of file rest) s.endian rest) is2 is in
    let led = subst (λ (x : Framed). after_block (place_of file rest) s x ≡ Ok t2) same leads2 in
    let alike : t2 ≡ t = state_is t2 t (after_block (place_of file rest) s b) led leads in
    let first = subst (λ (x : Framed). Goes file v stop t2 x.after) same h in
    either g (subst (λ (x : State). Goes file v stop x b.after) alike first)

-- nothing follows the end
ended : (file : List ℕ) (u s : State) (end rest : List ℕ) → Goes file u end s rest → rest ≡ [] → s ≡ u
ended file u s end rest Rests none = refl
ended file u s end rest (Steps _ t _ b some is leads g) none = absurd (let P : List ℕ → Type 0 = λ l. 0 < length l in omega (arith, subst P none some))

pub unique : (file : List ℕ) (p q : List Seen) → HoldsBlocks file p → HoldsBlocks file q → p ≡ q
unique file p q h k =
    let g = from_opening file h.state [] h.reached in
    let g2 = from_opening file k.state [] k.reached in
    let same : h.state ≡ k.state = elim (either g g2) [
      | inl on ↦ sym (ended file h.state k.state [] [] on refl)
      | inr on ↦ ended file k.state h.state [] [] on refl
    ] in
    h.are ∙ ap (λ (s : State). s.packets) same ∙ sym k.are
