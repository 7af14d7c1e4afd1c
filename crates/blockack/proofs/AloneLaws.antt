-- Data that is passed up at once and alone.
use Rattle.std.proofs.Common.{◌≡◌, ℕ, ◌+◌, ◌-◌, ◌%◌, ◌<◌, ◌≤◌, ◌≢◌, ◌++◌, ⊎_elim, Option, None, Some, List, get_or, sym, ap, ◌∙◌, arith}
use Rattle.std.specs.Prelude.{is_some}
use Rattle.std.proofs.lemmas.Bool.{cases_lt}
use Rattle.blockack.specs.Window.{IsNextFree, with_item}
use Rattle.blockack.specs.Passed.{frame_of}
use Rattle.blockack.specs.Ring.{ring_at, gathered, ahead, IsSoundRing}
use Rattle.blockack.proofs.SlotLaws.{mod_step, ring_in, ring_out, gathered_none, gathered_more}
use Rattle.blockack.specs.Reading.{IsAlone}
use Rattle.blockack.specs.declared.scoreboard.Bitmap.{Bitmap}
use Rattle.blockack.proofs.MoveLaws.{with_same, with_other, slot_free}
use Rattle.blockack.proofs.ReadingLaws.{seen, held_seen, wanted_in}

module _ {F : Type 0} (slots : List (Option (Option F))) (start size : ℕ) (sound : IsSoundRing slots start size) where
  -- the ring after its first slot, which is empty, is passed
  pub ring_passed : (i : ℕ) → ring_at slots ((start + 1) % 4096) i ≡ ring_at slots start (1 + i)
  ring_passed i =
      ⊎_elim
      (λ lt.
      let near : i < 64 = omega arith in
      let near1 : 1 + i < 64 = omega arith in
      ring_in slots ((start + 1) % 4096) i near ∙ ap (λ k. get_or slots k None) (mod_step start i) ∙ sym (ring_in slots start (1 + i) near1))
      (λ far.
      let out1 : 64 ≤ 1 + i = omega arith in
      let right = ring_out slots start (1 + i) out1 in
      ⊎_elim
      (λ last.
      let place : ((start + 1) % 4096 + i) % 64 ≡ start % 64 = omega arith in
      let first : start % 64 ≡ (start + 0) % 64 = omega arith in
      let zero64 : 0 < 64 = omega arith in
      ring_in slots ((start + 1) % 4096) i last ∙ ap (λ k. get_or slots k None) place ∙ slot_free slots start 0 (start % 64) zero64 first sound.front ∙ sym right)
      (λ past. ring_out slots ((start + 1) % 4096) i past ∙ sym right)
      (cases_lt i 64))
      (cases_lt i 63)

  module _ (number : ℕ) (first : number ≡ start) where
    at_front : ahead start number ≡ 0
    at_front = omega (arith, first)

    -- the window moves past it, and no further
    pub alone_next : (item : Option F) → ring_at slots start 1 ≡ None → IsNextFree (with_item (ring_at slots start) (ahead start number) item) (ahead start number + 1 - size) 1
    alone_next item next =
        let some = sound.some_size in
        let ne : 1 ≢ ahead start number = λ e. omega (arith, at_front, e) in
        record {
          above = omega (arith, at_front, some);
          free = with_other (ring_at slots start) (ahead start number) item 1 ne ∙ next;
          full = λ k le lt.
              let e : k ≡ ahead start number = omega (arith, at_front, lt) in
              ap is_some (with_same (ring_at slots start) (ahead start number) item k e);
        }

    pub alone_rest : (item : Option F) (i : ℕ) → ring_at slots ((start + 1) % 4096) i ≡ with_item (ring_at slots start) (ahead start number) item (1 + i)
    alone_rest item i =
        let ne : 1 + i ≢ ahead start number = λ e. omega (arith, at_front, e) in
        ring_passed i ∙ sym (with_other (ring_at slots start) (ahead start number) item (1 + i) ne)

    pub alone_frames : (item : Option F) → frame_of number (Some item) ≡ gathered (with_item (ring_at slots start) (ahead start number) item) start 1
    alone_frames item =
        let fits = sound.start_fits in
        let items = with_item (ring_at slots start) (ahead start number) item in
        let e : 0 ≡ ahead start number = omega (arith, at_front) in
        let n : (start + 0) % 4096 ≡ number = omega (arith, first, fits) in
        sym (gathered_more items start 0 ∙ ap (λ xs. xs ++ frame_of ((start + 0) % 4096) (items 0)) (gathered_none items start)
        ∙ ap (λ o. frame_of ((start + 0) % 4096) o) (with_same (ring_at slots start) (ahead start number) item 0 e)
        ∙ ap (λ x. frame_of x (Some item)) n)

    -- the test of the next slot is right
    module _ (bitmap : Bitmap) where
      behind : ring_at slots start 1 ≡ get_or slots ((number + 1) % 64) None
      behind =
          let one : 1 < 64 = omega arith in
          let place : (start + 1) % 64 ≡ (number + 1) % 64 = omega (arith, first) in
          ring_in slots start 1 one ∙ ap (λ k. get_or slots k None) place

      pub alone_in : get_or slots ((number + 1) % 64) None ≡ None → IsAlone (seen slots start size bitmap) number
      alone_in none =
          let fits = sound.start_fits in
          let number_fits : number < 4096 = omega (arith, first, fits) in
          let near : ahead start number < 2048 = omega (arith, at_front) in
          let place : number % 64 ≡ (start + 0) % 64 = omega (arith, first) in
          let zero64 : 0 < 64 = omega arith in
          record {
            wanted = wanted_in slots start size bitmap number sound number_fits near (λ lt. slot_free slots start 0 (number % 64) zero64 place sound.front);
            first = first;
            next = held_seen slots start size bitmap 1 ∙ behind ∙ none;
          }

      pub alone_of : IsAlone (seen slots start size bitmap) number → get_or slots ((number + 1) % 64) None ≡ None
      alone_of alone = sym behind ∙ sym (held_seen slots start size bitmap 1) ∙ alone.next
