-- What a window releases, and what it holds afterwards, was held before or has just come.
use Rattle.std.proofs.Common.{◌≡◌, ◌≢◌, ℕ, zero, suc, ◌+◌, ◌-◌, ◌%◌, ◌<◌, ◌≤◌, ◌⊎◌, inl, inr, ⊎_elim, Bool, true, false, cond, Option, Some, List, [], ◌∷◌, ◌++◌, map, refl, sym, ap, ◌∙◌, subst, arith, append_assoc, add-suc, add-zero}
use Rattle.std.specs.Prelude.{Contains}
use Rattle.std.proofs.lemmas.Bool.{cases_eq, eq-eqb, ne_eqb}
use Rattle.std.proofs.lemmas.List.{append-nil, append_cancel_left}
use Rattle.std.proofs.lemmas.List.Elements.{Contains-append_cases, Contains-push_cases, Contains-push, Contains-append_left, Contains-append_right}
use Rattle.blockack.specs.Window.{Items, Window, with_item, TakesData, RequestStep}
use Rattle.blockack.specs.Passed.{frame_of, frames_below, passed, PassesUp}
use Rattle.blockack.specs.Reading.{Reading, Reads, held_at, window_of, DataMovesWindow, RequestMovesWindow, EndPassesUp}
use Rattle.blockack.proofs.BelowLaws.{none_in_none, frame_in}
use Rattle.blockack.proofs.SameLaws.{have_windows}

-- each member of the image of a list is the image of a member
pub from_map : {X Y : Type 0} (f : X → Y) (xs : List X) (y : Y) → Contains (map f xs) y → (x : X) × Contains xs x × (f x ≡ y)
from_map f [] y p = absurd (none_in_none y p)
from_map f (x ∷ xs) y p =
    ⊎_elim
    (λ head. ⊎_elim (λ none. absurd (none_in_none y none)) (λ e. (x, Contains-append_left (x ∷ []) xs x (Contains-push [] x), e)) (Contains-push_cases [] (f x) y head))
    (λ tail. let r = from_map f xs y tail in (r.0, Contains-append_right (x ∷ []) xs r.0 r.1, r.2))
    (Contains-append_cases (f x ∷ []) (map f xs) y p)

module _ {F : Type 0} where
  -- the frames of the j numbers from w on
  pub span : Items F → ℕ → ℕ → List (ℕ × F)
  span taken w zero = []
  span taken w (suc j) = span taken w j ++ frame_of (w + j) (taken (w + j))

  pub below_span : (taken : Items F) (w j : ℕ) → frames_below taken (w + j) ≡ frames_below taken w ++ span taken w j
  unfolding span
  below_span taken w zero = rw add-zero (sym (append-nil (frames_below taken w)))
  below_span taken w (suc j) =
      let ih : frames_below taken (w + j) ≡ frames_below taken w ++ span taken w j = below_span taken w j in
      rw add-suc (ap (λ xs. xs ++ frame_of (w + j) (taken (w + j))) ih ∙ append_assoc (frames_below taken w) (span taken w j) (frame_of (w + j) (taken (w + j))))

  -- only what is below the start counts
  pub below_alike : (one other : Items F) (w : ℕ) → ((k : ℕ) → k < w → one k ≡ other k) → frames_below one w ≡ frames_below other w
  below_alike one other zero alike = refl
  below_alike one other (suc w) alike =
      let ih : frames_below one w ≡ frames_below other w = below_alike one other w (λ k lt. alike k (omega arith)) in
      let last : one w ≡ other w = alike w (omega arith) in
      ap (λ xs. xs ++ frame_of w (one w)) ih ∙ ap (λ o. frames_below other w ++ frame_of w o) last

  pub span_in : (taken : Items F) (w j : ℕ) (p : ℕ × F) → Contains (span taken w j) p → (w ≤ p.0) × (p.0 < w + j) × (taken p.0 ≡ Some (Some p.1))
  unfolding span
  span_in taken w zero p c = absurd (none_in_none p c)
  span_in taken w (suc j) p c =
      ⊎_elim
      (λ before. let ih = span_in taken w j p before in let low = ih.0 in let high = ih.1 in (low, omega arith, ih.2))
      (λ last. let f = frame_in (w + j) (taken (w + j)) p last in let e = f.0 in (omega arith, omega arith, ap taken f.0 ∙ f.1))
      (Contains-append_cases (span taken w j) (frame_of (w + j) (taken (w + j))) p c)

  -- what a window releases when it moves is the frames between its two starts
  pub handed_up : (old new : Window F) (frames : List (ℕ × F)) → ((k : ℕ) → k < old.start → new.taken k ≡ old.taken k) → old.start ≤ new.start → passed new ≡ passed old ++ frames → frames ≡ span new.taken old.start (new.start - old.start)
  handed_up old new frames alike le grows =
      let far : old.start + (new.start - old.start) ≡ new.start = omega arith in
      append_cancel_left (passed old) frames (span new.taken old.start (new.start - old.start))
      (sym grows ∙ ap (frames_below new.taken) (sym far) ∙ below_span new.taken old.start (new.start - old.start) ∙
      ap (λ xs. xs ++ span new.taken old.start (new.start - old.start)) (below_alike new.taken old.taken old.start alike))

  -- a window that holds this frame, which has this sequence number
  pub record Holds (window : Window F) (number : ℕ) (frame : F) : Type 0 where
    pub n : ℕ
    pub from_start : window.start ≤ n
    pub is : window.taken n ≡ Some (Some frame)
    pub residue : n % 4096 ≡ number

  -- readings that hold it
  pub record HoldsAt (v : Reading F) (number : ℕ) (frame : F) : Type 0 where
    pub place : ℕ
    pub is : held_at v place ≡ Some (Some frame)
    pub residue : (v.start + place) % 4096 ≡ number

  pub read_holds : (window : Window F) (v : Reading F) (number : ℕ) (frame : F) → Reads window v → Holds window number frame → HoldsAt v number frame
  read_holds window v number frame reads h =
      let from = h.from_start in
      let far : window.start + (h.n - window.start) ≡ h.n = omega arith in
      let start = reads.residue in
      let residue = h.residue in
      record { place = h.n - window.start; is = sym (reads.held (h.n - window.start)) ∙ ap window.taken far ∙ h.is; residue = omega arith }

  pub holds_read : (window : Window F) (v : Reading F) (number : ℕ) (frame : F) → Reads window v → HoldsAt v number frame → Holds window number frame
  holds_read window v number frame reads h =
      let start = reads.residue in
      let residue = h.residue in
      record { n = window.start + h.place; from_start = omega arith; is = reads.held h.place ∙ h.is; residue = omega arith }

  -- ---- a window that moves, with what it took
  module _ (old new : Window F) (alike : (k : ℕ) → k < old.start → new.taken k ≡ old.taken k) (le : old.start ≤ new.start) where
    pub out_is : (out : List (ℕ × F)) (p : ℕ × F) → PassesUp old new out → Contains out p → (n : ℕ) × (old.start ≤ n) × (new.taken n ≡ Some (Some p.1)) × (n % 4096 ≡ p.0)
    out_is out p passes inside =
        let P : List (ℕ × F) → Type 0 = λ xs. Contains xs p in
        let Q : List (ℕ × F) → Type 0 = λ xs. Contains xs (from_map (λ x. (x.0 % 4096, x.1)) passes.frames p (subst P passes.sent inside)).0 in
        let m = from_map (λ x. (x.0 % 4096, x.1)) passes.frames p (subst P passes.sent inside) in
        let s = span_in new.taken old.start (new.start - old.start) m.0 (subst Q (handed_up old new passes.frames alike le passes.grows) m.1) in
        (m.0.0, s.0, s.2 ∙ ap (λ x. Some (Some x.1)) m.2, ap (λ x. x.0) m.2)

  with_same : (taken : Items F) (n k : ℕ) (item : Option F) → k ≡ n → with_item taken n item k ≡ Some item
  with_same taken n k item e = ap (λ b. cond b (Some item) (taken k)) (eq-eqb k n e)

  with_other : (taken : Items F) (n k : ℕ) (item : Option F) → k ≢ n → with_item taken n item k ≡ taken k
  with_other taken n k item e = ap (λ b. cond b (Some item) (taken k)) (ne_eqb k n e)

  some_item : (x : Option F) (frame : F) → Some x ≡ Some (Some frame) → x ≡ Some frame
  some_item x frame e = cc

  -- the item that has just come, or one that was held
  abbrev pub CameOrHeld : ℕ → Option F → Reading F → ℕ → F → Type 0
  CameOrHeld number item v k frame = ((k ≡ number) × (item ≡ Some frame)) ⊎ HoldsAt v k frame

  module _ (size number : ℕ) (item : Option F) (old new : Window F) (takes : TakesData size number item old new) where
    pub takes_far : old.start ≤ new.start
    takes_far = let a = takes.next.above in omega arith

    pub takes_alike : (k : ℕ) → k < old.start → new.taken k ≡ old.taken k
    takes_alike k lt =
        let from = takes.brings.from_start in
        let other : k ≢ takes.n = λ e. omega arith in
        ap (λ f. f k) takes.gains ∙ with_other old.taken takes.n k item other

    takes_item : (v : Reading F) (k n : ℕ) (frame : F) → Reads old v → old.start ≤ n → new.taken n ≡ Some (Some frame) → n % 4096 ≡ k → CameOrHeld number item v k frame
    takes_item v k n frame reads from is residue =
        ⊎_elim
        (λ e.
        let at : with_item old.taken takes.n item n ≡ Some item = with_same old.taken takes.n n item e in
        let r = takes.brings.is.residue in
        inl ((let q : k ≡ number = omega arith in q), some_item item frame (sym at ∙ ap (λ f. f n) (sym takes.gains) ∙ is)))
        (λ ne. inr (read_holds old v k frame reads (record { n = n; from_start = from; is = sym (with_other old.taken takes.n n item ne) ∙ ap (λ f. f n) (sym takes.gains) ∙ is; residue = residue })))
        (cases_eq n takes.n)

  -- ---- the calls
  pub taken_out : (number : ℕ) (item : Option F) (old new : Reading F) (out : List (ℕ × F)) (p : ℕ × F) → old.start < 4096 → DataMovesWindow true number item old new out → Contains out p → CameOrHeld number item old p.0 p.1
  taken_out number item old new out p fits moves inside =
      let reads : Reads (window_of old) old = have_windows old fits in
      let a = moves (window_of old) reads in
      let o = out_is (window_of old) a.next (takes_alike old.size number item (window_of old) a.next a.step) (takes_far old.size number item (window_of old) a.next a.step) out p a.passes inside in
      takes_item old.size number item (window_of old) a.next a.step old p.0 o.0 p.1 reads o.1 o.2 o.3

  pub taken_held : (number : ℕ) (item : Option F) (old new : Reading F) (out : List (ℕ × F)) (k : ℕ) (frame : F) → old.start < 4096 → DataMovesWindow true number item old new out → HoldsAt new k frame → CameOrHeld number item old k frame
  taken_held number item old new out k frame fits moves held =
      let reads : Reads (window_of old) old = have_windows old fits in
      let a = moves (window_of old) reads in
      let h = holds_read a.next new k frame a.reads held in
      let far = takes_far old.size number item (window_of old) a.next a.step in
      let from = h.from_start in
      takes_item old.size number item (window_of old) a.next a.step old k h.n frame reads (omega arith) h.is h.residue

  pub taken_start : (number : ℕ) (item : Option F) (took : Bool) (old new : Reading F) (out : List (ℕ × F)) → old.start < 4096 → DataMovesWindow took number item old new out → new.start < 4096
  taken_start number item took old new out fits moves =
      let a = moves (window_of old) (have_windows old fits) in
      let e = a.reads.residue in
      omega arith

  pub left_held : (number : ℕ) (item : Option F) (old new : Reading F) (out : List (ℕ × F)) (k : ℕ) (frame : F) → old.start < 4096 → DataMovesWindow false number item old new out → HoldsAt new k frame → HoldsAt old k frame
  left_held number item old new out k frame fits moves held =
      let reads : Reads (window_of old) old = have_windows old fits in
      let a = moves (window_of old) reads in
      let P : Window F → Type 0 = λ w. Holds w k frame in
      read_holds (window_of old) old k frame reads (subst P a.step.stays (holds_read a.next new k frame a.reads held))

  pub request_alike : (number : ℕ) (old new : Window F) → RequestStep number old new → (new.taken ≡ old.taken) × (old.start ≤ new.start)
  request_alike number old new (inl moves) = let a = moves.next.above in let b = moves.beyond in (moves.same, omega arith)
  request_alike number old new (inr stays) = (ap (λ w. w.taken) stays.stays, (let e : new.start ≡ old.start = ap (λ w. w.start) stays.stays in omega arith))

  -- a window that moves and takes nothing
  module _ (v : Reading F) (old new : Window F) (reads : Reads old v) (same : new.taken ≡ old.taken) (le : old.start ≤ new.start) where
    pub moved_out : (out : List (ℕ × F)) (p : ℕ × F) → PassesUp old new out → Contains out p → HoldsAt v p.0 p.1
    moved_out out p passes inside =
        let o = out_is old new (λ k lt. ap (λ f. f k) same) le out p passes inside in
        read_holds old v p.0 p.1 reads (record { n = o.0; from_start = o.1; is = ap (λ f. f o.0) (sym same) ∙ o.2; residue = o.3 })

    pub moved_held : (k : ℕ) (frame : F) → Holds new k frame → HoldsAt v k frame
    moved_held k frame h =
        let from = h.from_start in
        read_holds old v k frame reads (record { n = h.n; from_start = omega arith; is = ap (λ f. f h.n) (sym same) ∙ h.is; residue = h.residue })

  pub request_out : (number : ℕ) (old new : Reading F) (out : List (ℕ × F)) (p : ℕ × F) → old.start < 4096 → RequestMovesWindow number old new out → Contains out p → HoldsAt old p.0 p.1
  request_out number old new out p fits moves inside =
      let reads : Reads (window_of old) old = have_windows old fits in
      let a = moves (window_of old) reads in
      let s = request_alike number (window_of old) a.next a.step in
      moved_out old (window_of old) a.next reads s.0 s.1 out p a.passes inside

  pub request_held : (number : ℕ) (old new : Reading F) (out : List (ℕ × F)) (k : ℕ) (frame : F) → old.start < 4096 → RequestMovesWindow number old new out → HoldsAt new k frame → HoldsAt old k frame
  request_held number old new out k frame fits moves held =
      let reads : Reads (window_of old) old = have_windows old fits in
      let a = moves (window_of old) reads in
      let s = request_alike number (window_of old) a.next a.step in
      moved_held old (window_of old) a.next reads s.0 s.1 k frame (holds_read a.next new k frame a.reads held)

  pub request_start : (number : ℕ) (old new : Reading F) (out : List (ℕ × F)) → old.start < 4096 → RequestMovesWindow number old new out → new.start < 4096
  request_start number old new out fits moves =
      let a = moves (window_of old) (have_windows old fits) in
      let e = a.reads.residue in
      omega arith

  pub end_out : (old : Reading F) (out : List (ℕ × F)) (p : ℕ × F) → old.start < 4096 → EndPassesUp old out → Contains out p → HoldsAt old p.0 p.1
  end_out old out p fits ends inside =
      let reads : Reads (window_of old) old = have_windows old fits in
      let a = ends (window_of old) reads in
      moved_out old (window_of old) a.next reads a.step.same a.step.above out p a.passes inside
