-- Lemmas on what is passed up.
use Rattle.std.proofs.Common.{◌≡◌, ℕ, zero, suc, ◌+◌, ◌-◌, ◌%◌, ◌<◌, ◌≤◌, Option, None, Some, List, [], ◌++◌, refl, sym, ap, ◌∙◌, arith, add-suc, add-zero, append_assoc}
use Rattle.std.proofs.lemmas.List.{append-nil, map-append}
use Rattle.blockack.specs.Window.{Items, Window}
use Rattle.blockack.specs.Passed.{frame_of, frames_below, numbered, PassesUp}
use Rattle.blockack.specs.Ring.{gathered}
use Rattle.blockack.proofs.MoveLaws.{gathered_split}

module _ {F : Type 0} where
  -- the frames of the j numbers from w on
  run : Items F → ℕ → ℕ → List (ℕ × F)
  run a w zero = []
  run a w (suc j) = run a w j ++ frame_of (w + j) (a (w + j))

  below_run : (a : Items F) (w j : ℕ) → frames_below a (w + j) ≡ frames_below a w ++ run a w j
  unfolding run
  below_run a w zero = rw add-zero (sym (append-nil (frames_below a w)))
  below_run a w (suc j) =
      let ih : frames_below a (w + j) ≡ frames_below a w ++ run a w j = below_run a w j in
      rw add-suc (ap (λ xs. xs ++ frame_of (w + j) (a (w + j))) ih ∙ append_assoc (frames_below a w) (run a w j) (frame_of (w + j) (a (w + j))))

  numbered_frame : (n : ℕ) (o : Option (Option F)) → numbered (frame_of n o) ≡ frame_of (n % 4096) o
  numbered_frame n None = refl
  numbered_frame n (Some None) = refl
  numbered_frame n (Some (Some f)) = refl

  gathered_run : (h a : Items F) (w start j : ℕ) → ((i : ℕ) → a (w + i) ≡ h i) → start ≡ w % 4096 → gathered h start j ≡ numbered (run a w j)
  unfolding run gathered
  gathered_run h a w start zero same e = refl
  gathered_run h a w start (suc j) same e =
      let ih : gathered h start j ≡ numbered (run a w j) = gathered_run h a w start j same e in
      let n : (start + j) % 4096 ≡ (w + j) % 4096 = omega arith in
      ap (λ xs. xs ++ frame_of ((start + j) % 4096) (h j)) ih ∙
      ap (λ x. numbered (run a w j) ++ frame_of x (h j)) n ∙
      ap (λ o. numbered (run a w j) ++ frame_of ((w + j) % 4096) o) (sym (same j)) ∙
      ap (λ xs. numbered (run a w j) ++ xs) (sym (numbered_frame (w + j) (a (w + j)))) ∙
      sym (map-append (λ p. (p.0 % 4096, p.1)) (run a w j) (frame_of (w + j) (a (w + j))))

  below_same : (a b : Items F) (w : ℕ) → ((k : ℕ) → k < w → b k ≡ a k) → frames_below b w ≡ frames_below a w
  below_same a b zero same = refl
  below_same a b (suc w) same =
      let ih : frames_below b w ≡ frames_below a w = below_same a b w (λ k lt. same k (omega arith)) in
      let last : b w ≡ a w = same w (omega arith) in
      ap (λ xs. xs ++ frame_of w (b w)) ih ∙ ap (λ o. frames_below a w ++ frame_of w o) last

  -- a move of the window by j places passes up the frames of j slots
  pub passes_up : (h : Items F) (old : Window F) (taken : Items F) (start j : ℕ) → ((i : ℕ) → taken (old.start + i) ≡ h i) → ((k : ℕ) → k < old.start → taken k ≡ old.taken k) → start ≡ old.start % 4096 → PassesUp old (record { taken = taken; start = old.start + j }) (gathered h start j)
  passes_up h old taken start j same below e =
      record {
        frames = run taken old.start j;
        grows = below_run taken old.start j ∙ ap (λ xs. xs ++ run taken old.start j) (below_same old.taken taken old.start below);
        sent = gathered_run h taken old.start start j same e;
      }

  gathered_nones : (g : Items F) (start m : ℕ) → ((i : ℕ) → i < m → g i ≡ None) → gathered g start m ≡ []
  unfolding gathered
  gathered_nones g start zero none = refl
  gathered_nones g start (suc m) none =
      let ih : gathered g start m ≡ [] = gathered_nones g start m (λ i lt. none i (omega arith)) in
      let last : g m ≡ None = none m (omega arith) in
      ap (λ xs. xs ++ frame_of ((start + m) % 4096) (g m)) ih ∙ ap (frame_of ((start + m) % 4096)) last

  pub gathered_last : (h : Items F) (start e n : ℕ) → e ≤ n → ((k : ℕ) → e ≤ k → k < n → h k ≡ None) → gathered h start n ≡ gathered h start e
  gathered_last h start e n le none =
      let q : n ≡ e + (n - e) = omega arith in
      ap (gathered h start) q ∙ gathered_split h (λ i. h (e + i)) start e (n - e) (λ i. refl) ∙
      ap (λ xs. gathered h start e ++ xs) (gathered_nones (λ i. h (e + i)) ((start + e) % 4096) (n - e) (λ i lt. none (e + i) (omega arith) (omega arith))) ∙ append-nil (gathered h start e)
