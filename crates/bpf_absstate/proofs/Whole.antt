-- Changes that keep a state well formed.
use Rattle.std.proofs.Common.{◌≡◌, ℕ, zero, suc, ◌-◌, ◌<◌, ◌≤◌, List, [], ◌∷◌, length, map, take, refl, sym, ◌∙◌, subst, arith, inl, inr, slice_index_or, slice_set, length-set, replicate}
use Rattle.std.specs.List.{All}
use Rattle.std.proofs.lemmas.List.{length-map, length_push}
use Rattle.std.proofs.lemmas.List.Elements.{All-map, All-set, All-append, All-take}
use Rattle.bpf_absval.specs.WellFormed.{IsVal, IsSlot}
use Rattle.bpf_absval.specs.Unlabelled.{unlabelled, slot_unlabelled}
use Rattle.bpf_stack.proofs.Unsets.{slot_whole}
use Rattle.bpf_absval.specs.declared.value.AbsVal.{AbsVal}
use Rattle.bpf_absval.specs.declared.value.AbsVal.TheVariants as abs
use Rattle.bpf_absval.specs.declared.slot.AbsSlot.{AbsSlot}
use Rattle.bpf_absval.specs.declared.slot.AbsSlot.TheVariants as slot
use Rattle.bpf_absstate.specs.declared.frames.CallFrame.{CallFrame}
use Rattle.bpf_absnum.specs.Laws.{IsNum}
use Rattle.bpf_absnum.specs.Number.{num_single}
use Rattle.std.proofs.lemmas.Bool.{cases_lt}
use Rattle.bpf_absstate.specs.View.{View, main_frame, empty_stack, entry_view, entry_registers, with_register, with_frame_slot, frame_unlabelled, called, returned, without_label, callee_registers, without_arguments, caller_registers, kept_registers}
use Rattle.bpf_absstate.specs.WellFormed.{IsFrame, IsView}

-- reading within a list doesn't depend on the default
pub same_within : {X : Type 0} → (xs : List X) (k : ℕ) (d e : X) → k < length xs → slice_index_or xs k d ≡ slice_index_or xs k e
same_within [] k d e less = absurd (omega (arith, less))
same_within (x ∷ xs) zero d e less = refl
same_within (x ∷ xs) (suc k) d e less = same_within xs k d e (omega (arith, less))

value_forgotten : (label : ℕ) (v : AbsVal) → IsVal v → IsVal (unlabelled label v)
value_forgotten label (abs.Frame offset l) h = h
value_forgotten label (abs.Number n) h = h
value_forgotten label (abs.Pointer at offset) h = h
value_forgotten label abs.Unset h = h
value_forgotten label abs.FrameEnd h = h
value_forgotten label (abs.MapReference m) h = h
value_forgotten label (abs.Lookup m) h = h

all_mapped : {X : Type 0} → (P : X → Type 0) (f : X → X) (xs : List X) → ((x : X) → P x → P (f x)) → All P xs → All P (map f xs)
all_mapped P f xs keeps h = All-map P f xs (λ k d less. keeps _ (h k d less))

pub values_forgotten : (label : ℕ) (vs : List AbsVal) → All IsVal vs → All IsVal (map (unlabelled label) vs)
values_forgotten label vs h = all_mapped IsVal (unlabelled label) vs (value_forgotten label) h

frame_forgotten : (label : ℕ) (f : CallFrame) → IsFrame f → IsFrame (frame_unlabelled label f)
frame_forgotten label f h = record {
  kept = length-map f.kept (unlabelled label) ∙ h.kept;
  values = values_forgotten label f.kept h.values;
  stack = length-map f.stack (slot_unlabelled label) ∙ h.stack;
  slots = all_mapped IsSlot (slot_unlabelled label) f.stack (slot_whole label) h.slots;
}

pub frames_forgotten : (label : ℕ) (fs : List CallFrame) → All IsFrame fs → All IsFrame (map (frame_unlabelled label) fs)
frames_forgotten label fs h = all_mapped IsFrame (frame_unlabelled label) fs (frame_forgotten label) h

pub whole_forgotten : (label : ℕ) (a : View) → IsView a → IsView (without_label a label)
whole_forgotten label a h = record {
  registers = length-map a.registers (unlabelled label) ∙ h.registers;
  values = values_forgotten label a.registers h.values;
  some = let e = length-map a.frames (frame_unlabelled label) in let g = h.some in omega (arith, e, g);
  few = let e = length-map a.frames (frame_unlabelled label) in let g = h.few in omega (arith, e, g);
  frames = frames_forgotten label a.frames h.frames;
}

pub whole_register : (a : View) (r : ℕ) (v : AbsVal) → IsVal v → IsView a → IsView (with_register a r v)
whole_register a r v w h = record {
  registers = length-set a.registers r v ∙ h.registers;
  values = All-set IsVal a.registers r v w h.values;
  some = h.some;
  few = h.few;
  frames = h.frames;
}

main_is_frame : IsFrame main_frame
main_is_frame = record { kept = refl; values = λ k d less. only k d less; stack = refl; slots = λ k d less. unset 64 k d less }
  where
    only : (k : ℕ) (d : AbsVal) → k < 4 → IsVal (slice_index_or main_frame.kept k d)
    only zero d less = tt
    only (suc zero) d less = tt
    only (suc (suc zero)) d less = tt
    only (suc (suc (suc zero))) d less = tt
    only (suc (suc (suc (suc k)))) d less = absurd (omega (arith, less))

    unset : (n k : ℕ) (d : AbsSlot) → k < n → IsSlot (slice_index_or (replicate n slot.Unset) k d)
    unset zero k d less = absurd (omega (arith, less))
    unset (suc n) zero d less = tt
    unset (suc n) (suc k) d less = unset n k d (omega (arith, less))

frame_at : (fs : List CallFrame) (k : ℕ) → All IsFrame fs → IsFrame (slice_index_or fs k main_frame)
frame_at [] k h = main_is_frame
frame_at (f ∷ fs) zero h = h 0 main_frame (omega arith)
frame_at (f ∷ fs) (suc k) h = frame_at fs k (λ j d less. h (suc j) d (omega (arith, less)))

pub frames_slot : (fs : List CallFrame) (k i : ℕ) (s : AbsSlot) → IsSlot s → All IsFrame fs → All IsFrame (with_frame_slot fs k i s)
frames_slot fs k i s w h =
    let f = frame_at fs k h in
    All-set IsFrame fs k _ (record { kept = f.kept; values = f.values; stack = length-set _ i s ∙ f.stack; slots = All-set IsSlot _ i s w f.slots }) h

pub whole_slot : (a : View) (k i : ℕ) (s : AbsSlot) → IsSlot s → IsView a → IsView (record a { frames = with_frame_slot a.frames k i s })
whole_slot a k i s w h = record {
  registers = h.registers;
  values = h.values;
  some = let e = length-set a.frames k (record (slice_index_or a.frames k main_frame) { stack = slice_set (slice_index_or a.frames k main_frame).stack i s }) in let g = h.some in omega (arith, e, g);
  few = let e = length-set a.frames k (record (slice_index_or a.frames k main_frame) { stack = slice_set (slice_index_or a.frames k main_frame).stack i s }) in let g = h.few in omega (arith, e, g);
  frames = frames_slot a.frames k i s w h.frames;
}

-- ---- the numbers 0 and 512

zero_is_number : IsNum (num_single 0)
zero_is_number = record { range_fits = omega arith; signed_fits = omega arith; value_fits = omega arith; mask_fits = omega arith; apart = refl }

end_is_number : IsNum (num_single 512)
end_is_number = record { range_fits = omega arith; signed_fits = omega arith; value_fits = omega arith; mask_fits = omega arith; apart = refl }

-- ---- calls

module _ (rs : List AbsVal) (h : All IsVal rs) where
  pub entered_values : (k : ℕ) → All IsVal (callee_registers rs k)
  entered_values k =
      All-set IsVal _ 10 _ end_is_number (All-set IsVal _ 9 _ tt (All-set IsVal _ 8 _ tt (All-set IsVal _ 7 _ tt (All-set IsVal _ 6 _ tt (All-set IsVal rs 0 _ tt h)))))

  pub entered_long : (k : ℕ) → length (callee_registers rs k) ≡ length rs
  entered_long k =
      length-set _ 10 _ ∙ length-set _ 9 _ ∙ length-set _ 8 _ ∙ length-set _ 7 _ ∙ length-set _ 6 _ ∙ length-set rs 0 _

  pub cleared_values : All IsVal (without_arguments rs)
  cleared_values = All-set IsVal _ 5 _ tt (All-set IsVal _ 4 _ tt (All-set IsVal _ 3 _ tt (All-set IsVal _ 2 _ tt (All-set IsVal rs 1 _ tt h))))

  pub cleared_long : length (without_arguments rs) ≡ length rs
  cleared_long = length-set _ 5 _ ∙ length-set _ 4 _ ∙ length-set _ 3 _ ∙ length-set _ 2 _ ∙ length-set rs 1 _

  value_at : (k : ℕ) → IsVal (slice_index_or rs k abs.Unset)
  value_at k = elim (cases_lt k (length rs)) [
    | inl less ↦ h k abs.Unset less
    | inr past ↦ subst IsVal (sym (past_unset rs k (omega (arith, past)))) tt
  ]
    where
      past_unset : (xs : List AbsVal) (k : ℕ) → length xs ≤ k → slice_index_or xs k abs.Unset ≡ abs.Unset
      past_unset [] k le = refl
      past_unset (x ∷ xs) zero le = absurd (omega (arith, le))
      past_unset (x ∷ xs) (suc k) le = past_unset xs k (omega (arith, le))

caller_values : (rs kept : List AbsVal) (k : ℕ) → All IsVal rs → All IsVal kept → All IsVal (caller_registers rs kept k)
caller_values rs kept k h g =
    All-set IsVal _ 10 _ end_is_number (All-set IsVal _ 9 _ (value_at kept g 3) (All-set IsVal _ 8 _ (value_at kept g 2) (All-set IsVal _ 7 _ (value_at kept g 1)
    (All-set IsVal _ 6 _ (value_at kept g 0) (cleared_values rs h)))))

caller_long : (rs kept : List AbsVal) (k : ℕ) → All IsVal rs → length (caller_registers rs kept k) ≡ length rs
caller_long rs kept k h = length-set _ 10 _ ∙ length-set _ 9 _ ∙ length-set _ 8 _ ∙ length-set _ 7 _ ∙ length-set _ 6 _ ∙ cleared_long rs h

kept_values : (a : View) → IsView a → All IsVal (kept_registers a)
kept_values a h zero d less = value_at a.registers h.values 6
kept_values a h (suc zero) d less = value_at a.registers h.values 7
kept_values a h (suc (suc zero)) d less = value_at a.registers h.values 8
kept_values a h (suc (suc (suc zero))) d less = value_at a.registers h.values 9
kept_values a h (suc (suc (suc (suc k)))) d less = absurd (omega (arith, less))

new_frame : (a : View) (back : ℕ) → IsView a → IsFrame (record { return_slot = back; kept = kept_registers a; stack = empty_stack })
new_frame a back h = record { kept = refl; values = kept_values a h; stack = refl; slots = main_is_frame.slots }

one_frame : (f : CallFrame) → IsFrame f → All IsFrame (f ∷ [])
one_frame f h zero d less = h
one_frame f h (suc k) d less = absurd (omega (arith, less))

pub whole_called : (a : View) (to back : ℕ) → length a.frames < 8 → IsView a → IsView (called a to back)
whole_called a to back few h = record {
  registers = entered_long a.registers h.values (length a.frames) ∙ h.registers;
  values = entered_values a.registers h.values (length a.frames);
  some = let e = length_push a.frames (record { return_slot = back; kept = kept_registers a; stack = empty_stack }) in omega (arith, e);
  few = let e = length_push a.frames (record { return_slot = back; kept = kept_registers a; stack = empty_stack }) in omega (arith, e, few);
  frames = All-append IsFrame a.frames _ h.frames (one_frame _ (new_frame a back h));
}

pub whole_returned : (a : View) → 1 < length a.frames → IsView a → IsView (returned a)
whole_returned a some h =
    let n = length a.frames - 1 in let f = frame_at a.frames n h.frames in
    let long : length (take n a.frames) ≡ n = length_take n a.frames (omega arith) in
    record {
      registers = caller_long a.registers (slice_index_or a.frames n main_frame).kept n h.values ∙ h.registers;
      values = caller_values a.registers (slice_index_or a.frames n main_frame).kept n h.values f.values;
      some = omega (arith, long, some);
      few = let g = h.few in omega (arith, long, g);
      frames = All-take IsFrame n a.frames h.frames;
    }
  where
    length_take : (n : ℕ) (xs : List CallFrame) → n ≤ length xs → length (take n xs) ≡ n
    length_take zero xs le = refl
    length_take (suc n) [] le = absurd (omega (arith, le))
    length_take (suc n) (x ∷ xs) le = let e = length_take n xs (omega (arith, le)) in omega (arith, e)

pub whole_cleared : (a : View) → IsView a → IsView (record a { registers = without_arguments a.registers })
whole_cleared a h = record {
  registers = cleared_long a.registers h.values ∙ h.registers;
  values = cleared_values a.registers h.values;
  some = h.some;
  few = h.few;
  frames = h.frames;
}

pub whole_entry : IsView entry_view
whole_entry = record { registers = refl; values = each; some = omega arith; few = omega arith; frames = one_frame main_frame main_is_frame }
  where
    each : (k : ℕ) (d : AbsVal) → k < 11 → IsVal (slice_index_or entry_registers k d)
    each zero d less = tt
    each (suc zero) d less = zero_is_number
    each (suc (suc zero)) d less = tt
    each (suc (suc (suc zero))) d less = zero_is_number
    each (suc (suc (suc (suc zero)))) d less = tt
    each (suc (suc (suc (suc (suc zero))))) d less = tt
    each (suc (suc (suc (suc (suc (suc zero)))))) d less = tt
    each (suc (suc (suc (suc (suc (suc (suc zero))))))) d less = tt
    each (suc (suc (suc (suc (suc (suc (suc (suc zero)))))))) d less = tt
    each (suc (suc (suc (suc (suc (suc (suc (suc (suc zero))))))))) d less = tt
    each (suc (suc (suc (suc (suc (suc (suc (suc (suc (suc zero)))))))))) d less = end_is_number
    each (suc (suc (suc (suc (suc (suc (suc (suc (suc (suc (suc k))))))))))) d less = absurd (omega (arith, less))
