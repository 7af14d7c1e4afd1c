-- States that are built call frame by call frame.
use Rattle.std.proofs.Common.{◌≡◌, ℕ, zero, suc, ◌+◌, ◌-◌, ◌≤◌, ◌<◌, List, [], ◌∷◌, ◌++◌, length, take, drop, set, get_or, refl, sym, ◌∙◌, ap, arith, length-append}
use Rattle.std.specs.List.{All, AllByRecursion}
use Rattle.std.proofs.lemmas.List.{nil_from_length, length-set, length-take-le, take_more}
use Rattle.std.proofs.lemmas.List.Elements.{All-take, All-from_recursion}
use Rattle.bpf_absval.specs.declared.value.AbsVal.{AbsVal}
use Rattle.bpf_absval.specs.declared.value.AbsVal.TheVariants as abs
use Rattle.bpf_absstate.specs.declared.frames.CallFrame.{CallFrame}
use Rattle.bpf_absstate.specs.View.{View, stack_of, empty_stack, main_frame, stack_end, kept_of, callee_registers, called, entry_view}
use Rattle.bpf_cert_format.specs.declared.frame.Frame.{Frame}
use Rattle.bpf_cert_format.specs.Fits.{FitsFrame, FitsEntry, IsMainFirst}
use Rattle.bpf_cert_format.specs.Views.{EntryView}
use Rattle.bpf_cert.proofs.Filling.{same_within}
use Rattle.bpf_cert.specs.Built.{filled, built, blank_view}
use Rattle.bpf_cert.specs.States.{frames_after, newest_registers}

pub length-frames_after : (kept : List AbsVal) (fs : List Frame) → length (frames_after kept fs) ≡ length fs
unfolding frames_after
length-frames_after kept [] = refl
length-frames_after kept (f ∷ fs) = let e = length-frames_after (kept_of f.registers) fs in omega (arith, e)

-- the last of some frames, with a list of values
frames_more : (kept : List AbsVal) (fs : List Frame) (f : Frame) → 1 ≤ length fs → frames_after kept (fs ++ f ∷ []) ≡ frames_after kept fs ++ record { return_slot = f.return_slot; kept = kept_of (newest_registers fs); stack = f.stack } ∷ []
unfolding frames_after newest_registers
frames_more kept [] f some = absurd (omega (arith, some))
frames_more kept (g ∷ []) f some = refl
frames_more kept (g ∷ h ∷ fs) f some = ap (λ (cs : List CallFrame). record { return_slot = g.return_slot; kept = kept; stack = g.stack } ∷ cs) (frames_more (kept_of g.registers) (h ∷ fs) f (omega arith))

newest_more : (fs : List Frame) (f : Frame) → newest_registers (fs ++ f ∷ []) ≡ f.registers
unfolding newest_registers
newest_more [] f = refl
newest_more (g ∷ []) f = refl
newest_more (g ∷ h ∷ fs) f = newest_more (h ∷ fs) f

drop_set_last : (xs : List AbsVal) (n : ℕ) (x : AbsVal) → length xs ≡ suc n → drop n (set xs n x) ≡ x ∷ []
drop_set_last [] n x e = absurd (omega (arith, e))
drop_set_last (y ∷ xs) zero x e = ap (λ (ys : List AbsVal). x ∷ ys) (nil_from_length xs (omega (arith, e)))
drop_set_last (y ∷ xs) (suc n) x e = drop_set_last xs n x (omega (arith, e))

in_front : {X : Type 0} (xs ys : List X) (k : ℕ) (d : X) → k < length xs → get_or (xs ++ ys) k d ≡ get_or xs k d
in_front [] ys k d lt = absurd (omega (arith, lt))
in_front (x ∷ xs) ys zero d lt = refl
in_front (x ∷ xs) ys (suc k) d lt = in_front xs ys k d (omega (arith, lt))

at_end : {X : Type 0} (xs : List X) (x d : X) → get_or (xs ++ x ∷ []) (length xs) d ≡ x
at_end [] x d = refl
at_end (y ∷ xs) x d = at_end xs x d

set_end : {X : Type 0} (xs : List X) (x y : X) → set (xs ++ x ∷ []) (length xs) y ≡ xs ++ y ∷ []
set_end [] x y = refl
set_end (z ∷ xs) x y = ap (λ (ys : List _). z ∷ ys) (set_end xs x y)

-- R10 of a called function
tenth : (rs : List AbsVal) (d : ℕ) → length rs ≡ 11 → drop 10 (callee_registers rs d) ≡ stack_end d ∷ []
tenth rs d len =
    let inner : List AbsVal = set (set (set (set (set rs 0 abs.Unset) 6 abs.Unset) 7 abs.Unset) 8 abs.Unset) 9 abs.Unset in
    let same : length inner ≡ 11 = length-set _ 9 abs.Unset ∙ length-set _ 8 abs.Unset ∙ length-set _ 7 abs.Unset ∙ length-set _ 6 abs.Unset ∙ length-set rs 0 abs.Unset ∙ len in
    drop_set_last inner 10 (stack_end d) same

kept_front : (vs : List AbsVal) (x : AbsVal) → length vs ≡ 10 → kept_of (vs ++ x ∷ []) ≡ kept_of vs
kept_front vs x len =
    rw (in_front vs (x ∷ []) 6 abs.Unset (omega (arith, len)), in_front vs (x ∷ []) 7 abs.Unset (omega (arith, len)), in_front vs (x ∷ []) 8 abs.Unset (omega (arith, len)), in_front vs (x ∷ []) 9 abs.Unset (omega (arith, len))) refl

abbrev view_with : List AbsVal → List CallFrame → View
view_with rs cs = record entry_view { registers = rs; frames = cs }

same_view : (rs qs : List AbsVal) (cs ds : List CallFrame) → rs ≡ qs → cs ≡ ds → view_with rs cs ≡ view_with qs ds
same_view rs qs cs ds e f = ap (λ (x : List AbsVal). view_with x cs) e ∙ ap (λ (x : List CallFrame). view_with qs x) f

-- the main function's frame
pub built_first : (f : Frame) → f.return_slot ≡ 0 → filled entry_view 0 f ≡ built (f ∷ [])
unfolding frames_after newest_registers
built_first f e =
    same_view (f.registers ++ stack_end 0 ∷ []) (f.registers ++ stack_end 0 ∷ []) _ _ refl
    (ap (λ (n : ℕ). record { return_slot = n; kept = main_frame.kept; stack = f.stack } ∷ []) (sym e))

-- a called function
pub built_more : (fs : List Frame) (f : Frame) → 1 ≤ length fs → length (newest_registers fs) ≡ 10 → filled (called (built fs) 0 f.return_slot) (length fs) f ≡ built (fs ++ f ∷ [])
built_more fs f some ten =
    let rs : List AbsVal = newest_registers fs ++ stack_end (length fs - 1) ∷ [] in
    let cs : List CallFrame = frames_after main_frame.kept fs in
    let depth : length cs ≡ length fs = length-frames_after main_frame.kept fs in
    let new : CallFrame = record { return_slot = f.return_slot; kept = kept_of rs; stack = empty_stack } in
    let eleven : length rs ≡ 11 = omega (arith, ten, length-append (newest_registers fs) (stack_end (length fs - 1) ∷ [])) in
    let last : length (fs ++ f ∷ []) - 1 ≡ length fs = omega (arith, length-append fs (f ∷ [])) in
    let registers : f.registers ++ drop 10 (callee_registers rs (length cs)) ≡ newest_registers (fs ++ f ∷ []) ++ stack_end (length (fs ++ f ∷ []) - 1) ∷ [] =
    ap (λ (t : List AbsVal). f.registers ++ t) (tenth rs (length cs) eleven ∙ ap (λ (n : ℕ). stack_end n ∷ []) (depth ∙ sym last))
    ∙ ap (λ (t : List AbsVal). t ++ stack_end (length (fs ++ f ∷ []) - 1) ∷ []) (sym (newest_more fs f)) in
    let got : get_or (cs ++ new ∷ []) (length fs) main_frame ≡ new = ap (λ (n : ℕ). get_or (cs ++ new ∷ []) n main_frame) (sym depth) ∙ at_end cs new main_frame in
    let frames : set (cs ++ new ∷ []) (length fs) (record (get_or (cs ++ new ∷ []) (length fs) main_frame) { stack = f.stack }) ≡ frames_after main_frame.kept (fs ++ f ∷ []) =
    ap (λ (g : CallFrame). set (cs ++ new ∷ []) (length fs) (record g { stack = f.stack })) got
    ∙ ap (λ (n : ℕ). set (cs ++ new ∷ []) n (record new { stack = f.stack })) (sym depth)
    ∙ set_end cs new (record new { stack = f.stack })
    ∙ ap (λ (k : List AbsVal). cs ++ record { return_slot = f.return_slot; kept = k; stack = f.stack } ∷ []) (kept_front (newest_registers fs) (stack_end (length fs - 1)) ten)
    ∙ sym (frames_more main_frame.kept fs f some) in
    same_view _ _ _ _ registers frames

-- the new frame's stack is unset
pub called_unset : (fs : List Frame) (back : ℕ) → stack_of (called (built fs) 0 back) (length fs) ≡ empty_stack
called_unset fs back =
    let cs : List CallFrame = frames_after main_frame.kept fs in
    let depth : length cs ≡ length fs = length-frames_after main_frame.kept fs in
    ap (λ (n : ℕ). stack_of (called (built fs) 0 back) n) (sym depth) ∙ ap (λ (g : CallFrame). g.stack) (at_end cs _ main_frame)

newest_ten : (fs : List Frame) → 1 ≤ length fs → All (λ f. length f.registers ≡ 10) fs → length (newest_registers fs) ≡ 10
unfolding newest_registers
newest_ten [] some h = absurd (omega (arith, some))
newest_ten (f ∷ []) some h = h 0 f (omega arith)
newest_ten (f ∷ g ∷ fs) some h = newest_ten (g ∷ fs) (omega arith) (λ k d lt. h (suc k) d (omega (arith, lt)))

taken : (fs : List Frame) (k : ℕ) → k ≤ length fs → length (take k fs) ≡ k
taken fs k le = length-take-le k fs le

-- ---- as a loop over the frames builds it

filled_blank : (f : Frame) → filled blank_view 0 f ≡ filled entry_view 0 f
filled_blank f = refl

pub entry_eleven : length entry_view.registers ≡ 11
entry_eleven = refl

pub begins : (fs : List Frame) (s t : View) (f : Frame) → 1 ≤ length fs → IsMainFirst fs → f ≡ get_or fs 0 f → s ≡ blank_view → t ≡ filled s 0 f → t ≡ built (take 1 fs)
begins [] s t f some main is e h = absurd (omega (arith, some))
begins (g ∷ gs) s t f some main is e h =
    h ∙ ap (λ (x : View). filled x 0 f) e ∙ filled_blank f ∙ ap (λ (x : Frame). filled entry_view 0 x) is ∙ built_first g main

pub depth_of : (fs : List Frame) (k : ℕ) (s : View) → k ≤ length fs → s ≡ built (take k fs) → length s.frames ≡ k
depth_of fs k s le e = ap (λ (x : View). length x.frames) e ∙ length-frames_after main_frame.kept (take k fs) ∙ taken fs k le

pub called_lives : (fs : List Frame) (k b : ℕ) (s t : View) → k ≤ length fs → s ≡ built (take k fs) → t ≡ called s 0 b → k < length t.frames
called_lives fs k b s t le e h =
    let depth = depth_of fs k s le e in
    let more : length t.frames ≡ length s.frames + 1 = ap (λ (x : View). length x.frames) h ∙ length-append s.frames _ in
    omega (arith, depth, more)

pub call_unset : (fs : List Frame) (k b : ℕ) (s t : View) → k ≤ length fs → s ≡ built (take k fs) → t ≡ called s 0 b → stack_of t k ≡ empty_stack
call_unset fs k b s t le e h =
    ap (λ (x : View). stack_of x k) (h ∙ ap (λ (x : View). called x 0 b) e)
    ∙ ap (λ (n : ℕ). stack_of (called (built (take k fs)) 0 b) n) (sym (taken fs k le)) ∙ called_unset (take k fs) b

called_registers : (rs : List AbsVal) (depth : ℕ) → length (callee_registers rs depth) ≡ length rs
called_registers rs depth = length-set _ _ _ ∙ length-set _ _ _ ∙ length-set _ _ _ ∙ length-set _ _ _ ∙ length-set _ _ _ ∙ length-set _ _ _

pub called_eleven : (fs : List Frame) (k b : ℕ) (s t : View) → 1 ≤ k → k ≤ length fs → All (λ f. length f.registers ≡ 10) fs → s ≡ built (take k fs) → t ≡ called s 0 b → length t.registers ≡ 11
called_eleven fs k b s t one le ten e h =
    let len : length (take k fs) ≡ k = taken fs k le in
    let some : 1 ≤ length (take k fs) = omega (arith, one, len) in
    let newest = newest_ten (take k fs) some (All-take (λ f. length f.registers ≡ 10) k fs ten) in
    let end : List AbsVal = stack_end (length (take k fs) - 1) ∷ [] in
    let eleven : length (newest_registers (take k fs) ++ end) ≡ 11 = let all = length-append (newest_registers (take k fs)) end in omega (arith, newest, all) in
    ap (λ (x : View). length x.registers) h ∙ called_registers s.registers (length s.frames) ∙ ap (λ (x : View). length x.registers) e ∙ eleven

pub goes_on : (fs : List Frame) (k : ℕ) (s t u : View) (f g : Frame) → 1 ≤ k → k < length fs → All (λ f. length f.registers ≡ 10) fs → g ≡ get_or fs k g →
    s ≡ built (take k fs) → t ≡ called s 0 (get_or fs k f).return_slot → u ≡ filled t k g → u ≡ built (take (k + 1) fs)
goes_on fs k s t u f g one lt ten gis e h w =
    let len : length (take k fs) ≡ k = taken fs k (omega (arith, lt)) in
    let same : get_or fs k f ≡ g = same_within fs k f g lt ∙ sym gis in
    let slot : (get_or fs k f).return_slot ≡ g.return_slot = ap (λ (x : Frame). x.return_slot) same in
    let some : 1 ≤ length (take k fs) = omega (arith, one, len) in
    let more = built_more (take k fs) g some (newest_ten (take k fs) some (All-take (λ f. length f.registers ≡ 10) k fs ten)) in
    w ∙ ap (λ (x : View). filled x k g) (h ∙ ap (λ (x : View). called x 0 (get_or fs k f).return_slot) e ∙ ap (λ (n : ℕ). called (built (take k fs)) 0 n) slot)
    ∙ ap (λ (n : ℕ). filled (called (built (take k fs)) 0 g.return_slot) n g) (sym len) ∙ more
    ∙ ap built (ap (λ (x : Frame). take k fs ++ x ∷ []) gis ∙ sym (take_more fs k g lt))

-- ---- the frames of an entry

pub registers_ten : (maps : ℕ) (e : EntryView) → FitsEntry maps e → All (λ f. length f.registers ≡ 10) e.frames
registers_ten maps e fits = All-from_recursion (λ f. length f.registers ≡ 10) e.frames (each e.frames fits.frames)
  where
    each : (fs : List Frame) → AllByRecursion (FitsFrame maps (length e.frames)) fs → AllByRecursion (λ f. length f.registers ≡ 10) fs
    each [] h = tt
    each (f ∷ fs) h = (h.0.registers, each fs h.1)

pub some_frames : (fs : List Frame) → IsMainFirst fs → 1 ≤ length fs
some_frames [] h = absurd h
some_frames (f ∷ fs) h = omega arith
