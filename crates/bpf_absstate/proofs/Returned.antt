-- What remains after a return, given the newest frame and those below it.
use Rattle.std.proofs.Common.{◌≡◌, ℕ, ◌-◌, List, [], ◌∷◌, ◌++◌, length, take, refl, ◌∙◌, ap, arith, slice_index_or}
use Rattle.bpf_absval.specs.declared.value.AbsVal.{AbsVal}
use Rattle.bpf_absstate.specs.declared.frames.CallFrame.{CallFrame}
use Rattle.bpf_absstate.specs.declared.frames.Left.{Left}
use Rattle.bpf_absstate.specs.Popped.{IsPopped}
use Rattle.bpf_absstate.specs.View.{View, main_frame, returned, caller_registers}
use Rattle.std.proofs.lemmas.List.{length_push}
use Rattle.bpf_absstate.proofs.Chained.{get_last}

take_before : {X : Type 0} → (xs : List X) (x : X) → take (length xs) (xs ++ x ∷ []) ≡ xs
take_before [] x = refl
take_before (y ∷ xs) x = ap (λ l. y ∷ l) (take_before xs x)

-- the state after a return
abbrev pub back_in : View → ℕ → List AbsVal → List CallFrame → View
back_in a pc kept below = record a { pc = pc; registers = caller_registers a.registers kept (length a.frames - 1); frames = below }

pub returned_is : (a : View) (left : Left) (below : List CallFrame) → IsPopped a.frames left below → returned a ≡ back_in a left.return_slot left.kept below
returned_is a left below h =
    let f : CallFrame = record { return_slot = left.return_slot; kept = left.kept; stack = h.stack } in
    let long : length a.frames - 1 ≡ length below = let e = ap length h.is in let g = length_push below f in omega (arith, e, g) in
    let last : slice_index_or a.frames (length a.frames - 1) main_frame ≡ f =
    ap (λ fs. slice_index_or fs (length a.frames - 1) main_frame) h.is ∙ get_last below f (length a.frames - 1) main_frame long in
    let rest : take (length a.frames - 1) a.frames ≡ below = ap (λ fs. take (length a.frames - 1) fs) h.is ∙ ap (λ n. take n (below ++ f ∷ [])) long ∙ take_before below f in
    ap (λ g. record a { pc = g.return_slot; registers = caller_registers a.registers g.kept (length a.frames - 1); frames = take (length a.frames - 1) a.frames }) last
    ∙ ap (λ fs. back_in a left.return_slot left.kept fs) rest
