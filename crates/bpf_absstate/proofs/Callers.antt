-- Callers: kept by inclusion, by changes of labels and rooms, and by calls and returns.
use Rattle.std.proofs.Common.{◌≡◌, ◌+◌, ℕ, zero, suc, List, [], ◌∷◌, ◌++◌, length, map, take, true, refl, ap, sym, ◌∙◌, arith, slice_set, slice_index_or, subst, Some, add-zero}
use Rattle.std.specs.Prelude.{All, slice_get}
use Rattle.std.proofs.lemmas.Bool.{false≢true, and_parts, eqb-true}
use Rattle.std.proofs.lemmas.List.Elements.{All-head, All-tail}
use Rattle.bpf_model.specs.declared.Caller.{Caller}
use Rattle.bpf_absval.specs.declared.room.Room.{Room}
use Rattle.bpf_absval.specs.declared.slot.AbsSlot.{AbsSlot}
use Rattle.bpf_absval.specs.Meaning.{Labels}
use Rattle.bpf_absstate.specs.declared.frames.CallFrame.{CallFrame}
use Rattle.bpf_absstate.specs.Contains.{CallerHolds, CallersHold}
use Rattle.bpf_absstate.specs.Inclusion.{frame_included, frames_included}
use Rattle.bpf_absstate.specs.View.{main_frame}
use Rattle.bpf_absstate.specs.WellFormed.{IsFrame}
use Rattle.bpf_absstate.proofs.Stacks.{frame_test}
use Rattle.bpf_absstate.proofs.Values.{values_keep}

caller_keeps : (e : Labels) (rooms others : List Room) (k : ℕ) (f g : CallFrame) (c : Caller) → IsFrame g → frame_included rooms others f g ≡ true →
    CallerHolds e rooms k f c → CallerHolds e others k g c
caller_keeps e rooms others k f g c well t h =
    let test = frame_test rooms others f g t in
    record {
      slot = h.slot ∙ eqb-true f.return_slot g.return_slot test.slot;
      kept = values_keep e rooms others f.kept g.kept (c.r6 ∷ c.r7 ∷ c.r8 ∷ c.r9 ∷ []) well.values test.kept h.kept;
      r10 = h.r10;
    }

pub callers_keep : (e : Labels) (rooms others : List Room) (k : ℕ) (fs gs : List CallFrame) (cs : List Caller) → All IsFrame gs → frames_included rooms others fs gs ≡ true →
    CallersHold e rooms k fs cs → CallersHold e others k gs cs
unfolding frames_included CallersHold
callers_keep e rooms others k (f ∷ fs) (g ∷ gs) (c ∷ cs) well t h =
    let both = and_parts (frame_included rooms others f g) (frames_included rooms others fs gs) t in
    (caller_keeps e rooms others k f g c (All-head IsFrame g gs well) both.0 h.0, callers_keep e rooms others (k + 1) fs gs cs (All-tail IsFrame g gs well) both.1 h.1)
callers_keep e rooms others k [] [] cs well t h = h
callers_keep e rooms others k [] (g ∷ gs) cs well t h = absurd (false≢true t)
callers_keep e rooms others k (f ∷ fs) [] cs well t h = absurd (false≢true t)
callers_keep e rooms others k (f ∷ fs) (g ∷ gs) [] well t h = absurd h

pub callers_move : (e d : Labels) (rooms others : List Room) (g : CallFrame → CallFrame) →
    ((k : ℕ) (a : CallFrame) (c : Caller) → CallerHolds e rooms k a c → CallerHolds d others k (g a) c) →
    (k : ℕ) (fs : List CallFrame) (cs : List Caller) → CallersHold e rooms k fs cs → CallersHold d others k (map g fs) cs
unfolding CallersHold
callers_move e d rooms others g law k (f ∷ fs) (c ∷ cs) h = (law k f c h.0, callers_move e d rooms others g law (k + 1) fs cs h.1)
callers_move e d rooms others g law k [] [] h = h
callers_move e d rooms others g law k [] (c ∷ cs) h = absurd h
callers_move e d rooms others g law k (f ∷ fs) [] h = absurd h

pub callers_length : (e : Labels) (rooms : List Room) (k : ℕ) (fs : List CallFrame) (cs : List Caller) → CallersHold e rooms k fs cs → length fs ≡ length cs
unfolding CallersHold
callers_length e rooms k (f ∷ fs) (c ∷ cs) h = ap suc (callers_length e rooms (k + 1) fs cs h.1)
callers_length e rooms k [] [] h = refl
callers_length e rooms k [] (c ∷ cs) h = absurd h
callers_length e rooms k (f ∷ fs) [] h = absurd h

next : (k i : ℕ) → k + 1 + i ≡ k + suc i
next k i = omega arith

pub caller_at : (e : Labels) (rooms : List Room) (k : ℕ) (fs : List CallFrame) (cs : List Caller) (i : ℕ) (c : Caller) → CallersHold e rooms k fs cs → slice_get cs i ≡ Some c →
    CallerHolds e rooms (k + i) (slice_index_or fs i main_frame) c
unfolding CallersHold
caller_at e rooms k (f ∷ fs) (b ∷ cs) zero c h g =
    let same : b ≡ c = cc in
    rw (add-zero k) (subst (λ x. CallerHolds e rooms k f x) same h.0)
caller_at e rooms k (f ∷ fs) (b ∷ cs) (suc i) c h g =
    subst (λ n. CallerHolds e rooms n (slice_index_or fs i main_frame) c) (next k i) (caller_at e rooms (k + 1) fs cs i c h.1 g)
caller_at e rooms k [] [] i c h g = absurd (cc)
caller_at e rooms k [] (b ∷ cs) i c h g = absurd h
caller_at e rooms k (f ∷ fs) [] i c h g = absurd h

pub callers_push : (e : Labels) (rooms : List Room) (k : ℕ) (fs : List CallFrame) (cs : List Caller) (f : CallFrame) (c : Caller) → CallersHold e rooms k fs cs →
    CallerHolds e rooms (k + length fs) f c → CallersHold e rooms k (fs ++ f ∷ []) (cs ++ c ∷ [])
unfolding CallersHold
callers_push e rooms k [] [] f c h m = (rw (add-zero k) at m, tt)
callers_push e rooms k (g ∷ fs) (b ∷ cs) f c h m =
    (h.0, callers_push e rooms (k + 1) fs cs f c h.1 (subst (λ n. CallerHolds e rooms n f c) (sym (next k (length fs))) m))
callers_push e rooms k [] (b ∷ cs) f c h m = absurd h
callers_push e rooms k (g ∷ fs) [] f c h m = absurd h

pub callers_take : (e : Labels) (rooms : List Room) (k n : ℕ) (fs : List CallFrame) (cs : List Caller) → CallersHold e rooms k fs cs → CallersHold e rooms k (take n fs) (take n cs)
unfolding CallersHold
callers_take e rooms k zero fs cs h = tt
callers_take e rooms k (suc n) [] [] h = tt
callers_take e rooms k (suc n) (g ∷ fs) (b ∷ cs) h = (h.0, callers_take e rooms (k + 1) n fs cs h.1)
callers_take e rooms k (suc n) [] (b ∷ cs) h = absurd h
callers_take e rooms k (suc n) (g ∷ fs) [] h = absurd h

-- a frame with another stack
abbrev pub restacked : CallFrame → List AbsSlot → CallFrame
restacked f stack = record f { stack = stack }

-- callers don't depend on stacks
pub callers_restacked : (e : Labels) (rooms : List Room) (k : ℕ) (fs : List CallFrame) (cs : List Caller) (i : ℕ) (stack : List AbsSlot) → CallersHold e rooms k fs cs →
    CallersHold e rooms k (slice_set fs i (restacked (slice_index_or fs i main_frame) stack)) cs
unfolding CallersHold
callers_restacked e rooms k [] [] i stack h = h
callers_restacked e rooms k (g ∷ fs) (b ∷ cs) zero stack h = (record { slot = h.0.slot; kept = h.0.kept; r10 = h.0.r10 }, h.1)
callers_restacked e rooms k (g ∷ fs) (b ∷ cs) (suc i) stack h = (h.0, callers_restacked e rooms (k + 1) fs cs i stack h.1)
callers_restacked e rooms k [] (b ∷ cs) i stack h = absurd h
callers_restacked e rooms k (g ∷ fs) [] i stack h = absurd h
