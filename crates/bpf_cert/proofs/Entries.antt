-- Entries checked one after the other, and what they show.
use Rattle.std.proofs.Common.{◌≡◌, ℕ, zero, suc, ◌+◌, ◌-◌, ◌≤◌, ◌<◌, inl, inr, Bool, List, [], ◌∷◌, ◌++◌, length, take, drop, get_or, refl, sym, ◌∙◌, ap, subst, arith, Option, Some, None}
use Rattle.std.specs.Prelude.{map, ◌^◌, IfSome}
use Rattle.std.specs.List.{All}
use Rattle.std.proofs.lemmas.Bool.{cases_lt}
use Rattle.std.proofs.lemmas.List.{map_more, length-map, take_all}
use Rattle.std.proofs.lemmas.List.Elements.{All-cons, All-weaker, All-map, All-push}
use Rattle.std.proofs.Math.ListN.{get_or-map}
use Rattle.bpf_absval.specs.declared.value.AbsVal.{AbsVal}
use Rattle.bpf_insn.specs.declared.insn.Insn.TheVariants as insn
use Rattle.bpf_regions.specs.Maps.{AreShapes}
use Rattle.bpf_decode.specs.Program.{Code, IsWhole, Begins}
use Rattle.bpf_model.specs.Run.{Safe}
use Rattle.bpf_absstate.specs.View.{View, entry_view, main_frame, kept_of}
use Rattle.bpf_absstate.specs.WellFormed.{IsView}
use Rattle.bpf_plain.specs.Standing.{Stands}
use Rattle.bpf_cert_format.specs.declared.frame.Frame.{Frame}
use Rattle.bpf_cert_format.specs.Fits.{FitsEntry, IsMainFirst}
use Rattle.bpf_cert_format.specs.Views.{EntryView}
use Rattle.bpf_cert.specs.declared.claim.Claim.{Claim}
use Rattle.bpf_cert.specs.Covered.{Includes, LeadsWithin, BeginsWithin, AreCovered}
use Rattle.bpf_cert.proofs.Safely.{covered_is_safe}
use Rattle.bpf_cert.specs.States.{state_of, frames_after, claim_of}
use Rattle.bpf_cert.specs.Steps.{Tells}
use Rattle.bpf_cert.specs.Certified.{FollowsCall, StandsWell, Shows, Finds, KeepsWithin}
use Rattle.bpf_cert.proofs.Filling.{same_within}
use Rattle.bpf_cert.proofs.Told.{tells_same}

module _ {X : Type 0} (P : X → Type 0) where
  -- one more element passes
  pub passes : (xs : List X) (i : ℕ) (x : X) → i < length xs → x ≡ get_or xs i x → P x → ((k : ℕ) (d : X) → k < i → P (get_or xs k d)) → (k : ℕ) (d : X) → k < i + 1 → P (get_or xs k d)
  passes xs i x lt is p h k d less =
      elim (cases_lt k i) [
        | inl below ↦ h k d below
        | inr above ↦ let here : k ≡ i = omega (arith, less, above) in
            subst P (is ∙ same_within xs i x d lt ∙ ap (λ (j : ℕ). get_or xs j d) (sym here)) p
      ]

  -- an element fails
  pub fails : (xs : List X) (i : ℕ) (x : X) → i < length xs → x ≡ get_or xs i x → (P x → ⊥) → All P xs → ⊥
  fails xs i x lt is out all = out (subst P (sym is) (all i x lt))

-- all elements but the first
pub rest_all : {X : Type 0} (xs : List X) → take (length xs - 1) (drop 1 xs) ≡ drop 1 xs
rest_all [] = refl
rest_all (x ∷ xs) = take_all (length (x ∷ xs) - 1) xs (omega arith)

pub stands_well : (c : Code) (e : EntryView) (pc : ℕ) (fs : List Frame) (r : Bool) → pc ≡ e.pc → fs ≡ e.frames → Begins c.slots pc → Tells r (All (λ f. FollowsCall c f.return_slot) (drop 1 fs)) → Tells r (StandsWell c e)
stands_well c e pc fs r same frames b h =
    let P : List Frame → Type 0 = λ gs. All (λ f. FollowsCall c f.return_slot) (drop 1 gs) in
    tells_same r (P fs) (StandsWell c e) (λ x. record { begins = subst (Begins c.slots) same b; returns = subst P frames x }) (λ s. subst P (sym frames) s.returns) h

-- one claim more
pub claims_more : (es : List EntryView) (i : ℕ) (e : EntryView) (cs ds : List Claim) (x : Claim) → i < length es → e ≡ get_or es i e → x ≡ claim_of e → ds ≡ cs ++ x ∷ [] → cs ≡ map claim_of (take i es) → ds ≡ map claim_of (take (i + 1) es)
claims_more es i e cs ds x lt is claims more h =
    more ∙ ap (λ (ys : List Claim). ys ++ x ∷ []) h ∙ ap (λ (y : Claim). map claim_of (take i es) ++ y ∷ []) (claims ∙ ap claim_of is) ∙ sym (map_more claim_of es i e lt)

pub whole_more : (cs ds : List Claim) (x : Claim) → ds ≡ cs ++ x ∷ [] → All (λ e. IsView e.state) cs → IsView x.state → All (λ e. IsView e.state) ds
whole_more cs ds x more all v = subst (All (λ e. IsView e.state)) (sym more) (All-push (λ e. IsView e.state) cs x all v)

-- ---- entries that show something stand well

leads_begins : (c : Code) (cs : List Claim) (n : ℕ) (a : View) → LeadsWithin c cs n a → Begins c.slots a.pc
unfolding LeadsWithin
leads_begins c cs zero a h = absurd h
leads_begins c cs (suc n) a h = (h.0, h.2)

pub shows_stand : (c : Code) (es : List EntryView) (b : ℕ) → Shows c es b → All (StandsWell c) es
shows_stand c es b s k d lt =
    let cs : List Claim = map claim_of es in
    let less : k < length cs = subst (λ (n : ℕ). k < n) (sym (length-map es claim_of)) lt in
    let x : Claim = get_or cs k (claim_of d) in
    record {
      begins = subst (λ (y : Claim). Begins c.slots y.state.pc) (get_or-map claim_of es k d) (leads_begins c cs x.budget x.state (s.covered.kept k (claim_of d) less));
      returns = s.returns k d lt;
    }

call_returns : (c : Code) (t : ℕ) → IsWhole c → FollowsCall c t → Begins c.slots t
call_returns c t whole h = subst (Begins c.slots) (sym h.3) (whole.onward h.0 (insn.CallLocal h.1) h.2 refl)

main_returns : (c : Code) (fs : List Frame) → IsWhole c → IsMainFirst fs → All (λ f. FollowsCall c f.return_slot) (drop 1 fs) → All (λ f. Begins c.slots f.return_slot) fs
main_returns c [] whole main h = absurd main
main_returns c (f ∷ fs) whole main h =
    All-cons (λ (g : Frame). Begins c.slots g.return_slot) f fs (subst (Begins c.slots) (sym main) whole.first)
    (All-weaker (λ (g : Frame). FollowsCall c g.return_slot) (λ (g : Frame). Begins c.slots g.return_slot) (λ g. call_returns c g.return_slot whole) fs h)

frames_return : (P : ℕ → Type 0) (kept : List AbsVal) (fs : List Frame) → All (λ f. P f.return_slot) fs → All (λ f. P f.return_slot) (frames_after kept fs)
unfolding frames_after
frames_return P kept [] h = λ k d lt. absurd (omega (arith, lt))
frames_return P kept (f ∷ fs) h =
    All-cons (λ g. P g.return_slot) _ (frames_after (kept_of f.registers) fs) (h 0 f (omega arith)) (frames_return P (kept_of f.registers) fs (λ k d lt. h (suc k) d (omega (arith, lt))))

entry_stands : (c : Code) (e : EntryView) → IsWhole c → IsMainFirst e.frames → StandsWell c e → Stands c.slots (state_of e)
entry_stands c e whole main s = record {
  begins = s.begins;
  returns = frames_return (Begins c.slots) main_frame.kept e.frames (main_returns c e.frames whole main s.returns);
}

pub claims_stand : (c : Code) (es : List EntryView) (maps : ℕ) → IsWhole c → All (FitsEntry maps) es → All (StandsWell c) es → All (λ e. Stands c.slots e.state) (map claim_of es)
claims_stand c es maps whole fit stand =
    All-map (λ (e : Claim). Stands c.slots e.state) claim_of es (λ k d lt. entry_stands c (get_or es k d) whole ((fit k d lt).main) (stand k d lt))

-- ---- the shown budget

least_of : (cs : List Claim) (a b : ℕ) → BeginsWithin cs a → BeginsWithin cs b → a ≤ b
least_of cs a b s t =
    let m = t.claim in
    let h : Includes m.1 entry_view → a ≤ m.1.budget = subst (λ (x : Claim). Includes x entry_view → a ≤ x.budget) m.3 (s.least m.0 m.1 m.2) in
    subst (λ (n : ℕ). a ≤ n) m.4.1 (h m.4.0)

abbrev Covers : Code → List Claim → Option ℕ → Type 0
Covers c cs o = Finds o (AreCovered c cs)

too_large : (most a b : ℕ) → most < a → a ≤ b → b ≤ most → ⊥
too_large most a b lt le small = absurd (omega (arith, lt, le, small))

pub shown : (c : Code) (es : List EntryView) (cs : List Claim) (o r : Option ℕ) → cs ≡ map claim_of es → All (StandsWell c) es → Covers c cs o → KeepsWithin (2 ^ 22) o r → Finds r (Shows c es)
shown c es cs None None same stand covers small = λ b s. covers b (subst (λ (xs : List Claim). AreCovered c xs b) (sym same) s.covered)
shown c es cs (Some a) None same stand covers small = λ b s.
    too_large (2 ^ 22) a b small (least_of cs a b covers.start (subst (λ (xs : List Claim). BeginsWithin xs b) (sym same) s.covered.start)) s.small
shown c es cs o (Some b) same stand covers small = record {
  returns = λ k d lt. (stand k d lt).returns;
  covered = subst (λ (xs : List Claim). AreCovered c xs b) same (subst (Covers c cs) small.0 covers);
  small = small.1;
}

pub shown_safe : (c : Code) (cs : List Claim) (o r : Option ℕ) → IsWhole c → AreShapes c.shapes → All (λ e. IsView e.state) cs → Covers c cs o → KeepsWithin (2 ^ 22) o r → IfSome r (Safe c.slots c.shapes)
shown_safe c cs o None whole shapes views covers small = tt
shown_safe c cs o (Some b) whole shapes views covers small = covered_is_safe c cs b whole shapes views (subst (Covers c cs) small.0 covers)
