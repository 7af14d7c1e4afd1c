-- Blame after one more line.
use Rattle.std.proofs.Common.{◌≡◌, ◌↔◌, ◌∙◌, Bool, false, IsTrue, ℕ, zero, suc, ◌+◌, ◌<◌, ◌≤◌, List, [], ◌∷◌, ◌++◌, length, get_or, take, refl, ap, subst, sym, append_assoc, arith}
use Rattle.std.specs.List.{All}
use Rattle.std.proofs.lemmas.List.Elements.{All-append, All-nil}
use Rattle.std.proofs.lemmas.List.{take_more, map-append, length-map, get_or-map}
use Rattle.apd_cases.specs.Said.{Said, said_of, numbered_of, lines_said}
use Rattle.apd_trials.specs.Blamed.{LeadsTo, EndsWords, LeadsNowhere, IsIdle, IsBlamed, LastLeads, NoneLeads, NoneLeadsSince, IsBlamedIn}
use Rattle.apd_trials.specs.declared.fault.CaseFault.{CaseFault}
use Rattle.apd_trials.specs.declared.fault.Trouble.{Trouble}
use Rattle.apd_cases.specs.declared.line.Numbered.{Numbered}

-- the only element of a list
All-one : (P : ℕ × Said → Type 0) (x : ℕ × Said) → P x → All P (x ∷ [])
All-one P x h zero d low = h
All-one P x h (suc k) d low = absurd (omega (arith, low))

module _ (lines : List (ℕ × Said)) (at : ℕ) (t : Trouble) (number : ℕ) (said : Said) where
  -- a line that leads to the trouble
  pub leads : number < at → LeadsTo said t → IsBlamed (lines ++ (number, said) ∷ []) at t number
  leads earlier is = LastLeads lines [] number said refl earlier is (All-nil (IsIdle at t))

  -- a line that ends others
  pub ends : number < at → EndsWords said t → IsBlamed (lines ++ (number, said) ∷ []) at t at
  ends earlier is = NoneLeadsSince lines [] number said refl earlier is (All-nil (LeadsNowhere at t))

  longer : (before after : List (ℕ × Said)) (x : ℕ × Said) → lines ≡ before ++ x ∷ after → lines ++ (number, said) ∷ [] ≡ before ++ x ∷ (after ++ (number, said) ∷ [])
  longer before after x e = ap (λ (l : List (ℕ × Said)). l ++ (number, said) ∷ []) e ∙ append_assoc before (x ∷ after) ((number, said) ∷ [])

  -- any other line
  pub idle : (blamed : ℕ) → IsIdle at t (number, said) → IsBlamed lines at t blamed → IsBlamed (lines ++ (number, said) ∷ []) at t blamed
  idle blamed is (LastLeads before after n s e earlier leading rest) =
      LastLeads before (after ++ (number, said) ∷ []) n s (longer before after (n, s) e) earlier leading
      (All-append (IsIdle at t) after ((number, said) ∷ []) rest (All-one (IsIdle at t) (number, said) is))
  idle blamed is (NoneLeads all) =
      NoneLeads (All-append (LeadsNowhere at t) lines ((number, said) ∷ []) all (All-one (LeadsNowhere at t) (number, said) is.0))
  idle blamed is (NoneLeadsSince before after n s e earlier ending rest) =
      NoneLeadsSince before (after ++ (number, said) ∷ []) n s (longer before after (n, s) e) earlier ending
      (All-append (LeadsNowhere at t) after ((number, said) ∷ []) rest (All-one (LeadsNowhere at t) (number, said) is.0))

-- a test has one answer
untrue : (b : Bool) → b ≡ false → IsTrue b → ⊥
untrue b is other = cc

-- one more of the lines that are read
module _ (lines : List Numbered) (i : ℕ) (at : ℕ) (t : Trouble) (blamed next : ℕ) (line : Numbered) (low : i < length lines) (here : line ≡ get_or lines i line) where
  lengthened : lines_said (take (i + 1) lines) ≡ lines_said (take i lines) ++ numbered_of line ∷ []
  lengthened =
      ap lines_said (take_more lines i line low) ∙
      (map-append numbered_of (take i lines) (get_or lines i line ∷ []) ∙ ap (λ (x : Numbered). lines_said (take i lines) ++ numbered_of x ∷ []) (sym here))

  more : (b : ℕ) → next ≡ b → IsBlamed (lines_said (take i lines) ++ numbered_of line ∷ []) at t b → IsBlamed (lines_said (take (i + 1) lines)) at t next
  more b is h = rw is (subst (λ (ls : List (ℕ × Said)). IsBlamed ls at t b) (sym lengthened) h)

  pub leads_more : line.number < at → next ≡ line.number → LeadsTo (said_of line.line) t → IsBlamed (lines_said (take (i + 1) lines)) at t next
  leads_more earlier is leading = more _ is (leads (lines_said (take i lines)) at t _ _ earlier leading)

  pub ends_more : line.number < at → next ≡ at → EndsWords (said_of line.line) t → IsBlamed (lines_said (take (i + 1) lines)) at t next
  ends_more earlier is ending = more _ is (ends (lines_said (take i lines)) at t _ _ earlier ending)

  other_more : next ≡ blamed → IsBlamed (lines_said (take i lines)) at t blamed → IsIdle at t (numbered_of line) → IsBlamed (lines_said (take (i + 1) lines)) at t next
  other_more is h idles = more _ is (idle (lines_said (take i lines)) at t _ _ blamed idles h)

  pub idle_more : line.number < at → next ≡ blamed → IsBlamed (lines_said (take i lines)) at t blamed → (leading ending : Bool)
      → leading ≡ false → ending ≡ false → (IsTrue leading ↔ LeadsTo (said_of line.line) t) → (IsTrue ending ↔ EndsWords (said_of line.line) t)
      → IsBlamed (lines_said (take (i + 1) lines)) at t next
  idle_more earlier is h leading ending neither nor leads_if ends_if =
      other_more is h (λ low leads. untrue leading neither (leads_if.1 leads), λ low ends. untrue ending nor (ends_if.1 ends))

  pub later_more : at ≤ line.number → next ≡ blamed → IsBlamed (lines_said (take i lines)) at t blamed → IsBlamed (lines_said (take (i + 1) lines)) at t next
  later_more later is h = other_more is h (λ low leads. omega (arith, low, later), λ low ends. omega (arith, low, later))

-- the fault of a line that is read
pub blamed_in : (lines : List Numbered) (i : ℕ) (line : Numbered) (fault : CaseFault) → i < length lines → line ≡ get_or lines i line
    → IsBlamed (lines_said lines) line.number fault.trouble fault.line → IsBlamedIn (lines_said lines) fault
blamed_in lines i line fault low here blamed =
    let x = numbered_of line in
    record {
      line = x;
      there = (i, rw (length-map lines numbered_of) low, get_or-map numbered_of lines i line x low ∙ ap numbered_of (sym here));
      blamed = blamed;
    }
