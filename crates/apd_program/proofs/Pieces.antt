-- A text that is written piece by piece.
use Rattle.std.proofs.Common.{◌≡◌, ◌∙◌, ℕ, List, [], ◌++◌, Option, sym, ap, subst, append_assoc, append-nil}
use Rattle.std.specs.Io.KnownBytes.{Appends}
use Rattle.std.proofs.KnownBytes.{Appends-trans}
use Rattle.apd_files.specs.Beginning.{AppendsBeginning}

module _ (whole written old cleared text new : List ℕ) where
  -- a piece moves from the rest to what was written
  pub moved_on : whole ≡ written ++ old → cleared ≡ [] → text ++ new ≡ cleared ++ old → whole ≡ (written ++ text) ++ new
  moved_on all none moved =
      let front : text ++ new ≡ old = moved ∙ ap (λ (l : List ℕ). l ++ old) none in
      all ∙ (ap (λ (l : List ℕ). written ++ l) (sym front) ∙ sym (append_assoc written text new))

  -- a piece was written in part
  pub stopped : (a b c : Option (List ℕ)) → whole ≡ written ++ old → cleared ≡ [] → text ++ new ≡ cleared ++ old → Appends a b written → AppendsBeginning b c text → AppendsBeginning a c whole
  stopped a b c all none moved before begun =
      let is = moved_on all none moved in
      record {
        taken = written ++ begun.taken;
        left = begun.left ++ new;
        whole = is ∙ (ap (λ (l : List ℕ). (written ++ l) ++ new) begun.whole ∙ (ap (λ (l : List ℕ). l ++ new) (sym (append_assoc written begun.taken begun.left)) ∙ append_assoc (written ++ begun.taken) begun.left new));
        appended = Appends-trans a b c written begun.taken before begun.appended;
      }

  -- the last piece was written
  pub finished : (a b c : Option (List ℕ)) → whole ≡ written ++ old → cleared ≡ [] → text ++ new ≡ cleared ++ old → new ≡ [] → Appends a b written → Appends b c text → Appends a c whole
  finished a b c all none moved over before last =
      let is : whole ≡ written ++ text = moved_on all none moved ∙ (ap (λ (l : List ℕ). (written ++ text) ++ l) over ∙ append-nil (written ++ text)) in
      subst (λ (l : List ℕ). Appends a c l) (sym is) (Appends-trans a b c written text before last)

-- what was written so far
pub so_far : (a b : Option (List ℕ)) (whole written old : List ℕ) → whole ≡ written ++ old → Appends a b written → AppendsBeginning a b whole
so_far a b whole written old all before = record { taken = written; left = old; whole = all; appended = before }

-- a whole text is its own beginning
pub whole_begins : (a b : Option (List ℕ)) (whole : List ℕ) → Appends a b whole → AppendsBeginning a b whole
whole_begins a b whole all = record { taken = whole; left = []; whole = sym (append-nil whole); appended = all }
