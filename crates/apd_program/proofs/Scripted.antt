-- Scripts of captures, from their parts.
use Rattle.std.proofs.Common.{◌≡◌, ◌∷◌, ◌∙◌, ◌<◌, ◌≤◌, ℕ, Bool, false, List, [], length, take, slice_index_or, Option, Some, None, Ok, inl, inr, refl, sym, ap, subst, arith}
use Rattle.std.specs.Borrow.{Bor}
use Rattle.hex.specs.Hex.{decode_of}
use Rattle.capture.specs.Packets.{Seen}
use Rattle.capture.specs.Walks.{packets_in}
use Rattle.apd_policies.specs.Script.{script_of}
use Rattle.apd_policies.specs.declared.frames.script.Manner.{Manner}
use Rattle.capture.specs.declared.fault.CaptureFault.{CaptureFault}
use Rattle.apd_files.specs.Held.{Held, Holds, Lacks}
use Rattle.apd_files.specs.declared.inputs.files.FileKind.TheVariants.{Capture}
use Rattle.apd_words.specs.Asked.{text_of}
use Rattle.apd_program.specs.Answers.{IsOfText}
use Rattle.apd_program.specs.Captured.{IsCaptured, IsNoCapture}
use Rattle.apd_program.specs.Faults.{IsMemoryOr}
use Rattle.apd_program.specs.Spans.{IsSpan}
use Rattle.apd_program.specs.declared.span.Span.{Span}
use Rattle.apd_program.specs.declared.frames.Plan.{Plan}
use Rattle.apd_program.specs.Scripts.{IsAddress, IsChoice, GivenChosen, OnlyChosen, NoAddress, IsUnclear, IsChosenScript, IsScript, IsScriptOf, IsPlanned, IsUnscripted, NoCapture, Unclear, HasNoScript, NoFile, NoScript}
use Rattle.apd_program.specs.declared.answer.Answer.{Answer}
use Rattle.apd_program.specs.declared.fault.ProgramFault.{ProgramFault}
use Rattle.apd_program.specs.declared.frames.Choice.{Choice}
use Rattle.apd_program.specs.declared.frames.Choice.TheVariants as choice

-- six bytes, one by one
six : (xs : List ℕ) → 6 ≤ length xs → length xs < 7 → xs ≡ slice_index_or xs 0 0 ∷ slice_index_or xs 1 0 ∷ slice_index_or xs 2 0 ∷ slice_index_or xs 3 0 ∷ slice_index_or xs 4 0 ∷ slice_index_or xs 5 0 ∷ []
six [] low high = absurd (omega (arith, low))
six (a ∷ []) low high = absurd (omega (arith, low))
six (a ∷ b ∷ []) low high = absurd (omega (arith, low))
six (a ∷ b ∷ c ∷ []) low high = absurd (omega (arith, low))
six (a ∷ b ∷ c ∷ d ∷ []) low high = absurd (omega (arith, low))
six (a ∷ b ∷ c ∷ d ∷ e ∷ []) low high = absurd (omega (arith, low))
six (a ∷ b ∷ c ∷ d ∷ e ∷ f ∷ []) low high = refl
six (a ∷ b ∷ c ∷ d ∷ e ∷ f ∷ g ∷ xs) low high = absurd (omega (arith, high))

pub address_of : (word bytes slice : List ℕ) → decode_of word ≡ Ok bytes → slice ≡ bytes → 6 ≤ length slice → length slice < 7
    → IsAddress word (slice_index_or slice 0 0 ∷ slice_index_or slice 1 0 ∷ slice_index_or slice 2 0 ∷ slice_index_or slice 3 0 ∷ slice_index_or slice 4 0 ∷ slice_index_or slice 5 0 ∷ [])
address_of word bytes slice spelled same low high = record { spelled = spelled ∙ ap Ok (sym same ∙ six slice low high); long = refl }

-- what words choose without `--all`
pub chosen_given : (given : Option (Bor (List ℕ))) (all : Bool) (word : Bor (List ℕ)) (address : List ℕ) → given ≡ Some word → all ≡ false → IsAddress word.now address → IsChoice (text_of given) all (choice.Given address)
chosen_given given all word address is none h = rw (is, none) (GivenChosen word.now address h)

pub chosen_only : (given : Option (Bor (List ℕ))) (all : Bool) → given ≡ None → all ≡ false → IsChoice (text_of given) all choice.Only
chosen_only given all is none = rw (is, none) OnlyChosen

pub no_address : (files : Held) (path : List ℕ) (given : Option (Bor (List ℕ))) (all : Bool) (word : Bor (List ℕ)) (e : ProgramFault) → given ≡ Some word → IsMemoryOr ((a : List ℕ) → IsAddress word.now a → ⊥) e → IsMemoryOr (HasNoScript files path (text_of given) all) e
no_address files path given all word e is (inl memory) = inl memory
no_address files path given all word e is (inr none) = inr (NoAddress word.now (ap text_of is) none)

-- a file that isn't a capture has no script
pub capture_unscripted : (c : Choice) (file : List ℕ) (f : ProgramFault) → IsMemoryOr (IsNoCapture file) f → IsMemoryOr (IsUnscripted c file) f
capture_unscripted c file f (inl memory) = inl memory
capture_unscripted c file f (inr none) = inr (NoCapture none)

-- nor has one with packets of several access points
pub unclear_unscripted : (c : Choice) (file : List ℕ) (cut : Option CaptureFault) (packets : List Seen) (f : ProgramFault) → IsCaptured file cut packets → IsMemoryOr (IsUnclear c packets) f → IsMemoryOr (IsUnscripted c file) f
unclear_unscripted c file cut packets f captured (inl memory) = inl memory
unclear_unscripted c file cut packets f captured (inr unclear) = inr (Unclear (record { cut = cut; packets = packets; captured = captured; unclear = unclear }))

module _ (files : Held) (path : List ℕ) (given : Option (List ℕ)) (all : Bool) where
  pub no_file : (f : ProgramFault) → IsMemoryOr (Lacks Capture files path) f → IsMemoryOr (HasNoScript files path given all) f
  no_file f (inl memory) = inl memory
  no_file f (inr lacks) = inr (NoFile lacks)

  pub no_script : (c : Choice) (file slice : List ℕ) (f : ProgramFault) → slice ≡ file → IsChoice given all c → Holds files path file → IsMemoryOr (IsUnscripted c slice) f → IsMemoryOr (HasNoScript files path given all) f
  no_script c file slice f same chosen there (inl memory) = inl memory
  no_script c file slice f same chosen there (inr none) = inr (NoScript c file chosen there (let P : List ℕ → Type 0 = λ t. IsUnscripted c t in subst P same none))

  pub scripted : (ticks : Bool) (c : Choice) (file slice : List ℕ) (a : Answer) → slice ≡ file → IsChoice given all c → Holds files path file → IsChosenScript ticks c slice a → IsOfText (IsScript ticks given all) files path a
  scripted ticks c file slice a same chosen there script = record {
    text = file;
    there = there;
    said = record { choice = c; chosen = chosen; script = (let P : List ℕ → Type 0 = λ t. IsChosenScript ticks c t a in subst P same script) };
  }

-- the script of this much of a file
pub chosen_script : (p : Plan) (file slice : List ℕ) (s : Span) (m : Manner) (cut : Option CaptureFault) (text : List ℕ) → slice ≡ file → IsPlanned p slice s m → s.cut ≡ cut
    → text ≡ script_of m.ticks m.bssid (packets_in (take s.end file)) → IsScriptOf p.ticks p.choice file cut text
chosen_script p file slice s m cut text same h is_cut is =
    let P : List ℕ → Type 0 = λ f. IsPlanned p f s m in
    let q : IsPlanned p file s m = subst P same h in
    let packets = packets_in (take s.end file) in
    let Q : Option CaptureFault → Type 0 = λ c. IsCaptured file c packets in
    record {
      packets = packets;
      captured = subst Q is_cut q.span.captured;
      is = record { bssid = m.bssid; is_for = q.is_for; is = is ∙ ap (λ (t : Bool). script_of t m.bssid packets) q.ticks };
    }

-- a file that names several access points, in this much of it
pub span_unclear : (c : Choice) (file recorded : List ℕ) (s : Span) (e : ProgramFault) → IsSpan file s → recorded ≡ take s.end file → IsMemoryOr (IsUnclear c (packets_in recorded)) e → IsMemoryOr (IsUnscripted c file) e
span_unclear c file recorded s e h is bad =
    let P : List ℕ → Type 0 = λ l. IsMemoryOr (IsUnclear c (packets_in l)) e in
    unclear_unscripted c file s.cut (packets_in (take s.end file)) e h.captured (subst P is bad)
