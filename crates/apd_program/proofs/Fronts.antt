-- Captures as far as they go, from their parts.
use Rattle.std.proofs.Common.{◌≡◌, ◌≢◌, ◌∙◌, ◌⊎◌, ◌++◌, Bool, true, List, ℕ, length, take, drop, Option, None, Some, inl, inr, sym, ap, ap₂, subst, length-append, arith}
use Rattle.std.proofs.lemmas.List.{take-append-drop, take-append-le, take_all}
use Rattle.capture.specs.Captures.{Holds, Refuses}
use Rattle.capture.specs.Packets.{Seen}
use Rattle.capture.specs.Walks.{packets_in}
use Rattle.capture.specs.declared.fault.CaptureFault.{CaptureFault}
use Rattle.capture.specs.declared.fault.CaptureFault.TheVariants as capture
use Rattle.apd_program.specs.Captured.{is_before, IsCut, IsCaptured, IsNoCapture}
use Rattle.apd_program.specs.Faults.{IsMemoryOr}
use Rattle.apd_program.specs.Spans.{IsSpan}
use Rattle.apd_program.specs.declared.span.Span.{Span}
use Rattle.apd_program.specs.declared.fault.ProgramFault.{ProgramFault}
use Rattle.apd_program.specs.declared.fault.ProgramFault.TheVariants.{NoMemory}
use Rattle.apd_program.proofs.Faulty.{known_capture}

pub joined : (xs front back : List ℕ) (n : ℕ) → front ≡ take n xs → back ≡ drop n xs → xs ≡ front ++ back
joined xs front back n before after = rw (before, after) (sym (take-append-drop n xs))

no_capture_by : (file : List ℕ) (e : CaptureFault) (f : ProgramFault) → Refuses file e → (e ≡ capture.NoMemory → f ≡ NoMemory) → (e ≡ capture.NoMemory) ⊎ (e ≢ capture.NoMemory) → IsMemoryOr (IsNoCapture file) f
no_capture_by file e f refuses m (inl memory) = inl (m memory)
no_capture_by file e f refuses m (inr other) = inr (record { fault = e; known = other; refused = refuses })

-- a file with a fault
pub no_capture : (file : List ℕ) (e : CaptureFault) (f : ProgramFault) → Refuses file e → (e ≡ capture.NoMemory → f ≡ NoMemory) → IsMemoryOr (IsNoCapture file) f
no_capture file e f refuses m = no_capture_by file e f refuses m (known_capture e)

-- this much of a file is before a cut
pub IsSpan-before : (file front rest recorded : List ℕ) (s : Span) (fault : CaptureFault) (b : Bool) → Refuses file fault → file ≡ front ++ rest → recorded ≡ front → Holds front (packets_in front)
    → length (packets_in recorded) ≡ s.count → s.end ≡ length front → s.cut ≡ Some fault → b ≡ is_before fault s.end s.count → b ≡ true → IsSpan file s
IsSpan-before file front rest recorded s fault b refused split same held counted long is_cut is holds =
    let took : take s.end file ≡ front =
    ap (λ (n : ℕ). take n file) long ∙ (ap (take (length front)) split ∙ (take-append-le (length front) front rest (omega arith) ∙ take_all (length front) front (omega arith))) in
    let many : length (packets_in front) ≡ s.count = ap (λ (l : List ℕ). length (packets_in l)) (sym same) ∙ counted in
    let P : Option CaptureFault → Type 0 = λ c. IsCaptured file c (packets_in (take s.end file)) in
    let Q : List ℕ → Type 0 = λ l. IsCut file fault (packets_in l) in
    let cut : IsCut file fault (packets_in front) = record {
      refused = refused;
      front = front;
      rest = rest;
      cut = split;
      held = held;
      before = ap₂ (λ (j k : ℕ). is_before fault j k) (sym long) many ∙ (sym is ∙ holds);
    } in
    record {
      within = omega (arith, long, ap length split, length-append front rest);
      counted = ap (λ (l : List ℕ). length (packets_in l)) took ∙ many;
      captured = subst P (sym is_cut) (subst Q (sym took) cut);
    }

-- this is all of a file
pub IsSpan-whole : (file recorded : List ℕ) (s : Span) → recorded ≡ file → Holds file (packets_in file) → length (packets_in recorded) ≡ s.count → s.end ≡ length file → s.cut ≡ None → IsSpan file s
IsSpan-whole file recorded s same held counted long is_cut =
    let took : take s.end file ≡ file = ap (λ (n : ℕ). take n file) long ∙ take_all (length file) file (omega arith) in
    let P : Option CaptureFault → Type 0 = λ c. IsCaptured file c (packets_in (take s.end file)) in
    let Q : List ℕ → Type 0 = λ l. Holds file (packets_in l) in
    record {
      within = omega (arith, long);
      counted = ap (λ (l : List ℕ). length (packets_in l)) (took ∙ sym same) ∙ counted;
      captured = subst P (sym is_cut) (subst Q (sym took) held);
    }

-- the packets of this much of a file
pub IsCaptured-recorded : (file slice recorded : List ℕ) (s : Span) → slice ≡ file → IsSpan slice s → recorded ≡ take s.end slice → IsCaptured file s.cut (packets_in recorded)
IsCaptured-recorded file slice recorded s same h is =
    let P : List ℕ → Type 0 = λ f. IsCaptured f s.cut (packets_in recorded) in
    let Q : List ℕ → Type 0 = λ l. IsCaptured slice s.cut (packets_in l) in
    subst P same (subst Q (sym is) h.captured)
