-- Rows that are taken, one after another.
use Rattle.std.proofs.Common.{◌≡◌, ◌==◌, ◌++◌, ◌∷◌, ℕ, Bool, true, false, List, [], Option, Some, None, sym, subst, if◌then◌else◌}
use Rattle.bpf_regions.specs.declared.hooks.Hook.{Hook}
use Rattle.bpf_regions.specs.Hooks.{number_of}
use Rattle.capture.specs.Packets.{Seen}
use Rattle.apd_eval.specs.Again.{frame_at}
use Rattle.apd_eval.specs.Follows.{rows_of}
use Rattle.apd_eval.specs.Taken.{TakesAll}
use Rattle.apd_eval.specs.declared.row.Row.{Row}
use Rattle.apd_eval.specs.declared.ruling.Ruling.{Ruling}

module _ {S : Type 0} (takes : S → Row → List ℕ → S → Type 0) where
  pub TakesAll-append : (frames : ℕ → List ℕ) (rows more : List Row) (s mid t : S) → TakesAll takes frames s rows mid → TakesAll takes frames mid more t → TakesAll takes frames s (rows ++ more) t
  TakesAll-append frames [] more s mid t a b = subst (λ (x : S). TakesAll takes frames x more t) a b
  TakesAll-append frames (row ∷ rows) more s mid t a b = (a.0, a.1, TakesAll-append frames rows more a.0 mid t a.2 b)

  if_row : (all : List Seen) (frame : List ℕ) (b : Bool) (row : Row) (s t : S) → frame_at all row.packet ≡ frame → TakesAll takes (λ n. frame) s (if b then row ∷ [] else []) t → TakesAll takes (frame_at all) s (if b then row ∷ [] else []) t
  if_row all frame true row s t is taken = (taken.0, subst (λ (f : List ℕ). takes s row f taken.0) (sym is) taken.1, taken.2)
  if_row all frame false row s t is taken = taken

  -- the row of a packet, with its frame
  pub of_packet : (all : List Seen) (frame : List ℕ) (hook : Hook) (number : ℕ) (last : Option Ruling) (s t : S) → frame_at all number ≡ frame → TakesAll takes (λ n. frame) s (rows_of hook number last) t
      → TakesAll takes (frame_at all) s (rows_of hook number last) t
  of_packet all frame hook number None s t is taken = taken
  of_packet all frame hook number (Some r) s t is taken = if_row all frame (number_of r.hook == number_of hook) (record { packet = number; ruling = r }) s t is taken
