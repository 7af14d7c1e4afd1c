-- The abstract states that a certificate's entries describe.
use Rattle.std.specs.Prelude.{◌-◌, ◌&&◌, Bool, true, List, [], ◌∷◌, ◌++◌, length, take}
use Rattle.std.specs.List.{list_all}
use Rattle.bpf_absval.specs.declared.value.AbsVal.{AbsVal}
use Rattle.bpf_absstate.specs.declared.frames.CallFrame.{CallFrame}
use Rattle.bpf_absstate.specs.View.{View, main_frame, stack_end, kept_of}
use Rattle.bpf_rules.specs.Operands.{is_unset}
use Rattle.bpf_cert_format.specs.declared.frame.Frame.{Frame}
use Rattle.bpf_cert_format.specs.Views.{EntryView}
use Rattle.bpf_cert.specs.declared.claim.Claim.{Claim}

-- each call frame keeps its caller's R6 to R9
unfoldable pub frames_after : List AbsVal → List Frame → List CallFrame
frames_after kept [] = []
frames_after kept (f ∷ fs) = record { return_slot = f.return_slot; kept = kept; stack = f.stack } ∷ frames_after (kept_of f.registers) fs

-- R0 to R9 of the newest function
unfoldable pub newest_registers : List Frame → List AbsVal
newest_registers [] = []
newest_registers (f ∷ []) = f.registers
newest_registers (f ∷ g ∷ fs) = newest_registers (g ∷ fs)

-- the state that an entry describes; R10 points to the end of the newest stack frame
abbrev pub state_of : EntryView → View
state_of e =
    record {
      pc = e.pc;
      registers = newest_registers e.frames ++ stack_end (length e.frames - 1) ∷ [];
      frames = frames_after main_frame.kept e.frames;
      least = e.least;
      rooms = e.rooms;
    }

-- R0 to R5 of all calling functions are unset, as in each reached state
unfoldable pub callers_free : List Frame → Bool
callers_free [] = true
callers_free (f ∷ []) = true
callers_free (f ∷ g ∷ fs) = list_all is_unset (take 6 f.registers) && callers_free (g ∷ fs)

-- the claim of an entry
abbrev pub claim_of : EntryView → Claim
claim_of e = record { state = state_of e; budget = e.budget; is_open = callers_free e.frames }
