-- Code of which a part is kept.
use Rattle.std.proofs.Common.{◌≡◌, ℕ, ◌%◌, ◌^◌, ◌<◌, List, length, Result, IfOk, subst, arith}
use Rattle.std.proofs.lemmas.Result.{IfOk-weaker}
use Rattle.bpf_regions.specs.declared.maps.Shape.{Shape}
use Rattle.bpf_decode.specs.Program.{Code}
use Rattle.bpf_decode.specs.Answer.{Refuses}
use Rattle.bpf_decode.specs.declared.fault.DecodeFault.{DecodeFault}
use Rattle.bpf_decode.specs.declared.fault.DecodeFault.TheVariants as fault
use Rattle.apd_files.specs.Held.{Held, Keeps, Whole, Part}
use Rattle.apd_program.specs.declared.answer.Answer.{Answer}
use Rattle.apd_program.specs.declared.fault.ProgramFault.{ProgramFault}
use Rattle.apd_words.specs.declared.Source.{Source}
use Rattle.apd_words.specs.Asked.{config_of}
use Rattle.apd_program.specs.declared.inputs.Loaded.{Loaded}
use Rattle.apd_program.specs.declared.inputs.Setup.{Setup}
use Rattle.apd_program.specs.Setups.{IsLoaded}
use Rattle.apd_program.specs.Answers.{IsOfCode, IsOfSlots}
use Rattle.apd_program.specs.Programs.{IsOfProgram, Undecoded, Decoded}

-- code that is too long has the fault of what is kept of it
refuses : (code kept : List ℕ) (shapes : List Shape) (e : DecodeFault) → 2 ^ 17 < length code → 2 ^ 17 < length kept → length kept % 8 ≡ length code % 8 → Refuses kept shapes e → Refuses code shapes e
refuses code kept shapes fault.NoMemory long longer even r = tt
refuses code kept shapes fault.Length long longer even r = λ h. r (omega (arith, h, even))
refuses code kept shapes fault.Empty long longer even r = absurd (omega (arith, r, longer))
refuses code kept shapes fault.Long long longer even r = (omega (arith, r.0, even), omega (arith, long))
refuses code kept shapes (fault.At k e) long longer even r = absurd (let w = r.whole in let s = r.short in omega (arith, w, s, longer))

module _ (says : Code → Answer → Type 0) (shapes : List Shape) where
  past : (code kept : List ℕ) (a : Answer) → 2 ^ 17 < length code → 2 ^ 17 < length kept → length kept % 8 ≡ length code % 8 → IsOfProgram says kept shapes a → IsOfProgram says code shapes a
  past code kept _ long longer even (Undecoded e known r) = Undecoded e known (refuses code kept shapes e long longer even r)
  past code kept a long longer even (Decoded p _ spells same said) =
      absurd (let w = spells.well_formed.whole in let s = spells.well_formed.short in omega (arith, w, s, longer))

  pub IsOfProgram-kept : (code kept : List ℕ) (a : Answer) → Keeps (2 ^ 17) 8 code kept → IsOfProgram says kept shapes a → IsOfProgram says code shapes a
  IsOfProgram-kept code kept a (Whole same) h = subst (λ c. IsOfProgram says c shapes a) same h
  IsOfProgram-kept code kept a (Part long longer even) h = past code kept a long longer even h

pub IsOfCode-loaded : (says : Setup → Code → Answer → Type 0) (files : Held) (source : Source) (loaded : Loaded) (r : Result Answer ProgramFault) → IsLoaded files source loaded
    → IfOk r (IsOfProgram (says loaded.setup) loaded.code.items loaded.setup.shapes) → IfOk r (IsOfCode says files source.file.now (config_of source))
IsOfCode-loaded says files source loaded r h said =
    IfOk-weaker r (IsOfProgram (says loaded.setup) loaded.code.items loaded.setup.shapes) (IsOfCode says files source.file.now (config_of source)) (λ a i. record {
      setup = loaded.setup;
      configured = h.configured;
      code = h.kept.code;
      held = h.kept.held;
      said = IsOfProgram-kept (says loaded.setup) loaded.setup.shapes h.kept.code loaded.code.items a h.kept.keeps i;
    }) said

pub IsOfSlots-loaded : (says : List ℕ → Answer → Type 0) (files : Held) (source : Source) (loaded : Loaded) (r : Result Answer ProgramFault) → IsLoaded files source loaded
    → IfOk r (says loaded.code.items) → IfOk r (IsOfSlots says files source.file.now (config_of source))
IsOfSlots-loaded says files source loaded r h said =
    IfOk-weaker r (says loaded.code.items) (IsOfSlots says files source.file.now (config_of source)) (λ a i. record {
      setup = loaded.setup;
      configured = h.configured;
      kept = loaded.code.items;
      held = h.kept;
      said = i;
    }) said
