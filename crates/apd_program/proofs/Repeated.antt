-- Repetitions, from their parts.
use Rattle.std.proofs.Common.{◌≡◌, ℕ, List, Option, Some, Result, IfOk, inl, inr, ap, subst}
use Rattle.std.proofs.lemmas.Result.{IfOk-weaker}
use Rattle.std.specs.Borrow.{Bor}
use Rattle.bpf_regions.specs.declared.hooks.Hook.{Hook}
use Rattle.bpf_regions.specs.declared.maps.Shape.{Shape}
use Rattle.bpf_verifier.specs.declared.limit.Limits.{Limits}
use Rattle.capture.specs.Packets.{Seen}
use Rattle.capture.specs.declared.fault.CaptureFault.{CaptureFault}
use Rattle.ap_model.specs.Readings.{Config}
use Rattle.apd_files.specs.Held.{Held}
use Rattle.apd_words.specs.Asked.{text_of}
use Rattle.apd_words.specs.declared.Report.{Report}
use Rattle.apd_program.specs.Admitting.{IsOfAdmitted}
use Rattle.apd_program.specs.Captured.{IsCaptured}
use Rattle.apd_program.specs.Evaluating.{Replayed, IsMaterial, HasNoEvaluation, link_of}
use Rattle.apd_program.specs.Repeating.{AreTimed, IsRepeatedWith, HasNoRepetition, OfTwo, OfOne}
use Rattle.apd_program.specs.Faults.{IsMemoryOr}
use Rattle.apd_program.specs.declared.answer.Answer.{Answer}
use Rattle.apd_program.specs.declared.eval.Material.{Material}
use Rattle.apd_program.specs.declared.fault.ProgramFault.{ProgramFault}
use Rattle.apd_program.specs.declared.fault.ProgramFault.TheVariants.{TwoPrograms}
use Rattle.apd_program.proofs.Admits.{IsOfAdmitted-kept}

pub two_programs : (files : Held) (file capture : List ℕ) (against : Option (Bor (List ℕ))) (old : Bor (List ℕ)) (config : Option (List ℕ)) → against ≡ Some old → IsMemoryOr (HasNoRepetition files file capture (text_of against) config) TwoPrograms
two_programs files file capture against old config is = inr (OfTwo old.now (ap text_of is))

pub of_one : (files : Held) (file capture : List ℕ) (against config : Option (List ℕ)) (e : ProgramFault) → IsMemoryOr (HasNoEvaluation files file capture against config) e → IsMemoryOr (HasNoRepetition files file capture against config) e
of_one files file capture against config e (inl memory) = inl memory
of_one files file capture against config e (inr none) = inr (OfOne none)

pub IsRepeatedWith-of : (files : Held) (limits : Limits) (hook : Hook) (file capture config : List ℕ) (against : Option (List ℕ)) (report : Report) (times : ℕ) (m : Material) (cut : Option CaptureFault) (packets : List Seen) (r : Result Answer ProgramFault) → IsMaterial files config file capture against m → IsCaptured m.capture.items cut packets
    → IfOk r (IsOfAdmitted limits hook (AreTimed (record { hook = hook; draw = m.setting.draw; config = m.setting.link; packets = packets; cut = cut; report = report }) times) m.code.items m.setting.shapes)
    → IfOk r (IsRepeatedWith files limits hook file capture report times config)
IsRepeatedWith-of files limits hook file capture config against report times m cut packets r is captured said =
    let s = is.setting in
    let c = s.configuration in
    let on : ℕ → Config → Replayed = λ d l. record { hook = hook; draw = d; config = l; packets = packets; cut = cut; report = report } in
    IfOk-weaker r (IsOfAdmitted limits hook (AreTimed (on m.setting.draw m.setting.link) times) m.code.items m.setting.shapes) (IsRepeatedWith files limits hook file capture report times config) (λ a h.
    let whole = IsOfAdmitted-kept limits hook m.setting.shapes (AreTimed (on m.setting.draw m.setting.link) times) is.kept.code m.code.items a is.kept.keeps h in
    let drawn = subst (λ d. IsOfAdmitted limits hook (AreTimed (on d m.setting.link) times) is.kept.code m.setting.shapes a) s.draw whole in
    let linked = subst (λ l. IsOfAdmitted limits hook (AreTimed (on c.draw l) times) is.kept.code m.setting.shapes a) s.link drawn in
    record {
      configuration = c;
      configured = s.configured;
      code = is.kept.code;
      held = is.kept.held;
      packets = packets;
      cut = cut;
      captured = record { bytes = m.capture.items; there = is.there; captured = captured };
      said = subst (λ (maps : List Shape). IsOfAdmitted limits hook (AreTimed (on c.draw (link_of c)) times) is.kept.code maps a) s.maps linked;
    }) said
