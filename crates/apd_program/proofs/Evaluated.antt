-- Verdicts on captures, from their parts.
use Rattle.std.proofs.Common.{◌≡◌, ◌^◌, ℕ, List, Option, Some, None, Result, Vec, IfOk, option_map, inl, inr, refl, subst}
use Rattle.std.proofs.lemmas.Result.{IfOk-weaker}
use Rattle.std.specs.Borrow.{Bor}
use Rattle.std.specs.declared.alloc.Global.{Global}
use Rattle.bpf_regions.specs.declared.hooks.Hook.{Hook}
use Rattle.bpf_verifier.specs.declared.limit.Limits.{Limits}
use Rattle.bpf_regions.specs.declared.maps.Shape.{Shape}
use Rattle.capture.specs.Packets.{Seen}
use Rattle.capture.specs.Captures.{Refuses}
use Rattle.capture.specs.declared.fault.CaptureFault.{CaptureFault}
use Rattle.ap_model.specs.Readings.{Config}
use Rattle.apd_files.specs.declared.inputs.files.FileKind.TheVariants.{Capture}
use Rattle.apd_files.specs.Held.{Held, Holds, Keeps, Lacks}
use Rattle.apd_words.specs.Asked.{text_of}
use Rattle.apd_words.specs.declared.Report.{Report}
use Rattle.apd_program.specs.Admitting.{IsOfAdmitted}
use Rattle.apd_program.specs.Captured.{IsCaptured, IsNoCapture}
use Rattle.apd_program.specs.Evaluating.{Replayed, AreVerdicts, AreDifferences, AreJudged, IsKept, HoldsIfAny, HasBadCodeInForce, IsMaterial, IsEvaluatedWith, HasNoEvaluation, NoConfig, OfConfiguration, OfCode, OfCapture, OfCodeInForce, link_of}
use Rattle.apd_program.specs.Faults.{IsMemoryOr, HasBadConfiguration, HasBadCode, HasBadCapture, NoFile, NoCapture}
use Rattle.apd_program.specs.declared.answer.Answer.{Answer}
use Rattle.apd_program.specs.declared.eval.Material.{Material}
use Rattle.apd_program.specs.declared.fault.ProgramFault.{ProgramFault}
use Rattle.apd_program.specs.declared.fault.ProgramFault.TheVariants as fault
use Rattle.apd_program.proofs.Admits.{IsOfAdmitted-weaker, IsOfAdmitted-kept}

unnamed : (path : Bor (List ℕ)) → Some path ≡ None → ⊥
unnamed path h = cc

pub no_configuration : (files : Held) (file capture : List ℕ) (against : Option (List ℕ)) (config : Option (Bor (List ℕ))) → config ≡ None → IsMemoryOr (HasNoEvaluation files file capture against (text_of config)) fault.NoConfig
no_configuration files file capture against None h = inr NoConfig
no_configuration files file capture against (Some path) h = absurd (unnamed path h)

module _ (files : Held) (file capture : List ℕ) (against : Option (List ℕ)) (config : List ℕ) (e : ProgramFault) where
  pub bad_configuration : IsMemoryOr (HasBadConfiguration files config) e → IsMemoryOr (HasNoEvaluation files file capture against (Some config)) e
  bad_configuration (inl memory) = inl memory
  bad_configuration (inr bad) = inr (OfConfiguration config bad)

  pub bad_code : (later : Held) → later ≡ files → IsMemoryOr (HasBadCode later file) e → IsMemoryOr (HasNoEvaluation files file capture against (Some config)) e
  bad_code later same (inl memory) = inl memory
  bad_code later same (inr bad) = inr (OfCode (Some config) (let P : Held → Type 0 = λ f. HasBadCode f file in subst P same bad))

  pub no_capture : (later : Held) → later ≡ files → IsMemoryOr (Lacks Capture later capture) e → IsMemoryOr (HasNoEvaluation files file capture against (Some config)) e
  no_capture later same (inl memory) = inl memory
  no_capture later same (inr lacks) = inr (OfCapture (Some config) (let P : Held → Type 0 = λ f. HasBadCapture f capture in subst P same (NoFile lacks)))

  pub bad_code_in_force : (later : Held) → later ≡ files → IsMemoryOr (HasBadCodeInForce later against) e → IsMemoryOr (HasNoEvaluation files file capture against (Some config)) e
  bad_code_in_force later same (inl memory) = inl memory
  bad_code_in_force later same (inr bad) = inr (OfCodeInForce (Some config) (let P : Held → Type 0 = λ f. HasBadCodeInForce f against in subst P same bad))

  pub bad_capture : (text slice : List ℕ) → Holds files capture text → slice ≡ text → IsMemoryOr (IsNoCapture slice) e → IsMemoryOr (HasNoEvaluation files file capture against (Some config)) e
  bad_capture text slice there same (inl memory) = inl memory
  bad_capture text slice there same (inr none) = inr (OfCapture (Some config) (NoCapture text none.fault there none.known (subst (λ t. Refuses t none.fault) same none.refused)))

unkept : (code : Vec ℕ Global) → Some code ≡ None → ⊥
unkept code h = cc

module _ (files : Held) (limits : Limits) (g : Replayed) (code kept : List ℕ) (shapes : List Shape) (a : Answer) where
  -- what is said of kept codes is said of the whole ones
  judged_whole : (against : Option (List ℕ)) (old : Option (Vec ℕ Global)) → Keeps (2 ^ 17) 8 code kept → IsKept files against old → AreJudged limits g (option_map (λ o. o.items) old) kept shapes a
      → (whole : Option (List ℕ)) × HoldsIfAny files against whole × AreJudged limits g whole code shapes a
  judged_whole None None keeps is h = (None, refl, IsOfAdmitted-kept limits g.hook shapes (AreVerdicts g) code kept a keeps h)
  judged_whole None (Some old) keeps is h = absurd (unkept old is)
  judged_whole (Some path) None keeps is h = absurd is
  judged_whole (Some path) (Some old) keeps is h = (
    Some is.code,
    is.held,
    IsOfAdmitted-kept limits g.hook shapes (λ v. IsOfAdmitted limits g.hook (AreDifferences g v) code shapes) is.code old.items a is.keeps
        (IsOfAdmitted-weaker limits g.hook shapes (λ v. IsOfAdmitted limits g.hook (AreDifferences g v) kept shapes) (λ v. IsOfAdmitted limits g.hook (AreDifferences g v) code shapes) old.items a
        (λ v said. IsOfAdmitted-kept limits g.hook shapes (AreDifferences g v) code kept a keeps said) h),
  )

pub IsEvaluatedWith-of : (files : Held) (limits : Limits) (hook : Hook) (file capture config : List ℕ) (against : Option (List ℕ)) (report : Report) (m : Material) (cut : Option CaptureFault) (packets : List Seen) (r : Result Answer ProgramFault) → IsMaterial files config file capture against m → IsCaptured m.capture.items cut packets
    → IfOk r (AreJudged limits (record { hook = hook; draw = m.setting.draw; config = m.setting.link; packets = packets; cut = cut; report = report }) (option_map (λ o. o.items) m.in_force) m.code.items m.setting.shapes)
    → IfOk r (IsEvaluatedWith files limits hook file capture against report config)
IsEvaluatedWith-of files limits hook file capture config against report m cut packets r is captured said =
    let s = is.setting in
    let c = s.configuration in
    let on : ℕ → Config → Replayed = λ d l. record { hook = hook; draw = d; config = l; packets = packets; cut = cut; report = report } in
    IfOk-weaker r (AreJudged limits (on m.setting.draw m.setting.link) (option_map (λ o. o.items) m.in_force) m.code.items m.setting.shapes) (IsEvaluatedWith files limits hook file capture against report config) (λ a h.
    let whole = judged_whole files limits (on m.setting.draw m.setting.link) is.kept.code m.code.items m.setting.shapes a against m.in_force is.kept.keeps is.in_force h in
    let drawn = subst (λ d. AreJudged limits (on d m.setting.link) whole.0 is.kept.code m.setting.shapes a) s.draw whole.2 in
    let linked = subst (λ l. AreJudged limits (on c.draw l) whole.0 is.kept.code m.setting.shapes a) s.link drawn in
    record {
      configuration = c;
      configured = s.configured;
      code = is.kept.code;
      held = is.kept.held;
      in_force = whole.0;
      held_in_force = whole.1;
      packets = packets;
      cut = cut;
      captured = record { bytes = m.capture.items; there = is.there; captured = captured };
      said = subst (λ (maps : List Shape). AreJudged limits (on c.draw (link_of c)) whole.0 is.kept.code maps a) s.maps linked;
    }) said
