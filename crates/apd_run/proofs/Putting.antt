-- Putting a program in force.
use Rattle.std.proofs.Common.{◌≡◌, ◌≤◌, ℕ, List, Option, Some, length, refl, sym, subst}
use Rattle.bpf_regions.specs.declared.hooks.Hook.{Hook}
use Rattle.bpf_decode.specs.Program.{Code}
use Rattle.bpf_model.specs.Run.{Safe}
use Rattle.bpf_machine.specs.Verified.{Verified}
use Rattle.bpf_cert.specs.Certified.{Covered}
use Rattle.bpf_cert.specs.declared.fault.CertFault.TheVariants as check
use Rattle.bpf_cert.specs.declared.limit.WithinFault.{WithinFault}
use Rattle.bpf_cert.specs.declared.limit.WithinFault.TheVariants as within
use Rattle.bpf_verifier.specs.declared.limit.Limits.{Limits}
use Rattle.versions.specs.Lists.{Beginning, with_load}
use Rattle.versions.specs.Sets.{load}
use Rattle.versions_checked.specs.Publishing.{IsRefusal}
use Rattle.versions_checked.specs.declared.fault.CheckedFault.TheVariants as checked
use Rattle.versions_checked.specs.declared.offer.Offer.{Offer}
use Rattle.apd_driver.specs.declared.reports.report.Told.{Told}
use Rattle.apd_driver.specs.declared.reports.report.Told.TheVariants.{Loaded}
use Rattle.apd_run.specs.Loading.{IsInForce, PutsInForce, InForce, NoRoomToPut, LoadsProgram, Admitted, NoRoomToLoad}
use Rattle.apd_run.specs.Adopting.{AdoptsProgram, Certified, NotCertified, NotChecked, NoRoomToAdopt, certificate_told}

-- after the verifier admitted it
pub loaded : (limits : Limits) (hook : Hook) (a : Verified) (program : Code) (old new : Beginning) (told : Told) → a.code ≡ program → a.budget ≤ limits.states → PutsInForce hook a old new told
    → LoadsProgram limits hook program old new told
loaded limits hook a program old new _ is small (InForce force) =
    subst (λ (code : Code). LoadsProgram limits hook program old new (Loaded a.budget (length code.slots))) (sym is)
    (Admitted a.budget (subst (λ (code : Code). IsInForce hook code old new a.budget) is force) small)
loaded limits hook a program old new _ is small (NoRoomToPut same) = NoRoomToLoad same

-- after a certificate showed it safe
pub adopted : (work : Option ℕ) (hook : Hook) (program : Code) (certificate : List ℕ) (old new : Beginning) (budget : ℕ) → Covered program hook certificate budget → Safe program.slots program.shapes budget
    → new ≡ with_load old (load hook (Some (record { code = program; hook = hook; budget = budget }))) → AdoptsProgram work hook program certificate old new (Loaded budget (length program.slots))
adopted work hook program certificate old new budget covered safe is =
    Certified budget (record {
      force = record { accepted = record { code = program; hook = hook; budget = budget }; code_is = refl; hook_is = refl; budget_is = refl; safe = safe; loaded = is };
      covered = covered;
    })

-- or did not
pub not_adopted : (work : Option ℕ) (list : Beginning) (o : Offer) (old new : Beginning) (fault : WithinFault) → IsRefusal work list o (checked.Certificate fault) → new ≡ old
    → AdoptsProgram work o.hook o.program o.certificate.now old new (certificate_told fault)
not_adopted work list o old new (within.Refused check.NoMemory) refuses same = NoRoomToAdopt same
not_adopted work list o old new (within.Refused check.Malformed) refuses same = NotCertified check.Malformed (λ e. cc) refuses same
not_adopted work list o old new (within.Refused check.Other) refuses same = NotCertified check.Other (λ e. cc) refuses same
not_adopted work list o old new (within.Refused check.NotCovered) refuses same = NotCertified check.NotCovered (λ e. cc) refuses same
not_adopted work list o old new within.TooMuchWork passed same = NotChecked passed same
