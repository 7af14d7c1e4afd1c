-- Code that is kept in part.
use Rattle.std.proofs.Common.{◌≡◌, ℕ, ◌%◌, ◌^◌, ◌<◌, List, Option, length, subst, arith}
use Rattle.bpf_regions.specs.declared.hooks.Hook.{Hook}
use Rattle.bpf_regions.specs.declared.maps.Shape.{Shape}
use Rattle.bpf_decode.specs.Answer.{Refuses}
use Rattle.bpf_decode.specs.declared.fault.DecodeFault.{DecodeFault}
use Rattle.bpf_decode.specs.declared.fault.DecodeFault.TheVariants as fault
use Rattle.bpf_verifier.specs.declared.limit.Limits.{Limits}
use Rattle.versions.specs.Lists.{Beginning}
use Rattle.apd_files.specs.Held.{Keeps, Whole, Part}
use Rattle.apd_driver.specs.declared.reports.report.Told.{Told}
use Rattle.apd_run.specs.Loading as load
use Rattle.apd_run.specs.Adopting as adopt

-- code beyond the longest has the same fault as its kept part
refuses : (code kept : List ℕ) (shapes : List Shape) (e : DecodeFault) → 2 ^ 17 < length code → 2 ^ 17 < length kept → length kept % 8 ≡ length code % 8 → Refuses kept shapes e → Refuses code shapes e
refuses code kept shapes fault.NoMemory long longer even r = tt
refuses code kept shapes fault.Length long longer even r = λ h. r (omega (arith, h, even))
refuses code kept shapes fault.Empty long longer even r = absurd (omega (arith, r, longer))
refuses code kept shapes fault.Long long longer even r = (omega (arith, r.0, even), omega (arith, long))
refuses code kept shapes (fault.At k e) long longer even r = absurd (let w = r.whole in let s = r.short in omega (arith, w, s, longer))

module _ (hook : Hook) (old new : Beginning) where
  loads_past : (limits : Limits) (code kept : List ℕ) (told : Told) → 2 ^ 17 < length code → 2 ^ 17 < length kept → length kept % 8 ≡ length code % 8 → load.LoadsCode limits hook kept old new told → load.LoadsCode limits hook code old new told
  loads_past limits code kept told long longer even (load.Decoded program _ spells same does) =
      absurd (let w = spells.well_formed.whole in let s = spells.well_formed.short in omega (arith, w, s, longer))
  loads_past limits code kept _ long longer even (load.NotDecoded e known r same) = load.NotDecoded e known (refuses code kept old.shapes e long longer even r) same
  loads_past limits code kept _ long longer even (load.NoRoomToDecode same) = load.NoRoomToDecode same

  pub LoadsCode-kept : (limits : Limits) (code kept : List ℕ) (told : Told) → Keeps (2 ^ 17) 8 code kept → load.LoadsCode limits hook kept old new told → load.LoadsCode limits hook code old new told
  LoadsCode-kept limits code kept told (Whole same) h = subst (λ c. load.LoadsCode limits hook c old new told) same h
  LoadsCode-kept limits code kept told (Part long longer even) h = loads_past limits code kept told long longer even h

  adopts_past : (work : Option ℕ) (code kept certificate : List ℕ) (told : Told) → 2 ^ 17 < length code → 2 ^ 17 < length kept → length kept % 8 ≡ length code % 8 → adopt.AdoptsCode work hook kept certificate old new told
      → adopt.AdoptsCode work hook code certificate old new told
  adopts_past work code kept certificate told long longer even (adopt.Decoded program _ spells same does) =
      absurd (let w = spells.well_formed.whole in let s = spells.well_formed.short in omega (arith, w, s, longer))
  adopts_past work code kept certificate _ long longer even (adopt.NotDecoded e known r same) = adopt.NotDecoded e known (refuses code kept old.shapes e long longer even r) same
  adopts_past work code kept certificate _ long longer even (adopt.NoRoomToDecode same) = adopt.NoRoomToDecode same

  pub AdoptsCode-kept : (work : Option ℕ) (code kept certificate : List ℕ) (told : Told) → Keeps (2 ^ 17) 8 code kept → adopt.AdoptsCode work hook kept certificate old new told → adopt.AdoptsCode work hook code certificate old new told
  AdoptsCode-kept work code kept certificate told (Whole same) h = subst (λ c. adopt.AdoptsCode work hook c certificate old new told) same h
  AdoptsCode-kept work code kept certificate told (Part long longer even) h = adopts_past work code kept certificate told long longer even h
