-- Budgets after loads.
use Rattle.std.proofs.Common.{◌≡◌, ℕ, Bool, true, false, List, [], ◌∷◌, ◌++◌, map, get_or, Option, Some, None, refl, sym, ap, ◌∙◌, subst}
use Rattle.std.specs.Prelude.{if◌then◌else◌}
use Rattle.std.proofs.lemmas.List.{map-append}
use Rattle.std.proofs.lemmas.Simd.{map-map}
use Rattle.std.proofs.lemmas.List.Sums.{fold-append}
use Rattle.bpf_regions.specs.declared.hooks.Hook.{Hook}
use Rattle.bpf_regions.specs.declared.hooks.Hook.TheVariants.{Association, Addba, Data}
use Rattle.bpf_decode.specs.Program.{Code}
use Rattle.bpf_machine.specs.Verified.{Verified}
use Rattle.bpf_verifier.specs.declared.limit.Limits.{Limits}
use Rattle.versions.specs.Lists.{Beginning, with_load}
use Rattle.versions.specs.Numbers.{next_at, next_by, no_numbers, numbers_of}
use Rattle.versions.specs.Sets.{Programs, after, load, no_programs, replaced, set_of}
use Rattle.hook_judge.specs.Counts.{Counts, are_of_one, sum_of, with_all}
use Rattle.hook_judge.specs.declared.hook_counts.HookCounts.{HookCounts}
use Rattle.apd_driver.specs.Asking.{AreWithinBudget}
use Rattle.apd_driver.specs.declared.answers.answer.ProgramRow.{ProgramRow}
use Rattle.versions.specs.declared.list.Load.{Load}
use Rattle.apd_files.specs.Held.{Held}
use Rattle.apd_run.specs.Reports.{Told}
use Rattle.apd_run.specs.Adopting as adopting
use Rattle.apd_run.specs.InForce.{AreInForce, AreOf, Row, budget_in, budget_of, budget_shown, budgets_of, none_since, noted, nothing, put_program, row_if, row_shown, rows_of, with_budget, with_counts, with_more}
use Rattle.apd_run.specs.Loading.{IsInForce, LoadsProgram, Admitted, NotAdmitted, NoRoomToLoad, LoadsCode, Decoded, NotDecoded, NoRoomToDecode, LoadsFile, Read, NotRead, NoRoomToRead}
use Rattle.apd_run.specs.declared.access.program_counts.ProgramCounts.{ProgramCounts}

-- a program's budget, with no run counted
fresh_budget : (number : ℕ) (program : Option Verified) (budget : Option ℕ) → budget ≡ budget_of program → budget_in (none_since number budget) ≡ budget_of program
fresh_budget number program None is = is
fresh_budget number program (Some b) is = is

fresh_of : (number : ℕ) (budget : Option ℕ) → AreOf number (none_since number budget)
fresh_of number None = tt
fresh_of number (Some b) = refl

-- one hook's program is another
replaced_budgets : (hook : Hook) (b : ProgramCounts) (old new : List Load) (program : Option Verified) (budget : Option ℕ) → budget ≡ budget_of program
    → set_of new ≡ replaced hook (set_of old) program → numbers_of new ≡ next_at hook (numbers_of old) → AreInForce b old → AreInForce (put_program hook budget b) new
replaced_budgets Association b old new program budget is set numbers h =
    record {
      association = fresh_budget _ program budget is ∙ ap (λ (s : Programs). budget_of s.association) (sym set);
      addba = h.addba ∙ ap (λ (s : Programs). budget_of s.addba) (sym set);
      frames = h.frames ∙ ap (λ (s : Programs). budget_of s.frames) (sym set);
      numbers = ap (next_at Association) h.numbers ∙ sym numbers;
      of_association = fresh_of _ budget;
      of_addba = h.of_addba;
      of_frames = h.of_frames;
    }
replaced_budgets Addba b old new program budget is set numbers h =
    record {
      association = h.association ∙ ap (λ (s : Programs). budget_of s.association) (sym set);
      addba = fresh_budget _ program budget is ∙ ap (λ (s : Programs). budget_of s.addba) (sym set);
      frames = h.frames ∙ ap (λ (s : Programs). budget_of s.frames) (sym set);
      numbers = ap (next_at Addba) h.numbers ∙ sym numbers;
      of_association = h.of_association;
      of_addba = fresh_of _ budget;
      of_frames = h.of_frames;
    }
replaced_budgets Data b old new program budget is set numbers h =
    record {
      association = h.association ∙ ap (λ (s : Programs). budget_of s.association) (sym set);
      addba = h.addba ∙ ap (λ (s : Programs). budget_of s.addba) (sym set);
      frames = fresh_budget _ program budget is ∙ ap (λ (s : Programs). budget_of s.frames) (sym set);
      numbers = ap (next_at Data) h.numbers ∙ sym numbers;
      of_association = h.of_association;
      of_addba = h.of_addba;
      of_frames = fresh_of _ budget;
    }

-- after one more load
pub loaded_budgets : (hook : Hook) (b : ProgramCounts) (old new : Beginning) (program : Option Verified) (budget : Option ℕ) → budget ≡ budget_of program
    → new ≡ with_load old (load hook program) → AreInForce b old.loads → AreInForce (put_program hook budget b) new.loads
loaded_budgets hook b old new program budget is more h =
    let one : Load = load hook program in
    let set : set_of new.loads ≡ replaced hook (set_of old.loads) program = ap (λ (k : Beginning). set_of k.loads) more ∙ fold-append after no_programs old.loads (one ∷ []) in
    let numbers : numbers_of new.loads ≡ next_at hook (numbers_of old.loads) = ap (λ (k : Beginning). numbers_of k.loads) more ∙ fold-append next_by no_numbers old.loads (one ∷ []) in
    replaced_budgets hook b old.loads new.loads program budget is set numbers h

-- without another load
pub same_budgets : (b : ProgramCounts) (old new : Beginning) → new ≡ old → AreInForce b old.loads → AreInForce b new.loads
same_budgets b old new is h = subst (λ (k : Beginning). AreInForce b k.loads) (sym is) h

force_budgets : (hook : Hook) (program : Code) (b : ProgramCounts) (old new : Beginning) (budget : ℕ) → IsInForce hook program old new budget → AreInForce b old.loads
    → AreInForce (put_program hook (Some budget) b) new.loads
force_budgets hook program b old new budget f h =
    loaded_budgets hook b old new (Some f.accepted) (Some budget) (ap Some (sym f.budget_is)) f.loaded h

module _ (hook : Hook) (b : ProgramCounts) (old new : Beginning) (h : AreInForce b old.loads) where
  program_budgets : (limits : Limits) (program : Code) (told : Told) → LoadsProgram limits hook program old new told → AreInForce (noted hook told b) new.loads
  program_budgets limits program _ (Admitted budget force small) = force_budgets hook program b old new budget force h
  program_budgets limits program _ (NotAdmitted refusal is) = same_budgets b old new is.unchanged h
  program_budgets limits program _ (NoRoomToLoad is) = same_budgets b old new is h

  code_budgets : (limits : Limits) (code : List ℕ) (told : Told) → LoadsCode limits hook code old new told → AreInForce (noted hook told b) new.loads
  code_budgets limits code _ (Decoded program told spells shapes loads) = program_budgets limits program told loads
  code_budgets limits code _ (NotDecoded fault other refuses is) = same_budgets b old new is h
  code_budgets limits code _ (NoRoomToDecode is) = same_budgets b old new is h

  -- after a load from a file
  pub file_budgets : (files : Held) (limits : Limits) (path : List ℕ) (told : Told) → LoadsFile files limits hook path old new told → AreInForce (noted hook told b) new.loads
  file_budgets files limits path _ (Read code told holds loads) = code_budgets limits code told loads
  file_budgets files limits path _ (NotRead fault other is_fault is) = same_budgets b old new is h
  file_budgets files limits path _ (NoRoomToRead is) = same_budgets b old new is h

  adopted_budgets : (work : Option ℕ) (program : Code) (certificate : List ℕ) (told : Told) → adopting.AdoptsProgram work hook program certificate old new told → AreInForce (noted hook told b) new.loads
  adopted_budgets work program certificate _ (adopting.Certified budget is) = force_budgets hook program b old new budget is.force h
  adopted_budgets work program certificate _ (adopting.NotCertified fault other refuses is) = same_budgets b old new is h
  adopted_budgets work program certificate _ (adopting.NotChecked passed is) = same_budgets b old new is h
  adopted_budgets work program certificate _ (adopting.NoRoomToAdopt is) = same_budgets b old new is h

  adopted_code_budgets : (work : Option ℕ) (code certificate : List ℕ) (told : Told) → adopting.AdoptsCode work hook code certificate old new told → AreInForce (noted hook told b) new.loads
  adopted_code_budgets work code certificate _ (adopting.Decoded program told spells shapes adopts) = adopted_budgets work program certificate told adopts
  adopted_code_budgets work code certificate _ (adopting.NotDecoded fault other refuses is) = same_budgets b old new is h
  adopted_code_budgets work code certificate _ (adopting.NoRoomToDecode is) = same_budgets b old new is h

  -- after an adoption of a file
  pub adopted_file_budgets : (files : Held) (work : Option ℕ) (path shown : List ℕ) (told : Told) → adopting.AdoptsFiles files work hook path shown old new told
      → AreInForce (noted hook told b) new.loads
  adopted_file_budgets files work path shown _ (adopting.Read code certificate told holds shows adopts) = adopted_code_budgets work code certificate told adopts
  adopted_file_budgets files work path shown _ (adopting.CodeNotRead fault other is_fault is) = same_budgets b old new is h
  adopted_file_budgets files work path shown _ (adopting.CertificateNotRead fault other is_fault is) = same_budgets b old new is h
  adopted_file_budgets files work path shown _ (adopting.NoRoomToRead is) = same_budgets b old new is h

-- ---- what workers counted

if_budget : (b : Bool) (c d : Counts) → c.budget ≡ d.budget → (if b then c else d).budget ≡ d.budget
if_budget true c d is = is
if_budget false c d is = refl

if_load : (b : Bool) (c d : Counts) → c.load ≡ d.load → (if b then c else d).load ≡ d.load
if_load true c d is = is
if_load false c d is = refl

same_budget : (c more : Counts) → (sum_of c more).budget ≡ c.budget
same_budget c more = if_budget (are_of_one more c.load c.budget) (with_all c more) c refl

same_load : (c more : Counts) → (sum_of c more).load ≡ c.load
same_load c more = if_load (are_of_one more c.load c.budget) (with_all c more) c refl

more_budget : (counts : Option Counts) (more : Counts) → budget_in (with_more counts more) ≡ budget_in counts
more_budget None more = refl
more_budget (Some c) more = ap Some (same_budget c more)

more_of : (number : ℕ) (counts : Option Counts) (more : Counts) → AreOf number counts → AreOf number (with_more counts more)
more_of number None more h = tt
more_of number (Some c) more h = same_load c more ∙ h

-- with what a worker counted
pub counted_in_force : (p : ProgramCounts) (more : HookCounts) (loads : List Load) → AreInForce p loads → AreInForce (with_counts p more) loads
counted_in_force p more loads h =
    record {
      association = more_budget p.association more.association ∙ h.association;
      addba = more_budget p.addba more.addba ∙ h.addba;
      frames = more_budget p.frames more.frames ∙ h.frames;
      numbers = h.numbers;
      of_association = more_of p.numbers.association p.association more.association h.of_association;
      of_addba = more_of p.numbers.addba p.addba more.addba h.of_addba;
      of_frames = more_of p.numbers.frames p.frames more.frames h.of_frames;
    }

-- ---- rows

budget_if : (hook : Hook) (counts : Option Counts) → map (λ (r : Row). (r.hook, r.budget)) (row_if hook counts) ≡ with_budget hook (budget_in counts)
budget_if hook None = refl
budget_if hook (Some c) = refl

shown_budgets : (p : ProgramCounts) → map (λ (r : Row). (r.hook, r.budget)) (rows_of p)
    ≡ with_budget Association (budget_in p.association) ++ (with_budget Addba (budget_in p.addba) ++ with_budget Data (budget_in p.frames))
shown_budgets p =
    let pair : Row → Hook × ℕ = λ (r : Row). (r.hook, r.budget) in
    map-append pair (row_if Association p.association) (row_if Addba p.addba ++ row_if Data p.frames)
    ∙ (ap (λ l. l ++ map pair (row_if Addba p.addba ++ row_if Data p.frames)) (budget_if Association p.association)
    ∙ ap (λ l. with_budget Association (budget_in p.association) ++ l)
    (map-append pair (row_if Addba p.addba) (row_if Data p.frames)
    ∙ (ap (λ l. l ++ map pair (row_if Data p.frames)) (budget_if Addba p.addba)
    ∙ ap (λ l. with_budget Addba (budget_in p.addba) ++ l) (budget_if Data p.frames))))

-- the rows are those of the set's programs
pub rows_of_set : (p : ProgramCounts) (loads : List Load) (rows : List ProgramRow) → AreInForce p loads → map row_shown rows ≡ rows_of p
    → map budget_shown rows ≡ budgets_of (set_of loads)
rows_of_set p loads rows h shown =
    let pair : Row → Hook × ℕ = λ (r : Row). (r.hook, r.budget) in
    sym (map-map pair row_shown rows) ∙ ap (map pair) shown ∙ shown_budgets p
    ∙ λ i. with_budget Association (h.association i) ++ (with_budget Addba (h.addba i) ++ with_budget Data (h.frames i))

-- a row says so itself
pub all_within : (rows : List ProgramRow) → AreWithinBudget rows
all_within rows = λ i row within. (get_or rows i row).within

-- no program is in force before the first load
pub no_budgets : (k : Beginning) → k.loads ≡ [] → AreInForce nothing k.loads
no_budgets k is =
    subst (λ (l : List Load). AreInForce nothing l) (sym is)
    (record { association = refl; addba = refl; frames = refl; numbers = refl; of_association = tt; of_addba = tt; of_frames = tt })
