-- The counts of steps of a capture's rows: at each slot as many as the rows' runs make there.
use Rattle.std.proofs.Common.{◌≡◌, ◌≢◌, ◌<◌, ◌+◌, ◌%◌, ◌^◌, ◌==◌, ◌∙◌, ℕ, cond, eq-eqb, ne_eqb, List, [], ◌∷◌, length, get_or, replicate, Option, Some, refl, sym, ap, subst, arith, mod-eq_of_lt, add_assoc}
use Rattle.std.proofs.Math.Nat.{mod-add-mod}
use Rattle.std.proofs.lemmas.List.{get_or-set_same, get_or-set_other, length-set, get_or-replicate, length-replicate}
use Rattle.std.proofs.lemmas.List.Sums.{sum_by-cons}
use Rattle.std.specs.Borrow.{Bor}
use Rattle.std.specs.Option.{option_copied}
use mathlib.Core.Logic.{dite}
use native.Mathlib.Decide.{ℕ_discrete}
use Rattle.bpf_insn.specs.declared.insn.Insn.{Insn}
use Rattle.bpf_machine.specs.Verified.{Verified}
use Rattle.bpf_regions.specs.declared.hooks.Hook.{Hook}
use Rattle.bpf_helpers.specs.Hooked.{Given}
use Rattle.capture.specs.Packets.{Seen}
use Rattle.ap_model.specs.Asks.{Ask}
use Rattle.ap_model.specs.Readings.{Config}
use Rattle.program_judge.specs.Programs.{Programs, no_programs, program_at, replaced}
use Rattle.apd_eval.specs.Again.{query_of}
use Rattle.apd_eval.specs.Asked.{IsAsked, AreAsked, IsFollowed}
use Rattle.apd_eval.specs.Evaluated.{judged_by}
use Rattle.apd_eval.specs.Metered.{Metered}
use Rattle.apd_eval.specs.Profile.{IsRunOn, AreRuns, steps_at, is_json, IsFormed, IsProfile}
use Rattle.apd_eval.specs.Rulings.{GivesMetered}
use Rattle.apd_eval.specs.Sums.{sums_text}
use Rattle.apd_eval.specs.Visits.{counted, ticked, times}
use Rattle.apd_eval.specs.declared.row.Row.{Row}
use Rattle.apd_eval.specs.declared.profile.ProfileForm.{ProfileForm}
use Rattle.apd_eval.specs.declared.ruling.Ruling.{Ruling}
use Rattle.apd_eval.specs.declared.tried.Policy.{Policy}
use Rattle.apd_eval.proofs.Counting.{counted_long}
use Rattle.apd_eval.proofs.Rows.{is_judged, own_of, own_program}

times_cons : (k slot : ℕ) (slots : List ℕ) → times k (slot ∷ slots) ≡ cond (slot == k) 1 0 + times k slots
times_cons k slot slots = sum_by-cons (λ s. cond (s == k) 1 0) slot slots

times_same : (k : ℕ) (slots : List ℕ) → times k (k ∷ slots) ≡ 1 + times k slots
times_same k slots = times_cons k k slots ∙ ap (λ b. cond b 1 0 + times k slots) (eq-eqb k k refl)

times_other : (k slot : ℕ) (slots : List ℕ) → slot ≢ k → times k (slot ∷ slots) ≡ times k slots
times_other k slot slots apart =
    let plus : 0 + times k slots ≡ times k slots = omega arith in
    times_cons k slot slots ∙ (ap (λ b. cond b 1 0 + times k slots) (ne_eqb slot k apart) ∙ plus)

below : (n : ℕ) → n % 2 ^ 64 < 2 ^ 64
below n = omega arith

-- a slot's count after steps
pub counted_at : (slots counts : List ℕ) (k : ℕ) → k < length counts → get_or counts k 0 < 2 ^ 64 → get_or (counted slots counts) k 0 ≡ (get_or counts k 0 + times k slots) % 2 ^ 64
counted_at [] counts k low small =
    let none : get_or counts k 0 + 0 ≡ get_or counts k 0 = omega arith in
    sym (ap (λ n. n % 2 ^ 64) none ∙ mod-eq_of_lt small)
counted_at (slot ∷ slots) counts k low small =
    let next : List ℕ = ticked slot counts in
    let there : k < length next = subst (λ n. k < n) (sym (length-set counts slot ((get_or counts slot 0 + 1) % 2 ^ 64))) low in
    dite (ℕ_discrete slot k)
    (λ e.
    let P : ℕ → Type 0 = λ s. get_or (counted slots (ticked s counts)) k 0 ≡ (get_or counts k 0 + times k (s ∷ slots)) % 2 ^ 64 in
    let at : get_or (ticked k counts) k 0 ≡ (get_or counts k 0 + 1) % 2 ^ 64 = get_or-set_same counts k ((get_or counts k 0 + 1) % 2 ^ 64) 0 low in
    let here : k < length (ticked k counts) = subst (λ n. k < n) (sym (length-set counts k ((get_or counts k 0 + 1) % 2 ^ 64))) low in
    let later = counted_at slots (ticked k counts) k here (subst (λ n. n < 2 ^ 64) (sym at) (below (get_or counts k 0 + 1))) in
    let made : P k =
    later ∙ (ap (λ n. (n + times k slots) % 2 ^ 64) at
    ∙ (mod-add-mod (get_or counts k 0 + 1) (2 ^ 64) (times k slots)
    ∙ (ap (λ n. n % 2 ^ 64) (add_assoc (get_or counts k 0) 1 (times k slots))
    ∙ ap (λ n. (get_or counts k 0 + n) % 2 ^ 64) (sym (times_same k slots))))) in
    subst P (sym e) made)
    (λ apart.
    let other : get_or next k 0 ≡ get_or counts k 0 = get_or-set_other counts slot k ((get_or counts slot 0 + 1) % 2 ^ 64) 0 (λ same. apart (sym same)) in
    counted_at slots next k there (subst (λ n. n < 2 ^ 64) (sym other) small)
    ∙ (ap (λ n. (n + times k slots) % 2 ^ 64) other
    ∙ ap (λ n. (get_or counts k 0 + n) % 2 ^ 64) (sym (times_other k slot slots apart))))

record HasRun (v : Verified) (ask : Ask) (r : Ruling) (counts counts' : List ℕ) : Type 0 where
  slots : List ℕ
  is : IsRunOn v ask r slots
  is_counted : counts' ≡ counted slots counts

run_of : (g : Given) (o : Option Verified) (v : Verified) (h : Metered) (ask : Ask) (r : Ruling) (h' : Metered) → o ≡ Some v → GivesMetered g o h ask r.verdict r.steps h' → HasRun v ask r h.counts h'.counts
run_of g o v h ask r h' is gave =
    let made = subst (λ (x : Option Verified). GivesMetered g x h ask r.verdict r.steps h') is gave in
    record {
      slots = made.slots;
      is = record { asked = made.run.asked; notes = made.run.notes; ends = made.run.ends; passes = made.passes; many = made.many };
      is_counted = made.is_counted;
    }

module _ (p : Policy) (packets : List Seen) (v : Verified) (own : program_at p.hook p.programs.now ≡ Some v) where
  record HaveRuns (rows : List Row) (c c' : List ℕ) : Type 0 where
    runs : List (List ℕ)
    are : AreRuns v packets rows runs
    long : length c' ≡ length c
    each : (k : ℕ) → k < length c → get_or c k 0 < 2 ^ 64 → get_or c' k 0 ≡ (get_or c k 0 + steps_at k runs) % 2 ^ 64

  have_runs : (rows : List Row) (c c' : List ℕ) → AreAsked p packets c rows c' → HaveRuns rows c c'
  have_runs [] c c' same = record {
    runs = [];
    are = refl;
    long = ap length same;
    each = λ k low small. ap (λ (x : List ℕ). get_or x k 0) same ∙ counted_at [] c k low small;
  }
  have_runs (row ∷ rows) c c' asked =
      let mid : List ℕ = asked.0 in
      let one : IsAsked p packets c row mid = asked.1 in
      let rest : HaveRuns rows mid c' = have_runs rows mid c' asked.2 in
      let program : program_at row.ruling.hook p.programs.now ≡ Some v = ap (λ (h : Hook). program_at h p.programs.now) one.hook ∙ own in
      let run = run_of one.given (program_at row.ruling.hook p.programs.now) v one.before (query_of packets row) row.ruling one.after program one.is.given in
      let slots : List ℕ = run.slots in
      let mid_is : mid ≡ counted slots c = sym one.to ∙ (run.is_counted ∙ ap (counted slots) one.from) in
      let longer : length mid ≡ length c = ap length mid_is ∙ counted_long slots c in
      record {
        runs = slots ∷ rest.runs;
        are = (run.is, rest.are);
        long = rest.long ∙ longer;
        each = λ k low small.
            let first : get_or mid k 0 ≡ (get_or c k 0 + times k slots) % 2 ^ 64 = ap (λ (x : List ℕ). get_or x k 0) mid_is ∙ counted_at slots c k low small in
            let there : k < length mid = subst (λ n. k < n) (sym longer) low in
            let less : get_or mid k 0 < 2 ^ 64 = subst (λ n. n < 2 ^ 64) (sym first) (below (get_or c k 0 + times k slots)) in
            rest.each k there less
            ∙ (ap (λ n. (n + steps_at k rest.runs) % 2 ^ 64) first
            ∙ (mod-add-mod (get_or c k 0 + times k slots) (2 ^ 64) (steps_at k rest.runs)
            ∙ (ap (λ n. n % 2 ^ 64) (add_assoc (get_or c k 0) (times k slots) (steps_at k rest.runs))
            ∙ ap (λ n. (get_or c k 0 + n) % 2 ^ 64) (sym (sum_by-cons (times k) slots rest.runs)))));
      }

-- counts that begin at 0
pub profiled : (v : Verified) (draw : ℕ) (config : Config) (packets : List Seen) (form : ProfileForm) (p : Policy) (first last : Metered) (rows : List Row) (text : List ℕ) → p.hook ≡ v.hook
    → p.programs.now ≡ replaced v.hook (no_programs v.code.shapes) (Some v) → first.held.draw ≡ draw → first.counts ≡ replicate (length v.code.slots) 0 → IsFollowed p config packets first rows last
    → IsFormed form v.code.slots last.counts (sums_text (judged_by v config packets) rows (is_json form)) text → IsProfile v draw config packets form text
profiled v draw config packets form p first last rows text hook programs drawn zeros followed formed =
    let n : ℕ = length v.code.slots in
    let have = have_runs p packets v (own_program p v hook programs) rows first.counts last.counts followed.asked in
    let long : length first.counts ≡ n = ap length zeros ∙ length-replicate n 0 in
    record {
      rows = rows;
      counts = last.counts;
      judged = is_judged v draw config packets p first last (replicate n 0) rows hook programs drawn zeros followed;
      runs = have.runs;
      are = have.are;
      each = λ k low.
          let zero_at : get_or first.counts k 0 ≡ 0 = ap (λ (x : List ℕ). get_or x k 0) zeros ∙ get_or-replicate n k 0 0 low in
          let small : get_or first.counts k 0 < 2 ^ 64 = omega (arith, zero_at) in
          let there : k < length first.counts = subst (λ m. k < m) (sym long) low in
          let plus : get_or first.counts k 0 + steps_at k have.runs ≡ steps_at k have.runs = omega (arith, zero_at) in
          have.each k there small ∙ ap (λ m. m % 2 ^ 64) plus;
      formed = formed;
    }

-- the same from the parts of its text
pub profile_of : (v : Verified) (draw : ℕ) (config : Config) (packets : List Seen) (form : ProfileForm) (p : Policy) (first last : Metered) (rows : List Row) (slots : List (Option Insn)) (counts sums text : List ℕ) → p.hook ≡ v.hook
    → p.programs.now ≡ replaced v.hook (no_programs v.code.shapes) (Some v) → first.held.draw ≡ draw → first.counts ≡ replicate (length v.code.slots) 0 → IsFollowed p config packets first rows last
    → slots ≡ v.code.slots → counts ≡ last.counts → sums ≡ sums_text (judged_by v config packets) rows (is_json form) → IsFormed form slots counts sums text → IsProfile v draw config packets form text
profile_of v draw config packets form p first last rows slots counts sums text hook programs drawn zeros followed slots_are counts_are sums_are formed =
    let of_slots = subst (λ (s : List (Option Insn)). IsFormed form s counts sums text) slots_are formed in
    let of_counts = subst (λ (c : List ℕ). IsFormed form v.code.slots c sums text) counts_are of_slots in
    let of_sums = subst (λ (s : List ℕ). IsFormed form v.code.slots last.counts s text) sums_are of_counts in
    profiled v draw config packets form p first last rows text hook programs drawn zeros followed of_sums

some_is : (x y : Verified) → Some x ≡ Some y → x ≡ y
some_is x y = λ (same : Some x ≡ Some y). cc

-- the program of its hook is the one
pub same_program : (hook : Hook) (programs : Programs) (v : Verified) (o : Option (Bor Verified)) (w : Bor Verified) → hook ≡ v.hook → programs ≡ replaced v.hook (no_programs v.code.shapes) (Some v) → o ≡ Some w
    → option_copied o ≡ program_at hook programs → w.now ≡ v
same_program hook programs v o w own alone is found =
    some_is w.now v (ap option_copied (sym is) ∙ (found ∙ (ap (λ (h : Hook). program_at h programs) own ∙ (ap (λ (s : Programs). program_at v.hook s) alone ∙ own_of v.hook v.code.shapes v))))
