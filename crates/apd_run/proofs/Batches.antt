-- Batches of workers, and the entries that they tell of.
use Rattle.std.proofs.Common.{◌≡◌, ◌≢◌, ◌+◌, ◌<◌, ℕ, Bool, true, false, cond, List, [], ◌∷◌, ◌++◌, length, slice_set, refl, sym, ap, subst, ◌∙◌, append_assoc, append-nil, length-append, arith, get_or-set_same, get_or-set_other}
use Rattle.std.specs.Prelude.{◌==◌, slice_index_or}
use Rattle.std.proofs.lemmas.Bool.Decides.{nat_tests}
use Rattle.std.proofs.lemmas.Grind.{flat_map-append}
use Rattle.std.proofs.lemmas.List.Elements.{filter-append}
use mathlib.Core.List.{IsPrefix}
use mathlib.Core.Logic.{dite}
use native.Mathlib.Decide.{ℕ_discrete}
use Rattle.logbook.specs.Pages.{Book}
use Rattle.ap_journal.specs.Beginnings.{Beginning, Begins, MayAdd, Right, with_entry}
use Rattle.ap_model.specs.Runs.{Entry}
use Rattle.ap_live.specs.declared.tagged.Tagged.{Tagged}
use Rattle.versions.specs.declared.list.Load.{Load}
use Rattle.versions.proofs.Beginnings.{prefix_whole}
use Rattle.apd_run.specs.Batches.{Batch, IsReceipt, IsRegister, batches_of, events_in, events_of}
use Rattle.ap_queues.specs.Items.{Item}
use Rattle.apd_run.specs.Deciding.{AreOfBatch, AreOfBatches, AreOfQueue, items_in}
use Rattle.apd_run.proofs.Judging.{all_judged}

-- ---- the batches of a worker

pub batches_two : (worker : ℕ) (xs ys : List Batch) → batches_of worker (xs ++ ys) ≡ batches_of worker xs ++ batches_of worker ys
batches_two worker xs ys = filter-append (λ (b : Batch). b.worker == worker) xs ys

pub events_two : (xs ys : List Batch) → events_in (xs ++ ys) ≡ events_in xs ++ events_in ys
events_two xs ys = flat_map-append (λ (b : Batch). b.events) xs ys

same_number : (m n : ℕ) (b : Bool) → m ≡ n → (m == n) ≡ b → b ≡ true
same_number m n true is e = refl
same_number m n false is e = grind (arith, nat_tests)

other_number : (m n : ℕ) (b : Bool) → m ≢ n → (m == n) ≡ b → b ≡ false
other_number m n false apart e = refl
other_number m n true apart e =
    let same : m ≡ n = grind (arith, nat_tests) in
    absurd (apart same)

own_batch : (worker : ℕ) (b : Batch) → b.worker ≡ worker → batches_of worker (b ∷ []) ≡ b ∷ []
own_batch worker b is = ap (λ (t : Bool). cond t (b ∷ []) []) (same_number b.worker worker (b.worker == worker) is refl)

others_batch : (worker : ℕ) (b : Batch) → b.worker ≢ worker → batches_of worker (b ∷ []) ≡ []
others_batch worker b apart = ap (λ (t : Bool). cond t (b ∷ []) []) (other_number b.worker worker (b.worker == worker) apart refl)

-- one more of this worker, or of another
pub batches_more : (worker : ℕ) (bs : List Batch) (b : Batch) → b.worker ≡ worker → batches_of worker (bs ++ b ∷ []) ≡ batches_of worker bs ++ b ∷ []
batches_more worker bs b is = batches_two worker bs (b ∷ []) ∙ ap (λ (l : List Batch). batches_of worker bs ++ l) (own_batch worker b is)

pub batches_still : (worker : ℕ) (bs : List Batch) (b : Batch) → b.worker ≢ worker → batches_of worker (bs ++ b ∷ []) ≡ batches_of worker bs
batches_still worker bs b apart =
    batches_two worker bs (b ∷ []) ∙ (ap (λ (l : List Batch). batches_of worker bs ++ l) (others_batch worker b apart) ∙ append-nil (batches_of worker bs))

-- their events
pub events_more : (worker : ℕ) (bs : List Batch) (b : Batch) → b.worker ≡ worker → events_of worker (bs ++ b ∷ []) ≡ events_of worker bs ++ b.events
events_more worker bs b is =
    ap events_in (batches_more worker bs b is) ∙ (events_two (batches_of worker bs) (b ∷ []) ∙ ap (λ (l : List Tagged). events_of worker bs ++ l) (append-nil b.events))

pub events_still : (worker : ℕ) (bs : List Batch) (b : Batch) → b.worker ≢ worker → events_of worker (bs ++ b ∷ []) ≡ events_of worker bs
events_still worker bs b apart = ap events_in (batches_still worker bs b apart)

-- a prefix with as many batches of this worker has all of them
pub batches_agree : (worker : ℕ) (xs ys : List Batch) → IsPrefix xs ys → length (batches_of worker xs) ≡ length (batches_of worker ys) → batches_of worker xs ≡ batches_of worker ys
batches_agree worker xs ys p many =
    prefix_whole (batches_of worker xs) (batches_of worker ys) (batches_of worker p.0, sym (batches_two worker xs p.0) ∙ ap (batches_of worker) p.1) (omega (arith, many))

-- ---- the register and its receipts

module _ (journal : Book) where
  -- a register without batches
  pub register_none : (right : Right) (known : Beginning Batch) (counts : List ℕ) → known.journal ≡ journal → MayAdd right known → length counts ≡ 8 → known.entries ≡ []
      → ((k : ℕ) → k < 8 → slice_index_or counts k 0 ≡ 0) → IsRegister journal right known counts
  register_none right known counts named may eight none zeros =
      record {
        journal_is = named;
        may_add = may;
        eight = eight;
        counted = λ k low. zeros k low ∙ ap (λ (l : List Batch). length (batches_of k l)) (sym none);
      }

  -- one more batch
  pub register_more : (right : Right) (known known2 : Beginning Batch) (counts counts2 : List ℕ) (b : Batch) (many : ℕ) → IsRegister journal right known counts → (right2 : Right) → MayAdd right2 known2 → known2 ≡ with_entry known b
      → b.worker < 8 → many ≡ length (batches_of b.worker known.entries) + 1 → counts2 ≡ slice_set counts b.worker many → length counts2 ≡ 8 → IsRegister journal right2 known2 counts2
  register_more right known known2 counts counts2 b many h right2 may is low more set eight =
      let entries : known2.entries ≡ known.entries ++ b ∷ [] = ap (λ (k : Beginning Batch). k.entries) is in
      let within : b.worker < length counts = omega (arith, low, h.eight) in
      record {
        journal_is = ap (λ (k : Beginning Batch). k.journal) is ∙ h.journal_is;
        may_add = may;
        eight = eight;
        counted = λ k below. dite (ℕ_discrete b.worker k)
            (λ same.
            let own : length (batches_of k known2.entries) ≡ length (batches_of k known.entries) + 1 =
            ap (λ (l : List Batch). length (batches_of k l)) entries ∙ (ap length (batches_more k known.entries b same) ∙ length-append (batches_of k known.entries) (b ∷ [])) in
            ap (λ (l : List ℕ). slice_index_or l k 0) set
            ∙ (ap (λ (j : ℕ). slice_index_or (slice_set counts b.worker many) j 0) (sym same)
            ∙ (get_or-set_same counts b.worker many 0 within ∙ (more ∙ (ap (λ (j : ℕ). length (batches_of j known.entries) + 1) same ∙ sym own)))))
            (λ apart.
            let still : length (batches_of k known2.entries) ≡ length (batches_of k known.entries) = ap (λ (l : List Batch). length (batches_of k l)) entries ∙ ap length (batches_still k known.entries b apart) in
            ap (λ (l : List ℕ). slice_index_or l k 0) set ∙ (get_or-set_other counts b.worker k many 0 (λ (e : k ≡ b.worker). apart (sym e)) ∙ (h.counted k below ∙ sym still)));
      }

  -- a worker that reported as many batches as there are of its own knows all of them
  pub receipt_agrees : (right : Right) (known mine : Beginning Batch) (counts : List ℕ) (worker count : ℕ) → IsRegister journal right known counts → IsReceipt journal worker mine count → Begins mine known → worker < 8
      → slice_index_or counts worker 0 ≡ count → batches_of worker mine.entries ≡ batches_of worker known.entries
  receipt_agrees right known mine counts worker count h r begins low same =
      batches_agree worker mine.entries known.entries begins.has_all (sym r.counted ∙ (sym same ∙ h.counted worker low))

-- ---- items of a queue

-- with one more batch, all items of its worker's queue
pub all_of_queue : (puts : List (List Item)) (worker : ℕ) (batches : List Batch) (b : Batch) → b.worker ≡ worker → AreOfQueue b.worker puts batches b.events → slice_index_or puts worker [] ≡ items_in (events_of worker (batches ++ b ∷ []))
all_of_queue puts worker batches b is whole =
    subst (λ (k : ℕ). slice_index_or puts k [] ≡ items_in (events_of k (batches ++ b ∷ []))) is (whole ∙ ap items_in (sym (events_more b.worker batches b refl)))

-- ---- entries of batches

-- of one more batch
pub of_one_more : (s : ℕ) (published : List Load) (bs : List Batch) (b : Batch) (es own : List Entry) → AreOfBatches s published bs es → AreOfBatch s published b own → AreOfBatches s published (bs ++ b ∷ []) (es ++ own)
of_one_more s published [] b es own h one = (own, [], ap (λ (l : List Entry). l ++ own) h ∙ sym (append-nil own), one, refl)
of_one_more s published (c ∷ bs) b es own h one =
    (h.0, h.1 ++ own, ap (λ (l : List Entry). l ++ own) h.2 ∙ append_assoc h.0 h.1 own, h.3, of_one_more s published bs b h.1 own h.4 one)

-- after more loads
pub of_more_loads : (s : ℕ) (xs ys : List Load) → IsPrefix xs ys → (bs : List Batch) (es : List Entry) → AreOfBatches s xs bs es → AreOfBatches s ys bs es
of_more_loads s xs ys p [] es h = h
of_more_loads s xs ys p (b ∷ bs) es h =
    (h.0, h.1, h.2, record { deeds = h.3.deeds; judged = all_judged b.told xs ys p h.0 h.3.judged }, of_more_loads s xs ys p bs h.1 h.4)

-- the same entries, of the same batches
pub of_same : (s : ℕ) (published : List Load) (bs cs : List Batch) (es fs : List Entry) → bs ≡ cs → es ≡ fs → AreOfBatches s published bs es → AreOfBatches s published cs fs
of_same s published bs cs es fs same is h = subst (λ (l : List Batch). AreOfBatches s published l fs) same (subst (λ (l : List Entry). AreOfBatches s published bs l) is h)
