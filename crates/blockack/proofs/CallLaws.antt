-- What whole lists of calls pass up.
use Rattle.std.proofs.Common.{◌≡◌, ℕ, ◌%◌, ◌<◌, ◌≢◌, ◌⊎◌, inl, inr, ⊎_elim, Bool, true, false, Option, None, Some, List, [], ◌∷◌, ◌++◌, get_or, refl, sym, ap, ◌∙◌, subst, arith, append_assoc}
use Rattle.std.specs.Prelude.{is_some, AllPairs, Contains}
use Rattle.std.proofs.lemmas.Bool.{cases_eq}
use Rattle.std.proofs.lemmas.List.{append-nil, map-append}
use Rattle.std.proofs.lemmas.List.Elements.{Contains-append_left, Contains-append_right, Contains-append_cases, Contains-push, Contains-push_cases, Contains-get_or, All-from_get_or}
use Rattle.std.proofs.lemmas.List.Kept.{AllPairs-cons}
use Rattle.blockack.specs.Window.{Items, Window, opening, with_item, RequestStep}
use Rattle.blockack.specs.Passed.{frames_below, passed, numbered, PassesUp}
use Rattle.blockack.specs.Reading.{Reading, Reads}
use Rattle.blockack.specs.Calls.{Event, DataCame, RequestCame, DataCall, RequestCall, Call, Calls, no_call, next_call, Run, no_event, takes, leaves, asks, IsInOrder, HandsUpInOrder, HandsUpAllInOrder}
use Rattle.blockack.proofs.SlotLaws.{none_some}
use Rattle.blockack.proofs.MoveLaws.{with_same, with_other}
use Rattle.blockack.proofs.BelowLaws.{none_in_none, in_below, below_in, rises, nothing_below}

module _ {F : Type 0} where
  pub both_pass : (one two three : Window F) (first rest : List (ℕ × F)) → PassesUp one two first → PassesUp two three rest → PassesUp one three (first ++ rest)
  both_pass one two three first rest p q =
      record {
        frames = p.frames ++ q.frames;
        grows = q.grows ∙ ap (λ xs. xs ++ q.frames) p.grows ∙ append_assoc (passed one) p.frames q.frames;
        sent = ap (λ xs. xs ++ rest) p.sent ∙ ap (λ xs. numbered p.frames ++ xs) q.sent ∙ sym (map-append (λ x. (x.0 % 4096, x.1)) p.frames q.frames);
      }

  -- what was taken between two windows: the list has each item once, and the second window has these and the first's
  record Gains (old : Items F) (taken : List (ℕ × Option F)) (new : Items F) : Type 0 where
    kept : (n : ℕ) (item : Option F) → old n ≡ Some item → new n ≡ Some item
    gained : (n : ℕ) (item : Option F) → Contains taken (n, item) → (new n ≡ Some item) × (old n ≡ None)
    only : (n : ℕ) (item : Option F) → new n ≡ Some item → (old n ≡ Some item) ⊎ Contains taken (n, item)
    once : AllPairs (λ p q. p.0 ≢ q.0) taken

  clash : (o : Option (Option F)) (item : Option F) → o ≡ None → o ≡ Some item → ⊥
  clash o item e f = none_some (sym (ap is_some e) ∙ ap is_some f)

  gains_none : (old : Items F) → Gains old [] old
  gains_none old =
      record {
        kept = λ n item e. e;
        gained = λ n item c. absurd (none_in_none (n, item) c);
        only = λ n item e. inl e;
        once = λ i j d lt within. absurd (omega arith);
      }

  head_or_tail : (n k : ℕ) (item x : Option F) (taken : List (ℕ × Option F)) → Contains ((n, item) ∷ taken) (k, x) → ((n ≡ k) × (item ≡ x)) ⊎ Contains taken (k, x)
  head_or_tail n k item x taken c =
      ⊎_elim
      (λ head. ⊎_elim (λ none. absurd (none_in_none (k, x) none)) (λ e. inl (ap (λ p. p.0) e, ap (λ p. p.1) e)) (Contains-push_cases [] (n, item) (k, x) head))
      (λ tail. inr tail)
      (Contains-append_cases ((n, item) ∷ []) taken (k, x) c)

  gains_takes : (old mid new : Items F) (n : ℕ) (item : Option F) (taken : List (ℕ × Option F)) → old n ≡ None → mid ≡ with_item old n item → Gains mid taken new → Gains old ((n, item) ∷ taken) new
  gains_takes old mid new n item taken free is g =
      let here : mid n ≡ Some item = ap (λ f. f n) is ∙ with_same old n item n refl in
      let there : (k : ℕ) → k ≢ n → mid k ≡ old k = λ k ne. ap (λ f. f k) is ∙ with_other old n item k ne in
      record {
        kept = λ k x e. ⊎_elim (λ same. absurd (clash (old n) x free (sym (ap old same) ∙ e))) (λ ne. g.kept k x (there k ne ∙ e)) (cases_eq k n);
        gained = λ k x c.
            ⊎_elim
            (λ head. (ap new (sym head.0) ∙ g.kept n item here ∙ ap Some head.1, ap old (sym head.0) ∙ free))
            (λ tail.
            let r = g.gained k x tail in
            (r.0, ⊎_elim (λ same. absurd (clash (mid n) item (sym (ap mid same) ∙ r.1) here)) (λ ne. sym (there k ne) ∙ r.1) (cases_eq k n)))
            (head_or_tail n k item x taken c);
        only = λ k x e.
            ⊎_elim
            (λ was.
            ⊎_elim
            (λ same.
            let s : Some item ≡ Some x = sym here ∙ ap mid (sym same) ∙ was in
            let i : item ≡ x = cc in
            let pair : (n, item) ≡ (k, x) = ap (λ y. (n, y)) i ∙ ap (λ y. (y, x)) (sym same) in
            let P : ℕ × Option F → Type 0 = λ p. Contains ((n, item) ∷ taken) p in
            inr (subst P pair (Contains-append_left ((n, item) ∷ []) taken (n, item) (Contains-push [] (n, item)))))
            (λ ne. inl (sym (there k ne) ∙ was))
            (cases_eq k n))
            (λ later. inr (Contains-append_right ((n, item) ∷ []) taken (k, x) later))
            (g.only k x e);
        once = AllPairs-cons (λ p q. p.0 ≢ q.0) (n, item) taken
            (All-from_get_or (λ q. n ≢ q.0) taken (n, item) (λ i lt. λ same.
            let q : ℕ × Option F = get_or taken i (n, item) in
            clash (mid n) item (ap mid same ∙ (g.gained q.0 q.1 (Contains-get_or taken i (n, item) lt)).1) here))
            g.once;
      }

  gains_same : (old mid new : Items F) (taken : List (ℕ × Option F)) → mid ≡ old → Gains mid taken new → Gains old taken new
  gains_same old mid new taken same g = let P : Items F → Type 0 = λ f. Gains f taken new in subst P same g

  asks_same : (number : ℕ) (old mid : Window F) → RequestStep number old mid → mid.taken ≡ old.taken
  asks_same number old mid (inl moves) = moves.same
  asks_same number old mid (inr stays) = ap (λ w. w.taken) stays.stays

  gains : {size : ℕ} {events : List (Event F)} {old new : Window F} {taken : List (ℕ × Option F)} → Run size events old taken new → Gains old.taken taken new.taken
  gains (no_event window) = gains_none window.taken
  gains (takes number item events taken old mid new step rest) = gains_takes old.taken mid.taken new.taken step.n item taken step.brings.new step.gains (gains rest)
  gains (leaves number item events taken old mid new step rest) = gains_same old.taken mid.taken new.taken taken (ap (λ w. w.taken) step.stays) (gains rest)
  gains (asks number events taken old mid new step rest) = gains_same old.taken mid.taken new.taken taken (asks_same number old mid step) (gains rest)

  -- calls, as a run of any window with the first reading
  record Chain (size : ℕ) (events : List (Event F)) (window : Window F) (new : Reading F) (out : List (ℕ × F)) : Type 0 where
    taken : List (ℕ × Option F)
    next : Window F
    runs : Run size events window taken next
    reads : Reads next new
    passes : PassesUp window next out

  Chains : List (Event F) → Reading F → Reading F → List (ℕ × F) → Type 0
  Chains events old new out = (window : Window F) → Reads window old → Chain old.size events window new out

  chain_size : (size size2 : ℕ) (events : List (Event F)) (window : Window F) (new : Reading F) (out : List (ℕ × F)) → size ≡ size2 → Chain size events window new out → Chain size2 events window new out
  chain_size size size2 events window new out e c = let P : ℕ → Type 0 = λ s. Chain s events window new out in subst P e c

  chain_data : (took : Bool) (number : ℕ) (item : Option F) (events : List (Event F)) (old mid new : Reading F) (first rest : List (ℕ × F)) → DataCall took number item old mid first → Chains events mid new rest → Chains (DataCame number item took ∷ events) old new (first ++ rest)
  unfolding Chains
  chain_data true number item events old mid new first rest call then window reads =
      let a = call.window window reads in
      let b : Chain old.size events a.next new rest = chain_size mid.size old.size events a.next new rest call.size (then a.next a.reads) in
      record {
        taken = (a.step.n, item) ∷ b.taken;
        next = b.next;
        runs = takes number item events b.taken window a.next b.next a.step b.runs;
        reads = b.reads;
        passes = both_pass window a.next b.next first rest a.passes b.passes;
      }
  chain_data false number item events old mid new first rest call then window reads =
      let a = call.window window reads in
      let b : Chain old.size events a.next new rest = chain_size mid.size old.size events a.next new rest call.size (then a.next a.reads) in
      record {
        taken = b.taken;
        next = b.next;
        runs = leaves number item events b.taken window a.next b.next a.step b.runs;
        reads = b.reads;
        passes = both_pass window a.next b.next first rest a.passes b.passes;
      }

  chain_request : (number : ℕ) (events : List (Event F)) (old mid new : Reading F) (first rest : List (ℕ × F)) → RequestCall number old mid first → Chains events mid new rest → Chains (RequestCame number ∷ events) old new (first ++ rest)
  unfolding Chains
  chain_request number events old mid new first rest call then window reads =
      let a = call.window window reads in
      let b : Chain old.size events a.next new rest = chain_size mid.size old.size events a.next new rest call.size (then a.next a.reads) in
      record {
        taken = b.taken;
        next = b.next;
        runs = asks number events b.taken window a.next b.next a.step b.runs;
        reads = b.reads;
        passes = both_pass window a.next b.next first rest a.passes b.passes;
      }

  chain_call : (e : Event F) (events : List (Event F)) (old mid new : Reading F) (first rest : List (ℕ × F)) → Call e old mid first → Chains events mid new rest → Chains (e ∷ events) old new (first ++ rest)
  chain_call (DataCame number item took) events old mid new first rest call then = chain_data took number item events old mid new first rest call then
  chain_call (RequestCame number) events old mid new first rest call then = chain_request number events old mid new first rest call then

  chain_none : (v : Reading F) → Chains [] v v []
  unfolding Chains
  chain_none v window reads =
      record { taken = []; next = window; runs = no_event window; reads = reads; passes = record { frames = []; grows = sym (append-nil (passed window)); sent = refl } }

  chain : {events : List (Event F)} {old new : Reading F} {out : List (ℕ × F)} → Calls events old new out → Chains events old new out
  chain (no_call v) = chain_none v
  chain (next_call e events old mid new first rest call later) = chain_call e events old mid new first rest call (chain later)

  in_order : (taken : List (ℕ × Option F)) (items : Items F) (below : ℕ) (frames : List (ℕ × F)) → Gains (λ _. None) taken items → frames_below items below ≡ frames → IsInOrder taken below frames
  in_order taken items below frames g is =
      let P : List (ℕ × F) → Type 0 = λ xs. AllPairs (λ p q. p.0 < q.0) xs in
      let Q : (ℕ × F) → List (ℕ × F) → Type 0 = λ p xs. Contains xs p in
      record {
        once = g.once;
        rising = subst P is (rises items below);
        exact = λ n frame. (
          λ c.
              let r = in_below items below (n, frame) (subst (Q (n, frame)) (sym is) c) in
              (r.0, ⊎_elim (λ none. absurd (clash None (Some frame) refl none)) (λ c. c) (g.only n (Some frame) r.1)),
          λ both. subst (Q (n, frame)) is (below_in items below n frame both.0 (g.gained n (Some frame) both.1).0),
        );
      }

  from_opening : (start : ℕ) (window : Window F) (frames : List (ℕ × F)) → passed window ≡ passed (opening start) ++ frames → passed window ≡ frames
  from_opening start window frames grows = grows ∙ ap (λ xs. xs ++ frames) (nothing_below start)

  pub hands_up : HandsUpInOrder F
  unfolding Chains
  hands_up start events first last out opens through =
      let c = chain through (opening start) opens in
      record {
        taken = c.taken;
        window = c.next;
        run = c.runs;
        reads = c.reads;
        frames = c.passes.frames;
        order = in_order c.taken c.next.taken c.next.start c.passes.frames (gains c.runs) (from_opening start c.next c.passes.frames c.passes.grows);
        sent = c.passes.sent;
      }

  pub hands_up_all : HandsUpAllInOrder F
  unfolding Chains
  hands_up_all start events first last out more opens through end =
      let c = chain through (opening start) opens in
      let e = end c.next c.reads in
      let passes = both_pass (opening start) c.next e.next out more c.passes e.passes in
      let g : Gains (λ _. None) c.taken c.next.taken = gains c.runs in
      let P : Items F → Type 0 = λ items. Gains (λ _. None) c.taken items in
      record {
        taken = c.taken;
        window = c.next;
        run = c.runs;
        last = e.next;
        end = e.step;
        frames = passes.frames;
        order = in_order c.taken e.next.taken e.next.start passes.frames (subst P (sym e.step.same) g) (from_opening start e.next passes.frames passes.grows);
        whole = λ n item t. e.step.all n (ap is_some (g.gained n item t).0);
        sent = passes.sent;
      }
