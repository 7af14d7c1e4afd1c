-- What follows from queries answered one after another.
use Rattle.std.proofs.Common.{◌≡◌, ◌≢◌, ◌⊎◌, ◌<◌, ℕ, eq-eqb, ne_eqb, cond, Bool, List, [], ◌∷◌, ◌++◌, length, set, slice_get, slice_set, Option, Some, None, option_and_then, refl, sym, ap, ◌∙◌, subst, append_assoc, inl, inr, ⊎_elim}
use Rattle.std.specs.List.{All}
use Rattle.std.proofs.lemmas.List.{append-nil, length-set, get_or-set_same, get_or-set_other}
use Rattle.std.proofs.lemmas.List.Elements.{All-nil, All-cons}
use Rattle.std.proofs.lemmas.Option.{slice_get_within, slice_get-get_or, get_or_from_slice_get}
use mathlib.Core.Logic.{dite}
use native.Mathlib.Decide.{ℕ_discrete}
use Rattle.bpf_regions.specs.declared.maps.Shape.{Shape}
use Rattle.bpf_regions.specs.declared.maps.MapOp.{MapOp}
use Rattle.bpf_regions.specs.declared.asks.Helper.{Helper}
use Rattle.bpf_regions.specs.declared.asks.Helper.TheVariants.{Now, Stations, Draw}
use Rattle.bpf_regions.specs.declared.asks.Ask.{Ask}
use Rattle.bpf_regions.specs.declared.asks.Ask.TheVariants.{Access, Help}
use Rattle.shared_maps.specs.declared.seen.Entry.{Entry}
use Rattle.shared_maps.specs.History.{entry, StartsWith}
use Rattle.shared_maps.specs.Seats.{Known, Witnesses, Extends}
use Rattle.shared_maps.specs.Tables.{Map, Place}
use Rattle.bpf_tagged.specs.Took.{Answered}
use Rattle.bpf_helpers.specs.Draws.{next_draw, words_from, word_after}
use Rattle.bpf_helpers.specs.Tables.{Tables}
use Rattle.bpf_helpers.specs.Hooked.{Given, Held, table_at, IsFitting, AccessedBy, Gives, entry_of, entries_of, Continues, AllContinue, IsReading, draws_of, Served}
use Rattle.bpf_model.specs.State.{Setting}
use Rattle.bpf_machine.specs.declared.outcome.Outcome.{Outcome}
use Rattle.bpf_machine.specs.Runs.{Ran}
use Rattle.bpf_helpers.specs.declared.worker.WorkerView.{WorkerView}
use Rattle.bpf_helpers.specs.declared.hook_port.HookPort.{HookPort}
use Rattle.bpf_helpers.specs.HookPorts.{given_by, Keeps, PortGives}

-- no index has two values
pub same_value : {A : Type 0} (o : Option A) (a b : A) → o ≡ Some a → o ≡ Some b → a ≡ b
same_value None a b here there = cc
same_value (Some x) a b here there = cc

-- what is at the index written
pub put_here : {A : Type 0} (xs : List A) (at : ℕ) (a : A) → at < length xs → slice_get (slice_set xs at a) at ≡ Some a
put_here xs at a low = slice_get-get_or (set xs at a) at a (subst (λ (n : ℕ). at < n) (sym (length-set xs at a)) low) ∙ ap (λ (x : _). Some x) (get_or-set_same xs at a a low)

-- and at another index
put_elsewhere : {A : Type 0} (xs : List A) (at other : ℕ) (a b : A) → other ≢ at → slice_get xs other ≡ Some b → slice_get (slice_set xs at a) other ≡ Some b
put_elsewhere xs at other a b apart there =
    slice_get-get_or (set xs at a) other b (subst (λ (n : ℕ). other < n) (sym (length-set xs at a)) (slice_get_within xs other b there))
    ∙ ap (λ (x : _). Some x) (get_or-set_other xs at other a b apart ∙ get_or_from_slice_get xs other b b there)

goes_further : (a b c : List Entry) → StartsWith b a → StartsWith c b → StartsWith c a
goes_further a b c first then = (first.0 ++ then.0, then.1 ∙ (ap (λ (es : List Entry). es ++ then.0) first.1 ∙ append_assoc a first.0 then.0))

nothing_new : (shape : Shape) (v : Known) → Continues shape v [] v
nothing_new shape v = record {
  number = refl;
  own = sym (append-nil v.own);
  seen = ([], sym (append-nil v.seen));
  witnessed = λ w. ⊎_elim (λ (some : _). absurd (some refl)) (λ (h : Witnesses shape v). h) w;
}

-- if the join of two lists isn't empty, one of them isn't
some_of_both : (first then : List Entry) → first ++ then ≢ [] → (first ≢ []) ⊎ (then ≢ [])
some_of_both [] then some = inr some
some_of_both (e ∷ first) then some = inl (λ (none : e ∷ first ≡ []). cc)

one_after_another : (shape : Shape) (v u w : Known) (first then : List Entry) → Continues shape v first u → Continues shape u then w → Continues shape v (first ++ then) w
one_after_another shape v u w first then one other = record {
  number = other.number ∙ one.number;
  own = other.own ∙ (ap (λ (es : List Entry). es ++ then) one.own ∙ append_assoc v.own first then);
  seen = goes_further v.seen u.seen w.seen one.seen other.seen;
  witnessed = λ given. ⊎_elim
      (λ (some : first ++ then ≢ []). ⊎_elim
      (λ (h : first ≢ []). other.witnessed (inr (one.witnessed (inl h))))
      (λ (h : then ≢ []). other.witnessed (inl h))
      (some_of_both first then some))
      (λ (h : Witnesses shape v). other.witnessed (inr (one.witnessed (inr h))))
      given;
}

-- an access is one new access
one_more : (shape : Shape) (v : Known) (word : ℕ) (operation : MapOp) (answer : ℕ) (w : Known) → Extends shape v word operation answer w → Continues shape v (entry v.number word operation answer ∷ []) w
one_more shape v word operation answer w made = record {
  number = made.number;
  own = made.own;
  seen = (made.between ++ entry v.number word operation answer ∷ [], made.seen ∙ append_assoc v.seen made.between (entry v.number word operation answer ∷ []));
  witnessed = λ given. made.witnessed;
}

module _ (g : Given) where
  abbrev at_table : ℕ → Option Map
  at_table at = table_at g.maps g.worker at

  -- where one query leaves the seat at a table
  record Left (shape : Shape) (at : ℕ) (s : Place) (ask : Ask) (answer : ℕ) (seats : List Place) : Type 0 where
    seat : Place
    there : slice_get seats at ≡ Some seat
    table : seat.table ≡ s.table
    goes_on : Continues shape s.known (entry_of s.known.number at ask answer) seat.known

  leaves : (h h' : Held) (ask : Ask) (answer : ℕ) → Gives g h ask answer h'
      → (at : ℕ) (t : Map) (s : Place) → at_table at ≡ Some t → slice_get h.seats at ≡ Some s → Left t.shape at s ask answer h'.seats
  leaves h h' (Help helper) answer given at t s here there = record {
    seat = s;
    there = ap (λ (xs : List Place). slice_get xs at) given.0 ∙ there;
    table = refl;
    goes_on = nothing_new t.shape s.known;
  }
  leaves h h' (Access m word operation) answer given at t s here there =
      let table : Map = given.0.table in
      let by : AccessedBy table h.seats m word operation answer h'.seats = given.0.made in
      dite (ℕ_discrete m at)
      (λ e.
      let table_is : table ≡ t = same_value (at_table at) table t (subst (λ (k : ℕ). at_table k ≡ Some table) e given.0.table_is) here in
      let seat_is : by.before ≡ s = same_value (slice_get h.seats at) by.before s (subst (λ (k : ℕ). slice_get h.seats k ≡ Some by.before) e by.before_is) there in
      let made : Extends t.shape s.known word operation answer by.after.known = subst (λ (x : Map). Extends x.shape s.known word operation answer by.after.known) table_is (subst (λ (x : Place). Extends table.shape x.known word operation answer by.after.known) seat_is by.made) in
      record {
        seat = by.after;
        there = subst (λ (k : ℕ). slice_get h'.seats k ≡ Some by.after) e (ap (λ (xs : List Place). slice_get xs m) by.seats_are ∙ put_here h.seats m by.after (slice_get_within h.seats m by.before by.before_is));
        table = by.same_table ∙ ap (λ (x : Place). x.table) seat_is;
        goes_on = subst (λ (b : Bool). Continues t.shape s.known (cond b (entry s.known.number word operation answer ∷ []) []) by.after.known) (sym (eq-eqb m at e)) (one_more t.shape s.known word operation answer by.after.known made);
      })
      (λ ne. record {
        seat = s;
        there = ap (λ (xs : List Place). slice_get xs at) by.seats_are ∙ put_elsewhere h.seats m at by.after s (λ q. ne (sym q)) there;
        table = refl;
        goes_on = subst (λ (b : Bool). Continues t.shape s.known (cond b (entry s.known.number word operation answer ∷ []) []) s.known) (sym (ne_eqb m at ne)) (nothing_new t.shape s.known);
      })

  keeps_length : (h h' : Held) (ask : Ask) (answer : ℕ) → Gives g h ask answer h' → length h'.seats ≡ length h.seats
  keeps_length h h' (Access m word operation) answer given = ap length given.0.made.seats_are ∙ length-set h.seats m given.0.made.after
  keeps_length h h' (Help helper) answer given = ap length given.0

  all_continue : (before after : Held) (asks : List (Ask × ℕ)) → Answered (Gives g) before asks after → AllContinue g before.seats asks after.seats
  unfolding Answered
  all_continue before after [] same = record {
    as_many = ap (λ (h : Held). length h.seats) (sym same);
    each = λ at t s s' here there now.
        let e : s ≡ s' = same_value (slice_get before.seats at) s s' there (ap (λ (h : Held). slice_get h.seats at) same ∙ now) in
        (ap (λ (x : Place). x.table) (sym e), subst (λ (x : Place). Continues t.shape s.known [] x.known) e (nothing_new t.shape s.known));
  }
  all_continue before after (a ∷ asks) given =
      let mid : Held = given.0 in
      let rest : AllContinue g mid.seats asks after.seats = all_continue mid after asks given.2 in
      record {
        as_many = rest.as_many ∙ keeps_length before mid a.0 a.1 given.1;
        each = λ at t s s' here there now.
            let l : Left t.shape at s a.0 a.1 mid.seats = leaves before mid a.0 a.1 given.1 at t s here there in
            let r = rest.each at t l.seat s' here l.there now in
            let later : Continues t.shape l.seat.known (entries_of s.known.number at asks) s'.known = subst (λ (n : ℕ). Continues t.shape l.seat.known (entries_of n at asks) s'.known) l.goes_on.number r.1 in
            (r.0 ∙ l.table, one_after_another t.shape s.known l.seat.known s'.known (entry_of s.known.number at a.0 a.1) (entries_of s.known.number at asks) l.goes_on later);
      }

  -- one answer of a helper is the reading, if it is one
  reading : (h h' : Held) (ask : Ask) (answer : ℕ) → Gives g h ask answer h' → IsReading g (ask, answer)
  reading h h' (Access m word operation) answer given = tt
  reading h h' (Help Now) answer given = given.1.0
  reading h h' (Help Stations) answer given = given.1.0
  reading h h' (Help Draw) answer given = tt

  readings : (before after : Held) (asks : List (Ask × ℕ)) → Answered (Gives g) before asks after → All (IsReading g) asks
  unfolding Answered
  readings before after [] same = All-nil (IsReading g)
  readings before after (a ∷ asks) given = All-cons (IsReading g) a asks (reading before given.0 a.0 a.1 given.1) (readings given.0 after asks given.2)

  -- what was drawn, and the word that is drawn next
  record Drawn (x : ℕ) (words : List ℕ) (y : ℕ) : Type 0 where
    draws : words ≡ words_from x (length words)
    draw : y ≡ word_after x (length words)

  -- a query that draws nothing
  undrawn : (x mid y : ℕ) (words : List ℕ) → mid ≡ x → Drawn mid words y → Drawn x words y
  undrawn x mid y words same d = subst (λ (z : ℕ). Drawn z words y) same d

  drawn : (before after : Held) (asks : List (Ask × ℕ)) → Answered (Gives g) before asks after → Drawn before.draw (draws_of asks) after.draw
  unfolding Answered
  drawn before after [] same = record { draws = refl; draw = ap (λ (h : Held). h.draw) (sym same) }
  drawn before after (((Access m word operation), answer) ∷ asks) given = undrawn before.draw given.0.draw after.draw (draws_of asks) given.1.1 (drawn given.0 after asks given.2)
  drawn before after (((Help Now), answer) ∷ asks) given = undrawn before.draw given.0.draw after.draw (draws_of asks) given.1.1.1 (drawn given.0 after asks given.2)
  drawn before after (((Help Stations), answer) ∷ asks) given = undrawn before.draw given.0.draw after.draw (draws_of asks) given.1.1.1 (drawn given.0 after asks given.2)
  drawn before after (((Help Draw), answer) ∷ asks) given =
      let later : Drawn (next_draw before.draw) (draws_of asks) after.draw = undrawn (next_draw before.draw) given.0.draw after.draw (draws_of asks) given.1.1.1 (drawn given.0 after asks given.2) in
      record {
        draws = ap (λ (n : ℕ). n ∷ draws_of asks) given.1.1.0 ∙ ap (λ (ns : List ℕ). before.draw ∷ ns) later.draws;
        draw = later.draw;
      }

  pub served : (before after : Held) (asks : List (Ask × ℕ)) → Answered (Gives g) before asks after → Served g before asks after
  served before after asks given =
      let d : Drawn before.draw (draws_of asks) after.draw = drawn before after asks given in
      record {
        seats = all_continue before after asks given;
        readings = readings before after asks given;
        draws = d.draws;
        draw = d.draw;
      }

-- What a port was asked, its worker's state was asked.
pub asked_of_state : (p q : HookPort) (asks : List (Ask × ℕ)) → Answered PortGives p asks q → Keeps p q × Answered (Gives (given_by p.view)) p.state.now asks q.state.now
unfolding Answered
asked_of_state p q [] same = (record { view = ap (λ (x : HookPort). x.view) (sym same); state = ap (λ (x : HookPort). x.state.ghost_name) (sym same) }, ap (λ (x : HookPort). x.state.now) same)
asked_of_state p q (a ∷ asks) given =
    let mid : HookPort = given.0 in
    let first : Keeps p mid = given.1.0 in
    let rest = asked_of_state mid q asks given.2 in (
      record { view = rest.0.view ∙ first.view; state = rest.0.state ∙ first.state },
      (mid.state.now, given.1.1, subst (λ (v : _). Answered (Gives (given_by v)) mid.state.now asks q.state.now) first.view rest.1),
    )

-- What a run asked a port over a state, it asked the state; `after` is the state once the port is gone.
pub ran_by_state : (setting : Setting) (p q : HookPort) (outcome : Outcome) → Ran PortGives setting p q outcome → (after : Held) → (p.state.ghost_name ≡ q.state.ghost_name → after ≡ q.state.now)
    → Ran (Gives (given_by p.view)) setting p.state.now after outcome
ran_by_state setting p q outcome ran after written =
    let asked = asked_of_state p q ran.asked ran.listed in
    record {
      asked = ran.asked;
      listed = subst (λ (h : Held). Answered (Gives (given_by p.view)) p.state.now ran.asked h) (sym (written (sym asked.0.state))) asked.1;
      noted = ran.noted;
      ends = ran.ends;
      first = ran.first;
    }

-- and the state's seats still fit
pub fitting_after : (setting : Setting) (p q : HookPort) (outcome : Outcome) → Ran PortGives setting p q outcome → (after : Held) → (p.state.ghost_name ≡ q.state.ghost_name → after ≡ q.state.now)
    → IsFitting p.view.maps.now p.view.worker after.seats
fitting_after setting p q outcome ran after written =
    let asked = asked_of_state p q ran.asked ran.listed in
    subst (λ (h : Held). IsFitting p.view.maps.now p.view.worker h.seats) (sym (written (sym asked.0.state)))
    (subst (λ (v : WorkerView). IsFitting v.maps.now v.worker q.state.now.seats) asked.0.view q.fitting)
