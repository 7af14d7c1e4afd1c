-- What any step does to any agreement.
use Rattle.std.proofs.Common.{◌≡◌, ◌≢◌, ℕ, ◌+◌, ◌≤◌, ⊎_elim, Option, None, Some, List, [], ◌∷◌, ◌++◌, refl, sym, ap, ◌∙◌, subst, arith}
use Rattle.std.specs.Prelude.{is_some, Bool, true, false, if◌then◌else◌}
use Rattle.std.proofs.lemmas.Bool.{cases_eq}
use Rattle.mac_frame.specs.Faults.{first_fault}
use Rattle.mac_frame.specs.Spelling.{Frame, spelling}
use Rattle.mac_frame.proofs.Alone.{alone}
use Rattle.mac_frame.proofs.Again.{fault_free}
use Rattle.assoc.specs.Standings.{Standing, state_of}
use Rattle.assoc.proofs.Tables.{address_tells}
use Rattle.ap_model.specs.declared.event.Event.{Event}
use Rattle.ap_model.specs.declared.event.Event.TheVariants as event
use Rattle.ap_model.specs.declared.event.Out.TheVariants as out
use Rattle.ap_model.specs.Readings.{Readings, Rules, Using}
use Rattle.ap_model.specs.Changes.{Answers}
use Rattle.ap_model.specs.Agreements.{Ends, delba}
use Rattle.ap_model.specs.Steps.{Step, FrameComes, faulty, foreign, ours, IsOurs, check_of, Ticks, IsTimedOut, EndsAt, Kicks, kicked, not_kicked, Closes, closed, not_closed}
use Rattle.ap_model.specs.Runs.{Entry}
use Rattle.ap_laws.specs.Origins.{HoldsAgreements}
use Rattle.ap_laws.specs.Exchanges.{Deauthenticated, ComesFrom, kick}
use Rattle.ap_laws.specs.Agreed.{Agreement, LeavesAlone, late}
use Rattle.ap_laws.specs.Agreed.Ends.{closed as closing}
use Rattle.ap_laws.specs.Histories.{ReadsAgreed}
use Rattle.ap_laws.proofs.Forms.{NoUp, none_up, one_send, one_note, no_up_of, no_up_in_delba}
use Rattle.ap_laws.proofs.AlikeLaws.{timed_tells, ticked_out, ticked_on}
use Rattle.ap_laws.proofs.FrameLaws.{frame_no_tick, frame_no_kick, frame_no_close, tick_no_kick, tick_no_close, kick_no_close, kicked_one, closed_one}
use Rattle.ap_laws.proofs.UpLaws.{none_of_no_up}
use Rattle.ap_laws.proofs.TellLaws.{Read, read_of, Telling, it_ends, unchanged, gone, none_alone, ends_up, frames_alone, nothing_alone}
use Rattle.ap_laws.proofs.ElsewhereLaws.{Elsewhere, checked_elsewhere, kick_elsewhere, close_elsewhere}
use Rattle.ap_laws.proofs.OwnLaws.{AllFor, all_for_held, all_for_append, all_for_none, discarded_here, agreed_elsewhere, silent_for, ended, checked_own}
use Rattle.ap_laws.proofs.TurnLaws.{none_in_turn, in_its_turn}
use Rattle.std.proofs.lemmas.Option.{none-some, same_Some}
use Rattle.ap_laws.proofs.Same.{bytes_of}

none_read : (o : Option Using) → ReadsAgreed None o → o ≡ None
none_read None reads = refl
none_read (Some u) reads = absurd reads

not_unknown : (s : Standing) → s ≡ None → state_of s ≡ 3 → ⊥
not_unknown s none e = let one : 1 ≡ state_of s = ap state_of (sym none) in omega arith

module _ (c : Rules) (e : Entry) (clock : ℕ) (r r2 : Readings) (now : r2.clock ≡ clock) (holds : HoldsAgreements r) (a : List ℕ) (tid : ℕ) (g : Option Agreement) (reads : ReadsAgreed g (r.agreement a tid)) where
  from_elsewhere : LeavesAlone c e a tid clock g → Elsewhere r r2 e.outs a tid → Telling c e clock r2 a tid g
  from_elsewhere leaves_alone x = unchanged c e clock r2 a tid r g reads leaves_alone x.same (λ old there. x.none)

  -- ---- time

  module _ (n : ℕ) (is : e.event ≡ event.Tick n) (t : Ticks c r n e.asked e.outs r2) where
    tick_alone : ((old : Agreement) → g ≡ Some old → 1 ≤ old.timeout → old.last_use + old.timeout ≤ clock → ⊥) → LeavesAlone c e a tid clock g
    tick_alone not_late =
        nothing_alone c e a tid clock g
        (λ f comes. frame_no_tick (spelling f) n e.event comes.came is)
        (λ reason at. tick_no_kick n a reason e.event is at)
        (λ at. tick_no_close n a tid e.event is at)
        (λ old m there at some idle. not_late old there some idle)

    tick_of_none : g ≡ None → Telling c e clock r2 a tid g
    tick_of_none none =
        let P : Option Agreement → Type 0 = λ o. ReadsAgreed o (r.agreement a tid) in
        let before : r.agreement a tid ≡ None = none_read (r.agreement a tid) (subst P none reads) in
        unchanged c e clock r2 a tid r g reads
        (tick_alone (λ old there some idle. none-some old (sym none ∙ there)))
        (ticked_on c r r2 n e.asked e.outs a tid t (λ u at late. none-some u (sym before ∙ at)))
        (λ old there. absurd (none-some old (sym none ∙ there)))

    module _ (old : Agreement) (there : g ≡ Some old) (at : Read old (r.agreement a tid)) where
      tick_in_time : (IsTimedOut c r r2.clock at.using → ⊥) → Telling c e clock r2 a tid g
      tick_in_time not =
          let one_only : (u : Using) → r.agreement a tid ≡ Some u → IsTimedOut c r r2.clock u → ⊥ =
          λ u is_u late_u. let P : Using → Type 0 = λ x. IsTimedOut c r r2.clock x in not (subst P (same_Some u at.using (sym is_u ∙ at.is)) late_u) in
          unchanged c e clock r2 a tid r g reads
          (tick_alone (λ h is_h some idle.
          let same : h ≡ old = same_Some h old (sym is_h ∙ there) in
          let p = ap (λ x. x.timeout) same in let q = ap (λ x. x.last_use) same in
          let t1 = at.reads.timeout in let l1 = at.reads.last_use in
          not (record { limited = omega arith; idle = omega arith })))
          (ticked_on c r r2 n e.asked e.outs a tid t one_only)
          (λ h is_h. none_in_turn c r a tid t.ending e.outs t.ends (λ inside. let x = (t.exact (a, tid)).0 inside in one_only x.using x.is x.late))

      tick_too_late : IsTimedOut c r r2.clock at.using → Telling c e clock r2 a tid g
      tick_too_late late_now =
          let key : List ℕ × ℕ = (a, tid) in
          let ending : EndsAt c r r2.clock key = record { using = at.using; is = at.is; late = late_now } in
          let x = in_its_turn c r a tid t.ending e.outs t.ends t.rising ((t.exact key).1 ending) in
          let t1 = at.reads.timeout in let l1 = at.reads.last_use in
          let limited = late_now.limited in let idle = late_now.idle in
          it_ends old there (late n is (omega arith) (omega arith))
          (ticked_out c r r2 n e.asked e.outs a tid at.using t at.is late_now)
          (ends_up c e clock r2 a tid r g reads x.first old there x.passes x.are)

    tick_tells : Telling c e clock r2 a tid g
    tick_tells = by_case g refl
      where
        by_case : (o : Option Agreement) → g ≡ o → Telling c e clock r2 a tid g
        by_case None none = tick_of_none none
        by_case (Some old) there =
            let at = read_of g (r.agreement a tid) old reads there in
            ⊎_elim (λ late_now. tick_too_late old there at late_now) (λ not. tick_in_time old there at not) (timed_tells c r r2.clock at.using)

  -- ---- bytes that aren't a frame for this access point

  no_frame_for_us : (bytes : List ℕ) → e.event ≡ event.Frame bytes → ((f : Frame) → ComesFrom c e a f → ⊥) → LeavesAlone c e a tid clock g
  no_frame_for_us bytes is not =
      nothing_alone c e a tid clock g not
      (λ reason at. frame_no_kick bytes a reason e.event is at)
      (λ at. frame_no_close bytes a tid e.event is at)
      (λ old n there at some idle. frame_no_tick bytes n e.event is at)

  noted : (n : ℕ) → LeavesAlone c e a tid clock g → Answers (out.Note n) r e.asked e.outs r2 → Telling c e clock r2 a tid g
  noted n leaves_alone x =
      unchanged c e clock r2 a tid r g reads leaves_alone (x.stays.agreement a tid)
      (λ old there. none_of_no_up a tid e.outs (no_up_of e.outs (out.Note n ∷ []) x.settles.is (one_note n)))

  frame_tells : (bytes : List ℕ) → e.event ≡ event.Frame bytes → FrameComes c r bytes e.asked e.outs r2 → Telling c e clock r2 a tid g
  frame_tells bytes is (faulty fault at answers) =
      noted _
      (no_frame_for_us bytes is (λ f comes. none-some fault (sym (fault_free f comes.grammar) ∙ ap first_fault (bytes_of (spelling f) bytes (sym comes.came ∙ is)) ∙ at)))
      answers
  frame_tells bytes is (foreign f grammar at not answers) =
      noted 56
      (no_frame_for_us bytes is (λ h comes. let P : Frame → Type 0 = λ x. IsOurs c x in not (subst P (alone h f comes.grammar grammar (bytes_of (spelling h) bytes (sym comes.came ∙ is) ∙ at)) comes.for_us)))
      answers
  frame_tells bytes is (ours f grammar at us checked) =
      let comes : ComesFrom c e f.sender f = record { grammar = grammar; came = is ∙ ap event.Frame at; for_us = us; sender = refl } in
      ⊎_elim
      (λ same.
      let P : List ℕ → Type 0 = λ x. ReadsAgreed g (r.agreement x tid) → Telling c e clock r2 x tid g in
      subst P same.1 (λ here. checked_own c e clock r r2 now holds f comes tid g here (check_of c r f) refl checked) reads)
      (λ other. from_elsewhere (frames_alone c e f.sender f comes a tid clock g other.1) (checked_elsewhere c r e.asked e.outs r2 f a other.1 tid (check_of c r f) checked))
      (address_tells f.sender a)

  -- ---- commands

  no_one : (bytes : List ℕ) → NoUp (out.Send bytes ∷ [])
  no_one bytes = one_send bytes

  -- an unknown station has no agreement
  unknown_none : r.standing a ≡ None → g ≡ None
  unknown_none unknown = by_case g refl
    where
      by_case : (o : Option Agreement) → g ≡ o → g ≡ None
      by_case None same = same
      by_case (Some old) there =
          let at = read_of g (r.agreement a tid) old reads there in
          absurd (not_unknown (r.standing a) unknown (holds.associated a tid at.using at.is))

  unknown_tells : ((f : Frame) → ComesFrom c e a f → ⊥) → r.standing a ≡ None → Answers (out.Note 63) r e.asked e.outs r2 → Telling c e clock r2 a tid g
  unknown_tells no_frame unknown x = noted 63 (none_alone c e clock r2 a tid r g reads (unknown_none unknown) (λ new o. no_frame o.frame o.comes)) x

  kick_here : (reason : ℕ) → e.event ≡ event.Kick a reason → Kicks c r a reason e.asked e.outs r2 → Telling c e clock r2 a tid g
  kick_here reason is (kicked some settles moves) =
      gone c e clock r2 a tid r g reads Deauthenticated (kick reason is) (λ new o. frame_no_kick (spelling o.frame) a reason e.event o.comes.came is)
      (discarded_here r r2 a None tid moves) (none_of_no_up a tid e.outs (no_up_of e.outs _ settles.is (one_send _)))
  kick_here reason is (not_kicked unknown answers) = unknown_tells (λ f comes. frame_no_kick (spelling f) a reason e.event comes.came is) unknown answers

  kick_alone : (b : List ℕ) (reason : ℕ) → b ≢ a → e.event ≡ event.Kick b reason → LeavesAlone c e a tid clock g
  kick_alone b reason other is =
      nothing_alone c e a tid clock g
      (λ f comes. frame_no_kick (spelling f) b reason e.event comes.came is)
      (λ again at. other (kicked_one b a reason again (sym is ∙ at)))
      (λ at. kick_no_close b reason a tid e.event is at)
      (λ old n there at some idle. tick_no_kick n b reason e.event at is)

  kick_tells : (b : List ℕ) (reason : ℕ) → e.event ≡ event.Kick b reason → Kicks c r b reason e.asked e.outs r2 → Telling c e clock r2 a tid g
  kick_tells b reason is x =
      ⊎_elim
      (λ same.
      let P : List ℕ → Type 0 = λ y. e.event ≡ event.Kick y reason in
      let Q : List ℕ → Type 0 = λ y. Kicks c r y reason e.asked e.outs r2 in
      kick_here reason (subst P same.1 is) (subst Q same.1 x))
      (λ other. from_elsewhere (kick_alone b reason other.1 is) (kick_elsewhere c r e.asked e.outs r2 b a other.1 tid reason x))
      (address_tells b a)

  close_alone : (b : List ℕ) (t : ℕ) → ((b ≡ a) × (t ≡ tid) → ⊥) → e.event ≡ event.Close b t → LeavesAlone c e a tid clock g
  close_alone b t other is =
      nothing_alone c e a tid clock g
      (λ f comes. frame_no_close (spelling f) b t e.event comes.came is)
      (λ again at. kick_no_close a again b t e.event at is)
      (λ at. other (closed_one b a t tid (sym is ∙ at)))
      (λ old n there at some idle. tick_no_close n b t e.event at is)

  close_here : e.event ≡ event.Close a tid → Closes c r a tid e.asked e.outs r2 → Telling c e clock r2 a tid g
  close_here is (closed some x) =
      ended c e clock r r2 a tid g reads (delba c a tid 37 ∷ []) (one_send _) x (λ old. closing is) (λ new o. frame_no_close (spelling o.frame) a tid e.event o.comes.came is)
  close_here is (not_closed unknown answers) = unknown_tells (λ f comes. frame_no_close (spelling f) a tid e.event comes.came is) unknown answers

  close_other : (t : ℕ) → t ≢ tid → e.event ≡ event.Close a t → Closes c r a t e.asked e.outs r2 → Telling c e clock r2 a tid g
  close_other t ne is (closed some x) =
      unchanged c e clock r2 a tid r g reads (close_alone a t (λ both. ne both.1) is) (agreed_elsewhere r r2 a t tid None ne x.agrees)
      (λ old there. silent_for a tid t e.outs ne (ended_for t x))
    where
      ended_for : (t : ℕ) → Ends r a t (delba c a t 37 ∷ []) e.asked e.outs r2 → AllFor t e.outs
      ended_for t x = subst (AllFor t) (sym x.settles.is) (by_test (is_some (r.agreement a t)))
        where
          by_test : (b : Bool) → AllFor t (if b then x.first ++ delba c a t 37 ∷ [] else [])
          by_test true = all_for_append t x.first (delba c a t 37 ∷ []) (all_for_held a t (r.agreement a t) x.first x.passes) (all_for_none t (delba c a t 37 ∷ []) (no_up_in_delba c a t 37))
          by_test false = all_for_none t [] none_up
  close_other t ne is (not_closed unknown answers) = noted 63 (close_alone a t (λ both. ne both.1) is) answers

  close_tells : (b : List ℕ) (t : ℕ) → e.event ≡ event.Close b t → Closes c r b t e.asked e.outs r2 → Telling c e clock r2 a tid g
  close_tells b t is x =
      ⊎_elim
      (λ same.
      let P : List ℕ → Type 0 = λ y. e.event ≡ event.Close y t in
      let Q : List ℕ → Type 0 = λ y. Closes c r y t e.asked e.outs r2 in
      ⊎_elim
      (λ e1.
      let P2 : ℕ → Type 0 = λ y. e.event ≡ event.Close a y in
      let Q2 : ℕ → Type 0 = λ y. Closes c r a y e.asked e.outs r2 in
      close_here (subst P2 e1 (subst P same.1 is)) (subst Q2 e1 (subst Q same.1 x)))
      (λ ne. close_other t ne (subst P same.1 is) (subst Q same.1 x))
      (cases_eq t tid))
      (λ other. from_elsewhere (close_alone b t (λ both. other.1 both.0) is) (close_elsewhere c r e.asked e.outs r2 b a other.1 tid t x))
      (address_tells b a)

  pub event_tells : (v : Event) → e.event ≡ v → Step c r v e.asked e.outs r2 → Telling c e clock r2 a tid g
  event_tells (event.Frame bytes) is step = frame_tells bytes is step
  event_tells (event.Tick n) is step = tick_tells n is step
  event_tells (event.Kick b reason) is step = kick_tells b reason is step
  event_tells (event.Close b t) is step = close_tells b t is step
