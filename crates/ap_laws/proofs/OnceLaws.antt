-- A history is unambiguous: each entry is at most one thing to an agreement, and changes it in one way.
use Rattle.std.proofs.Common.{◌≡◌, ℕ, ◌+◌, ◌-◌, ◌≤◌, inl, inr, ⊎_elim, true, false, Option, None, Some, List, [], ◌∷◌, refl, sym, ap, ◌∙◌, subst, arith}
use Rattle.std.specs.Prelude.{max, IsSome}
use Rattle.std.proofs.lemmas.Bool.{cases_lt}
use Rattle.mac_types.specs.declared.fields.QosControl.{QosControl}
use Rattle.mac_types.specs.declared.fields.BlockAckParameters.{BlockAckParameters}
use Rattle.mac_frame.specs.declared.content.Management.TheVariants as management
use Rattle.mac_frame.specs.declared.content.Control.TheVariants as control
use Rattle.mac_frame.specs.declared.content.DataKind.TheVariants as kinds
use Rattle.mac_frame.specs.declared.content.Content.TheVariants as content
use Rattle.mac_frame.specs.Spelling.{spelling}
use Rattle.blockack.specs.Window.{Items, Window, IsNextFree, TakesData, LeavesData, RequestStep, opening, with_item}
use Rattle.blockack.specs.Scoreboard.{Scoreboard, blank, first_number, with_number, DataMark, RequestMark}
use Rattle.blockack.proofs.MoveLaws.{one_number}
use Rattle.hooks.specs.declared.verdicts.DataVerdict.{DataVerdict}
use Rattle.hooks.specs.declared.verdicts.DataVerdict.TheVariants.{Pass, Discard}
use Rattle.hooks.specs.Verdicts.{agreement_size, data_verdict}
use Rattle.ap_model.specs.Asks.{Ask}
use Rattle.ap_model.specs.Readings.{Rules, Held}
use Rattle.ap_model.specs.Agreements.{Packet, item}
use Rattle.ap_model.specs.Runs.{Entry}
use Rattle.ap_laws.specs.Exchanges.{Exchange, IsExchange, authentication, association, disassociation, deauthentication, kick}
use Rattle.ap_laws.specs.Agreed.{Agreement, Opens, IsItsData, IsUsed, Uses, takes, leaves, requests, Ends, deleted, closed, late, Drops, Agreed, never_yet, opened, used, ended, dropped, alone, clock_after}
use Rattle.ap_laws.proofs.FrameLaws.{same_frame, same_content, frame_no_tick, frame_no_close, tick_no_kick, kick_no_close}
use Rattle.ap_laws.proofs.TellLaws.{UsesFor, DeletesFor, exchange_of, uses_for, ends_for, exchange_number, some_number}
use Rattle.std.proofs.lemmas.Option.{none-some, same_Some}
use Rattle.ap_laws.proofs.Same.{one_verdict}

-- ---- windows

module _ {F : Type 0} where
  window_is : (one other : Window F) → one.taken ≡ other.taken → one.start ≡ other.start → one ≡ other
  window_is one other p q = ap (λ t. record { taken = t; start = one.start }) p ∙ ap (λ s. record { taken = other.taken; start = s }) q

  some_none : (o : Option (Option F)) → o ≡ None → IsSome o → ⊥
  some_none None e some = let f : false ≡ true = some in cc
  some_none (Some x) e some = none-some x (sym e)

  -- there is one least free number
  free_le : (taken : Items F) (from n m : ℕ) → IsNextFree taken from n → IsNextFree taken from m → m ≤ n
  free_le taken from n m p q = ⊎_elim (λ lt. absurd (some_none (taken n) p.free (q.full n p.above lt))) (λ le. le) (cases_lt n m)

  free_once : (taken : Items F) (from n m : ℕ) → IsNextFree taken from n → IsNextFree taken from m → n ≡ m
  free_once taken from n m p q = let a = free_le taken from n m p q in let b = free_le taken from m n q p in omega arith

  pub takes_once : (size number : ℕ) (x : Option F) (old one other : Window F) → TakesData size number x old one → TakesData size number x old other → one ≡ other
  takes_once size number x old one other p q =
      let n : p.n ≡ q.n = one_number old.start number p.n q.n p.brings.is q.brings.is in
      let taken : one.taken ≡ other.taken = p.gains ∙ ap (λ k. with_item old.taken k x) n ∙ sym q.gains in
      let P : Items F → Type 0 = λ t. IsNextFree t (max old.start (p.n + 1 - size)) one.start in
      let Q : ℕ → Type 0 = λ k. IsNextFree other.taken (max old.start (k + 1 - size)) other.start in
      window_is one other taken (free_once other.taken (max old.start (p.n + 1 - size)) one.start other.start (subst P taken p.next) (subst Q (sym n) q.next))

  pub leaves_once : (number : ℕ) (old one other : Window F) → LeavesData number old one → LeavesData number old other → one ≡ other
  leaves_once number old one other p q = p.stays ∙ sym q.stays

  pub request_once : (number : ℕ) (old one other : Window F) → RequestStep number old one → RequestStep number old other → one ≡ other
  request_once number old one other (inl p) (inl q) =
      let n : p.n ≡ q.n = one_number old.start number p.n q.n p.is q.is in
      let taken : one.taken ≡ other.taken = p.same ∙ sym q.same in
      let P : Items F → Type 0 = λ t. IsNextFree t p.n one.start in
      let Q : ℕ → Type 0 = λ k. IsNextFree other.taken k other.start in
      window_is one other taken (free_once other.taken p.n one.start other.start (subst P taken p.next) (subst Q (sym n) q.next))
  request_once number old one other (inl p) (inr q) = absurd (q.other p.n p.is p.beyond)
  request_once number old one other (inr p) (inl q) = absurd (p.other q.n q.is q.beyond)
  request_once number old one other (inr p) (inr q) = p.stays ∙ sym q.stays

-- ---- scoreboards

board_is : (one other : Scoreboard) → one.came ≡ other.came → one.end ≡ other.end → one ≡ other
board_is one other p q = ap (λ t. record { came = t; end = one.end }) p ∙ ap (λ s. record { came = other.came; end = s }) q

pub mark_once : (size number : ℕ) (old one other : Scoreboard) → DataMark size number old one → DataMark size number old other → one ≡ other
mark_once size number old one other (inl p) (inl q) =
    let n : p.n ≡ q.n = one_number (first_number size old) number p.n q.n p.is q.is in
    board_is one other (p.gains ∙ ap (with_number old.came) n ∙ sym q.gains) (p.ends ∙ ap (max old.end) n ∙ sym q.ends)
mark_once size number old one other (inl p) (inr q) = absurd (q.other p.n p.is p.from_start)
mark_once size number old one other (inr p) (inl q) = absurd (p.other q.n q.is q.from_start)
mark_once size number old one other (inr p) (inr q) = p.stays ∙ sym q.stays

pub request_mark_once : (size number : ℕ) (old one other : Scoreboard) → RequestMark size number old one → RequestMark size number old other → one ≡ other
request_mark_once size number old one other (inl p) (inl q) =
    let n : p.n ≡ q.n = one_number (first_number size old) number p.n q.n p.is q.is in
    let a = p.ends in let b = q.ends in
    board_is one other (p.same ∙ sym q.same) (omega arith)
request_mark_once size number old one other (inl p) (inr q) = absurd (q.other p.n p.is p.beyond)
request_mark_once size number old one other (inr p) (inl q) = absurd (p.other q.n q.is q.beyond)
request_mark_once size number old one other (inr p) (inr q) = p.stays ∙ sym q.stays

-- ---- one thing at most

no_verdict : (x : Ask × ℕ) → [] ≡ x ∷ [] → ⊥
no_verdict x e = cc

module _ (c : Rules) (e : Entry) (a : List ℕ) (tid clock : ℕ) where
  pub opens_no_use : (new old next : Agreement) → Opens c e a tid clock new → Uses c e a tid clock old next → ⊥
  opens_no_use new old next o u = subst (UsesFor tid) o.content (uses_for c e a o.frame o.comes a tid clock old next u)

  pub opens_no_end : (new old : Agreement) → Opens c e a tid clock new → Ends c e a tid clock old → ⊥
  opens_no_end new old o x = subst (DeletesFor tid) o.content (ends_for c e a o.frame o.comes a tid clock old x)

  pub opens_no_drop : (new : Agreement) → Opens c e a tid clock new → Drops c e a tid clock → ⊥
  opens_no_drop new o d = some_number d.exchange (sym (exchange_number c e a o.frame o.comes a d.exchange d.is) ∙ ap exchange_of o.content)

  pub use_no_end : (old next other : Agreement) → Uses c e a tid clock old next → Ends c e a tid clock other → ⊥
  use_no_end old next other (takes p ask verdict d asked is step mark) x = subst (DeletesFor tid) d.content (ends_for c e a p.frame d.comes a tid clock other x)
  use_no_end old next other (leaves p d asked is step mark) x = subst (DeletesFor tid) d.content (ends_for c e a p.frame d.comes a tid clock other x)
  use_no_end old next other (requests f start comes at is step mark) x = subst (DeletesFor tid) at (ends_for c e a f comes a tid clock other x)

  pub use_no_drop : (old next : Agreement) → Uses c e a tid clock old next → Drops c e a tid clock → ⊥
  use_no_drop old next (takes p ask verdict d asked is step mark) x = some_number x.exchange (sym (exchange_number c e a p.frame d.comes a x.exchange x.is) ∙ ap exchange_of d.content)
  use_no_drop old next (leaves p d asked is step mark) x = some_number x.exchange (sym (exchange_number c e a p.frame d.comes a x.exchange x.is) ∙ ap exchange_of d.content)
  use_no_drop old next (requests f start comes at is step mark) x = some_number x.exchange (sym (exchange_number c e a f comes a x.exchange x.is) ∙ ap exchange_of at)

  pub end_no_drop : (old : Agreement) → Ends c e a tid clock old → Drops c e a tid clock → ⊥
  end_no_drop old (deleted f bssid sequence parameters reason comes at initiator for_tid) x = some_number x.exchange (sym (exchange_number c e a f comes a x.exchange x.is) ∙ ap exchange_of at)
  end_no_drop old (closed at) x = by_exchange x.exchange x.is
    where
      by_exchange : (y : Exchange) → IsExchange c e a y → ⊥
      by_exchange y (authentication f bssid sequence algorithm transaction status comes is outs) = frame_no_close (spelling f) a tid e.event comes.came at
      by_exchange y (association f repeated n comes is own outs) = frame_no_close (spelling f) a tid e.event comes.came at
      by_exchange y (disassociation f bssid sequence reason comes is) = frame_no_close (spelling f) a tid e.event comes.came at
      by_exchange y (deauthentication f bssid sequence reason comes is) = frame_no_close (spelling f) a tid e.event comes.came at
      by_exchange y (kick reason is) = kick_no_close a reason a tid e.event is at
  end_no_drop old (late n at some idle) x = by_exchange x.exchange x.is
    where
      by_exchange : (y : Exchange) → IsExchange c e a y → ⊥
      by_exchange y (authentication f bssid sequence algorithm transaction status comes is outs) = frame_no_tick (spelling f) n e.event comes.came at
      by_exchange y (association f repeated m comes is own outs) = frame_no_tick (spelling f) n e.event comes.came at
      by_exchange y (disassociation f bssid sequence reason comes is) = frame_no_tick (spelling f) n e.event comes.came at
      by_exchange y (deauthentication f bssid sequence reason comes is) = frame_no_tick (spelling f) n e.event comes.came at
      by_exchange y (kick reason is) = tick_no_kick n a reason e.event at is

  -- ---- and in one way

  -- the fields of two equal requests
  record SameSetup (p p2 : BlockAckParameters) (o o2 n n2 : ℕ) : Type 0 where
    parameters : p ≡ p2
    timeout : o ≡ o2
    start : n ≡ n2

  same_setup : (b b2 : List ℕ) (s s2 k k2 : ℕ) (p p2 : BlockAckParameters) (o o2 n n2 : ℕ) → content.Management b s (management.AddbaRequest k p o n) ≡ content.Management b2 s2 (management.AddbaRequest k2 p2 o2 n2) → SameSetup p p2 o o2 n n2
  same_setup b b2 s s2 k k2 p p2 o o2 n n2 e = record { parameters = cc; timeout = cc; start = cc }

  pub opens_once : (one other : Agreement) → Opens c e a tid clock one → Opens c e a tid clock other → one ≡ other
  opens_once one other p q =
      let both = same_setup p.bssid q.bssid p.sequence q.sequence p.token q.token p.parameters q.parameters p.timeout q.timeout p.start q.start
      (sym (same_content c e a a p.frame q.frame _ p.comes q.comes p.content) ∙ q.content) in
      let verdict : p.verdict ≡ q.verdict = one_verdict p.ask q.ask p.verdict q.verdict e.asked p.asked q.asked in
      let size : p.size ≡ q.size =
      same_Some p.size q.size (sym p.grants ∙ ap (λ v. agreement_size v p.parameters.buffer_size) verdict ∙ ap (λ x. agreement_size q.verdict x.buffer_size) both.parameters ∙ q.grants) in
      p.is ∙
      ap (λ x. record { window = opening x; size = p.size; board = blank x p.size; timeout = p.timeout; last_use = clock }) both.start ∙
      ap (λ x. record { window = opening q.start; size = x; board = blank q.start x; timeout = p.timeout; last_use = clock }) size ∙
      ap (λ x. record { window = opening q.start; size = q.size; board = blank q.start q.size; timeout = x; last_use = clock }) both.timeout ∙
      sym q.is

  agreement_is : (old one other : Agreement) → IsUsed c e a tid clock old one → IsUsed c e a tid clock old other → one.window ≡ other.window → one.board ≡ other.board → one ≡ other
  agreement_is old one other p q window board =
      ap (λ x. record { window = x; size = one.size; board = one.board; timeout = one.timeout; last_use = one.last_use }) window ∙
      ap (λ x. record { window = other.window; size = x; board = one.board; timeout = one.timeout; last_use = one.last_use }) (p.size ∙ sym q.size) ∙
      ap (λ x. record { window = other.window; size = other.size; board = x; timeout = one.timeout; last_use = one.last_use }) board ∙
      ap (λ x. record { window = other.window; size = other.size; board = other.board; timeout = x; last_use = one.last_use }) (p.timeout ∙ sym q.timeout) ∙
      ap (λ x. record { window = other.window; size = other.size; board = other.board; timeout = other.timeout; last_use = x }) (p.now ∙ sym q.now)

  -- the fields of two equal data frames
  record SameData (p q : Packet) : Type 0 where
    frame : p.frame ≡ q.frame
    destination : p.destination ≡ q.destination
    number : p.number ≡ q.number

  data_destination : (d d2 : List ℕ) (n n2 : ℕ) (x x2 : QosControl) → content.Data d n (kinds.QosData x) ≡ content.Data d2 n2 (kinds.QosData x2) → d ≡ d2
  data_destination d d2 n n2 x x2 e = cc

  data_number : (d d2 : List ℕ) (n n2 : ℕ) (x x2 : QosControl) → content.Data d n (kinds.QosData x) ≡ content.Data d2 n2 (kinds.QosData x2) → n ≡ n2
  data_number d d2 n n2 x x2 e = cc

  same_data : (p q : Packet) → IsItsData c e a tid clock p → IsItsData c e a tid clock q → SameData p q
  same_data p q x y =
      let is = sym (same_content c e a a p.frame q.frame _ x.comes y.comes x.content) ∙ y.content in
      record {
        frame = same_frame c e a a p.frame q.frame x.comes y.comes;
        destination = data_destination p.destination q.destination p.number q.number x.qos y.qos is;
        number = data_number p.destination q.destination p.number q.number x.qos y.qos is;
      }

  same_item : (p q : Packet) (v : DataVerdict) → SameData p q → item p v ≡ item q v
  same_item p q (Pass mark) s = ap (λ d. Some (Some (d, mark, p.frame.tail))) s.destination ∙ ap (λ f. Some (Some (q.destination, mark, f.tail))) s.frame
  same_item p q Discard s = refl

  request_start : (t n t2 n2 : ℕ) → content.Control (control.BlockAckReq t n) ≡ content.Control (control.BlockAckReq t2 n2) → n ≡ n2
  request_start t n t2 n2 e = cc

  no_request : (d : List ℕ) (n t s : ℕ) (x : QosControl) → content.Data d n (kinds.QosData x) ≡ content.Control (control.BlockAckReq t s) → ⊥
  no_request d n t s x e = cc

  pub uses_once : (old one other : Agreement) → Uses c e a tid clock old one → Uses c e a tid clock old other → one ≡ other
  uses_once old one other (takes p ask verdict d asked is step mark) (takes q ask2 verdict2 d2 asked2 is2 step2 mark2) =
      let s = same_data p q d d2 in
      let v : verdict ≡ verdict2 = one_verdict ask ask2 verdict verdict2 e.asked asked asked2 in
      let x : item q (data_verdict verdict2) ≡ item p (data_verdict verdict) = sym (same_item p q (data_verdict verdict) s ∙ ap (λ w. item q (data_verdict w)) v) in
      let P : ℕ → Type 0 = λ n. TakesData old.size n (item q (data_verdict verdict2)) old.window other.window in
      let Q : Option Held → Type 0 = λ y. TakesData old.size p.number y old.window other.window in
      let R : ℕ → Type 0 = λ n. DataMark old.size n old.board other.board in
      agreement_is old one other is is2
      (takes_once old.size p.number (item p (data_verdict verdict)) old.window one.window other.window step (subst Q x (subst P (sym s.number) step2)))
      (mark_once old.size p.number old.board one.board other.board mark (subst R (sym s.number) mark2))
  uses_once old one other (takes p ask verdict d asked is step mark) (leaves q d2 asked2 is2 step2 mark2) = absurd (no_verdict (ask, verdict) (sym asked2 ∙ asked))
  uses_once old one other (takes p ask verdict d asked is step mark) (requests f start comes at is2 step2 mark2) =
      absurd (no_request p.destination p.number tid start d.qos (sym (same_content c e a a p.frame f _ d.comes comes d.content) ∙ at))
  uses_once old one other (leaves p d asked is step mark) (takes q ask2 verdict2 d2 asked2 is2 step2 mark2) = absurd (no_verdict (ask2, verdict2) (sym asked ∙ asked2))
  uses_once old one other (leaves p d asked is step mark) (leaves q d2 asked2 is2 step2 mark2) =
      let s = same_data p q d d2 in
      let P : ℕ → Type 0 = λ n. LeavesData n old.window other.window in
      let R : ℕ → Type 0 = λ n. DataMark old.size n old.board other.board in
      agreement_is old one other is is2
      (leaves_once p.number old.window one.window other.window step (subst P (sym s.number) step2))
      (mark_once old.size p.number old.board one.board other.board mark (subst R (sym s.number) mark2))
  uses_once old one other (leaves p d asked is step mark) (requests f start comes at is2 step2 mark2) =
      absurd (no_request p.destination p.number tid start d.qos (sym (same_content c e a a p.frame f _ d.comes comes d.content) ∙ at))
  uses_once old one other (requests f start comes at is step mark) (takes q ask2 verdict2 d2 asked2 is2 step2 mark2) =
      absurd (no_request q.destination q.number tid start d2.qos (sym (same_content c e a a q.frame f _ d2.comes comes d2.content) ∙ at))
  uses_once old one other (requests f start comes at is step mark) (leaves q d2 asked2 is2 step2 mark2) =
      absurd (no_request q.destination q.number tid start d2.qos (sym (same_content c e a a q.frame f _ d2.comes comes d2.content) ∙ at))
  uses_once old one other (requests f start comes at is step mark) (requests f2 start2 comes2 at2 is2 step2 mark2) =
      let s : start2 ≡ start = sym (request_start tid start tid start2 (sym (same_content c e a a f f2 _ comes comes2 at) ∙ at2)) in
      let P : ℕ → Type 0 = λ n. RequestStep n old.window other.window in
      let R : ℕ → Type 0 = λ n. RequestMark old.size n old.board other.board in
      agreement_is old one other is is2
      (request_once start old.window one.window other.window step (subst P s step2))
      (request_mark_once old.size start old.board one.board other.board mark (subst R s mark2))

-- ---- whole histories

-- two descriptions agree
pub record SameTelling (g g2 : Option Agreement) (since since2 : List Entry) : Type 0 where
  pub agreement : g ≡ g2
  pub entries : since ≡ since2

pub tells_once : (c : Rules) (a : List ℕ) (tid : ℕ) {h : List Entry} {g g2 : Option Agreement} {since since2 : List Entry} → Agreed c a tid h g since → Agreed c a tid h g2 since2 → SameTelling g g2 since since2
tells_once c a tid never_yet never_yet = record { agreement = refl; entries = refl }
tells_once c a tid (opened e1 older1 since1 old1 new1 x1 tells1) (opened e2 older2 since2 old2 new2 x2 tells2) =
    record { agreement = ap Some (opens_once c e1 a tid (clock_after (e1 ∷ older1)) new1 new2 x1 x2); entries = refl }
tells_once c a tid (opened e1 older1 since1 old1 new1 x1 tells1) (used e2 older2 since2 old2 new2 x2 tells2) =
    absurd (opens_no_use c e1 a tid (clock_after (e1 ∷ older1)) new1 old2 new2 x1 x2)
tells_once c a tid (opened e1 older1 since1 old1 new1 x1 tells1) (ended e2 older2 since2 old2 x2 tells2) =
    absurd (opens_no_end c e1 a tid (clock_after (e1 ∷ older1)) new1 old2 x1 x2)
tells_once c a tid (opened e1 older1 since1 old1 new1 x1 tells1) (dropped e2 older2 since2 old2 x2 tells2) =
    absurd (opens_no_drop c e1 a tid (clock_after (e1 ∷ older1)) new1 x1 x2)
tells_once c a tid (opened e1 older1 since1 old1 new1 x1 tells1) (alone e2 older2 since2 old2 x2 tells2) =
    absurd (x2.not_opened new1 x1)
tells_once c a tid (used e1 older1 since1 old1 new1 x1 tells1) (opened e2 older2 since2 old2 new2 x2 tells2) =
    absurd (opens_no_use c e1 a tid (clock_after (e1 ∷ older1)) new2 old1 new1 x2 x1)
tells_once c a tid (used e1 older1 since1 old1 new1 x1 tells1) (used e2 older2 since2 old2 new2 x2 tells2) =
    let ih = tells_once c a tid tells1 tells2 in let same : old1 ≡ old2 = same_Some old1 old2 ih.agreement in let P : Agreement → Type 0 = λ y. Uses c e1 a tid (clock_after (e1 ∷ older1)) y new2 in record { agreement = ap Some (uses_once c e1 a tid (clock_after (e1 ∷ older1)) old1 new1 new2 x1 (subst P (sym same) x2)); entries = ap (λ xs. e1 ∷ xs) ih.entries }
tells_once c a tid (used e1 older1 since1 old1 new1 x1 tells1) (ended e2 older2 since2 old2 x2 tells2) =
    absurd (use_no_end c e1 a tid (clock_after (e1 ∷ older1)) old1 new1 old2 x1 x2)
tells_once c a tid (used e1 older1 since1 old1 new1 x1 tells1) (dropped e2 older2 since2 old2 x2 tells2) =
    absurd (use_no_drop c e1 a tid (clock_after (e1 ∷ older1)) old1 new1 x1 x2)
tells_once c a tid (used e1 older1 since1 old1 new1 x1 tells1) (alone e2 older2 since2 old2 x2 tells2) =
    let ih = tells_once c a tid tells1 tells2 in absurd (x2.not_used old1 new1 (sym ih.agreement) x1)
tells_once c a tid (ended e1 older1 since1 old1 x1 tells1) (opened e2 older2 since2 old2 new2 x2 tells2) =
    absurd (opens_no_end c e1 a tid (clock_after (e1 ∷ older1)) new2 old1 x2 x1)
tells_once c a tid (ended e1 older1 since1 old1 x1 tells1) (used e2 older2 since2 old2 new2 x2 tells2) =
    absurd (use_no_end c e1 a tid (clock_after (e1 ∷ older1)) old2 new2 old1 x2 x1)
tells_once c a tid (ended e1 older1 since1 old1 x1 tells1) (ended e2 older2 since2 old2 x2 tells2) =
    record { agreement = refl; entries = refl }
tells_once c a tid (ended e1 older1 since1 old1 x1 tells1) (dropped e2 older2 since2 old2 x2 tells2) =
    absurd (end_no_drop c e1 a tid (clock_after (e1 ∷ older1)) old1 x1 x2)
tells_once c a tid (ended e1 older1 since1 old1 x1 tells1) (alone e2 older2 since2 old2 x2 tells2) =
    let ih = tells_once c a tid tells1 tells2 in absurd (x2.not_ended old1 (sym ih.agreement) x1)
tells_once c a tid (dropped e1 older1 since1 old1 x1 tells1) (opened e2 older2 since2 old2 new2 x2 tells2) =
    absurd (opens_no_drop c e1 a tid (clock_after (e1 ∷ older1)) new2 x2 x1)
tells_once c a tid (dropped e1 older1 since1 old1 x1 tells1) (used e2 older2 since2 old2 new2 x2 tells2) =
    absurd (use_no_drop c e1 a tid (clock_after (e1 ∷ older1)) old2 new2 x2 x1)
tells_once c a tid (dropped e1 older1 since1 old1 x1 tells1) (ended e2 older2 since2 old2 x2 tells2) =
    absurd (end_no_drop c e1 a tid (clock_after (e1 ∷ older1)) old2 x2 x1)
tells_once c a tid (dropped e1 older1 since1 old1 x1 tells1) (dropped e2 older2 since2 old2 x2 tells2) =
    record { agreement = refl; entries = refl }
tells_once c a tid (dropped e1 older1 since1 old1 x1 tells1) (alone e2 older2 since2 old2 x2 tells2) =
    let ih = tells_once c a tid tells1 tells2 in absurd (x2.not_dropped old1 (sym ih.agreement) x1)
tells_once c a tid (alone e1 older1 since1 old1 x1 tells1) (opened e2 older2 since2 old2 new2 x2 tells2) =
    absurd (x1.not_opened new2 x2)
tells_once c a tid (alone e1 older1 since1 old1 x1 tells1) (used e2 older2 since2 old2 new2 x2 tells2) =
    let ih = tells_once c a tid tells1 tells2 in absurd (x1.not_used old2 new2 ih.agreement x2)
tells_once c a tid (alone e1 older1 since1 old1 x1 tells1) (ended e2 older2 since2 old2 x2 tells2) =
    let ih = tells_once c a tid tells1 tells2 in absurd (x1.not_ended old2 ih.agreement x2)
tells_once c a tid (alone e1 older1 since1 old1 x1 tells1) (dropped e2 older2 since2 old2 x2 tells2) =
    let ih = tells_once c a tid tells1 tells2 in absurd (x1.not_dropped old2 ih.agreement x2)
tells_once c a tid (alone e1 older1 since1 old1 x1 tells1) (alone e2 older2 since2 old2 x2 tells2) =
    let ih = tells_once c a tid tells1 tells2 in record { agreement = ih.agreement; entries = ap (λ xs. e1 ∷ xs) ih.entries }
