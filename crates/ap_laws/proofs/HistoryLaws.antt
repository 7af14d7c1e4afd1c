-- Readings of one history say the same, so steps over readings are steps over histories.
use Rattle.std.proofs.Common.{◌≡◌, ℕ, ◌<◌, Bool, Option, None, Some, List, [], ◌∷◌, ◌++◌, reverse, refl, sym, ap, ◌∙◌, subst, arith}
use Rattle.std.proofs.lemmas.Grind.{reverse_onto}
use Rattle.std.proofs.lemmas.List.{append-nil, reverse-reverse}
use Rattle.mac_frame.specs.Spelling.{spelling}
use Rattle.assoc.specs.Standings.{IsOwn, state_of}
use Rattle.blockack.specs.Passed.{passed, numbered}
use Rattle.ap_model.specs.Readings.{Readings, Rules, Using}
use Rattle.ap_model.specs.Associations.{association_answer, aid_field}
use Rattle.ap_model.specs.Agreements.{ups}
use Rattle.ap_model.specs.Runs.{Entry, Handles, Run, rests, goes_on, opening}
use Rattle.ap_laws.specs.Origins.{HoldsAgreements}
use Rattle.ap_laws.specs.Exchanges.{Exchange, Authenticated, Associated, Disassociated, Deauthenticated, standing_after, IsExchange, authentication, association, disassociation, deauthentication, kick, Exchanges, none_yet, one_more, other}
use Rattle.ap_laws.specs.Agreed.{Agreement}
use Rattle.ap_laws.specs.InOrder.{ups_since}
use Rattle.ap_laws.specs.Histories.{ReadsAgreement, ReadsAgreed, AgreesBy, IsReadingOf, Follows, IsHistory, nothing_yet, and_then, ReadingsServe, ReadingsGoOn, RunsAreHistories}
use Rattle.ap_laws.proofs.FrameLaws.{frame_no_kick, association_answer_is}
use Rattle.ap_laws.proofs.TellLaws.{exchange_of, number_of, exchange_number}
use Rattle.ap_laws.proofs.OnceLaws.{tells_once}
use Rattle.ap_laws.proofs.OriginLaws.{run_then}
use Rattle.ap_laws.proofs.OrderLaws.{Tells, Past, reading_of, no_past, past_on, turned, past_run, past_of, runs_are_read}
use Rattle.ap_laws.proofs.RereadLaws.{SaysTheSame, SayTheSame, there, Same, same_step}

-- ---- exchanges

by_number : (x : Exchange) (n : ℕ) → n ≡ number_of x → (n ≡ 1 → x ≡ Authenticated) × (n ≡ 3 → x ≡ Disassociated) × (n ≡ 4 → x ≡ Deauthenticated)
by_number Authenticated n e = (λ k. refl, λ k. absurd (omega arith), λ k. absurd (omega arith))
by_number (Associated m) n e = (λ k. absurd (omega arith), λ k. absurd (omega arith), λ k. absurd (omega arith))
by_number Disassociated n e = (λ k. absurd (omega arith), λ k. refl, λ k. absurd (omega arith))
by_number Deauthenticated n e = (λ k. absurd (omega arith), λ k. absurd (omega arith), λ k. refl)

module _ (c : Rules) (e : Entry) (a : List ℕ) where
  -- the response has one identifier
  same_identifier : (n m : ℕ) → IsOwn c.shard n → IsOwn c.shard m → (repeated repeated2 : Bool) → e.outs ≡ association_answer c a repeated 0 (aid_field n) ∷ [] → e.outs ≡ association_answer c a repeated2 0 (aid_field m) ∷ [] → n ≡ m
  same_identifier n m own own2 repeated repeated2 p q =
      let s = (association_answer_is c a repeated repeated2 0 0 (aid_field n) (aid_field m) (sym p ∙ q)).identifier in
      let h = own.high in let h2 = own2.high in
      omega arith

  exchange_once : (x y : Exchange) → IsExchange c e a x → IsExchange c e a y → x ≡ y
  exchange_once x y (authentication f bssid sequence algorithm transaction status comes is outs) q =
      sym ((by_number y (exchange_of f.content) (exchange_number c e a f comes a y q)).0 (ap exchange_of is))
  exchange_once x y (disassociation f bssid sequence reason comes is) q =
      sym ((by_number y (exchange_of f.content) (exchange_number c e a f comes a y q)).1 (ap exchange_of is))
  exchange_once x y (deauthentication f bssid sequence reason comes is) q =
      sym ((by_number y (exchange_of f.content) (exchange_number c e a f comes a y q)).2 (ap exchange_of is))
  exchange_once x y (association f repeated n comes at own outs) (association f2 repeated2 m comes2 at2 own2 outs2) =
      ap Associated (same_identifier n m own own2 repeated repeated2 outs outs2)
  exchange_once x y (association f repeated n comes at own outs) (authentication f2 bssid sequence algorithm transaction status comes2 is2 outs2) =
      let p = exchange_number c e a f2 comes2 a (Associated n) (association f repeated n comes at own outs) in
      let q = ap exchange_of is2 in
      absurd (omega arith)
  exchange_once x y (association f repeated n comes at own outs) (disassociation f2 bssid sequence reason comes2 is2) =
      let p = exchange_number c e a f2 comes2 a (Associated n) (association f repeated n comes at own outs) in
      let q = ap exchange_of is2 in
      absurd (omega arith)
  exchange_once x y (association f repeated n comes at own outs) (deauthentication f2 bssid sequence reason comes2 is2) =
      let p = exchange_number c e a f2 comes2 a (Associated n) (association f repeated n comes at own outs) in
      let q = ap exchange_of is2 in
      absurd (omega arith)
  exchange_once x y (association f repeated n comes at own outs) (kick reason is2) = absurd (frame_no_kick (spelling f) a reason e.event comes.came is2)
  exchange_once x y (kick reason is) (authentication f bssid sequence algorithm transaction status comes is2 outs) = absurd (frame_no_kick (spelling f) a reason e.event comes.came is)
  exchange_once x y (kick reason is) (association f repeated n comes at own outs) = absurd (frame_no_kick (spelling f) a reason e.event comes.came is)
  exchange_once x y (kick reason is) (disassociation f bssid sequence reason2 comes is2) = absurd (frame_no_kick (spelling f) a reason e.event comes.came is)
  exchange_once x y (kick reason is) (deauthentication f bssid sequence reason2 comes is2) = absurd (frame_no_kick (spelling f) a reason e.event comes.came is)
  exchange_once x y (kick reason is) (kick reason2 is2) = refl

exchanges_once : (c : Rules) (a : List ℕ) {h : List Entry} {xs ys : List Exchange} → Exchanges c a h xs → Exchanges c a h ys → xs ≡ ys
exchanges_once c a none_yet none_yet = refl
exchanges_once c a (one_more e x older xs is more) (one_more e2 y older2 ys is2 more2) =
    ap (λ z. z ∷ xs) (exchange_once c e a x y is is2) ∙ ap (λ zs. y ∷ zs) (exchanges_once c a more more2)
exchanges_once c a (one_more e x older xs is more) (other e2 older2 ys none more2) = absurd (none x is)
exchanges_once c a (other e older xs none more) (one_more e2 y older2 ys is2 more2) = absurd (none y is2)
exchanges_once c a (other e older xs none more) (other e2 older2 ys none2 more2) = exchanges_once c a more more2

-- ---- readings of one history

agreement_reads : (g : Agreement) (u v : Using) → ReadsAgreement g u → ReadsAgreement g v → SaysTheSame u v
agreement_reads g u v p q =
    record {
      start = p.window.residue ∙ sym q.window.residue;
      size = p.size ∙ sym q.size;
      held = λ i. sym (p.window.held i) ∙ q.window.held i;
      first = p.board.residue ∙ sym q.board.residue;
      bits = λ i. sym (p.board.numbers i) ∙ q.board.numbers i;
      timeout = p.timeout ∙ sym q.timeout;
      last_use = p.last_use ∙ sym q.last_use;
    }

agreed_reads : (g : Option Agreement) (o p : Option Using) → ReadsAgreed g o → ReadsAgreed g p → SayTheSame o p
agreed_reads None None None one two = tt
agreed_reads None None (Some v) one two = absurd two
agreed_reads None (Some u) p one two = absurd one
agreed_reads (Some g) None p one two = absurd one
agreed_reads (Some g) (Some u) None one two = absurd two
agreed_reads (Some g) (Some u) (Some v) one two = agreement_reads g u v one two

same_readings : (c : Rules) (h : List Entry) (r q : Readings) → IsReadingOf c h r → IsReadingOf c h q → Same r q
same_readings c h r q one two =
    record {
      standing = λ a.
          let x = one.standing a in let y = two.standing a in
          x.is ∙ ap standing_after (exchanges_once c a x.are y.are) ∙ sym y.is;
      agreement = λ a tid.
          let x = one.agreement a tid in let y = two.agreement a tid in
          let P : Option Agreement → Type 0 = λ g. ReadsAgreed g (q.agreement a tid) in
          agreed_reads x.agreement (r.agreement a tid) (q.agreement a tid) x.reads (subst P (sym (tells_once c a tid x.tells y.tells).agreement) y.reads);
      clock = one.clock ∙ sym two.clock;
    }

-- ---- the laws

follows_from : (c : Rules) (h : List Entry) (e : Entry) (r : Readings) → IsReadingOf c h r → Follows c h e → (r2 : Readings) × Handles c r e r2
follows_from c h e r reads f = same_step c f.from r f.to e.event e.asked e.outs (same_readings c h f.from r f.reads reads) f.step

pub readings_serve : ReadingsServe
readings_serve c h e r reads = (follows_from c h e r reads, λ x. record { from = r; reads = reads; to = x.0; step = x.1 })

run_of : (c : Rules) {h : List Entry} → IsHistory c h → (r : Readings) × Run c opening (reverse h) r
run_of c nothing_yet = (opening, rests opening)
run_of c (and_then h e f older) =
    let past = run_of c older in
    let P : List Entry → Type 0 = λ xs. IsReadingOf c xs past.0 in
    let reads : IsReadingOf c h past.0 = subst P (reverse-reverse h) (runs_are_read c (reverse h) past.0 past.1) in
    let next = follows_from c h e past.0 reads f in
    let Q : List Entry → Type 0 = λ xs. Run c opening xs next.0 in
    (next.0, subst Q (sym (reverse_onto h e [])) (run_then c next.0 e past.1 next.1))

-- what holds of readings holds of others that say the same
holds_same : (r q : Readings) → Same r q → HoldsAgreements q → HoldsAgreements r
holds_same r q same holds =
    record {
      associated = λ a tid u is.
          let w = there (r.agreement a tid) (q.agreement a tid) u (same.agreement a tid) is in
          ap state_of (same.standing a) ∙ holds.associated a tid w.using w.is;
      start = λ a tid u is.
          let w = there (r.agreement a tid) (q.agreement a tid) u (same.agreement a tid) is in
          let P : ℕ → Type 0 = λ n. n < 4096 in
          subst P (sym w.same.start) (holds.start a tid w.using w.is);
    }

tells_same : (c : Rules) (h : List Entry) (a : List ℕ) (tid : ℕ) (o p : Option Using) → AgreesBy c h a tid o → Tells c h a tid p → Tells c h a tid o
tells_same c h a tid o p x t =
    let same = tells_once c a tid t.tells x.tells in
    record {
      agreement = x.agreement;
      since = x.since;
      tells = x.tells;
      reads = x.reads;
      order = λ old at.
          let P : List Entry → Type 0 = λ xs. ups_since a tid xs ≡ ups a tid (numbered (passed old.window)) in
          subst P same.entries (t.order old (same.agreement ∙ at));
    }

-- the same is known of all readings of a history
past_from : (c : Rules) (h : List Entry) (r : Readings) → IsHistory c h → IsReadingOf c h r → Past c h r
past_from c h r history reads =
    let run = run_of c history in
    let P : List Entry → Type 0 = λ xs. Past c xs run.0 in
    let past : Past c h run.0 = subst P (reverse-reverse h) (past_of c (reverse h) run.0 run.1) in
    record {
      holds = holds_same r run.0 (same_readings c h r run.0 reads (reading_of c h run.0 past)) past.holds;
      clock = reads.clock;
      stands = reads.standing;
      agrees = λ a tid. tells_same c h a tid (r.agreement a tid) (run.0.agreement a tid) (reads.agreement a tid) (past.agrees a tid);
    }

-- a run extends a history
history_on : (c : Rules) {r r2 : Readings} {later : List Entry} (h : List Entry) → IsHistory c h → Past c h r → Run c r later r2 → IsHistory c (reverse later ++ h)
history_on c h history past (rests r) = history
history_on c h history past (goes_on r mid r2 e later step run) =
    let P : List Entry → Type 0 = λ xs. IsHistory c xs in
    let f : Follows c h e = record { from = r; reads = reading_of c h r past; to = mid; step = step } in
    subst P (sym (turned e later h)) (history_on c (e ∷ h) (and_then h e f history) (past_on c h r mid e past step) run)

pub readings_go_on : ReadingsGoOn
readings_go_on c h entries r r2 history reads run =
    let past = past_from c h r history reads in
    (history_on c h history past run, reading_of c (reverse entries ++ h) r2 (past_run c h past run))

pub runs_are_histories : RunsAreHistories
runs_are_histories c entries = (
  λ h.
      let x = run_of c h in
      let P : List Entry → Type 0 = λ xs. Run c opening xs x.0 in
      (x.0, subst P (reverse-reverse entries) x.1),
  λ x.
      let P : List Entry → Type 0 = λ xs. IsHistory c xs in
      subst P (append-nil (reverse entries)) (history_on c [] nothing_yet (no_past c) x.1),
)
