-- What each step does to an agreement that its history describes.
use Rattle.std.proofs.Common.{◌≡◌, ◌≢◌, ℕ, ◌+◌, ◌≤◌, Bool, true, Option, None, Some, List, [], refl, sym, ap, ◌∙◌, subst, arith}
use Rattle.mac_frame.specs.declared.content.Management.{Management}
use Rattle.mac_frame.specs.declared.content.Management.TheVariants as management
use Rattle.mac_frame.specs.declared.content.Control.{Control}
use Rattle.mac_frame.specs.declared.content.Control.TheVariants as control
use Rattle.mac_frame.specs.declared.content.DataKind.{DataKind}
use Rattle.mac_frame.specs.declared.content.DataKind.TheVariants as kinds
use Rattle.mac_frame.specs.declared.content.Content.{Content}
use Rattle.mac_frame.specs.declared.content.Content.TheVariants as content
use Rattle.mac_frame.specs.Spelling.{Frame, spelling}
use Rattle.blockack.specs.Window.{Window, EndStep}
use Rattle.blockack.specs.Passed.{PassesUp}
use Rattle.ap_model.specs.declared.event.Event.TheVariants as event
use Rattle.ap_model.specs.declared.event.Out.{Out}
use Rattle.ap_model.specs.Readings.{Readings, Rules, Using, Held}
use Rattle.ap_model.specs.Agreements.{PassesHeld, none_held, held_up, ups}
use Rattle.ap_model.specs.Runs.{Entry}
use Rattle.ap_laws.specs.Exchanges.{Exchange, Authenticated, Associated, Disassociated, Deauthenticated, ComesFrom, IsRequest, first, again, IsExchange, authentication, association, disassociation, deauthentication, kick}
use Rattle.ap_laws.specs.Agreed.{Agreement, Opens, Uses, takes, leaves, requests, Ends, deleted, closed, late, Drops, LeavesAlone}
use Rattle.ap_laws.specs.InOrder.{ups_of}
use Rattle.ap_laws.specs.Histories.{ReadsAgreement, ReadsAgreed}
use Rattle.ap_laws.proofs.FrameLaws.{same_frame, same_sender, same_content, frame_no_tick, frame_no_kick, frame_no_close}
use Rattle.ap_laws.proofs.UpLaws.{own_ups}
use Rattle.std.proofs.lemmas.Option.{none-some, same_Some}

-- ---- what a frame's content may do to an agreement

abbrev SetsUpBy : ℕ → Management → Type 0
SetsUpBy tid (management.AddbaRequest token parameters timeout start) = parameters.tid ≡ tid
SetsUpBy tid _ = ⊥

abbrev pub SetsUpFor : ℕ → Content → Type 0
SetsUpFor tid (content.Management bssid sequence body) = SetsUpBy tid body
SetsUpFor tid (content.Control body) = ⊥
SetsUpFor tid (content.Data destination number kind) = ⊥

abbrev RequestsFor : ℕ → Control → Type 0
RequestsFor tid (control.BlockAckReq t start) = t ≡ tid
RequestsFor tid (control.BlockAck t start bitmap) = ⊥

abbrev CarriesFor : ℕ → DataKind → Type 0
CarriesFor tid kinds.Data = ⊥
CarriesFor tid kinds.Null = ⊥
CarriesFor tid (kinds.QosData qos) = qos.tid ≡ tid
CarriesFor tid (kinds.QosNull qos) = ⊥

abbrev pub UsesFor : ℕ → Content → Type 0
UsesFor tid (content.Management bssid sequence body) = ⊥
UsesFor tid (content.Control body) = RequestsFor tid body
UsesFor tid (content.Data destination number kind) = CarriesFor tid kind

abbrev DeletesBy : ℕ → Management → Type 0
DeletesBy tid (management.Delba parameters reason) = (parameters.initiator ≡ true) × (parameters.tid ≡ tid)
DeletesBy tid _ = ⊥

abbrev pub DeletesFor : ℕ → Content → Type 0
DeletesFor tid (content.Management bssid sequence body) = DeletesBy tid body
DeletesFor tid (content.Control body) = ⊥
DeletesFor tid (content.Data destination number kind) = ⊥

-- which exchange a content may be, as a number; 0 for none
abbrev exchange_by : Management → ℕ
exchange_by (management.Authentication algorithm transaction status) = 1
exchange_by (management.AssociationRequest capability interval) = 2
exchange_by (management.ReassociationRequest capability interval current) = 2
exchange_by (management.Disassociation reason) = 3
exchange_by (management.Deauthentication reason) = 4
exchange_by _ = 0

abbrev pub exchange_of : Content → ℕ
exchange_of (content.Management bssid sequence body) = exchange_by body
exchange_of (content.Control body) = 0
exchange_of (content.Data destination number kind) = 0

abbrev pub number_of : Exchange → ℕ
number_of Authenticated = 1
number_of (Associated n) = 2
number_of Disassociated = 3
number_of Deauthenticated = 4

request_number : {b : Bool} {x : Content} → IsRequest b x → exchange_of x ≡ 2
request_number (first bssid sequence capability interval) = refl
request_number (again bssid sequence capability interval current) = refl

module _ (c : Rules) (e : Entry) (b : List ℕ) (f : Frame) (comes : ComesFrom c e b f) where
  module _ (a : List ℕ) (tid clock : ℕ) where
    pub opens_for : (new : Agreement) → Opens c e a tid clock new → SetsUpFor tid f.content
    opens_for new o =
        let is : f.content ≡ content.Management o.bssid o.sequence (management.AddbaRequest o.token o.parameters o.timeout o.start) = same_content c e a b o.frame f _ o.comes comes o.content in
        subst (SetsUpFor tid) (sym is) o.for_tid

    pub uses_for : (old new : Agreement) → Uses c e a tid clock old new → UsesFor tid f.content
    uses_for old new (takes p ask verdict d asked used step mark) =
        let is : f.content ≡ content.Data p.destination p.number (kinds.QosData d.qos) = same_content c e a b p.frame f _ d.comes comes d.content in
        subst (UsesFor tid) (sym is) d.for_tid
    uses_for old new (leaves p d asked used step mark) =
        let is : f.content ≡ content.Data p.destination p.number (kinds.QosData d.qos) = same_content c e a b p.frame f _ d.comes comes d.content in
        subst (UsesFor tid) (sym is) d.for_tid
    uses_for old new (requests g start from at used step mark) =
        let is : f.content ≡ content.Control (control.BlockAckReq tid start) = same_content c e a b g f _ from comes at in
        subst (UsesFor tid) (sym is) refl

    pub ends_for : (old : Agreement) → Ends c e a tid clock old → DeletesFor tid f.content
    ends_for old (deleted g bssid sequence parameters reason from at initiator for_tid) =
        let is : f.content ≡ content.Management bssid sequence (management.Delba parameters reason) = same_content c e a b g f _ from comes at in
        subst (DeletesFor tid) (sym is) (initiator, for_tid)
    ends_for old (closed is) = absurd (frame_no_close (spelling f) a tid e.event comes.came is)
    ends_for old (late n is some idle) = absurd (frame_no_tick (spelling f) n e.event comes.came is)

  pub exchange_number : (a : List ℕ) (x : Exchange) → IsExchange c e a x → exchange_of f.content ≡ number_of x
  exchange_number a x (authentication g bssid sequence algorithm transaction status from at outs) =
      ap exchange_of (same_content c e a b g f (content.Management bssid sequence (management.Authentication algorithm transaction status)) from comes at)
  exchange_number a x (association g repeated n from at own outs) =
      ap (λ y. exchange_of y.content) (sym (same_frame c e a b g f from comes)) ∙ request_number at
  exchange_number a x (disassociation g bssid sequence reason from at) =
      ap exchange_of (same_content c e a b g f (content.Management bssid sequence (management.Disassociation reason)) from comes at)
  exchange_number a x (deauthentication g bssid sequence reason from at) =
      ap exchange_of (same_content c e a b g f (content.Management bssid sequence (management.Deauthentication reason)) from comes at)
  exchange_number a x (kick reason is) = absurd (frame_no_kick (spelling f) a reason e.event comes.came is)

pub some_number : (x : Exchange) → number_of x ≡ 0 → ⊥
some_number Authenticated e = omega arith
some_number (Associated n) e = omega arith
some_number Disassociated e = omega arith
some_number Deauthenticated e = omega arith

-- ---- agreements and their readings

pub record There (g : Option Agreement) (u : Using) : Type 0 where
  pub agreement : Agreement
  pub is : g ≡ Some agreement
  pub reads : ReadsAgreement agreement u

pub told : (g : Option Agreement) (o : Option Using) (u : Using) → ReadsAgreed g o → o ≡ Some u → There g u
told None None u reads e = absurd (none-some u e)
told None (Some v) u reads e = absurd reads
told (Some g) None u reads e = absurd reads
told (Some g) (Some v) u reads e = record { agreement = g; is = refl; reads = subst (ReadsAgreement g) (same_Some v u e) reads }

pub not_told : (g : Option Agreement) (o : Option Using) → ReadsAgreed g o → o ≡ None → g ≡ None
not_told None o reads e = refl
not_told (Some g) None reads e = absurd reads
not_told (Some g) (Some u) reads e = absurd (none-some u (sym e))

pub record Read (g : Agreement) (o : Option Using) : Type 0 where
  pub using : Using
  pub is : o ≡ Some using
  pub reads : ReadsAgreement g using

pub read_of : (g : Option Agreement) (o : Option Using) (old : Agreement) → ReadsAgreed g o → g ≡ Some old → Read old o
read_of None o old reads e = absurd (none-some old e)
read_of (Some g) None old reads e = absurd reads
read_of (Some g) (Some u) old reads e = record { using = u; is = refl; reads = (let P : Agreement → Type 0 = λ x. ReadsAgreement x u in subst P (same_Some g old e) reads) }

-- ---- what a step does to the agreement

module _ (c : Rules) (e : Entry) (clock : ℕ) (r2 : Readings) (a : List ℕ) (tid : ℕ) where
  -- its window moves past all that it took, and that is passed up
  pub record EndsUp (old : Agreement) : Type 0 where
    pub last : Window Held
    pub passed : List (ℕ × Held)
    pub ends : EndStep old.window last
    pub passes : PassesUp old.window last passed
    pub are : ups_of a tid e.outs ≡ ups a tid passed

  pub data Telling (g : Option Agreement) : Type 0 where
    it_opens : (new : Agreement) → Opens c e a tid clock new → ReadsAgreed (Some new) (r2.agreement a tid) → ((old : Agreement) → g ≡ Some old → EndsUp old) → Telling g
    it_is_used : (old new : Agreement) (passed : List (ℕ × Held)) → g ≡ Some old → Uses c e a tid clock old new → ReadsAgreed (Some new) (r2.agreement a tid) →
        PassesUp old.window new.window passed → ups_of a tid e.outs ≡ ups a tid passed → Telling g
    it_ends : (old : Agreement) → g ≡ Some old → Ends c e a tid clock old → r2.agreement a tid ≡ None → EndsUp old → Telling g
    it_is_dropped : (old : Agreement) → g ≡ Some old → Drops c e a tid clock → r2.agreement a tid ≡ None → ups_of a tid e.outs ≡ [] → Telling g
    it_is_alone : LeavesAlone c e a tid clock g → ReadsAgreed g (r2.agreement a tid) → ((old : Agreement) → g ≡ Some old → ups_of a tid e.outs ≡ []) → Telling g

  module _ (r : Readings) (g : Option Agreement) (reads : ReadsAgreed g (r.agreement a tid)) where
    pub unchanged : LeavesAlone c e a tid clock g → r2.agreement a tid ≡ r.agreement a tid → ((old : Agreement) → g ≡ Some old → ups_of a tid e.outs ≡ []) → Telling g
    unchanged leaves_alone same none = it_is_alone leaves_alone (subst (ReadsAgreed g) (sym same) reads) none

    -- it is discarded, if it exists
    pub gone : (x : Exchange) → IsExchange c e a x → ((new : Agreement) → Opens c e a tid clock new → ⊥) → r2.agreement a tid ≡ None → ups_of a tid e.outs ≡ [] → Telling g
    gone x is not_opened after none = by_case g refl
      where
        by_case : (o : Option Agreement) → g ≡ o → Telling g
        by_case (Some old) same = it_is_dropped old same (record { exchange = x; is = is }) after none
        by_case None same =
            let P : Option Agreement → Type 0 = λ o. ReadsAgreed o (r2.agreement a tid) in
            let Q : Option Using → Type 0 = λ o. ReadsAgreed None o in
            it_is_alone
            (record {
              not_opened = not_opened;
              not_used = λ h new there. absurd (none-some h (sym same ∙ there));
              not_ended = λ h there. absurd (none-some h (sym same ∙ there));
              not_dropped = λ h there. absurd (none-some h (sym same ∙ there));
            })
            (subst P (sym same) (subst Q (sym after) tt))
            (λ old there. absurd (none-some old (sym same ∙ there)))

    -- only a granted request changes an agreement that doesn't exist
    pub none_alone : g ≡ None → ((new : Agreement) → Opens c e a tid clock new → ⊥) → LeavesAlone c e a tid clock g
    none_alone none not_opened =
        record {
          not_opened = not_opened;
          not_used = λ h new there. absurd (none-some h (sym none ∙ there));
          not_ended = λ h there. absurd (none-some h (sym none ∙ there));
          not_dropped = λ h there. absurd (none-some h (sym none ∙ there));
        }

    -- what it held is passed up first
    pub ends_up : (passed : List Out) (old : Agreement) → g ≡ Some old → PassesHeld a tid (r.agreement a tid) passed → ups_of a tid e.outs ≡ ups_of a tid passed → EndsUp old
    ends_up passed old there passes same =
        let at = read_of g (r.agreement a tid) old reads there in
        let P : Option Using → Type 0 = λ o. PassesHeld a tid o passed in
        by_case (Some at.using) at.using passed refl at.reads same (subst P at.is passes)
      where
        by_case : (o : Option Using) (u : Using) (xs : List Out) → o ≡ Some u → ReadsAgreement old u → ups_of a tid e.outs ≡ ups_of a tid xs → PassesHeld a tid o xs → EndsUp old
        by_case o u xs is read alike none_held = absurd (none-some u is)
        by_case o u xs is read alike (held_up v frames ending) =
            let Q : Using → Type 0 = λ x. ReadsAgreement old x in
            let after = ending old.window (subst Q (sym (same_Some v u is)) read).window in
            record { last = after.next; passed = frames; ends = after.step; passes = after.passes; are = alike ∙ own_ups a tid frames }

-- a frame that doesn't change it, by its content
module _ (c : Rules) (e : Entry) (b : List ℕ) (f : Frame) (comes : ComesFrom c e b f) (a : List ℕ) (tid clock : ℕ) (g : Option Agreement) where
  pub alone_but : (body : Content) → f.content ≡ body → (SetsUpFor tid body → ⊥) → (UsesFor tid body → ⊥) → (DeletesFor tid body → ⊥) → ((x : Exchange) → IsExchange c e a x → ⊥) → LeavesAlone c e a tid clock g
  alone_but body is no_setup no_use no_end no_exchange =
      record {
        not_opened = λ new o. no_setup (subst (SetsUpFor tid) is (opens_for c e b f comes a tid clock new o));
        not_used = λ old new there u. no_use (subst (UsesFor tid) is (uses_for c e b f comes a tid clock old new u));
        not_ended = λ old there x. no_end (subst (DeletesFor tid) is (ends_for c e b f comes a tid clock old x));
        not_dropped = λ old there d. no_exchange d.exchange d.is;
      }

  -- a frame that may open an agreement, and doesn't
  pub alone_with : (body : Content) → f.content ≡ body → ((new : Agreement) → Opens c e a tid clock new → ⊥) → (UsesFor tid body → ⊥) → (DeletesFor tid body → ⊥) → exchange_of body ≡ 0 → LeavesAlone c e a tid clock g
  alone_with body is not_opened no_use no_end none =
      record {
        not_opened = not_opened;
        not_used = λ old new there u. no_use (subst (UsesFor tid) is (uses_for c e b f comes a tid clock old new u));
        not_ended = λ old there x. no_end (subst (DeletesFor tid) is (ends_for c e b f comes a tid clock old x));
        not_dropped = λ old there d. some_number d.exchange (sym (exchange_number c e b f comes a d.exchange d.is) ∙ ap exchange_of is ∙ none);
      }

  pub alone_by : (body : Content) → f.content ≡ body → (SetsUpFor tid body → ⊥) → (UsesFor tid body → ⊥) → (DeletesFor tid body → ⊥) → exchange_of body ≡ 0 → LeavesAlone c e a tid clock g
  alone_by body is no_setup no_use no_end none =
      alone_but body is no_setup no_use no_end (λ x at. some_number x (sym (exchange_number c e b f comes a x at) ∙ ap exchange_of is ∙ none))

-- ---- at another station

pub frames_alone : (c : Rules) (e : Entry) (b : List ℕ) (f : Frame) (comes : ComesFrom c e b f) (a : List ℕ) (tid clock : ℕ) (g : Option Agreement) → b ≢ a → LeavesAlone c e a tid clock g
frames_alone c e b f comes a tid clock g other =
    record {
      not_opened = λ new o. other (same_sender c e b a f o.frame comes o.comes);
      not_used = λ old new there u. by_use old new u;
      not_ended = λ old there x. by_end old x;
      not_dropped = λ old there d. by_exchange d.exchange d.is;
    }
  where
    by_use : (old new : Agreement) → Uses c e a tid clock old new → ⊥
    by_use old new (takes p ask verdict d asked used step mark) = other (same_sender c e b a f p.frame comes d.comes)
    by_use old new (leaves p d asked used step mark) = other (same_sender c e b a f p.frame comes d.comes)
    by_use old new (requests h start from at used step mark) = other (same_sender c e b a f h comes from)

    by_end : (old : Agreement) → Ends c e a tid clock old → ⊥
    by_end old (deleted h bssid sequence parameters reason from at initiator for_tid) = other (same_sender c e b a f h comes from)
    by_end old (closed is) = frame_no_close (spelling f) a tid e.event comes.came is
    by_end old (late n is some idle) = frame_no_tick (spelling f) n e.event comes.came is

    by_exchange : (x : Exchange) → IsExchange c e a x → ⊥
    by_exchange x (authentication h bssid sequence algorithm transaction status from at outs) = other (same_sender c e b a f h comes from)
    by_exchange x (association h repeated n from at own outs) = other (same_sender c e b a f h comes from)
    by_exchange x (disassociation h bssid sequence reason from at) = other (same_sender c e b a f h comes from)
    by_exchange x (deauthentication h bssid sequence reason from at) = other (same_sender c e b a f h comes from)
    by_exchange x (kick reason is) = frame_no_kick (spelling f) a reason e.event comes.came is

-- no frame came for this access point, and no command
pub nothing_alone : (c : Rules) (e : Entry) (a : List ℕ) (tid clock : ℕ) (g : Option Agreement) → ((f : Frame) → ComesFrom c e a f → ⊥) → ((reason : ℕ) → e.event ≡ event.Kick a reason → ⊥) → (e.event ≡ event.Close a tid → ⊥) →
    ((old : Agreement) (n : ℕ) → g ≡ Some old → e.event ≡ event.Tick n → 1 ≤ old.timeout → old.last_use + old.timeout ≤ clock → ⊥) → LeavesAlone c e a tid clock g
nothing_alone c e a tid clock g no_frame no_kick no_close not_late =
    record {
      not_opened = λ new o. no_frame o.frame o.comes;
      not_used = λ old new there u. by_use old new u;
      not_ended = λ old there x. by_end old there x;
      not_dropped = λ old there d. by_exchange d.exchange d.is;
    }
  where
    by_use : (old new : Agreement) → Uses c e a tid clock old new → ⊥
    by_use old new (takes p ask verdict d asked used step mark) = no_frame p.frame d.comes
    by_use old new (leaves p d asked used step mark) = no_frame p.frame d.comes
    by_use old new (requests h start from at used step mark) = no_frame h from

    by_end : (old : Agreement) → g ≡ Some old → Ends c e a tid clock old → ⊥
    by_end old there (deleted h bssid sequence parameters reason from at initiator for_tid) = no_frame h from
    by_end old there (closed is) = no_close is
    by_end old there (late n is some idle) = not_late old n there is some idle

    by_exchange : (x : Exchange) → IsExchange c e a x → ⊥
    by_exchange x (authentication h bssid sequence algorithm transaction status from at outs) = no_frame h from
    by_exchange x (association h repeated n from at own outs) = no_frame h from
    by_exchange x (disassociation h bssid sequence reason from at) = no_frame h from
    by_exchange x (deauthentication h bssid sequence reason from at) = no_frame h from
    by_exchange x (kick reason is) = no_kick reason is
