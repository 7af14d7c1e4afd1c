-- Readings that say the same of an agreement lead to the same steps.
use Rattle.std.proofs.Common.{◌≡◌, ℕ, ◌<◌, ◌==◌, ◌&&◌, ◌⊎◌, inl, inr, Bool, true, false, cond, Option, None, Some, List, [], ◌∷◌, ◌++◌, refl, sym, ap, ◌∙◌, subst, arith}
use Rattle.std.specs.Prelude.{is_some, if◌then◌else◌}
use Rattle.std.specs.Option.{option_map}
use Rattle.std.specs.Int.{bit_at}
use Rattle.bpf_regions.specs.declared.hooks.Hook.TheVariants as hook
use Rattle.mac_frame.specs.declared.content.Management.{Management}
use Rattle.mac_frame.specs.declared.content.Management.TheVariants as management
use Rattle.mac_frame.specs.declared.content.Control.{Control}
use Rattle.mac_frame.specs.declared.content.Control.TheVariants as control
use Rattle.mac_frame.specs.declared.content.DataKind.{DataKind}
use Rattle.mac_frame.specs.declared.content.DataKind.TheVariants as kinds
use Rattle.mac_frame.specs.declared.content.Content.{Content}
use Rattle.mac_frame.specs.declared.content.Content.TheVariants as content
use Rattle.mac_frame.specs.Spelling.{Frame, spelling}
use Rattle.assoc.specs.declared.class.ClassAnswer.{ClassAnswer}
use Rattle.assoc.specs.declared.class.ClassAnswer.TheVariants.{Permitted, Deauthenticate, Disassociate}
use Rattle.assoc.specs.Standings.{Standings, Standing, same_address}
use Rattle.blockack.specs.Window.{Window}
use Rattle.blockack.specs.Scoreboard.{Scoreboard, ReadsScoreboard, AfterDataMark, AfterRequestMark}
use Rattle.blockack.specs.Reading.{Reading, Reads, held_at, IsWanted, AfterData, DataMovesWindow, RequestMovesWindow, EndPassesUp, DataMarksScoreboard, RequestMovesScoreboard}
use Rattle.blockack.specs.Ring.{ahead}
use Rattle.hooks.specs.Contexts as contexts
use Rattle.ap_model.specs.declared.event.Event.{Event}
use Rattle.ap_model.specs.declared.event.Event.TheVariants as event
use Rattle.ap_model.specs.declared.event.Out.{Out}
use Rattle.ap_model.specs.Asks.{Ask}
use Rattle.ap_model.specs.Readings.{Readings, Rules, Using, Held}
use Rattle.ap_model.specs.Changes.{Stays, Moves, Agrees, Settles, Nothing, Answers}
use Rattle.ap_model.specs.Associations.{AuthenticationStatus, other_algorithm, other_transaction, no_room, accepted, Authenticates, accepts, refuses, Associates, unsuited, elsewhere, exhausted, admitted, refused, Request, Departs}
use Rattle.ap_model.specs.Agreements.{Packet, agreement_for, data_ask, DataComes, plain, taken, left, RequestComes, unagreed, agreed, Reports, PassesHeld, none_held, held_up, Ends, SetsUp, delayed, declined, granted, Setup}
use Rattle.ap_model.specs.Steps.{Step, FrameComes, faulty, foreign, ours, Checked, check_of, Follows, ManagementComes, ControlComes, DataKindComes, DelbaComes, Ticks, IsTimedOut, EndsAt, EndInTurn, nobody_ends, one_end, Kicks, kicked, not_kicked, Closes, closed, not_closed}
use Rattle.ap_laws.proofs.AlikeLaws.{timed_tells}
use Rattle.std.proofs.lemmas.Option.{none-some, same_Some}

-- ---- readings that say the same

-- what two readings of one agreement have in common
pub record SaysTheSame (u v : Using) : Type 0 where
  pub start : u.window.start ≡ v.window.start
  pub size : u.window.size ≡ v.window.size
  pub held : (i : ℕ) → held_at u.window i ≡ held_at v.window i
  pub first : u.window.scoreboard_start ≡ v.window.scoreboard_start
  pub bits : (i : ℕ) → (bit_at u.window.scoreboard_bits i == 1) ≡ (bit_at v.window.scoreboard_bits i == 1)
  pub timeout : u.timeout ≡ v.timeout
  pub last_use : u.last_use ≡ v.last_use

abbrev pub SayTheSame : Option Using → Option Using → Type 0
SayTheSame None None = Unit {0}
SayTheSame None (Some v) = ⊥
SayTheSame (Some u) None = ⊥
SayTheSame (Some u) (Some v) = SaysTheSame u v

pub record There (u : Using) (p : Option Using) : Type 0 where
  pub using : Using
  pub is : p ≡ Some using
  pub same : SaysTheSame u using

pub there : (o p : Option Using) (u : Using) → SayTheSame o p → o ≡ Some u → There u p
there None p u same e = absurd (none-some u e)
there (Some w) None u same e = absurd same
there (Some w) (Some v) u same e = record { using = v; is = refl; same = (let P : Using → Type 0 = λ x. SaysTheSame x v in subst P (same_Some w u e) same) }

pub none_there : (o p : Option Using) → SayTheSame o p → o ≡ None → p ≡ None
none_there o None same e = refl
none_there None (Some v) same e = absurd same
none_there (Some u) (Some v) same e = absurd (none-some u (sym e))

same_some : (o p : Option Using) → SayTheSame o p → is_some o ≡ is_some p
same_some None None same = refl
same_some None (Some v) same = absurd same
same_some (Some u) None same = absurd same
same_some (Some u) (Some v) same = refl

pub turned : (u v : Using) → SaysTheSame u v → SaysTheSame v u
turned u v s =
    record { start = sym s.start; size = sym s.size; held = λ i. sym (s.held i); first = sym s.first; bits = λ i. sym (s.bits i); timeout = sym s.timeout; last_use = sym s.last_use }

pub both_turned : (o p : Option Using) → SayTheSame o p → SayTheSame p o
both_turned None None same = tt
both_turned None (Some v) same = absurd same
both_turned (Some u) None same = absurd same
both_turned (Some u) (Some v) same = turned u v same

module _ (u v : Using) (same : SaysTheSame u v) where
  reads_back : (w : Window Held) → Reads w v.window → Reads w u.window
  reads_back w reads = record { residue = same.start ∙ reads.residue; held = λ i. reads.held i ∙ sym (same.held i) }

  board_back : (b : Scoreboard) → ReadsScoreboard b v.window.size v.window.scoreboard_start v.window.scoreboard_bits → ReadsScoreboard b u.window.size u.window.scoreboard_start u.window.scoreboard_bits
  board_back b reads =
      let P : ℕ → Type 0 = λ n. ReadsScoreboard b n u.window.scoreboard_start u.window.scoreboard_bits in
      subst P (sym same.size) (record { begins = reads.begins; residue = same.first ∙ reads.residue; numbers = λ i. reads.numbers i ∙ sym (same.bits i) })

  data_moves : (took : Bool) (number : ℕ) (x : Option Held) (new : Reading Held) (out : List (ℕ × Held)) → DataMovesWindow took number x u.window new out → DataMovesWindow took number x v.window new out
  data_moves took number x new out moves w reads = let P : ℕ → Type 0 = λ n. AfterData took n number x w new out in subst P same.size (moves w (reads_back w reads))

  request_moves : (number : ℕ) (new : Reading Held) (out : List (ℕ × Held)) → RequestMovesWindow number u.window new out → RequestMovesWindow number v.window new out
  request_moves number new out moves w reads = moves w (reads_back w reads)

  end_passes : (out : List (ℕ × Held)) → EndPassesUp u.window out → EndPassesUp v.window out
  end_passes out ends w reads = ends w (reads_back w reads)

  data_marks : (number : ℕ) (new : Reading Held) → DataMarksScoreboard number u.window new → DataMarksScoreboard number v.window new
  data_marks number new marks b reads =
      let P : ℕ → Type 0 = λ n. AfterDataMark n number b new.scoreboard_start new.scoreboard_bits in subst P same.size (marks b (board_back b reads))

  request_marks : (number : ℕ) (new : Reading Held) → RequestMovesScoreboard number u.window new → RequestMovesScoreboard number v.window new
  request_marks number new marks b reads =
      let P : ℕ → Type 0 = λ n. AfterRequestMark n number b new.scoreboard_start new.scoreboard_bits in subst P same.size (marks b (board_back b reads))

  wanted_back : (number : ℕ) → IsWanted v.window number → IsWanted u.window number
  wanted_back number w =
      let P : ℕ → Type 0 = λ s. ahead s number < 2048 in
      let Q : ℕ → Type 0 = λ s. held_at u.window (ahead s number) ≡ None in
      record { near = subst P (sym same.start) w.near; free = subst Q (sym same.start) (same.held (ahead v.window.start number) ∙ w.free) }

-- ---- the steps

-- their standings and clocks are the same
module _ (c : Rules) (standing : Standings) (clock : ℕ) (one other : List ℕ → ℕ → Option Using) (same : (a : List ℕ) (tid : ℕ) → SayTheSame (one a tid) (other a tid)) where
  abbrev r : Readings
  r = record { standing = standing; agreement = one; clock = clock }

  abbrev q : Readings
  q = record { standing = standing; agreement = other; clock = clock }

  -- the second readings after the change
  abbrev moved : List ℕ → Standing → Readings
  moved a s = record { standing = λ b. cond (same_address a b) s (standing b); agreement = λ b t. cond (same_address a b) None (other b t); clock = clock }

  abbrev changed : List ℕ → ℕ → Option Using → Readings
  changed a tid u = record { standing = standing; agreement = λ b t. cond (same_address a b && (tid == t)) u (other b t); clock = clock }

  stays : Stays q q
  stays = record { standing = λ b. refl; agreement = λ b t. refl; clock = refl }

  moves : (a : List ℕ) (s : Standing) → Moves q a s (moved a s)
  moves a s = record { moves = λ b. refl; discards = λ b t. refl; clock = refl }

  agrees : (a : List ℕ) (tid : ℕ) (u : Option Using) → Agrees q a tid u (changed a tid u)
  agrees a tid u = record { standing = λ b. refl; agreement = λ b t. refl; clock = refl }

  module _ (asked : List (Ask × ℕ)) (outs : List Out) (r2 : Readings) where
    nothing : Nothing r asked outs r2 → Nothing q asked outs q
    nothing x = record { settles = x.settles; stays = stays }

    answers : (o : Out) → Answers o r asked outs r2 → Answers o q asked outs q
    answers o x = record { settles = x.settles; stays = stays }

    status : (a : List ℕ) (algorithm transaction : ℕ) {n : ℕ} → AuthenticationStatus r a algorithm transaction n → AuthenticationStatus q a algorithm transaction n
    status a algorithm transaction (other_algorithm ne) = other_algorithm ne
    status a algorithm transaction (other_transaction e ne) = other_transaction e ne
    status a algorithm transaction (no_room e f unknown many) = no_room e f unknown many
    status a algorithm transaction (accepted e f room) = accepted e f room

    authentication : (a : List ℕ) (algorithm transaction : ℕ) → Authenticates c r a algorithm transaction asked outs r2 → (q2 : Readings) × Authenticates c q a algorithm transaction asked outs q2
    authentication a algorithm transaction (accepts fine settles x) = (moved a _, accepts (status a algorithm transaction fine) settles (moves a _))
    authentication a algorithm transaction (refuses n ne bad x) = (q, refuses n ne (status a algorithm transaction bad) (answers _ x))

    association : (a : List ℕ) (s : Request) → Associates c r a s asked outs r2 → (q2 : Readings) × Associates c q a s asked outs q2
    association a s (unsuited not x) = (q, unsuited not (answers _ x))
    association a s (elsewhere suits not x) = (q, elsewhere suits not (answers _ x))
    association a s (exhausted suits names none x) = (q, exhausted suits names none (answers _ x))
    association a s (admitted verdict suits names x) =
        (moved a _, admitted verdict suits names (record { admits = x.admits; identifier = x.identifier; free = x.free; asks = x.asks; is = x.is; moves = moves a _ }))
    association a s (refused verdict suits names x) =
        (q, refused verdict suits names (record { refuses = x.refuses; identifier = x.identifier; free = x.free; asks = x.asks; is = x.is; stays = stays }))

    departs : (a : List ℕ) (s : Standing) → Departs r a s asked outs r2 → (q2 : Readings) × Departs q a s asked outs q2
    departs a s x = (moved a s, record { settles = x.settles; moves = moves a s })

    -- ---- ends

    passes : (a : List ℕ) (tid : ℕ) (o p : Option Using) (first : List Out) → SayTheSame o p → PassesHeld a tid o first → PassesHeld a tid p first
    passes a tid o None first alike none_held = none_held
    passes a tid o (Some v) first alike none_held = absurd alike
    passes a tid o None first alike (held_up u passed ending) = absurd alike
    passes a tid o (Some v) first alike (held_up u passed ending) = held_up v passed (end_passes u v alike passed ending)

    ends : (a : List ℕ) (tid : ℕ) (last : List Out) → Ends r a tid last asked outs r2 → (q2 : Readings) × Ends q a tid last asked outs q2
    ends a tid last x =
        let P : Bool → Type 0 = λ b. Settles (if b then x.first ++ last else []) asked outs in (
          changed a tid None,
          record {
            first = x.first;
            passes = passes a tid (one a tid) (other a tid) x.first (same a tid) x.passes;
            settles = subst P (same_some (one a tid) (other a tid) (same a tid)) x.settles;
            agrees = agrees a tid None;
          },
        )

    delba_comes : (a : List ℕ) (initiator : Bool) (tid : ℕ) → DelbaComes c r a initiator tid asked outs r2 → (q2 : Readings) × DelbaComes c q a initiator tid asked outs q2
    delba_comes a true tid x = ends a tid [] x
    delba_comes a false tid x = (q, nothing x)

    -- ---- block acknowledgement

    sets_up : (a : List ℕ) (s : Setup) → SetsUp c r a s asked outs r2 → (q2 : Readings) × SetsUp c q a s asked outs q2
    sets_up a s (delayed is x) = (q, delayed is (answers _ x))
    sets_up a s (declined verdict is x) = (q, declined verdict is (record { declines = x.declines; asks = x.asks; is = x.is; stays = stays }))
    sets_up a s (granted verdict is x) =
        let u : Using = record { window = x.window; timeout = s.timeout; last_use = clock } in (
          changed a s.parameters.tid (Some u),
          granted verdict is (record {
            size = x.size;
            grants = x.grants;
            asks = x.asks;
            first = x.first;
            passes = passes a s.parameters.tid (one a s.parameters.tid) (other a s.parameters.tid) x.first (same a s.parameters.tid) x.passes;
            is = x.is;
            window = x.window;
            sized = x.sized;
            opens = x.opens;
            blanks = x.blanks;
            agrees = agrees a s.parameters.tid (Some u);
          }),
        )

    reports : (a : List ℕ) (tid start : ℕ) (u v : Using) → SaysTheSame u v → Reports c r a tid start u asked outs r2 → (q2 : Readings) × Reports c q a tid start v asked outs q2
    reports a tid start u v alike x =
        let w : Using = record { window = x.window; timeout = v.timeout; last_use = clock } in (
          changed a tid (Some w),
          record {
            window = x.window;
            size = x.size ∙ alike.size;
            passed = x.passed;
            moves = request_moves u v alike start x.window x.passed x.moves;
            marks = request_marks u v alike start x.window x.marks;
            settles = x.settles;
            agrees = agrees a tid (Some w);
          },
        )

    request_comes : (a : List ℕ) (tid start : ℕ) → RequestComes c r a tid start asked outs r2 → (q2 : Readings) × RequestComes c q a tid start asked outs q2
    request_comes a tid start (unagreed none x) = (q, unagreed (none_there (one a tid) (other a tid) (same a tid) none) (nothing x))
    request_comes a tid start (agreed u is x) =
        let t = there (one a tid) (other a tid) u (same a tid) is in
        let y = reports a tid start u t.using t.same x in
        (y.0, agreed t.using t.is y.1)

    -- ---- data

    start_for : (a : List ℕ) (t : Option ℕ) → option_map (λ u. u.window.start) (agreement_for r a t) ≡ option_map (λ u. u.window.start) (agreement_for q a t)
    start_for a None = refl
    start_for a (Some tid) = by_both (one a tid) (other a tid) (same a tid)
      where
        by_both : (o p : Option Using) → SayTheSame o p → option_map (λ u. u.window.start) o ≡ option_map (λ u. u.window.start) p
        by_both None None alike = refl
        by_both None (Some v) alike = absurd alike
        by_both (Some u) None alike = absurd alike
        by_both (Some u) (Some v) alike = ap Some alike.start

    same_ask : (a : List ℕ) (p : Packet) → data_ask r a p ≡ data_ask q a p
    same_ask a p = ap (λ x. record { hook = hook.Data; frame = spelling p.frame; context = contexts.data_context a (standing a) p.tid p.number x }) (start_for a p.tid)

    asks_too : (a : List ℕ) (p : Packet) (verdict : ℕ) → asked ≡ (data_ask r a p, verdict) ∷ [] → asked ≡ (data_ask q a p, verdict) ∷ []
    asks_too a p verdict is = is ∙ ap (λ x. (x, verdict) ∷ []) (same_ask a p)

    none_for : (a : List ℕ) (t : Option ℕ) → agreement_for r a t ≡ None → agreement_for q a t ≡ None
    none_for a None none = refl
    none_for a (Some tid) none = none_there (one a tid) (other a tid) (same a tid) none

    data_comes : (a : List ℕ) (p : Packet) → DataComes r a p asked outs r2 → (q2 : Readings) × DataComes q a p asked outs q2
    data_comes a p (plain x) =
        (q, plain (record { plain = none_for a p.tid x.plain; verdict = x.verdict; asks = asks_too a p x.verdict x.asks; is = x.is; stays = stays }))
    data_comes a p (taken tid u at_tid is x) =
        let t = there (one a tid) (other a tid) u (same a tid) is in
        let w : Using = record { window = x.window; timeout = t.using.timeout; last_use = clock } in (
          changed a tid (Some w),
          taken tid t.using at_tid t.is (record {
            wanted = wanted_back t.using u (turned u t.using t.same) p.number x.wanted;
            verdict = x.verdict;
            asks = asks_too a p x.verdict x.asks;
            window = x.window;
            size = x.size ∙ t.same.size;
            passed = x.passed;
            moves = data_moves u t.using t.same true p.number _ x.window x.passed x.moves;
            marks = data_marks u t.using t.same p.number x.window x.marks;
            is = x.is;
            agrees = agrees a tid (Some w);
          }),
        )
    data_comes a p (left tid u at_tid is x) =
        let t = there (one a tid) (other a tid) u (same a tid) is in
        let w : Using = record { window = x.window; timeout = t.using.timeout; last_use = clock } in (
          changed a tid (Some w),
          left tid t.using at_tid t.is (record {
            unwanted = λ wanted. x.unwanted (wanted_back u t.using t.same p.number wanted);
            settles = x.settles;
            window = x.window;
            size = x.size ∙ t.same.size;
            moves = data_moves u t.using t.same false p.number None x.window [] x.moves;
            marks = data_marks u t.using t.same p.number x.window x.marks;
            agrees = agrees a tid (Some w);
          }),
        )

    -- ---- frames

    management_comes : (f : Frame) (body : Management) → ManagementComes c r f body asked outs r2 → (q2 : Readings) × ManagementComes c q f body asked outs q2
    management_comes f (management.Authentication algorithm transaction status) x = authentication f.sender algorithm transaction x
    management_comes f (management.AssociationRequest capability interval) x = association f.sender _ x
    management_comes f (management.ReassociationRequest capability interval current) x = association f.sender _ x
    management_comes f (management.Disassociation reason) x = departs f.sender _ x
    management_comes f (management.Deauthentication reason) x = departs f.sender None x
    management_comes f (management.AddbaRequest token parameters timeout start) x = sets_up f.sender _ x
    management_comes f (management.Delba parameters reason) x = delba_comes f.sender parameters.initiator parameters.tid x
    management_comes f (management.AssociationResponse capability status aid) x = (q, nothing x)
    management_comes f (management.ReassociationResponse capability status aid) x = (q, nothing x)
    management_comes f (management.AddbaResponse token status parameters timeout) x = (q, nothing x)

    control_comes : (f : Frame) (body : Control) → ControlComes c r f body asked outs r2 → (q2 : Readings) × ControlComes c q f body asked outs q2
    control_comes f (control.BlockAckReq tid start) x = request_comes f.sender tid start x
    control_comes f (control.BlockAck tid start bitmap) x = (q, nothing x)

    kind_comes : (f : Frame) (destination : List ℕ) (number : ℕ) (kind : DataKind) → DataKindComes c r f destination number kind asked outs r2 → (q2 : Readings) × DataKindComes c q f destination number kind asked outs q2
    kind_comes f destination number kinds.Data x = data_comes f.sender _ x
    kind_comes f destination number (kinds.QosData qos) x = data_comes f.sender _ x
    kind_comes f destination number kinds.Null x = (q, nothing x)
    kind_comes f destination number (kinds.QosNull qos) x = (q, nothing x)

    follows : (f : Frame) (body : Content) → Follows c r f body asked outs r2 → (q2 : Readings) × Follows c q f body asked outs q2
    follows f (content.Management bssid sequence body) x = management_comes f body x
    follows f (content.Control body) x = control_comes f body x
    follows f (content.Data destination number kind) x = kind_comes f destination number kind x

    checked : (f : Frame) (answer : ClassAnswer) → Checked c r f answer asked outs r2 → (q2 : Readings) × Checked c q f answer asked outs q2
    checked f Permitted x = follows f f.content x
    checked f (Deauthenticate reason) x = (q, answers _ x)
    checked f (Disassociate reason) x = (q, answers _ x)

    frame_comes : (bytes : List ℕ) → FrameComes c r bytes asked outs r2 → (q2 : Readings) × FrameComes c q bytes asked outs q2
    frame_comes bytes (faulty fault is x) = (q, faulty fault is (answers _ x))
    frame_comes bytes (foreign f grammar is not x) = (q, foreign f grammar is not (answers _ x))
    frame_comes bytes (ours f grammar is us x) = let y = checked f (check_of c r f) x in (y.0, ours f grammar is us y.1)

    -- ---- time and commands

    timed_out : (time : ℕ) (u v : Using) → SaysTheSame u v → IsTimedOut c r time u → IsTimedOut c q time v
    timed_out time u v alike x = let t = alike.timeout in let l = alike.last_use in let limited = x.limited in let idle = x.idle in record { limited = omega arith; idle = omega arith }

    timed_back : (time : ℕ) (u v : Using) → SaysTheSame u v → IsTimedOut c q time v → IsTimedOut c r time u
    timed_back time u v alike x = let t = alike.timeout in let l = alike.last_use in let limited = x.limited in let idle = x.idle in record { limited = omega arith; idle = omega arith }

    ends_at : (time : ℕ) (key : List ℕ × ℕ) → EndsAt c r time key → EndsAt c q time key
    ends_at time key x =
        let t = there (one key.0 key.1) (other key.0 key.1) x.using (same key.0 key.1) x.is in
        record { using = t.using; is = t.is; late = timed_out time x.using t.using t.same x.late }

    ends_back : (time : ℕ) (key : List ℕ × ℕ) → EndsAt c q time key → EndsAt c r time key
    ends_back time key x =
        let t = there (other key.0 key.1) (one key.0 key.1) x.using (both_turned (one key.0 key.1) (other key.0 key.1) (same key.0 key.1)) x.is in
        record { using = t.using; is = t.is; late = timed_back time t.using x.using (turned x.using t.using t.same) x.late }

    in_turn : {keys : List (List ℕ × ℕ)} {all : List Out} → EndInTurn c r keys all → EndInTurn c q keys all
    in_turn nobody_ends = nobody_ends
    in_turn (one_end a tid keys first rest held later) =
        one_end a tid keys first rest (passes a tid (one a tid) (other a tid) first (same a tid) held) (in_turn later)

    left_by : (time : ℕ) (u : Using) → IsTimedOut c q time u ⊎ (IsTimedOut c q time u → ⊥) → Option Using
    left_by time u (inl late) = None
    left_by time u (inr not) = Some u

    left_at : ℕ → Option Using → Option Using
    left_at time None = None
    left_at time (Some u) = left_by time u (timed_tells c q time u)

    left_late : (time : ℕ) (o : Option Using) (u : Using) → o ≡ Some u → IsTimedOut c q time u → left_at time o ≡ None
    unfolding left_at left_by
    left_late time None u e late = refl
    left_late time (Some w) u e late = by_test (timed_tells c q time w)
      where
        by_test : (d : IsTimedOut c q time w ⊎ (IsTimedOut c q time w → ⊥)) → left_by time w d ≡ None
        by_test (inl late_now) = refl
        by_test (inr not) = let P : Using → Type 0 = λ x. IsTimedOut c q time x in absurd (not (subst P (sym (same_Some w u e)) late))

    left_on : (time : ℕ) (o : Option Using) → ((u : Using) → o ≡ Some u → IsTimedOut c q time u → ⊥) → left_at time o ≡ o
    unfolding left_at left_by
    left_on time None not = refl
    left_on time (Some w) not = by_test (timed_tells c q time w)
      where
        by_test : (d : IsTimedOut c q time w ⊎ (IsTimedOut c q time w → ⊥)) → left_by time w d ≡ Some w
        by_test (inl late) = absurd (not w refl late)
        by_test (inr still) = refl

    tick_comes : (n : ℕ) → Ticks c r n asked outs r2 → (q2 : Readings) × Ticks c q n asked outs q2
    tick_comes n x = (
      record { standing = standing; agreement = λ b t. left_at r2.clock (other b t); clock = r2.clock },
      record {
        silent = x.silent;
        clock = x.clock;
        standing = λ b. refl;
        ending = x.ending;
        rising = x.rising;
        exact = λ key. (λ inside. ends_at r2.clock key ((x.exact key).0 inside), λ e. (x.exact key).1 (ends_back r2.clock key e));
        ends = in_turn x.ends;
        gone = λ key inside. let e = ends_at r2.clock key ((x.exact key).0 inside) in left_late r2.clock (other key.0 key.1) e.using e.is e.late;
        others = λ key not. left_on r2.clock (other key.0 key.1) (λ u is late. not ((x.exact key).1 (ends_back r2.clock key (record { using = u; is = is; late = late }))));
      },
    )

    kick_comes : (a : List ℕ) (reason : ℕ) → Kicks c r a reason asked outs r2 → (q2 : Readings) × Kicks c q a reason asked outs q2
    kick_comes a reason (kicked some settles x) = (moved a None, kicked some settles (moves a None))
    kick_comes a reason (not_kicked unknown x) = (q, not_kicked unknown (answers _ x))

    close_comes : (a : List ℕ) (tid : ℕ) → Closes c r a tid asked outs r2 → (q2 : Readings) × Closes c q a tid asked outs q2
    close_comes a tid (closed some x) = let y = ends a tid _ x in (y.0, closed some y.1)
    close_comes a tid (not_closed unknown x) = (q, not_closed unknown (answers _ x))

    step_comes : (e : Event) → Step c r e asked outs r2 → (q2 : Readings) × Step c q e asked outs q2
    step_comes (event.Frame bytes) x = frame_comes bytes x
    step_comes (event.Tick n) x = tick_comes n x
    step_comes (event.Kick a reason) x = kick_comes a reason x
    step_comes (event.Close a tid) x = close_comes a tid x

-- two readings that say the same
pub record Same (r q : Readings) : Type 0 where
  pub standing : (a : List ℕ) → r.standing a ≡ q.standing a
  pub agreement : (a : List ℕ) (tid : ℕ) → SayTheSame (r.agreement a tid) (q.agreement a tid)
  pub clock : r.clock ≡ q.clock

pub same_step : (c : Rules) (r q r2 : Readings) (e : Event) (asked : List (Ask × ℕ)) (outs : List Out) → Same r q → Step c r e asked outs r2 → (q2 : Readings) × Step c q e asked outs q2
same_step c r q r2 e asked outs same step =
    let stands : r.standing ≡ q.standing = λ i a. same.standing a i in
    let is : r ≡ record { standing = q.standing; agreement = r.agreement; clock = q.clock } =
    ap (λ s. record { standing = s; agreement = r.agreement; clock = r.clock }) stands ∙ ap (λ k. record { standing = q.standing; agreement = r.agreement; clock = k }) same.clock in
    let P : Readings → Type 0 = λ x. Step c x e asked outs r2 in
    step_comes c q.standing q.clock r.agreement q.agreement same.agreement asked outs r2 e (subst P is step)
