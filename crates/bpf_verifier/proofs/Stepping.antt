-- What an exploration has found after a step.
use Rattle.std.proofs.Common.{◌≡◌, ◌≤◌, ◌+◌, ℕ, List, [], ◌∷◌, ◌++◌, Option, None, Some, IfSome, refl, arith}
use Rattle.bpf_insn.specs.declared.insn.Insn.{Insn}
use Rattle.bpf_decode.specs.Program.{Code}
use Rattle.bpf_model.specs.State.{Setting}
use Rattle.bpf_absstate.specs.View.{View}
use Rattle.bpf_absstate.proofs.Kept.{inclusion_keeps}
use Rattle.bpf_rules.specs.Covers.{IsSetting, Covers}
use Rattle.bpf_rules.specs.declared.ways.Ways.{Ways}
use Rattle.bpf_rules.specs.declared.ways.Ways.TheVariants.{Nowhere, One, Two}
use Rattle.bpf_plain.specs.Clear.{IsClear}
use Rattle.bpf_plain.specs.Paths.{Reaches}
use Rattle.bpf_plain.specs.Standing.{EachWay, Stands, IsNextOf}
use Rattle.bpf_plain.specs.Walks.{IsPlain}
use Rattle.bpf_plain.proofs.Standing.{ways_stand}
use Rattle.bpf_plain.proofs.Following.{ways_follow}
use Rattle.bpf_plain.proofs.Graph.{Reaches-one}
use Rattle.bpf_prune.specs.Covering.{Covers as IsCovered, kept_at}
use Rattle.bpf_verifier.specs.declared.exploration.Exploration.{Exploration}
use Rattle.bpf_verifier.specs.declared.exploration.Unwound.{Unwound}
use Rattle.bpf_verifier.specs.declared.exploration.Unwound.TheVariants.{Onward}
use Rattle.bpf_verifier.specs.declared.frame.Frame.{Frame}
use Rattle.bpf_verifier.specs.Clear.{IsClearWay, AreClear}
use Rattle.bpf_verifier.specs.Found.{IsCountedSoFar, IsPaidSoFar, IsBegunSoFar, IsTracedAfter, IsSafeSoFar, IsSafeAfter, IsWalkedSoFar, IsWalkedAfter, IsClearSoFar, IsClearAfter, IsExamining, IsExamined, HasStepped}
use Rattle.bpf_verifier.specs.Path.{IsBegun, IsKept, StandsIn}
use Rattle.bpf_verifier.specs.Safety.{AllSafe, LeadsSafely, IsExplored}
use Rattle.bpf_verifier.specs.Traced.{IsOpened, AreOpen}
use Rattle.bpf_verifier.specs.Walked.{LeadsBySlots, IsWalked}
use Rattle.bpf_verifier.proofs.Clears.{AreClear-le, AreClear-push, clear_some, opened}
use Rattle.bpf_verifier.proofs.Counts.{Counted-frame, weight_frame}
use Rattle.bpf_verifier.proofs.Covered.{covered_safe, covered_walked}
use Rattle.bpf_verifier.proofs.Examining.{examined_covers}
use Rattle.bpf_verifier.proofs.Explored as explored
use Rattle.bpf_verifier.proofs.Paths.{AreBegun-push, Linked-push, Linked-on, of_own}
use Rattle.bpf_verifier.proofs.Tables.{kept}
use Rattle.bpf_verifier.proofs.Tracing as tracing
use Rattle.bpf_verifier.proofs.Walking as walking

-- the state that is kept is that state
the_state : (o : Option View) (a : View) (P : View → Type 0) → IfSome o (λ x. (x ≡ a) × P x) → IfSome o (λ x. x ≡ a)
the_state None a P h = tt
the_state (Some x) a P h = h.0

-- what going back to the newest pending successor gives, once a state is finished with a budget
pub record HasUnwound (c : Code) (done : ℕ) (old new : Exploration) (u : Unwound) : Type 0 where
  pub traced : IsTracedAfter c new u
  pub counted : IsCountedSoFar new
  pub paid : IsPaidSoFar new u
  pub begun : (slots : List (Option Insn)) → IsBegunSoFar slots old → IsBegunSoFar slots new × IsBegun slots u
  pub safe : (p : Setting) (start a : View) → IsSafeSoFar p start a old → AllSafe p done a → IsSafeAfter p start new u
  pub walked : (slots : List (Option Insn)) (start a : View) → IsWalkedSoFar slots start a old → Reaches slots a.pc done → IsWalkedAfter slots start new u
  pub clear : (d : Code) (n : ℕ) → IsClearSoFar d n old → IsClearAfter d n new u

module _ (c : Code) (own : View) where
  -- the successors that an examination finds cover what comes next
  ways_cover : (w : Ways) (o : Option View) (p : Setting) → IsSetting c p → IsExamined c own w o → Covers p own w
  ways_cover w o p set h = examined_covers h.has.insn c p own w h.whole set h.has.at h.has.examined

  each_stands : (w : Ways) (o : Option View) → IsExamined c own w o → EachWay w (Stands c.slots)
  each_stands w o h = ways_stand c h.has.insn own w h.whole h.has.at h.stands.0 h.has.examined

  each_follows : (w : Ways) (o : Option View) → IsPlain c.slots → IsExamined c own w o → EachWay w (IsNextOf c.slots own.pc)
  each_follows w o plain h = ways_follow c h.has.insn own w h.whole plain h.has.at (h.stands.1 plain) h.has.examined

  reaches_exit : (w : Ways) (o : Option View) → IsPlain c.slots → IsExamined c own w o → Reaches c.slots own.pc 1
  reaches_exit w o plain h = Reaches-one c h.whole plain own.pc h.stands.0.begins

  fewer : (fs : List Frame) (l m n : ℕ) → IsClear c own l → AreClear c fs m → l + m ≤ n + 1 → AreClear c fs n
  fewer fs l m n state others le = let some = clear_some c own l state in AreClear-le c fs m n (omega (arith, some, le)) others

  -- a finished state includes the state: the exploration goes back
  pub covers_step : (budget : ℕ) (old new : Exploration) (u : Unwound) → IsCovered (kept_at old.finished own.pc) own budget → HasUnwound c budget old new u → HasStepped c own old new u
  covers_step budget old new u covers h = record {
    traced = h.traced;
    counted = h.counted;
    paid = h.paid;
    begun = λ begun. h.begun c.slots begun;
    safe = λ p start set so. h.safe p start own so (covered_safe inclusion_keeps p old.finished own budget so.1 covers);
    walked = λ start plain so. h.walked c.slots start own so (covered_walked c.slots old.finished own budget so.1 covers);
    clear = λ l m n state others le. h.clear c n (fewer old.path l m n state others le);
  }

  -- the state has no successors: it is finished, and the exploration goes back
  pub ends_step : (o : Option View) (old mid new : Exploration) (u : Unwound) → mid.path ≡ old.path → mid.after ≡ old.after → IsKept old.finished mid.finished o 1 → IsExamined c own Nowhere o → HasUnwound c 1 mid new u →
      HasStepped c own old new u
  ends_step o old mid new u path after is found h =
      let same : IfSome o (λ x. x ≡ own) = the_state o own _ found.state.elsewhere in
      record {
        traced = h.traced;
        counted = h.counted;
        paid = h.paid;
        begun = λ begun. h.begun c.slots (rw path begun);
        safe = λ p start set so.
            let done : AllSafe p 1 own = explored.leaf_done p own (ways_cover Nowhere o p set found) in
            h.safe p start own (rw (path, after) so.0, kept (λ x. AllSafe p x.budget x.state) old.finished mid.finished o 1 is so.1 (of_own (AllSafe p 1) o own same done)) done;
        walked = λ start plain so.
            let done : Reaches c.slots own.pc 1 = reaches_exit Nowhere o plain found in
            h.walked c.slots start own (rw (path, after) so.0, kept (λ x. Reaches c.slots x.state.pc x.budget) old.finished mid.finished o 1 is so.1 (of_own (λ x. Reaches c.slots x.pc 1) o own same done)) done;
        clear = λ l m n state others le. h.clear c n (rw path (fewer old.path l m n state others le));
      }

  -- one successor, which is next, and the state isn't kept
  pub goes_step : (next : View) (o : Option View) (old new : Exploration) → new.path ≡ old.path → new.after ≡ old.after + 1 → new.finished ≡ old.finished → new.visits ≡ old.visits → IsExamining c own old →
      IsExamined c own (One next) o → HasStepped c own old new (Onward next)
  goes_step next o old new path after finished visits at found = record {
    traced = rw (path, after) (tracing.goes_along c old.path old.after own next found.has at.traced);
    counted = rw (path, after, finished, visits) at.counted;
    paid = rw (path, after, visits) at.paid;
    begun = λ begun. (rw path begun, (each_stands (One next) o found, λ plain. (each_follows (One next) o plain found).main));
    safe = λ p start set so.
        let covers = ways_cover (One next) o p set found in
        (rw (path, after) (Linked-on (LeadsSafely p) (IsExplored p) old.path old.after start own next (λ x k. explored.leads_on p own next x k covers) so.0), rw finished so.1);
    walked = λ start plain so.
        let follows = (each_follows (One next) o plain found).follows in
        (rw (path, after) (Linked-on (LeadsBySlots c.slots) (IsWalked c.slots) old.path old.after start own next (λ x k. walking.leads_on c.slots own next x k follows) so.0), rw finished so.1);
    clear = λ l m n state others le.
        let ways = opened c own l found.has.insn (One next) found.has.at found.has.examined state in
        (ways.0, m, ways.1, rw path others, omega (arith, ways.2, le));
  }

  -- the frame of the state, with the successor that is pending
  abbrev pub frame_of : Exploration → Option View → Option View → Frame
  frame_of old o pending = record { before = old.after; state = o; pending = pending; best = 0 }

  -- what remains to be shown of a frame
  record IsFramed (w : Ways) (next : View) (f : Frame) : Type 0 where
    leads : AreOpen f.pending next w
    stands : StandsIn c.slots next
    begun : IfSome f.pending (StandsIn c.slots)
    explored : (p : Setting) → IsSetting c p → IsExplored p f own next
    walked : IsPlain c.slots → IsWalked c.slots f own next
    clear : (l : ℕ) → IsClear c own l → (j k : ℕ) × IsClear c next j × IsClearWay c f.pending k × (1 + (j + k) ≤ l)

  -- a frame is pushed, and its first successor is next
  framed : (w : Ways) (next : View) (o pending : Option View) (old new : Exploration) → new.path ≡ old.path ++ frame_of old o pending ∷ [] → new.after ≡ 0 → new.finished ≡ old.finished → new.visits ≡ old.visits →
      IsExamining c own old → IsExamined c own w o → IsFramed w next (frame_of old o pending) → HasStepped c own old new (Onward next)
  framed w next o pending old new path after finished visits at found h =
      let f : Frame = frame_of old o pending in
      let same : IfSome o (λ x. x ≡ own) = the_state o own _ found.state.elsewhere in
      let opens : IsOpened c f own next = record { ways = w; has = found.has; state = found.state; leads = h.leads } in
      record {
        traced = rw (path, after) (tracing.goes_on c old.path f old.after own next refl same opens at.traced);
        counted = rw (after, finished, visits) (Counted-frame old.path new.path f old.after old.finished old.visits path refl refl at.counted at.paid);
        paid = rw (path, after, visits) (weight_frame old.path f old.after old.visits refl at.paid);
        begun = λ begun. (rw path (AreBegun-push c.slots old.path f begun h.begun), h.stands);
        safe = λ p start set so.
            (rw (path, after) (Linked-push (LeadsSafely p) (IsExplored p) old.path f start own next so.0 same (h.explored p set) (explored.stays p next)), rw finished so.1);
        walked = λ start plain so.
            (rw (path, after) (Linked-push (LeadsBySlots c.slots) (IsWalked c.slots) old.path f start own next so.0 same (h.walked plain) (walking.stays c.slots next)), rw finished so.1);
        clear = λ l m n state others le.
            let ways = h.clear l state in
            (ways.0, m + ways.1, ways.2, rw path (AreClear-push c old.path f m ways.1 others ways.3), omega (arith, ways.4, le));
      }

  -- one successor, and the state is kept
  pub one_opens : (next : View) (o : Option View) (old new : Exploration) → new.path ≡ old.path ++ frame_of old o None ∷ [] → new.after ≡ 0 → new.finished ≡ old.finished → new.visits ≡ old.visits → IsExamining c own old →
      IsExamined c own (One next) o → HasStepped c own old new (Onward next)
  one_opens next o old new path after finished visits at found =
      let f : Frame = frame_of old o None in
      framed (One next) next o None old new path after finished visits at found (record {
        leads = refl;
        stands = (each_stands (One next) o found, λ plain. (each_follows (One next) o plain found).main);
        begun = tt;
        explored = λ p set. explored.opens_one p f own next refl (ways_cover (One next) o p set found);
        walked = λ plain. record { follows = (each_follows (One next) o plain found).follows; pending = tt; best = reaches_exit (One next) o plain found };
        clear = λ l state.
            let ways = opened c own l found.has.insn (One next) found.has.at found.has.examined state in
            (ways.0, 0, ways.1, tt, omega (arith, ways.2));
      })

  -- two successors, of which the second is pending
  pub two_open : (next second : View) (o : Option View) (old new : Exploration) → new.path ≡ old.path ++ frame_of old o (Some second) ∷ [] → new.after ≡ 0 → new.finished ≡ old.finished → new.visits ≡ old.visits → IsExamining c own old →
      IsExamined c own (Two next second) o → HasStepped c own old new (Onward next)
  two_open next second o old new path after finished visits at found =
      let f : Frame = frame_of old o (Some second) in
      let stand = each_stands (Two next second) o found in
      framed (Two next second) next o (Some second) old new path after finished visits at found (record {
        leads = (refl, refl);
        stands = (stand.0, λ plain. (each_follows (Two next second) o plain found).0.main);
        begun = (stand.1, λ plain. (each_follows (Two next second) o plain found).1.main);
        explored = λ p set. explored.opens_two p f own next second refl (ways_cover (Two next second) o p set found);
        walked = λ plain.
            let follow = each_follows (Two next second) o plain found in
            record { follows = follow.0.follows; pending = follow.1.follows; best = reaches_exit (Two next second) o plain found };
        clear = λ l state.
            let ways = opened c own l found.has.insn (Two next second) found.has.at found.has.examined state in
            (ways.0, ways.1, ways.2, ways.3, omega (arith, ways.4));
      })
