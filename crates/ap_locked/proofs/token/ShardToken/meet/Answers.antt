use Rattle.std.proofs.Common.{◌≡◌, ◌∷◌, [], ap, refl, sym, subst, List}
use mathlib.Core.List.{IsPrefix}
use Rattle.ap_core.specs.Handles.{rules}
use Rattle.ap_locked.specs.Pages.{Page, Signed, entries_of, first_page}
use Rattle.ap_locked.specs.Tokens.{AreHandled, KeepsOwn, Token}
use Rattle.ap_locked.proofs.Handled.{either_seen}
use Rattle.ap_locked.proofs.Meeting.{sees_more}
use Rattle.ap_locked.proofs.Signing.{entries_prefix}
use Rattle.ap_locked.proofs.token.ShardToken.meet.Goals as goal

pub invariant_of-self : goal.invariant_of-self
invariant_of-self g c =
    let rs = rules g.row.SHARD g.B.Journals.config in
    let mine = c.self.inside.pages in
    let now = c.meet.new.self in
    let met = c.meet.ensures in
    let handled : AreHandled rs (entries_of now.seen) = either_seen rs mine.seen c.other.inside.pages.seen now.seen met.one c.self.invariant.1.handled c.other.invariant.1.handled in
    (subst (λ (ps : List Page). ps ≡ first_page ps ∷ []) (sym met.pages.0) c.self.invariant.0, sees_more rs c.self.inside.shares c.self.inside.own mine now met.this met.pages.0 handled c.self.invariant.1)

pub invariant_of-other : goal.invariant_of-other
invariant_of-other g c =
    let rs = rules g.row.SHARD g.B.Journals.config in
    let theirs = c.other.inside.pages in
    let now = c.meet.new.other in
    let met = c.meet.ensures in
    let alike = sym met.alike in
    let both : AreHandled rs (entries_of c.meet.new.self.seen) = either_seen rs c.self.inside.pages.seen theirs.seen c.meet.new.self.seen met.one c.self.invariant.1.handled c.other.invariant.1.handled in
    let handled : AreHandled rs (entries_of now.seen) = subst (λ (es : List Signed). AreHandled rs (entries_of es)) alike both in
    let more : IsPrefix theirs.seen now.seen = subst (λ (es : List Signed). IsPrefix theirs.seen es) alike met.that in
    (subst (λ (ps : List Page). ps ≡ first_page ps ∷ []) (sym met.pages.1) c.other.invariant.0, sees_more rs c.other.inside.shares c.other.inside.own theirs now more met.pages.1 handled c.other.invariant.1)

pub returns-clause-this : goal.returns-clause-this
returns-clause-this g c =
    let met = c.meet.ensures in
    let seen = c.self.inside.pages.seen in
    let now : Token = record { portion = c.self.inside.shares; seen = entries_of c.meet.new.self.seen; own = c.self.inside.own; page = first_page c.meet.new.self.pages } in
    let keeps : KeepsOwn (record { portion = c.self.inside.shares; seen = entries_of seen; own = c.self.inside.own; page = first_page c.self.inside.pages.pages }) now = record {
      portion = refl;
      own = refl;
      page = ap first_page met.pages.0;
      seen = entries_prefix seen c.meet.new.self.seen met.this;
    } in
    subst (λ (t : Token). KeepsOwn t now) c.self.view_is keeps

pub returns-clause-that : goal.returns-clause-that
returns-clause-that g c =
    let met = c.meet.ensures in
    let seen = c.other.inside.pages.seen in
    let now : Token = record { portion = c.other.inside.shares; seen = entries_of c.meet.new.other.seen; own = c.other.inside.own; page = first_page c.meet.new.other.pages } in
    let keeps : KeepsOwn (record { portion = c.other.inside.shares; seen = entries_of seen; own = c.other.inside.own; page = first_page c.other.inside.pages.pages }) now = record {
      portion = refl;
      own = refl;
      page = ap first_page met.pages.1;
      seen = subst (λ (es : List Signed). IsPrefix (entries_of seen) (entries_of es)) (sym met.alike) (entries_prefix seen c.meet.new.self.seen met.that);
    } in
    subst (λ (t : Token). KeepsOwn t now) c.other.view_is keeps

pub returns-clause-token : goal.returns-clause-token
returns-clause-token g c =
    let rs = rules g.row.SHARD g.B.Journals.config in
    let mine = c.self.inside.pages in
    let now = c.meet.new.self in
    let met = c.meet.ensures in
    let handled : AreHandled rs (entries_of now.seen) = either_seen rs mine.seen c.other.inside.pages.seen now.seen met.one c.self.invariant.1.handled c.other.invariant.1.handled in
    sees_more rs c.self.inside.shares c.self.inside.own mine now met.this met.pages.0 handled c.self.invariant.1

pub returns-clause-other_token : goal.returns-clause-other_token
returns-clause-other_token g c =
    let rs = rules g.row.SHARD g.B.Journals.config in
    let theirs = c.other.inside.pages in
    let now = c.meet.new.other in
    let met = c.meet.ensures in
    let alike = sym met.alike in
    let both : AreHandled rs (entries_of c.meet.new.self.seen) = either_seen rs c.self.inside.pages.seen theirs.seen c.meet.new.self.seen met.one c.self.invariant.1.handled c.other.invariant.1.handled in
    let handled : AreHandled rs (entries_of now.seen) = subst (λ (es : List Signed). AreHandled rs (entries_of es)) alike both in
    let more : IsPrefix theirs.seen now.seen = subst (λ (es : List Signed). IsPrefix theirs.seen es) alike met.that in
    sees_more rs c.other.inside.shares c.other.inside.own theirs now more met.pages.1 handled c.other.invariant.1
