-- What the right to add to a journal consists of.
use Rattle.std.specs.Prelude.{◌≡◌, ◌≤◌, ◌^◌, ℕ, Option, Some, None, IfSome}
use Rattle.logbook.specs.Pages.{Named, may_write}
use Rattle.logbook.specs.declared.tokens.Pen.{Pen}
use Rattle.ap_journal.specs.Turns.{word_of}

-- the number of the turn
abbrev pub turn_of : Option Pen → Option ℕ
turn_of None = None
turn_of (Some p) = Some p.nib.key

-- a turn in the word's journal, whose number is small
pub record IsTurn (w : Named) (p : Pen) : Type 0 where
  pub same_journal : p.book ≡ w.book
  pub right : p.nib.right ≡ may_write
  pub few : p.nib.key ≤ 2 ^ 61

-- the word counts the turns of a journal, and the turn, if there is one, is of that journal
pub record IsTurnOf (w : Named) (turn : Option Pen) : Type 0 where
  pub counts : w ≡ word_of w.book
  pub is : IfSome turn (IsTurn w)
