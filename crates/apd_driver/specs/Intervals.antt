-- The intervals of a script.
use Rattle.std.specs.Prelude.{List, [], ◌∷◌, Bool, if◌then◌else◌}
use Rattle.apd_script.specs.declared.command.Command.{Command}
use Rattle.apd_script.specs.declared.command.Numbered.{Numbered}
use Rattle.apd_driver.specs.Actions.{action_of, waits}

-- whether a command waits until everything before it is handled
abbrev pub is_wait : Command → Bool
is_wait command = waits (action_of command)

-- the commands after the first `wait`
abbrev pub after_wait : List Numbered → List Numbered
after_wait [] = []
after_wait (n ∷ ns) = if is_wait n.command then ns else after_wait ns
