-- What the lines of a script ask of the operator.
use Rattle.std.specs.Prelude.{Bool, true, false}
use Rattle.ap_model.specs.declared.event.Event.TheVariants as event
use Rattle.apd_script.specs.Digits.{bytes_of}
use Rattle.apd_script.specs.declared.command.Command.{Command}
use Rattle.apd_script.specs.declared.command.Command.TheVariants as command
use Rattle.apd_driver.specs.declared.actions.Action.{Action}
use Rattle.apd_driver.specs.declared.actions.Action.TheVariants.{Submit, Publish, UseWord, Wait}
use Rattle.apd_driver.specs.declared.actions.Publication.TheVariants as publication
use Rattle.apd_driver.specs.declared.actions.WordUse.TheVariants as used

-- an event, a change of a hook's program, a use of a word, or a wait
abbrev pub action_of : Command → Action
action_of (command.Frame text) = Submit (event.Frame (bytes_of text.digits.now))
action_of (command.Tick units) = Submit (event.Tick units)
action_of (command.Kick station reason) = Submit (event.Kick station reason)
action_of (command.Close station tid) = Submit (event.Close station tid)
action_of (command.Load hook path) = Publish (publication.Load hook path)
action_of (command.Adopt hook path certificate) = Publish (publication.Adopt hook path certificate)
action_of (command.Unload hook) = Publish (publication.Unload hook)
action_of (command.Store word value) = UseWord (used.Store word value)
action_of (command.Read word) = UseWord (used.Read word)
action_of (command.Sum word) = UseWord (used.Sum word)
action_of command.Wait = Wait

-- whether it waits until everything before it is handled
abbrev pub waits : Action → Bool
waits (Submit _) = false
waits (Publish _) = false
waits (UseWord _) = false
waits Wait = true
