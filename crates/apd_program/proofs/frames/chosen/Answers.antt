use Rattle.std.proofs.Common.{rules, Bool, List, ℕ, sym, subst}
use Rattle.std.specs.Result.{IfErr}
use Rattle.std.proofs.lemmas.Result.{IfErr-weaker}
use Rattle.apd_words.specs.Asked.{text_of}
use Rattle.apd_program.specs.Faults.{IsMemoryOr}
use Rattle.apd_program.specs.Scripts.{IsAddress, IsChoice, AllChosen}
use Rattle.apd_program.specs.declared.frames.Choice.TheVariants as choice
use Rattle.apd_program.proofs.Scripted.{chosen_given, chosen_only, no_address}
use Rattle.apd_program.proofs.frames.chosen.Goals as goal

pub returns-then-asked-clause-choice : goal.returns-then-asked-clause-choice
returns-then-asked-clause-choice c =
    let P : Bool → Type 0 = λ all. IsChoice (text_of c.args.asked.bssid) all choice.All in subst P (sym c.if-asked.true) (AllChosen (text_of c.args.asked.bssid))

pub returns-in_err-address-in-Some-clause-fault : goal.returns-in_err-address-in-Some-clause-fault
returns-in_err-address-in-Some-clause-fault c = λ files.
    let bad : IfErr c.from_residual.result (IsMemoryOr ((a : List ℕ) → IsAddress c.in-Some.word.now a → ⊥)) = search rules in
    IfErr-weaker c.from_residual.result _ _ (λ e h. no_address files c.args.asked.capture.now c.args.asked.bssid c.args.asked.all c.in-Some.word e c.in-Some.is h) bad

pub returns-in_ok-address-in-Some-clause-choice : goal.returns-in_ok-address-in-Some-clause-choice
returns-in_ok-address-in-Some-clause-choice c = chosen_given c.args.asked.bssid c.args.asked.all c.in-Some.word _ c.in-Some.is c.if-asked.false c.in_ok-address-in-Some.ensures.address

pub returns-in-None-clause-choice : goal.returns-in-None-clause-choice
returns-in-None-clause-choice c = chosen_only c.args.asked.bssid c.args.asked.all c.in-None.is c.if-asked.false
