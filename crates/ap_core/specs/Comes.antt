-- How frames are handled, with the judge's verdicts.
use Rattle.std.specs.Prelude.{ℕ, List}
use Rattle.mac_frame.specs.Spelling.{Frame}
use Rattle.mac_frame.specs.declared.content.Management.{Management}
use Rattle.ap_model.specs.declared.event.Out.{Out}
use Rattle.ap_model.specs.Asks.{Ask, Handled}
use Rattle.ap_model.specs.Agreements.{SetsUp}
use Rattle.ap_model.specs.Steps.{ManagementComes}
use Rattle.ap_core.specs.declared.setups.SetupRequest.{SetupRequest}
use Rattle.ap_core.specs.declared.state.Setting.{Setting}
use Rattle.ap_core.specs.declared.state.State.{State}
use Rattle.ap_core.specs.Handles.{reading, ruled_by, sender, setup}

-- a management frame is handled
abbrev pub HandlesManagement : {S : Type 0} → (S → Ask → ℕ → S → Type 0) → Setting → State → Frame → Management → S → List Out → State → S → Type 0
HandlesManagement R setting s f body j outs s2 j2 =
    Handled R (λ asks outs. ManagementComes (ruled_by setting s) (reading s) f body asks outs (reading s2)) j outs j2

-- an ADDBA request is handled
abbrev pub HandlesSetup : {S : Type 0} → (S → Ask → ℕ → S → Type 0) → Setting → State → SetupRequest → S → List Out → State → S → Type 0
HandlesSetup R setting s request j outs s2 j2 =
    Handled R (λ asks outs. SetsUp (ruled_by setting s) (reading s) (sender request.came.now) (setup request) asks outs (reading s2)) j outs j2
