-- Frames other than data, whose queries never drop data.
use Rattle.std.proofs.Common.{◌≡◌, ℕ, Bool, true, false, List, [], sym, ap}
use Rattle.mac_frame.specs.declared.content.Management.{Management}
use Rattle.mac_frame.specs.declared.content.Management.TheVariants as management
use Rattle.mac_frame.specs.Spelling.{Frame}
use Rattle.ap_model.specs.declared.event.Out.{Out}
use Rattle.ap_model.specs.Asks.{Ask, Handled}
use Rattle.ap_model.specs.Drops.{drops}
use Rattle.ap_model.specs.Readings.{Readings, Rules}
use Rattle.ap_model.specs.Associations.{Request, Authenticates, accepts, refuses, Associates, unsuited, elsewhere, exhausted, admitted, refused}
use Rattle.ap_model.specs.Agreements.{Setup, SetsUp, delayed, declined, granted}
use Rattle.ap_model.specs.Steps.{ManagementComes, DelbaComes}
use Rattle.ap_core.specs.Telling.{Tells}
use Rattle.ap_core.proofs.Handling.{told_undropped}

-- without queries
unasked : (asked : List (Ask × ℕ)) → asked ≡ [] → false ≡ drops asked
unasked asked e = ap drops (sym e)

module _ (c : Rules) (r r2 : Readings) (asked : List (Ask × ℕ)) (outs : List Out) where
  of_authentication : (a : List ℕ) (algorithm transaction : ℕ) → Authenticates c r a algorithm transaction asked outs r2 → false ≡ drops asked
  of_authentication a algorithm transaction (accepts status settles moves) = unasked asked settles.silent
  of_authentication a algorithm transaction (refuses status ne is answers) = unasked asked answers.settles.silent

  of_association : (a : List ℕ) (q : Request) → Associates c r a q asked outs r2 → false ≡ drops asked
  of_association a q (unsuited not answers) = unasked asked answers.settles.silent
  of_association a q (elsewhere suits not answers) = unasked asked answers.settles.silent
  of_association a q (exhausted suits names none answers) = unasked asked answers.settles.silent
  of_association a q (admitted verdict suits names admits) = ap drops (sym admits.asks)
  of_association a q (refused verdict suits names refusal) = ap drops (sym refusal.asks)

  of_setup : (a : List ℕ) (s : Setup) → SetsUp c r a s asked outs r2 → false ≡ drops asked
  of_setup a s (delayed policy answers) = unasked asked answers.settles.silent
  of_setup a s (declined verdict policy declines) = ap drops (sym declines.asks)
  of_setup a s (granted verdict policy grants) = ap drops (sym grants.asks)

  of_delba : (a : List ℕ) (initiator : Bool) (tid : ℕ) → DelbaComes c r a initiator tid asked outs r2 → false ≡ drops asked
  of_delba a true tid h = unasked asked h.settles.silent
  of_delba a false tid h = unasked asked h.settles.silent

  of_management : (f : Frame) (body : Management) → ManagementComes c r f body asked outs r2 → false ≡ drops asked
  of_management f (management.Authentication algorithm transaction status) h = of_authentication f.sender algorithm transaction h
  of_management f (management.AssociationRequest capability interval) h = of_association f.sender _ h
  of_management f (management.ReassociationRequest capability interval current) h = of_association f.sender _ h
  of_management f (management.Disassociation reason) h = unasked asked h.settles.silent
  of_management f (management.Deauthentication reason) h = unasked asked h.settles.silent
  of_management f (management.AddbaRequest token parameters timeout start) h = of_setup f.sender _ h
  of_management f (management.Delba parameters reason) h = of_delba f.sender parameters.initiator parameters.tid h
  of_management f (management.AssociationResponse capability status aid) h = unasked asked h.settles.silent
  of_management f (management.ReassociationResponse capability status aid) h = unasked asked h.settles.silent
  of_management f (management.AddbaResponse token status parameters timeout) h = unasked asked h.settles.silent

-- a management frame drops no data
pub management_told : {S : Type 0} (R : S → Ask → ℕ → S → Type 0) (c : Rules) (r r2 : Readings) (f : Frame) (body : Management) (j j2 : S) (outs : List Out) →
    Handled R (λ asked outs. ManagementComes c r f body asked outs r2) j outs j2 → Tells R (λ asked outs. ManagementComes c r f body asked outs r2) j outs false j2
management_told R c r r2 f body j j2 outs h =
    told_undropped R (λ asked outs. ManagementComes c r f body asked outs r2) j outs j2 (λ asked x. of_management c r r2 asked outs f body x) h
