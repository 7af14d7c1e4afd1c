-- What the grammar says of a frame's tail.
use Rattle.std.proofs.Common.{◌≡◌, ℕ, true, false, List}
use Rattle.mac_frame.specs.declared.content.Management.{Management}
use Rattle.mac_frame.specs.declared.content.Management.TheVariants as management
use Rattle.mac_frame.specs.Elements.{AreElements}
use Rattle.mac_frame.specs.Spelling.{IsManagementTail}
use Rattle.mac_frame.specs.Frames.{has_elements}

differs : false ≡ true → ⊥
differs e = cc

pub tail_elements : (body : Management) (tail : List ℕ) → has_elements body ≡ true → IsManagementTail body tail → AreElements tail
tail_elements (management.AssociationRequest capability interval) tail e fits = fits.spelled
tail_elements (management.AssociationResponse capability status aid) tail e fits = fits.spelled
tail_elements (management.ReassociationRequest capability interval current) tail e fits = fits.spelled
tail_elements (management.ReassociationResponse capability status aid) tail e fits = fits.spelled
tail_elements (management.Disassociation reason) tail e fits = absurd (differs e)
tail_elements (management.Authentication algorithm transaction status) tail e fits = absurd (differs e)
tail_elements (management.Deauthentication reason) tail e fits = absurd (differs e)
tail_elements (management.AddbaRequest token parameters timeout start) tail e fits = absurd (differs e)
tail_elements (management.AddbaResponse token status parameters timeout) tail e fits = absurd (differs e)
tail_elements (management.Delba parameters reason) tail e fits = absurd (differs e)
