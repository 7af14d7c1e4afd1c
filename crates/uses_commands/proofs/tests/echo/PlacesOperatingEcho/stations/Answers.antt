use Rattle.std.proofs.Common.{refl}
use Rattle.apd_driver.proofs.Looks.{looks_none}
use Rattle.uses_commands.proofs.tests.echo.PlacesOperatingEcho.stations.Goals as goal

pub returns-clause-looks : goal.returns-clause-looks
returns-clause-looks g c = looks_none _ _ refl
