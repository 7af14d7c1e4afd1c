use Rattle.std.proofs.Common.{rules, ◌≡◌, ◌%◌, length}
use Rattle.apd_files.proofs.Kept.{HasDecoded-collected}
use Rattle.apd_files.proofs.inputs.code.bytes.Goals as goal

pub returns-in-Ok-clause-bytes : goal.returns-in-Ok-clause-bytes
returns-in-Ok-clause-bytes g c =
    let even : length c.in_ok-digits.digits.items % 2 ≡ 0 = search rules in
    HasDecoded-collected c.args.kind c.args.most (g.F.Files.held c.args.files.now) c.args.path.now c.in_ok-digits.digits.items c.in-Ok.bytes.items even c.in-Ok.ensures.ok c.in_ok-digits.ensures.digits
