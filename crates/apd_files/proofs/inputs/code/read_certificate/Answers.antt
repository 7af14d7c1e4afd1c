use Rattle.std.proofs.Common.{◌^◌, arith}
use Rattle.std.proofs.lemmas.Result.{IfOk-weaker}
use Rattle.apd_files.proofs.Kept.{HoldsCode-decoded}
use Rattle.apd_files.proofs.inputs.code.read_certificate.Goals as goal

pub returns-clause-certificate : goal.returns-clause-certificate
returns-clause-certificate g c =
    IfOk-weaker c.bytes.result _ _ (λ bytes h. HoldsCode-decoded (2 ^ 27) _ _ bytes.items (omega arith) h) c.bytes.ensures.bytes
