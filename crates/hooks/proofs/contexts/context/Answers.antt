use Rattle.std.proofs.Common.{◌≡◌, length, ap, ◌∙◌}
use Rattle.hooks.proofs.Bytes.{laid_out}
use Rattle.hooks.proofs.contexts.context.Goals as goal

pub returns : goal.returns
returns c =
    let six : length c.octets.result ≡ 6 = ap length c.octets.ensures.octets ∙ c.octets.ensures.fits in
    let e = laid_out c.octets.result c.to_le_bytes.result c.to_le_bytes-2.result c.to_le_bytes-3.result c.to_le_bytes-4.result
    c.number.result c.state_of.result c.args.told.tid c.aid_of.result c.args.told.first c.args.told.second c.args.told.third
    six c.to_le_bytes.ensures c.to_le_bytes-2.ensures c.to_le_bytes-3.ensures c.to_le_bytes-4.ensures in
    let o = c.octets.ensures.octets in
    let n = c.number.ensures.is in
    let s = c.state_of.ensures in
    let a = c.aid_of.ensures in
    c.new.ensures.is ∙ e ∙ cc
