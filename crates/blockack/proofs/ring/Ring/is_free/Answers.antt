use Rattle.std.proofs.Common.{◌%◌, ◌<◌, length, sym, ◌∙◌, rules}
use Rattle.blockack.proofs.SlotLaws.{read_is}
use Rattle.blockack.proofs.ReadingLaws.{none_is, none_of}
use Rattle.blockack.proofs.ring.Ring.is_free.Goals as goal

pub returns : goal.returns
returns g c =
    let within : c.args.number % 64 < length c.args.self.now.slots = search rules in
    let read = read_is c.args.self.now.slots (c.args.number % 64) c.index-self-number.result within c.index-self-number.is in (
      λ t. read ∙ c.index-self-number.is ∙ none_is _ c.is_none.result c.is_none.ensures t,
      λ x. none_of _ c.is_none.result c.is_none.ensures (sym (read ∙ c.index-self-number.is) ∙ x),
    )
