use Rattle.apd_run.proofs.Operated.{uses_as}
use Rattle.apd_run.proofs.access.operator.LiveOperatorOperatingLiveWorker.use_word.Goals as goal

pub returns-in-Store : goal.returns-in-Store
returns-in-Store g c = record { works = c.store.ensures.works; does = uses_as _ _ c.in-Store.is c.store.ensures.does; nothing = tt }

pub returns-in-Read : goal.returns-in-Read
returns-in-Read g c = record { works = c.read.ensures.works; does = uses_as _ _ c.in-Read.is c.read.ensures.does; nothing = c.read.ensures.nothing }

pub returns-in-Sum : goal.returns-in-Sum
returns-in-Sum g c = record { works = c.sum.ensures.works; does = uses_as _ _ c.in-Sum.is c.sum.ensures.does; nothing = c.sum.ensures.nothing }
