use Rattle.apd_run.proofs.Operated.{publishes_as}
use Rattle.apd_run.proofs.access.operator.LiveOperatorOperatingLiveWorker.publish.Goals as goal

pub returns-in-Load : goal.returns-in-Load
returns-in-Load g c = record { works = c.load.ensures.works; does = publishes_as _ _ c.in-Load.is c.load.ensures.does; nothing = c.load.ensures.nothing }

pub returns-in-Adopt : goal.returns-in-Adopt
returns-in-Adopt g c = record { works = c.adopt.ensures.works; does = publishes_as _ _ c.in-Adopt.is c.adopt.ensures.does; nothing = c.adopt.ensures.nothing }

pub returns-in-Unload : goal.returns-in-Unload
returns-in-Unload g c = record { works = c.unload.ensures.works; does = publishes_as _ _ c.in-Unload.is c.unload.ensures.does; nothing = c.unload.ensures.nothing }
