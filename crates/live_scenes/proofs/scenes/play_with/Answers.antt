use Rattle.live_scenes.proofs.scenes.play_with.Goals as goal

pub opened_to-requires-clause-left : goal.opened_to-requires-clause-left
opened_to-requires-clause-left g c κs within = c.in-Ok.ensures.rest

pub opened_to-requires-clause-all : goal.opened_to-requires-clause-all
opened_to-requires-clause-all g c κs within = c.in-Ok.ensures.queues

pub opened_to-requires-clause-parts : goal.opened_to-requires-clause-parts
opened_to-requires-clause-parts g c κs within = c.in-Ok.ensures.parts
