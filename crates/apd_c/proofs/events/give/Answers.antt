use Rattle.apd_c.proofs.events.give.Goals as goal

pub returns-in-Frame-clause-led : goal.returns-in-Frame-clause-led
returns-in-Frame-clause-led c = rw c.in-Frame.is c.receive.ensures.led

pub returns-in-Other-clause-led : goal.returns-in-Other-clause-led
returns-in-Other-clause-led c = rw c.in-Other.is c.handle.ensures.led
