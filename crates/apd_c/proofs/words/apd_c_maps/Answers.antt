use Rattle.apd_c.proofs.words.apd_c_maps.Goals as goal

pub returns-in-Ok-clause-made : goal.returns-in-Ok-clause-made
returns-in-Ok-clause-made c = λ done. (c.in-Ok.words, c.fill_maps.ensures.filled done, c.in-Ok.ensures.ok.0, c.in-Ok.ensures.ok.1)
