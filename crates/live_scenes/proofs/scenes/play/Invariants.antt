use Rattle.ap_shards.specs.Opening.{names_of, journals_of}
use Rattle.live_scenes.proofs.scenes.play.Given as goal

-- the ledgers and journals of the new shards, and the configuration of the settings
abbrev pub ghosts-play_with-B-Ledgers : goal.ghosts-play_with-B-Ledgers
ghosts-play_with-B-Ledgers g a = record { name_of = names_of a.new; shares = 17 }

abbrev pub ghosts-play_with-B-Journals : goal.ghosts-play_with-B-Journals
ghosts-play_with-B-Journals g a = record { journal_of = journals_of a.new; config = a.settings.link }
