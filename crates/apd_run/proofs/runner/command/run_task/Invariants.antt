use Rattle.apd_run.specs.Opening.{names_of, journals_of}
use Rattle.apd_run.proofs.runner.command.run_task.Given as goal

-- the ledgers and the journals of the shards that are new, and the configuration of the settings
abbrev pub ghosts-run_live-B-Ledgers : goal.ghosts-run_live-B-Ledgers
ghosts-run_live-B-Ledgers g a = record { name_of = names_of a.opening.new; shares = 17 }

abbrev pub ghosts-run_live-B-Journals : goal.ghosts-run_live-B-Journals
ghosts-run_live-B-Journals g a = record { journal_of = journals_of a.opening.new; config = a.opening.settings.link }
