-- What the hub's name stands for in `journal_tests::four_appends`.
use Rattle.worker_tests.proofs.journal_tests.four_appends.Given as goal

abbrev pub ghosts-in_turn : goal.ghosts-in_turn
ghosts-in_turn g a = record { table = a.parts.cell.table; limit = a.limit; settings = a.settings.now }
