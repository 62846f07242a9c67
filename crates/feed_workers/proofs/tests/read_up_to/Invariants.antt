-- What the hub's name stands for in `tests::read_up_to`.
use Rattle.feed_workers.proofs.tests.read_up_to.Given as goal

abbrev pub ghosts-run_log : goal.ghosts-run_log
ghosts-run_log g a = record { table = a.parts.cell.table; limit = a.limit; settings = a.settings.now }
