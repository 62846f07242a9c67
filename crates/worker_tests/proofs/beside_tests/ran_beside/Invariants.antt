-- What the hub's name stands for in `beside_tests::ran_beside`.
use Rattle.worker_tests.proofs.beside_tests.ran_beside.Given as goal

abbrev pub ghosts-side_by_side : goal.ghosts-side_by_side
ghosts-side_by_side g a = record { table = a.parts.cell.table; limit = a.limit; settings = a.settings.now }
