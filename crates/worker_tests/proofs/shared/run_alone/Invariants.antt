-- What the hub's name stands for in `shared::run_alone`.
use Rattle.worker_tests.proofs.shared.run_alone.Given as goal

abbrev pub ghosts-in_hub : goal.ghosts-in_hub
ghosts-in_hub g a = record { table = a.parts.cell.table; limit = a.limit; settings = a.settings.now }
