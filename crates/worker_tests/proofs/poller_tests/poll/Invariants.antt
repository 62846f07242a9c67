-- What the hub's name stands for in `poller_tests::poll`.
use Rattle.worker_tests.proofs.poller_tests.poll.Given as goal

abbrev pub ghosts-poll_in_hub : goal.ghosts-poll_in_hub
ghosts-poll_in_hub g a = record { table = a.parts.cell.table; limit = a.limit; settings = a.settings.now }
