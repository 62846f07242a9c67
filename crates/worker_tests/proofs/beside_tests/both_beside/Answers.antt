-- What the search leaves open of `beside_tests::both_beside`.
use Rattle.std.proofs.Common.{◌≡◌, rules}
use denote.Param.Send.{sendable, param_send, arg_send}
use Rattle.worker_tests.proofs.beside_tests.both_beside.Goals as goal

pub join-requires-after_bounds : goal.join-requires-after_bounds
join-requires-after_bounds g c κs within =
    let b = c.type_bounds in
    ((c.requires.first, c.requires.count), ((c.requires.last, c.requires.reader, c.requires.count), search sendable))
