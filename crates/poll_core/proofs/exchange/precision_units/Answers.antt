-- What the search leaves open of `exchange::precision_units`.
use Rattle.std.proofs.Common.{◌≤◌, ◌^◌, arith}
use Rattle.poll_core.proofs.Lengths.{power-most}
use Rattle.poll_core.proofs.exchange.precision_units.Goals as goal

pub returns-clause-most : goal.returns-clause-most
returns-clause-most c =
    let within : 2 ^ c.min.result ≤ 2 ^ 36 = power-most c.min.result 36 (omega arith) in
    omega arith
