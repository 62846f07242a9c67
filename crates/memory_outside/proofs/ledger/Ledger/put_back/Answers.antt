-- What the search leaves open of `ledger::Ledger::put_back`.
use Rattle.std.proofs.Common.{arith, refl}
use Rattle.memory_outside.specs.Ledger.{state_of}
use Rattle.memory_outside.proofs.Rows.{AreRows-back, reported_back, out_within}
use Rattle.memory_outside.proofs.ledger.Ledger.put_back.Goals as goal

pub invariant_of-self : goal.invariant_of-self
invariant_of-self c =
    let e = c.set_back.ensures.row in
    let i = c.self.invariant in
    (rw e.2 (AreRows-back c.self.inside.names.items c.self.inside.rows.items c.args.number e.0 c.args.seen e.1 i.0), i.1, omega (arith, i.2, c.set_back.ensures.capacity))

pub returns-then-place-len : goal.returns-then-place-len
returns-then-place-len c =
    let e = c.set_back.ensures.row in
    rw (← c.self.view_is, e.2) (record {
      noted = reported_back c.self.inside.reports c.self.inside.names.items c.self.inside.rows.items c.args.number e.0 c.args.seen e.1;
      same_room = refl;
    })

pub returns-else-place-len : goal.returns-else-place-len
returns-else-place-len c =
    rw (← c.self.view_is) (record {
      noted = out_within c.self.inside.reports c.self.inside.names.items c.self.inside.rows.items c.args.number (rw (← c.self.view_is) at c.requires) (omega arith) (state_of c.args.seen);
      same_room = refl;
    })
