-- What the search leaves open of `radio::receive_piece`.
use Rattle.std.proofs.Common.{rules}
use Rattle.feed_workers.proofs.LogLaws.{received_all, received_on, missed, none_left}
use Rattle.feed_workers.proofs.radio.receive_piece.Goals as goal

pub returns-in-Some-clause-heard : goal.returns-in-Some-clause-heard
returns-in-Some-clause-heard g c = λ tuning begun bytes h.
    let so_far = c.rest.invariant.so_far tuning begun bytes h in
    let t = c.take_line-took in
    missed _ c.rest.decoder t.new.decoder tuning _ _ _ c.rest.rest.now t.result.count c.in-Some.line so_far t.result.found (t.ensures.heard tuning begun so_far.prefix so_far.heard) c.in-Some.is

pub returns-clause-heard : goal.returns-clause-heard
returns-clause-heard g c = λ tuning begun bytes h.
    received_all _ c.rest.decoder tuning _ _ c.rest.rest.now (c.rest.invariant.so_far tuning begun bytes h) (none_left c.rest.rest.now c.rest-test.ensures)

pub rest-preserved : goal.rest-preserved
rest-preserved g c =
    let t = c.take_line-took in
    record {
      ready = t.ensures.ready;
      feed = search rules;
      pass = search rules;
      so_far = λ tuning begun bytes h.
          let so_far = c.rest.invariant.so_far tuning begun bytes h in
          rw c.split_at.ensures.back (received_on _ c.rest.decoder t.new.decoder tuning _ _ _ c.rest.rest.now t.result.count so_far t.result.found (t.ensures.heard tuning begun so_far.prefix so_far.heard) c.in-None.is);
    }
