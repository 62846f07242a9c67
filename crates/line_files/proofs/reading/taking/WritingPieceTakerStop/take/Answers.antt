-- What the search leaves open of `reading::taking::WritingPieceTakerStop::take`.
use Rattle.std.proofs.Common.{ℕ, List, length, ap, arith}
use Rattle.std.proofs.lemmas.List.{length-drop}
use Rattle.line_files.specs.Taking.{given, bad_of}
use Rattle.line_files.proofs.TakingLaws.{taken_on, stopped_at}
use Rattle.line_files.proofs.reading.taking.WritingPieceTakerStop.take.Goals as goal

pub returns-in-Err-clause-takes : goal.returns-in-Err-clause-takes
returns-in-Err-clause-takes g c = λ of bytes taken.
    let h = c.rest.invariant.so_far of bytes taken in
    let took = c.take-took.result in
    stopped_at of.1 _ _ c.rest.rest.now _ h (g.T.Taker.holds c.take-took.new.self of.0) (g.T.Taker.says of.0) (g.met.T.Taker.held_says c.take-took.new.self of.0) (g.met.T.Taker.held_says _ of.0 h.prefix h.text h.held)
    _ took.count (let short = c.rest.invariant.short in let small = c.requires.short in omega arith) took.found c.take-took.new.line (c.take-took.ensures.holds of.0 h.prefix h.text h.held) c.in-Err.stop c.in-Err.ensures

pub rest-preserved : goal.rest-preserved
rest-preserved g c = record {
  taker = c.rest.invariant.taker;
  out = c.rest.invariant.out;
  size = c.take-took.array_long;
  ready = c.take-took.ensures.ready;
  room = (let h = c.rest.invariant.room in let k = c.take-took.ensures.room in let w = c.take-took.ensures.within in
      let len = ap (λ (b : List ℕ). length b) c.split_at.ensures.back in
      omega (arith, length-drop c.take-took.result.count c.rest.rest.now));
  short = (let h = c.rest.invariant.short in let len = ap (λ (b : List ℕ). length b) c.split_at.ensures.back in omega (arith, length-drop c.take-took.result.count c.rest.rest.now));
  so_far = λ of bytes taken.
      let h = c.rest.invariant.so_far of bytes taken in
      let took = c.take-took.result in
      rw c.split_at.ensures.back (taken_on of.1 _ _ c.rest.rest.now _ h _ _ took.count (given took.found c.take-took.new.line) (bad_of took.found)
      (c.take-took.ensures.holds of.0 h.prefix h.text h.held) c.in-Ok.ensures.0 c.in-Ok.ensures.1);
}
