-- What stays true in the loops of `reading::taking::WritingPieceTakerStop::take`.
use Rattle.std.proofs.Common.{◌≡◌, ◌+◌, ◌≤◌, ℕ, List, ◌++◌, length}
use Rattle.outside_traits.specs.States.{SinkState}
use Rattle.journal_entry.specs.declared.writer.TheConstants.{LINE_ROOM}
use Rattle.line_files.specs.Taking.{TakesAll}
use Rattle.line_files.proofs.TakingLaws.{IsTakenSoFar}
use Rattle.line_files.proofs.reading.taking.WritingPieceTakerStop.take.Given as goal

-- the bytes of the piece up to the rest are taken, and their text is written
abbrev pub invariant-rest : goal.invariant-rest
invariant-rest g l = record {
  taker : l.self.taker.ghost_name ≡ l.fn.self.taker.ghost_name;
  out : l.self.out.ghost_name ≡ l.fn.self.out.ghost_name;
  size : length l.line ≡ LINE_ROOM;
  ready : g.T.Taker.is_ready l.self.taker.now;
  room : g.T.Taker.room l.fn.self.taker.now + length l.rest ≤ g.T.Taker.room l.self.taker.now + length l.fn.piece;
  short : length l.rest ≤ length l.fn.piece;
  so_far : (of : g.T.Taker.Case × SinkState) (bytes : List ℕ) →
      TakesAll (g.T.Taker.holds l.fn.self.taker.now of.0) of.1 (g.K.Sink.state l.fn.self.out.now) bytes →
      IsTakenSoFar (g.T.Taker.holds l.self.taker.now of.0) of.1 (g.K.Sink.state l.self.out.now) (bytes ++ l.fn.piece) l.rest;
}

abbrev pub decreases-rest : goal.decreases-rest
decreases-rest g l = length l.rest
