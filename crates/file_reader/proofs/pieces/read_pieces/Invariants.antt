-- What stays true in the loops of `pieces::read_pieces`.
use Rattle.std.proofs.Common.{◌≡◌, ◌<◌, ℕ, List, []}
use Rattle.file_reader.specs.Reader.{HasPulled, limit_of, room_of}
use Rattle.file_reader.proofs.pieces.read_pieces.Given as goal

-- the bytes read were taken
abbrev pub invariant-pieces : goal.invariant-pieces
invariant-pieces g l = record {
  number : g.S.Source.opening l.file ≡ g.S.Source.opening l.fn.file;
  limit : limit_of l.reader ≡ l.fn.limit;
  ready : g.T.PieceTaker.is_ready l.taker;
  mark : g.T.PieceTaker.mark l.taker ≡ g.T.PieceTaker.mark l.fn.taker;
  room : room_of l.reader < g.T.PieceTaker.room l.taker;
  so_far : (of : g.T.PieceTaker.Case) → g.T.PieceTaker.has_taken l.fn.taker of [] →
      (bytes : List ℕ) × HasPulled l.reader (g.S.Source.state l.fn.file) (g.S.Source.state l.file) bytes × g.T.PieceTaker.has_taken l.taker of bytes;
}

abbrev pub decreases-pieces : goal.decreases-pieces
decreases-pieces g l = room_of l.reader
