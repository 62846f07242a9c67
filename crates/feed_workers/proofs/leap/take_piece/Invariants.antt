-- What stays true in the loops of `leap::take_piece`.
use Rattle.std.proofs.Common.{◌≡◌, ℕ, List, ◌++◌, take}
use Rattle.feed_workers.specs.Keeping.{IsOfFeed, share_of}
use Rattle.feed_workers.specs.Noticing.{HasNoticed}
use Rattle.page_cell.specs.Passes.{claim_of}
use Rattle.page_cell.specs.declared.view.Claim.{Claim}
use Rattle.feed_workers.proofs.leap.take_piece.Given as goal

-- the bytes of the piece up to this place were taken
abbrev pub invariant-loop-place : goal.invariant-loop-place
invariant-loop-place g l = record {
  start : l.start ≡ l.fn.start;
  piece : l.piece ≡ l.fn.piece;
  pass : IsOfFeed g.K.Recorder.table g.K.Recorder.sources (claim_of l.fn.pass.view).number l.pass;
  so_far : (begin : Claim) (bytes : List ℕ) → HasNoticed l.fn.reader l.fn.start (share_of begin l.fn.pass g.K.Recorder.limit l.fn.full) bytes →
      HasNoticed l.reader l.fn.start (share_of begin l.pass g.K.Recorder.limit l.full) (bytes ++ take l.place l.fn.piece);
}
