-- What stays true in the loops of `radio::receive_piece`.
use Rattle.std.proofs.Common.{◌≡◌, ℕ, List, None, ◌++◌, length}
use Rattle.radio_receiver.specs.Decoding.{IsReady, feed_of}
use Rattle.page_cell.specs.declared.view.Claim.{Claim}
use Rattle.feed_workers.specs.Receiving.{HasReceived, HasReceivedUpTo, Tuning}
use Rattle.feed_workers.specs.Keeping.{IsOfFeed, share_of}
use Rattle.feed_workers.proofs.radio.receive_piece.Given as goal

-- the bytes of the piece up to the rest were heard
abbrev pub invariant-rest : goal.invariant-rest
invariant-rest g l = record {
  ready : IsReady g.Q.Receiver.least_start l.decoder;
  feed : feed_of l.decoder ≡ feed_of l.fn.decoder;
  pass : IsOfFeed g.K.Recorder.table g.K.Recorder.sources (feed_of l.fn.decoder) l.pass;
  so_far : (tuning : Tuning) (begun : Claim) (bytes : List ℕ) →
      HasReceived g.Q.Receiver.stands_for l.fn.decoder tuning (share_of begun l.fn.pass g.K.Recorder.limit l.fn.full) bytes None →
      HasReceivedUpTo g.Q.Receiver.stands_for l.decoder tuning (share_of begun l.pass g.K.Recorder.limit l.full) (bytes ++ l.fn.piece) l.rest;
}

abbrev pub decreases-rest : goal.decreases-rest
decreases-rest g l = length l.rest
