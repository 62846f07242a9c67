-- What stays true in the loop of `next_entry`.
use Rattle.std.proofs.Common.{ℕ, List, ◌≡◌, ◌≤◌, ◌-◌, length, take}
use Rattle.tick_units.specs.declared.marks.Plan.{Plan}
use Rattle.radio_receiver.specs.Decoding.{HasDecoded, IsReady, feed_of}
use Rattle.radio_receiver.proofs.LinesLaws.{GoesOn}
use Rattle.radio_receiver.proofs.decoder.LogDecoder.next_entry.Given as goal

-- the lines so far gave no entry
abbrev pub invariant-lines : goal.invariant-lines
invariant-lines g l = record {
  within : l.count ≤ length l.fn.bytes;
  feed : feed_of l.self ≡ feed_of l.fn.self;
  ready : IsReady g.R.Receiver.least_start l.self;
  so_far : (feed : ℕ) (plan : Plan) (delay : ℕ) (before : List ℕ) → HasDecoded g.R.Receiver.stands_for l.fn.self feed plan delay before →
      GoesOn g.R.Receiver.stands_for l.self feed plan delay before (take l.count l.fn.bytes);
}

abbrev pub decreases-lines : goal.decreases-lines
decreases-lines g l = length l.fn.bytes - l.count
