-- What stays true in the loops of `decoder_tests::decoded`.
use Rattle.std.proofs.Common.{length}
use Rattle.radio_receiver.specs.Decoding.{IsReady}
use Rattle.decode_tests.proofs.decoder_tests.decoded.Given as goal

abbrev pub invariant-rest : goal.invariant-rest
invariant-rest g l = IsReady g.R.Receiver.least_start l.decoder

abbrev pub decreases-rest : goal.decreases-rest
decreases-rest g l = length l.rest
