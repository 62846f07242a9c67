-- What the search leaves open of `radio::ListeningPieceTakerU64::take`.
use Rattle.feed_workers.proofs.radio.ListeningPieceTakerU64.take.Goals as goal

pub returns-clause-takes : goal.returns-clause-takes
returns-clause-takes g c = λ since bytes h. c.receive_piece.ensures.heard since.tuning since.begun bytes h
