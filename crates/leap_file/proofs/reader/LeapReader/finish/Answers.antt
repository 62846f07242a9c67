-- What the proof of `reader::LeapReader::finish` needs.
use Rattle.std.proofs.Common.{rules}
use Rattle.leap_file.proofs.ReaderLaws.{finishes}
use Rattle.leap_file.proofs.reader.LeapReader.finish.Goals as goal

pub returns : goal.returns
returns c = record { finished = λ bytes h. finishes c.take.new.self bytes c.take.result (c.take.ensures.taken bytes h); reported = search rules }
