-- What the search leaves open of `reader::FileReader::pull`.
use Rattle.std.proofs.Common.{◌≡◌, length, take, arith}
use Rattle.std.proofs.lemmas.List.{length-take}
use Rattle.file_reader.proofs.PullLaws.{too_long}
use Rattle.file_reader.proofs.reader.FileReader.pull.Goals as goal

pub returns-in-Ok-clause-gives : goal.returns-in-Ok-clause-gives
returns-in-Ok-clause-gives g c = λ start bytes pulled.
    let count = c.in-Ok.field-0 in
    let within = c.in-Ok.ensures.within in
    let some = c.in-Ok.field-0-test in
    let full = c.if-room-eq0.true in
    let one : length (take count c.read_piece.new.piece) ≡ 1 = omega (arith, length-take count c.read_piece.new.piece) in
    too_long _ start _ _ bytes (take count c.read_piece.new.piece) pulled full c.in-Ok.ensures.bytes.0 one c.in-Ok.ensures.cause.kept
