-- What the search leaves open of `datagram::decode`.
use Rattle.std.proofs.Common.{length}
use Rattle.script_line.proofs.DatagramLaws.{decodes}
use Rattle.script_line.proofs.datagram.decode.Goals as goal

pub returns : goal.returns
returns c = (rw (decodes c.args.digits.now (length c.args.room.now) c.requires.text c.requires.room) at c.decode_to_slice.ensures.value).1
