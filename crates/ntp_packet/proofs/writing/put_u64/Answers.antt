-- What the search leaves open of `writing::put_u64`.
use Rattle.std.proofs.Common.{arith, refl}
use Rattle.byteorder.specs.Endian.{big_bytes}
use Rattle.ntp_packet.proofs.Pieces.{prefix_more}
use Rattle.ntp_packet.proofs.writing.put_u64.Goals as goal

pub returns-clause-piece : goal.returns-clause-piece
returns-clause-piece c = prefix_more c.args.out.now (big_bytes 8 c.args.n) _ c.args.start 8 (omega arith) refl c.write_u64.ensures
