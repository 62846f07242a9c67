-- What the search leaves open of `reading::u64_at`.
use Rattle.std.proofs.Common.{◌∙◌}
use Rattle.ntp_packet.proofs.Pieces.{number_at}
use Rattle.ntp_packet.proofs.reading.u64_at.Goals as goal

pub returns : goal.returns
returns c = c.read_u64.ensures ∙ number_at c.args.place 8 c.args.bytes.now c.requires
