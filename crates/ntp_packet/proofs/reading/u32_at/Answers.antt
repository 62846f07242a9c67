-- What the search leaves open of `reading::u32_at`.
use Rattle.std.proofs.Common.{◌∙◌}
use Rattle.ntp_packet.proofs.Pieces.{number_at}
use Rattle.ntp_packet.proofs.reading.u32_at.Goals as goal

pub returns : goal.returns
returns c = c.read_u32.ensures ∙ number_at c.args.place 4 c.args.bytes.now c.requires
