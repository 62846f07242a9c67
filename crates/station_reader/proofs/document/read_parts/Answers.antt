-- What the search leaves open of `document::read_parts`, or finds late.
use Rattle.std.proofs.Common.{◌∙◌}
use Rattle.station_reader.proofs.document.read_parts.Goals as goal

pub read_array-requires : goal.read_array-requires
read_array-requires c = c.requires.radios

pub read_array-requires-2 : goal.read_array-requires-2
read_array-requires-2 c = c.requires.servers

pub read_array-requires-3 : goal.read_array-requires-3
read_array-requires-3 c = c.requires.links

pub read_array-requires-4 : goal.read_array-requires-4
read_array-requires-4 c = c.requires.keys

pub read_array-requires-5 : goal.read_array-requires-5
read_array-requires-5 c = c.requires.deny

pub returns-clause-read : goal.returns-clause-read
returns-clause-read c =
    let leap = c.in_ok-name.ensures ∙ c.leap_file.ensures in
    λ i. record { top = c.top_numbers-top.ensures.said i; radios = c.in_ok-radios.ensures i; servers = c.in_ok-servers.ensures i; leap_file = leap i; links = c.in_ok-links.ensures i; keys = c.in_ok-keys.ensures i; deny = c.in_ok-deny.ensures i }
