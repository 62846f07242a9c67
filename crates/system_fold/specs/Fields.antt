-- The fields of a page, from the sources that are left and their mean offset (RFC 5905, section 11.2.3). What a server reports of
-- itself is in section 9.2.
use Rattle.std.specs.Prelude.{ℕ, ◌+◌, true, Option, None, Some, List, [], ◌∷◌, map, ℤ, pos, ◌+ℤ◌, if◌then◌else◌}
use Rattle.std.specs.Int.{int_max}
use Rattle.tick_units.specs.Orders.{greatest}
use Rattle.tick_units.specs.Plans.{reference_id_of}
use Rattle.tick_units.specs.Units.{least_dispersion, local_span, stamp_of, to_short}
use Rattle.clock_filter.specs.Distance.{root_delay_of, root_dispersion_of}
use Rattle.clock_filter.specs.declared.figures.Figures.{Figures}
use Rattle.clock_page.specs.Page.{PageFields, unsynchronised}
use Rattle.system_fold.specs.Ends.{is_above}
use Rattle.system_fold.specs.Inputs.{until_of}
use Rattle.system_fold.specs.declared.inputs.PageInputs.{PageInputs}
use Rattle.system_fold.specs.declared.leaps.Leap.{Leap}
use Rattle.system_fold.specs.declared.settings.SourceKind.{SourceKind}
use Rattle.system_fold.specs.declared.settings.SourceKind.TheVariants.{Radio, Server}
use Rattle.system_fold.specs.declared.settings.SourceKind.TheVariants.{Leap as LeapFile}
use Rattle.system_fold.specs.declared.source.Source.{Source}

-- the letters of a radio's plan, and for a server the IPv4 address that its best sample has
abbrev pub reference_id : SourceKind → Figures → ℕ
reference_id (Radio plan) figures = reference_id_of plan
reference_id (Server address) figures = figures.address
reference_id LeapFile figures = 0

abbrev pub leap_second : Option Leap → ℕ
leap_second None = 0
leap_second (Some leap) = leap.leap_at

-- the moment of the newest of all their samples
abbrev pub fresh_of : List Source → ℕ
fresh_of sources = greatest (map (λ s. s.figures.newest) sources)

-- the root dispersion of a page whose system peer this is, as a short
abbrev pub page_dispersion : ℕ → Source → ℕ
page_dispersion now peer = to_short (int_max (pos least_dispersion) (root_dispersion_of now peer.figures))

-- the page that gives the time by the sources that are left, the first of which is the system peer, and by their mean offset
abbrev pub synchronised_by : PageInputs → Source → List Source → ℤ → PageFields
synchronised_by inputs peer others offset = record {
  length = inputs.length;
  sync = true;
  stratum = peer.figures.stratum + 1;
  refid = reference_id peer.kind peer.figures;
  offset = offset;
  anchor = inputs.moment;
  until = until_of inputs (page_dispersion inputs.moment peer);
  root_delay = record { 0 = to_short (root_delay_of peer.figures) };
  root_disp = record { 0 = page_dispersion inputs.moment peer };
  reftime = record { 0 = stamp_of (offset +ℤ pos (local_span (fresh_of (peer ∷ others)))) };
  leap_at = leap_second inputs.armed;
  rate = peer.figures.rate;
}

-- the page of the sources that are left; where none is left, or the root dispersion is above the bound already, no source gives
-- the time
unfoldable pub page_from : PageInputs → List Source → ℤ → PageFields
page_from inputs [] offset = unsynchronised inputs.length inputs.moment
page_from inputs (peer ∷ others) offset =
    if is_above inputs.bound (page_dispersion inputs.moment peer) 0 then unsynchronised inputs.length inputs.moment else synchronised_by inputs peer others offset
