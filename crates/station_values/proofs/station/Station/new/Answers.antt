-- What the search leaves open of `station::Station::new`.
use Rattle.std.proofs.Common.{◌∙◌, ap, map, option_map, string_bytes}
use Rattle.station_values.specs.KeptStation.{net_kept}
use Rattle.station_values.proofs.Feeds.{sources_are}
use Rattle.station_values.proofs.station.Station.new.Goals as goal

pub invariant_of-result : goal.invariant_of-result
invariant_of-result c =
    let settings = c.add_leap.new.settings in
    let name = option_map string_bytes c.args.parts.leap_file in
    let p = sources_are c.new-settings.result.sources c.add_radios.new.settings.sources c.add_servers.new.settings.sources settings.sources c.as_slice.result.now c.args.parts.radios.items c.as_slice-2.result.now c.args.parts.servers.items name
    (ap (λ s. s.sources) c.new-settings.ensures) (ap (λ s. s.sources) c.add_radios.ensures) c.as_slice.ensures.value (ap (λ s. s.sources) c.add_servers.ensures) c.as_slice-2.ensures.value (ap (λ s. s.sources) c.add_leap.ensures) in
    let bound = ap (λ s. s.bound) c.add_leap.ensures ∙ ap (λ s. s.bound) c.add_servers.ensures ∙ ap (λ s. s.bound) c.add_radios.ensures ∙ ap (λ s. s.bound) c.new-settings.ensures in
    record {
      same = λ i. record { bound = bound i; sources = p i };
      denied = c.deny_list-denied.ensures ∙ ap (map net_kept) c.as_slice-3.ensures.value;
      bounds = c.requires;
    }
