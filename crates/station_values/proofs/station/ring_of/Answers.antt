-- What the search leaves open of `station::ring_of`.
use Rattle.std.proofs.Common.{◌≡◌, ◌∙◌, Some, sym, ap, slice_get}
use Rattle.std.proofs.lemmas.Option.{slice_get-get_or}
use Rattle.packet_auth.specs.Keys.{has_id}
use Rattle.station_values.specs.KeptStation.{key_kept}
use Rattle.station_values.proofs.KeptKeys.{key-at}
use Rattle.station_values.proofs.station.ring_of.Goals as goal

pub add-requires-clause-other : goal.add-requires-clause-other
add-requires-clause-other c =
    let keys = c.args.keys.now in
    let i = c.loop-key.key-index in
    let key = c.key-item.result in
    let there : slice_get keys i ≡ Some key = slice_get-get_or keys i key c.loop-key-test.true ∙ ap Some (sym c.key-item.is) in
    ap (has_id key.id) c.loop-key.invariant ∙ c.requires.apart i (key_kept key) (key-at keys i key there)
