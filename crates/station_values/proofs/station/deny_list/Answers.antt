-- What the search leaves open of `nets::deny_list`.
use Rattle.std.proofs.Common.{◌∙◌, [], ◌∷◌, ◌++◌, sym, ap, map, take}
use Rattle.std.proofs.lemmas.List.{map_more}
use Rattle.station_values.specs.KeptStation.{net_kept}
use Rattle.station_values.proofs.station.deny_list.Goals as goal

pub loop-net-preserved : goal.loop-net-preserved
loop-net-preserved c =
    let nets = c.args.nets.now in
    let i = c.loop-net.net-index in
    let net = c.net-item.result in
    c.add.ensures
    ∙ ap (λ done. done ++ net_kept net ∷ []) c.loop-net.invariant
    ∙ sym (map_more net_kept nets i net c.loop-net-test.true ∙ ap (λ n. map net_kept (take i nets) ++ net_kept n ∷ []) (sym c.net-item.is))
