-- What stays true in the loops of `fitting::fit_radios`.
use Rattle.std.proofs.Common.{◌≡◌, ◌≤◌, All, length, take, vec_capacity, vec_len}
use Rattle.station_values.specs.Station.{IsStation}
use Rattle.station_gear.specs.Racks.{HasFitted}
use Rattle.station_gear.proofs.fitting.fit_radios.Given as goal

-- the radios so far have their receivers
abbrev pub invariant-loop-place : goal.invariant-loop-place
invariant-loop-place g l = record {
  fitted : HasFitted (λ b h. (goal.Receiver-dyn g (b.vtable, b.value)).stands_for b.value h) l.receivers.items l.spares.items (take l.place l.station.radios);
  receivers : All (λ b. (goal.Receiver-dyn g (b.vtable, b.value)).least_start b.value ≡ 0) l.receivers.items;
  spares : All (λ spare. (goal.Receiver-dyn g (spare.receiver.vtable, spare.receiver.value)).least_start spare.receiver.value ≡ 0) l.spares.items;
  bounds : IsStation l.station;
  count : l.count ≡ length l.station.radios;
  size : vec_len l.receivers ≡ l.place;
  room : l.count ≤ vec_capacity l.receivers;
}
