-- What stays true in the loops of `radios::Radios+BoxedReceiver::new`.
use Rattle.std.proofs.Common.{◌≡◌, [], length}
use Rattle.station_values.specs.Station.{IsStation}
use Rattle.replay_command.specs.KeptPlayer.{AreReady, HasRadios, first_radios}
use Rattle.replay_command.proofs.radios.Radios+BoxedReceiver.new.Given as goal

abbrev pub invariant-loop-place : goal.invariant-loop-place
invariant-loop-place g l =
    HasRadios (λ b h. (goal.Receiver-dyn g (b.vtable, b.value)).stands_for b.value h) l.radios (first_radios l.place l.station) []
    × AreReady (λ b. (goal.Receiver-dyn g (b.vtable, b.value)).least_start b.value) l.radios
    × IsStation l.station
    × (l.count ≡ length l.station.radios)
