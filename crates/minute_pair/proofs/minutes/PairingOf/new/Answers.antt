-- What the proof of `minutes::PairingOf::new` needs.
use Rattle.std.proofs.Common.{[], refl}
use Rattle.minute_pair.proofs.minutes.PairingOf.new.Goals as goal

pub returns : goal.returns
returns g c = record {
  kept = record {
    done = [];
    current = [];
    pieces = refl;
    ends = refl;
    opened = refl;
    read = c.new.ensures;
  };
  before = refl;
}
