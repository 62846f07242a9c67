-- What stays true in the loop of `minutes::of_radios`.
use Rattle.std.proofs.Common.{◌<◌, length}
use Rattle.system_fold.specs.Settings.{AreValid}
use Rattle.worker_tests.proofs.minutes.of_radios.Given as goal

abbrev pub invariant-loop-number : goal.invariant-loop-number
invariant-loop-number l = AreValid l.settings × (0 < length l.settings.sources)
