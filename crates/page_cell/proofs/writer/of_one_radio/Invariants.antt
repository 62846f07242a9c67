use Rattle.system_fold.specs.Settings.{AreValid}
use Rattle.page_cell.proofs.writer.of_one_radio.Given as goal

abbrev pub invariant-loop : goal.invariant-loop
invariant-loop l = AreValid l.settings
