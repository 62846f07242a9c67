-- What the search leaves open of `writer::of_one_radio`.
use Rattle.std.proofs.Common.{rules, arith}
use Rattle.page_cell.proofs.writer.of_one_radio.Goals as goal

pub loop-init : goal.loop-init
loop-init c = record { milliseconds = 1000; least = omega arith; most = omega arith; bound = search rules }
