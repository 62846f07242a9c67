use Rattle.std.proofs.Common.{arith}
use Rattle.page_cell.proofs.Loads.{looks_ok}
use Rattle.page_cell.proofs.loading.look.Goals as goal

pub load-requires : goal.load-requires
load-requires c = (c.requires.own.0, omega (arith, c.requires.own.1), looks_ok _ _ _ _ _ _ c.requires.holds.0 c.requires.holds.1)
