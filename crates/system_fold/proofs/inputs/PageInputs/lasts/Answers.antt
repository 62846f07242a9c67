-- What the search leaves open of `inputs::PageInputs::lasts`.
use Rattle.std.proofs.Common.{◌^◌, arith, rules, sym}
use Rattle.system_fold.specs.Ends.{IsLeast, is_above}
use Rattle.system_fold.proofs.EndLaws.{least-is}
use Rattle.system_fold.proofs.inputs.PageInputs.lasts.Goals as goal

pub returns-clause-value : goal.returns-clause-value
returns-clause-value c =
    let least : IsLeast (is_above c.args.self.now.bound c.args.root_disp.0) c.first_above.result = search rules in
    let small = c.first_above.ensures.small in
    sym (least-is (is_above c.args.self.now.bound c.args.root_disp.0) (2 ^ 41) c.first_above.result least (omega arith))
