-- What the search leaves open of `station_file::obstacle::write_three`.
use Rattle.std.proofs.Common.{◌++◌}
use Rattle.outside_traits.proofs.WritingLaws.{prefix_of_both, on_err, on_err_by, writes_prefix}
use Rattle.command_ends.proofs.station_file.obstacle.write_three.Goals as goal

pub returns-in_err-write_all-clause-err : goal.returns-in_err-write_all-clause-err
returns-in_err-write_all-clause-err g c = on_err c.from_residual.result (prefix_of_both _ _ c.args.first.now (c.args.second.now ++ c.args.third.now) c.in_err-write_all.ensures.err)

pub returns-clause-err : goal.returns-clause-err
returns-clause-err g c = on_err_by c.write_two.result
    (λ prefix. writes_prefix (g.K.Sink.state c.args.out.now) (g.K.Sink.state c.write_all.new.out) (g.K.Sink.state c.write_two.new.out) c.args.first.now (c.args.second.now ++ c.args.third.now) c.in_ok-write_all.ensures.ok prefix)
    c.write_two.ensures.err
