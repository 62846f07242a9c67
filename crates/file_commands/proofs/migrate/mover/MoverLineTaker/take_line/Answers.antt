-- What the search leaves open of `migrate::mover::MoverLineTaker::take_line`.
use Rattle.std.proofs.Common.{ℕ, ◌+◌, ◌<◌, ap, subst}
use Rattle.station_values.specs.Station.{settings_of}
use Rattle.line_files.specs.LineTaking.{line_texts}
use Rattle.file_commands.proofs.MovingLaws.{takes_moved}
use Rattle.file_commands.proofs.migrate.mover.MoverLineTaker.take_line.Goals as goal

pub returns-clause-takes : goal.returns-clause-takes
returns-clause-takes c = λ of items count h.
    let moves = c.in-Some-take.ensures.moves (settings_of of) items (ap (λ (n : ℕ). n + 1) count) (subst (λ (n : ℕ). n < 4194304) count c.requires.room) h in
    takes_moved of items c.take.new.self (c.args.count + 1) c.write_numbered_line.result (line_texts c.args.text.now c.write_numbered_line.new.line) c.in-Some.read c.in-Some-take.numbered c.in-Some.ensures.line moves c.write_numbered_line.ensures.text
