-- What the search leaves open of `reading::taking::read_lines`.
use Rattle.std.proofs.Common.{rules, [], refl}
use Rattle.outside_traits.proofs.StateLaws.{Adds-none}
use Rattle.line_files.specs.Taking.{EndsTaking, flow_of}
use Rattle.line_files.proofs.TakingLaws.{of_equals}
use Rattle.line_files.proofs.reading.taking.read_lines.Goals as goal

pub returns-clause-ends : goal.returns-clause-ends
returns-clause-ends g c = λ of h.
    let read = c.read_pieces-read in
    let start = g.K.Sink.state c.args.out.now in
    let flow = flow_of (g.S.Source.state c.args.file.now) (g.S.Source.state read.new.file) start in
    let ends = read.ensures.ends (of, start) (record { text = []; held = h; written = (Adds-none _, refl) }) in
    let ended = c.end_of.ensures of c.args.limit (flow (g.K.Sink.state read.new.taker.out.now)) ends in
    of_equals (λ t o. EndsTaking (g.T.Taker.holds t of) (g.T.Taker.says of) c.args.limit (flow (g.K.Sink.state o)) c.end_of.result) _ _ _ _ ended (search rules) (search rules)
