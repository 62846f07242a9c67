-- What the search leaves open of `whole::read_whole`.
use Rattle.std.proofs.Common.{List, ℕ, sym, subst}
use Rattle.file_reader.specs.Ends.{EndsReading}
use Rattle.file_reader.proofs.whole.read_whole.Goals as goal

pub returns-clause-ends : goal.returns-clause-ends
returns-clause-ends g c =
    let p = c.in-Ok.ensures.ends tt c.requires.empty in
    subst (λ (b : List ℕ). EndsReading c.in-Ok.end c.args.limit (g.S.Source.state c.args.file.now) (g.S.Source.state c.read_pieces.new.file) b) (sym p.2) p.1
