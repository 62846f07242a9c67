-- What the search leaves open of `by_line::ByLine::new`.
use Rattle.std.proofs.Common.{ℕ, ◌<◌, [], refl, subst}
use Rattle.line_files.specs.Cutting.{HasTaken}
use Rattle.line_files.proofs.LineTakingLaws.{took_nothing}
use Rattle.line_files.proofs.by_line.ByLine.new.Goals as goal

pub returns-clause-taken : goal.returns-clause-taken
returns-clause-taken g c = λ of h.
    let some = subst (λ (n : ℕ). 0 < n) c.requires.limit c.requires.some in
    let cut = subst (λ (n : ℕ). HasTaken c.new.result n []) c.requires.limit c.new.ensures in
    took_nothing _ _ (g.T.LineTaker.way of) (g.met.T.LineTaker.is_way of) (record { cutter = c.new.result; taker = c.args.taker; most = c.args.most; count = 0 }) some refl cut h
