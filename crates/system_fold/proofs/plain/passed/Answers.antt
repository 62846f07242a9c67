-- What the search leaves open of `plain::passed`.
use Rattle.std.proofs.Common.{ℕ, List, ap, ◌∙◌}
use Rattle.std.specs.Prelude.{Option}
use Rattle.system_fold.specs.Journal.{now_of}
use Rattle.system_fold.specs.Leaps.{passed_among, last_verdict}
use Rattle.system_fold.specs.declared.leaps.Verdict.{Verdict}
use Rattle.system_fold.specs.declared.leaps.Word.{Word}
use Rattle.system_fold.proofs.plain.passed.Goals as goal

pub returns : goal.returns
returns c =
    c.last_passed.ensures
    ∙ ap (λ (n : ℕ). passed_among n c.last_verdict.result c.words_of.result) c.now_of.ensures
    ∙ ap (λ (v : Option Verdict). passed_among (now_of c.args.journal.now) v c.words_of.result) c.last_verdict.ensures
    ∙ ap (λ (ws : List (Option Word)). passed_among (now_of c.args.journal.now) (last_verdict c.args.journal.now) ws) c.words_of.ensures
