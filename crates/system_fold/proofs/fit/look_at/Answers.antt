-- What the search leaves open of `fit::look_at`.
use Rattle.system_fold.proofs.FitLaws.{newest-by}
use Rattle.system_fold.proofs.fit.look_at.Goals as goal

pub add_if_fit-requires-clause-moment : goal.add_if_fit-requires-clause-moment
add_if_fit-requires-clause-moment c = newest-by c.args.cut c.args.now c.args.feed.now c.in-Some.figures.now c.requires.sound (c.in-Some.ensures.value c.args.feed.now.filter c.requires.sound.last)
