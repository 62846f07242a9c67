-- What the search leaves open of `journal::ReplayJournal::new`.
use Rattle.std.proofs.Common.{◌∙◌, length, ap}
use Rattle.std.proofs.lemmas.List.{length-map}
use Rattle.std.specs.List.{enumerate_from}
use Rattle.replay_command.proofs.NewLaws.{length-enumerate}
use Rattle.replay_command.proofs.journal.ReplayJournal.new.Goals as goal

pub returns-clause-feeds : goal.returns-clause-feeds
returns-clause-feeds c = ap length c.new.ensures.feeds ∙ length-map (enumerate_from 0 c.args.settings.now.sources) _ ∙ length-enumerate 0 c.args.settings.now.sources
