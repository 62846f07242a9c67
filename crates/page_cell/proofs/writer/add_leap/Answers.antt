-- What the search leaves open of `writer::add_leap`.
use Rattle.std.proofs.Common.{ap, ◌∙◌}
use Rattle.system_fold.specs.Settings.{SettingsFields}
use Rattle.page_cell.proofs.writer.add_leap.Goals as goal

pub returns : goal.returns
returns c = record {
  milliseconds = c.requires.milliseconds;
  least = c.requires.least;
  most = c.requires.most;
  bound = ap (λ (s : SettingsFields). s.bound) c.add.ensures ∙ c.requires.bound;
}
