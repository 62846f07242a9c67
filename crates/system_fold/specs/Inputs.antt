-- The page inputs: what makes a page besides the sources that are left, and the moment at which it ends. All of it is this
-- project's own.
use Rattle.std.specs.Prelude.{ℕ, ◌+◌, ◌^◌, ◌≤◌, min, Option, None, Some, List, length}
use Rattle.journal_entry.specs.declared.entry.Entry.{Entry}
use Rattle.system_fold.specs.Ends.{lasts}
use Rattle.system_fold.specs.Journal.{now_of}
use Rattle.system_fold.specs.Leaps.{armed_of}
use Rattle.system_fold.specs.Settings.{SettingsFields}
use Rattle.system_fold.specs.declared.inputs.PageInputs.{PageInputs}
use Rattle.system_fold.specs.declared.leaps.Leap.{Leap}

-- those of a journal: how many entries it has, the greatest of their moments, the bound of the root dispersion, and the leap second
-- that is still to come
abbrev pub inputs_of : SettingsFields → List Entry → PageInputs
inputs_of settings journal = record {
  length = length journal;
  moment = now_of journal;
  bound = settings.bound;
  armed = armed_of journal;
}

-- a moment, or that of the next leap second if it is sooner
abbrev pub until_leap : Option Leap → ℕ → ℕ
until_leap None moment = moment
until_leap (Some leap) moment = min leap.moment moment

-- the moment at which a page of this root dispersion ends: where that passes the bound, or at the next leap second if it is
-- sooner
abbrev pub until_of : PageInputs → ℕ → ℕ
until_of inputs root_disp = until_leap inputs.armed (inputs.moment + lasts inputs.bound root_disp)

-- they are from valid settings: the bound is at most 16 s
pub record AreBounded (inputs : PageInputs) : Type 0 where
  pub bound : inputs.bound ≤ 2 ^ 36
