-- The page of a journal: how the server computes the time after all of it. The page comes from the whole list of entries, with no
-- state (RFC 5905, sections 10 and 11, in this project's profile).
use Rattle.std.specs.Prelude.{List}
use Rattle.clock_page.specs.Page.{PageFields}
use Rattle.cluster_core.specs.Clusters.{survivors_left}
use Rattle.cluster_core.specs.Mean.{mean}
use Rattle.journal_entry.specs.declared.entry.Entry.{Entry}
use Rattle.system_fold.specs.Fields.{page_from}
use Rattle.system_fold.specs.Inputs.{inputs_of}
use Rattle.system_fold.specs.Selecting.{survivors_of, sources_at}
use Rattle.system_fold.specs.Settings.{SettingsFields}
use Rattle.system_fold.specs.Sources.{fit_sources}
use Rattle.system_fold.specs.declared.inputs.PageInputs.{PageInputs}
use Rattle.system_fold.specs.declared.source.Source.{Source}

-- the page of the sources that are fit: of those of them that survive the selection and the clustering, and of their mean
unfoldable pub page_by : PageInputs → List Source → PageFields
page_by inputs fit =
    let survivors = survivors_left (survivors_of inputs.moment fit) in
    page_from inputs (sources_at fit survivors) (mean survivors)

-- the page of a journal
unfoldable pub page_of : SettingsFields → List Entry → PageFields
page_of settings journal = page_by (inputs_of settings journal) (fit_sources settings journal)
