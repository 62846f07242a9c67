-- Scaffolding: what a world keeps, against the state that it is in.
use Rattle.std.specs.Prelude.{◌≡◌, length}
use Rattle.station_world.specs.Machine.{IsChained, Station, published_page}
use Rattle.station_world.specs.declared.world.World.TheInside.{Inside}
use Rattle.system_fold.specs.KeptFold.{StandsForJournal}
use Rattle.system_fold.specs.Page.{page_of}

abbrev pub state_of : Inside → Station
state_of w = record { settings = w.settings.value; journal = w.entries.items; published = w.published; seen = w.seen.items }

-- a world has ready the page of what is published, and that of its whole journal
pub record IsKept (w : Inside) : Type 0 where
  pub feeds : w.feeds ≡ length w.settings.value.sources
  pub fold : StandsForJournal w.fold w.settings.value w.entries.items
  pub page : w.page ≡ published_page (state_of w)
  pub next : w.next ≡ page_of w.settings.value w.entries.items
  pub chained : IsChained (state_of w)
