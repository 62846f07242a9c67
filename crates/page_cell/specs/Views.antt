-- Scaffolding: what each step makes of a pass's knowledge.
use Rattle.std.specs.Prelude.{ℕ, ◌+◌, ◌==◌, ◌||◌, true, false, List, [], ◌∷◌, ◌++◌, map, length, max, if◌then◌else◌}
use Rattle.journal_entry.specs.declared.entry.Entry.{Entry}
use Rattle.journal_entry.specs.declared.entry.What.TheVariants.{Notice}
use Rattle.page_cell.specs.declared.view.Claim.{Claim}
use Rattle.page_cell.specs.declared.view.View.{View}
use Rattle.page_cell.specs.declared.view.Watch.{Watch}
use Rattle.system_fold.specs.Settings.{SettingsFields}

-- a filler where no entry and no settings are meant
abbrev pub no_entry : Entry
no_entry = record { feed = 0; at = 0; what = Notice 0 }

abbrev pub no_settings : SettingsFields
no_settings = record { bound = 0; sources = [] }

-- a reader that did nothing
abbrev pub still : Watch
still = record { trying = false; first = 0; loaded = []; loads = 0; greatest = 0; torn = 0; fails = 0; unfinished = false; pairs = [] }

-- a pass that knows only the settings
abbrev pub with_settings : SettingsFields → View
with_settings s = record { spent = false; settings = s; baton = false; list = []; given = 0; stored = []; feeds = []; gathered = []; seen = 0; readings = []; watch = still; tallies = [] }

-- a pass that was taken in
abbrev pub nobody : View
nobody = record (with_settings no_settings) { spent = true }

-- the first pass
abbrev pub opened_by : SettingsFields → View
opened_by s = record (with_settings s) { baton = true }

abbrev pub emptied : View → View
emptied v = with_settings v.settings

abbrev pub new_claim : ℕ → Claim
new_claim n = record { number = n; own = []; seen = [] }

-- the next feed's pass is split off
abbrev pub one_given : View → View
one_given v = record v { given = v.given + 1 }

abbrev pub new_feed : View → View
new_feed v = record (with_settings v.settings) { feeds = new_claim v.given ∷ [] }

-- a claim after an entry of its own, when all of this list was seen
abbrev pub extended : Entry → List Entry → Claim → Claim
extended e all c = record { number = c.number; own = c.own ++ e ∷ []; seen = all }

abbrev pub shown : List Entry → Claim → Claim
shown all c = record { number = c.number; own = c.own; seen = all }

-- one more word of the next page is stored
abbrev pub stores : ℕ → View → View
stores x v = record v { stored = v.stored ++ x ∷ [] }

-- an entry is published
abbrev pub added : Entry → View → View
added e v = record v { list = v.list ++ e ∷ []; stored = []; feeds = map (extended e (v.list ++ e ∷ [])) v.feeds }

-- the pass hands the baton on, and has seen all of its list
abbrev pub without_baton : View → View
without_baton v = record (with_settings v.settings) { feeds = map (shown v.list) v.feeds }

abbrev pub baton_of : View → View
baton_of v = record v { feeds = [] }

-- how much a pass's own feed has seen
abbrev pub seen_by : List Claim → ℕ
seen_by [] = 0
seen_by (c ∷ cs) = length c.seen

abbrev pub receipt_of : View → View
receipt_of v = record (with_settings v.settings) { seen = seen_by v.feeds }

-- a pass takes in another
abbrev pub both : View → View → View
both v w = record v {
  settings = if w.baton then w.settings else v.settings;
  baton = v.baton || w.baton;
  list = if w.baton then w.list else v.list;
  given = if w.baton then w.given else v.given;
  stored = [];
  gathered = v.gathered ++ (w.feeds ++ w.gathered);
  seen = max v.seen w.seen;
  readings = v.readings ++ w.readings;
  tallies = v.tallies ++ ((w.watch.torn, w.watch.greatest) ∷ w.tallies);
}

-- the first load of a try
abbrev pub begins : ℕ → View → View
begins n v = record v { watch = record { trying = true; first = n; loaded = []; loads = v.watch.loads + 1; greatest = n; torn = v.watch.torn; fails = if v.watch.unfinished then v.watch.fails else 0; unfinished = v.watch.unfinished; pairs = if v.watch.unfinished then v.watch.pairs else [] } }

-- the load of a word
abbrev pub loads_word : ℕ → View → View
loads_word x v = record v { watch = record (v.watch) { loaded = v.watch.loaded ++ x ∷ []; loads = v.watch.loads + 1 } }

-- a second load that finds the same count
abbrev pub succeeds : View → View
succeeds v = record v {
  seen = v.watch.first;
  readings = v.readings ++ (v.watch.first, v.watch.loaded) ∷ [];
  watch = record { trying = false; first = v.watch.first; loaded = []; loads = v.watch.loads + 1; greatest = v.watch.greatest; torn = v.watch.torn; fails = 0; unfinished = false; pairs = v.watch.pairs ++ (v.watch.first, v.watch.first) ∷ [] };
}

-- a second load that finds another count; the fourth in one call ends the call
abbrev pub fails_at : ℕ → View → View
fails_at n v = record v {
  watch = record { trying = false; first = v.watch.first; loaded = []; loads = v.watch.loads + 1; greatest = n; torn = if v.watch.fails == 3 then v.watch.torn + 1 else v.watch.torn; fails = if v.watch.fails == 3 then 0 else v.watch.fails + 1; unfinished = if v.watch.fails == 3 then false else true; pairs = v.watch.pairs ++ (v.watch.first, n) ∷ [] };
}

-- this many words are stored
abbrev pub with_stored : List ℕ → View → View
with_stored xs v = record v { stored = xs }

-- these words were loaded, by n loads
abbrev pub with_loaded : List ℕ → ℕ → View → View
with_loaded xs n v = record v { watch = record (v.watch) { loaded = xs; loads = v.watch.loads + n } }
