-- The result of processing a file line by line, for a station: which files are opened, which bytes are read, what each line may
-- say, which text the lines give, and the status. All of it is this project's own.
use Rattle.std.specs.Prelude.{◌≡◌, ℕ, ◌⊎◌, ◌≤◌, false, IsSome, Option, Some, None, List, [], ◌∷◌, ◌++◌, length, map}
use Rattle.clock_page.specs.Page.{PageFields}
use Rattle.outside_traits.specs.Faults.{Rose}
use Rattle.outside_traits.specs.States.{SourceState, SinkState}
use Rattle.outside_traits.specs.Openings.{Opening, OutsideState, Wanted, MakesOpenings, log_visit, visited}
use Rattle.outside_traits.specs.Openings.Wanted.{LogOf}
use Rattle.file_reader.specs.Ends.{HasReadPrefix}
use Rattle.line_files.specs.Items.{HasItems, Saying}
use Rattle.station_values.specs.Station.{StationFields}
use Rattle.tick_units.specs.Log.{has_tail}
use Rattle.command_ends.specs.Effects.{Effect}
use Rattle.command_ends.specs.Endings.{status_of, status_line}
use Rattle.command_ends.specs.Opening.{CannotOpen}
use Rattle.line_files.specs.Reading.{ReadsLines}
use Rattle.command_ends.specs.StationFile.{IsStation, HasStation, EndsAtStation}
use Rattle.command_ends.specs.Text.{page_text}
use Rattle.outside_traits.specs.Writing.{WritesAll, WritesPrefix}
use Rattle.command_ends.specs.Writing.{Answers}
use Rattle.command_ends.specs.declared.ending.Ending.{Ending}
use Rattle.command_ends.specs.declared.ending.Ending.TheVariants as ending
use Rattle.command_ends.specs.declared.ending.status.Status.{Status}
use Rattle.command_ends.specs.declared.ending.status.Status.TheVariants.{WriteFault}
use Rattle.command_ends.specs.declared.ending.subject.Subject.{Subject}
use Rattle.command_ends.specs.declared.ending.subject.Subject.TheVariants.{Station}
use Rattle.file_reader.specs.declared.log_end.LogEnd.{LogEnd}
use Rattle.file_reader.specs.declared.log_end.LogEnd.TheVariants as log

-- a kind of file: what its lines say, the length at which a line is too long, and the most bytes of the file. Then the text that
-- its lines give, the page after it, and how a command ends whose reading came this far
pub record LineFile : Type 1 where
  pub Item : Type 0
  pub says : Saying Item
  pub too_long : ℕ → ℕ
  pub most : ℕ
  pub text : List Item → List ℕ
  pub page : List Item → PageFields
  pub ending : LogEnd → List Item → Ending

-- these items are said by the lines of these bytes up to the first bad one, which is this
abbrev pub HasItemsOf : (f : LineFile) → List ℕ → List f.Item → Option ℕ → Type 0
HasItemsOf f = HasItems f.says f.too_long

-- the reading ended by itself: what the lines give is written, and then the page and the status line; a write of these may fail
pub record EndsRunning (f : LineFile) (file file_now : SourceState) (out out_now : SinkState) (result : Status) : Type 0 where
  pub bytes : List ℕ
  pub items : List f.Item
  pub bad : Option ℕ
  pub said : HasItemsOf f bytes items bad
  pub end : LogEnd
  pub read : ReadsLines end f.most file file_now bytes bad
  pub due : Ending
  pub due_is : due ≡ f.ending end items
  pub between : SinkState
  pub given : WritesAll out between (f.text items)
  pub written : Answers (status_of due) result between out_now (page_text (f.page items) ++ status_line due)

-- a write failed in what the lines of the next bytes give, and nothing was read or written after it. What the lines before them
-- give is written whole. The bytes after them that came in the same piece, which has at most 512, were not looked at
pub record StopsRunning (f : LineFile) (file file_now : SourceState) (out out_now : SinkState) (result : Status) : Type 0 where
  pub earlier : List ℕ
  pub next : List ℕ
  pub later : List ℕ
  pub read : HasReadPrefix f.most file file_now (earlier ++ (next ++ later))
  pub near : length (next ++ later) ≤ 512
  pub items : List f.Item
  pub said : HasItemsOf f earlier items None
  pub longer : List f.Item
  pub said_too : HasItemsOf f (earlier ++ next) longer None
  pub between : SinkState
  pub given : WritesAll out between (f.text items)
  pub more : List ℕ
  pub adds : f.text longer ≡ f.text items ++ more
  pub failed : WritesPrefix between out_now more
  pub answer : result ≡ WriteFault

-- a file was run through: what it and the sink reported before and now, and the answer
abbrev pub RunsThrough : LineFile → SourceState → SourceState → SinkState → SinkState → Status → Type 0
RunsThrough f file file_now out out_now result = EndsRunning f file file_now out out_now result ⊎ StopsRunning f file file_now out out_now result

-- what is opened: the station, and then the file
abbrev pub needed_by : List ℕ → List ℕ → List Wanted
needed_by name file_name = LogOf name ∷ LogOf file_name ∷ []

-- the station was read to its end, and the file could not be opened
pub record LacksFile (what : Subject) (name file_name : List ℕ) (effect : Effect) : Type 0 where
  pub of : StationFields
  pub opened : SourceState
  pub back : SourceState
  pub station : HasStation opened back of
  pub file : CannotOpen (needed_by name file_name) (log_visit name opened back ∷ []) (LogOf file_name) what effect

-- the station was read to its end, and the file was opened once, run through and given back
pub record OpensAndRuns (file_of : StationFields → LineFile) (name file_name : List ℕ) (effect : Effect) : Type 0 where
  pub of : StationFields
  pub opened : SourceState
  pub back : SourceState
  pub station : HasStation opened back of
  pub file_opened : SourceState
  pub file_back : SourceState
  pub opens : MakesOpenings (needed_by name file_name) effect.outside effect.outside_now (log_visit name opened back ∷ log_visit file_name file_opened file_back ∷ []) None
  pub runs : RunsThrough (file_of of) file_opened file_back effect.out effect.out_now effect.status

-- the effects that a command may have which processes a file for a station
abbrev pub RunsAgainst : Subject → (StationFields → LineFile) → List ℕ → List ℕ → Effect → Type 0
RunsAgainst what file_of name file_name effect =
    CannotOpen (needed_by name file_name) [] (LogOf name) Station effect
    ⊎ (EndsAtStation (needed_by name file_name) name effect
    ⊎ (LacksFile what name file_name effect
    ⊎ OpensAndRuns file_of name file_name effect))

-- a file that has no fault, and that reported its bytes before and after: none of its lines is bad, the last is finished, and
-- nothing that they say ends a command otherwise
pub record IsGoodFile (f : LineFile) (opened back : SourceState) : Type 0 where
  pub text : List ℕ
  pub reported : opened.left ≡ Some text
  pub reports : IsSome back.left
  pub no_fault : Rose opened.faults back.faults → ⊥
  pub items : List f.Item
  pub said : HasItemsOf f text items None
  pub finished : has_tail text ≡ false
  pub room : f.ending log.Whole items ≡ ending.Whole
  pub most : length text ≤ f.most

-- a station and such a file for it were opened and given back, one after the other
pub record HasGoodFile (file_of : StationFields → LineFile) (name file_name : List ℕ) (outside outside_now : OutsideState) : Type 0 where
  pub before : List Opening
  pub opened : SourceState
  pub back : SourceState
  pub file_opened : SourceState
  pub file_back : SourceState
  pub were : outside.openings ≡ Some before
  pub are : outside_now.openings ≡ Some (before ++ map visited (log_visit name opened back ∷ log_visit file_name file_opened file_back ∷ []))
  pub of : StationFields
  pub is_station : IsStation of opened back
  pub is_file : IsGoodFile (file_of of) file_opened file_back
