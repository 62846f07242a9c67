-- The command `decode`: what it opens, which bytes of the log it reads, why the reading ends, what it writes, and what it knows of the
-- log's minutes. All of it is this project's own.
use Rattle.std.specs.Prelude.{◌≡◌, ℕ, ◌⊎◌, ◌≤◌, Option, Some, None, List, [], ◌++◌, ◌∷◌, length, map}
use Rattle.outside_traits.specs.States.{SourceState, SinkState}
use Rattle.outside_traits.specs.Openings.{Opening, OutsideState, Wanted, MakesOpenings, log_visit, visited}
use Rattle.outside_traits.specs.Openings.Wanted.{LogOf}
use Rattle.file_reader.specs.Ends.{HasReadPrefix}
use Rattle.tick_units.specs.declared.marks.Plan.{Plan}
use Rattle.tick_units.specs.Log.{bad_line}
use Rattle.command_ends.specs.Effects.{Effect}
use Rattle.command_ends.specs.Endings.{status_of, status_line, ending_at}
use Rattle.command_ends.specs.Minutes.{minutes_of}
use Rattle.command_ends.specs.Opening.{CannotOpen}
use Rattle.line_files.specs.GoodLogs.{IsGoodLog}
use Rattle.line_files.specs.Reading.{ReadsLines}
use Rattle.line_files.specs.Texts.{log_text}
use Rattle.outside_traits.specs.Writing.{WritesAll, WritesPrefix}
use Rattle.command_ends.specs.Writing.{Answers}
use Rattle.command_ends.specs.declared.ending.status.Status.{Status}
use Rattle.command_ends.specs.declared.ending.status.Status.TheVariants.{WriteFault}
use Rattle.command_ends.specs.declared.ending.subject.Subject.TheVariants.{Feed}
use Rattle.command_ends.specs.declared.minutes.Minutes.{Minutes}
use Rattle.command_ends.specs.declared.report.Report.{Report}
use Rattle.command_ends.specs.declared.report.Report.TheVariants.{Unwritten}
use Rattle.file_reader.specs.declared.log_end.LogEnd.{LogEnd}
use Rattle.radio_receiver.specs.Decoding.{most_of_a_log}
use Rattle.radio_receiver.specs.Due.{due_log}

-- the reading ended by itself: the lines of the answers are written, and then the status line; a write of it may fail
pub record EndsByCause (plan : Plan) (file file_now : SourceState) (out out_now : SinkState) (result : Status) : Type 0 where
  pub bytes : List ℕ
  pub due : LogEnd
  pub read : ReadsLines due most_of_a_log file file_now bytes (bad_line bytes)
  pub between : SinkState
  pub lines : WritesAll out between (log_text plan bytes)
  pub written : Answers (status_of (ending_at (Feed 0) due)) result between out_now (status_line (ending_at (Feed 0) due))

-- a write failed in the lines that the next bytes add, and nothing was read or written after it. The lines of the bytes before
-- are written whole. The next bytes came in one piece, which has at most 512
pub record EndsByWriting (plan : Plan) (file file_now : SourceState) (out out_now : SinkState) (result : Status) : Type 0 where
  pub earlier : List ℕ
  pub next : List ℕ
  pub read : HasReadPrefix most_of_a_log file file_now (earlier ++ next)
  pub near : length next ≤ 512
  pub between : SinkState
  pub lines : WritesAll out between (log_text plan earlier)
  pub more : List ℕ
  pub adds : log_text plan (earlier ++ next) ≡ log_text plan earlier ++ more
  pub failed : WritesPrefix between out_now more
  pub answer : result ≡ WriteFault

-- a log was decoded: what it and the sink reported before and now, and the answer
abbrev pub Decodes : Plan → SourceState → SourceState → SinkState → SinkState → Status → Type 0
Decodes plan file file_now out out_now result = EndsByCause plan file file_now out out_now result ⊎ EndsByWriting plan file file_now out out_now result

-- these are what the minutes are to one another of the bytes that were read
pub record CountsMinutes (plan : Plan) (file file_now : SourceState) (minutes : Minutes) : Type 0 where
  pub bytes : List ℕ
  pub due : LogEnd
  pub read : ReadsLines due most_of_a_log file file_now bytes (bad_line bytes)
  pub are : minutes ≡ minutes_of (due_log 0 plan 0 bytes)

-- what is known of the minutes of a log that was read: nothing only where a write failed
abbrev pub KnowsMinutes : Plan → SourceState → SourceState → Report → Option Minutes → Type 0
KnowsMinutes plan file file_now report None = report ≡ Unwritten
KnowsMinutes plan file file_now report (Some minutes) = CountsMinutes plan file file_now minutes

-- what a command to decode a log needs to open
abbrev pub needed_by_decode : List ℕ → List Wanted
needed_by_decode name = LogOf name ∷ []

-- the log was opened once, decoded and given back
pub record OpensAndDecodes (plan : Plan) (name : List ℕ) (effect : Effect) : Type 0 where
  pub opened : SourceState
  pub back : SourceState
  pub opens : MakesOpenings (needed_by_decode name) effect.outside effect.outside_now (log_visit name opened back ∷ []) None
  pub decodes : Decodes plan opened back effect.out effect.out_now effect.status

-- the effects that `decode` may have
abbrev pub RunsDecode : Plan → List ℕ → Effect → Type 0
RunsDecode plan name effect = CannotOpen (needed_by_decode name) [] (LogOf name) (Feed 0) effect ⊎ OpensAndDecodes plan name effect

-- what is known of the minutes of the one log that was opened
pub record OpensAndKnows (plan : Plan) (name : List ℕ) (effect : Effect) (report : Report) (known : Option Minutes) : Type 0 where
  pub opened : SourceState
  pub back : SourceState
  pub opens : MakesOpenings (needed_by_decode name) effect.outside effect.outside_now (log_visit name opened back ∷ []) None
  pub knows : KnowsMinutes plan opened back report known

abbrev pub KnowsOpened : Plan → List ℕ → Effect → Report → Option Minutes → Type 0
KnowsOpened plan name effect report known =
    ((known ≡ None) × CannotOpen (needed_by_decode name) [] (LogOf name) (Feed 0) effect) ⊎ OpensAndKnows plan name effect report known

-- such a log was opened and given back
pub record HasGoodLog (name : List ℕ) (outside outside_now : OutsideState) : Type 0 where
  pub before : List Opening
  pub opened : SourceState
  pub back : SourceState
  pub were : outside.openings ≡ Some before
  pub are : outside_now.openings ≡ Some (before ++ map visited (log_visit name opened back ∷ []))
  pub good : IsGoodLog opened back
