-- Scaffolding: what the loops over the bytes of a file keep. A taker stands for the bytes that it has taken, for the text that it
-- has given for them, and for their first bad line.
use Rattle.std.specs.Prelude.{◌≡◌, ℕ, ◌≤◌, Option, None, Some, List, [], ◌++◌, length, take, Result, Ok, Err, MatchResult}
use Rattle.outside_traits.specs.States.{SourceState, SinkState}
use Rattle.file_reader.specs.Ends.{HasReadPrefix}
use Rattle.journal_entry.specs.declared.writer.TheConstants.{LINE_ROOM}
use Rattle.pulse_log.specs.declared.reader.BadLine as log
use Rattle.line_files.specs.Reading.{ReadsLines}
use Rattle.outside_traits.specs.Writing.{WritesAll, WritesPrefix}
use Rattle.file_reader.specs.declared.log_end.LogEnd.{LogEnd}
use Rattle.line_files.specs.declared.reading.Stop.{Stop}
use Rattle.line_files.specs.declared.reading.Stop.TheVariants.{BadLine, WriteFault}

abbrev pub Holds : Type 1
Holds = List ℕ → List ℕ → Option ℕ → Type 0

-- the text that bytes without a bad line give
abbrev pub Says : Type 1
Says = List ℕ → List ℕ → Type 0

-- what the first bytes give: a text of this many bytes at the beginning of the line, no text, or their bad line
abbrev pub Gives : Type 0
Gives = Result (Option ℕ) log.BadLine

-- the text that the first bytes give, in a line of this content, and the bad line that they have
abbrev pub given : Gives → List ℕ → List ℕ
given (Ok None) line = []
given (Ok (Some length)) line = take length line
given (Err bad) line = []

abbrev pub bad_of : Gives → Option ℕ
bad_of (Ok text) = None
bad_of (Err bad) = Some bad.line

abbrev pub Fits : Gives → Type 0
Fits (Ok None) = Unit {0}
Fits (Ok (Some length)) = length ≤ LINE_ROOM
Fits (Err bad) = Unit {0}

-- the text that bytes give was written, and no line of theirs is bad; or they have a bad line, and give no text; or a write failed
abbrev pub IsGiven : Result (Unit {0}) Stop → Gives → List ℕ → SinkState → SinkState → Type 0
IsGiven (Ok all) gives line out out_now = (bad_of gives ≡ None) × WritesAll out out_now (given gives line)
IsGiven (Err (BadLine number)) gives line out out_now = (bad_of gives ≡ Some number) × WritesAll out out_now (given gives line)
IsGiven (Err WriteFault) gives line out out_now = (bad_of gives ≡ None) × WritesPrefix out out_now (given gives line)

-- all of a piece was taken, or its bytes up to a bad line, and the text of them is written since the start; or a write of it
-- failed
pub record TakesAll (holds : Holds) (start out : SinkState) (bytes : List ℕ) : Type 0 where
  pub text : List ℕ
  pub held : holds bytes text None
  pub written : WritesAll start out text

pub record MeetsBad (holds : Holds) (number : ℕ) (start out : SinkState) (bytes : List ℕ) : Type 0 where
  pub prefix : List ℕ
  pub later : List ℕ
  pub all : prefix ++ later ≡ bytes
  pub text : List ℕ
  pub held : holds prefix text (Some number)
  pub written : WritesAll start out text

-- a write failed in the text that the next bytes add, after the text of those before them was written whole; these and what was read
-- after them came in one piece of 512 bytes
pub record Stops (says : Says) (start out : SinkState) (bytes : List ℕ) : Type 0 where
  pub earlier : List ℕ
  pub next : List ℕ
  pub later : List ℕ
  pub all : earlier ++ (next ++ later) ≡ bytes
  pub near : length (next ++ later) ≤ 512
  pub text : List ℕ
  pub said : says earlier text
  pub between : SinkState
  pub whole : WritesAll start between text
  pub more : List ℕ
  pub adds : says (earlier ++ next) (text ++ more)
  pub failed : WritesPrefix between out more

-- why the taking of these bytes stopped in their last piece
abbrev pub StopsTaking : Holds → Says → SinkState → SinkState → Stop → List ℕ → Type 0
StopsTaking holds says start out (BadLine number) bytes = MeetsBad holds number start out bytes
StopsTaking holds says start out WriteFault bytes = Stops says start out bytes

-- what flows from a file to a sink: what both reported before and now
pub record Flow : Type 0 where
  pub file : SourceState
  pub file_now : SourceState
  pub out : SinkState
  pub out_now : SinkState

abbrev pub flow_of : SourceState → SourceState → SinkState → SinkState → Flow
flow_of file file_now out out_now = record { file = file; file_now = file_now; out = out; out_now = out_now }

-- the reading ended by itself, with the text of the bytes taken written; bytes were read after them only where they have
-- a bad line
pub record EndsItself (holds : Holds) (limit : ℕ) (flow : Flow) (end : LogEnd) : Type 0 where
  pub prefix : List ℕ
  pub later : List ℕ
  pub text : List ℕ
  pub bad : Option ℕ
  pub held : holds prefix text bad
  pub none_later : bad ≡ None → later ≡ []
  pub read : ReadsLines end limit flow.file flow.file_now (prefix ++ later) bad
  pub written : WritesAll flow.out flow.out_now text

-- a write failed in the text of the bytes taken, of which those after the written text came in one piece of 512 bytes
pub record EndsStopped (says : Says) (limit : ℕ) (flow : Flow) : Type 0 where
  pub bytes : List ℕ
  pub read : HasReadPrefix limit flow.file flow.file_now bytes
  pub stops : Stops says flow.out flow.out_now bytes

abbrev pub EndsTaking : {E : Type 0} → Holds → Says → ℕ → Flow → Result LogEnd E → Type 0
EndsTaking holds says limit flow result = MatchResult result (EndsItself holds limit flow) (λ _. EndsStopped says limit flow)
