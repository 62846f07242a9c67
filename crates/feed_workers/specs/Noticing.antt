-- The bytes of a leap second file one by one and piece by piece: scaffolding for the proof of its worker, which no public clause needs.
use Rattle.std.specs.Prelude.{◌≡◌, ℕ, true, false, None, Some, List, option_map, Result, Ok, Err}
use Rattle.leap_file.specs.Reading.{HasRead, counted}
use Rattle.leap_file.specs.Rows.{bad_row}
use Rattle.leap_file.specs.declared.reader.BadLeap.{BadLeap}
use Rattle.leap_file.specs.declared.reader.LeapReader.{LeapReader}
use Rattle.feed_workers.specs.Keeping.{Keeps, Share}
use Rattle.feed_workers.specs.Leaps.{due_leap}
use Rattle.feed_workers.specs.Logs.{Intake}
use Rattle.file_reader.specs.Pieces.{EndsPieces}
use Rattle.file_reader.specs.declared.reader.FileEnd.{FileEnd}
use Rattle.file_reader.specs.Ends.{EndsAt}
use Rattle.file_reader.specs.declared.log_end.LogEnd.{LogEnd}

-- these bytes were read, they have no bad line, and what is due for them was kept
pub record HasNoticed (reader : LeapReader) (start : ℕ) (share : Share) (bytes : List ℕ) : Type 0 where
  pub read : HasRead reader bytes
  pub kept : Keeps share (due_leap share.begun.number start false bytes)
  pub good : bad_row false bytes ≡ None

-- these bytes have this bad line, and what is due for them was kept
pub record HasPassed (start : ℕ) (share : Share) (bytes : List ℕ) (line : ℕ) : Type 0 where
  pub kept : Keeps share (due_leap share.begun.number start false bytes)
  pub bad : option_map counted (bad_row false bytes) ≡ Some line

-- a byte was taken after others, with which they are these; or it ends a bad line
abbrev pub NoticesByte : {A : Type 0} → LeapReader → ℕ → Share → List ℕ → Result A BadLeap → Type 0
NoticesByte reader start share bytes (Ok unit) = HasNoticed reader start share bytes
NoticesByte reader start share bytes (Err bad) = HasPassed start share bytes bad.line

-- the result of a file's pieces: they were taken to the end of the reading, or up to a bad line
abbrev pub EndsNoticing : LeapReader → ℕ → Intake → Result FileEnd ℕ → Type 0
EndsNoticing reader start intake read =
    EndsPieces (HasNoticed reader start intake.share) (λ line bytes. HasPassed start intake.share bytes line) intake.most intake.begun intake.file read

-- the file came to its end after these bytes: its last line counts, with its notice or as a bad line
pub record EndsList (start : ℕ) (share : Share) (bytes : List ℕ) (end : LogEnd) : Type 0 where
  pub kept : Keeps share (due_leap share.begun.number start true bytes)
  pub ends : EndsAt end (option_map counted (bad_row true bytes))
