-- What the worker of a leap second file does with its bytes, and why it ends. All of it is this project's own.
use Rattle.std.specs.Prelude.{◌≡◌, ℕ, ◌⊎◌, ◌^◌, Bool, true, false, Some, None, List, map}
use Rattle.outside_traits.specs.States.{SourceState}
use Rattle.file_reader.specs.Ends.{HasReadPrefix, EndsReading}
use Rattle.file_reader.specs.declared.reader.FileEnd.TheVariants as file
use Rattle.journal_entry.specs.declared.entry.Entry.{Entry}
use Rattle.journal_entry.specs.declared.entry.What.TheVariants.{Notice}
use Rattle.leap_file.specs.Rows.{bad_row, leap_seconds}
use Rattle.page_cell.specs.Passes.{claim_of}
use Rattle.feed_workers.specs.Keeping.{Keeps, share_of}
use Rattle.feed_workers.specs.Logs.{Intake, intake_of}
use Rattle.feed_workers.specs.declared.leap.LeapWorker.{LeapWorker}
use Rattle.file_reader.specs.declared.log_end.LogEnd.{LogEnd}
use Rattle.file_reader.specs.declared.log_end.LogEnd.TheVariants.{Whole, BadLine, Fault, Long}
use Rattle.feed_workers.specs.declared.work.LogWork.{LogWork}

-- a leap second file has at most 2^16 bytes
abbrev pub most_of_a_list : ℕ
most_of_a_list = 2 ^ 16

-- each of these leap seconds is a notice of the feed at the station's first moment
abbrev pub notices_of : ℕ → ℕ → List ℕ → List Entry
notices_of feed start seconds = map (λ second. record { feed = feed; at = start; what = Notice second }) seconds

-- the entries that are due for the bytes read of a file; `whole` says that its end was read
abbrev pub due_leap : ℕ → ℕ → (whole : Bool) → List ℕ → List Entry
due_leap feed start whole bytes = notices_of feed start (leap_seconds whole bytes)

-- These bytes were read of a file of at most this many, and the reading ended so. Whole: at the file's end, with no bad line. BadLine: at the
-- first bad line, which stands among the bytes or is the last one, without its line feed, at the file's end. Fault: a read failed. Long:
-- there is another byte after as many as a file may have. In the last two no line was bad so far
abbrev pub EndsLeap : ℕ → SourceState → SourceState → List ℕ → (whole : Bool) → LogEnd → Type 0
EndsLeap most log log_now bytes whole Whole = (whole ≡ true) × EndsReading file.Whole most log log_now bytes × (bad_row true bytes ≡ None)
EndsLeap most log log_now bytes whole (BadLine line) =
    ((whole ≡ false) × HasReadPrefix most log log_now bytes × (bad_row false bytes ≡ Some line))
    ⊎ ((whole ≡ true) × EndsReading file.Whole most log log_now bytes × (bad_row false bytes ≡ None) × (bad_row true bytes ≡ Some line))
EndsLeap most log log_now bytes whole Fault = (whole ≡ false) × EndsReading file.Fault most log log_now bytes × (bad_row false bytes ≡ None)
EndsLeap most log log_now bytes whole Long = (whole ≡ false) × EndsReading file.TooLong most log log_now bytes × (bad_row false bytes ≡ None)

-- the file of a leap second file's worker, from before its run to after it
abbrev pub leap_intake : {L : Type 0} → (L → SourceState) → (limit : ℕ) → LeapWorker L → LeapWorker L → LogWork → Intake
leap_intake state limit before now work =
    intake_of (state before.log) (state now.log) most_of_a_list (share_of (claim_of before.pass.view) now.pass limit work.full)

-- these bytes were read, and the entries that are due for them were kept
pub record RunsLeap (start : ℕ) (intake : Intake) (end : LogEnd) : Type 0 where
  pub bytes : List ℕ
  pub whole : Bool
  pub kept : Keeps intake.share (due_leap intake.share.begun.number start whole bytes)
  pub ends : EndsLeap intake.most intake.begun intake.file bytes whole end
