-- What a radio's worker does with the bytes of its log, and why it ends. All of it is this project's own.
use Rattle.std.specs.Prelude.{◌≡◌, ℕ, ◌⊎◌, Some, None, List}
use Rattle.outside_traits.specs.States.{SourceState}
use Rattle.file_reader.specs.Ends.{HasReadPrefix, EndsReading}
use Rattle.file_reader.specs.declared.reader.FileEnd.TheVariants as file
use Rattle.radio_receiver.specs.Decoding.{most_of_a_log}
use Rattle.radio_receiver.specs.Due.{due_log}
use Rattle.page_cell.specs.Passes.{claim_of}
use Rattle.tick_units.specs.Log.{bad_at_end, bad_line}
use Rattle.tick_units.specs.declared.marks.Plan.{Plan}
use Rattle.feed_workers.specs.Keeping.{Keeps, Share, share_of}
use Rattle.feed_workers.specs.declared.radio.WorkerOf.{WorkerOf}
use Rattle.file_reader.specs.declared.log_end.LogEnd.{LogEnd}
use Rattle.file_reader.specs.declared.log_end.LogEnd.TheVariants.{Whole, BadLine, Fault, Long}
use Rattle.feed_workers.specs.declared.work.LogWork.{LogWork}

-- These bytes were read of a log of at most this many, and the reading ended so. Whole: at the log's end, with no bad line and no
-- unfinished one. BadLine: at the first bad line, which stands among the bytes or is the unfinished one at the log's end. Fault: a read
-- failed. Long: there is another byte after as many as a log may have. In the last two no line was bad so far
abbrev pub EndsLog : ℕ → SourceState → SourceState → List ℕ → LogEnd → Type 0
EndsLog most log log_now bytes Whole = EndsReading file.Whole most log log_now bytes × (bad_at_end bytes ≡ None)
EndsLog most log log_now bytes (BadLine line) =
    (HasReadPrefix most log log_now bytes × (bad_line bytes ≡ Some line))
    ⊎ (EndsReading file.Whole most log log_now bytes × (bad_line bytes ≡ None) × (bad_at_end bytes ≡ Some line))
EndsLog most log log_now bytes Fault = EndsReading file.Fault most log log_now bytes × (bad_line bytes ≡ None)
EndsLog most log log_now bytes Long = EndsReading file.TooLong most log log_now bytes × (bad_line bytes ≡ None)

-- a file that a worker reads: as it was when the worker began, and as it is now; the most bytes that it may have, and the feed's share of
-- the journal
pub record Intake : Type 0 where
  pub begun : SourceState
  pub file : SourceState
  pub most : ℕ
  pub share : Share

abbrev pub intake_of : SourceState → SourceState → (most : ℕ) → Share → Intake
intake_of begun file most share = record { begun = begun; file = file; most = most; share = share }

-- the log of a radio's worker, from before its run to after it
abbrev pub log_intake : {L B : Type 0} → (L → SourceState) → (limit : ℕ) → WorkerOf L B → WorkerOf L B → LogWork → Intake
log_intake state limit before now work =
    intake_of (state before.log) (state now.log) most_of_a_log (share_of (claim_of before.pass.view) now.pass limit work.full)

-- these bytes were read, and the entries that are due for them were kept
pub record RunsLog (plan : Plan) (delay : ℕ) (intake : Intake) (end : LogEnd) : Type 0 where
  pub bytes : List ℕ
  pub kept : Keeps intake.share (due_log intake.share.begun.number plan delay bytes)
  pub ends : EndsLog intake.most intake.begun intake.file bytes end
