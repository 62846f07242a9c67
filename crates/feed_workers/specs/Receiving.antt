-- The bytes of a log piece by piece: scaffolding for the proof of a radio's worker, which no public clause needs.
use Rattle.std.specs.Prelude.{◌≡◌, ℕ, Option, None, Some, Result, List, ◌++◌}
use Rattle.radio_receiver.specs.Decoding.{HasDecoded}
use Rattle.radio_receiver.specs.Due.{due_log}
use Rattle.radio_receiver.specs.declared.decoder.LogDecoder.{LogDecoder}
use Rattle.radio_receiver.specs.Histories.{History}
use Rattle.tick_units.specs.Log.{bad_line}
use Rattle.tick_units.specs.declared.marks.Plan.{Plan}
use Rattle.feed_workers.specs.Keeping.{Keeps, Share}
use Rattle.feed_workers.specs.Logs.{Intake}
use Rattle.file_reader.specs.Pieces.{EndsPieces}
use Rattle.file_reader.specs.declared.reader.FileEnd.{FileEnd}
use Rattle.page_cell.specs.declared.view.Claim.{Claim}

-- how a radio's log is decoded: by this code plan, and with this delay
pub record Tuning : Type 0 where
  pub plan : Plan
  pub delay : ℕ

-- these bytes were decoded, what is due for them was kept, and this is their bad line
pub record HasReceived {B : Type 0} (stands : B → History → Type 0) (decoder : LogDecoder B) (tuning : Tuning) (share : Share) (bytes : List ℕ) (bad : Option ℕ) : Type 0 where
  pub decoded : HasDecoded stands decoder share.begun.number tuning.plan tuning.delay bytes
  pub kept : Keeps share (due_log share.begun.number tuning.plan tuning.delay bytes)
  pub bad_is : bad_line bytes ≡ bad

-- these bytes have this bad line, and what is due for them was kept
pub record HasMissed (tuning : Tuning) (share : Share) (bytes : List ℕ) (line : ℕ) : Type 0 where
  pub kept : Keeps share (due_log share.begun.number tuning.plan tuning.delay bytes)
  pub bad_is : bad_line bytes ≡ Some line

-- the result of a log's pieces: they were received to the end of the reading, or up to a bad line
abbrev pub EndsReceiving : {B : Type 0} → (B → History → Type 0) → LogDecoder B → Tuning → Intake → Result FileEnd ℕ → Type 0
EndsReceiving stands decoder tuning intake read =
    EndsPieces (λ bytes. HasReceived stands decoder tuning intake.share bytes None) (λ line bytes. HasMissed tuning intake.share bytes line)
    intake.most intake.begun intake.file read

-- since when a worker listens: how its log is decoded, and what its pass claimed then
pub record Since : Type 0 where
  pub tuning : Tuning
  pub begun : Claim

-- of these bytes the rest is still to be heard
pub record HasReceivedUpTo {B : Type 0} (stands : B → History → Type 0) (decoder : LogDecoder B) (tuning : Tuning) (share : Share) (all rest : List ℕ) : Type 0 where
  pub prefix : List ℕ
  pub is : prefix ++ rest ≡ all
  pub heard : HasReceived stands decoder tuning share prefix None
