-- The state of a decoder, by the bytes of the log that it has taken and the entries that they gave. All of it is this project's
-- own.
use Rattle.std.specs.Prelude.{◌≡◌, ◌≤◌, ◌^◌, ℕ, Option, None, Some, List, ◌++◌, Result, MatchResult}
use Rattle.std.specs.Option.{option_to_list}
use Rattle.tick_units.specs.Log.{pulses, bad_line}
use Rattle.tick_units.specs.declared.marks.Plan.{Plan}
use Rattle.journal_entry.specs.Valid.{IsValidWhat}
use Rattle.journal_entry.specs.declared.entry.Entry.{Entry}
use Rattle.pulse_log.specs.Reading.{HasRead}
use Rattle.pulse_log.specs.declared.reader.BadLine.{BadLine}
use Rattle.radio_receiver.specs.Histories.{History, least_after}
use Rattle.radio_receiver.specs.Due.{due_log}
use Rattle.radio_receiver.specs.declared.decoder.LogDecoder.{LogDecoder}

-- a receiver with this plan and this delay has received the reductions of these bytes
abbrev pub history_of : Plan → ℕ → List ℕ → History
history_of plan delay bytes = record { plan = plan; delay = delay; reductions = pulses bytes }

-- a log has at most 2^30 bytes
abbrev pub most_of_a_log : ℕ
most_of_a_log = 2 ^ 30

-- the feed whose log it decodes
abbrev pub feed_of : {B : Type 0} → LogDecoder B → ℕ
feed_of decoder = decoder.feed

-- an entry of a feed, as receivers make them
pub record IsEntryOf (feed : ℕ) (entry : Entry) : Type 0 where
  pub of_feed : entry.feed ≡ feed
  pub valid : IsValidWhat entry.what

-- the decoder of a feed has taken these bytes: its reader has read them, and its receiver has received their reductions
pub record HasDecoded {B : Type 0} (stands : B → History → Type 0) (decoder : LogDecoder B) (feed : ℕ) (plan : Plan) (delay : ℕ) (bytes : List ℕ) : Type 0 where
  pub of_feed : decoder.feed ≡ feed
  pub read : HasRead decoder.reader bytes
  pub heard : stands decoder.receiver (history_of plan delay bytes)

-- it can take more: no line that may come starts before its receiver can take it
pub record IsReady {B : Type 0} (least : B → ℕ) (decoder : LogDecoder B) : Type 0 where
  pub bytes : List ℕ
  pub read : HasRead decoder.reader bytes
  pub rises : least decoder.receiver ≤ least_after (pulses bytes)

-- the bytes become these, which have no bad line and give one entry more or none; or they have this bad line, and give none
abbrev pub FindsEntry : ℕ → Plan → ℕ → List ℕ → List ℕ → Result (Option Entry) BadLine → Type 0
FindsEntry feed plan delay bytes longer found = MatchResult found
    (λ entry. (bad_line longer ≡ None) × (due_log feed plan delay longer ≡ due_log feed plan delay bytes ++ option_to_list entry))
    (λ bad. (bad_line longer ≡ Some bad.line) × (due_log feed plan delay longer ≡ due_log feed plan delay bytes))

-- whose log it is: a feed's number, its plan and its delay in microseconds
pub record RadioLog : Type 0 where
  pub feed : ℕ
  pub plan : Plan
  pub delay : ℕ

abbrev pub radio_log : ℕ → Plan → ℕ → RadioLog
radio_log feed plan delay = record { feed = feed; plan = plan; delay = delay }

-- a prefix of what comes is taken
pub record DecodesPrefix {B : Type 0} (stands : B → History → Type 0) (decoder : LogDecoder B) (log : RadioLog) (bytes prefix : List ℕ) (found : Result (Option Entry) BadLine) : Type 0 where
  pub decoded : HasDecoded stands decoder log.feed log.plan log.delay (bytes ++ prefix)
  pub finds : FindsEntry log.feed log.plan log.delay bytes (bytes ++ prefix) found
