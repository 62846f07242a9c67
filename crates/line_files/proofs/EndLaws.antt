-- How the reading of a file ends whose bytes were taken as they came.
use Rattle.std.proofs.Common.{◌≡◌, ℕ, Option, None, Some, List, [], ◌++◌, refl, sym, subst, inl, inr}
use Rattle.std.proofs.lemmas.List.{append-nil}
use Rattle.outside_traits.specs.States.{SourceState, SinkState, Takes}
use Rattle.file_reader.specs.Ends.{HasReadPrefix, EndsReading}
use Rattle.file_reader.specs.declared.reader.FileEnd.TheVariants.{Whole, Fault, TooLong}
use Rattle.line_files.specs.Reading.{ReadsLines, bad_in_the_end}
use Rattle.line_files.specs.Taking.{Holds, Says, TakesAll, MeetsBad, Stops, EndsItself, EndsStopped, flow_of}
use Rattle.file_reader.specs.Ends.{EndsAt}
use Rattle.file_reader.specs.declared.log_end.LogEnd.{LogEnd}
use Rattle.file_reader.specs.declared.log_end.LogEnd.TheVariants as log

-- a reading that came to the end took all that it read
pub prefix_of_whole : (limit : ℕ) (file file_now : SourceState) (bytes : List ℕ) → EndsReading Whole limit file file_now bytes → HasReadPrefix limit file file_now bytes
prefix_of_whole limit file file_now bytes h = record {
  taken = subst (λ (b : List ℕ). Takes file.left file_now.left b) (append-nil bytes) (subst (λ (e : List ℕ). Takes file.left file_now.left (bytes ++ e)) h.cause.0 h.taken);
  most = h.most;
  no_fault = h.cause.2;
}

module _ (holds : Holds) (limit : ℕ) (file file_now : SourceState) (out out_now : SinkState) (bytes : List ℕ) where
  ends_with : (end : LogEnd) → TakesAll holds out out_now bytes → ReadsLines end limit file file_now bytes None → EndsItself holds limit (flow_of file file_now out out_now) end
  ends_with end h read = record {
    prefix = bytes;
    later = [];
    text = h.text;
    bad = None;
    held = h.held;
    none_later = λ _. refl;
    read = subst (λ (b : List ℕ). ReadsLines end limit file file_now b None) (sym (append-nil bytes)) read;
    written = h.written;
  }

  -- all bytes were read, and the last line is unfinished or not
  at_end : (end : LogEnd) → EndsAt end (bad_in_the_end None bytes) → EndsReading Whole limit file file_now bytes → ReadsLines end limit file file_now bytes None
  at_end log.Whole is read = (read, is)
  at_end log.Fault is read = absurd is
  at_end log.Long is read = absurd is
  at_end (log.BadLine line) is read = (prefix_of_whole limit file file_now bytes read, inr (read.cause.1, refl, is))

  pub ends_whole : (end : LogEnd) → TakesAll holds out out_now bytes → EndsReading Whole limit file file_now bytes → EndsAt end (bad_in_the_end None bytes) →
      EndsItself holds limit (flow_of file file_now out out_now) end
  ends_whole end h read is = ends_with end h (at_end end is read)

  -- a read failed
  pub ends_fault : TakesAll holds out out_now bytes → EndsReading Fault limit file file_now bytes → EndsItself holds limit (flow_of file file_now out out_now) log.Fault
  ends_fault h read = ends_with log.Fault h (read, refl)

  -- there are more bytes than the limit
  pub ends_long : TakesAll holds out out_now bytes → EndsReading TooLong limit file file_now bytes → EndsItself holds limit (flow_of file file_now out out_now) log.Long
  ends_long h read = ends_with log.Long h (read, refl)

  -- one of the bytes read ends a bad line
  pub ends_bad : (line : ℕ) → MeetsBad holds line out out_now bytes → HasReadPrefix limit file file_now bytes → EndsItself holds limit (flow_of file file_now out out_now) (log.BadLine line)
  ends_bad line h read = record {
    prefix = h.prefix;
    later = h.later;
    text = h.text;
    bad = Some line;
    held = h.held;
    none_later = λ none. absurd (let e : ◌≡◌ {A = Option ℕ} (Some line) None = none in cc);
    read = (subst (λ (b : List ℕ). HasReadPrefix limit file file_now b) (sym h.all) read, inl refl);
    written = h.written;
  }

-- a write failed
pub ends_stopped : (says : Says) (limit : ℕ) (file file_now : SourceState) (out out_now : SinkState) (bytes : List ℕ) → Stops says out out_now bytes → HasReadPrefix limit file file_now bytes →
    EndsStopped says limit (flow_of file file_now out out_now)
ends_stopped says limit file file_now out out_now bytes h read = record { bytes = bytes; read = read; stops = h }
