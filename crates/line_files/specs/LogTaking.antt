-- Scaffolding: the bytes that the decoding of a log has taken, the text that it has given for them, and their minutes.
use Rattle.std.specs.Prelude.{◌≡◌, ℕ, Option, None, Some, Result, Ok, Err, List, [], ◌∷◌}
use Rattle.tick_units.specs.Log.{bad_line}
use Rattle.tick_units.specs.declared.marks.Plan.{Plan}
use Rattle.journal_entry.specs.declared.entry.Entry.{Entry}
use Rattle.radio_receiver.specs.Decoding.{HasDecoded}
use Rattle.radio_receiver.specs.Due.{due_log, entry_line}
use Rattle.radio_receiver.specs.declared.decoder.LogDecoder.{LogDecoder}
use Rattle.pulse_log.specs.declared.reader.BadLine.{BadLine}
use Rattle.radio_receiver.specs.Histories.{History}
use Rattle.command_ends.specs.Minutes.{minutes_of}
use Rattle.command_ends.specs.declared.minutes.Minutes.{Minutes}
use Rattle.line_files.specs.declared.log.Decoding.{Decoding}
use Rattle.line_files.specs.Texts.{log_text}
use Rattle.line_files.specs.Taking.{Gives, given}

abbrev pub decoder_in : {B : Type 0} → Decoding B → LogDecoder B
decoder_in decoding = decoding.decoder

abbrev pub minutes_in : {B : Type 0} → Decoding B → Minutes
minutes_in decoding = decoding.minutes

-- it has taken these bytes as feed 0 without a path delay, given their text and counted their minutes; this is their first bad line
pub record IsDecodedBy {B : Type 0} (stands : B → History → Type 0) (decoding : Decoding B) (plan : Plan) (bytes text : List ℕ) (bad : Option ℕ) : Type 0 where
  pub decoded : HasDecoded stands (decoder_in decoding) 0 plan 0 bytes
  pub text_is : text ≡ log_text plan bytes
  pub minutes_are : minutes_in decoding ≡ minutes_of (due_log 0 plan 0 bytes)
  pub bad_is : bad ≡ bad_line bytes

-- the text of these bytes
abbrev pub log_says : Plan → List ℕ → List ℕ → Type 0
log_says plan bytes text = text ≡ log_text plan bytes

-- what was found is given, in a line of this content
abbrev pub IsFound : Result (Option Entry) BadLine → Gives → List ℕ → Type 0
IsFound (Ok None) gives line = gives ≡ Ok None
IsFound (Ok (Some entry)) (Ok None) line = ⊥
IsFound (Ok (Some entry)) (Ok (Some length)) line = given (Ok (Some length)) line ≡ entry_line entry
IsFound (Ok (Some entry)) (Err bad) line = ⊥
IsFound (Err bad) gives line = gives ≡ Err bad

-- the entry that was found, if one was
abbrev pub found_in : Result (Option Entry) BadLine → List Entry
found_in (Ok None) = []
found_in (Ok (Some entry)) = entry ∷ []
found_in (Err bad) = []
