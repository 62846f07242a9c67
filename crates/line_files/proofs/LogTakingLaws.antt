-- What a decoder of a log stands for, with more bytes.
use Rattle.std.proofs.Common.{◌≡◌, ℕ, Option, None, Some, Result, Ok, Err, List, [], ◌∷◌, ◌++◌, refl, ap, sym, ◌∙◌, subst}
use Rattle.std.proofs.lemmas.List.{append-nil}
use Rattle.std.proofs.lemmas.List.Concat.{flat_map-append}
use Rattle.journal_entry.specs.declared.entry.Entry.{Entry}
use Rattle.radio_receiver.specs.Decoding.{HasDecoded, DecodesPrefix, radio_log}
use Rattle.radio_receiver.specs.Due.{due_log, entry_line, lines_of_entries}
use Rattle.radio_receiver.proofs.DueLaws.{due_none}
use Rattle.pulse_log.specs.declared.reader.BadLine.{BadLine}
use Rattle.radio_receiver.specs.Histories.{History}
use Rattle.tick_units.specs.Log.{bad_at_end, lines_of, or_unfinished}
use Rattle.tick_units.specs.declared.marks.Plan.{Plan}
use Rattle.line_files.specs.LogTaking.{IsDecodedBy, IsFound, found_in, decoder_in, minutes_in, log_says}
use Rattle.line_files.specs.declared.log.Decoding.{Decoding}
use Rattle.command_ends.specs.Minutes.{minutes_of}
use Rattle.line_files.specs.Reading.{bad_in_the_end}
use Rattle.line_files.specs.Taking.{Gives, given, bad_of}
use Rattle.line_files.specs.Texts.{log_text}

text_none : (plan : Plan) → ◌≡◌ {A = List ℕ} [] (log_text plan [])
text_none plan = ap lines_of_entries (sym (due_none 0 plan 0))

module _ {B : Type 0} (stands : B → History → Type 0) where
  -- nothing is taken yet
  pub decoded_none : (d : Decoding B) (plan : Plan) → HasDecoded stands (decoder_in d) 0 plan 0 [] → minutes_in d ≡ minutes_of [] → IsDecodedBy stands d plan [] [] None
  decoded_none d plan h none = record {
    decoded = h;
    text_is = text_none plan;
    minutes_are = none ∙ ap minutes_of (sym (due_none 0 plan 0));
    bad_is = refl;
  }

  module _ (d now : Decoding B) (plan : Plan) (before prefix text line : List ℕ) (h : IsDecodedBy stands d plan before text None) where
    same_text : due_log 0 plan 0 (before ++ prefix) ≡ due_log 0 plan 0 before → text ++ [] ≡ log_text plan (before ++ prefix)
    same_text same = append-nil text ∙ h.text_is ∙ sym (ap lines_of_entries same)

    one_more : (entry : Entry) → due_log 0 plan 0 (before ++ prefix) ≡ due_log 0 plan 0 before ++ entry ∷ [] → text ++ entry_line entry ≡ log_text plan (before ++ prefix)
    one_more entry more =
        ap (λ (t : List ℕ). t ++ entry_line entry) h.text_is
        ∙ ap (λ (t : List ℕ). log_text plan before ++ t) (sym (append-nil (entry_line entry)))
        ∙ sym (flat_map-append entry_line (due_log 0 plan 0 before) (entry ∷ []))
        ∙ sym (ap lines_of_entries more)

    -- what is due to the log now is what was due before, and what was found
    due_found : (found : Result (Option Entry) BadLine) → DecodesPrefix stands (decoder_in now) (radio_log 0 plan 0) before prefix found →
        due_log 0 plan 0 (before ++ prefix) ≡ due_log 0 plan 0 before ++ found_in found
    due_found (Ok None) took = took.finds.1
    due_found (Ok (Some entry)) took = took.finds.1
    due_found (Err bad) took = took.finds.1 ∙ sym (append-nil (due_log 0 plan 0 before))

    -- a beginning of what comes was taken, and what was found in it is given
    given_on : (found : Result (Option Entry) BadLine) (gives : Gives) → DecodesPrefix stands (decoder_in now) (radio_log 0 plan 0) before prefix found → IsFound found gives line →
        minutes_in now ≡ minutes_of (due_log 0 plan 0 (before ++ prefix)) → IsDecodedBy stands now plan (before ++ prefix) (text ++ given gives line) (bad_of gives)
    given_on (Ok None) gives took is minutes = subst (λ (k : Gives). IsDecodedBy stands now plan (before ++ prefix) (text ++ given k line) (bad_of k)) (sym is)
        (record { decoded = took.decoded; text_is = same_text (took.finds.1 ∙ append-nil (due_log 0 plan 0 before)); minutes_are = minutes; bad_is = sym took.finds.0 })
    given_on (Ok (Some entry)) (Ok None) took is minutes = absurd is
    given_on (Ok (Some entry)) (Err bad) took is minutes = absurd is
    given_on (Ok (Some entry)) (Ok (Some length)) took is minutes = record {
      decoded = took.decoded;
      text_is = ap (λ (t : List ℕ). text ++ t) is ∙ one_more entry took.finds.1;
      minutes_are = minutes;
      bad_is = sym took.finds.0;
    }
    given_on (Err bad) gives took is minutes = subst (λ (k : Gives). IsDecodedBy stands now plan (before ++ prefix) (text ++ given k line) (bad_of k)) (sym is)
        (record { decoded = took.decoded; text_is = same_text took.finds.1; minutes_are = minutes; bad_is = sym took.finds.0 })

    -- it is counted too
    pub decoded_on : (found : Result (Option Entry) BadLine) (gives : Gives) → DecodesPrefix stands (decoder_in now) (radio_log 0 plan 0) before prefix found → IsFound found gives line →
        ((entries : List Entry) → minutes_in d ≡ minutes_of entries → minutes_in now ≡ minutes_of (entries ++ found_in found)) →
        IsDecodedBy stands now plan (before ++ prefix) (text ++ given gives line) (bad_of gives)
    decoded_on found gives took is counted = given_on found gives took is
        (counted (due_log 0 plan 0 before) h.minutes_are ∙ ap minutes_of (sym (due_found found took)))

  -- the end of a log without a bad line so far
  pub late_line : (d : Decoding B) (plan : Plan) (bytes text : List ℕ) (late : Option ℕ) → IsDecodedBy stands d plan bytes text None → bad_at_end bytes ≡ late → bad_in_the_end None bytes ≡ late
  late_line d plan bytes text late h is = ap (λ (b : Option ℕ). or_unfinished b (lines_of bytes)) h.bad_is ∙ is

pub decoded_says : {B : Type 0} (stands : B → History → Type 0) (d : Decoding B) (plan : Plan) (bytes text : List ℕ) (bad : Option ℕ) → IsDecodedBy stands d plan bytes text bad → bad ≡ None → log_says plan bytes text
decoded_says stands d plan bytes text bad h none = (subst (λ (b : Option ℕ). IsDecodedBy stands d plan bytes text b) none h).text_is
