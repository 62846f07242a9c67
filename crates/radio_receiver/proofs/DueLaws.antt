-- The entries of a log are the first entries of any longer one.
use Rattle.std.proofs.Common.{◌≡◌, ℕ, None, List, [], ◌++◌, map, ap, ◌∙◌}
use Rattle.std.specs.List.{last_or}
use Rattle.std.proofs.lemmas.List.{map-append}
use Rattle.std.proofs.lemmas.List.Concat.{flat_map-append}
use Rattle.tick_units.specs.Log.{pulses}
use Rattle.code_plans.specs.Codes.{code_of}
use Rattle.second_marks.specs.Marks.{marks_of}
use Rattle.minute_pair.specs.Segments.{Segment, segments_of}
use Rattle.tick_units.specs.declared.marks.Mark.{Mark}
use Rattle.tick_units.specs.declared.marks.Plan.{Plan}
use Rattle.tick_units.specs.declared.marks.Reduction.{Reduction}
use Rattle.tick_units.specs.declared.verdicts.Heard.{Heard}
use Rattle.journal_entry.specs.declared.entry.Entry.{Entry}
use Rattle.pulse_log.proofs.LogLaws.{pulses_grow}
use Rattle.second_marks.proofs.MarkLaws.{marks_grow, marks_none}
use Rattle.minute_pair.specs.Answers.{answers, answers_after}
use Rattle.minute_pair.proofs.Growth.{segments_grow}
use Rattle.minute_pair.proofs.PairingLaws.{answers_grow}
use Rattle.radio_receiver.specs.Histories.{sent}
use Rattle.radio_receiver.specs.Due.{due_log, entry_of, entry_line, lines_of_entries}

abbrev entries_of : ℕ → ℕ → List Heard → List Entry
entries_of feed delay heard = map (entry_of feed) (map (sent delay) heard)

entries_append : (feed delay : ℕ) (xs ys : List Heard) → entries_of feed delay (xs ++ ys) ≡ entries_of feed delay xs ++ entries_of feed delay ys
entries_append feed delay xs ys = ap (map (entry_of feed)) (map-append (sent delay) xs ys) ∙ map-append (entry_of feed) (map (sent delay) xs) (map (sent delay) ys)

-- nothing is due to an empty log
pub due_none : (feed : ℕ) (plan : Plan) (delay : ℕ) → due_log feed plan delay [] ≡ []
due_none feed plan delay = ap (λ (ms : List Mark). entries_of feed delay (answers plan (segments_of plan ms))) (marks_none (code_of plan))

pub due_grows : (feed : ℕ) (plan : Plan) (delay : ℕ) (bytes more : List ℕ) → (later : List Entry) × (due_log feed plan delay (bytes ++ more) ≡ due_log feed plan delay bytes ++ later)
due_grows feed plan delay bytes more =
    let reductions = pulses_grow bytes more in
    let marks = marks_grow (code_of plan) (pulses bytes) reductions.0 in
    let old = segments_of plan (marks_of plan (pulses bytes)) in
    let segments = segments_grow (code_of plan) (marks_of plan (pulses bytes)) marks.0 in
    let later = answers_after (code_of plan) (last_or None old) segments.0 in (
      entries_of feed delay later,
      ap (λ (rs : List Reduction). entries_of feed delay (answers plan (segments_of plan (marks_of plan rs)))) reductions.1
          ∙ ap (λ (ms : List Mark). entries_of feed delay (answers plan (segments_of plan ms))) marks.1
          ∙ ap (λ (ss : List Segment). entries_of feed delay (answers plan ss)) segments.1
          ∙ ap (entries_of feed delay) (answers_grow (code_of plan) None old segments.0)
          ∙ entries_append feed delay (answers plan old) later,
    )

-- their text is a beginning of its text
pub lines_grow : (feed : ℕ) (plan : Plan) (delay : ℕ) (bytes more : List ℕ) →
    (rest : List ℕ) × (lines_of_entries (due_log feed plan delay (bytes ++ more)) ≡ lines_of_entries (due_log feed plan delay bytes) ++ rest)
lines_grow feed plan delay bytes more =
    let grows = due_grows feed plan delay bytes more in
    (lines_of_entries grows.0, ap lines_of_entries grows.1 ∙ flat_map-append entry_line (due_log feed plan delay bytes) grows.0)
