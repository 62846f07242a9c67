-- What one line more comes to: what a receiver may receive, what it can take then, and the entries that are due.
use Rattle.std.proofs.Common.{◌≡◌, ◌≤◌, ◌+◌, ℕ, Option, Some, Ok, List, [], ◌∷◌, ◌++◌, map, ap, ◌∙◌, arith}
use Rattle.std.specs.Option.{option_to_list}
use Rattle.std.proofs.lemmas.List.{map-append}
use Rattle.tick_units.specs.Log.{pulses}
use Rattle.tick_units.specs.declared.marks.Plan.{Plan}
use Rattle.tick_units.specs.declared.marks.Reduction.{Reduction}
use Rattle.tick_units.specs.declared.verdicts.Heard.{Heard}
use Rattle.journal_entry.specs.declared.entry.Entry.{Entry}
use Rattle.pulse_log.specs.Reading.{TakesPrefix}
use Rattle.pulse_log.specs.declared.reader.LineReader.{LineReader}
use Rattle.radio_receiver.specs.Histories.{answers_of, least_after, with_reduction}
use Rattle.radio_receiver.proofs.LastLaws.{least_push}
use Rattle.radio_receiver.specs.Decoding.{history_of}
use Rattle.radio_receiver.specs.Due.{due_log, entry_of}
use Rattle.radio_receiver.proofs.RiseLaws.{pulses_rise}

-- the reduction of the next line starts where a receiver can take it
pub may_receive : (least : ℕ) (reader : LineReader) (bytes prefix : List ℕ) (r : Reduction) → least ≤ least_after (pulses bytes) → TakesPrefix reader bytes prefix (Ok (Some r)) → least ≤ r.at
may_receive least reader bytes prefix r le takes = let rise = pulses_rise bytes (bytes ++ prefix) r takes.found.1 in omega (arith, le, rise)

-- a receiver that has received it can take what comes after it
pub least_on : (least : ℕ) (bytes longer : List ℕ) (r : Reduction) → least ≡ r.at + 1 → pulses longer ≡ pulses bytes ++ r ∷ [] → least ≤ least_after (pulses longer)
least_on least bytes longer r is more = let push = ap least_after more ∙ least_push (pulses bytes) r in omega (arith, is, push)

-- the answer that it completes is the entry that is due
pub due_more : (feed : ℕ) (plan : Plan) (delay : ℕ) (bytes longer : List ℕ) (r : Reduction) (heard : Option Heard) (entry : Option Entry) → pulses longer ≡ pulses bytes ++ r ∷ [] →
    answers_of (with_reduction (history_of plan delay bytes) r) ≡ answers_of (history_of plan delay bytes) ++ option_to_list heard →
    map (entry_of feed) (option_to_list heard) ≡ option_to_list entry → due_log feed plan delay longer ≡ due_log feed plan delay bytes ++ option_to_list entry
due_more feed plan delay bytes longer r heard entry more answered is =
    ap (λ (rs : List Reduction). map (entry_of feed) (answers_of (record { plan = plan; delay = delay; reductions = rs }))) more
    ∙ ap (map (entry_of feed)) answered
    ∙ map-append (entry_of feed) (answers_of (history_of plan delay bytes)) (option_to_list heard)
    ∙ ap (λ (es : List Entry). due_log feed plan delay bytes ++ es) is

-- none is due where no line ends
pub due_same : (feed : ℕ) (plan : Plan) (delay : ℕ) (bytes longer : List ℕ) → pulses longer ≡ pulses bytes → due_log feed plan delay longer ≡ due_log feed plan delay bytes
due_same feed plan delay bytes longer same = ap (λ (rs : List Reduction). map (entry_of feed) (answers_of (record { plan = plan; delay = delay; reductions = rs }))) same
