-- A command without a fault is done, and one that opened nothing is none.
use Rattle.std.proofs.Common.{◌≡◌, ℕ, ◌⊎◌, Option, Some, List, [], ◌∷◌, ◌++◌, length, ap, sym, ◌∙◌, subst, inl, inr, arith}
use Rattle.std.proofs.lemmas.List.{length-append}
use Rattle.command_words.specs.Commands.{Asked}
use Rattle.command_words.specs.Commands.Asked.{decode, drill, migrate, replay, serve}
use Rattle.outside_traits.specs.Faults.{Rose}
use Rattle.outside_traits.specs.States.{SinkState}
use Rattle.outside_traits.specs.Openings.{Opening, OutsideState, log_visit, visited}
use Rattle.command_ends.specs.Effects.{Effect}
use Rattle.command_ends.specs.Unopened.{Lacks}
use Rattle.radio_engine.specs.Run.{Runs, IsComplete, IsFaultless, IsRun, orders_of}
use Rattle.command_ends.specs.Writing.{Answers}
use Rattle.command_ends.specs.declared.ending.status.Status.{Status}
use Rattle.command_ends.specs.declared.ending.status.Status.TheVariants.{Done, Memory}
use Rattle.file_commands.proofs.GoodLogLaws.{log_done}
use Rattle.line_files.proofs.PrefixLaws.{rose_by_one}
use Rattle.station_report.proofs.GoodStationLaws.{station_done}
use Rattle.line_files.proofs.LineFileLaws.{IsReadable, against_done, one_way}
use Rattle.replay_command.proofs.ScriptLaws.{script_readable}
use Rattle.file_commands.proofs.MovingLaws.{one_line, short_line}
use Rattle.file_commands.specs.Migrating.{journal_of}
use Rattle.replay_command.specs.Replaying.{script_of}
use Rattle.station_values.specs.Station.{settings_of}
use Rattle.command_ends.specs.declared.ending.subject.Subject.TheVariants.{Journal, Script}
use Rattle.station_values.specs.Station.{StationFields}

-- where no write failed, the status is the one that was due
answered : (due result : Status) (out out_now : SinkState) (text : List ℕ) → (Rose out.faults out_now.faults → ⊥) → Answers due result out out_now text → result ≡ due
answered due result out out_now text no_write (inl all) = all.0
answered due result out out_now text no_write (inr failed) = absurd (no_write (rose_by_one out.faults out_now.faults failed.1.3))

-- openings that were reported are there
not_more : (reported : Option (List Opening)) (before more : List Opening) (one : Opening) → reported ≡ Some before → reported ≡ Some (before ++ one ∷ more) → ⊥
not_more reported before more one were are =
    let same : before ≡ before ++ one ∷ more = (let e = sym were ∙ are in cc) in
    let len = ap length same in
    absurd (omega (arith, length-append before (one ∷ more)))

-- where no memory was found, nothing was opened, which a command that opens something has as a fault
pub lacks_done : (asked : Asked) (effect : Effect) →
    IsFaultless asked effect.outside effect.outside_now → (Rose effect.out.faults effect.out_now.faults → ⊥) → Lacks effect → IsComplete asked effect.status
lacks_done asked effect good no_write lacks = by asked (subst (λ (o : OutsideState). IsFaultless asked effect.outside o) lacks.unchanged good)
  where
    by : (asked : Asked) → IsFaultless asked effect.outside effect.outside → IsComplete asked effect.status
    by (decode plan log) p = absurd (not_more effect.outside.openings p.before [] (visited (log_visit log p.opened p.back)) p.were p.are)
    by (replay station script limit) p = absurd (not_more effect.outside.openings p.before _ (visited (log_visit station p.opened p.back)) p.were p.are)
    by (serve station during after limit) p = absurd (not_more effect.outside.openings p.before _ (visited (log_visit station p.opened p.back)) p.were p.are)
    by (drill seed limit) p = inr (answered Memory effect.status effect.out effect.out_now _ no_write lacks.written)
    by (migrate station journal) p = absurd (not_more effect.outside.openings p.before _ (visited (log_visit station p.opened p.back)) p.were p.are)

journal_readable : (of : StationFields) → IsReadable (journal_of of)
journal_readable of = one_way (journal_of of) (one_line (settings_of of)) (short_line (settings_of of))

pub runs_done : (asked : Asked) (effect : Effect) →
    IsFaultless asked effect.outside effect.outside_now → (Rose effect.out.faults effect.out_now.faults → ⊥) →
    Lacks effect ⊎ Runs asked effect → IsComplete asked effect.status
runs_done asked effect good no_write (inl lacks) = lacks_done asked effect good no_write lacks
runs_done (decode plan log) effect good no_write (inr did) = log_done plan log effect good no_write did
runs_done (replay station script limit) effect good no_write (inr did) = against_done Script (script_of limit) (script_readable limit) station script effect good no_write did
runs_done (serve station during after limit) effect good no_write (inr did) = station_done station (orders_of during after limit) effect good no_write did
runs_done (drill seed limit) effect good no_write (inr did) = inl (answered Done effect.status effect.out effect.out_now _ no_write (did.same good))
runs_done (migrate station journal) effect good no_write (inr did) = against_done Journal journal_of journal_readable station journal effect good no_write did

-- nothing was opened, since no memory was found
pub run_unbegun : (words : List (List ℕ)) (effect : Effect) → Lacks effect → IsRun words effect
run_unbegun words effect lacks = record {
  refused = λ none. inr lacks;
  runs = λ asked h. inl lacks;
  complete = λ asked h good no_write. runs_done asked effect good no_write (inl lacks);
}
