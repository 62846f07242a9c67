-- How the decoding of a log ends.
use Rattle.std.proofs.Common.{◌≡◌, ℕ, Option, None, Some, List, [], ◌++◌, map, refl, ap, sym, ◌∙◌, subst, inl, inr, append_assoc}
use Rattle.std.proofs.lemmas.List.{append-nil}
use Rattle.outside_traits.specs.States.{SourceState, SinkState}
use Rattle.file_reader.specs.Ends.{HasReadPrefix}
use Rattle.radio_receiver.specs.Decoding.{most_of_a_log}
use Rattle.radio_receiver.specs.Due.{due_log, entry_of, lines_of_entries}
use Rattle.radio_receiver.proofs.DueLaws.{lines_grow}
use Rattle.pulse_log.proofs.LogLaws.{bad_stays}
use Rattle.radio_receiver.specs.Histories.{History, answers_of}
use Rattle.tick_units.specs.Log.{bad_line, pulses}
use Rattle.tick_units.specs.declared.marks.Plan.{Plan}
use Rattle.tick_units.specs.declared.marks.Reduction.{Reduction}
use Rattle.file_commands.specs.Decoding.{Decodes, CountsMinutes}
use Rattle.command_ends.specs.Endings.{status_of, status_line, ending_at}
use Rattle.command_ends.specs.Minutes.{minutes_of}
use Rattle.line_files.specs.LogTaking.{IsDecodedBy, log_says, minutes_in}
use Rattle.line_files.specs.declared.log.Decoding.{Decoding}
use Rattle.line_files.specs.Reading.{ReadsLines}
use Rattle.line_files.specs.Taking.{flow_of, EndsItself, EndsStopped}
use Rattle.line_files.specs.Texts.{log_text}
use Rattle.outside_traits.specs.Writing.{WritesAll}
use Rattle.command_ends.specs.Writing.{Answers}
use Rattle.command_ends.specs.declared.ending.status.Status.{Status}
use Rattle.command_ends.specs.declared.ending.status.Status.TheVariants.{WriteFault}
use Rattle.command_ends.specs.declared.ending.subject.Subject.TheVariants.{Feed}
use Rattle.file_reader.specs.declared.log_end.LogEnd.{LogEnd}
use Rattle.outside_traits.proofs.WritingLaws.{prefix_of_more}

module _ {B : Type 0} (stands : B → History → Type 0) where
  -- bytes after a bad line change neither that line nor what is due
  due_same : (plan : Plan) (bytes more : List ℕ) → pulses more ≡ pulses bytes → due_log 0 plan 0 more ≡ due_log 0 plan 0 bytes
  due_same plan bytes more same = ap (λ (rs : List Reduction). map (entry_of 0) (answers_of (record { plan = plan; delay = 0; reductions = rs }))) same

  stays : (plan : Plan) (prefix later : List ℕ) (bad : Option ℕ) → bad ≡ bad_line prefix → (bad ≡ None → later ≡ []) →
      (bad_line (prefix ++ later) ≡ bad) × (due_log 0 plan 0 (prefix ++ later) ≡ due_log 0 plan 0 prefix)
  stays plan prefix later None is none =
      let same : prefix ++ later ≡ prefix = ap (λ (b : List ℕ). prefix ++ b) (none refl) ∙ append-nil prefix in
      (ap bad_line same ∙ sym is, ap (due_log 0 plan 0) same)
  stays plan prefix later (Some n) is none =
      let h = bad_stays prefix later n (sym is) in
      (h.0, due_same plan prefix (prefix ++ later) h.1)

  -- the status line after the lines
  pub decodes_after : (plan : Plan) (d : Decoding B) (file file_now : SourceState) (out out_mid out_now : SinkState) (end : LogEnd) (result : Status) →
      EndsItself (IsDecodedBy stands d plan) most_of_a_log (flow_of file file_now out out_mid) end →
      Answers (status_of (ending_at (Feed 0) end)) result out_mid out_now (status_line (ending_at (Feed 0) end)) → Decodes plan file file_now out out_now result
  decodes_after plan d file file_now out out_mid out_now end result h answers =
      let decoded : IsDecodedBy stands d plan h.prefix h.text h.bad = h.held in
      let same = stays plan h.prefix h.later h.bad decoded.bad_is h.none_later in
      inl (record {
        bytes = h.prefix ++ h.later;
        due = end;
        read = subst (λ (b : Option ℕ). ReadsLines end most_of_a_log file file_now (h.prefix ++ h.later) b) (sym same.0) h.read;
        between = out_mid;
        lines = subst (λ (t : List ℕ). WritesAll out out_mid t) (decoded.text_is ∙ sym (ap lines_of_entries same.1)) h.written;
        written = answers;
      })

  -- the minutes are those of all bytes that were read
  pub counts_after : (plan : Plan) (d : Decoding B) (file file_now : SourceState) (out out_mid : SinkState) (end : LogEnd) →
      EndsItself (IsDecodedBy stands d plan) most_of_a_log (flow_of file file_now out out_mid) end → CountsMinutes plan file file_now (minutes_in d)
  counts_after plan d file file_now out out_mid end h =
      let decoded : IsDecodedBy stands d plan h.prefix h.text h.bad = h.held in
      let same = stays plan h.prefix h.later h.bad decoded.bad_is h.none_later in
      record {
        bytes = h.prefix ++ h.later;
        due = end;
        read = subst (λ (b : Option ℕ). ReadsLines end most_of_a_log file file_now (h.prefix ++ h.later) b) (sym same.0) h.read;
        are = decoded.minutes_are ∙ ap minutes_of (sym same.1);
      }

-- a write failed in the lines that the last piece adds
pub decodes_stopped : (plan : Plan) (file file_now : SourceState) (out out_now : SinkState) → EndsStopped (log_says plan) most_of_a_log (flow_of file file_now out out_now) → Decodes plan file file_now out out_now WriteFault
decodes_stopped plan file file_now out out_now h =
    let s = h.stops in
    let grows = lines_grow 0 plan 0 (s.earlier ++ s.next) s.later in
    inr (record {
      earlier = s.earlier;
      next = s.next ++ s.later;
      read = subst (λ (b : List ℕ). HasReadPrefix most_of_a_log file file_now b) (sym s.all) h.read;
      near = s.near;
      between = s.between;
      lines = subst (λ (t : List ℕ). WritesAll out s.between t) s.said s.whole;
      more = s.more ++ grows.0;
      adds = ap (log_text plan) (sym (append_assoc s.earlier s.next s.later)) ∙ grows.1 ∙ ap (λ (t : List ℕ). t ++ grows.0) (sym s.adds) ∙ ap (λ (t : List ℕ). (t ++ s.more) ++ grows.0) s.said
          ∙ append_assoc (log_text plan s.earlier) s.more grows.0;
      failed = prefix_of_more s.between out_now s.more (s.more ++ grows.0) (grows.0, refl) s.failed;
      answer = refl;
    })
