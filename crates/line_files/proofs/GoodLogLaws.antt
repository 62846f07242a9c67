-- A log without a fault is read whole.
use Rattle.std.proofs.Common.{◌≡◌, ℕ, Option, Some, None, List, [], ◌++◌, length, refl, ap, sym, ◌∙◌, inl, inr, arith, append_assoc}
use Rattle.std.proofs.lemmas.List.{append-nil, length-append}
use Rattle.outside_traits.specs.States.{SourceState}
use Rattle.pulse_log.proofs.LogLaws.{bad_stays}
use Rattle.tick_units.specs.Log.{bad_line, bad_at_end, or_unfinished, lines_of}
use Rattle.line_files.specs.GoodLogs.{IsGoodLog}
use Rattle.radio_receiver.specs.Decoding.{most_of_a_log}
use Rattle.file_reader.specs.Ends.{HasReadPrefix, EndsReading}
use Rattle.file_reader.specs.declared.reader.FileEnd.{FileEnd}
use Rattle.file_reader.specs.declared.reader.FileEnd.TheVariants.{TooLong}
use Rattle.line_files.specs.Reading.{ReadsLines}
use Rattle.file_reader.specs.declared.log_end.LogEnd.{LogEnd}
use Rattle.file_reader.specs.declared.log_end.LogEnd.TheVariants as log
use Rattle.line_files.proofs.PrefixLaws.{none_left, prefix_of, rose_by_one, whole_text}

good_line : (bytes : List ℕ) (o : Option ℕ) → bad_line bytes ≡ o → or_unfinished o (lines_of bytes) ≡ None → bad_line bytes ≡ None
good_line bytes None is e = is
good_line bytes (Some n) is e = cc

-- a beginning of a log without a bad line has none
no_bad_prefix : (bytes extra rest text : List ℕ) (n : ℕ) → text ≡ (bytes ++ extra) ++ rest → bad_at_end text ≡ None → bad_line bytes ≡ Some n → ⊥
no_bad_prefix bytes extra rest text n e good is =
    let stays = bad_stays bytes (extra ++ rest) n is in
    let whole : bad_line text ≡ Some n = ap bad_line (e ∙ append_assoc bytes extra rest) ∙ stays.0 in
    let wrong : ◌≡◌ {A = Option ℕ} None (Some n) = sym (good_line text (bad_line text) refl good) ∙ whole in
    cc

-- such a log is read to its end
module _ (opened back : SourceState) (good : IsGoodLog opened back) (bytes : List ℕ) where
  -- a reading that ended so took a beginning of the text
  pub prefix_by : (end : FileEnd) (read : EndsReading end most_of_a_log opened back bytes) → (rest : List ℕ) × (back.left ≡ Some rest) × (good.text ≡ (bytes ++ read.extra) ++ rest)
  prefix_by end read = prefix_of opened.left back.left good.text (bytes ++ read.extra) good.reported good.reports read.taken

  prefix_so_far : HasReadPrefix most_of_a_log opened back bytes → (rest : List ℕ) × (back.left ≡ Some rest) × (good.text ≡ (bytes ++ []) ++ rest)
  prefix_so_far read =
      let prefix = prefix_of opened.left back.left good.text bytes good.reported good.reports read.taken in
      (prefix.0, prefix.1, prefix.2 ∙ ap (λ (b : List ℕ). b ++ prefix.0) (sym (append-nil bytes)))

  pub good_reach : (end : LogEnd) → ReadsLines end most_of_a_log opened back bytes (bad_line bytes) → end ≡ log.Whole
  good_reach log.Whole h = refl
  good_reach log.Fault h = absurd (good.no_fault (rose_by_one opened.faults back.faults h.0.cause.1))
  good_reach log.Long h =
      let prefix = prefix_by TooLong h.0 in
      let size = h.0.cause.0 in
      let one = h.0.cause.1 in
      let most = good.most in
      let len = ap length prefix.2 in
      absurd (omega (arith, length-append (bytes ++ h.0.extra) prefix.0, length-append bytes h.0.extra))
  good_reach (log.BadLine line) h =
      let prefix = prefix_so_far h.0 in
      elim h.1 [
        | inl bad ↦ absurd (no_bad_prefix bytes [] prefix.0 good.text line prefix.2 good.lines bad)
        | inr tail ↦ (let whole = whole_text bytes [] prefix.0 good.text prefix.2 refl (none_left back.left prefix.0 prefix.1 tail.0) in
            let wrong : ◌≡◌ {A = Option ℕ} None (Some line) = sym good.lines ∙ ap bad_at_end whole ∙ tail.2 in
            cc)
      ]
