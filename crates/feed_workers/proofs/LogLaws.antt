-- The bytes of a log, line by line and piece by piece.
use Rattle.std.proofs.Common.{◌≡◌, ℕ, Option, None, Some, Result, Ok, Err, Bool, true, false, ◌==◌, inl, inr, length, List, [], ◌∷◌, ◌++◌, map, take, drop, refl, ap, sym, ◌∙◌, subst, append_assoc, arith}
use Rattle.std.proofs.lemmas.Bool.Decides.{nat_tests}
use Rattle.std.proofs.lemmas.List.{append-nil, take-append-drop}
use Rattle.journal_entry.specs.declared.entry.Entry.{Entry}
use Rattle.radio_receiver.specs.Decoding.{HasDecoded, DecodesPrefix, radio_log}
use Rattle.radio_receiver.proofs.DueLaws.{due_none}
use Rattle.radio_receiver.specs.Due.{due_log, entry_of}
use Rattle.radio_receiver.specs.declared.decoder.LogDecoder.{LogDecoder}
use Rattle.page_cell.specs.declared.view.Claim.{Claim}
use Rattle.pulse_log.proofs.LogLaws.{bad_stays}
use Rattle.pulse_log.specs.declared.reader.BadLine.{BadLine as Bad}
use Rattle.radio_receiver.specs.Histories.{History, answers_of}
use Rattle.tick_units.specs.Log.{bad_at_end, bad_line, pulses}
use Rattle.tick_units.specs.declared.marks.Plan.{Plan}
use Rattle.tick_units.specs.declared.marks.Reduction.{Reduction}
use Rattle.outside_traits.specs.States.{SourceState}
use Rattle.file_reader.specs.Ends.{EndsReading}
use Rattle.file_reader.specs.declared.reader.FileEnd.TheVariants as file
use Rattle.feed_workers.specs.Keeping.{Keeps, Share}
use Rattle.feed_workers.specs.Logs.{EndsLog, Intake, RunsLog}
use Rattle.file_reader.specs.Ends.{EndsAt}
use Rattle.file_reader.specs.declared.log_end.LogEnd.{LogEnd}
use Rattle.file_reader.specs.declared.log_end.LogEnd.TheVariants.{Whole, BadLine, Fault, Long}
use Rattle.feed_workers.specs.Receiving.{HasReceived, HasReceivedUpTo, HasMissed, EndsReceiving, Tuning}
use Rattle.feed_workers.proofs.KeepLaws.{keeps_none}

-- nothing is left
pub none_left : (rest : List ℕ) → true ≡ (length rest == 0) → rest ≡ []
none_left [] e = refl
none_left (byte ∷ more) e = let none : length (byte ∷ more) ≡ 0 = grind (arith, nat_tests) in absurd (omega arith)

-- bytes after a bad line change neither that line nor what is due
due_same : (feed : ℕ) (plan : Plan) (delay : ℕ) (bytes more : List ℕ) → pulses more ≡ pulses bytes → due_log feed plan delay more ≡ due_log feed plan delay bytes
due_same feed plan delay bytes more same = ap (λ (rs : List Reduction). map (entry_of feed) (answers_of (record { plan = plan; delay = delay; reductions = rs }))) same

module _ {B : Type 0} (stands : B → History → Type 0) where
  -- nothing is heard yet
  pub received_none : (d : LogDecoder B) (tuning : Tuning) (claim : Claim) (limit : ℕ) → HasDecoded stands d claim.number tuning.plan tuning.delay [] →
      HasReceived stands d tuning (record { begun = claim; claim = claim; limit = limit; full = false }) [] None
  received_none d tuning claim limit h = record {
    decoded = h;
    kept = subst (λ (due : List Entry). Keeps (record { begun = claim; claim = claim; limit = limit; full = false }) due) (sym (due_none claim.number tuning.plan tuning.delay)) (keeps_none claim limit);
    bad_is = refl;
  }

  module _ (d now : LogDecoder B) (tuning : Tuning) (share : Share) (before prefix : List ℕ) (h : HasReceived stands d tuning share before None) where
    -- a beginning of what comes completes no entry
    pub received_nothing : (found : Result (Option Entry) Bad) → DecodesPrefix stands now (radio_log share.begun.number tuning.plan tuning.delay) before prefix found → found ≡ Ok None →
        HasReceived stands now tuning share (before ++ prefix) None
    received_nothing found any same = let took = subst (λ f. DecodesPrefix stands now (radio_log share.begun.number tuning.plan tuning.delay) before prefix f) same any in record {
      decoded = took.decoded;
      kept = subst (λ (due : List Entry). Keeps share due) (sym (took.finds.1 ∙ append-nil (due_log share.begun.number tuning.plan tuning.delay before))) h.kept;
      bad_is = took.finds.0;
    }

    -- it completes an entry, which is kept
    pub received_entry : (found : Result (Option Entry) Bad) (entry : Entry) (claim : Claim) (full_now : Bool) → DecodesPrefix stands now (radio_log share.begun.number tuning.plan tuning.delay) before prefix found → found ≡ Ok (Some entry) →
        ((due : List Entry) → Keeps share due → Keeps (record share { claim = claim; full = full_now }) (due ++ entry ∷ [])) → HasReceived stands now tuning (record share { claim = claim; full = full_now }) (before ++ prefix) None
    received_entry found entry claim full_now any same keeps = let took = subst (λ f. DecodesPrefix stands now (radio_log share.begun.number tuning.plan tuning.delay) before prefix f) same any in record {
      decoded = took.decoded;
      kept = subst (λ (due : List Entry). Keeps (record share { claim = claim; full = full_now }) due) (sym took.finds.1) (keeps (due_log share.begun.number tuning.plan tuning.delay before) h.kept);
      bad_is = took.finds.0;
    }

    -- it has a bad line
    pub received_bad : (found : Result (Option Entry) Bad) (bad : Bad) → DecodesPrefix stands now (radio_log share.begun.number tuning.plan tuning.delay) before prefix found → found ≡ Err bad →
        HasReceived stands now tuning share (before ++ prefix) (Some bad.line)
    received_bad found bad any same = let took = subst (λ f. DecodesPrefix stands now (radio_log share.begun.number tuning.plan tuning.delay) before prefix f) same any in record {
      decoded = took.decoded;
      kept = subst (λ (due : List Entry). Keeps share due) (sym took.finds.1) h.kept;
      bad_is = took.finds.0;
    }

  -- one line more of a piece
  pub received_on : (d now : LogDecoder B) (tuning : Tuning) (share share_now : Share) (all rest : List ℕ) (count : ℕ) →
      (so_far : HasReceivedUpTo stands d tuning share all rest) →
      (bad : Option ℕ) → HasReceived stands now tuning share_now (so_far.prefix ++ take count rest) bad → bad ≡ None →
      HasReceivedUpTo stands now tuning share_now all (drop count rest)
  received_on d now tuning share share_now all rest count so_far bad any same = let heard = subst (λ b. HasReceived stands now tuning share_now (so_far.prefix ++ take count rest) b) same any in record {
    prefix = so_far.prefix ++ take count rest;
    is = append_assoc so_far.prefix (take count rest) (drop count rest) ∙ ap (λ (b : List ℕ). so_far.prefix ++ b) (take-append-drop count rest) ∙ so_far.is;
    heard = heard;
  }

  -- a bad line in a piece
  pub missed : (d now : LogDecoder B) (tuning : Tuning) (share share_now : Share) (all rest : List ℕ) (count line : ℕ) →
      (so_far : HasReceivedUpTo stands d tuning share all rest) →
      (bad : Option ℕ) → HasReceived stands now tuning share_now (so_far.prefix ++ take count rest) bad → bad ≡ Some line →
      HasMissed tuning share_now all line
  missed d now tuning share share_now all rest count line so_far bad any same =
      let heard = subst (λ b. HasReceived stands now tuning share_now (so_far.prefix ++ take count rest) b) same any in
      let prefix = so_far.prefix ++ take count rest in
      let is : prefix ++ drop count rest ≡ all = append_assoc so_far.prefix (take count rest) (drop count rest) ∙ ap (λ (b : List ℕ). so_far.prefix ++ b) (take-append-drop count rest) ∙ so_far.is in
      let stays = bad_stays prefix (drop count rest) line heard.bad_is in
      subst (λ (b : List ℕ). HasMissed tuning share_now b line) is (record {
        kept = subst (λ (due : List Entry). Keeps share_now due) (sym (due_same share_now.begun.number tuning.plan tuning.delay prefix (prefix ++ drop count rest) stays.1)) heard.kept;
        bad_is = stays.0;
      })

  -- all of a piece
  pub received_all : (d : LogDecoder B) (tuning : Tuning) (share : Share) (all rest : List ℕ) → HasReceivedUpTo stands d tuning share all rest →
      rest ≡ [] → HasReceived stands d tuning share all None
  received_all d tuning share all rest so_far none =
      subst (λ (b : List ℕ). HasReceived stands d tuning share b None) (sym (append-nil so_far.prefix) ∙ ap (λ (b : List ℕ). so_far.prefix ++ b) (sym none) ∙ so_far.is) so_far.heard

-- how the reading of a log that came to the end ends
pub ends_at : (most : ℕ) (log log_now : SourceState) (bytes : List ℕ) (end : LogEnd) → EndsAt end (bad_at_end bytes) → EndsReading file.Whole most log log_now bytes → bad_line bytes ≡ None →
    EndsLog most log log_now bytes end
ends_at most log log_now bytes Whole at read good = (read, at)
ends_at most log log_now bytes (BadLine line) at read good = inr (read, good, at)
ends_at most log log_now bytes Fault at read good = absurd at
ends_at most log log_now bytes Long at read good = absurd at

-- why the reading ended, by what came of the pieces
module _ {B : Type 0} (stands : B → History → Type 0) (d : LogDecoder B) (tuning : Tuning) (intake : Intake) where
  pub runs_whole : EndsReceiving stands d tuning intake (Ok file.Whole) → (end : LogEnd) →
      ((feed : ℕ) (bytes : List ℕ) → HasDecoded stands d feed tuning.plan tuning.delay bytes → EndsAt end (bad_at_end bytes)) → RunsLog tuning.plan tuning.delay intake end
  runs_whole p end at = record {
    bytes = p.0;
    kept = p.2.kept;
    ends = ends_at intake.most intake.begun intake.file p.0 end (at _ p.0 p.2.decoded) p.1 p.2.bad_is;
  }

  pub runs_fault : EndsReceiving stands d tuning intake (Ok file.Fault) → RunsLog tuning.plan tuning.delay intake Fault
  runs_fault p = record { bytes = p.0; kept = p.2.kept; ends = (p.1, p.2.bad_is) }

  pub runs_long : EndsReceiving stands d tuning intake (Ok file.TooLong) → RunsLog tuning.plan tuning.delay intake Long
  runs_long p = record { bytes = p.0; kept = p.2.kept; ends = (p.1, p.2.bad_is) }

  pub runs_bad : (line : ℕ) → EndsReceiving stands d tuning intake (Err line) → RunsLog tuning.plan tuning.delay intake (BadLine line)
  runs_bad line p = record { bytes = p.0; kept = p.2.kept; ends = inl (p.1, p.2.bad_is) }
