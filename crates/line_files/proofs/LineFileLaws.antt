-- How a command ends that runs through a file of lines.
use Rattle.std.proofs.Common.{◌≡◌, ℕ, ◌<◌, false, Option, None, Some, List, [], ◌∷◌, ◌++◌, length, refl, ap, sym, ◌∙◌, subst, inl, inr, arith}
use Rattle.std.proofs.lemmas.List.{append-nil, length-append}
use Rattle.clock_page.specs.Page.{PageFields}
use Rattle.outside_traits.specs.Faults.{Rose, RoseByOne}
use Rattle.outside_traits.specs.States.{SourceState, SinkState}
use Rattle.outside_traits.specs.Openings.{OutsideState, MakesOpenings}
use Rattle.outside_traits.specs.Openings.Wanted.{LogOf}
use Rattle.outside_traits.proofs.OpeningLaws.{opens_prefix, opens_more}
use Rattle.file_reader.specs.Ends.{EndsReading, HasReadPrefix}
use Rattle.file_reader.specs.declared.reader.FileEnd.{FileEnd}
use Rattle.file_reader.specs.declared.reader.FileEnd.TheVariants.{Whole, TooLong}
use Rattle.line_files.proofs.ItemLaws.{bad_stays, one_reading}
use Rattle.station_reader.specs.Faults.{Says}
use Rattle.station_values.specs.Station.{StationFields}
use Rattle.station_reader.specs.Values.{station_of}
use Rattle.tick_units.specs.Log.{lines_of, has_tail, or_unfinished}
use Rattle.command_ends.specs.declared.ending.Ending.{Ending}
use Rattle.command_ends.specs.declared.ending.Ending.TheVariants.{NotOpened}
use Rattle.command_ends.specs.declared.ending.status.Status.{Status}
use Rattle.command_ends.specs.declared.ending.status.Status.TheVariants.{Done, WriteFault}
use Rattle.command_ends.specs.declared.ending.subject.Subject.{Subject}
use Rattle.command_ends.specs.declared.ending.subject.Subject.TheVariants.{Station}
use Rattle.file_reader.specs.declared.log_end.LogEnd.{LogEnd}
use Rattle.file_reader.specs.declared.log_end.LogEnd.TheVariants as log
use Rattle.command_ends.specs.declared.station_file.obstacle.Obstacle.{Obstacle}
use Rattle.command_ends.specs.Effects.{Effect, effect_of}
use Rattle.command_ends.specs.Endings.{status_of, status_line}
use Rattle.command_ends.specs.Keeping.{OpensStation}
use Rattle.line_files.specs.declared.by_line.ByLine.{ByLine}
use Rattle.line_files.specs.Keeping.{TriesFile}
use Rattle.line_files.specs.LineFiles.{LineFile, HasItemsOf, RunsThrough, RunsAgainst, IsGoodFile, HasGoodFile, needed_by}
use Rattle.line_files.specs.LineTaking.{IsTakenBy, LineWay, file_says}
use Rattle.line_files.specs.Reading.{ReadsLines}
use Rattle.command_ends.specs.StationFile.{HasStation, IsObstacle, IsStation, status_at, line_at}
use Rattle.line_files.specs.Taking.{EndsItself, EndsStopped, flow_of}
use Rattle.command_ends.specs.Text.{page_text}
use Rattle.outside_traits.specs.Writing.{WritesAll}
use Rattle.command_ends.specs.Writing.{Answers}
use Rattle.line_files.proofs.PrefixLaws.{prefix_of, none_left, whole_text, rose_by_one}
use Rattle.command_ends.proofs.OpeningLaws.{two_failed_first, two_only_first, two_failed_next, two_opened}

-- ---- the end of a run

-- bytes after a bad line change neither that line nor the items before it
items_stay : (f : LineFile) (items : List f.Item) (prefix later : List ℕ) (bad : Option ℕ) → HasItemsOf f prefix items bad → (bad ≡ None → later ≡ []) → HasItemsOf f (prefix ++ later) items bad
items_stay f items prefix later None h none = subst (λ (b : List ℕ). HasItemsOf f b items None) (sym (ap (λ (b : List ℕ). prefix ++ b) (none refl) ∙ append-nil prefix)) h
items_stay f items prefix later (Some n) h none = bad_stays f.says f.too_long items n prefix later h

module _ {T : Type 0} (too_long : ℕ) (way : LineWay T) (lines : ByLine T) where
  pub runs_after : (file file_now : SourceState) (out out_mid out_now : SinkState) (end : LogEnd) (result : Status) (page : PageFields) (due : Ending) →
      EndsItself (IsTakenBy too_long way lines) way.file.most (flow_of file file_now out out_mid) end →
      ((items : List way.file.Item) (bad : Option ℕ) → way.stands lines.taker items bad → page ≡ way.file.page items) →
      ((items : List way.file.Item) (bad : Option ℕ) → way.stands lines.taker items bad → due ≡ way.file.ending end items) → Answers (status_of due) result out_mid out_now (page_text page ++ status_line due) → RunsThrough way.file file file_now out out_now result
  runs_after file file_now out out_mid out_now end result page due h page_is due_is answers =
      let p : IsTakenBy too_long way lines h.prefix h.text h.bad = h.held in
      inl (record {
        bytes = h.prefix ++ h.later;
        items = p.items;
        bad = h.bad;
        said = items_stay way.file p.items h.prefix h.later h.bad p.said h.none_later;
        end = end;
        read = h.read;
        due = due;
        due_is = due_is p.items h.bad p.taken;
        between = out_mid;
        given = subst (λ (t : List ℕ). WritesAll out out_mid t) p.text_is h.written;
        written = subst (λ (q : PageFields). Answers (status_of due) result out_mid out_now (page_text q ++ status_line due)) (page_is p.items h.bad p.taken) answers;
      })

-- a write failed in what the last piece gives
pub runs_stopped : (f : LineFile) (file file_now : SourceState) (out out_now : SinkState) → EndsStopped (file_says f) f.most (flow_of file file_now out out_now) → RunsThrough f file file_now out out_now WriteFault
runs_stopped f file file_now out out_now h =
    let s = h.stops in
    inr (record {
      earlier = s.earlier;
      next = s.next;
      later = s.later;
      read = subst (λ (b : List ℕ). HasReadPrefix f.most file file_now b) (sym s.all) h.read;
      near = s.near;
      items = s.said.0;
      said = s.said.1;
      longer = s.adds.0;
      said_too = s.adds.1;
      between = s.between;
      given = subst (λ (t : List ℕ). WritesAll out s.between t) s.said.2 s.whole;
      more = s.more;
      adds = sym s.adds.2 ∙ ap (λ (t : List ℕ). t ++ s.more) s.said.2;
      failed = s.failed;
      answer = refl;
    })

-- ---- the station, and then the file

module _ (what : Subject) (file_of : StationFields → LineFile) (name file_name : List ℕ) (outside outside_now : OutsideState) (out out_now : SinkState) (result : Status) where
  -- the station could not be opened
  pub station_failed : MakesOpenings (LogOf name ∷ []) outside outside_now [] (Some (LogOf name)) →
      Answers (status_of (NotOpened Station)) result out out_now (status_line (NotOpened Station)) → RunsAgainst what file_of name file_name (effect_of outside outside_now out out_now result)
  station_failed opens answers = inl (record { opens = opens_prefix (LogOf name ∷ []) (LogOf file_name ∷ []) outside outside_now [] (Some (LogOf name)) opens; written = answers })

  -- the station can't be used
  pub ends_at : (end : FileEnd) (bytes : List ℕ) (due : Obstacle) → OpensStation name outside outside_now end bytes → IsObstacle end bytes due →
      Answers (status_at due) result out out_now (line_at due) → RunsAgainst what file_of name file_name (effect_of outside outside_now out out_now result)
  ends_at end bytes due h cause answers = inr (inl (record {
    opened = h.opened;
    back = h.back;
    opens = opens_prefix (LogOf name ∷ []) (LogOf file_name ∷ []) outside outside_now _ None h.opens;
    end = end;
    bytes = bytes;
    read = h.read;
    due = due;
    cause = cause;
    written = answers;
  }))

  -- and then the file
  pub file_tried : (mid : OutsideState) (bytes : List ℕ) (of : StationFields) → OpensStation name outside mid Whole bytes → Says bytes of →
      TriesFile what (file_of of) file_name (effect_of mid outside_now out out_now result) → RunsAgainst what file_of name file_name (effect_of outside outside_now out out_now result)
  file_tried mid bytes of h says (inl not) = inr (inr (inl (record {
    of = of;
    opened = h.opened;
    back = h.back;
    station = record { bytes = bytes; read = h.read; says = says };
    file = record {
      opens = opens_more (LogOf name ∷ []) (LogOf file_name ∷ []) outside mid outside_now _ _ _ h.opens refl not.opens;
      written = not.written;
    };
  })))
  file_tried mid bytes of h says (inr ran) = inr (inr (inr (record {
    of = of;
    opened = h.opened;
    back = h.back;
    station = record { bytes = bytes; read = h.read; says = says };
    file_opened = ran.opened;
    file_back = ran.back;
    opens = opens_more (LogOf name ∷ []) (LogOf file_name ∷ []) outside mid outside_now _ _ _ h.opens refl ran.opens;
    runs = ran.runs;
  })))

-- ---- a file without a fault

no_tail : (bad : Option ℕ) (bytes : List ℕ) → bad ≡ None → has_tail bytes ≡ false → or_unfinished bad (lines_of bytes) ≡ None
no_tail None bytes e none = rw none refl
no_tail (Some n) bytes e none = cc

-- a text without a bad line has none in any reading, and ends a command in one way
pub record IsReadable (f : LineFile) : Type 0 where
  pub ends : (bytes : List ℕ) (items good : List f.Item) (bad : Option ℕ) → HasItemsOf f bytes items bad → HasItemsOf f bytes good None → ((end : LogEnd) → f.ending end items ≡ f.ending end good) × (bad ≡ None)

-- that is so where a text says one item, and is shorter than one that is too long
pub one_way : (f : LineFile) → ((before : List f.Item) (text : List ℕ) (x y : f.Item) → f.says before text x → f.says before text y → x ≡ y) →
    ((before : List f.Item) (text : List ℕ) (x : f.Item) → f.says before text x → length text < f.too_long (length before)) → IsReadable f
one_way f one short = record {
  ends = λ bytes items good bad h g.
      let same = one_reading f.says f.too_long one short bytes items good bad h g in
      (λ end. ap (λ (xs : List f.Item). f.ending end xs) same.0, same.1);
}

-- it is read to its end, and ends the command as its own items do
module _ (f : LineFile) (readable : IsReadable f) (opened back : SourceState) (good : IsGoodFile f opened back) (bytes : List ℕ) (items : List f.Item) (bad : Option ℕ) (said : HasItemsOf f bytes items bad) where
  same_whole : good.text ≡ bytes → ((end : LogEnd) → f.ending end items ≡ f.ending end good.items) × (bad ≡ None)
  same_whole same = readable.ends bytes items good.items bad said (subst (λ (b : List ℕ). HasItemsOf f b good.items None) same good.said)

  -- a beginning of it has no bad line
  no_bad_prefix : (n : ℕ) (rest : List ℕ) → good.text ≡ bytes ++ rest → bad ≡ Some n → ⊥
  no_bad_prefix n rest e is =
      let longer = bad_stays f.says f.too_long items n bytes rest (subst (λ (b : Option ℕ). HasItemsOf f bytes items b) is said) in
      let all = subst (λ (b : List ℕ). HasItemsOf f b items (Some n)) (sym e) longer in
      let wrong = (readable.ends good.text items good.items (Some n) all good.said).1 in
      cc

  no_bad_end : (n : ℕ) → good.text ≡ bytes → bad ≡ None → or_unfinished bad (lines_of bytes) ≡ Some n → ⊥
  no_bad_end n same none is =
      let wrong : ◌≡◌ {A = Option ℕ} None (Some n) = sym (no_tail bad bytes none (ap has_tail (sym same) ∙ good.finished)) ∙ is in
      cc

  -- a reading that ended so took a beginning of the text
  prefix_by : (end : FileEnd) (read : EndsReading end f.most opened back bytes) → (rest : List ℕ) × (back.left ≡ Some rest) × (good.text ≡ (bytes ++ read.extra) ++ rest)
  prefix_by end read = prefix_of opened.left back.left good.text (bytes ++ read.extra) good.reported good.reports read.taken

  read_whole : (end : LogEnd) → ReadsLines end f.most opened back bytes bad → (end ≡ log.Whole) × (f.ending log.Whole items ≡ f.ending log.Whole good.items)
  read_whole log.Whole h =
      let prefix = prefix_by Whole h.0 in
      (refl, (same_whole (whole_text bytes h.0.extra prefix.0 good.text prefix.2 h.0.cause.0 (none_left back.left prefix.0 prefix.1 h.0.cause.1))).0 log.Whole)
  read_whole log.Fault h = absurd (good.no_fault (rose_by_one opened.faults back.faults h.0.cause.1))
  read_whole log.Long h =
      let prefix = prefix_by TooLong h.0 in
      let size = h.0.cause.0 in
      let one = h.0.cause.1 in
      let most = good.most in
      let len = ap length prefix.2 in
      absurd (omega (arith, length-append (bytes ++ h.0.extra) prefix.0, length-append bytes h.0.extra))
  read_whole (log.BadLine n) h =
      let prefix = prefix_of opened.left back.left good.text bytes good.reported good.reports h.0.taken in
      elim h.1 [
        | inl is ↦ absurd (no_bad_prefix n prefix.0 prefix.2 is)
        | inr tail ↦ absurd (no_bad_end n (prefix.2 ∙ ap (λ (r : List ℕ). bytes ++ r) (none_left back.left prefix.0 prefix.1 tail.0) ∙ append-nil bytes) tail.1 tail.2)
      ]

-- it is Done where no write fails
file_done : (f : LineFile) → IsReadable f → (opened back : SourceState) (out out_now : SinkState) (result : Status) →
    RunsThrough f opened back out out_now result → IsGoodFile f opened back → (Rose out.faults out_now.faults → ⊥) → result ≡ Done
file_done f readable opened back out out_now result r p no_write = elim r [
  | inr stopped ↦ absurd (no_write (rose_by_one out.faults out_now.faults (subst (λ (n : ℕ). RoseByOne n out_now.faults) stopped.given.1 stopped.failed.3)))
  | inl h ↦ elim h.written [
    | inr failed ↦ absurd (no_write (rose_by_one out.faults out_now.faults (subst (λ (n : ℕ). RoseByOne n out_now.faults) h.given.1 failed.1.3)))
    | inl all ↦ (let whole = read_whole f readable opened back p h.bytes h.items h.bad h.said h.end h.read in
        all.0 ∙ ap status_of (h.due_is ∙ ap (λ (x : LogEnd). f.ending x h.items) whole.0 ∙ whole.1 ∙ p.room))
  ]
]

-- a file says one station
pub one_station : (bytes : List ℕ) (a b : StationFields) → Says bytes a → Says bytes b → a ≡ b
one_station bytes a b h k =
    let parsed = sym h.document.parsed ∙ k.document.parsed in
    let same : h.top ≡ k.top = cc in
    h.same ∙ ap station_of same ∙ sym k.same

-- the station that was read is that of the file
pub read_station : (of said : StationFields) (opened back : SourceState) → IsStation of opened back → HasStation opened back said → said ≡ of
read_station of said opened back h is =
    let prefix = prefix_of opened.left back.left h.text (is.bytes ++ is.read.extra) h.reported h.reports is.read.taken in
    let same = whole_text is.bytes is.read.extra prefix.0 h.text prefix.2 is.read.cause.0 (none_left back.left prefix.0 prefix.1 is.read.cause.1) in
    one_station is.bytes said of is.says (subst (λ (b : List ℕ). Says b of) same h.says)

module _ (what : Subject) (file_of : StationFields → LineFile) (readable : (of : StationFields) → IsReadable (file_of of)) (name file_name : List ℕ) (effect : Effect)
    (p : HasGoodFile file_of name file_name effect.outside effect.outside_now) (no_write : Rose effect.out.faults effect.out_now.faults → ⊥) where
  pub against_done : RunsAgainst what file_of name file_name effect → effect.status ≡ Done
  against_done (inl not) = absurd (two_failed_first effect.outside effect.outside_now p.before p.were (needed_by name file_name) name file_name p.opened p.back p.file_opened p.file_back p.are not.opens)
  against_done (inr (inl ends)) = absurd (two_only_first effect.outside effect.outside_now p.before p.were (needed_by name file_name) name file_name p.opened p.back p.file_opened p.file_back p.are ends.opened ends.back ends.opens)
  against_done (inr (inr (inl lacks))) = absurd (two_failed_next effect.outside effect.outside_now p.before p.were (needed_by name file_name) name file_name p.opened p.back p.file_opened p.file_back p.are lacks.opened lacks.back lacks.file.opens)
  against_done (inr (inr (inr h))) =
      let same = two_opened effect.outside effect.outside_now p.before p.were (needed_by name file_name) name file_name p.opened p.back p.file_opened p.file_back p.are h.opened h.back h.file_opened h.file_back h.opens in
      let is_station = subst (λ (s : SourceState). IsStation p.of s h.back) (sym same.0.0) (subst (λ (s : SourceState). IsStation p.of p.opened s) (sym same.0.1) p.is_station) in
      let said = read_station p.of h.of h.opened h.back is_station h.station in
      let good = subst (λ (s : SourceState). IsGoodFile (file_of p.of) s h.file_back) (sym same.1.0) (subst (λ (s : SourceState). IsGoodFile (file_of p.of) p.file_opened s) (sym same.1.1) p.is_file) in
      file_done (file_of h.of) (readable h.of) h.file_opened h.file_back effect.out effect.out_now effect.status h.runs (subst (λ (k : StationFields). IsGoodFile (file_of k) h.file_opened h.file_back) (sym said) good) no_write
