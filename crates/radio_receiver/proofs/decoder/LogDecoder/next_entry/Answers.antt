-- What the search leaves open of `decoder::LogDecoder::next_entry`.
use Rattle.std.proofs.Common.{rules, ◌≡◌, ◌∙◌, [], ◌∷◌, ◌++◌, ℕ, List, take, Ok, Err, None, Some, ap, arith, length, refl, subst, sym}
use Rattle.std.proofs.lemmas.List.{length-take, length-drop}
use Rattle.journal_entry.specs.declared.entry.Entry.{Entry}
use Rattle.pulse_log.specs.declared.reader.LineReader.{LineReader}
use Rattle.pulse_log.specs.Reading.{HasRead, TakesPrefix}
use Rattle.radio_receiver.specs.Decoding.{DecodesPrefix, history_of, radio_log}
use Rattle.radio_receiver.proofs.LinesLaws.{GoesOn, TakesLine, ends, fails, goes_on, gives_none, line_decoded, line_may, line_ready, rests, rests_ready}
use Rattle.radio_receiver.proofs.decoder.LogDecoder.next_entry.Given.{Over}
use Rattle.radio_receiver.proofs.decoder.LogDecoder.next_entry.Goals.{Joined-take_whole_line, in-Some, in-None+in-Ok-Some}
use Rattle.radio_receiver.proofs.decoder.LogDecoder.next_entry.Goals as goal

-- the line that was taken at once, or byte by byte
line_of : (g : Over) (c : Joined-take_whole_line g) →
    TakesLine c.lines.self c.match-take_whole_line.self c.split_at.result.1.now c.lines.count c.match-take_whole_line.count c.match-take_whole_line.reduction
line_of g c = elim c.match-take_whole_line.branch [
  | in-Some w ↦ record {
    more = w.in-Some.line.count;
    within = w.in-Some.ensures.within;
    count = w.count-is;
    receiver = ap (λ s. s.receiver) w.self-is;
    feed = ap (λ s. s.feed) w.self-is;
    taken = λ bytes h.
        let piece = take w.in-Some.line.count c.split_at.result.1.now in
        let takes = w.in-Some.ensures.taken bytes h in
        subst (λ s. TakesPrefix s.reader bytes piece (Ok (Some c.match-take_whole_line.reduction))) (sym w.self-is)
        (subst (λ r. TakesPrefix c.take_whole_line.new.self bytes piece (Ok (Some r))) (sym w.reduction-is) takes);
  }
  | in-None+in-Ok-Some w ↦ record {
    more = w.take_by_bytes-prefix.result.count;
    within = w.take_by_bytes-prefix.ensures.within;
    count = w.count-is;
    receiver = ap (λ s. s.receiver) w.self-is;
    feed = ap (λ s. s.feed) w.self-is;
    taken = λ bytes h.
        let prefix = w.take_by_bytes-prefix in
        let piece = take prefix.result.count c.split_at.result.1.now in
        let takes = prefix.ensures.taken bytes (subst (λ (r : LineReader). HasRead r bytes) (sym (w.in-None.ensures.none refl)) h) in
        let found : prefix.result.found ≡ Ok (Some c.match-take_whole_line.reduction) = search rules in
        subst (λ s. TakesPrefix s.reader bytes piece (Ok (Some c.match-take_whole_line.reduction))) (sym w.self-is)
        (subst (TakesPrefix prefix.new.self bytes piece) found takes);
  }
]

pub hear-requires : goal.hear-requires
hear-requires g c =
    let line = line_of g (goal.at.hear-requires g c).Joined-take_whole_line in
    line_may g.R.Receiver.least_start c.lines.self c.match-take_whole_line.self _ _ _ _ c.lines.invariant.ready line

pub lines-preserved : goal.lines-preserved
lines-preserved g c =
    let line = line_of g (goal.at.lines-preserved g c).Joined-take_whole_line in
    let joined = c.match-take_whole_line in
    let now = record joined.self { receiver = c.hear.new.self } in
    let left = c.split_at.result.1.now in
    record {
      within = (let within = line.within in let count = line.count in let most = c.lines.invariant.within in
          let len = ap (λ (b : List ℕ). length b) c.split_at.ensures.back in
          omega (arith, length-drop c.lines.count c.args.bytes.now));
      feed = line.feed ∙ c.lines.invariant.feed;
      ready = line_ready g.R.Receiver.least_start c.lines.self joined.self now _ _ _ _ c.lines.invariant.ready line refl c.hear.ensures.least;
      so_far = λ feed plan delay before h.
          let so_far = c.lines.invariant.so_far feed plan delay before h in
          let longer = before ++ take c.lines.count c.args.bytes.now in
          let history = history_of plan delay longer in
          let decodes = line_decoded g.R.Receiver.stands_for c.lines.self joined.self now feed plan delay longer left c.lines.count joined.count joined.reduction None None line
          so_far.decoded refl refl (c.hear.ensures.heard history) (c.in-None-hear.ensures.answered history) refl in
          subst (λ n. GoesOn g.R.Receiver.stands_for now feed plan delay before (take n c.args.bytes.now)) (sym line.count)
          (goes_on g.R.Receiver.stands_for feed plan delay before c.lines.self now c.args.bytes.now c.lines.count line.more (Ok None) refl so_far
          (subst (λ (l : List ℕ). DecodesPrefix g.R.Receiver.stands_for now (radio_log feed plan delay) longer (take line.more l) (Ok None)) c.split_at.ensures.back decodes));
    }

pub returns-in-Some-hear-clause-ready : goal.returns-in-Some-hear-clause-ready
returns-in-Some-hear-clause-ready g c =
    let line = line_of g (goal.at.returns-in-Some-hear-clause-ready g c).Joined-take_whole_line in
    let joined = c.match-take_whole_line in
    let now = record joined.self { receiver = c.hear.new.self } in
    line_ready g.R.Receiver.least_start c.lines.self joined.self now _ _ _ _ c.lines.invariant.ready line refl c.hear.ensures.least

pub returns-in-Some-hear-clause-taken : goal.returns-in-Some-hear-clause-taken
returns-in-Some-hear-clause-taken g c = λ feed plan delay before h.
    let line = line_of g (goal.at.returns-in-Some-hear-clause-taken g c).Joined-take_whole_line in
    let joined = c.match-take_whole_line in
    let now = record joined.self { receiver = c.hear.new.self } in
    let left = c.split_at.result.1.now in
    let so_far = c.lines.invariant.so_far feed plan delay before h in
    let longer = before ++ take c.lines.count c.args.bytes.now in
    let history = history_of plan delay longer in
    let found = Ok (Some c.entry_of.result) in
    let decodes = line_decoded g.R.Receiver.stands_for c.lines.self joined.self now feed plan delay longer left c.lines.count joined.count joined.reduction
    (Some c.in-Some-hear.heard) (Some c.entry_of.result) line so_far.decoded refl refl (c.hear.ensures.heard history) (c.in-Some-hear.ensures.answered history)
    (ap (λ (e : Entry). e ∷ []) (sym c.entry_of.ensures.value)) in
    subst (λ n. DecodesPrefix g.R.Receiver.stands_for now (radio_log feed plan delay) before (take n c.args.bytes.now) found) (sym line.count)
    (ends g.R.Receiver.stands_for feed plan delay before c.lines.self now c.args.bytes.now c.lines.count line.more found so_far
    (subst (λ (l : List ℕ). DecodesPrefix g.R.Receiver.stands_for now (radio_log feed plan delay) longer (take line.more l) found) c.split_at.ensures.back decodes))

pub lines-preserved-in-Ok-None : goal.lines-preserved-in-Ok-None
lines-preserved-in-Ok-None g c =
    let prefix = c.take_by_bytes-prefix in
    let same = sym (c.in-None.ensures.none refl) in
    let now = record c.lines.self { reader = prefix.new.self } in
    let piece = take prefix.result.count c.split_at.result.1.now in
    let found : prefix.result.found ≡ Ok None = search rules in
    record {
      within = (let within = prefix.ensures.within in let most = c.lines.invariant.within in
          let len = ap (λ (b : List ℕ). length b) c.split_at.ensures.back in
          omega (arith, length-drop c.lines.count c.args.bytes.now));
      feed = c.lines.invariant.feed;
      ready =
          let ready = c.lines.invariant.ready in
          let takes = prefix.ensures.taken ready.bytes (subst (λ (r : LineReader). HasRead r ready.bytes) same ready.read) in
          rests_ready g.R.Receiver.least_start c.lines.self now ready.bytes piece ready.rises refl (subst (TakesPrefix prefix.new.self ready.bytes piece) found takes);
      so_far = λ feed plan delay before h.
          let so_far = c.lines.invariant.so_far feed plan delay before h in
          let longer = before ++ take c.lines.count c.args.bytes.now in
          let takes = prefix.ensures.taken longer (subst (λ (r : LineReader). HasRead r longer) same so_far.decoded.read) in
          let decodes = rests g.R.Receiver.stands_for c.lines.self now feed plan delay longer piece so_far.decoded refl refl (subst (TakesPrefix prefix.new.self longer piece) found takes) in
          goes_on g.R.Receiver.stands_for feed plan delay before c.lines.self now c.args.bytes.now c.lines.count prefix.result.count (Ok None) refl so_far
          (rw c.split_at.ensures.back at decodes);
    }

pub returns-in-Err-clause-taken : goal.returns-in-Err-clause-taken
returns-in-Err-clause-taken g c = λ feed plan delay before h.
    let prefix = c.take_by_bytes-prefix in
    let same = sym (c.in-None.ensures.none refl) in
    let now = record c.lines.self { reader = prefix.new.self } in
    let piece = take prefix.result.count c.split_at.result.1.now in
    let so_far = c.lines.invariant.so_far feed plan delay before h in
    let longer = before ++ take c.lines.count c.args.bytes.now in
    let takes = prefix.ensures.taken longer (subst (λ (r : LineReader). HasRead r longer) same so_far.decoded.read) in
    let decodes = fails g.R.Receiver.stands_for c.lines.self now feed plan delay longer piece c.in-Err.bad so_far.decoded refl refl (subst (TakesPrefix prefix.new.self longer piece) c.in-Err.is takes) in
    ends g.R.Receiver.stands_for feed plan delay before c.lines.self now c.args.bytes.now c.lines.count prefix.result.count (Err c.in-Err.bad) so_far
    (rw c.split_at.ensures.back at decodes)

pub returns-clause-taken : goal.returns-clause-taken
returns-clause-taken g c = λ feed plan delay before h.
    let some = c.requires.some in
    gives_none g.R.Receiver.stands_for feed plan delay before c.lines.self (take c.lines.count c.args.bytes.now)
    (omega (arith, length-take c.lines.count c.args.bytes.now, c.lines-test.false)) (c.lines.invariant.so_far feed plan delay before h)
