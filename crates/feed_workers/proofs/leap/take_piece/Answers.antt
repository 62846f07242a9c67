-- What the search leaves open of `leap::take_piece`.
use Rattle.std.proofs.Common.{ℕ, ◌≤◌, ◌∷◌, [], List, ◌++◌, drop, take, ◌+◌, length, Result, refl, rules, sym, subst}
use Rattle.std.specs.Prelude.{slice_index_or}
use Rattle.std.proofs.lemmas.List.{append-nil, take_all}
use Rattle.feed_workers.specs.Keeping.{share_of}
use Rattle.feed_workers.specs.Noticing.{HasNoticed, HasPassed, NoticesByte}
use Rattle.leap_file.specs.declared.reader.BadLeap.{BadLeap}
use Rattle.feed_workers.proofs.LeapLaws.{and_later, passed_stays, same_feed, up_to}
use Rattle.feed_workers.proofs.leap.take_piece.Goals as goal

pub loop-place-init : goal.loop-place-init
loop-place-init g c = record {
  start = refl;
  piece = refl;
  pass = c.requires.pass;
  so_far = λ begin bytes h. subst (λ (b : List ℕ). HasNoticed c.args.reader.now c.args.start (share_of begin c.args.pass.now g.K.Recorder.limit c.args.full.now) b) (sym (append-nil bytes)) h;
}

pub returns-in-Err-clause-pass : goal.returns-in-Err-clause-pass
returns-in-Err-clause-pass g c = same_feed _ _ _ c.loop-place.pass _ c.loop-place.invariant.pass c.take_byte.ensures.pass

pub returns-in-Err-clause-noticed : goal.returns-in-Err-clause-noticed
returns-in-Err-clause-noticed g c = λ begin bytes h.
    let place = c.loop-place.place in
    let piece = c.args.piece.now in
    let share = share_of begin c.take_byte.new.pass g.K.Recorder.limit c.take_byte.new.full in
    let noticed = c.take_byte.ensures.noticed begin (bytes ++ take place piece) (c.loop-place.invariant.so_far begin bytes h) in
    let passed = subst (λ (r : Result Unit BadLeap). NoticesByte c.take_byte.new.reader c.args.start share ((bytes ++ take place piece) ++ slice_index_or piece place 0 ∷ []) r) c.in-Err.is noticed in
    let prefix = subst (λ (b : List ℕ). HasPassed c.args.start share b c.in-Err.bad.line) (up_to bytes piece place c.loop-place-test.true) passed in
    let all = passed_stays c.args.start share (bytes ++ take (place + 1) piece) (drop (place + 1) piece) c.in-Err.bad.line prefix in
    subst (λ (b : List ℕ). HasPassed c.args.start share b c.in-Err.bad.line) (and_later bytes piece (place + 1)) all

pub loop-place-preserved : goal.loop-place-preserved
loop-place-preserved g c =
    let place = c.loop-place.place in
    let piece = c.args.piece.now in
    record {
      start = refl;
      piece = refl;
      pass = same_feed _ _ _ c.loop-place.pass _ c.loop-place.invariant.pass c.take_byte.ensures.pass;
      so_far = λ begin bytes h.
          let share = share_of begin c.take_byte.new.pass g.K.Recorder.limit c.take_byte.new.full in
          let noticed = c.take_byte.ensures.noticed begin (bytes ++ take place piece) (c.loop-place.invariant.so_far begin bytes h) in
          let on = subst (λ (r : Result Unit BadLeap). NoticesByte c.take_byte.new.reader c.args.start share ((bytes ++ take place piece) ++ slice_index_or piece place 0 ∷ []) r) c.in-Ok.is noticed in
          subst (λ (b : List ℕ). HasNoticed c.take_byte.new.reader c.args.start share b) (up_to bytes piece place c.loop-place-test.true) on;
    }

pub returns-clause-pass : goal.returns-clause-pass
returns-clause-pass g c = c.loop-place.invariant.pass

pub returns-clause-noticed : goal.returns-clause-noticed
returns-clause-noticed g c = λ begin bytes h.
    let later : length c.args.piece.now ≤ c.loop-place.place = search rules in
    subst (λ (b : List ℕ). HasNoticed c.loop-place.reader c.args.start (share_of begin c.loop-place.pass g.K.Recorder.limit c.loop-place.full) (bytes ++ b)) (take_all c.loop-place.place c.args.piece.now later) (c.loop-place.invariant.so_far begin bytes h)
