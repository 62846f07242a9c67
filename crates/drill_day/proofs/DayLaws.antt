-- What is heard of a made log: one answer for each of its minutes, none of which names a leap second.
use Rattle.std.proofs.Common.{◌≡◌, ℕ, zero, suc, ◌+◌, ◌-◌, ◌*◌, ◌^◌, inl, inr, ◌<◌, ◌≤◌, ◌==◌, ◌&&◌, Bool, true, false, Option, None, Some, List, [], ◌∷◌, ◌++◌, length, map, refl, sym, ap, ◌∙◌, subst, arith, append_assoc}
use Rattle.std.specs.Prelude.{◌⊎◌, Result, Ok, Err, drop, if◌then◌else◌}
use Rattle.std.specs.List.{AllByRecursion, flat_map, list_all, onto_first, range_with_len}
use Rattle.std.proofs.lemmas.Bool.{cases_lt}
use Rattle.std.proofs.lemmas.List.Elements.{All-cons, All-nil}
use Rattle.std.proofs.lemmas.List.{length-append, length-map}
use Rattle.journal_entry.specs.declared.entry.Entry.{Entry}
use Rattle.frame_rules.specs.Codes.{Code}
use Rattle.frame_rules.specs.Fields.{symbols_of as symbols_in}
use Rattle.frame_rules.proofs.SentLaws.{OpensAfter, OpensAlone, is_alone}
use Rattle.radio_receiver.specs.Due.{entry_of}
use Rattle.minute_pair.specs.Answers.{agreed_leap, answers, answers_after, are_timely, judged, judged_by, kind_after, kind_alone, kind_following, kind_of_both, kind_of_valid}
use Rattle.code_plans.specs.Codes.{code_of, sending_of}
use Rattle.code_plans.proofs.Sent.{fits, reads}
use Rattle.minute_pair.specs.Segments.{Segment, closed, cut, segments_of}
use Rattle.radio_receiver.specs.Histories.{answers_of, sent}
use Rattle.tick_units.specs.Log.{pulses}
use Rattle.second_marks.specs.Marks.{marks_of}
use Rattle.tick_units.specs.declared.marks.Mark.{Mark}
use Rattle.tick_units.specs.declared.marks.Plan.{Plan}
use Rattle.tick_units.specs.declared.marks.Reduction.{Reduction}
use Rattle.tick_units.specs.declared.marks.Symbol.{Symbol}
use Rattle.tick_units.specs.declared.verdicts.Broken.{Broken}
use Rattle.tick_units.specs.declared.verdicts.Coded.{Coded}
use Rattle.tick_units.specs.declared.verdicts.Heard.{Heard}
use Rattle.tick_units.specs.declared.verdicts.Kind.TheVariants.{Verdict, Differs}
use Rattle.drill_day.specs.Made.{made, number_from, reductions_from, seeded, start_of, text_of}
use Rattle.drill_day.specs.Minutes.{closing_symbols, coded_of, is_damaged, index_of, opening_index, opening_symbols, seconds_from, seconds_of, symbols_of}
use Rattle.drill_day.specs.declared.seconds.Second.{Second}
use Rattle.drill_day.proofs.MakingLaws.{minute_seconds}
use Rattle.drill_day.specs.Orders.{NamesNoLeap, leap_in, leap_named}
use Rattle.pulse_log.specs.Writing.{line_of}
use Rattle.pulse_log.proofs.LineLaws.{long_line, says}
use Rattle.drill_day.proofs.MadeOrderLaws.{InOrder, made_in_order, made_is_read, made_rises}
use Rattle.drill_day.proofs.ReadLaws.{Rises}
use Rattle.drill_day.specs.Day.{IsDay, day_due, day_log, first_minute, minutes_of_a_day}
use Rattle.drill_day.proofs.CutLaws.{shape_of}
use Rattle.drill_day.proofs.MarkLaws.{are_alone, end_if, mark_at, marks_from, marks_shown, ones_count, read_as}
use Rattle.drill_day.proofs.MinuteLaws.{Leads, leads_on, marked, minute_is, minute_marks, minutes_cut, minutes_marks, seconds_count}

-- ---- the seconds of a log, each with one reduction

alone_append : (xs ys : List Second) → are_alone xs ≡ true → are_alone ys ≡ true → are_alone (xs ++ ys) ≡ true
alone_append [] ys e f = f
alone_append (x ∷ xs) ys e f =
    let parts = and_two (is_alone x.symbol) (are_alone xs) e in
    rw (parts.0, alone_append xs ys parts.1 f) refl
  where
    and_two : (a b : Bool) → (a && b) ≡ true → (a ≡ true) × (b ≡ true)
    and_two true b h = (refl, h)
    and_two false b h = absurd cc

alone_from : (index : ℕ) (symbols : List Symbol) → are_alone (seconds_from index symbols) ≡ list_all is_alone symbols
alone_from index [] = refl
alone_from index (symbol ∷ more) = ap (λ b. is_alone symbol && b) (alone_from (index + 1) more)

alone_minutes : (plan : Plan) (first seed m count : ℕ) → are_alone (flat_map (minute_seconds plan first seed) (range_with_len m count)) ≡ true
alone_minutes plan first seed m zero = refl
alone_minutes plan first seed m (suc count) =
    alone_append (minute_seconds plan first seed m) (flat_map (minute_seconds plan first seed) (range_with_len (m + 1) count))
    (alone_from (index_of m) (symbols_of plan first seed m) ∙ (minute_is plan first seed m).alone) (alone_minutes plan first seed (m + 1) count)

opening_alone : (plan : Plan) → OpensAlone (code_of plan) (sending_of plan) (shape_of plan) ⊎ OpensAfter (code_of plan) (sending_of plan) (shape_of plan) → list_all is_alone (opening_symbols plan) ≡ true
opening_alone plan (inl o) = ap (λ l. list_all is_alone l) o.none
opening_alone plan (inr o) = ap (λ l. list_all is_alone l) o.one ∙ rw o.alone refl

both_alone : (parts : Bool) (head last : Symbol) → is_alone head ≡ true → is_alone last ≡ true → list_all is_alone (head ∷ (if parts then last ∷ [] else [])) ≡ true
both_alone true head last e f = rw (e, f) refl
both_alone false head last e f = rw e refl

closing_alone : (plan : Plan) → list_all is_alone (closing_symbols plan) ≡ true
closing_alone plan =
    let closing = (reads plan).closing in
    ap (λ l. list_all is_alone l) closing.is ∙ both_alone (code_of plan).has_parts closing.head closing.after closing.head_alone closing.after_alone

log_alone : (plan : Plan) (first minutes seed : ℕ) → are_alone (seconds_of plan first minutes seed) ≡ true
log_alone plan first minutes seed =
    let opening = seconds_from (opening_index plan) (opening_symbols plan) in
    let middle = flat_map (minute_seconds plan first seed) (range_with_len 0 minutes) in
    alone_append (opening ++ middle) (seconds_from (index_of minutes) (closing_symbols plan))
    (alone_append opening middle (alone_from (opening_index plan) (opening_symbols plan) ∙ opening_alone plan (reads plan).opening) (alone_minutes plan first seed 0 minutes))
    (alone_from (index_of minutes) (closing_symbols plan) ∙ closing_alone plan)

-- ---- the pieces between boundaries

-- whatever stands before the first minute, the minutes are cut out after it
record HasMinutes (plan : Plan) (first minutes seed : ℕ) (marks : List Mark) : Type 0 where
  prefix : List Mark
  closing : List Mark
  start : ℕ
  from : ℕ
  is : cut (code_of plan) None marks ≡ prefix ∷ (minutes_marks plan first seed start from 0 minutes ++ closing ∷ [])

-- the seconds before the first minute, those of the minutes, and the first after them, which closes them
abbrev opened : Plan → List Second
opened plan = seconds_from (opening_index plan) (opening_symbols plan)

abbrev between : Plan → ℕ → ℕ → ℕ → List Second
between plan first seed minutes = flat_map (minute_seconds plan first seed) (range_with_len 0 minutes)

abbrev closer : Plan → ℕ → Second
closer plan minutes = record { index = index_of minutes; symbol = (reads plan).closing.head }

-- the second that may follow it
abbrev after : Plan → ℕ → Second
after plan minutes = record { index = index_of minutes + 1; symbol = (reads plan).closing.after }

abbrev shown : Plan → ℕ → ℕ → ℕ → List Second
shown plan first minutes seed = (opened plan ++ between plan first seed minutes) ++ closer plan minutes ∷ []

ends_so : (parts : Bool) (index : ℕ) (head last : Symbol) → seconds_from index (head ∷ (if parts then last ∷ [] else [])) ≡ record { index = index; symbol = head } ∷ end_if parts (record { index = index + 1; symbol = last })
ends_so true index head last = refl
ends_so false index head last = refl

log_is : (plan : Plan) (first minutes seed : ℕ) → seconds_of plan first minutes seed ≡ shown plan first minutes seed ++ end_if (code_of plan).has_parts (after plan minutes)
log_is plan first minutes seed =
    let begun = opened plan ++ between plan first seed minutes in
    let closing = (reads plan).closing in
    ap (λ l. begun ++ seconds_from (index_of minutes) l) closing.is
    ∙ ap (λ l. begun ++ l) (ends_so (code_of plan).has_parts (index_of minutes) closing.head closing.after)
    ∙ sym (append_assoc begun (closer plan minutes ∷ []) (end_if (code_of plan).has_parts (after plan minutes)))

marks_are : (plan : Plan) (first minutes seed : ℕ) → minutes ≤ 1440 → marks_of plan (made plan first minutes seed) ≡ marks_from plan (seeded plan seed) 1 (shown plan first minutes seed)
marks_are plan first minutes seed few =
    let start = seeded plan seed in
    let is = log_is plan first minutes seed in
    ap (λ l. marks_of plan (reductions_from plan start 1 l)) is
    ∙ marks_shown (code_of plan).has_parts plan start 1 (shown plan first minutes seed) (after plan minutes) 0
    (subst (λ l. are_alone l ≡ true) is (log_alone plan first minutes seed)) (subst (InOrder 0) is (made_in_order plan first minutes seed few))

-- the marks of the minutes and the one after them, after a mark that leads to them
pieces_are : (plan : Plan) (first seed start j minutes : ℕ) (before : Option Mark) → Leads plan (index_of 0) before →
    (closing : List Mark) × (cut (code_of plan) before (marks_from plan start j (between plan first seed minutes ++ closer plan minutes ∷ [])) ≡ [] ∷ (minutes_marks plan first seed start j 0 minutes ++ closing ∷ []))
pieces_are plan first seed start j minutes before leads =
    let closing = (reads plan).closing in
    let none : 0 + minutes ≡ minutes = omega arith in (
      mark_at plan start (j + marked plan * minutes) (index_of minutes) closing.head ∷ [],
      subst (λ n. cut (code_of plan) before (marks_from plan start j (between plan first seed minutes ++ record { index = index_of n; symbol = closing.head } ∷ [])) ≡ [] ∷ (minutes_marks plan first seed start j 0 minutes ++ (mark_at plan start (j + marked plan * minutes) (index_of n) closing.head ∷ []) ∷ [])) none
          (minutes_cut plan first seed start j 0 minutes closing.head before closing.begins_it leads),
    )

cut_after : (code : Code) (mark : Mark) (rest : List Mark) → code.begins_minute None mark ≡ false → cut code None (mark ∷ rest) ≡ onto_first mark (cut code (Some mark) rest)
cut_after code mark rest e = rw e refl

minutes_by : (plan : Plan) (first minutes seed : ℕ) → minutes ≤ 1440 → OpensAlone (code_of plan) (sending_of plan) (shape_of plan) ⊎ OpensAfter (code_of plan) (sending_of plan) (shape_of plan) →
    HasMinutes plan first minutes seed (marks_of plan (made plan first minutes seed))
minutes_by plan first minutes seed few (inl o) =
    let start = seeded plan seed in
    let rest = between plan first seed minutes ++ closer plan minutes ∷ [] in
    let seconds : shown plan first minutes seed ≡ rest = ap (λ l. (seconds_from (opening_index plan) l ++ between plan first seed minutes) ++ closer plan minutes ∷ []) o.none in
    let pieces = pieces_are plan first seed start 1 minutes None (λ late head e. o.begins (start_of (index_of 0) late) head e) in
    record {
      prefix = [];
      closing = pieces.0;
      start = start;
      from = 1;
      is = ap (cut (code_of plan) None) (marks_are plan first minutes seed few ∙ ap (marks_from plan start 1) seconds) ∙ pieces.1;
    }
minutes_by plan first minutes seed few (inr o) =
    let start = seeded plan seed in
    let rest = between plan first seed minutes ++ closer plan minutes ∷ [] in
    let one : Second = record { index = opening_index plan; symbol = o.last } in
    let opening = mark_at plan start 1 (opening_index plan) o.last in
    let seconds : shown plan first minutes seed ≡ one ∷ rest = ap (λ l. (seconds_from (opening_index plan) l ++ between plan first seed minutes) ++ closer plan minutes ∷ []) o.one in
    let pieces = pieces_are plan first seed start 2 minutes (Some opening) (leads_on plan start 1 (opening_index plan) (index_of 0) o.last (omega (arith, o.far)) o.ends_it) in
    record {
      prefix = opening ∷ [];
      closing = pieces.0;
      start = start;
      from = 2;
      is = ap (cut (code_of plan) None) (marks_are plan first minutes seed few ∙ ap (marks_from plan start 1) seconds)
          ∙ cut_after (code_of plan) opening (marks_from plan start 2 rest) (o.calm (start_of (opening_index plan) (number_from start 1)))
          ∙ ap (onto_first opening) pieces.1;
    }

has_minutes : (plan : Plan) (first minutes seed : ℕ) → minutes ≤ 1440 → HasMinutes plan first minutes seed (marks_of plan (made plan first minutes seed))
has_minutes plan first minutes seed few = minutes_by plan first minutes seed few (reads plan).opening

-- ---- their segments

closed_length : (pieces : List (List Mark)) (last : List Mark) → length (closed (pieces ++ last ∷ [])) ≡ length pieces
closed_length [] last = refl
closed_length (piece ∷ []) last = refl
closed_length (piece ∷ next ∷ pieces) last = ap suc (closed_length (next ∷ pieces) last)

minutes_length : (plan : Plan) (first seed start j m count : ℕ) → length (minutes_marks plan first seed start j m count) ≡ count
minutes_length plan first seed start j m zero = refl
minutes_length plan first seed start j m (suc count) = ap suc (minutes_length plan first seed start (j + marked plan) (m + 1) count)

segments_are : (plan : Plan) (first minutes seed : ℕ) (h : HasMinutes plan first minutes seed (marks_of plan (made plan first minutes seed))) →
    segments_of plan (marks_of plan (made plan first minutes seed)) ≡ closed (minutes_marks plan first seed h.start h.from 0 minutes ++ h.closing ∷ [])
segments_are plan first minutes seed h = ap (λ pieces. closed (drop 1 pieces)) h.is

-- ---- no minute names a leap second

abbrev leap_of : Result Coded Broken → ℕ
leap_of (Ok coded) = coded.leap_at
leap_of (Err broken) = 0

leap_judged : (o : Option ℕ) (coded : Coded) → coded.leap_at ≡ 0 → leap_of (judged_by o coded) ≡ 0
leap_judged None coded e = e
leap_judged (Some rule) coded e = refl

abbrev says_none : Plan → List Mark → Type 0
says_none plan marks = ((code_of plan).coded marks).leap_at ≡ 0

judged_none : (plan : Plan) (segment : Segment) → says_none plan segment.marks → leap_of (judged (code_of plan) segment) ≡ 0
judged_none plan segment h = leap_judged ((code_of plan).first segment.marks segment.close) ((code_of plan).coded segment.marks) h

agreed_none : (was is : ℕ) → is ≡ 0 → agreed_leap was is ≡ 0
agreed_none was is e = either (was == is)
  where
    either : (b : Bool) → (if b then is else 0) ≡ 0
    either true = e
    either false = refl

both_none : (plan : Plan) (before now : Segment) (was is : Coded) → is.leap_at ≡ 0 → leap_in (kind_of_both (code_of plan) before now was is) ≡ 0
both_none plan before now was is e = either (is.minute == was.minute + 60 && are_timely (code_of plan) before now)
  where
    either : (b : Bool) → leap_in (if b then Verdict is.minute (agreed_leap was.leap_at is.leap_at) else Differs was.minute is.minute (now.close - before.close)) ≡ 0
    either true = agreed_none was.leap_at is.leap_at e
    either false = refl

valid_none : (plan : Plan) (before : Segment) (r : Result Coded Broken) (now : Segment) (is : Coded) → is.leap_at ≡ 0 → leap_in (kind_of_valid (code_of plan) before r now is) ≡ 0
valid_none plan before (Ok was) now is e = both_none plan before now was is e
valid_none plan before (Err broken) now is e = refl

after_none : (plan : Plan) (before now : Segment) (r : Result Coded Broken) → leap_of r ≡ 0 → leap_in (kind_following (code_of plan) before now r) ≡ 0
after_none plan before now (Ok is) e = valid_none plan before (judged (code_of plan) before) now is e
after_none plan before now (Err broken) e = refl

alone_none : (r : Result Coded Broken) → leap_in (kind_alone r) ≡ 0
alone_none (Ok is) = refl
alone_none (Err broken) = refl

kind_none : (plan : Plan) (before : Option Segment) (now : Segment) → says_none plan now.marks → leap_in (kind_after (code_of plan) before now) ≡ 0
kind_none plan None now h = alone_none (judged (code_of plan) now)
kind_none plan (Some before) now h = after_none plan before now (judged (code_of plan) now) (judged_none plan now h)

-- ---- of all minutes

read_symbols : (plan : Plan) (start j index : ℕ) (symbols : List Symbol) → symbols_in (marks_from plan start j (seconds_from index symbols)) ≡ map (read_as plan) symbols
read_symbols plan start j index [] = refl
read_symbols plan start j index (symbol ∷ more) = ap (λ l. read_as plan symbol ∷ l) (read_symbols plan start (suc j) (index + 1) more)

minute_none : (plan : Plan) (first seed start j m : ℕ) → says_none plan (minute_marks plan first seed start j m)
minute_none plan first seed start j m =
    (reads plan).no_leap (is_damaged seed m) (coded_of first m) (minute_marks plan first seed start j m) refl (read_symbols plan start j (index_of m) (symbols_of plan first seed m))

minutes_none : (plan : Plan) (first seed start j m count : ℕ) → AllByRecursion (says_none plan) (minutes_marks plan first seed start j m count)
minutes_none plan first seed start j m zero = tt
minutes_none plan first seed start j m (suc count) = (minute_none plan first seed start j m, minutes_none plan first seed start (j + marked plan) (m + 1) count)

closed_all : (P : List Mark → Type 0) (pieces : List (List Mark)) (last : List Mark) → AllByRecursion P pieces → AllByRecursion (λ (s : Segment). P s.marks) (closed (pieces ++ last ∷ []))
closed_all P [] last h = tt
closed_all P (piece ∷ []) last h = (h.0, tt)
closed_all P (piece ∷ next ∷ pieces) last h = (h.0, closed_all P (next ∷ pieces) last h.1)

answers_none : (plan : Plan) (before : Option Segment) (segments : List Segment) → AllByRecursion (λ (s : Segment). says_none plan s.marks) segments → AllByRecursion (λ (a : Heard). leap_in a.kind ≡ 0) (answers_after (code_of plan) before segments)
answers_none plan before [] h = tt
answers_none plan before (now ∷ more) h = (kind_none plan before now h.0, answers_none plan (Some now) more h.1)

answers_count : (plan : Plan) (before : Option Segment) (segments : List Segment) → length (answers_after (code_of plan) before segments) ≡ length segments
answers_count plan before [] = refl
answers_count plan before (now ∷ more) = ap suc (answers_count plan (Some now) more)

-- ---- how long a log is

minutes_seconds : (plan : Plan) (first seed m count : ℕ) → length (flat_map (minute_seconds plan first seed) (range_with_len m count)) ≡ marked plan * count
minutes_seconds plan first seed m zero = omega arith
minutes_seconds plan first seed m (suc count) =
    let one = seconds_count (index_of m) (symbols_of plan first seed m) ∙ (minute_is plan first seed m).count in
    let more = minutes_seconds plan first seed (m + 1) count in
    let both = length-append (minute_seconds plan first seed m) (flat_map (minute_seconds plan first seed) (range_with_len (m + 1) count)) in
    omega (arith, one, more, both)

log_seconds : (plan : Plan) (first seed : ℕ) → length (seconds_of plan first minutes_of_a_day seed) ≤ 86404
log_seconds plan first seed =
    let opening = seconds_from (opening_index plan) (opening_symbols plan) in
    let middle = flat_map (minute_seconds plan first seed) (range_with_len 0 minutes_of_a_day) in
    let closing = seconds_from (index_of minutes_of_a_day) (closing_symbols plan) in
    omega (
      arith,
      length-append (opening ++ middle) closing,
      length-append opening middle,
      minutes_seconds plan first seed 0 minutes_of_a_day,
      seconds_count (opening_index plan) (opening_symbols plan),
      seconds_count (index_of minutes_of_a_day) (closing_symbols plan),
      (fits plan).opening,
      (fits plan).closing,
      (reads plan).most,
    )

line_short : (r : Reduction) → r.at < 2 ^ 50 → 1 ≤ r.width → r.width ≤ 2000000 → length (line_of r ++ 10 ∷ []) ≤ 32
line_short r below some most = elim (cases_lt (length (line_of r)) 32) [
  | inl lt ↦ omega (arith, lt, length-append (line_of r) (10 ∷ []))
  | inr ge ↦ (let none = long_line (line_of r) ge in let is = says r.at r.width below some most in absurd cc)
]

text_short : (least : ℕ) (rs : List Reduction) → Rises least rs → length (text_of rs) ≤ 32 * length rs
text_short least [] h = omega arith
text_short least (r ∷ more) h = omega (arith, length-append (line_of r ++ 10 ∷ []) (text_of more), line_short r h.1 h.2 h.3, text_short (r.at + 1) more h.4)

log_short : (plan : Plan) (seed : ℕ) → length (day_log plan seed) ≤ 3000000
unfolding day_log
log_short plan seed =
    let seconds = seconds_of plan first_minute minutes_of_a_day seed in
    let all = text_short (5000000 + 0 * 1000000) (made plan first_minute minutes_of_a_day seed) (made_rises plan first_minute minutes_of_a_day seed (omega arith)) in
    omega (arith, all, ones_count plan (seeded plan seed) 1 seconds (log_alone plan first_minute minutes_of_a_day seed), log_seconds plan first_minute seed)

-- ---- what is due

entries_none : (feed delay : ℕ) (heard : List Heard) → AllByRecursion (λ (a : Heard). leap_in a.kind ≡ 0) heard → NamesNoLeap (map (entry_of feed) (map (sent delay) heard))
entries_none feed delay [] h = All-nil (λ (e : Entry). leap_named e.what ≡ 0)
entries_none feed delay (a ∷ more) h = All-cons (λ (e : Entry). leap_named e.what ≡ 0) _ _ h.0 (entries_none feed delay more h.1)

pub day_is : (feed : ℕ) (plan : Plan) (seed : ℕ) → IsDay feed plan seed
unfolding day_log
day_is feed plan seed =
    let text = day_log plan seed in
    let reductions = made plan first_minute minutes_of_a_day seed in
    let minutes = has_minutes plan first_minute minutes_of_a_day seed (omega arith) in
    let pieces = minutes_marks plan first_minute seed minutes.start minutes.from 0 minutes_of_a_day in
    let segments = closed (pieces ++ minutes.closing ∷ []) in
    let read : pulses text ≡ reductions = (made_is_read plan first_minute minutes_of_a_day seed (omega arith)).found in
    let due : day_due feed plan seed ≡ map (entry_of feed) (map (sent 0) (answers plan segments)) =
    ap (λ rs. map (entry_of feed) (answers_of (record { plan = plan; delay = 0; reductions = rs }))) read
    ∙ ap (λ s. map (entry_of feed) (map (sent 0) (answers plan s))) (segments_are plan first_minute minutes_of_a_day seed minutes) in
    let none = answers_none plan None segments (closed_all (says_none plan) pieces minutes.closing (minutes_none plan first_minute seed minutes.start minutes.from 0 minutes_of_a_day)) in
    record {
      good = (made_is_read plan first_minute minutes_of_a_day seed (omega arith)).bad;
      short = log_short plan seed;
      count = ap (λ (l : List Entry). length l) due ∙ length-map (map (sent 0) (answers plan segments)) (entry_of feed) ∙ length-map (answers plan segments) (sent 0)
          ∙ answers_count plan None segments ∙ closed_length pieces minutes.closing ∙ minutes_length plan first_minute seed minutes.start minutes.from 0 minutes_of_a_day;
      no_leap = subst NamesNoLeap (sym due) (entries_none feed 0 (answers plan segments) none);
    }
