-- What the feeds of a journal say of leap seconds. This is the word of each, and the moment on the host's counter at which the
-- leap second that it names comes. It is also the greatest of these moments that has passed, and the leap second that is still to
-- come. How words of several feeds are weighed is this project's own; RFC 5905 says in section 7.3 (the leap indicator) what a
-- leap second is. A leap second is named by the second that begins when it ends. Seconds are counted without leap seconds. So a
-- moment computed from before a leap second is that of its beginning, and one computed from after it is that of its end.
use Rattle.std.specs.Prelude.{ℕ, ◌+◌, ◌-◌, ◌*◌, ◌^◌, ◌==◌, nat_lt, nat_le, ◌||◌, Option, None, Some, List, filter, map, if◌then◌else◌}
use Rattle.std.specs.List.{filter_map, last_or, range_with_len}
use Rattle.tick_units.specs.Orders.{greatest, best}
use Rattle.tick_units.specs.declared.verdicts.Kind.TheVariants.{Refused, Lone, Differs}
use Rattle.tick_units.specs.declared.verdicts.Kind.TheVariants.{Verdict as Agreed}
use Rattle.journal_entry.specs.declared.entry.Entry.{Entry}
use Rattle.journal_entry.specs.declared.entry.What.{What}
use Rattle.journal_entry.specs.declared.entry.What.TheVariants.{Heard, Declined, Notice}
use Rattle.journal_entry.specs.declared.entry.What.TheVariants.{Sample as Measured}
use Rattle.system_fold.specs.Journal.{now_of, prefixes}
use Rattle.system_fold.specs.declared.leaps.Leap.{Leap}
use Rattle.system_fold.specs.declared.leaps.Verdict.{Verdict}
use Rattle.system_fold.specs.declared.leaps.Word.{Word}
use Rattle.system_fold.specs.declared.leaps.Word.TheVariants.{Verified, Announced}

-- the announcement that an entry makes: only a Verdict and a Notice announce leap seconds
abbrev pub word_in : ℕ → What → Option Word
word_in at (Heard (Agreed second leap_at)) = Some (Verified at second leap_at)
word_in at (Heard (Refused rule)) = None
word_in at (Heard (Lone second)) = None
word_in at (Heard (Differs before now apart)) = None
word_in at (Measured sample) = None
word_in at (Declined code) = None
word_in at (Notice leap_at) = Some (Announced leap_at)

abbrev pub verdict_in : ℕ → What → Option Verdict
verdict_in at (Heard (Agreed second leap_at)) = Some (record { at = at; second = second })
verdict_in at (Heard (Refused rule)) = None
verdict_in at (Heard (Lone second)) = None
verdict_in at (Heard (Differs before now apart)) = None
verdict_in at (Measured sample) = None
verdict_in at (Declined code) = None
verdict_in at (Notice leap_at) = None

-- the last Verdict or Notice of a feed
abbrev pub word_of : List Entry → ℕ → Option Word
word_of journal feed = last_or None (filter_map (λ e. word_in e.at e.what) (filter (λ e. e.feed == feed) journal))

-- those of the 16 feeds that there can be, in order
abbrev pub words_of : List Entry → List (Option Word)
words_of journal = map (word_of journal) (range_with_len 0 16)

-- the last Verdict of any feed
abbrev pub last_verdict : List Entry → Option Verdict
last_verdict journal = last_or None (filter_map (λ e. verdict_in e.at e.what) journal)

-- the moment that is as many microseconds from `at` as the second `leap_at` is from `second`; one below 0 counts as 0
abbrev pub moment_of : ℕ → ℕ → ℕ → ℕ
moment_of at second leap_at = (at + leap_at * 10 ^ 6) - second * 10 ^ 6

-- the leap second that a word names, and its moment. A word with `leap_at` 0 names none. A Verdict gives both by itself. A Notice
-- has no moment of its own, so it is computed from the last Verdict. There is none where no feed has given a Verdict yet, or
-- where the leap second was over before the second of that Verdict.
abbrev pub leap_of : Option Verdict → Option Word → Option Leap
leap_of last None = None
leap_of last (Some (Verified at second leap_at)) = if leap_at == 0 then None else Some (record { moment = moment_of at second leap_at; leap_at = leap_at })
leap_of None (Some (Announced leap_at)) = None
leap_of (Some v) (Some (Announced leap_at)) = if leap_at == 0 || nat_lt leap_at v.second then None else Some (record { moment = moment_of v.at v.second leap_at; leap_at = leap_at })

-- the moment of a leap second, where it is not above now, or 0
abbrev pub passed_by : ℕ → Option Leap → ℕ
passed_by now None = 0
passed_by now (Some leap) = if nat_le leap.moment now then leap.moment else 0

-- the greatest of these moments among words
abbrev pub passed_among : ℕ → Option Verdict → List (Option Word) → ℕ
passed_among now last words = greatest (map (λ word. passed_by now (leap_of last word)) words)

-- that of the words of a journal
abbrev pub passed : List Entry → ℕ
passed journal = passed_among (now_of journal) (last_verdict journal) (words_of journal)

-- the moment from which on samples count: the greatest moment of a leap second that had passed at any time. Each prefix of the
-- journal is judged by its own words, its own last Verdict and its own `now`.
abbrev pub cut_of : List Entry → ℕ
cut_of journal = greatest (map passed (prefixes journal))

-- a leap second, where its moment is above now
abbrev pub ahead_of : ℕ → Option Leap → Option Leap
ahead_of now None = None
ahead_of now (Some leap) = if nat_lt now leap.moment then Some leap else None

-- of the leap seconds that these words name and that are still to come, the next; of equal moments the least feed's
abbrev pub armed_among : ℕ → Option Verdict → List (Option Word) → Option Leap
armed_among now last words = best (λ y x. nat_lt y.moment x.moment) (filter_map (λ word. ahead_of now (leap_of last word)) words)

-- that of the words of a journal
abbrev pub armed_of : List Entry → Option Leap
armed_of journal = armed_among (now_of journal) (last_verdict journal) (words_of journal)
