-- Which bytes of a file of lines were read, and why the reading ended: at its end, at a fault, at the limit of bytes, or at a bad
-- line. All of it is this project's own.
use Rattle.std.specs.Prelude.{◌≡◌, ℕ, ◌⊎◌, Option, None, Some, List}
use Rattle.outside_traits.specs.States.{SourceState, NoneLeft}
use Rattle.file_reader.specs.Ends.{HasReadPrefix, EndsReading}
use Rattle.file_reader.specs.declared.reader.FileEnd.TheVariants.{Whole, Fault, TooLong}
use Rattle.tick_units.specs.Log.{lines_of, or_unfinished}
use Rattle.file_reader.specs.declared.log_end.LogEnd.{LogEnd}
use Rattle.file_reader.specs.declared.log_end.LogEnd.TheVariants as log

-- the first bad line of a file that has ended, where this one is the first while more may come: then an unfinished line is bad
-- too
abbrev pub bad_in_the_end : Option ℕ → List ℕ → Option ℕ
bad_in_the_end bad bytes = or_unfinished bad (lines_of bytes)

-- these bytes were read of a file of at most this many. This is their first bad line while more may come, and the reading ended
-- so. At the end no line is bad. At a read that failed, or at the limit, no line is bad so far. A bad line stands among the bytes
-- or is the unfinished one at the end
abbrev pub ReadsLines : LogEnd → ℕ → SourceState → SourceState → List ℕ → Option ℕ → Type 0
ReadsLines log.Whole limit file file_now bytes bad = EndsReading Whole limit file file_now bytes × (bad_in_the_end bad bytes ≡ None)
ReadsLines log.Fault limit file file_now bytes bad = EndsReading Fault limit file file_now bytes × (bad ≡ None)
ReadsLines log.Long limit file file_now bytes bad = EndsReading TooLong limit file file_now bytes × (bad ≡ None)
ReadsLines (log.BadLine line) limit file file_now bytes bad = HasReadPrefix limit file file_now bytes
    × ((bad ≡ Some line) ⊎ (NoneLeft file_now.left × (bad ≡ None) × (bad_in_the_end bad bytes ≡ Some line)))
