-- The state of a reader of a log, by the bytes that it has taken. The format of a log is this project's own.
use Rattle.std.specs.Prelude.{◌≡◌, ℕ, ◌+◌, Option, None, Some, List, [], ◌∷◌, ◌++◌, length, Result, MatchResult}
use Rattle.std.specs.Option.{option_to_list}
use Rattle.tick_units.specs.Log.{lines_of, pulses, bad_line}
use Rattle.tick_units.specs.declared.marks.Reduction.{Reduction}
use Rattle.pulse_log.specs.Lines.{IsLine}
use Rattle.pulse_log.specs.declared.reader.LineReader.{LineReader}
use Rattle.pulse_log.specs.declared.reader.BadLine.{BadLine}

-- the least start that may come after these reductions: above that of the last of them
abbrev pub least_after : List Reduction → ℕ
least_after [] = 0
least_after (r ∷ []) = r.at + 1
least_after (r ∷ next ∷ more) = least_after (next ∷ more)

abbrev pub number_of_bad : Option BadLine → Option ℕ
number_of_bad None = None
number_of_bad (Some bad) = Some bad.line

-- the reader has taken these bytes: it keeps their bad line, and what it needs of them while they have none
pub record HasRead (reader : LineReader) (bytes : List ℕ) : Type 0 where
  pub bad : number_of_bad reader.bad ≡ bad_line bytes
  pub line : bad_line bytes ≡ None → IsLine reader.line (lines_of bytes).unfinished
  pub lines : bad_line bytes ≡ None → reader.lines ≡ length (lines_of bytes).complete
  pub least : bad_line bytes ≡ None → reader.least ≡ least_after (pulses bytes)

-- a prefix of what comes is taken. The result says what it adds: a reduction, or the bad line that the log has from then on.
pub record TakesPrefix (new : LineReader) (bytes prefix : List ℕ) (result : Result (Option Reduction) BadLine) : Type 0 where
  pub read : HasRead new (bytes ++ prefix)
  pub found : MatchResult result
      (λ found. (bad_line (bytes ++ prefix) ≡ None) × (pulses (bytes ++ prefix) ≡ pulses bytes ++ option_to_list found))
      (λ bad. (bad_line (bytes ++ prefix) ≡ Some bad.line) × (pulses (bytes ++ prefix) ≡ pulses bytes))

-- the same with only the next byte
abbrev pub TakesByte : LineReader → List ℕ → ℕ → Result (Option Reduction) BadLine → Type 0
TakesByte new bytes byte result = TakesPrefix new bytes (byte ∷ []) result

-- a prefix of what comes ends no line and makes none bad
pub record GoesOn (new : LineReader) (bytes prefix : List ℕ) : Type 0 where
  pub read : HasRead new (bytes ++ prefix)
  pub bad : bad_line (bytes ++ prefix) ≡ bad_line bytes
  pub same : pulses (bytes ++ prefix) ≡ pulses bytes
