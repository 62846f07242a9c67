-- What a reader does with the bytes of a line that goes on.
use Rattle.std.proofs.Common.{◌≡◌, ℕ, ◌+◌, ◌<◌, false, eqb, None, List, [], ◌∷◌, ◌++◌, take, refl, ap, sym, ◌∙◌, subst, arith, append_assoc}
use Rattle.std.proofs.lemmas.List.{append-nil}
use Rattle.tick_units.specs.Log.{pulses, bad_line}
use Rattle.pulse_log.specs.Lines.{IsLine}
use Rattle.pulse_log.specs.declared.line.Line.{Line}
use Rattle.pulse_log.specs.declared.reader.LineReader.{LineReader}
use Rattle.pulse_log.specs.Reading.{HasRead, GoesOn, number_of_bad}
use Rattle.pulse_log.proofs.ReaderLaws.{goes_on}

-- a reader with another line
abbrev pub with_line : LineReader → Line → LineReader
with_line reader line = record reader { line = line }

-- of a piece this many bytes were taken, and the line is that after them
pub record GoesSo (reader : LineReader) (line : Line) (piece : List ℕ) (count index : ℕ) : Type 0 where
  pub counted : count ≡ index
  pub bad : reader.bad ≡ None
  pub goes : (before : List ℕ) → HasRead reader before → GoesOn (with_line reader line) before (take index piece)

-- one byte more
goes_further : (reader : LineReader) (old new : Line) (before prefix : List ℕ) (byte : ℕ) → reader.bad ≡ None → eqb byte 10 ≡ false → old.length < 31 →
    ((text : List ℕ) → IsLine old text → IsLine new (text ++ byte ∷ [])) → GoesOn (with_line reader old) before prefix → GoesOn (with_line reader new) before (prefix ++ byte ∷ [])
goes_further reader old new before prefix byte none other short line goes =
    let regroup : (before ++ prefix) ++ byte ∷ [] ≡ before ++ (prefix ++ byte ∷ []) = append_assoc before prefix (byte ∷ []) in
    let one = goes_on (with_line reader old) (with_line reader new) (before ++ prefix) byte goes.read none other short line refl refl none in
    let good : bad_line (before ++ prefix) ≡ None = sym goes.read.bad ∙ ap number_of_bad none in
    record {
      read = subst (HasRead (with_line reader new)) regroup one.read;
      bad = ap bad_line (sym regroup) ∙ one.found.0 ∙ sym good ∙ goes.bad;
      same = ap pulses (sym regroup) ∙ one.found.1 ∙ append-nil (pulses (before ++ prefix)) ∙ goes.same;
    }

pub goes_so : (reader : LineReader) (old new : Line) (piece : List ℕ) (count index byte : ℕ) → GoesSo reader old piece count index → eqb byte 10 ≡ false → old.length < 31 →
    ((text : List ℕ) → IsLine old text → IsLine new (text ++ byte ∷ [])) → take (index + 1) piece ≡ take index piece ++ byte ∷ [] → GoesSo reader new piece (count + 1) (index + 1)
goes_so reader old new piece count index byte so other short line longer = record {
  counted = omega (arith, so.counted);
  bad = so.bad;
  goes = λ before h. subst (GoesOn (with_line reader new) before) (sym longer) (goes_further reader old new before (take index piece) byte so.bad other short line (so.goes before h));
}
