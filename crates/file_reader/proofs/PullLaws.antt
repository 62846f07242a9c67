-- What was read of a file, one read more.
use Rattle.std.proofs.Common.{◌≡◌, ℕ, List, length, ◌∙◌, arith}
use Rattle.outside_traits.specs.States.{SourceState, Takes}
use Rattle.outside_traits.proofs.StateLaws.{Takes-more}
use Rattle.file_reader.specs.Ends.{EndsReading}
use Rattle.file_reader.specs.Reader.{room_of, limit_of, HasPulled}
use Rattle.file_reader.specs.declared.reader.FileReader.{FileReader}
use Rattle.file_reader.specs.declared.reader.FileEnd.TheVariants.{TooLong}

-- at the limit one byte more stood there
pub too_long : (reader : FileReader) (start before now : SourceState) (bytes extra : List ℕ) → HasPulled reader start before bytes → room_of reader ≡ 0 →
    Takes before.left now.left extra → length extra ≡ 1 → now.faults ≡ before.faults → EndsReading TooLong (limit_of reader) start now bytes
too_long reader start before now bytes extra pulled full more one same = record {
  extra = extra;
  taken = Takes-more start.left before.left now.left bytes extra pulled.prefix.taken more;
  most = pulled.prefix.most;
  cause = (omega (arith, full, pulled.counted), one, same ∙ pulled.prefix.no_fault);
}
