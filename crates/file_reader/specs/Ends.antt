-- What was read of a file of which at most `limit` bytes are taken, and how its reading ended.
use Rattle.std.specs.Prelude.{◌≡◌, ◌≤◌, ℕ, Option, None, Some, List, [], ◌++◌, length}
use Rattle.outside_traits.specs.Faults.{RoseByOne}
use Rattle.outside_traits.specs.States.{SourceState, Takes, NoneLeft}
use Rattle.file_reader.specs.declared.log_end.LogEnd.{LogEnd}
use Rattle.file_reader.specs.declared.log_end.LogEnd.TheVariants as lines
use Rattle.file_reader.specs.declared.reader.FileEnd.{FileEnd}
use Rattle.file_reader.specs.declared.reader.FileEnd.TheVariants.{Whole, Fault, TooLong}

-- these bytes were read so far, and no read failed
pub record HasReadPrefix (limit : ℕ) (file file_now : SourceState) (bytes : List ℕ) : Type 0 where
  pub taken : Takes file.left file_now.left bytes
  pub most : length bytes ≤ limit
  pub no_fault : file_now.faults ≡ file.faults

-- why a reading ended: nothing is left; a read failed, which took nothing; or all bytes up to the limit and one more were read
abbrev pub Cause : FileEnd → ℕ → SourceState → SourceState → List ℕ → List ℕ → Type 0
Cause Whole limit file file_now bytes extra = (extra ≡ []) × NoneLeft file_now.left × (file_now.faults ≡ file.faults)
Cause Fault limit file file_now bytes extra = (extra ≡ []) × RoseByOne file.faults file_now.faults
Cause TooLong limit file file_now bytes extra = (length bytes ≡ limit) × (length extra ≡ 1) × (file_now.faults ≡ file.faults)

-- these bytes were read, and then the reading ended for this cause; the byte past the limit is none of them
pub record EndsReading (end : FileEnd) (limit : ℕ) (file file_now : SourceState) (bytes : List ℕ) : Type 0 where
  pub extra : List ℕ
  pub taken : Takes file.left file_now.left (bytes ++ extra)
  pub most : length bytes ≤ limit
  pub cause : Cause end limit file file_now bytes extra

-- why the reading of a file of lines ended that was read to its end, by the line that is bad then
abbrev pub EndsAt : LogEnd → Option ℕ → Type 0
EndsAt lines.Whole bad = bad ≡ None
EndsAt (lines.BadLine line) bad = bad ≡ Some line
EndsAt lines.Fault bad = ⊥
EndsAt lines.Long bad = ⊥
