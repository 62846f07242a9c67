-- How the bytes of a file are cut into lines. A line ends with a line feed, and is too long where it comes to a stated number of
-- bytes before it.
use Rattle.std.specs.Prelude.{◌≡◌, ℕ, ◌≤◌, List, [], ◌∷◌, ◌++◌, length, take, if◌then◌else◌}
use Rattle.tick_units.specs.Log.{lines_of}
use Rattle.pulse_log.specs.declared.taken.Taken.{Taken}
use Rattle.line_files.specs.declared.cutter.Cut.{Cut}
use Rattle.line_files.specs.declared.cutter.Cut.TheVariants.{More, Line, TooLong}
use Rattle.line_files.specs.declared.cutter.LineCutter.{LineCutter}

-- the line that is kept: the last one that ended, or the one that goes on
abbrev pub line_in : LineCutter → List ℕ
line_in cutter = take cutter.length cutter.room

-- the line that goes on
abbrev pub unfinished_in : LineCutter → List ℕ
unfinished_in cutter = if cutter.ended then [] else line_in cutter

-- these bytes of a file have been taken, a line of this many bytes being too long
pub record HasTaken (cutter : LineCutter) (too_long : ℕ) (bytes : List ℕ) : Type 0 where
  pub limit : cutter.too_long ≡ too_long
  pub unfinished : unfinished_in cutter ≡ (lines_of bytes).unfinished

-- what was taken of a piece: all of it, and no line ended; or up to a line feed, and the line is kept; or up to the byte that
-- makes the line too long
abbrev pub IsCut : Cut → LineCutter → (too_long : ℕ) → (bytes piece taken : List ℕ) → Type 0
IsCut More new too_long bytes piece taken =
    HasTaken new too_long (bytes ++ taken) × (taken ≡ piece) × ((lines_of (bytes ++ taken)).complete ≡ (lines_of bytes).complete)
IsCut Line new too_long bytes piece taken =
    HasTaken new too_long (bytes ++ taken) × ((lines_of (bytes ++ taken)).unfinished ≡ [])
    × ((lines_of (bytes ++ taken)).complete ≡ (lines_of bytes).complete ++ line_in new ∷ [])
IsCut TooLong new too_long bytes piece taken =
    HasTaken new too_long bytes × (length (lines_of (bytes ++ taken)).unfinished ≡ too_long)
    × ((lines_of (bytes ++ taken)).complete ≡ (lines_of bytes).complete)

pub record TakesPiece (new : LineCutter) (too_long : ℕ) (bytes piece : List ℕ) (taken : Taken Cut) : Type 0 where
  pub within : taken.count ≤ length piece
  pub cut : IsCut taken.found new too_long bytes piece (take taken.count piece)
