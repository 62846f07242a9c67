-- What keeps a station from being used is reported.
use Rattle.std.proofs.Common.{ℕ, List, sym, subst, inl, inr}
use Rattle.file_reader.specs.declared.reader.FileEnd.{FileEnd}
use Rattle.file_reader.specs.declared.reader.FileEnd.TheVariants.{Whole, Fault, TooLong}
use Rattle.command_ends.specs.StationFile.{HasStatusLine, IsObstacle}
use Rattle.command_ends.specs.declared.station_file.obstacle.Obstacle.{Obstacle}

pub reported_by : (end : FileEnd) (bytes : List ℕ) (due : Obstacle) → IsObstacle end bytes due → HasStatusLine due
reported_by Fault bytes due is = subst HasStatusLine (sym is) tt
reported_by TooLong bytes due is = subst HasStatusLine (sym is) tt
reported_by Whole bytes due is = elim is [
  | inl memory ↦ subst HasStatusLine (sym memory) tt
  | inr faulty ↦ subst HasStatusLine (sym faulty.1) faulty.2
]
