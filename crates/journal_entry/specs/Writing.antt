-- Scaffolding, which contracts use: a text that is written piece by piece into a buffer, and the state of its writer.
use Rattle.std.specs.Prelude.{◌≡◌, ℕ, ◌+◌, ◌≤◌, List, ◌++◌, length, take, drop}
use Rattle.std.specs.Borrow.{GName}
use Rattle.journal_entry.specs.Texts.{spaced}
use Rattle.journal_entry.specs.declared.writer.TextWriter.{TextWriter}
use Rattle.journal_entry.specs.declared.writer.TheConstants.{LINE_ROOM}

-- how many bytes have been written
abbrev pub written : TextWriter → ℕ
written w = w.length

-- all bytes of the room, those after the text too
abbrev pub room_of : TextWriter → List ℕ
room_of w = w.out.now

-- the text so far
abbrev pub text_in : TextWriter → List ℕ
text_in w = take (written w) (room_of w)

-- there is room for this many bytes more
abbrev pub HasRoom : TextWriter → ℕ → Type 0
HasRoom w more = written w + more ≤ LINE_ROOM

-- which room it is
abbrev pub room_name : TextWriter → GName
room_name w = w.out.ghost_name

-- in the same room a piece stands after the text, and nothing after it has changed
pub record Adds (old new : TextWriter) (piece : List ℕ) : Type 0 where
  pub room : room_name new ≡ room_name old
  pub length : written new ≡ written old + length piece
  pub text : text_in new ≡ text_in old ++ piece
  pub rest : drop (written new) (room_of new) ≡ drop (written new) (room_of old)

-- fields, each after a space
pub record AddsFields (old new : TextWriter) (fields : List (List ℕ)) : Type 0 where
  pub adds : Adds old new (spaced fields)
