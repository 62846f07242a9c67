-- The lines of a replay script, and the one text of each: a keyword and its fields, separated by one space. The form is this
-- project's own. Numbers are written as in the decimal output of Rust and C.
use Rattle.std.specs.Prelude.{◌≡◌, ℕ, ◌<◌, ◌≤◌, ◌^◌, List, [], ◌∷◌, ◌++◌, codes, decimal}
use Rattle.hex.specs.Hex.{encode_lower}
use Rattle.journal_entry.specs.Texts.{spaced}
use Rattle.tick_units.specs.Years.{end_of_supported}
use Rattle.tick_units.specs.declared.marks.Reduction.{Reduction}
use Rattle.script_line.specs.Datagrams.{IsDatagram}
use Rattle.script_line.specs.declared.line.ScriptLine.{ScriptLine}
use Rattle.script_line.specs.declared.line.ScriptLine.TheVariants.{Pulse, Ask, Answer, Swap, Request, Leap}

abbrev pub word_of : ScriptLine → List ℕ
word_of (Pulse feed reduction) = codes "pulse"
word_of (Ask feed at) = codes "ask"
word_of (Answer feed at datagram) = codes "answer"
word_of (Swap feed) = codes "swap"
word_of (Request connection arrived sent datagram) = codes "request"
word_of (Leap feed at leap_at) = codes "leap"

abbrev pub fields_of : ScriptLine → List (List ℕ)
fields_of (Pulse feed reduction) = decimal feed ∷ decimal reduction.at ∷ decimal reduction.width ∷ []
fields_of (Ask feed at) = decimal feed ∷ decimal at ∷ []
fields_of (Answer feed at datagram) = decimal feed ∷ decimal at ∷ encode_lower datagram ∷ []
fields_of (Swap feed) = decimal feed ∷ []
fields_of (Request connection arrived sent datagram) =
    decimal connection ∷ decimal arrived ∷ decimal sent ∷ encode_lower datagram ∷ []
fields_of (Leap feed at leap_at) = decimal feed ∷ decimal at ∷ decimal leap_at ∷ []

-- without a line feed
abbrev pub text_of : ScriptLine → List ℕ
text_of line = word_of line ++ spaced (fields_of line)

-- a reduction as it may stand in a log: the start in microseconds on the host's counter, and a width of up to 2 s
pub record IsReduction (r : Reduction) : Type 0 where
  pub at : r.at < 2 ^ 50
  pub least : 1 ≤ r.width
  pub most : r.width ≤ 2000000

-- when a client's datagram came and when it is answered
pub record AreMoments (arrived sent : ℕ) : Type 0 where
  pub order : arrived ≤ sent
  pub below : sent < 2 ^ 50

-- what a line says is in range, whatever the station and the lines before it are
abbrev pub IsLine : ScriptLine → Type 0
IsLine (Pulse feed reduction) = (feed < 2 ^ 32) × IsReduction reduction
IsLine (Ask feed at) = (feed < 2 ^ 32) × (at < 2 ^ 50)
IsLine (Answer feed at datagram) = (feed < 2 ^ 32) × (at < 2 ^ 50) × IsDatagram datagram
IsLine (Swap feed) = feed < 2 ^ 32
IsLine (Request connection arrived sent datagram) = (connection < 8) × AreMoments arrived sent × IsDatagram datagram
IsLine (Leap feed at leap_at) = (feed < 2 ^ 32) × (at < 2 ^ 50) × (leap_at < end_of_supported)

-- a text is this line's
pub record IsTextOf (text : List ℕ) (line : ScriptLine) : Type 0 where
  pub valid : IsLine line
  pub is : text ≡ text_of line
