-- The lines of a script, and what they give.
use Rattle.std.proofs.Common.{◌≡◌, ℕ, ◌<◌, ◌+◌, true, inl, inr, Option, Some, None, List, [], ◌∷◌, ◌++◌, length, ap, sym, subst, ◌∙◌, arith}
use Rattle.std.specs.Prelude.{nat_le, if◌then◌else◌}
use Rattle.std.proofs.lemmas.List.{length-map}
use Rattle.line_files.proofs.ItemLaws.{one_reading}
use Rattle.line_files.specs.Items.{AreItems, HasItems, IsBad, IsFirstBad}
use Rattle.script_line.proofs.LineLaws.{one_line, short_line}
use Rattle.script_line.specs.declared.line.ScriptLine.{ScriptLine}
use Rattle.replay_command.proofs.ReplayLaws.{lines_push, may_be_kept}
use Rattle.replay_command.specs.Replay.{Played, is_full, lines_of, played_so}
use Rattle.station_values.specs.Station.{StationFields}
use Rattle.tick_units.specs.Log.{lines_of as lines_of_bytes}
use Rattle.replay_command.specs.Replaying.{replay_ending, script_of}
use Rattle.replay_command.specs.Script.{says_line, says_played, script_line_limit}
use Rattle.line_files.proofs.LineFileLaws.{IsReadable}

pub some_line : (a b : ScriptLine) → ◌≡◌ {A = Option ScriptLine} (Some a) (Some b) → a ≡ b
some_line a b e = cc

-- a text says one line, and is shorter than one that is too long
pub says_one : (of : StationFields) (before : List ScriptLine) (text : List ℕ) (x y : ScriptLine) → says_line of before text x → says_line of before text y → x ≡ y
says_one of before text x y h k = one_line text x y h.0 k.0

pub says_short : (of : StationFields) (before : List ScriptLine) (text : List ℕ) (x : ScriptLine) → says_line of before text x → length text < script_line_limit (length before)
says_short of before text x h = (let short = short_line x h.0.valid in let same = ap length h.0.is in omega arith)

-- ---- the lines that were played are the lines of the file, whatever was kept

are_lines : (of : StationFields) (before : List Played) (texts : List (List ℕ)) (items : List Played) → AreItems (says_played of) before texts items → AreItems (says_line of) (lines_of before) texts (lines_of items)
are_lines of before [] [] h = tt
are_lines of before [] (item ∷ more) h = absurd h
are_lines of before (text ∷ texts) [] h = absurd h
are_lines of before (text ∷ texts) (item ∷ more) h =
    (h.0.0, subst (λ ls. AreItems (says_line of) ls texts (lines_of more)) (lines_push before item) (are_lines of (before ++ item ∷ []) texts more h.1))

bad_text : (of : StationFields) (items : List Played) (text : List ℕ) → IsBad (says_played of) script_line_limit items text → IsBad (says_line of) script_line_limit (lines_of items) text
bad_text of items text (inl long) = inl long
bad_text of items text (inr none) = inr (λ line says. none (played_so line true) (says, may_be_kept of items line))

first_bad : (of : StationFields) (items : List Played) (left : List (List ℕ)) (unfinished : List ℕ) (bad : Option ℕ) →
    IsFirstBad (says_played of) script_line_limit items left unfinished bad → IsFirstBad (says_line of) script_line_limit (lines_of items) left unfinished bad
first_bad of items [] unfinished bad h = h ∙ ap (λ n. if nat_le 4096 (length unfinished) then Some (n + 1) else None) (sym (length-map items (λ (p : Played). p.line)))
first_bad of items (text ∷ more) unfinished bad h = (bad_text of items text h.0, h.1 ∙ ap (λ n. Some (n + 1)) (sym (length-map items (λ (p : Played). p.line))))

lines_said : (of : StationFields) (bytes : List ℕ) (items : List Played) (bad : Option ℕ) → HasItems (says_played of) script_line_limit bytes items bad → HasItems (says_line of) script_line_limit bytes (lines_of items) bad
lines_said of bytes items bad h = record {
  texts = h.texts;
  left = h.left;
  all = h.all;
  said = are_lines of [] h.texts items h.said;
  first = first_bad of items h.left (lines_of_bytes bytes).unfinished bad h.first;
}

-- so a script without a bad line has none however it is played, and ends in one way
pub script_readable : (limit : ℕ) (of : StationFields) → IsReadable (script_of limit of)
script_readable limit of = record {
  ends = λ bytes items good bad h g.
      let one = one_reading (says_line of) script_line_limit (says_one of) (says_short of) bytes (lines_of items) (lines_of good) bad (lines_said of bytes items bad h) (lines_said of bytes good None g) in
      (λ end. ap (λ ls. replay_ending end (is_full of limit ls) limit) one.0, one.1);
}
