-- Scaffolding, which contracts use: the marks of a segment as a few numbers. No rule of a code plan concerns a place after the
-- 61st of a segment that is as long as a minute. So the bits of 61 places are kept, and of later marks only what a rule on all
-- marks needs.
use Rattle.std.specs.Prelude.{◌≡◌, ℕ, ◌+◌, ◌*◌, ◌==◌, Bool, true, min, Option, Some, None, List, [], ◌∷◌, length, take, drop, if◌then◌else◌}
use Rattle.std.specs.List.{last_or, list_any}
use Rattle.frame_rules.specs.Fields.{has_a, has_b}
use Rattle.tick_units.specs.Marks.{is_between, is_long}
use Rattle.tick_units.specs.declared.marks.Mark.{Mark}
use Rattle.tick_units.specs.declared.marks.Symbol.{Symbol}
use Rattle.frame_rules.specs.MarkRules.{breaks_spacing, breaks_width}
use Rattle.frame_rules.specs.declared.frame.Frame.{Frame}

-- a start comes 900000 to 1100000 microseconds after the last mark, where there is one
abbrev pub is_near : Option Mark → ℕ → Bool
is_near None start = true
is_near (Some last) start = is_between (last.at + 900000) (last.at + 1100000) start

-- one bit of each mark, as a number: the bit of the first mark counts 1, and that of each next one twice as much
abbrev pub word_of : (Symbol → Bool) → List Mark → ℕ
word_of bit [] = 0
word_of bit (mark ∷ marks) = (if bit mark.symbol then 1 else 0) + 2 * word_of bit marks

-- a mark is Long
abbrev pub has_long : List Mark → Bool
has_long marks = list_any (λ mark. is_long mark.symbol) marks

-- the last of the marks that a frame has read
abbrev pub last_of : {C : Type 0} → Frame C → Option Mark
last_of frame = if frame.count == 0 then None else Some (record { at = frame.last_at; symbol = frame.last_symbol })

-- a frame has read these marks. It has their count, up to 61, and of the first 61 the bits A, the bits B and which are Long. Of all
-- it has whether one after the 61st is Long, whether spacing or a width is broken, and the last.
pub record HasMarks {C : Type 0} (frame : Frame C) (marks : List Mark) : Type 0 where
  pub count : frame.count ≡ min (length marks) 61
  pub bits_a : frame.bits_a ≡ word_of has_a (take 61 marks)
  pub bits_b : frame.bits_b ≡ word_of has_b (take 61 marks)
  pub longs : frame.longs ≡ word_of is_long (take 61 marks)
  pub long_after : frame.long_after ≡ has_long (drop 61 marks)
  pub spacing : frame.spacing_broken ≡ breaks_spacing marks
  pub width : frame.width_broken ≡ breaks_width marks
  pub last : last_of frame ≡ last_or None marks
