-- The carriage return at the end of a line, and a line with one byte more.
use Rattle.std.proofs.Common.{◌≡◌, ℕ, ◌-◌, ◌==◌, Bool, true, false, List, [], ◌∷◌, ◌++◌, length, if◌then◌else◌, refl, sym, ap, ◌∙◌, arith}
use Rattle.std.specs.Str.Lines.{strip_carriage_return}
use Rattle.std.proofs.Math.Seq.{take-append_seam, get_or-append_seam}
use Rattle.std.proofs.lemmas.List.{length_push}
use Rattle.std.proofs.lemmas.List.Sums.{fold-append}
use Rattle.leap_file.specs.declared.part.Part.{Part}
use Rattle.leap_file.specs.declared.part.Part.TheVariants.{Start}
use Rattle.leap_file.specs.Parts.{next, part_of}
use Rattle.leap_file.specs.Reading.{EndsIn}

last_place : (text : List ℕ) (b : ℕ) → length (text ++ b ∷ []) - 1 ≡ length text
last_place text b = omega (arith, length_push text b)

-- a carriage return is taken off, and no other byte
strip_return : (text : List ℕ) → strip_carriage_return (text ++ 13 ∷ []) ≡ text
strip_return text = rw (last_place text 13, get_or-append_seam text 13 [] 0) (take-append_seam text (13 ∷ []))

pub strip_other : (text : List ℕ) (b : ℕ) → (b == 13) ≡ false → strip_carriage_return (text ++ b ∷ []) ≡ text ++ b ∷ []
strip_other text b other = rw (last_place text b, get_or-append_seam text b [] 0, other) refl

-- how far a line has come without its carriage return, and with it
pub part_is : (returned : Bool) (part : Part) (text : List ℕ) → EndsIn returned part text → part ≡ part_of (strip_carriage_return text)
part_is true part text (leading, is, so_far) = so_far ∙ ap part_of (sym (ap strip_carriage_return is ∙ strip_return leading))
part_is false part text (is, so_far) = so_far ∙ ap part_of (sym is)

pub whole_is : (returned : Bool) (part : Part) (text : List ℕ) → EndsIn returned part text → (if returned then next part 13 else part) ≡ part_of text
whole_is true part text (leading, is, so_far) = ap (λ p. next p 13) so_far ∙ sym (fold-append next Start leading (13 ∷ [])) ∙ ap part_of (sym is)
whole_is false part text (is, so_far) = so_far

pub part_push : (text : List ℕ) (b : ℕ) → part_of (text ++ b ∷ []) ≡ next (part_of text) b
part_push text b = fold-append next Start text (b ∷ [])
