-- An ending's text after another.
use Rattle.std.proofs.Common.{ℕ, List, ◌++◌, inl, inr, refl}
use Rattle.outside_traits.specs.States.{SinkState}
use Rattle.command_ends.specs.Writing.{Answers}
use Rattle.command_ends.specs.declared.ending.status.Status.{Status}
use Rattle.command_ends.specs.declared.ending.status.Status.TheVariants.{WriteFault}
use Rattle.outside_traits.specs.Writing.{WritesAll, WritesPrefix}
use Rattle.outside_traits.proofs.WritingLaws.{prefix_of_both, writes_prefix, writes_more}

-- a text, and then the status line
pub answers_more : (status result : Status) (a b c : SinkState) (x y : List ℕ) → WritesAll a b x → Answers status result b c y → Answers status result a c (x ++ y)
answers_more status result a b c x y h k = elim k [
  | inl all ↦ inl (all.0, writes_more a b c x y h all.1)
  | inr failed ↦ inr (failed.0, writes_prefix a b c x y h failed.1)
]

-- a write failed in the first of two texts
pub answers_prefix : (status : Status) (a b : SinkState) (x y : List ℕ) → WritesPrefix a b x → Answers status WriteFault a b (x ++ y)
answers_prefix status a b x y h = inr (refl, prefix_of_both a b x y h)
