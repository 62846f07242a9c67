-- The lines of reductions, one and two.
use Rattle.std.proofs.Common.{◌≡◌, ℕ, ◌+◌, List, [], ◌∷◌, ◌++◌, length, take, refl, sym, ap, ◌∙◌, subst}
use Rattle.std.proofs.lemmas.List.{append-nil, length-append, take_at}
use Rattle.outside_traits.specs.States.{SinkState}
use Rattle.tick_units.specs.declared.marks.Plan.{Plan}
use Rattle.tick_units.specs.declared.marks.Reduction.{Reduction}
use Rattle.tick_units.specs.declared.marks.Symbol.{Symbol}
use Rattle.tick_units.specs.declared.marks.Symbol.TheVariants.{Zero, One, OnlyB, Both, Long, Odd}
use Rattle.pulse_log.specs.Writing.{line_of}
use Rattle.drill_day.specs.Made.{width_of, parts_of, text_of}
use Rattle.outside_traits.specs.Writing.{WritesAll, WritesPrefix}
use Rattle.drill_day.proofs.ProgressLaws.{text_append}
use Rattle.outside_traits.proofs.WritingLaws.{writes_prefix, prefix_of_both}

-- what stands at the beginning of a piece in which a line was written
pub prefix_is_line : (r : Reduction) (count : ℕ) (piece rest : List ℕ) → piece ≡ line_of r ++ 10 ∷ [] ++ rest → count ≡ length (line_of r) + 1 → take count piece ≡ text_of (r ∷ [])
prefix_is_line r count piece rest is size =
    let line = line_of r ++ 10 ∷ [] in
    ap (take count) is ∙ take_at line rest count (length-append (line_of r) (10 ∷ []) ∙ sym size) ∙ sym (append-nil line)

-- the reduction with which a symbol begins
abbrev pub first_part : Plan → ℕ → Symbol → Reduction
first_part plan start symbol = record { at = start; width = width_of plan symbol }

pub begins_so : (plan : Plan) (start : ℕ) (symbol : Symbol) → (more : List Reduction) × (parts_of plan start symbol ≡ first_part plan start symbol ∷ more)
begins_so plan start Zero = ([], refl)
begins_so plan start One = ([], refl)
begins_so plan start OnlyB = (first_part plan (start + 200000) OnlyB ∷ [], refl)
begins_so plan start Both = ([], refl)
begins_so plan start Long = ([], refl)
begins_so plan start Odd = ([], refl)

-- a write of the first part failed
pub first_stopped : (out out_now : SinkState) (plan : Plan) (start : ℕ) (symbol : Symbol) → WritesPrefix out out_now (text_of (first_part plan start symbol ∷ [])) → WritesPrefix out out_now (text_of (parts_of plan start symbol))
first_stopped out out_now plan start symbol h =
    let begins = begins_so plan start symbol in
    subst (λ t. WritesPrefix out out_now t) (sym (ap text_of begins.1 ∙ text_append (first_part plan start symbol ∷ []) begins.0))
    (prefix_of_both out out_now (text_of (first_part plan start symbol ∷ [])) (text_of begins.0) h)

-- a write of the second part failed
pub second_stopped : (a b c : SinkState) (plan : Plan) (start : ℕ) (symbol : Symbol) → symbol ≡ OnlyB
    → WritesAll a b (text_of (first_part plan start symbol ∷ [])) → WritesPrefix b c (text_of (first_part plan (start + 200000) symbol ∷ [])) → WritesPrefix a c (text_of (parts_of plan start symbol))
second_stopped a b c plan start symbol is h k =
    subst (λ s. WritesAll a b (text_of (first_part plan start s ∷ [])) → WritesPrefix b c (text_of (first_part plan (start + 200000) s ∷ [])) → WritesPrefix a c (text_of (parts_of plan start s))) (sym is)
    (λ x y. subst (λ t. WritesPrefix a c t) (sym (text_append (first_part plan start OnlyB ∷ []) (first_part plan (start + 200000) OnlyB ∷ [])))
    (writes_prefix a b c (text_of (first_part plan start OnlyB ∷ [])) (text_of (first_part plan (start + 200000) OnlyB ∷ [])) x y))
    h k
