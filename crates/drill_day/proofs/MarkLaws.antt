-- The marks of made reductions: one for each second.
use Rattle.std.proofs.Common.{◌≡◌, ℕ, suc, ◌+◌, ◌≤◌, Bool, true, false, List, [], ◌∷◌, ◌++◌, length, map, refl, sym, ap, ◌∙◌, subst, arith}
use Rattle.std.specs.Prelude.{if◌then◌else◌}
use Rattle.std.specs.List.{list_all}
use Rattle.std.proofs.lemmas.Bool.{and_parts}
use Rattle.std.proofs.lemmas.List.{append-nil}
use Rattle.code_plans.specs.Codes.{code_of, sending_of}
use Rattle.code_plans.proofs.Sent.{reads}
use Rattle.frame_rules.specs.Codes.{Code}
use Rattle.frame_rules.proofs.SentLaws.{is_alone, read_of, sent_mark}
use Rattle.second_marks.specs.Marks.{joined_marks, mark_by}
use Rattle.tick_units.specs.declared.marks.Mark.{Mark}
use Rattle.tick_units.specs.declared.marks.Plan.{Plan}
use Rattle.tick_units.specs.declared.marks.Reduction.{Reduction}
use Rattle.tick_units.specs.declared.marks.Symbol.{Symbol}
use Rattle.tick_units.specs.declared.marks.Symbol.TheVariants.{Zero, One, OnlyB, Both, Long, Odd}
use Rattle.drill_day.specs.Made.{number_from, parts_of, reductions_from, start_of, width_of}
use Rattle.drill_day.specs.declared.seconds.Second.{Second}
use Rattle.drill_day.proofs.MadeOrderLaws.{InOrder}

-- as what a plan reads the width by which it spells a symbol
abbrev pub read_as : Plan → Symbol → Symbol
read_as plan symbol = read_of (code_of plan) (sending_of plan) symbol

-- the mark of a second, which is the j-th of its log
abbrev pub mark_at : Plan → ℕ → ℕ → ℕ → Symbol → Mark
mark_at plan start j index symbol = sent_mark (code_of plan) (sending_of plan) (start_of index (number_from start j)) symbol

abbrev pub marks_from : Plan → ℕ → ℕ → List Second → List Mark
marks_from plan start j [] = []
marks_from plan start j (second ∷ more) = mark_at plan start j second.index second.symbol ∷ marks_from plan start (suc j) more

abbrev pub are_alone : List Second → Bool
are_alone seconds = list_all (λ (s : Second). is_alone s.symbol) seconds

pub marks_append : (plan : Plan) (start j : ℕ) (xs ys : List Second) → marks_from plan start j (xs ++ ys) ≡ marks_from plan start j xs ++ marks_from plan start (j + length xs) ys
marks_append plan start j [] ys = (let none : j + 0 ≡ j = omega arith in ap (λ n. marks_from plan start n ys) (sym none))
marks_append plan start j (second ∷ more) ys =
    let next : suc j + length more ≡ j + suc (length more) = omega arith in
    ap (λ l. mark_at plan start j second.index second.symbol ∷ l) (marks_append plan start (suc j) more ys ∙ ap (λ n. marks_from plan start (suc j) more ++ marks_from plan start n ys) next)

-- the reduction of a second
abbrev pub one_at : Plan → ℕ → ℕ → Second → Reduction
one_at plan start j second = record { at = start_of second.index (number_from start j); width = width_of plan second.symbol }

abbrev ones_from : Plan → ℕ → ℕ → List Second → List Reduction
ones_from plan start j [] = []
ones_from plan start j (second ∷ more) = one_at plan start j second ∷ ones_from plan start (suc j) more

one_part : (plan : Plan) (at : ℕ) (symbol : Symbol) → is_alone symbol ≡ true → parts_of plan at symbol ≡ record { at = at; width = width_of plan symbol } ∷ []
one_part plan at Zero e = refl
one_part plan at One e = refl
one_part plan at OnlyB e = absurd cc
one_part plan at Both e = refl
one_part plan at Long e = refl
one_part plan at Odd e = refl

one_each : (plan : Plan) (start j : ℕ) (seconds : List Second) → are_alone seconds ≡ true → reductions_from plan start j seconds ≡ ones_from plan start j seconds
one_each plan start j [] e = refl
one_each plan start j (second ∷ more) e =
    let parts = and_parts (is_alone second.symbol) (are_alone more) e in
    ap (λ l. l ++ reductions_from plan start (suc j) more) (one_part plan (start_of second.index (number_from start j)) second.symbol parts.0)
    ∙ ap (λ l. one_at plan start j second ∷ l) (one_each plan start (suc j) more parts.1)

pub ones_count : (plan : Plan) (start j : ℕ) (seconds : List Second) → are_alone seconds ≡ true → length (reductions_from plan start j seconds) ≡ length seconds
ones_count plan start j seconds e = ap (λ (l : List Reduction). length l) (one_each plan start j seconds e) ∙ as_many plan start j seconds
  where
    as_many : (plan : Plan) (start j : ℕ) (seconds : List Second) → length (ones_from plan start j seconds) ≡ length seconds
    as_many plan start j [] = refl
    as_many plan start j (second ∷ more) = ap suc (as_many plan start (suc j) more)

each_mark : (plan : Plan) (start j : ℕ) (seconds : List Second) → map (mark_by (code_of plan)) (ones_from plan start j seconds) ≡ marks_from plan start j seconds
each_mark plan start j [] = refl
each_mark plan start j (second ∷ more) = ap (λ l. mark_at plan start j second.index second.symbol ∷ l) (each_mark plan start (suc j) more)

-- ---- where a second may have two parts, all but the last

far_apart : (plan : Plan) (start j : ℕ) (a b : Second) → a.index + 1 ≤ b.index → (code_of plan).are_parts (one_at plan start j a) (one_at plan start (suc j) b) ≡ false
far_apart plan start j a b le = (reads plan).apart (one_at plan start j a) (one_at plan start (suc j) b) (omega (arith, le))

joined_each : (plan : Plan) (start j : ℕ) (seconds : List Second) (last : Second) (least : ℕ) → InOrder least (seconds ++ last ∷ []) →
    joined_marks (code_of plan) (ones_from plan start j (seconds ++ last ∷ [])) ≡ marks_from plan start j seconds
joined_each plan start j [] last least h = refl
joined_each plan start j (a ∷ []) last least h = rw (far_apart plan start j a last h.2.0) refl
joined_each plan start j (a ∷ b ∷ []) last least h =
    rw (far_apart plan start j a b h.2.0) (ap (λ l. mark_at plan start j a.index a.symbol ∷ l) (joined_each plan start (suc j) (b ∷ []) last (a.index + 1) h.2))
joined_each plan start j (a ∷ b ∷ c ∷ more) last least h =
    rw (far_apart plan start j a b h.2.0) (ap (λ l. mark_at plan start j a.index a.symbol ∷ l) (joined_each plan start (suc j) (b ∷ c ∷ more) last (a.index + 1) h.2))

-- ---- the marks of seconds, each with one reduction

-- what a reader makes of reductions, by whether a second may have two parts
abbrev marks_if : Bool → Code → List Reduction → List Mark
marks_if parts code reductions = if parts then joined_marks code reductions else map (mark_by code) reductions

-- the second whose reduction shows that the one before it is whole
abbrev pub end_if : Bool → Second → List Second
end_if parts after = if parts then after ∷ [] else []

pub marks_shown : (parts : Bool) (plan : Plan) (start j : ℕ) (seconds : List Second) (after : Second) (least : ℕ) → are_alone (seconds ++ end_if parts after) ≡ true → InOrder least (seconds ++ end_if parts after) →
    marks_if parts (code_of plan) (reductions_from plan start j (seconds ++ end_if parts after)) ≡ marks_from plan start j seconds
marks_shown true plan start j seconds after least e h =
    ap (joined_marks (code_of plan)) (one_each plan start j (seconds ++ after ∷ []) e) ∙ joined_each plan start j seconds after least h
marks_shown false plan start j seconds after least e h =
    let whole : seconds ++ [] ≡ seconds = append-nil seconds in
    ap (λ l. map (mark_by (code_of plan)) (reductions_from plan start j l)) whole
    ∙ ap (map (mark_by (code_of plan))) (one_each plan start j seconds (subst (λ l. are_alone l ≡ true) whole e))
    ∙ each_mark plan start j seconds
