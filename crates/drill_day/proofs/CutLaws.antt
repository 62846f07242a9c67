-- Where the marks of minutes are cut: before the first mark of each, and nowhere else.
use Rattle.std.proofs.Common.{◌≡◌, ℕ, suc, ◌+◌, Bool, true, false, not, Some, List, [], ◌∷◌, ◌++◌, length, refl, sym, ap, ◌∙◌, arith}
use Rattle.std.specs.List.{onto_first}
use Rattle.std.proofs.lemmas.Bool.{and_parts}
use Rattle.code_plans.specs.Codes.{code_of}
use Rattle.code_plans.proofs.Sent.{reads}
use Rattle.frame_rules.proofs.SentLaws.{Shape, is_calm, last_symbol}
use Rattle.minute_pair.specs.Segments.{cut}
use Rattle.tick_units.specs.declared.marks.Mark.{Mark}
use Rattle.tick_units.specs.declared.marks.Plan.{Plan}
use Rattle.tick_units.specs.declared.marks.Symbol.{Symbol}
use Rattle.drill_day.specs.Made.{number_from, start_of}
use Rattle.drill_day.specs.Minutes.{seconds_from}
use Rattle.drill_day.proofs.MarkLaws.{mark_at, marks_from}

-- a mark begins a minute, by the mark just before it
abbrev pub begins_after : Plan → Mark → Mark → Bool
begins_after plan before mark = (code_of plan).begins_minute (Some before) mark

-- how its minutes follow one another
abbrev pub shape_of : Plan → Shape
shape_of plan = (reads plan).shape

-- lists put before the first of others
abbrev pub onto_prefix : {X : Type 0} → List X → List (List X) → List (List X)
onto_prefix [] parts = parts
onto_prefix (x ∷ xs) parts = onto_first x (onto_prefix xs parts)

step_is : (plan : Plan) (start j index : ℕ) (a b : Symbol) → begins_after plan (mark_at plan start j index a) (mark_at plan start (suc j) (index + 1) b) ≡ (shape_of plan).steps a b
step_is plan start j index a b = (reads plan).steps (start_of index (number_from start j)) (start_of (index + 1) (number_from start (suc j))) a b (omega arith)

not_true : (b : Bool) → not b ≡ true → b ≡ false
not_true true e = sym e
not_true false e = refl

-- calm seconds stay in the piece of the mark before them
pub quiet : (plan : Plan) (start j index : ℕ) (a : Symbol) (more : List Symbol) (rest : List Mark) → is_calm (shape_of plan) a more ≡ true →
    cut (code_of plan) (Some (mark_at plan start j index a)) (marks_from plan start (suc j) (seconds_from (index + 1) more) ++ rest)
    ≡ onto_prefix (marks_from plan start (suc j) (seconds_from (index + 1) more)) (cut (code_of plan) (Some (mark_at plan start (j + length more) (index + length more) (last_symbol a more))) rest)
quiet plan start j index a [] rest calm =
    let j_same : j + 0 ≡ j = omega arith in
    let i_same : index + 0 ≡ index = omega arith in
    ap (λ n. cut (code_of plan) (Some (mark_at plan start n index a)) rest) (sym j_same) ∙ ap (λ n. cut (code_of plan) (Some (mark_at plan start (j + 0) n a)) rest) (sym i_same)
quiet plan start j index a (b ∷ more) rest calm =
    let parts = and_parts (not ((shape_of plan).steps a b)) (is_calm (shape_of plan) b more) calm in
    let off : begins_after plan (mark_at plan start j index a) (mark_at plan start (suc j) (index + 1) b) ≡ false = step_is plan start j index a b ∙ not_true ((shape_of plan).steps a b) parts.0 in
    let j_next : suc j + length more ≡ j + suc (length more) = omega arith in
    let i_next : index + 1 + length more ≡ index + suc (length more) = omega arith in
    rw off (ap (onto_first (mark_at plan start (suc j) (index + 1) b)) (
    quiet plan start (suc j) (index + 1) b more rest parts.1
    ∙ ap (λ n. onto_prefix (marks_from plan start (suc (suc j)) (seconds_from (index + 1 + 1) more)) (cut (code_of plan) (Some (mark_at plan start n (index + 1 + length more) (last_symbol b more))) rest)) j_next
    ∙ ap (λ n. onto_prefix (marks_from plan start (suc (suc j)) (seconds_from (index + 1 + 1) more)) (cut (code_of plan) (Some (mark_at plan start (j + suc (length more)) n (last_symbol b more))) rest)) i_next
    ))

pub onto_none : {X : Type 0} (xs : List X) (parts : List (List X)) → onto_prefix xs ([] ∷ parts) ≡ xs ∷ parts
onto_none [] parts = refl
onto_none (x ∷ xs) parts = ap (onto_first x) (onto_none xs parts)
