-- Seconds that follow one another, symbol by symbol.
use Rattle.std.proofs.Common.{◌≡◌, ℕ, zero, suc, ◌+◌, ◌<◌, List, [], ◌∷◌, ◌++◌, length, take, refl, sym, ap, ◌∙◌, subst, arith, append_assoc}
use Rattle.std.specs.Prelude.{get_or}
use Rattle.tick_units.specs.declared.marks.Symbol.{Symbol}
use Rattle.outside_traits.specs.States.{SinkState}
use Rattle.tick_units.specs.declared.marks.Plan.{Plan}
use Rattle.drill_day.specs.Minutes.{seconds_from}
use Rattle.drill_day.specs.Progress.{HasStopped}
use Rattle.drill_day.specs.declared.seconds.Second.{Second}
use Rattle.drill_day.proofs.ProgressLaws.{stopped_more}

-- with one more symbol there is one second more
take_suc : (index n : ℕ) (symbols : List Symbol) (i : ℕ) (d : Symbol) → i < length symbols → n ≡ index + i
    → seconds_from index (take (suc i) symbols) ≡ seconds_from index (take i symbols) ++ record { index = n; symbol = get_or symbols i d } ∷ []
take_suc index n [] i d lt e = absurd (omega (arith, lt))
take_suc index n (y ∷ ys) zero d lt e = let same : index ≡ n = omega (arith, e) in ap (λ (k : ℕ). record { index = k; symbol = y } ∷ []) same
take_suc index n (y ∷ ys) (suc i) d lt e = ap (λ (l : List Second). record { index = index; symbol = y } ∷ l) (take_suc (index + 1) n ys i d (omega (arith, lt)) (omega (arith, e)))

-- the same after other seconds
pub next_second : (before : List Second) (index n : ℕ) (symbols : List Symbol) (i : ℕ) (symbol : Symbol) → i < length symbols → n ≡ index + i → symbol ≡ get_or symbols i symbol
    → (before ++ seconds_from index (take i symbols)) ++ record { index = n; symbol = symbol } ∷ [] ≡ before ++ seconds_from index (take (i + 1) symbols)
next_second before index n symbols i symbol lt e is =
    let next : suc i ≡ i + 1 = omega arith in
    append_assoc before (seconds_from index (take i symbols)) (record { index = n; symbol = symbol } ∷ [])
    ∙ ap (λ (l : List Second). before ++ l)
    (ap (λ (s : Symbol). seconds_from index (take i symbols) ++ record { index = n; symbol = s } ∷ []) is
    ∙ sym (take_suc index n symbols i symbol lt e)
    ∙ ap (λ (k : ℕ). seconds_from index (take k symbols)) next)

-- the seconds of the first symbols are the first of all
pub split_seconds : (index k : ℕ) (symbols : List Symbol) → (more : List Second) × (seconds_from index symbols ≡ seconds_from index (take k symbols) ++ more)
split_seconds index zero symbols = (seconds_from index symbols, refl)
split_seconds index (suc k) [] = ([], refl)
split_seconds index (suc k) (y ∷ ys) =
    let rest = split_seconds (index + 1) k ys in
    (rest.0, ap (λ (l : List Second). record { index = index; symbol = y } ∷ l) rest.1)

-- a write of one of the seconds failed
pub stopped_within : (plan : Plan) (start : ℕ) (begin out_now : SinkState) (before : List Second) (index n : ℕ) (symbols : List Symbol) (i : ℕ) (symbol : Symbol)
    → i < length symbols → n ≡ index + i → symbol ≡ get_or symbols i symbol
    → HasStopped plan start begin out_now ((before ++ seconds_from index (take i symbols)) ++ record { index = n; symbol = symbol } ∷ [])
    → HasStopped plan start begin out_now (before ++ seconds_from index symbols)
stopped_within plan start begin out_now before index n symbols i symbol lt e is h =
    let split = split_seconds index (i + 1) symbols in
    let prefix = seconds_from index (take (i + 1) symbols) in
    subst (λ (l : List Second). HasStopped plan start begin out_now l) (append_assoc before prefix split.0 ∙ ap (λ (l : List Second). before ++ l) (sym split.1))
    (stopped_more plan start begin out_now (before ++ prefix) split.0
    (subst (λ (l : List Second). HasStopped plan start begin out_now l) (next_second before index n symbols i symbol lt e is) h))
