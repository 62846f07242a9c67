-- A log grows minute by minute.
use Rattle.std.proofs.Common.{◌≡◌, ℕ, zero, suc, ◌+◌, ◌-◌, ◌≤◌, List, [], ◌∷◌, ◌++◌, refl, sym, ap, ◌∙◌, subst, arith, append_assoc}
use Rattle.std.specs.List.{flat_map, range_with_len}
use Rattle.std.proofs.lemmas.List.{append-nil}
use Rattle.std.proofs.lemmas.List.Concat.{flat_map-append}
use Rattle.outside_traits.specs.States.{SinkState}
use Rattle.tick_units.specs.declared.marks.Plan.{Plan}
use Rattle.tick_units.specs.declared.marks.Symbol.{Symbol}
use Rattle.drill_day.specs.Minutes.{symbols_of, seconds_from, index_of, opening_index, opening_symbols, closing_symbols, begun, seconds_of}
use Rattle.drill_day.specs.Progress.{HasStopped}
use Rattle.drill_day.specs.declared.seconds.Second.{Second}
use Rattle.drill_day.proofs.ProgressLaws.{stopped_more}

range_push : (a n j : ℕ) → a + n ≡ j → range_with_len a (suc n) ≡ range_with_len a n ++ j ∷ []
range_push a zero j e = let same : a ≡ j = omega (arith, e) in ap (λ (k : ℕ). k ∷ []) same
range_push a (suc n) j e = ap (λ (l : List ℕ). a ∷ l) (range_push (a + 1) n j (omega (arith, e)))

-- the seconds of a minute
abbrev pub minute_seconds : Plan → ℕ → ℕ → ℕ → List Second
minute_seconds plan first seed minute = seconds_from (index_of minute) (symbols_of plan first seed minute)

pub begun_none : (plan : Plan) (first seed : ℕ) → begun plan first seed 0 ≡ seconds_from (opening_index plan) (opening_symbols plan)
begun_none plan first seed = append-nil (seconds_from (opening_index plan) (opening_symbols plan))

-- with one more minute
pub begun_more : (plan : Plan) (first seed m : ℕ) → begun plan first seed (suc m) ≡ begun plan first seed m ++ minute_seconds plan first seed m
begun_more plan first seed m =
    let opening = seconds_from (opening_index plan) (opening_symbols plan) in
    let one = minute_seconds plan first seed in
    let minutes = flat_map one (range_with_len 0 m) in
    ap (λ (l : List Second). opening ++ l)
    (ap (flat_map one) (range_push 0 m m (omega arith)) ∙ flat_map-append one (range_with_len 0 m) (m ∷ []) ∙ ap (λ (l : List Second). minutes ++ l) (append-nil (one m)))
    ∙ sym (append_assoc opening minutes (one m))

-- what a writer is given for the opening and for the next minute
pub opening_same : (plan : Plan) (first seed index : ℕ) (symbols : List Symbol) → index ≡ opening_index plan → symbols ≡ opening_symbols plan
    → seconds_from index symbols ≡ begun plan first seed 0
opening_same plan first seed index symbols e f = ap (λ (i : ℕ). seconds_from i symbols) e ∙ ap (seconds_from (opening_index plan)) f ∙ sym (begun_none plan first seed)

pub minute_same : (plan : Plan) (first seed m index : ℕ) (symbols : List Symbol) → index ≡ index_of m → symbols ≡ symbols_of plan first seed m
    → begun plan first seed m ++ seconds_from index symbols ≡ begun plan first seed (m + 1)
minute_same plan first seed m index symbols e f =
    let next : suc m ≡ m + 1 = omega arith in
    ap (λ (i : ℕ). begun plan first seed m ++ seconds_from i symbols) e
    ∙ ap (λ (l : List Symbol). begun plan first seed m ++ seconds_from (index_of m) l) f
    ∙ sym (begun_more plan first seed m) ∙ ap (begun plan first seed) next

-- the first minutes begin a log of more of them
begun_prefix : (plan : Plan) (first seed m k n : ℕ) → n ≡ m + k → (more : List Second) × (begun plan first seed n ≡ begun plan first seed m ++ more)
begun_prefix plan first seed m zero n e =
    let same : n ≡ m = omega (arith, e) in
    ([], ap (begun plan first seed) same ∙ sym (append-nil (begun plan first seed m)))
begun_prefix plan first seed m (suc k) n e =
    let rest = begun_prefix plan first seed m k (m + k) refl in
    let next : n ≡ suc (m + k) = omega (arith, e) in
    let one = minute_seconds plan first seed (m + k) in
    (rest.0 ++ one, ap (begun plan first seed) next ∙ begun_more plan first seed (m + k) ∙ ap (λ (l : List Second). l ++ one) rest.1 ∙ append_assoc (begun plan first seed m) rest.0 one)

-- a write of the first minutes failed
pub stopped_at : (plan : Plan) (start first seed minutes m : ℕ) (begin out_now : SinkState) → m ≤ minutes
    → HasStopped plan start begin out_now (begun plan first seed m) → HasStopped plan start begin out_now (seconds_of plan first minutes seed)
stopped_at plan start first seed minutes m begin out_now le h =
    let prefix = begun_prefix plan first seed m (minutes - m) minutes (omega (arith, le)) in
    let closing = seconds_from (index_of minutes) (closing_symbols plan) in
    stopped_more plan start begin out_now (begun plan first seed minutes) closing
    (subst (λ (l : List Second). HasStopped plan start begin out_now l) (sym prefix.1) (stopped_more plan start begin out_now (begun plan first seed m) prefix.0 h))
