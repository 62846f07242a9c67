-- The starts of a made log rise.
use Rattle.std.proofs.Common.{◌≡◌, ℕ, zero, suc, ◌+◌, ◌*◌, ◌^◌, ◌<◌, ◌≤◌, List, [], ◌∷◌, ◌++◌, length, sym, subst, arith, append_assoc}
use Rattle.std.specs.List.{flat_map, range_with_len}
use Rattle.std.specs.Prelude.{nat_le}
use Rattle.std.proofs.lemmas.Bool.{and_parts, leb-true}
use Rattle.std.proofs.lemmas.List.{append-nil}
use Rattle.tick_units.specs.declared.marks.Plan.{Plan}
use Rattle.tick_units.specs.declared.marks.Reduction.{Reduction}
use Rattle.tick_units.specs.declared.marks.Symbol.{Symbol}
use Rattle.tick_units.specs.declared.marks.Symbol.TheVariants.{Zero, One, OnlyB, Both, Long, Odd}
use Rattle.frame_rules.proofs.SentLaws.{can_stand, every_one, damaged_count}
use Rattle.code_plans.proofs.Sent.{fits}
use Rattle.drill_day.specs.Made.{width_of, start_of, parts_of, number_from, reductions_from, made, seeded, text_of, IsReadAs}
use Rattle.drill_day.specs.Minutes.{spelt_by, symbols_of, is_damaged, coded_of, seconds_from, opening_index, opening_symbols, closing_symbols, index_of, seconds_of}
use Rattle.drill_day.specs.declared.seconds.Second.{Second}
use Rattle.drill_day.proofs.MakingLaws.{minute_seconds}
use Rattle.drill_day.proofs.ReadLaws.{Rises, is_read}

rises_lower : (least lower : ℕ) (rs : List Reduction) → lower ≤ least → Rises least rs → Rises lower rs
rises_lower least lower [] le h = tt
rises_lower least lower (r ∷ more) le h = (omega (arith, le, h.0), h.1, h.2, h.3, h.4)

record Fits (width : ℕ) : Type 0 where
  some : 1 ≤ width
  most : width ≤ 2000000

width_fits : (plan : Plan) (symbol : Symbol) → Fits (width_of plan symbol)
width_fits plan symbol =
    let parts = and_parts (nat_le 1 (width_of plan symbol)) (nat_le (width_of plan symbol) 2000000) (every_one (λ s. can_stand (width_of plan s)) (fits plan).widths symbol) in
    record { some = leb-true 1 (width_of plan symbol) parts.0; most = leb-true (width_of plan symbol) 2000000 parts.1 }

-- one reduction before others
one_rises : (least at width next : ℕ) (more : List Reduction) → least ≤ at → at < 2 ^ 50 → at + 1 ≤ next → Fits width → Rises next more → Rises least (record { at = at; width = width } ∷ more)
one_rises least at width next more le below on fits h = (le, below, fits.some, fits.most, rises_lower next (at + 1) more on h)

parts_rise : (plan : Plan) (at : ℕ) (symbol : Symbol) (least next : ℕ) (more : List Reduction) → least ≤ at → at < 2 ^ 49 → at + 200001 ≤ next → Rises next more → Rises least (parts_of plan at symbol ++ more)
parts_rise plan at Zero least next more le below on h = one_rises least at (width_of plan Zero) next more le (omega (arith, below)) (omega (arith, on)) (width_fits plan Zero) h
parts_rise plan at One least next more le below on h = one_rises least at (width_of plan One) next more le (omega (arith, below)) (omega (arith, on)) (width_fits plan One) h
parts_rise plan at OnlyB least next more le below on h =
    one_rises least at (width_of plan OnlyB) (at + 200000) (record { at = at + 200000; width = width_of plan OnlyB } ∷ more) le (omega (arith, below)) (omega arith) (width_fits plan OnlyB)
    (one_rises (at + 200000) (at + 200000) (width_of plan OnlyB) next more (omega arith) (omega (arith, below)) (omega (arith, on)) (width_fits plan OnlyB) h)
parts_rise plan at Both least next more le below on h = one_rises least at (width_of plan Both) next more le (omega (arith, below)) (omega (arith, on)) (width_fits plan Both) h
parts_rise plan at Long least next more le below on h = one_rises least at (width_of plan Long) next more le (omega (arith, below)) (omega (arith, on)) (width_fits plan Long) h
parts_rise plan at Odd least next more le below on h = one_rises least at (width_of plan Odd) next more le (omega (arith, below)) (omega (arith, on)) (width_fits plan Odd) h

-- indices rise from this one on, and are small
abbrev pub InOrder : ℕ → List Second → Type 0
InOrder least [] = Unit {0}
InOrder least (second ∷ more) = (least ≤ second.index) × (second.index < 2 ^ 20) × InOrder (second.index + 1) more

order_lower : (least lower : ℕ) (seconds : List Second) → lower ≤ least → InOrder least seconds → InOrder lower seconds
order_lower least lower [] le h = tt
order_lower least lower (second ∷ more) le h = (omega (arith, le, h.0), h.1, h.2)

reductions_rise : (plan : Plan) (start j : ℕ) (seconds : List Second) (least : ℕ) → InOrder least seconds → Rises (5000000 + least * 1000000) (reductions_from plan start j seconds)
reductions_rise plan start j [] least h = tt
reductions_rise plan start j (second ∷ more) least h =
    let late = number_from start j in
    parts_rise plan (start_of second.index late) second.symbol (5000000 + least * 1000000) (5000000 + (second.index + 1) * 1000000) (reductions_from plan start (suc j) more)
    (omega (arith, h.0)) (omega (arith, h.1)) (omega arith)
    (reductions_rise plan start (suc j) more (second.index + 1) h.2)

seconds_in_order : (index : ℕ) (symbols : List Symbol) (least next : ℕ) (more : List Second) → least ≤ index → index + length symbols ≤ next → next ≤ 2 ^ 20 → InOrder next more
    → InOrder least (seconds_from index symbols ++ more)
seconds_in_order index [] least next more le on small h = order_lower next least more (omega (arith, le, on)) h
seconds_in_order index (symbol ∷ rest) least next more le on small h =
    (le, omega (arith, on, small), seconds_in_order (index + 1) rest (index + 1) next more (omega arith) (omega (arith, on)) small h)

minutes_in_order : (plan : Plan) (first seed m k n least : ℕ) (more : List Second) → n ≡ m + k → n ≤ 1440 → least ≤ index_of m → InOrder (index_of n) more
    → InOrder least (flat_map (minute_seconds plan first seed) (range_with_len m k) ++ more)
minutes_in_order plan first seed m zero n least more e few le h = order_lower (index_of n) least more (omega (arith, e, le)) h
minutes_in_order plan first seed m (suc k) n least more e few le h =
    let one = minute_seconds plan first seed in
    let rest = flat_map one (range_with_len (m + 1) k) in
    let symbols = symbols_of plan first seed m in
    let short : length symbols ≤ 60 = omega (arith, damaged_count (is_damaged seed m) (spelt_by plan (coded_of first m)), (fits plan).minute (coded_of first m)) in
    subst (λ (l : List Second). InOrder least l) (sym (append_assoc (one m) rest more))
    (seconds_in_order (index_of m) symbols least (index_of (m + 1)) (rest ++ more) le (omega (arith, short)) (omega (arith, e, few))
    (minutes_in_order plan first seed (m + 1) k n (index_of (m + 1)) more (omega (arith, e)) few (omega arith) h))

pub made_in_order : (plan : Plan) (first minutes seed : ℕ) → minutes ≤ 1440 → InOrder 0 (seconds_of plan first minutes seed)
made_in_order plan first minutes seed few =
    let opening = seconds_from (opening_index plan) (opening_symbols plan) in
    let between = flat_map (minute_seconds plan first seed) (range_with_len 0 minutes) in
    let closing = seconds_from (index_of minutes) (closing_symbols plan) in
    let last : InOrder (index_of minutes) closing = subst (λ (l : List Second). InOrder (index_of minutes) l) (append-nil closing)
    (seconds_in_order (index_of minutes) (closing_symbols plan) (index_of minutes) (index_of minutes + 2) [] (omega arith) (omega (arith, (fits plan).closing)) (omega (arith, few)) tt) in
    subst (λ (l : List Second). InOrder 0 l) (sym (append_assoc opening between closing))
    (seconds_in_order (opening_index plan) (opening_symbols plan) 0 2 (between ++ closing) (omega arith) (fits plan).opening (omega arith)
    (minutes_in_order plan first seed 0 minutes minutes 2 closing (omega arith) few (omega arith) last))

pub made_rises : (plan : Plan) (first minutes seed : ℕ) → minutes ≤ 1440 → Rises (5000000 + 0 * 1000000) (made plan first minutes seed)
made_rises plan first minutes seed few = reductions_rise plan (seeded plan seed) 1 (seconds_of plan first minutes seed) 0 (made_in_order plan first minutes seed few)

-- so a reader finds all of it
pub made_is_read : (plan : Plan) (first minutes seed : ℕ) → minutes ≤ 1440 → IsReadAs (text_of (made plan first minutes seed)) (made plan first minutes seed)
made_is_read plan first minutes seed few =
    is_read (5000000 + 0 * 1000000) (made plan first minutes seed) (made_rises plan first minutes seed few)
