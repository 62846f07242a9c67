-- A Long place that is no marker's, among the first places or after them.
use Rattle.std.proofs.Common.{◌≡◌, ℕ, zero, suc, ◌+◌, ◌-◌, ◌<◌, ◌≤◌, Bool, true, false, not, ◌&&◌, ◌||◌, List, [], ◌∷◌, length, get_or, drop, refl, ap, sym, ◌∙◌, inl, inr, arith}
use Rattle.std.specs.List.{list_any, range_with_len}
use Rattle.std.proofs.lemmas.Bool.{cases_lt}
use Rattle.std.proofs.lemmas.Bool.Decides.{nat_tests}
use Rattle.std.proofs.lemmas.List.{drop_more, drop_all}
use Rattle.frame_rules.specs.Fields.{is_set, symbols_of}
use Rattle.tick_units.specs.Marks.{is_long}
use Rattle.tick_units.specs.declared.marks.Mark.{Mark}
use Rattle.tick_units.specs.declared.marks.Symbol.TheVariants.{Zero}
use Rattle.frame_rules.specs.Words.{has_long}
use Rattle.plan_wwvb.specs.Fields.{is_marker_place}
use Rattle.plan_wwvb.specs.Rules.{has_stray_marker}

abbrev pub is_stray : List Mark → ℕ → Bool
is_stray marks place = is_set is_long marks place && not (is_marker_place place)

no_marker : (place : ℕ) → 61 ≤ place → is_marker_place place ≡ false
no_marker place le = grind (arith, nat_tests)

and_true : (b : Bool) → (b && true) ≡ b
and_true true = refl
and_true false = refl

stray_after : (marks : List Mark) (place : ℕ) → 61 ≤ place → is_stray marks place ≡ is_set is_long marks place
stray_after marks place le = ap (λ b. is_set is_long marks place && not b) (no_marker place le) ∙ and_true (is_set is_long marks place)

symbol_at : (marks : List Mark) (mark : Mark) (place : ℕ) → place < length marks → get_or (symbols_of marks) place Zero ≡ (get_or marks place mark).symbol
symbol_at [] mark place lt = absurd (omega arith)
symbol_at (m ∷ ms) mark zero lt = refl
symbol_at (m ∷ ms) mark (suc place) lt = symbol_at ms mark place (omega arith)

symbol_past : (marks : List Mark) (place : ℕ) → length marks ≤ place → get_or (symbols_of marks) place Zero ≡ Zero
symbol_past [] place le = refl
symbol_past (m ∷ ms) zero le = absurd (omega arith)
symbol_past (m ∷ ms) (suc place) le = symbol_past ms place (omega arith)

-- after the first places each Long is a stray one
strays_after : (marks : List Mark) (place count : ℕ) → 61 ≤ place → place + count ≡ length marks → list_any (is_stray marks) (range_with_len place count) ≡ has_long (drop place marks)
strays_after marks place zero le e = ap has_long (sym (drop_all place marks (omega arith)))
strays_after marks place (suc count) le e = some_mark marks marks (λ mark.
    let here = stray_after marks place le ∙ ap is_long (symbol_at marks mark place (omega arith)) in
    let rest = strays_after marks (place + 1) count (omega arith) (omega arith) in
    ap (λ b. b || list_any (is_stray marks) (range_with_len (place + 1) count)) here
    ∙ ap (λ b. is_long (get_or marks place mark).symbol || b) rest
    ∙ ap has_long (sym (drop_more marks place mark (omega arith)))) (omega arith)
  where
    some_mark : {X : Type 0} (marks others : List Mark) → (Mark → X) → 0 < length others → X
    some_mark marks [] f lt = absurd (omega arith)
    some_mark marks (m ∷ ms) f lt = f m

-- where the marks end there is none
no_strays : (marks : List Mark) (place count : ℕ) → length marks ≤ place → list_any (is_stray marks) (range_with_len place count) ≡ false
no_strays marks place zero le = refl
no_strays marks place (suc count) le =
    let here : is_stray marks place ≡ false = ap (λ symbol. is_long symbol && not (is_marker_place place)) (symbol_past marks place le) in
    rw here (no_strays marks (place + 1) count (omega arith))

any_split : (test : ℕ → Bool) (place a b : ℕ) → list_any test (range_with_len place (a + b)) ≡ (list_any test (range_with_len place a) || list_any test (range_with_len (place + a) b))
any_split test place zero b =
    let none : 0 + b ≡ b = omega arith in
    let here : place ≡ place + 0 = omega arith in
    ap (λ (k : ℕ). list_any test (range_with_len place k)) none ∙ ap (λ (k : ℕ). list_any test (range_with_len k b)) here
any_split test place (suc a) b =
    let rest = any_split test (place + 1) a b in
    let on : place + 1 + a ≡ place + suc a = omega arith in
    let more : suc a + b ≡ suc (a + b) = omega arith in
    ap (λ (k : ℕ). list_any test (range_with_len place k)) more
    ∙ ap (λ (k : Bool). test place || k) (rest ∙ ap (λ (k : ℕ). list_any test (range_with_len (place + 1) a) || list_any test (range_with_len k b)) on)
    ∙ or_assoc (test place) (list_any test (range_with_len (place + 1) a)) (list_any test (range_with_len (place + suc a) b))
  where
    or_assoc : (a b c : Bool) → (a || (b || c)) ≡ ((a || b) || c)
    or_assoc true b c = refl
    or_assoc false b c = refl

or_false : (b : Bool) → (b || false) ≡ b
or_false true = refl
or_false false = refl

-- where all marks are among the first places
all_kept : (marks : List Mark) (n : ℕ) → length marks ≤ n → (list_any (is_stray marks) (range_with_len 0 n) || has_long (drop n marks)) ≡ has_stray_marker marks
all_kept marks n le =
    let len = length marks in
    let n_is : n ≡ len + (n - len) = omega arith in
    let later : has_long (drop n marks) ≡ false = ap has_long (drop_all n marks le) in
    ap (λ b. list_any (is_stray marks) (range_with_len 0 n) || b) later
    ∙ or_false (list_any (is_stray marks) (range_with_len 0 n))
    ∙ ap (λ (k : ℕ). list_any (is_stray marks) (range_with_len 0 k)) n_is
    ∙ any_split (is_stray marks) 0 len (n - len)
    ∙ ap (λ b. has_stray_marker marks || b) (no_strays marks (0 + len) (n - len) (omega arith))
    ∙ or_false (has_stray_marker marks)

-- where some are after them
some_later : (marks : List Mark) (n : ℕ) → 61 ≤ n → n < length marks → (list_any (is_stray marks) (range_with_len 0 n) || has_long (drop n marks)) ≡ has_stray_marker marks
some_later marks n le lt =
    let len = length marks in
    let len_is : n + (len - n) ≡ len = omega arith in
    let here : n ≡ 0 + n = omega arith in
    ap (λ b. list_any (is_stray marks) (range_with_len 0 n) || b) (sym (strays_after marks n (len - n) le len_is))
    ∙ ap (λ (k : ℕ). list_any (is_stray marks) (range_with_len 0 n) || list_any (is_stray marks) (range_with_len k (len - n))) here
    ∙ sym (any_split (is_stray marks) 0 n (len - n))
    ∙ ap (λ (k : ℕ). list_any (is_stray marks) (range_with_len 0 k)) len_is

-- the first 61 places and what is after them
pub strays_kept : (marks : List Mark) (n : ℕ) → 61 ≤ n → (list_any (is_stray marks) (range_with_len 0 n) || has_long (drop n marks)) ≡ has_stray_marker marks
strays_kept marks n le = elim (cases_lt n (length marks)) [
  | inl later ↦ some_later marks n le later
  | inr kept ↦ all_kept marks n kept
]

-- one place of a range of places that ends at n
any_step : (test : ℕ → Bool) (place n : ℕ) → place < n → list_any test (range_with_len place (n - place)) ≡ (test place || list_any test (range_with_len (place + 1) (n - (place + 1))))
any_step test place n lt = let e : n - place ≡ suc (n - (place + 1)) = omega arith in ap (λ (k : ℕ). list_any test (range_with_len place k)) e

module _ (test : ℕ → Bool) (place n : ℕ) (later all : Bool) (so_far : (list_any test (range_with_len place (n - place)) || later) ≡ all) where
  abbrev after : Bool
  after = list_any test (range_with_len (place + 1) (n - (place + 1)))

  pub place_found : place < n → test place ≡ true → true ≡ all
  place_found lt e = sym (ap (λ b. b || later) (any_step test place n lt) ∙ ap (λ b. (b || after) || later) e) ∙ so_far

  pub place_passed : place < n → test place ≡ false → (after || later) ≡ all
  place_passed lt e = sym (ap (λ b. b || later) (any_step test place n lt) ∙ ap (λ b. (b || after) || later) e) ∙ so_far

  pub places_passed : n ≤ place → later ≡ all
  places_passed le = let e : n - place ≡ 0 = omega arith in sym (ap (λ (k : ℕ). list_any test (range_with_len place k) || later) e) ∙ so_far
