-- The rows and the bad line of lines with one line more.
use Rattle.std.proofs.Common.{◌≡◌, ℕ, suc, ◌+◌, true, Option, Some, None, List, [], ◌∷◌, ◌++◌, length, map, drop, is_some, if◌then◌else◌, refl, ap, inl, inr, arith}
use Rattle.std.specs.List.{last_or}
use Rattle.std.specs.Option.{option_to_list}
use Rattle.std.proofs.lemmas.Bool.{cases_Bool}
use Rattle.std.proofs.lemmas.List.{map_push}
use Rattle.leap_file.specs.declared.part.LeapLine.{LeapLine}
use Rattle.leap_file.specs.declared.part.LeapLine.TheVariants.{Nothing, Numbers, Bad}
use Rattle.leap_file.specs.declared.row.Row.{Row}
use Rattle.leap_file.specs.Rows.{may_stand, rows_after, bad_after}

-- a bad line stays, and no more rows come after it
pub record Stays (before : Option Row) (number : ℕ) (lines : List LeapLine) (line : LeapLine) (bad : ℕ) : Type 0 where
  pub stays : bad_after before number (lines ++ line ∷ []) ≡ Some bad
  pub rows : rows_after before (lines ++ line ∷ []) ≡ rows_after before lines

pub bad_stays : (before : Option Row) (number : ℕ) (lines : List LeapLine) (line : LeapLine) (bad : ℕ) → bad_after before number lines ≡ Some bad → Stays before number lines line bad
bad_stays before number [] line bad h = cc
bad_stays before number (Nothing ∷ more) line bad h = let on = bad_stays before (number + 1) more line bad h in record { stays = on.stays; rows = on.rows }
bad_stays before number (Bad ∷ more) line bad h = record { stays = h; rows = refl }
bad_stays before number (Numbers row ∷ more) line bad h = elim (cases_Bool (may_stand before row)) [
  | inl may ↦ let on = bad_stays (Some row) (number + 1) more line bad (rw may at h) in record { stays = rw may on.stays; rows = rw may (ap (λ (l : List Row). row ∷ l) on.rows) }
  | inr not_so ↦ record { stays = rw not_so (rw not_so at h); rows = rw not_so refl }
]

-- lines of which none is bad go on after their last row
pub record GoesOn (before : Option Row) (number : ℕ) (lines : List LeapLine) (line : LeapLine) : Type 0 where
  pub bad : bad_after before number (lines ++ line ∷ []) ≡ bad_after (last_or before (rows_after before lines)) (number + length lines) (line ∷ [])
  pub rows : rows_after before (lines ++ line ∷ []) ≡ rows_after before lines ++ rows_after (last_or before (rows_after before lines)) (line ∷ [])

pub goes_on : (before : Option Row) (number : ℕ) (lines : List LeapLine) (line : LeapLine) → bad_after before number lines ≡ None → GoesOn before number lines line
goes_on before number [] line h = let same : number + 0 ≡ number = omega arith in record { bad = rw same refl; rows = refl }
goes_on before number (Nothing ∷ more) line h =
    let on = goes_on before (number + 1) more line h in
    let sum : number + 1 + length more ≡ number + suc (length more) = omega arith in
    record { bad = rw (← sum) on.bad; rows = on.rows }
goes_on before number (Bad ∷ more) line h = cc
goes_on before number (Numbers row ∷ more) line h = elim (cases_Bool (may_stand before row)) [
  | inl may ↦
      let on = goes_on (Some row) (number + 1) more line (rw may at h) in
      let sum : number + 1 + length more ≡ number + suc (length more) = omega arith in
      record { bad = rw (may, ← sum) on.bad; rows = rw may (ap (λ (l : List Row). row ∷ l) on.rows) }
  | inr not_so ↦ (let never = rw not_so at h in cc)
]

pub last_push : (before : Option Row) (rows : List Row) (row : Row) → last_or before (rows ++ row ∷ []) ≡ Some row
last_push before [] row = refl
last_push before (first ∷ more) row = last_push (Some first) more row

last_some : (first : Row) (more : List Row) → is_some (last_or (Some first) more) ≡ true
last_some first [] = refl
last_some first (next ∷ more) = last_some next more

-- a row adds its second, but for the first
pub second_push : (rows : List Row) (row : Row) → map (λ r. r.second) (drop 1 (rows ++ row ∷ [])) ≡ map (λ r. r.second) (drop 1 rows) ++ option_to_list (if is_some (last_or None rows) then Some row.second else None)
second_push [] row = refl
second_push (first ∷ more) row = let some = last_some first more in rw some (map_push (λ r. r.second) more row)
