-- The openings that rows stand for, after one more row and after an object came back.
use Rattle.std.proofs.Common.{◌≡◌, ◌⊎◌, inl, inr, sym, ℕ, zero, suc, ◌+◌, ◌<◌, ◌≤◌, Bool, true, false, Option, Some, None, List, [], ◌∷◌, ◌++◌, length, take, drop, map, set, refl, ap, ◌∙◌, arith}
use Rattle.std.proofs.lemmas.List.{length-append, length-map, length-take, length-drop, drop-append-le, take-append-le, drop_at, take_all, map-append}
use Rattle.std.specs.Prelude.{slice_get}
use Rattle.std.specs.Option.{option_map}
use Rattle.std.specs.List.{sum_by}
use Rattle.std.proofs.lemmas.List.Sums.{sum_by-append, sum_by-cons}
use Rattle.outside_traits.specs.Openings.{Opening, State, Room, HasRoom, IsOut, with_back, name_of, names_in}
use Rattle.std.specs.Prelude.{IfSome}
use Rattle.memory_outside.specs.Ledger.{Notes, state_of, wanted_by, opening_of, openings_reported, HasNames, AreRows}
use Rattle.memory_outside.specs.declared.ledger.Port.{Port}
use Rattle.memory_outside.specs.declared.ledger.Seen.{Seen}
use Rattle.memory_outside.specs.declared.ledger.Row.{Row}

-- names that grow keep what stands in them
HasNames-more : (names more : List ℕ) (rows : List Row) → length names ≤ length more → HasNames names rows → HasNames more rows
HasNames-more names more [] le h = tt
HasNames-more names more (row ∷ rows) le h = (omega (arith, h.0), h.1, HasNames-more names more rows le h.2)

HasNames-push : (names : List ℕ) (rows : List Row) (row : Row) → HasNames names rows → row.name_at + row.name_len ≤ length names → IfSome row.port (λ _. row.name_len ≡ 0) →
    HasNames names (rows ++ row ∷ [])
HasNames-push names [] row h le none = (le, none, tt)
HasNames-push names (r ∷ rows) row h le none = (h.0, h.1, HasNames-push names rows row h.2 le none)

name_more : (names more : List ℕ) (at len : ℕ) → at + len ≤ length names → take len (drop at (names ++ more)) ≡ take len (drop at names)
name_more names more at len le =
    let at_le : at ≤ length names = omega arith in
    let len_le : len ≤ length (drop at names) = omega (arith, length-drop at names) in
    ap (take len) (drop-append-le at names more at_le) ∙ take-append-le len (drop at names) more len_le

openings_more : (names more : List ℕ) (rows : List Row) → HasNames names rows → map (opening_of (names ++ more)) rows ≡ map (opening_of names) rows
openings_more names more [] h = refl
openings_more names more (row ∷ rows) h =
    let name = name_more names more row.name_at row.name_len h.0 in
    let rest = openings_more names more rows h.2 in
    cc

name_new : (names more : List ℕ) → take (length more) (drop (length names) (names ++ more)) ≡ more
name_new names more = rw (drop_at names more (length names) refl) (take_all (length more) more (omega arith))

-- one more row is one more opening
abbrev pub row_of : List ℕ → List ℕ → Option Port → Option Seen → Row
row_of names more port opened = record { port = port; name_at = length names; name_len = length more; opened = opened; back = None }

abbrev pub opening_new : List ℕ → Option Port → Option Seen → Opening
opening_new more port opened = record { what = wanted_by more port; opened = option_map state_of opened; back = None }

openings_push : (names more : List ℕ) (rows : List Row) (port : Option Port) (opened : Option Seen) → HasNames names rows →
    map (opening_of (names ++ more)) (rows ++ row_of names more port opened ∷ []) ≡ map (opening_of names) rows ++ opening_new more port opened ∷ []
openings_push names more rows port opened h =
    map-append (opening_of (names ++ more)) rows _
    ∙ ap (λ prefix. prefix ++ opening_of (names ++ more) (row_of names more port opened) ∷ []) (openings_more names more rows h)
    ∙ ap (λ (name : List ℕ). map (opening_of names) rows ++ record { what = wanted_by name port; opened = option_map state_of opened; back = None } ∷ []) (name_new names more)

pub reported_push : (reports : Bool) (names more : List ℕ) (rows : List Row) (room : Room) (port : Option Port) (opened : Option Seen) → HasNames names rows →
    Notes (record { openings = openings_reported reports names rows; room = room })
    (record { openings = openings_reported reports (names ++ more) (rows ++ row_of names more port opened ∷ []); room = room })
    (opening_new more port opened)
reported_push false names more rows room port opened h = record {
  noted = tt;
  reported = λ openings e fits. absurd (let f : ◌≡◌ {A = Option (List Opening)} None (Some openings) = e in cc);
  same_room = refl;
}
reported_push true names more rows room port opened h = record {
  noted = openings_push names more rows port opened h;
  reported = λ openings e fits. ap Some (openings_push names more rows port opened h) ∙ ap (λ (o : Option (List Opening)). option_map (λ l. l ++ opening_new more port opened ∷ []) o) e;
  same_room = refl;
}

-- where there is no room, the list is reported no longer
name_size : (names : List ℕ) (port : Option Port) (at len : ℕ) → at + len ≤ length names → IfSome port (λ _. len ≡ 0) →
    length (name_of (wanted_by (take len (drop at names)) port)) ≡ len
name_size names None at len le none = omega (arith, le, length-take len (drop at names), length-drop at names)
name_size names (Some port) at len le none = sym none

names_sum : (names : List ℕ) (rows : List Row) → HasNames names rows →
    names_in (map (opening_of names) rows) ≡ sum_by (λ row. row.name_len) rows
names_sum names [] h = refl
names_sum names (row ∷ rows) h =
    let rest = names_sum names rows h.2 in
    let size = name_size names row.port row.name_at row.name_len h.0 h.1 in
    sum_by-cons (λ (opening : Opening). length (name_of opening.what)) (opening_of names row) (map (opening_of names) rows)
    ∙ ap (λ n. n + names_in (map (opening_of names) rows)) size
    ∙ ap (λ n. row.name_len + n) rest
    ∙ sym (sum_by-cons (λ (r : Row). r.name_len) row rows)

new_size : (more : List ℕ) (port : Option Port) → IfSome port (λ _. length more ≡ 0) → length (name_of (wanted_by more port)) ≡ length more
new_size more None none = refl
new_size more (Some port) none = sym none

pub reported_full : (reports : Bool) (names more : List ℕ) (rows : List Row) (room : Room) (port : Option Port) (opened : Option Seen) → AreRows names rows → IfSome port (λ _. length more ≡ 0) →
    (room.names < length names + length more) ⊎ (room.openings ≤ length rows) →
    Notes (record { openings = openings_reported reports names rows; room = room }) (record { openings = None; room = room }) (opening_new more port opened)
reported_full reports names more rows room port opened are nameless full = record {
  noted = tt;
  reported = λ openings e fits. absurd (none reports names more rows room port opened are nameless full openings e fits);
  same_room = refl;
} where
  none : (reports : Bool) (names more : List ℕ) (rows : List Row) (room : Room) (port : Option Port) (opened : Option Seen) → AreRows names rows → IfSome port (λ _. length more ≡ 0) →
      (room.names < length names + length more) ⊎ (room.openings ≤ length rows) →
      (openings : List Opening) → openings_reported reports names rows ≡ Some openings → HasRoom room (openings ++ opening_new more port opened ∷ []) → ⊥
  none false names more rows room port opened are nameless full openings e fits = let f : ◌≡◌ {A = Option (List Opening)} None (Some openings) = e in cc
  none true names more rows room port opened are nameless full openings e fits =
      let same : map (opening_of names) rows ≡ openings = cc in
      let count : length openings ≡ length rows = ap (λ (l : List Opening). length l) (sym same) ∙ length-map rows (opening_of names) in
      let size : names_in openings ≡ length names =
      ap (λ (l : List Opening). names_in l) (sym same) ∙ names_sum names rows are.has_names ∙ are.all_names in
      let sums = sum_by-append (λ (opening : Opening). length (name_of opening.what)) openings (opening_new more port opened ∷ []) in
      let lengths = length-append openings (opening_new more port opened ∷ []) in
      let one = new_size more port nameless in
      elim full [
        | inl names_full ↦ omega (arith, names_full, size, sums, fits.1, one)
        | inr rows_full ↦ omega (arith, rows_full, count, lengths, fits.0)
      ]

back_set : (names : List ℕ) (rows : List Row) (n : ℕ) (row : Row) (seen : Seen) → slice_get rows n ≡ Some row →
    map (opening_of names) (set rows n (record row { back = Some seen })) ≡ with_back n (state_of seen) (map (opening_of names) rows)
back_set names [] n row seen e = refl
back_set names (r ∷ rows) zero row seen e = let same : r ≡ row = cc in rw same refl
back_set names (r ∷ rows) (suc n) row seen e = ap (λ rest. opening_of names r ∷ rest) (back_set names rows n row seen e)

-- a row whose object is back is an opening whose object is back
pub reported_back : (reports : Bool) (names : List ℕ) (rows : List Row) (n : ℕ) (row : Row) (seen : Seen) → slice_get rows n ≡ Some row →
    openings_reported reports names (set rows n (record row { back = Some seen })) ≡ option_map (with_back n (state_of seen)) (openings_reported reports names rows)
reported_back false names rows n row seen e = refl
reported_back true names rows n row seen e = ap Some (back_set names rows n row seen e)

HasNames-back : (names : List ℕ) (rows : List Row) (n : ℕ) (row : Row) (seen : Seen) → slice_get rows n ≡ Some row → HasNames names rows → HasNames names (set rows n (record row { back = Some seen }))
HasNames-back names [] n row seen e h = tt
HasNames-back names (r ∷ rows) zero row seen e h = let same : r ≡ row = cc in (rw same at h.0, rw same at h.1, h.2)
HasNames-back names (r ∷ rows) (suc n) row seen e h = (h.0, h.1, HasNames-back names rows n row seen e h.2)

names_back : (rows : List Row) (n : ℕ) (row : Row) (seen : Seen) → slice_get rows n ≡ Some row →
    sum_by (λ (r : Row). r.name_len) (set rows n (record row { back = Some seen })) ≡ sum_by (λ (r : Row). r.name_len) rows
names_back [] n row seen e = refl
names_back (r ∷ rows) zero row seen e =
    let same : r ≡ row = cc in
    sum_by-cons (λ (r : Row). r.name_len) (record row { back = Some seen }) rows
    ∙ ap (λ (x : Row). x.name_len + sum_by (λ (r : Row). r.name_len) rows) (sym same)
    ∙ sym (sum_by-cons (λ (r : Row). r.name_len) r rows)
names_back (r ∷ rows) (suc n) row seen e =
    sum_by-cons (λ (r : Row). r.name_len) r (set rows n (record row { back = Some seen }))
    ∙ ap (λ rest. r.name_len + rest) (names_back rows n row seen e)
    ∙ sym (sum_by-cons (λ (r : Row). r.name_len) r rows)

pub AreRows-back : (names : List ℕ) (rows : List Row) (n : ℕ) (row : Row) (seen : Seen) → slice_get rows n ≡ Some row → AreRows names rows → AreRows names (set rows n (record row { back = Some seen }))
AreRows-back names rows n row seen e are = record { has_names = HasNames-back names rows n row seen e are.has_names; all_names = names_back rows n row seen e ∙ are.all_names }

pub AreRows-push : (names more : List ℕ) (rows : List Row) (port : Option Port) (opened : Option Seen) → AreRows names rows → IfSome port (λ _. length more ≡ 0) →
    AreRows (names ++ more) (rows ++ row_of names more port opened ∷ [])
AreRows-push names more rows port opened are nameless =
    let longer = length-append names more in
    record {
      has_names = HasNames-push (names ++ more) rows (row_of names more port opened) (HasNames-more names (names ++ more) rows (omega (arith, longer)) are.has_names) (omega (arith, longer)) nameless;
      all_names = omega (arith, longer, are.all_names, sum_by-append (λ (r : Row). r.name_len) rows (row_of names more port opened ∷ []));
    }

within : (names : List ℕ) (rows : List Row) (n : ℕ) (o : Opening) → slice_get (map (opening_of names) rows) n ≡ Some o → n < length rows
within names [] n o e = cc
within names (r ∷ rows) zero o e = omega arith
within names (r ∷ rows) (suc n) o e = let rest = within names rows n o e in omega (arith, rest)

-- an opening whose object is out has a row
pub out_within : (reports : Bool) (names : List ℕ) (rows : List Row) (n : ℕ) → IsOut (openings_reported reports names rows) n → length rows ≤ n →
    (s : State) → openings_reported reports names rows ≡ option_map (with_back n s) (openings_reported reports names rows)
out_within false names rows n out le s = refl
out_within true names rows n out le s = let lt = within names rows n _ out.2 in absurd (omega (arith, lt))
