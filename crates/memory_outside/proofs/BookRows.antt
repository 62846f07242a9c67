-- The events that the rows of a book stand for, after one more row, and one of them.
use Rattle.std.proofs.Common.{◌≡◌, ◌⊎◌, inl, inr, sym, ℕ, zero, suc, ◌+◌, ◌<◌, ◌≤◌, Bool, true, false, Option, Some, None, List, [], ◌∷◌, ◌++◌, length, take, drop, map, refl, ap, ◌∙◌, subst, arith}
use Rattle.std.proofs.lemmas.List.{length-append, length-map, length-drop, drop-append-le, take-append-le, drop_at, take_all, map-append}
use Rattle.std.specs.Prelude.{slice_get, unwrap_or}
use Rattle.std.specs.Option.{option_map}
use Rattle.std.specs.List.{sum_by}
use Rattle.std.proofs.lemmas.List.Sums.{sum_by-append, sum_by-cons}
use Rattle.outside_traits.specs.States.{NetEvent}
use Rattle.memory_outside.specs.Book.{EventRoom, HasEventRoom, NotesEvent, IsNotedAs, event_with, event_in, events_reported, bytes_of, bytes_in, HasBytes, AreRows}
use Rattle.memory_outside.specs.declared.book.Kind.{Kind}
use Rattle.memory_outside.specs.declared.book.Row.{Row}

-- bytes that grow keep what stands in them
event_more : (bytes more : List ℕ) (row : Row) → row.start + row.length ≤ length bytes → event_in (bytes ++ more) row ≡ event_in bytes row
event_more bytes more row le =
    let start_le : row.start ≤ length bytes = omega (arith, le) in
    let length_le : row.length ≤ length (drop row.start bytes) = omega (arith, le, length-drop row.start bytes) in
    ap (event_with row.kind) (ap (take row.length) (drop-append-le row.start bytes more start_le) ∙ take-append-le row.length (drop row.start bytes) more length_le)

HasBytes-more : (bytes more : List ℕ) (rows : List Row) → HasBytes bytes rows → HasBytes (bytes ++ more) rows
HasBytes-more bytes more [] h = tt
HasBytes-more bytes more (row ∷ rows) h =
    let longer = length-append bytes more in
    (omega (arith, h.0, longer), ap (λ e. length (bytes_of e)) (event_more bytes more row h.0) ∙ h.1, HasBytes-more bytes more rows h.2)

HasBytes-push : (bytes : List ℕ) (rows : List Row) (row : Row) → HasBytes bytes rows → row.start + row.length ≤ length bytes → length (bytes_of (event_in bytes row)) ≡ row.length →
    HasBytes bytes (rows ++ row ∷ [])
HasBytes-push bytes [] row h le size = (le, size, tt)
HasBytes-push bytes (r ∷ rows) row h le size = (h.0, h.1, HasBytes-push bytes rows row h.2 le size)

events_more : (bytes more : List ℕ) (rows : List Row) → HasBytes bytes rows → map (event_in (bytes ++ more)) rows ≡ map (event_in bytes) rows
events_more bytes more [] h = refl
events_more bytes more (row ∷ rows) h =
    let one = event_more bytes more row h.0 in
    let rest = events_more bytes more rows h.2 in
    cc

-- one more row is one more event
abbrev row_for : Kind → List ℕ → List ℕ → Row
row_for kind bytes more = record { kind = kind; start = length bytes; length = length more }

event_new : (kind : Kind) (bytes more : List ℕ) → event_in (bytes ++ more) (row_for kind bytes more) ≡ event_with kind more
event_new kind bytes more = ap (event_with kind) (ap (take (length more)) (drop_at bytes more (length bytes) refl) ∙ take_all (length more) more (omega arith))

events_push : (kind : Kind) (bytes more : List ℕ) (rows : List Row) → HasBytes bytes rows →
    map (event_in (bytes ++ more)) (rows ++ row_for kind bytes more ∷ []) ≡ map (event_in bytes) rows ++ event_with kind more ∷ []
events_push kind bytes more rows h =
    map-append (event_in (bytes ++ more)) rows (row_for kind bytes more ∷ [])
    ∙ ap (λ prefix. prefix ++ event_in (bytes ++ more) (row_for kind bytes more) ∷ []) (events_more bytes more rows h)
    ∙ ap (λ e. map (event_in bytes) rows ++ e ∷ []) (event_new kind bytes more)

pub note_push : (reports : Bool) (bytes bytes_now : List ℕ) (rows rows_now : List Row) (room : EventRoom) (event : NetEvent) → AreRows bytes rows →
    bytes_now ≡ bytes ++ bytes_of event → IsNotedAs event (length bytes) rows rows_now →
    NotesEvent (record { events = events_reported reports bytes rows; room = room }) (record { events = events_reported reports bytes_now rows_now; room = room }) event
note_push false bytes bytes_now rows rows_now room event are longer is = record {
  noted = tt;
  reported = λ events e fits. absurd (let f : ◌≡◌ {A = Option (List NetEvent)} None (Some events) = e in cc);
  same_room = refl;
}
note_push true bytes bytes_now rows rows_now room event are longer is =
    let more : map (event_in bytes_now) rows_now ≡ map (event_in bytes) rows ++ event ∷ [] =
    ap (λ b. map (event_in b) rows_now) longer ∙ ap (map (event_in (bytes ++ bytes_of event))) is.rows
    ∙ events_push is.kind bytes (bytes_of event) rows are.has_bytes ∙ ap (λ e. map (event_in bytes) rows ++ e ∷ []) is.is in
    record {
      noted = more;
      reported = λ events e fits. ap Some more ∙ ap (λ (o : Option (List NetEvent)). option_map (λ l. l ++ event ∷ []) o) e;
      same_room = refl;
    }

pub AreRows-push : (bytes bytes_now : List ℕ) (rows rows_now : List Row) (event : NetEvent) → AreRows bytes rows →
    bytes_now ≡ bytes ++ bytes_of event → IsNotedAs event (length bytes) rows rows_now → AreRows bytes_now rows_now
AreRows-push bytes bytes_now rows rows_now event are longer is =
    let sizes = length-append bytes (bytes_of event) in
    let row = row_for is.kind bytes (bytes_of event) in
    let size : length (bytes_of (event_in (bytes ++ bytes_of event) row)) ≡ length (bytes_of event) =
    ap (λ e. length (bytes_of e)) (event_new is.kind bytes (bytes_of event) ∙ is.is) in
    let all : AreRows (bytes ++ bytes_of event) (rows ++ row ∷ []) = record {
      has_bytes = HasBytes-push (bytes ++ bytes_of event) rows row (HasBytes-more bytes (bytes_of event) rows are.has_bytes) (omega (arith, sizes)) size;
      all_bytes = omega (arith, sizes, are.all_bytes, sum_by-append (λ (r : Row). r.length) rows (row ∷ []));
    } in
    subst (λ b. AreRows b rows_now) (sym longer) (subst (λ l. AreRows (bytes ++ bytes_of event) l) (sym is.rows) all)

-- where there is no room, the list is reported no longer
bytes_sum : (bytes : List ℕ) (rows : List Row) → HasBytes bytes rows → bytes_in (map (event_in bytes) rows) ≡ sum_by (λ row. row.length) rows
bytes_sum bytes [] h = refl
bytes_sum bytes (row ∷ rows) h =
    sum_by-cons (λ (event : NetEvent). length (bytes_of event)) (event_in bytes row) (map (event_in bytes) rows)
    ∙ ap (λ n. n + bytes_in (map (event_in bytes) rows)) h.1
    ∙ ap (λ n. row.length + n) (bytes_sum bytes rows h.2)
    ∙ sym (sum_by-cons (λ (r : Row). r.length) row rows)

pub note_full : (reports : Bool) (bytes : List ℕ) (rows : List Row) (room : EventRoom) (event : NetEvent) → AreRows bytes rows →
    (room.bytes < length bytes + length (bytes_of event)) ⊎ (room.events ≤ length rows) →
    NotesEvent (record { events = events_reported reports bytes rows; room = room }) (record { events = None; room = room }) event
note_full reports bytes rows room event are full = record {
  noted = tt;
  reported = λ events e fits. absurd (none reports events e fits);
  same_room = refl;
} where
  none : (reports : Bool) (events : List NetEvent) → events_reported reports bytes rows ≡ Some events → HasEventRoom room (events ++ event ∷ []) → ⊥
  none false events e fits = let f : ◌≡◌ {A = Option (List NetEvent)} None (Some events) = e in cc
  none true events e fits =
      let same : map (event_in bytes) rows ≡ events = cc in
      let count : length events ≡ length rows = ap (λ (l : List NetEvent). length l) (sym same) ∙ length-map rows (event_in bytes) in
      let size : bytes_in events ≡ length bytes = ap (λ (l : List NetEvent). bytes_in l) (sym same) ∙ bytes_sum bytes rows are.has_bytes ∙ are.all_bytes in
      let sums = sum_by-append (λ (e : NetEvent). length (bytes_of e)) events (event ∷ []) in
      let lengths = length-append events (event ∷ []) in
      elim full [
        | inl bytes_full ↦ omega (arith, bytes_full, size, sums, fits.1)
        | inr rows_full ↦ omega (arith, rows_full, count, lengths, fits.0)
      ]

-- one row
pub row_within : (bytes : List ℕ) (rows : List Row) (place : ℕ) (row : Row) → HasBytes bytes rows → slice_get rows place ≡ Some row → row.start + row.length ≤ length bytes
row_within bytes [] place row h e = absurd (let f : ◌≡◌ {A = Option Row} None (Some row) = e in cc)
row_within bytes (r ∷ rows) zero row h e = let same : r ≡ row = cc in subst (λ (q : Row). q.start + q.length ≤ length bytes) same h.0
row_within bytes (r ∷ rows) (suc place) row h e = row_within bytes rows place row h.2 e

pub event_at : (bytes : List ℕ) (rows : List Row) (place : ℕ) → slice_get (map (event_in bytes) rows) place ≡ option_map (event_in bytes) (slice_get rows place)
event_at bytes [] place = refl
event_at bytes (r ∷ rows) zero = refl
event_at bytes (r ∷ rows) (suc place) = event_at bytes rows place

pub event_some : (reports : Bool) (bytes : List ℕ) (rows : List Row) (place : ℕ) (row : Row) (event : NetEvent) → reports ≡ true → slice_get rows place ≡ Some row → event ≡ event_in bytes row →
    Some event ≡ slice_get (unwrap_or (events_reported reports bytes rows) []) place
event_some reports bytes rows place row event reported there is =
    ap Some is ∙ ap (option_map (event_in bytes)) (sym there) ∙ sym (event_at bytes rows place)
    ∙ ap (λ t. slice_get (unwrap_or (events_reported t bytes rows) []) place) (sym reported)

pub event_none : (reports : Bool) (bytes : List ℕ) (rows : List Row) (place : ℕ) → reports ≡ true → slice_get rows place ≡ None →
    None ≡ slice_get (unwrap_or (events_reported reports bytes rows) []) place
event_none reports bytes rows place reported there =
    ap (option_map (event_in bytes)) (sym there) ∙ sym (event_at bytes rows place)
    ∙ ap (λ t. slice_get (unwrap_or (events_reported t bytes rows) []) place) (sym reported)
