-- The marks of a made log are cut into its minutes.
use Rattle.std.proofs.Common.{◌≡◌, ℕ, zero, suc, ◌+◌, ◌*◌, ◌==◌, true, false, Option, Some, List, [], ◌∷◌, ◌++◌, length, refl, sym, ap, ◌∙◌, subst, arith, append_assoc}
use Rattle.std.proofs.lemmas.Bool.Decides.{nat_tests}
use Rattle.std.specs.List.{flat_map, onto_first, range_with_len}
use Rattle.code_plans.specs.Codes.{code_of, sending_of}
use Rattle.code_plans.proofs.Sent.{reads}
use Rattle.frame_rules.proofs.SentLaws.{IsMinute, last_symbol, sent_mark}
use Rattle.minute_pair.specs.Segments.{cut}
use Rattle.tick_units.specs.declared.marks.Mark.{Mark}
use Rattle.tick_units.specs.declared.marks.Plan.{Plan}
use Rattle.tick_units.specs.declared.marks.Symbol.{Symbol}
use Rattle.drill_day.specs.Made.{number_from, start_of}
use Rattle.drill_day.specs.Minutes.{coded_of, index_of, is_damaged, seconds_from, symbols_of}
use Rattle.drill_day.specs.declared.seconds.Second.{Second}
use Rattle.drill_day.proofs.MakingLaws.{minute_seconds}
use Rattle.drill_day.proofs.CutLaws.{onto_prefix, onto_none, quiet, shape_of}
use Rattle.drill_day.proofs.MarkLaws.{mark_at, marks_append, marks_from}

-- how many seconds of a minute have a mark
abbrev pub marked : Plan → ℕ
marked plan = (shape_of plan).marked

-- the minute that begins after a frame is not the second at which a leap second ends, where none is announced
no_last : (first minute : ℕ) → ((coded_of first minute).leap_at == (coded_of first minute).minute) ≡ false
no_last first minute = grind (arith, nat_tests)

pub minute_is : (plan : Plan) (first seed minute : ℕ) → IsMinute (shape_of plan) (symbols_of plan first seed minute)
minute_is plan first seed minute = (reads plan).minute (is_damaged seed minute) (coded_of first minute) refl (no_last first minute)

-- at this index a minute begins, after such a mark
abbrev pub Leads : Plan → ℕ → Option Mark → Type 0
Leads plan index before = (late : ℕ) (head : Symbol) → (shape_of plan).begins head ≡ true → (code_of plan).begins_minute before (sent_mark (code_of plan) (sending_of plan) (start_of index late) head) ≡ true

-- the last mark of a minute leads to the next
pub leads_on : (plan : Plan) (start j index next : ℕ) (last : Symbol) → index + (shape_of plan).gap ≡ next → (shape_of plan).ends last ≡ true → Leads plan next (Some (mark_at plan start j index last))
leads_on plan start j index next last far e late head f =
    (reads plan).leads (start_of index (number_from start j)) (start_of next late) last head (omega (arith, far)) (omega (arith, far)) e f

-- the marks of a minute, of which the first is the j-th of its log
abbrev pub minute_marks : Plan → ℕ → ℕ → ℕ → ℕ → ℕ → List Mark
minute_marks plan first seed start j m = marks_from plan start j (minute_seconds plan first seed m)

-- those of this many minutes from this one on
abbrev pub minutes_marks : Plan → ℕ → ℕ → ℕ → ℕ → ℕ → ℕ → List (List Mark)
minutes_marks plan first seed start j m zero = []
minutes_marks plan first seed start j m (suc count) = minute_marks plan first seed start j m ∷ minutes_marks plan first seed start (j + marked plan) (m + 1) count

pub seconds_count : (index : ℕ) (symbols : List Symbol) → length (seconds_from index symbols) ≡ length symbols
seconds_count index [] = refl
seconds_count index (symbol ∷ more) = ap suc (seconds_count (index + 1) more)

-- one minute, after a mark that leads to it and before marks that begin another
pub one_minute : (plan : Plan) (start j m : ℕ) (symbols : List Symbol) (before : Option Mark) (rest : List Mark) (pieces : List (List Mark)) → IsMinute (shape_of plan) symbols → Leads plan (index_of m) before →
    ((last : Mark) → Leads plan (index_of (m + 1)) (Some last) → cut (code_of plan) (Some last) rest ≡ [] ∷ pieces) →
    cut (code_of plan) before (marks_from plan start j (seconds_from (index_of m) symbols) ++ rest) ≡ [] ∷ marks_from plan start j (seconds_from (index_of m) symbols) ∷ pieces
one_minute plan start j m symbols before rest pieces is leads later =
    let index = index_of m in
    let head = mark_at plan start j index is.head in
    let tail = marks_from plan start (suc j) (seconds_from (index + 1) is.tail) in
    let on : (code_of plan).begins_minute before head ≡ true = leads (number_from start j) is.head is.begins_it in
    let size : suc (length is.tail) ≡ marked plan = ap (λ (l : List Symbol). length l) (sym is.is) ∙ is.count in
    let last = mark_at plan start (j + length is.tail) (index + length is.tail) (last_symbol is.head is.tail) in
    let far : index + length is.tail + (shape_of plan).gap ≡ index_of (m + 1) = omega (arith, size, (reads plan).whole) in
    let next : cut (code_of plan) (Some last) rest ≡ [] ∷ pieces = later last (leads_on plan start (j + length is.tail) (index + length is.tail) (index_of (m + 1)) (last_symbol is.head is.tail) far is.ends_it) in
    let inner : cut (code_of plan) (Some head) (tail ++ rest) ≡ tail ∷ pieces = quiet plan start j index is.head is.tail rest is.calm ∙ ap (onto_prefix tail) next ∙ onto_none tail pieces in
    let whole : cut (code_of plan) before ((head ∷ tail) ++ rest) ≡ [] ∷ (head ∷ tail) ∷ pieces = rw on (ap (λ l. [] ∷ onto_first head l) inner) in
    subst (λ s. cut (code_of plan) before (marks_from plan start j (seconds_from index s) ++ rest) ≡ [] ∷ marks_from plan start j (seconds_from index s) ∷ pieces) (sym is.is) whole

-- this many minutes, and a mark that begins another
pub minutes_cut : (plan : Plan) (first seed start j m count : ℕ) (closing : Symbol) (before : Option Mark) → (shape_of plan).begins closing ≡ true → Leads plan (index_of m) before →
    cut (code_of plan) before (marks_from plan start j (flat_map (minute_seconds plan first seed) (range_with_len m count) ++ record { index = index_of (m + count); symbol = closing } ∷ []))
    ≡ [] ∷ (minutes_marks plan first seed start j m count ++ (mark_at plan start (j + marked plan * count) (index_of (m + count)) closing ∷ []) ∷ [])
minutes_cut plan first seed start j m zero closing before e leads =
    let none : m + 0 ≡ m = omega arith in
    let same : j + marked plan * 0 ≡ j = omega arith in
    let on : (code_of plan).begins_minute before (mark_at plan start j (index_of (m + 0)) closing) ≡ true = subst (λ n. Leads plan (index_of n) before) (sym none) leads (number_from start j) closing e in
    rw on (ap (λ n. [] ∷ (mark_at plan start n (index_of (m + 0)) closing ∷ []) ∷ []) (sym same))
minutes_cut plan first seed start j m (suc count) closing before e leads =
    let symbols = symbols_of plan first seed m in
    let one = minute_seconds plan first seed m in
    let more = flat_map (minute_seconds plan first seed) (range_with_len (m + 1) count) in
    let end : List Second = record { index = index_of (m + suc count); symbol = closing } ∷ [] in
    let is = minute_is plan first seed m in
    let size : length one ≡ marked plan = seconds_count (index_of m) symbols ∙ is.count in
    let far : m + suc count ≡ m + 1 + count = omega arith in
    let count_on : j + marked plan + marked plan * count ≡ j + marked plan * suc count = omega arith in
    let rest = marks_from plan start (j + marked plan) (more ++ end) in
    let split : marks_from plan start j ((one ++ more) ++ end) ≡ marks_from plan start j one ++ rest =
    ap (marks_from plan start j) (append_assoc one more end) ∙ marks_append plan start j one (more ++ end) ∙ ap (λ n. marks_from plan start j one ++ marks_from plan start (j + n) (more ++ end)) size in
    let pieces = minutes_marks plan first seed start (j + marked plan) (m + 1) count ++ (mark_at plan start (j + marked plan * suc count) (index_of (m + suc count)) closing ∷ []) ∷ [] in
    ap (cut (code_of plan) before) split
    ∙ one_minute plan start j m symbols before rest pieces is leads (λ last on.
    subst (λ n. cut (code_of plan) (Some last) (marks_from plan start (j + marked plan) (more ++ record { index = index_of n; symbol = closing } ∷ [])) ≡ [] ∷ (minutes_marks plan first seed start (j + marked plan) (m + 1) count ++ (mark_at plan start (j + marked plan * suc count) (index_of n) closing ∷ []) ∷ [])) (sym far)
    (subst (λ n. cut (code_of plan) (Some last) (marks_from plan start (j + marked plan) (more ++ record { index = index_of (m + 1 + count); symbol = closing } ∷ [])) ≡ [] ∷ (minutes_marks plan first seed start (j + marked plan) (m + 1) count ++ (mark_at plan start n (index_of (m + 1 + count)) closing ∷ []) ∷ [])) count_on
    (minutes_cut plan first seed start (j + marked plan) (m + 1) count closing (Some last) e on)))
