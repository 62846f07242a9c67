-- The answers of a feed are counted entry by entry.
use Rattle.std.proofs.Common.{◌≡◌, ℕ, zero, suc, ◌+◌, ◌<◌, ◌≤◌, ◌==◌, Bool, true, false, Option, None, Some, List, [], ◌∷◌, ◌++◌, length, refl, sym, ap, ◌∙◌, subst, inl, inr, arith}
use Rattle.std.specs.Prelude.{if◌then◌else◌, slice_get, take}
use Rattle.std.proofs.lemmas.Bool.{cases_Bool}
use Rattle.std.proofs.lemmas.List.{length-take}
use Rattle.std.proofs.lemmas.List.Elements.{filter-append}
use Rattle.std.proofs.lemmas.List.Sums.{count_by-le-length, sum_by-append}
use Rattle.journal_entry.specs.declared.entry.Entry.{Entry}
use Rattle.journal_entry.specs.declared.entry.What.{What}
use Rattle.journal_entry.specs.declared.entry.What.TheVariants.{Heard, Sample, Declined, Notice}
use Rattle.page_cell.specs.Claims.{of_feed}
use Rattle.tick_units.specs.declared.verdicts.Kind.{Kind}
use Rattle.station_report.specs.DrillScaffold.{Counted, CountsFound, CountsOne, CountsUpTo, answer_found, answer_in, answer_of}
use Rattle.station_report.specs.Drilling.{is_differing, is_lone, is_refused, is_verdict, times, was_received}
use Rattle.station_report.specs.declared.drill_text.Counts.{Counts}

-- how much an answer adds to a count
abbrev pub adds : (Kind → Bool) → Option Kind → ℕ
adds test None = 0
adds test (Some kind) = if test kind then 1 else 0

of_what : (test : Kind → Bool) (what : What) → (if was_received test what then 1 else 0) ≡ adds test (answer_of what)
of_what test (Heard kind) = refl
of_what test (Sample sample) = refl
of_what test (Declined code) = refl
of_what test (Notice leap_at) = refl

one_time : (test : Kind → Bool) (e : Entry) → times test (e ∷ []) ≡ adds test (answer_of e.what)
one_time test e = either (was_received test e.what) refl
  where
    either : (b : Bool) → was_received test e.what ≡ b → times test (e ∷ []) ≡ adds test (answer_of e.what)
    either true is = rw is (ap (λ (b : Bool). if b then 1 else 0) (sym is) ∙ of_what test e.what)
    either false is = rw is (ap (λ (b : Bool). if b then 1 else 0) (sym is) ∙ of_what test e.what)

of_one : (test : Kind → Bool) (feed : ℕ) (e : Entry) → times test (of_feed feed (e ∷ [])) ≡ adds test (answer_in feed e)
of_one test feed e = elim (cases_Bool (e.feed == feed)) [
  | inl yes_so ↦ rw yes_so (one_time test e)
  | inr not_so ↦ rw not_so refl
]

-- with one entry more
times_more : (test : Kind → Bool) (feed : ℕ) (entries : List Entry) (e : Entry) → times test (of_feed feed (entries ++ e ∷ [])) ≡ times test (of_feed feed entries) + adds test (answer_in feed e)
times_more test feed entries e =
    ap (times test) (filter-append (λ (x : Entry). x.feed == feed) entries (e ∷ []))
    ∙ sum_by-append (λ (x : Entry). if was_received test x.what then 1 else 0) (of_feed feed entries) (of_feed feed (e ∷ []))
    ∙ ap (λ n. times test (of_feed feed entries) + n) (of_one test feed e)

counted_none : (feed : ℕ) (entries : List Entry) (e : Entry) (c : Counts) → answer_in feed e ≡ None → Counted (of_feed feed entries) c → Counted (of_feed feed (entries ++ e ∷ [])) c
counted_none feed entries e c is h =
    let kept : (test : Kind → Bool) → times test (of_feed feed (entries ++ e ∷ [])) ≡ times test (of_feed feed entries) = λ test.
    times_more test feed entries e ∙ ap (λ o. times test (of_feed feed entries) + adds test o) is ∙ plus_none (times test (of_feed feed entries)) in
    record {
      verdict = h.verdict ∙ sym (kept is_verdict);
      lone = h.lone ∙ sym (kept is_lone);
      differs = h.differs ∙ sym (kept is_differing);
      refused = h.refused ∙ sym (kept is_refused);
    }
  where
    plus_none : (n : ℕ) → n + 0 ≡ n
    plus_none n = omega arith

counted_one : (feed : ℕ) (entries : List Entry) (e : Entry) (kind : Kind) (c now : Counts) → answer_in feed e ≡ Some kind → CountsOne kind c now → Counted (of_feed feed entries) c → Counted (of_feed feed (entries ++ e ∷ [])) now
counted_one feed entries e kind c now is one h =
    let more : (test : Kind → Bool) → times test (of_feed feed (entries ++ e ∷ [])) ≡ times test (of_feed feed entries) + (if test kind then 1 else 0) = λ test.
    times_more test feed entries e ∙ ap (λ o. times test (of_feed feed entries) + adds test o) is in
    record {
      verdict = one.verdict ∙ ap (λ n. n + (if is_verdict kind then 1 else 0)) h.verdict ∙ sym (more is_verdict);
      lone = one.lone ∙ ap (λ n. n + (if is_lone kind then 1 else 0)) h.lone ∙ sym (more is_lone);
      differs = one.differs ∙ ap (λ n. n + (if is_differing kind then 1 else 0)) h.differs ∙ sym (more is_differing);
      refused = one.refused ∙ ap (λ n. n + (if is_refused kind then 1 else 0)) h.refused ∙ sym (more is_refused);
    }

feed_short : (feed : ℕ) (entries : List Entry) → length (of_feed feed entries) ≤ length entries
feed_short feed [] = omega arith
feed_short feed (e ∷ entries) = elim (cases_Bool (e.feed == feed)) [
  | inl yes_so ↦ rw yes_so (omega (arith, feed_short feed entries))
  | inr not_so ↦ rw not_so (omega (arith, feed_short feed entries))
]

-- no count is greater than there are entries
counted_up : (feed : ℕ) (entries : List Entry) (c : Counts) (most : ℕ) → Counted (of_feed feed entries) c → length entries ≤ most → CountsUpTo most c
counted_up feed entries c most h le =
    let each : (test : Kind → Bool) → times test (of_feed feed entries) ≤ length (of_feed feed entries) = λ test. count_by-le-length (λ (x : Entry). was_received test x.what) (of_feed feed entries) in
    let few = feed_short feed entries in
    record {
      verdict = omega (arith, le, few, h.verdict, each is_verdict);
      lone = omega (arith, le, few, h.lone, each is_lone);
      differs = omega (arith, le, few, h.differs, each is_differing);
      refused = omega (arith, le, few, h.refused, each is_refused);
    }

got : (xs : List Entry) (i : ℕ) → i < length xs → (e : Entry) × (slice_get xs i ≡ Some e) × (take (i + 1) xs ≡ take i xs ++ e ∷ [])
got [] i lt = absurd (omega (arith, lt))
got (x ∷ xs) zero lt = (x, refl, refl)
got (x ∷ xs) (suc i) lt =
    let rest = got xs i (omega (arith, lt)) in
    let next : suc i + 1 ≡ suc (i + 1) = omega arith in
    (rest.0, rest.1, ap (λ n. take n (x ∷ xs)) next ∙ ap (λ l. x ∷ l) rest.2)

found_one : (feed : ℕ) (entries : List Entry) (e : Entry) (found : Option Kind) (c now : Counts) → answer_in feed e ≡ found → CountsFound found c now → Counted (of_feed feed entries) c → Counted (of_feed feed (entries ++ e ∷ [])) now
found_one feed entries e None c now is same h = subst (λ k. Counted (of_feed feed (entries ++ e ∷ [])) k) (sym same) (counted_none feed entries e c is h)
found_one feed entries e (Some kind) c now is one h = counted_one feed entries e kind c now is one h

-- the entry at the next place is counted
pub counted_next : (feed : ℕ) (entries : List Entry) (place : ℕ) (c now : Counts) → place < length entries → CountsFound (answer_found feed (slice_get entries place)) c now → Counted (of_feed feed (take place entries)) c →
    Counted (of_feed feed (take (place + 1) entries)) now
counted_next feed entries place c now lt one h =
    let at = got entries place lt in
    subst (λ l. Counted (of_feed feed l) now) (sym at.2)
    (found_one feed (take place entries) at.0 (answer_found feed (slice_get entries place)) c now (sym (ap (answer_found feed) at.1)) one h)

pub counted_up_to : (feed : ℕ) (entries : List Entry) (place : ℕ) (c : Counts) (most : ℕ) → Counted (of_feed feed (take place entries)) c → place ≤ most → CountsUpTo most c
counted_up_to feed entries place c most h le = counted_up feed (take place entries) c most h (omega (arith, le, length-take place entries))
