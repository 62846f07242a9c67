-- What a step that is not refused keeps: the chain of what is seen, published and entered, and that nothing is taken back.
use Rattle.std.proofs.Common.{◌≡◌, ◌≢◌, ℕ, zero, suc, ◌+◌, ◌<◌, ◌≤◌, ◌==◌, Bool, true, false, List, [], ◌∷◌, length, take, max, replicate, if◌then◌else◌, refl, sym, ap, ◌∙◌, subst, arith, length-append, true≢false, eq-eqb}
use Rattle.std.specs.Prelude.{All, Option, None, Some, nat_le, nat_lt, slice_index, slice_set}
use Rattle.std.proofs.lemmas.Bool.Decides.{nat_tests}
use Rattle.std.proofs.lemmas.List.{append-nil, get_or-set_same, get_or-set_other, take_all}
use Rattle.std.proofs.lemmas.List.Elements.{All-cons, All-get_or, All-nil, All-set, All-weaker}
use Rattle.std.proofs.lemmas.Option.{none-some}
use mathlib.Core.List.{IsPrefix}
use mathlib.Core.Logic.{dite}
use native.Mathlib.Decide.{ℕ_discrete}
use Rattle.journal_entry.specs.declared.entry.Entry.{Entry}
use Rattle.station_world.specs.Machine.{IsChained, Rises, Station, after, published_page, refusal_of}
use Rattle.station_world.specs.declared.step.Step.{Step}
use Rattle.station_world.specs.declared.step.Step.TheVariants.{Enter, Publish, Read, Tell}
use Rattle.system_fold.specs.Page.{page_of}

-- a step that is not refused passes each test
passes : {A : Type 0} (b : Bool) (o : Option A) (x : A) → (if b then o else Some x) ≡ None → (b ≡ true) × (o ≡ None)
passes true o x h = (refl, h)
passes false o x h = absurd (none-some x (sym h))

fails : {A : Type 0} (b : Bool) (x : A) → (if b then Some x else None) ≡ None → b ≡ false
fails true x h = absurd (none-some x (sym h))
fails false x h = refl

same : (m n : ℕ) → (m == n) ≡ true → m ≡ n
same m n h = grind (arith, nat_tests)

apart : (m n : ℕ) → (m == n) ≡ false → m ≢ n
apart m n h e = true≢false (sym (eq-eqb m n e) ∙ h)

below : (m n : ℕ) → nat_lt m n ≡ true → m < n
below m n h = grind (arith, nat_tests)

most : (m n : ℕ) → nat_le m n ≡ true → m ≤ n
most m n h = grind (arith, nat_tests)

prefix_self : {A : Type 0} (xs : List A) → IsPrefix xs xs
prefix_self xs = ([], append-nil xs)

-- a number of the list is replaced by one that is not less
raised : (xs : List ℕ) (k n : ℕ) → k < length xs → slice_index xs k ≤ n → (j : ℕ) → j < length xs → slice_index xs j ≤ slice_index (slice_set xs k n) j
raised xs k n lt more j less = dite (ℕ_discrete j k)
    (λ (e : j ≡ k). let at = get_or-set_same xs k n 0 lt in subst (λ (i : ℕ). slice_index xs i ≤ slice_index (slice_set xs k n) i) (sym e) (omega arith))
    (λ (ne : j ≢ k). let at = get_or-set_other xs k j n 0 ne in omega arith)

set_length : (xs : List ℕ) (k n : ℕ) → length (slice_set xs k n) ≡ length xs
set_length [] k n = refl
set_length (x ∷ xs) zero n = refl
set_length (x ∷ xs) (suc k) n = ap suc (set_length xs k n)

unmoved : (s t : Station) → t.settings ≡ s.settings → t.seen ≡ s.seen → IsPrefix s.journal t.journal → s.published ≤ t.published → Rises s t
unmoved s t settings seen journal published = record {
  settings = settings;
  journal = journal;
  published = published;
  readers = ap length seen;
  seen = (λ k lt. let e = ap (λ (xs : List ℕ). slice_index xs k) seen in omega arith);
}

pub chained_after : (s : Station) (x : Step) → IsChained s → refusal_of s x ≡ None → IsChained (after s x)
chained_after s (Enter e) h free =
    let p = passes (nat_lt e.feed (length s.settings.sources)) _ _ free in
    let q = passes (s.published == length s.journal) _ _ p.1 in
    let whole = same s.published (length s.journal) q.0 in
    record { seen = h.seen; published = omega (arith, length-append s.journal (e ∷ [])); last = omega (arith, length-append s.journal (e ∷ [])) }
chained_after s Publish h free =
    let ne = apart s.published (length s.journal) (fails (s.published == length s.journal) _ free) in
    let most = h.published in
    let last = h.last in
    record { seen = All-weaker (λ (n : ℕ). n ≤ s.published) (λ n. n ≤ s.published + 1) (λ n le. omega arith) s.seen h.seen; published = omega arith; last = omega arith }
chained_after s (Read k) h free =
    record { seen = All-set (λ (n : ℕ). n ≤ s.published) s.seen k s.published (omega arith) h.seen; published = h.published; last = h.last }
chained_after s (Tell k n) h free =
    let p = passes (nat_lt k (length s.seen)) _ _ free in
    let q = passes (nat_le n s.published) _ _ p.1 in
    let told = most n s.published q.0 in
    let had = All-get_or (λ (m : ℕ). m ≤ s.published) s.seen k 0 (below k (length s.seen) p.0) h.seen in
    record { seen = All-set (λ (m : ℕ). m ≤ s.published) s.seen k (max (slice_index s.seen k) n) (omega arith) h.seen; published = h.published; last = h.last }

pub rises_after : (s : Station) (x : Step) → IsChained s → refusal_of s x ≡ None → Rises s (after s x)
rises_after s (Enter e) h free = unmoved s (after s (Enter e)) refl refl (e ∷ [], refl) (omega arith)
rises_after s Publish h free = unmoved s (after s Publish) refl refl (prefix_self s.journal) (omega arith)
rises_after s (Read k) h free =
    let p = passes (nat_lt k (length s.seen)) _ _ free in
    let lt = below k (length s.seen) p.0 in
    record { settings = refl; journal = prefix_self s.journal; published = omega arith; readers = set_length s.seen k s.published; seen = raised s.seen k s.published lt (All-get_or (λ (m : ℕ). m ≤ s.published) s.seen k 0 lt h.seen) }
rises_after s (Tell k n) h free =
    let p = passes (nat_lt k (length s.seen)) _ _ free in
    let lt = below k (length s.seen) p.0 in
    record { settings = refl; journal = prefix_self s.journal; published = omega arith; readers = set_length s.seen k (max (slice_index s.seen k) n); seen = raised s.seen k (max (slice_index s.seen k) n) lt (omega arith) }

pub rises_self : (s : Station) → Rises s s
rises_self s = unmoved s s refl refl (prefix_self s.journal) (omega arith)

-- the page of what is published, once all is
pub page_of_all : (s : Station) → s.published ≡ length s.journal → published_page s ≡ page_of s.settings s.journal
unfolding published_page
page_of_all s all = ap (page_of s.settings) (ap (λ (n : ℕ). take n s.journal) all ∙ take_all (length s.journal) s.journal (omega arith))

-- a further entry leaves it
pub page_before : (s : Station) (e : Entry) → s.published ≤ length s.journal → published_page (after s (Enter e)) ≡ published_page s
unfolding published_page
page_before s e le = ap (page_of s.settings) (Rattle.std.proofs.lemmas.List.take-append-le s.published s.journal (e ∷ []) le)

pub none_seen : (readers : ℕ) → All (λ (n : ℕ). n ≤ 0) (replicate readers 0)
none_seen zero = All-nil (λ (n : ℕ). n ≤ 0)
none_seen (suc readers) = All-cons (λ (n : ℕ). n ≤ 0) 0 (replicate readers 0) (omega arith) (none_seen readers)
