-- A journal's entries counted by feeds, its lines in the two forms in which they are defined, and the length of its page.
use Rattle.std.proofs.Common.{◌≡◌, ◌≢◌, ℕ, zero, suc, ◌+◌, ◌<◌, ◌≤◌, ◌==◌, eqb, ne_eqb, Bool, true, false, List, [], ◌∷◌, ◌++◌, if◌then◌else◌, length, map, take, refl, sym, ap, ◌∙◌, arith, length-append, append_assoc}
use Rattle.std.specs.Int.{from_bool}
use Rattle.std.specs.List.{enumerate_from, range_with_len, sum_by}
use Rattle.std.specs.Prelude.{All, ℤ}
use Rattle.std.proofs.lemmas.Bool.Decides.{nat_tests}
use Rattle.std.proofs.lemmas.List.Elements.{All-head, All-tail}
use Rattle.std.proofs.lemmas.List.Sums.{sum_by-cons}
use Rattle.clock_page.specs.Page.{PageFields, unsynchronised}
use Rattle.journal_entry.specs.declared.entry.Entry.{Entry}
use Rattle.journal_entry.specs.declared.numbered.Numbered.{Numbered}
use Rattle.page_cell.specs.Claims.{of_feed, page_at}
use Rattle.system_fold.specs.Ends.{is_above}
use Rattle.system_fold.specs.Fields.{page_dispersion, page_from, synchronised_by}
use Rattle.system_fold.specs.Inputs.{inputs_of}
use Rattle.system_fold.specs.Numbered.{numbered, numbered_after}
use Rattle.system_fold.specs.Page.{page_by, page_of}
use Rattle.system_fold.specs.Settings.{IsJournal, IsKept, SettingsFields}
use Rattle.system_fold.specs.declared.inputs.PageInputs.{PageInputs}
use Rattle.system_fold.specs.declared.source.Source.{Source}
use Rattle.verdict_journal.specs.Journals.{numbered_of}

-- whether an entry is of a feed, as a number
abbrev is_of : Entry → ℕ → ℕ
is_of e f = from_bool (e.feed == f)

of_no_feed : (e : Entry) (a n : ℕ) → e.feed < a → sum_by (is_of e) (range_with_len a n) ≡ 0
of_no_feed e a zero lt = refl
of_no_feed e a (suc n) lt =
    let rest = of_no_feed e (a + 1) n (omega (arith, lt)) in
    let other : e.feed ≢ a = λ same. absurd (omega (arith, same, lt)) in
    let one = ap from_bool (ne_eqb e.feed a other) in
    sum_by-cons (is_of e) a (range_with_len (a + 1) n) ∙ omega (arith, rest, one)

of_one_feed : (e : Entry) (a n : ℕ) → a ≤ e.feed → e.feed < a + n → sum_by (is_of e) (range_with_len a n) ≡ 1
of_one_feed e a zero ge lt = absurd (omega (arith, ge, lt))
of_one_feed e a (suc n) ge lt = by_first (eqb e.feed a) refl (λ above. of_one_feed e (a + 1) n (omega (arith, above)) (omega (arith, lt)))
  where
    by_first : (b : Bool) → eqb e.feed a ≡ b → (a < e.feed → sum_by (is_of e) (range_with_len (a + 1) n) ≡ 1) → sum_by (is_of e) (range_with_len a (suc n)) ≡ 1
    by_first true is later =
        let same : e.feed ≡ a = grind (arith, nat_tests) in
        let rest = of_no_feed e (a + 1) n (omega (arith, same)) in
        let one = ap from_bool is in
        sum_by-cons (is_of e) a (range_with_len (a + 1) n) ∙ omega (arith, rest, one)
    by_first false is later =
        let other : a < e.feed = grind (arith, nat_tests) in
        let rest = later other in
        let one = ap from_bool is in
        sum_by-cons (is_of e) a (range_with_len (a + 1) n) ∙ omega (arith, rest, one)

one_more : (b : Bool) (e : Entry) (l : List Entry) → length (if b then e ∷ l else l) ≡ from_bool b + length l
one_more true e l = omega arith
one_more false e l = omega arith

counts_more : (e : Entry) (j : List Entry) (a n : ℕ) → sum_by (λ f. length (of_feed f (e ∷ j))) (range_with_len a n) ≡ sum_by (is_of e) (range_with_len a n) + sum_by (λ f. length (of_feed f j)) (range_with_len a n)
counts_more e j a zero = refl
counts_more e j a (suc n) =
    let rest = counts_more e j (a + 1) n in
    let one = one_more (e.feed == a) e (of_feed a j) in
    sum_by-cons (λ f. length (of_feed f (e ∷ j))) a (range_with_len (a + 1) n)
    ∙ omega (arith, rest, one, sum_by-cons (is_of e) a (range_with_len (a + 1) n), sum_by-cons (λ f. length (of_feed f j)) a (range_with_len (a + 1) n))

no_counts : (a n : ℕ) → sum_by (λ f. length (of_feed f [])) (range_with_len a n) ≡ 0
no_counts a zero = refl
no_counts a (suc n) = let rest = no_counts (a + 1) n in sum_by-cons (λ f. length (of_feed f [])) a (range_with_len (a + 1) n) ∙ omega (arith, rest)

counted : (k : ℕ) (j : List Entry) → All (IsKept k) j → length j ≡ sum_by (λ f. length (of_feed f j)) (range_with_len 0 k)
counted k [] all = sym (no_counts 0 k)
counted k (e ∷ j) all =
    let rest = counted k j (All-tail (IsKept k) e j all) in
    let feed = (All-head (IsKept k) e j all).valid.feed in
    let one = of_one_feed e 0 k (omega arith) (omega (arith, feed)) in
    sym (counts_more e j 0 k ∙ omega (arith, rest, one))

-- a valid journal has as many entries as its feeds have together
pub feeds-counted : (settings : SettingsFields) (journal : List Entry) → IsJournal settings journal → length journal ≡ sum_by (λ feed. length (of_feed feed journal)) (range_with_len 0 (length settings.sources))
feeds-counted settings journal all = counted (length settings.sources) journal all

-- the first entries of a list and one after them
prefix_and_one : (before : List Entry) (e : Entry) (more : List Entry) → take (suc (length before)) (before ++ e ∷ more) ≡ before ++ e ∷ []
prefix_and_one [] e more = refl
prefix_and_one (b ∷ before) e more = ap (λ l. b ∷ l) (prefix_and_one before e more)

abbrev line : SettingsFields → List Entry → ℕ × Entry → Numbered
line s journal k = record { length = k.0 + 1; rate = (page_at s journal (k.0 + 1)).rate; entry = k.1 }

numbered_rest : (s : SettingsFields) (journal before more : List Entry) → journal ≡ before ++ more → map (line s journal) (enumerate_from (length before) more) ≡ numbered_after s before more
unfolding page_at
numbered_rest s journal before [] is = refl
numbered_rest s journal before (e ∷ more) is =
    let one : length before + 1 ≡ suc (length before) = omega arith in
    let rate : (page_at s journal (length before + 1)).rate ≡ (page_of s (before ++ e ∷ [])).rate = ap (λ l. (page_of s l).rate) (ap (λ k. take k journal) one ∙ ap (take (suc (length before))) is ∙ prefix_and_one before e more) in
    let count : length before + 1 ≡ length (before ++ e ∷ []) = sym (length-append before (e ∷ [])) in
    let rest = numbered_rest s journal (before ++ e ∷ []) more (is ∙ sym (append_assoc before (e ∷ []) more)) in
    (λ i. record { length = length before + 1; rate = rate i; entry = e } ∷ map (line s journal) (enumerate_from (length before + 1) more))
    ∙ ap (λ l. record { length = length before + 1; rate = (page_of s (before ++ e ∷ [])).rate; entry = e } ∷ l) (ap (λ n. map (line s journal) (enumerate_from n more)) count ∙ rest)

-- the lines of a journal are its entries with their numbers and rates
pub numbered-same : (settings : SettingsFields) (journal : List Entry) → numbered_of settings journal ≡ numbered settings journal
numbered-same settings journal = numbered_rest settings journal [] journal refl

page_from-length : (inputs : PageInputs) (sources : List Source) (offset : ℤ) → (page_from inputs sources offset).length ≡ inputs.length
unfolding page_from
page_from-length inputs [] offset = refl
page_from-length inputs (peer ∷ others) offset = either_way (is_above inputs.bound (page_dispersion inputs.moment peer) 0) (unsynchronised inputs.length inputs.moment) (synchronised_by inputs peer others offset) refl refl
  where
    either_way : (b : Bool) (p q : PageFields) → p.length ≡ inputs.length → q.length ≡ inputs.length → (if b then p else q).length ≡ inputs.length
    either_way true p q one two = one
    either_way false p q one two = two

-- a page says of how many entries it is
pub page-length : (settings : SettingsFields) (journal : List Entry) → (page_of settings journal).length ≡ length journal
unfolding page_of page_by
page-length settings journal = page_from-length (inputs_of settings journal) _ _
