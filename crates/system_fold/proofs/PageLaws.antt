-- From the sources that are fit to the page.
use Rattle.std.proofs.Common.{◌≡◌, ℕ, ◌+◌, ◌-◌, ◌≤◌, ◌<◌, ◌^◌, Bool, true, false, List, [], ◌∷◌, ◌++◌, refl, sym, ap, ◌∙◌, arith, subst, length, take, get_or, map, ℤ, pos, ◌≤ℤ◌, ◌-ℤ◌, unsigned_abs}
use Rattle.std.specs.Prelude.{All, Contains, IfSome, Option, None, Some, filter, find, ◌==◌, cond, slice_get}
use Rattle.std.specs.List.{cons_option}
use Rattle.std.proofs.lemmas.Int.{ints}
use Rattle.std.proofs.lemmas.List.{take_more}
use Rattle.std.proofs.lemmas.List.Elements.{All-head, All-tail, All-cons, All-nil, All-weaker, All-map, All-filter, All-contains, filter_map-append, filter_passes}
use Rattle.tick_units.specs.Samples.{IsLength}
use Rattle.cluster_core.specs.Bounds.{AreNear}
use Rattle.cluster_core.specs.declared.survivor.Survivor.{Survivor}
use Rattle.select_core.specs.Selection.{chime_of, is_in}
use Rattle.select_core.specs.declared.chime.Chime.{Chime}
use Rattle.cluster_core.specs.Clusters.{survivors_left}
use Rattle.cluster_core.specs.Mean.{mean}
use Rattle.clock_page.specs.Page.{PageFields, unsynchronised}
use Rattle.system_fold.specs.Fields.{fresh_of, page_from}
use Rattle.system_fold.specs.Fit.{IsFit}
use Rattle.system_fold.specs.Fit.{fit_feeds}
use Rattle.system_fold.specs.Inputs.{inputs_of}
use Rattle.system_fold.specs.Leaps.{armed_of}
use Rattle.system_fold.specs.Page.{page_by, page_of}
use Rattle.system_fold.specs.Settings.{SettingsFields}
use Rattle.system_fold.specs.KeptFold.{FoldFields, StandsForJournal}
use Rattle.system_fold.proofs.SourceLaws.{fit-feeds}
use Rattle.journal_entry.specs.declared.entry.Entry.{Entry}
use Rattle.system_fold.specs.Surviving.{IsLong}
use Rattle.system_fold.specs.declared.inputs.PageInputs.{PageInputs}
use Rattle.system_fold.specs.declared.leaps.Leap.{Leap}
use Rattle.system_fold.specs.Selecting.{candidate_of, survivor_of, survivors_in, sources_at}
use Rattle.system_fold.specs.declared.source.Source.{Source}

-- one survivor more
pub sources-more : (fit : List Source) (survivors : List Survivor) (i : ℕ) (x : Survivor) → i < length survivors → x ≡ get_or survivors i x → sources_at fit (take (i + 1) survivors) ≡ sources_at fit (take i survivors) ++ cons_option (find (λ (s : Source). s.feed == x.feed) fit) []
sources-more fit survivors i x below here =
    ap (sources_at fit) (take_more survivors i x below)
    ∙ filter_map-append (λ (y : Survivor). find (λ (s : Source). s.feed == y.feed) fit) (take i survivors) (get_or survivors i x ∷ [])
    ∙ ap (λ (y : Survivor). sources_at fit (take i survivors) ++ cons_option (find (λ (s : Source). s.feed == y.feed) fit) []) (sym here)

find-all : (P : Source → Type 0) (p : Source → Bool) (xs : List Source) → All P xs → IfSome (find p xs) P
find-all P p [] all = tt
find-all P p (x ∷ xs) all = by_test (p x) (find-all P p xs (All-tail P x xs all))
  where
    by_test : (b : Bool) → IfSome (find p xs) P → IfSome (cond b (Some x) (find p xs)) P
    by_test true further = All-head P x xs all
    by_test false further = further

-- what holds of all sources holds of those of survivors
pub sources-all : (P : Source → Type 0) (fit : List Source) (survivors : List Survivor) → All P fit → All P (sources_at fit survivors)
sources-all P fit [] all = All-nil P
sources-all P fit (x ∷ xs) all = by_found (find (λ s. s.feed == x.feed) fit) (find-all P (λ s. s.feed == x.feed) fit all) (sources-all P fit xs all)
  where
    by_found : (o : Option Source) → IfSome o P → All P (sources_at fit xs) → All P (cons_option o (sources_at fit xs))
    by_found None here further = further
    by_found (Some s) here further = All-cons P s (sources_at fit xs) here further

-- offsets in the interval are near to each other
within-least : (chime : Chime) (offset : ℤ) → is_in chime offset ≡ true → chime.low ≤ℤ offset
within-least chime offset h = grind (arith, ints)

within-most : (chime : Chime) (offset : ℤ) → is_in chime offset ≡ true → offset ≤ℤ chime.high
within-most chime offset h = grind (arith, ints)

low_high : (low high : ℤ) → low ≤ℤ high → (high -ℤ low) ≤ℤ pos (2 ^ 33) → unsigned_abs (high -ℤ low) ≤ 2 ^ 33
low_high low high ordered narrow = omega (arith, ints)

chosen-all : (chime : Chime) (fit : List Source) → All (λ (s : Source). is_in chime s.figures.offset ≡ true) (filter (λ s. is_in chime s.figures.offset) fit)
chosen-all chime fit = filter_passes (λ (s : Source). is_in chime s.figures.offset) fit

survivors-near : (chime : Chime) (now : ℕ) (fit : List Source) → chime.low ≤ℤ chime.high → (chime.high -ℤ chime.low) ≤ℤ pos (2 ^ 33) → AreNear (survivors_in (Some chime) now fit)
survivors-near chime now fit ordered narrow = record {
  low = chime.low;
  high = chime.high;
  apart = low_high chime.low chime.high ordered narrow;
  from = All-map (λ (x : Survivor). chime.low ≤ℤ x.offset) (survivor_of now) (filter (λ s. is_in chime s.figures.offset) fit) (All-weaker (λ (s : Source). is_in chime s.figures.offset ≡ true) (λ s. chime.low ≤ℤ s.figures.offset) (λ s h. within-least chime s.figures.offset h) _ (chosen-all chime fit));
  upto = All-map (λ (x : Survivor). x.offset ≤ℤ chime.high) (survivor_of now) (filter (λ s. is_in chime s.figures.offset) fit) (All-weaker (λ (s : Source). is_in chime s.figures.offset ≡ true) (λ s. s.figures.offset ≤ℤ chime.high) (λ s h. within-most chime s.figures.offset h) _ (chosen-all chime fit));
}

-- every survivor has the offset of a source
pub survivors-long : (chime : Chime) (now : ℕ) (fit : List Source) → All (IsFit now) fit → All (λ (x : Survivor). IsLength x.offset) (survivors_in (Some chime) now fit)
survivors-long chime now fit all =
    All-map (λ (x : Survivor). IsLength x.offset) (survivor_of now) (filter (λ s. is_in chime s.figures.offset) fit)
    (All-weaker (IsFit now) (λ s. IsLength s.figures.offset) (λ s h. h.measured.offset) _ (All-filter (λ (s : Source). is_in chime s.figures.offset) (IsFit now) fit all))

-- the first of a list
none-first : (s : Source) → Some s ≡ None → ⊥
none-first s is = subst is_some is tt
  where
    is_some : Option Source → Type 0
    is_some None = ⊥
    is_some (Some x) = Unit {0}

first-same : (s x : Source) → Some s ≡ Some x → s ≡ x
first-same s x is = ap read is
  where
    read : Option Source → Source
    read None = s
    read (Some y) = y

-- the first of the sources that are left is fit
pub peer-fit : (now : ℕ) (fit : List Source) (survivors : List Survivor) (peer : Source) → All (IsFit now) fit → Some peer ≡ slice_get (sources_at fit survivors) 0 → IsFit now peer
peer-fit now fit survivors peer all is = by_list (sources_at fit survivors) (sources-all (IsFit now) fit survivors all) is
  where
    by_list : (left : List Source) → All (IsFit now) left → Some peer ≡ slice_get left 0 → IsFit now peer
    by_list [] fits first = absurd (none-first peer first)
    by_list (s ∷ others) fits first = subst (IsFit now) (sym (first-same peer s first)) (All-head (IsFit now) s others fits)

-- so it determines their page, with the moment of the newest sample of all
pub page-left : (inputs : PageInputs) (left : List Source) (peer : Source) (fresh : ℕ) (offset mean_offset : ℤ) (page : PageFields) → Some peer ≡ slice_get left 0 → fresh ≡ fresh_of left → offset ≡ mean_offset
    → ((others : List Source) → fresh ≡ fresh_of (peer ∷ others) → page ≡ page_from inputs (peer ∷ others) offset) → page ≡ page_from inputs left mean_offset
page-left inputs [] peer fresh offset mean_offset page first newest is reported = absurd (none-first peer first)
page-left inputs (s ∷ others) peer fresh offset mean_offset page first newest is reported =
    let same = first-same peer s first in
    reported others (newest ∙ ap (λ (t : Source). fresh_of (t ∷ others)) (sym same)) ∙ (λ i. page_from inputs (same i ∷ others) (is i))

pub none-left : (left : List Source) → None ≡ slice_get left 0 → left ≡ []
none-left [] none = refl
none-left (s ∷ others) none = absurd (none-first s (sym none))

-- between bounds of lengths
pub length-between : (z : ℤ) → pos 0 ≤ℤ z → z ≤ℤ pos (2 ^ 66 - 1) → IsLength z
length-between z least most = record { least = least; below = omega (arith, ints) }

pub long-least : (xs : List Survivor) → All IsLong xs → All (λ x. pos 0 ≤ℤ x.offset) xs
long-least xs all = All-weaker IsLong (λ x. pos 0 ≤ℤ x.offset) (λ x h. h.least) xs all

pub long-most : (xs : List Survivor) → All IsLong xs → All (λ x. x.offset ≤ℤ pos (2 ^ 66 - 1)) xs
long-most xs all = All-weaker IsLong (λ x. x.offset ≤ℤ pos (2 ^ 66 - 1)) (λ x h. most x.offset h) xs all
  where
    most : (z : ℤ) → IsLength z → z ≤ℤ pos (2 ^ 66 - 1)
    most z h = let below = h.below in omega (arith, ints)

-- the page inputs by what is kept
abbrev pub inputs_by : FoldFields → Option Leap → PageInputs
inputs_by fold armed = record { length = fold.length; moment = fold.leaps.latest; bound = fold.bound; armed = armed }

-- the page is not synchronised where no source is left
pub page-empty : (inputs : PageInputs) (left : List Source) (offset : ℤ) → left ≡ [] → page_from inputs left offset ≡ unsynchronised inputs.length inputs.moment
unfolding page_from
page-empty inputs left offset none = ap (λ (xs : List Source). page_from inputs xs offset) none

-- and where they don't agree
pub page-none : (inputs : PageInputs) (fit : List Source) → chime_of (map (candidate_of inputs.moment) fit) ≡ None → page_by inputs fit ≡ unsynchronised inputs.length inputs.moment
unfolding page_by page_from
page-none inputs fit none = ap (λ (o : Option Chime). page_from inputs (sources_at fit (survivors_left (survivors_in o inputs.moment fit))) (mean (survivors_left (survivors_in o inputs.moment fit)))) none

near-empty : AreNear []
near-empty = record { low = pos 0; high = pos 0; apart = omega (arith, ints); from = All-nil (λ (x : Survivor). pos 0 ≤ℤ x.offset); upto = All-nil (λ (x : Survivor). x.offset ≤ℤ pos 0) }

-- the survivors are near to each other, since the interval is narrow
pub chosen-near : (chime : Chime) (now : ℕ) (fit : List Source) (survivors : List Survivor) → survivors ≡ survivors_in (Some chime) now fit → (chime.high -ℤ chime.low) ≤ℤ pos (2 ^ 33) → AreNear survivors
chosen-near chime now fit survivors is narrow = subst AreNear (sym is) (by_chosen (filter (λ s. is_in chime s.figures.offset) fit) refl)
  where
    ordered : (low high z : ℤ) → low ≤ℤ z → z ≤ℤ high → low ≤ℤ high
    ordered low high z g h = omega (arith, ints)

    by_chosen : (chosen : List Source) → filter (λ s. is_in chime s.figures.offset) fit ≡ chosen → AreNear (survivors_in (Some chime) now fit)
    by_chosen [] none = subst (λ (xs : List Source). AreNear (map (survivor_of now) xs)) (sym none) near-empty
    by_chosen (s ∷ chosen) some =
        let first : is_in chime s.figures.offset ≡ true = All-head (λ (t : Source). is_in chime t.figures.offset ≡ true) s chosen (subst (All (λ (t : Source). is_in chime t.figures.offset ≡ true)) some (chosen-all chime fit)) in
        survivors-near chime now fit (ordered chime.low chime.high s.figures.offset (within-least chime s.figures.offset first) (within-most chime s.figures.offset first)) narrow

-- what is left has offsets of the survivors
pub left-long : (chime : Chime) (now : ℕ) (fit : List Source) (survivors left : List Survivor) → survivors ≡ survivors_in (Some chime) now fit → All (IsFit now) fit → All (Contains survivors) left → All IsLong left
left-long chime now fit survivors left is all members = All-weaker (Contains survivors) IsLong (λ x h. All-contains IsLong survivors x (subst (All IsLong) (sym is) (survivors-long chime now fit all)) h) left members

-- the inputs by what is kept are those of the journal
inputs-stand : (fold : FoldFields) (armed : Option Leap) (settings : SettingsFields) (journal : List Entry) → StandsForJournal fold settings journal → armed ≡ armed_of journal → inputs_by fold armed ≡ inputs_of settings journal
inputs-stand fold armed settings journal h armed_is = λ i. record { length = h.length i; moment = h.leaps.now i; bound = h.bound i; armed = armed_is i }

-- the page by what is kept is the page of the journal
pub page-stands : (fold : FoldFields) (armed : Option Leap) (fit : List Source) (settings : SettingsFields) (journal : List Entry) → StandsForJournal fold settings journal → armed ≡ armed_of journal → fit ≡ fit_feeds fold.leaps.cut fold.leaps.latest fold.feeds
    → page_by (inputs_by fold armed) fit ≡ page_of settings journal
unfolding page_of
page-stands fold armed fit settings journal h armed_is fit_is =
    ap (λ (inputs : PageInputs). page_by inputs fit) (inputs-stand fold armed settings journal h armed_is)
    ∙ ap (page_by (inputs_of settings journal)) (fit_is ∙ fit-feeds fold settings journal h)
