-- What one entry more does to the words, the moments and the cut of a journal.
use Rattle.std.proofs.Common.{◌≡◌, ◌≢◌, ℕ, zero, suc, ◌+◌, ◌<◌, max, ◌≤◌, Bool, true, false, List, [], ◌∷◌, ◌++◌, refl, sym, ap, ◌∙◌, arith, set, subst, length, get_or, take}
use Rattle.std.specs.Prelude.{Option, None, Some, map, filter, ◌==◌, cond, nat_lt}
use Rattle.std.specs.List.{filter_map, cons_option, last_or, range_with_len}
use Rattle.std.proofs.lemmas.List.{map-append, append-nil, take_more}
use Rattle.std.proofs.lemmas.List.Elements.{filter-append, filter_map-append}
use Rattle.std.proofs.lemmas.List.Sums.{fold_push}
use Rattle.std.proofs.lemmas.Bool.Decides.{nat_tests}
use Rattle.tick_units.specs.Orders.{greatest, better, best}
use Rattle.system_fold.specs.Journal.{now_of, prefixes}
use Rattle.system_fold.specs.Leaps.{word_in, verdict_in, word_of, words_of, last_verdict, leap_of, passed_by, passed_among, ahead_of, armed_among, passed, cut_of}
use Rattle.system_fold.specs.KeptFold.{KeepsLeaps, best_with, or_older, words_with, StepsLeaps}
use Rattle.journal_entry.specs.declared.entry.Entry.{Entry}
use Rattle.system_fold.specs.declared.leaps.Leaps.{Leaps}
use Rattle.system_fold.specs.declared.leaps.Word.{Word}
use Rattle.system_fold.specs.declared.leaps.Verdict.{Verdict}

pub greatest-push : (ns : List ℕ) (n : ℕ) → greatest (ns ++ n ∷ []) ≡ max (greatest ns) n
greatest-push ns n = fold_push max 0 ns n

pub now-push : (journal : List Entry) (e : Entry) → now_of (journal ++ e ∷ []) ≡ max (now_of journal) e.at
now-push journal e = ap greatest (map-append (λ (x : Entry). x.at) journal (e ∷ [])) ∙ greatest-push (map (λ (x : Entry). x.at) journal) e.at

last_or-append : {A : Type 0} (o : Option A) (xs ys : List A) → last_or o (xs ++ ys) ≡ last_or (last_or o xs) ys
last_or-append o [] ys = refl
last_or-append o (x ∷ xs) ys = last_or-append (Some x) xs ys

-- the last of what each gives, with one more
last-push : {A B : Type 0} (f : A → Option B) (xs : List A) (x : A) → last_or None (filter_map f (xs ++ x ∷ [])) ≡ or_older (f x) (last_or None (filter_map f xs))
last-push {A} {B} f xs x = ap (last_or {A = B} None) (filter_map-append f xs (x ∷ [])) ∙ last_or-append {A = B} None (filter_map f xs) (filter_map f (x ∷ [])) ∙ newer (f x) (last_or None (filter_map f xs))
  where
    newer : {C : Type 0} (y : Option C) (o : Option C) → last_or o (cons_option y []) ≡ or_older y o
    newer None o = refl
    newer (Some z) o = refl

pub verdict-push : (journal : List Entry) (e : Entry) → last_verdict (journal ++ e ∷ []) ≡ or_older (verdict_in e.at e.what) (last_verdict journal)
verdict-push journal e = last-push (λ (x : Entry). verdict_in x.at x.what) journal e

pub prefixes-push : {A : Type 0} (xs : List A) (x : A) → prefixes (xs ++ x ∷ []) ≡ prefixes xs ++ (xs ++ x ∷ []) ∷ []
prefixes-push [] x = refl
prefixes-push {A} (y ∷ ys) x = ap (λ (starts : List (List A)). [] ∷ starts) (ap (map (λ (prefix : List A). y ∷ prefix)) (prefixes-push ys x) ∙ map-append (λ (prefix : List A). y ∷ prefix) (prefixes ys) ((ys ++ x ∷ []) ∷ []))

pub cut-push : (journal : List Entry) (e : Entry) → cut_of (journal ++ e ∷ []) ≡ max (cut_of journal) (passed (journal ++ e ∷ []))
cut-push journal e =
    ap (λ (starts : List (List Entry)). greatest (map passed starts)) (prefixes-push journal e)
    ∙ ap greatest (map-append passed (prefixes journal) ((journal ++ e ∷ []) ∷ []))
    ∙ greatest-push (map passed (prefixes journal)) (passed (journal ++ e ∷ []))

-- the word of a feed: the newest entry's, where it is of this feed
pub word-push : (journal : List Entry) (e : Entry) (feed : ℕ) → word_of (journal ++ e ∷ []) feed ≡ cond (e.feed == feed) (or_older (word_in e.at e.what) (word_of journal feed)) (word_of journal feed)
word-push journal e feed =
    ap (λ (xs : List Entry). last_or None (filter_map (λ (x : Entry). word_in x.at x.what) xs)) (filter-append (λ (x : Entry). x.feed == feed) journal (e ∷ []))
    ∙ by_test (e.feed == feed) (filter (λ (x : Entry). x.feed == feed) journal)
  where
    by_test : (b : Bool) (xs : List Entry) → last_or None (filter_map (λ (x : Entry). word_in x.at x.what) (xs ++ cond b (e ∷ []) [])) ≡ cond b (or_older (word_in e.at e.what) (last_or None (filter_map (λ (x : Entry). word_in x.at x.what) xs))) (last_or None (filter_map (λ (x : Entry). word_in x.at x.what) xs))
    by_test true xs = last-push (λ (x : Entry). word_in x.at x.what) xs e
    by_test false xs = ap (λ (ys : List Entry). last_or None (filter_map (λ (x : Entry). word_in x.at x.what) ys)) (append-nil xs)

-- two functions that agree from a place on
same_from : {X : Type 0} (f g : ℕ → X) (a n : ℕ) → ((k : ℕ) → a ≤ k → g k ≡ f k) → map g (range_with_len a n) ≡ map f (range_with_len a n)
same_from f g a zero h = refl
same_from {X} f g a (suc n) h = cons_same (h a (omega arith)) (same_from f g (a + 1) n (λ k below. h k (omega arith)))
  where
    cons_same : {x y : X} {xs ys : List X} → x ≡ y → xs ≡ ys → x ∷ xs ≡ y ∷ ys
    cons_same p q = cc

-- two functions that differ at one place alone
differs_at : {X : Type 0} (f g : ℕ → X) (a n i : ℕ) (y : X) → i < n → g (a + i) ≡ y → ((k : ℕ) → k ≢ a + i → g k ≡ f k) → map g (range_with_len a n) ≡ set (map f (range_with_len a n)) i y
differs_at f g a zero i y below here others = absurd (omega arith)
differs_at {X} f g a (suc n) zero y below here others = cons_same (subst (λ (k : ℕ). g k ≡ y) (omega arith) here) (same_from f g (a + 1) n (λ k above. others k (λ same. absurd (omega arith))))
  where
    cons_same : {x y : X} {xs ys : List X} → x ≡ y → xs ≡ ys → x ∷ xs ≡ y ∷ ys
    cons_same p q = cc
differs_at {X} f g a (suc n) (suc i) y below here others =
    cons_same (others a (λ same. absurd (omega arith))) (differs_at f g (a + 1) n i y (omega arith) (subst (λ (k : ℕ). g k ≡ y) (omega arith) here) (λ k other. others k (λ same. other (omega arith))))
  where
    cons_same : {x y : X} {xs ys : List X} → x ≡ y → xs ≡ ys → x ∷ xs ≡ y ∷ ys
    cons_same p q = cc

-- the words of all feeds
pub words-push : (journal : List Entry) (e : Entry) → e.feed < 16 → words_of (journal ++ e ∷ []) ≡ words_with (words_of journal) e.feed (word_in e.at e.what)
words-push journal e below = by_word (word_in e.at e.what) refl
  where
    -- the word of another feed stays
    other : (k : ℕ) → k ≢ 0 + e.feed → word_of (journal ++ e ∷ []) k ≡ word_of journal k
    other k apart = word-push journal e k ∙ ap (λ (b : Bool). cond b (or_older (word_in e.at e.what) (word_of journal k)) (word_of journal k)) not_k
      where
        not_k : (e.feed == k) ≡ false
        not_k = grind (arith, nat_tests)

    own : word_of (journal ++ e ∷ []) (0 + e.feed) ≡ or_older (word_in e.at e.what) (word_of journal (0 + e.feed))
    own = word-push journal e (0 + e.feed) ∙ ap (λ (b : Bool). cond b (or_older (word_in e.at e.what) (word_of journal (0 + e.feed))) (word_of journal (0 + e.feed))) itself
      where
        itself : (e.feed == 0 + e.feed) ≡ true
        itself = grind (arith, nat_tests)

    by_word : (w : Option Word) → word_in e.at e.what ≡ w → words_of (journal ++ e ∷ []) ≡ words_with (words_of journal) e.feed w
    by_word None is = same_from (word_of journal) (word_of (journal ++ e ∷ [])) 0 16 (λ k _. unchanged k)
      where
        unchanged : (k : ℕ) → word_of (journal ++ e ∷ []) k ≡ word_of journal k
        unchanged k = word-push journal e k ∙ by_test (e.feed == k)
          where
            by_test : (b : Bool) → cond b (or_older (word_in e.at e.what) (word_of journal k)) (word_of journal k) ≡ word_of journal k
            by_test true = ap (λ (w : Option Word). or_older w (word_of journal k)) is
            by_test false = refl
    by_word (Some word) is = differs_at (word_of journal) (word_of (journal ++ e ∷ [])) 0 16 e.feed (Some word) below (own ∙ ap (λ (w : Option Word). or_older w (word_of journal (0 + e.feed))) is) other

-- what is kept of a journal is kept of one with an entry more
pub stands_push : (old new : Leaps) (e : Entry) (journal : List Entry) → e.feed < 16 → StepsLeaps old new e → KeepsLeaps old journal → KeepsLeaps new (journal ++ e ∷ [])
stands_push old new e journal below steps stands = record { now = now; cut = cut; verdict = verdict; words = words }
  where
    now : new.latest ≡ now_of (journal ++ e ∷ [])
    now = steps.now ∙ ap (λ (n : ℕ). max n e.at) stands.now ∙ sym (now-push journal e)

    verdict : new.verdict ≡ last_verdict (journal ++ e ∷ [])
    verdict = steps.verdict ∙ ap (or_older (verdict_in e.at e.what)) stands.verdict ∙ sym (verdict-push journal e)

    words : new.words ≡ words_of (journal ++ e ∷ [])
    words = steps.words ∙ ap (λ (ws : List (Option Word)). words_with ws e.feed (word_in e.at e.what)) stands.words ∙ sym (words-push journal e below)

    cut : new.cut ≡ cut_of (journal ++ e ∷ [])
    cut = steps.cut
        ∙ ap (λ (n : ℕ). max old.cut (passed_among n new.verdict new.words)) now
        ∙ ap (λ v. max old.cut (passed_among (now_of (journal ++ e ∷ [])) v new.words)) verdict
        ∙ ap (λ (ws : List (Option Word)). max old.cut (passed_among (now_of (journal ++ e ∷ [])) (last_verdict (journal ++ e ∷ [])) ws)) words
        ∙ ap (λ (n : ℕ). max n (passed (journal ++ e ∷ []))) stands.cut
        ∙ sym (cut-push journal e)

-- one word more among those that were looked at
pub passed-more : (now : ℕ) (last : Option Verdict) (words : List (Option Word)) (i : ℕ) (word : Option Word) → i < length words → get_or words i word ≡ word → passed_among now last (take (i + 1) words) ≡ max (passed_among now last (take i words)) (passed_by now (leap_of last word))
passed-more now last words i word below here =
    ap (λ (ws : List (Option Word)). passed_among now last ws) (take_more words i word below)
    ∙ ap greatest (map-append (λ (w : Option Word). passed_by now (leap_of last w)) (take i words) (get_or words i word ∷ []))
    ∙ greatest-push (map (λ (w : Option Word). passed_by now (leap_of last w)) (take i words)) (passed_by now (leap_of last (get_or words i word)))
    ∙ ap (λ (w : Option Word). max (passed_among now last (take i words)) (passed_by now (leap_of last w))) here

-- the best of what each gives, after one more
pub best-more : {A B : Type 0} (beats : B → B → Bool) (g : A → Option B) (xs : List A) (i : ℕ) (d : A) → i < length xs → best beats (filter_map g (take (i + 1) xs)) ≡ best_with beats (best beats (filter_map g (take i xs))) (g (get_or xs i d))
best-more {A} {B} beats g xs i d below =
    ap (λ (ys : List A). best beats (filter_map g ys)) (take_more xs i d below)
    ∙ ap (best beats) (filter_map-append g (take i xs) (get_or xs i d ∷ []))
    ∙ by_found (g (get_or xs i d)) (filter_map g (take i xs))
  where
    by_found : (y : Option B) (prefix : List B) → best beats (prefix ++ cons_option y []) ≡ best_with beats (best beats prefix) y
    by_found None prefix = ap (best beats) (append-nil prefix)
    by_found (Some y) prefix = fold_push (better beats) None prefix y

pub armed-more : (now : ℕ) (last : Option Verdict) (words : List (Option Word)) (i : ℕ) (d : Option Word) → i < length words → armed_among now last (take (i + 1) words) ≡ best_with (λ y x. nat_lt y.moment x.moment) (armed_among now last (take i words)) (ahead_of now (leap_of last (get_or words i d)))
armed-more now last words i d below = best-more (λ y x. nat_lt y.moment x.moment) (λ word. ahead_of now (leap_of last word)) words i d below
