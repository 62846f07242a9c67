-- What each step makes of the kinds of passes, and what a pass with the baton then knows.
use Rattle.std.proofs.Common.{◌≡◌, ℕ, ◌≤◌, ◌||◌, Bool, true, false, List, [], ◌∷◌, ◌++◌, map, length, if◌then◌else◌, refl, sym, ap, ◌∙◌, subst, arith}
use Rattle.std.specs.Prelude.{All}
use Rattle.std.proofs.lemmas.List.Elements.{All-nil, All-cons, All-head, All-tail}
use mathlib.Core.List.{IsPrefix}
use Rattle.journal_entry.specs.declared.entry.Entry.{Entry}
use Rattle.system_fold.specs.Settings.{SettingsFields}
use Rattle.page_cell.specs.declared.view.View.{View}
use Rattle.page_cell.specs.Views.{added, both, extended, with_stored}
use Rattle.page_cell.specs.Claims.{IsReading, IsTally, IsTrueOf}
use Rattle.page_cell.specs.Steps.{Holds}
use Rattle.page_cell.specs.Passes.{key_of, first_claim, claim_of, IsBaton, IsFeed, IsPublisher, IsReader}

pub or_right : (a : Bool) → (a || true) ≡ true
or_right true = refl
or_right false = refl

-- the settings and the list are the baton's
pub both_list : (v w : View) → w.baton ≡ true → (both v w).list ≡ w.list
both_list v w has = ap (λ (b : Bool). if b then w.list else v.list) has

pub both_settings : (v w : View) → w.baton ≡ true → (both v w).settings ≡ w.settings
both_settings v w has = ap (λ (b : Bool). if b then w.settings else v.settings) has

pub other_list : (v w : View) → w.baton ≡ false → (both v w).list ≡ v.list
other_list v w none = ap (λ (b : Bool). if b then w.list else v.list) none

pub other_settings : (v w : View) → w.baton ≡ false → (both v w).settings ≡ v.settings
other_settings v w none = ap (λ (b : Bool). if b then w.settings else v.settings) none

pub takes_baton : (feed n m : ℕ) (v w : View) → IsFeed feed n v → IsBaton m w → IsPublisher feed m (both v w)
takes_baton feed n m v w f b = record {
  rests = record { live = f.rests.live; trying = f.rests.trying; fails = f.rests.fails; finished = f.rests.finished };
  baton = ap (λ (t : Bool). v.baton || t) b.baton ∙ or_right v.baton;
  feeds = f.feeds;
  number = f.number;
  length = b.length ∙ ap length (sym (both_list v w b.baton));
}

pub stored_is : (feed m : ℕ) (xs : List ℕ) (v : View) → IsPublisher feed m v → IsPublisher feed m (with_stored xs v)
stored_is feed m xs v p = record { rests = record { live = p.rests.live; trying = p.rests.trying; fails = p.rests.fails; finished = p.rests.finished }; baton = p.baton; feeds = p.feeds; number = p.number; length = p.length }

pub adds_own : (feed m : ℕ) (e : Entry) (v : View) → IsPublisher feed m v → (added e v).feeds ≡ extended e (v.list ++ e ∷ []) (claim_of v) ∷ []
adds_own feed m e v p = ap (map (extended e (v.list ++ e ∷ []))) p.feeds

pub added_is : (feed m n : ℕ) (e : Entry) (v : View) → IsPublisher feed m v → n ≡ length (v.list ++ e ∷ []) → IsPublisher feed n (added e v)
added_is feed m n e v p len =
    let own = adds_own feed m e v p in
    record { rests = record { live = p.rests.live; trying = p.rests.trying; fails = p.rests.fails; finished = p.rests.finished }; baton = p.baton; feeds = own ∙ ap (λ cs. first_claim cs ∷ []) (sym own); number = p.number ∙ ap (λ cs. (first_claim cs).number) (sym own); length = len }

all_left : {X : Type 0} (P : X → Type 0) (xs ys : List X) → All P (xs ++ ys) → All P xs
all_left P [] ys all = All-nil P
all_left P (x ∷ xs) ys all = All-cons P x xs (All-head P x (xs ++ ys) all) (all_left P xs ys (All-tail P x (xs ++ ys) all))

all_right : {X : Type 0} (P : X → Type 0) (xs ys : List X) → All P (xs ++ ys) → All P ys
all_right P [] ys all = all
all_right P (x ∷ xs) ys all = all_right P xs ys (All-tail P x (xs ++ ys) all)

pub takes_in : (m : ℕ) (v w : View) → IsBaton m v → w.baton ≡ false → IsBaton m (both v w)
takes_in m v w b none = record {
  rests = record { live = b.rests.live; trying = b.rests.trying; fails = b.rests.fails; finished = b.rests.finished };
  baton = ap (λ (t : Bool). t || w.baton) b.baton;
  feeds = b.feeds;
  length = b.length ∙ ap length (sym (other_list v w none));
}

pub reported_of_feed : (feed n : ℕ) (v w : View) → IsFeed feed n w → Holds (both v w) → IsTrueOf v.list (claim_of w)
reported_of_feed feed n v w f h =
    let P = IsTrueOf (both v w).list in
    let feeds : All P w.feeds = all_left P w.feeds w.gathered (all_right P v.gathered (w.feeds ++ w.gathered) h.gathered) in
    subst (λ l. IsTrueOf l (claim_of w)) (other_list v w f.baton) (All-head P (claim_of w) [] (subst (λ cs. All P cs) f.feeds feeds))

pub reported_of_reader : (m n : ℕ) (v w : View) → IsBaton m v → IsReader n w → Holds (both v w) → All (IsReading (key_of v) v.list) w.readings
reported_of_reader m n v w b r h =
    subst (λ (s : SettingsFields). All (IsReading s v.list) w.readings) (other_settings v w r.baton)
    (subst (λ (l : List Entry). All (IsReading (both v w).settings l) w.readings) (other_list v w r.baton) (all_right (IsReading (both v w).settings (both v w).list) v.readings w.readings h.readings))

pub seen_of_reader : (n : ℕ) (v w : View) → IsReader n w → Holds (both v w) → w.seen ≤ length v.list
seen_of_reader n v w r h = let e : length (both v w).list ≡ length v.list = ap length (other_list v w r.baton) in let s = h.seen in omega arith

pub reported_before : (feed n m : ℕ) (v w : View) → IsFeed feed n v → IsBaton m w → Holds (both v w) → IsPrefix (claim_of v).seen w.list
reported_before feed n m v w f b h =
    let P = IsTrueOf (both v w).list in
    subst (λ l. IsPrefix (claim_of v).seen l) (both_list v w b.baton) (All-head P (claim_of v) [] (subst (λ cs. All P cs) f.feeds h.feeds)).seen

pub reported_tally : (n : ℕ) (v w : View) → IsReader n w → Holds (both v w) → IsTally (length v.list) (w.watch.torn, w.watch.greatest)
reported_tally n v w r h =
    let P = IsTally (length (both v w).list) in
    subst (λ (l : List Entry). IsTally (length l) (w.watch.torn, w.watch.greatest)) (other_list v w r.baton) (All-head P (w.watch.torn, w.watch.greatest) w.tallies (all_right P v.tallies ((w.watch.torn, w.watch.greatest) ∷ w.tallies) h.tallies))
