-- The ways to cut a pass in two keep the rule.
use Rattle.std.proofs.Common.{◌≡◌, ◌≢◌, ℕ, suc, ◌+◌, ◌<◌, ◌≤◌, Bool, true, false, List, [], ◌∷◌, ◌++◌, length, set, if◌then◌else◌, refl, sym, ap, ◌∙◌, subst, arith, le_refl, length-append, eqb, eq-eqb, ne_eqb}
use Rattle.std.specs.Prelude.{All}
use Rattle.std.proofs.lemmas.List.Elements.{All-weaker, All-map, All-nil, All-cons, All-head, All-tail}
use mathlib.Core.List.{IsPrefix}
use mathlib.Core.Logic.{dite}
use mathlib.Core.Option.{some, some-injective}
use native.Mathlib.Decide.{ℕ_discrete}
use lib.ListN.{get_elem?}
use Rattle.atomic_table.proofs.Lists.{at_longer, at_last, set_else}
use Rattle.atomic_table.specs.Table.{Splits}
use Rattle.journal_entry.specs.declared.entry.Entry.{Entry}
use Rattle.page_cell.specs.Claims.{of_feed}
use Rattle.page_cell.specs.Rule.{Fits, HoldsBaton, Kept, Opened, roll, Stands}
use Rattle.page_cell.specs.Views.{baton_of, emptied, new_claim, new_feed, one_given, receipt_of, seen_by, shown, without_baton}
use Rattle.page_cell.specs.declared.view.Claim.{Claim}
use Rattle.page_cell.specs.declared.view.View.{View}
use Rattle.page_cell.proofs.Places.{length_of_set, on_fork, prefix_self, redirect, redirect_hit, redirect_miss}
use Rattle.system_fold.specs.Settings.{SettingsFields}
use Rattle.page_cell.proofs.Turns.{held_set, moved_claims, off, quiet, shift}

-- a pass is cut in two; the places of its claims and the baton may move
pub forked : (s : SettingsFields) (x : List ℕ) (views : List View) (by : ℕ) (left right : View) (o : Opened s x views) (given' : ℕ) (home' : ℕ → ℕ) (seat' : ℕ) → o.given ≤ given' → given' ≤ length s.sources
    → ((k : ℕ) (u : View) → k ≢ by → k < length views → Fits s x (roll o.log o.given o.home o.seat) k u → Fits s x (roll o.log given' home' seat') k u)
    → Fits s x (roll o.log given' home' seat') by left → Fits s x (roll o.log given' home' seat') (length views) right → HoldsBaton (set views by left ++ right ∷ []) seat'
    → Opened s x (set views by left ++ right ∷ [])
forked s x views by left right o given' home' seat' le most others fit_left fit_right holder = record {
  log = o.log;
  given = given';
  home = home';
  seat = seat';
  width = o.width;
  count = o.count;
  page = o.page;
  reading = o.reading;
  bank = o.bank;
  counted = most;
  numbered = All-weaker (λ (e : Entry). e.feed < o.given) (λ (e : Entry). e.feed < given') (λ e h. (omega arith)) o.log o.numbered;
  holder = holder;
  fits = on_fork (λ k u. Fits s x (roll o.log given' home' seat') k u) views by left right (λ k u n lt e. others k u n lt (o.fits k u e)) fit_left fit_right;
}

held_prefix : (views : List View) (seat by : ℕ) (v left right : View) → get_elem? views by ≡ some v → left.baton ≡ v.baton → HoldsBaton views seat → HoldsBaton (set views by left ++ right ∷ []) seat
held_prefix views seat by v left right at same h =
    let t = held_set views seat by v left at same h in (t.0, at_longer (set views by left) (right ∷ []) seat t.0 t.1, t.2)

held_back : (views : List View) (by : ℕ) (left right : View) → right.baton ≡ true → HoldsBaton (set views by left ++ right ∷ []) (length views)
held_back views by left right has = (right, at_last (set views by left) right (length views) (length_of_set views by left), has)

-- what the rule says of a pass with the settings alone
blank : (s : SettingsFields) (x : List ℕ) (log : List Entry) (given : ℕ) (home : ℕ → ℕ) (seat by : ℕ) (v : View) → v.settings ≡ s → Fits s x (roll log given home seat) by (emptied v)
blank s x log given home seat by v keyed = record { keyed = (λ _. keyed); baton = (λ q. absurd (off q)); seen = omega arith; feeds = All-nil _; gathered = All-nil _; readings = All-nil _; watch = quiet x (length log) 0; tallies = All-nil _ }

pub gives_reader : (s : SettingsFields) (by : ℕ) (v : View) → v.spent ≡ false → Splits (Kept s) by v v (emptied v)
gives_reader s by v live st o at =
    let f = o.fits by v at in
    forked s st.words st.views by v (emptied v) o o.given o.home o.seat (le_refl o.given) o.counted (λ k u _ _ g. g) f
    (blank s st.words o.log o.given o.home o.seat (length st.views) v (f.keyed live))
    (held_prefix st.views o.seat by v v (emptied v) at refl o.holder)

seen_within : (log : List Entry) (given : ℕ) (home : ℕ → ℕ) (place : ℕ) (cs : List Claim) → All (Stands log given home place) cs → seen_by cs ≤ length log
seen_within log given home place [] all = omega arith
seen_within log given home place (c ∷ cs) all =
    let p = (All-head (Stands log given home place) c cs all).holds.seen in
    let e = ap length p.1 in omega (arith, length-append c.seen p.0)

pub gives_receipt : (s : SettingsFields) (by : ℕ) (v : View) → v.spent ≡ false → Splits (Kept s) by v v (receipt_of v)
gives_receipt s by v live st o at =
    let f = o.fits by v at in
    forked s st.words st.views by v (receipt_of v) o o.given o.home o.seat (le_refl o.given) o.counted (λ k u _ _ g. g) f
    (record { keyed = (λ _. f.keyed live); baton = (λ q. absurd (off q)); seen = seen_within o.log o.given o.home (suc by) v.feeds f.feeds; feeds = All-nil _; gathered = All-nil _; readings = All-nil _; watch = quiet st.words (length o.log) (seen_by v.feeds); tallies = All-nil _ })
    (held_prefix st.views o.seat by v v (receipt_of v) at refl o.holder)

none_of : (n : ℕ) (log : List Entry) → All (λ (e : Entry). e.feed < n) log → [] ≡ of_feed n log
none_of n [] all = refl
none_of n (e ∷ es) all =
    let first : e.feed < n = All-head (λ (e : Entry). e.feed < n) e es all in
    let ne : e.feed ≢ n = λ q. (omega arith) in
    none_of n es (All-tail (λ (e : Entry). e.feed < n) e es all) ∙ sym (ap (λ (b : Bool). if b then e ∷ of_feed n es else of_feed n es) (ne_eqb e.feed n ne))

pub gives_feed : (s : SettingsFields) (by : ℕ) (v : View) → v.spent ≡ false → v.baton ≡ true → v.given < length s.sources → Splits (Kept s) by v (one_given v) (new_feed v)
gives_feed s by v live has room st o at =
    let x = st.words in
    let views = st.views in
    let f = o.fits by v at in
    let keyed = f.keyed live in
    let b = f.baton has in
    let n : ℕ = length views in
    let home' : ℕ → ℕ = λ m. if eqb m o.given then suc n else o.home m in
    let kept : (m : ℕ) → m < o.given → home' m ≡ o.home m = λ m lt. let ne : m ≢ o.given = λ q. (omega arith) in ap (λ (t : Bool). if t then suc n else o.home m) (ne_eqb m o.given ne) in
    let g' : ℕ = o.given + 1 in
    let claim : Stands o.log g' home' (suc n) (new_claim v.given) = record {
      numbered = (let q = b.2 in omega arith);
      placed = ap (λ (t : Bool). if t then suc n else o.home v.given) (eq-eqb v.given o.given b.2);
      holds = record { own = none_of v.given o.log (subst (λ m. All (λ (e : Entry). e.feed < m) o.log) (sym b.2) o.numbered); own_seen = refl; seen = (o.log, refl) };
    } in
    forked s x views by (one_given v) (new_feed v) o g' home' o.seat (omega arith) (let q = b.2 in omega arith)
    (λ k u apart lt t. shift s x o.log o.given g' o.home home' o.seat o.seat k k u (omega arith) (λ m less is. kept m less ∙ is) (λ m less is. kept m less ∙ is) (λ _ here. absurd (apart (here ∙ sym b.0))) t)
    (record { keyed = f.keyed; baton = (λ _. (b.0, b.1, ap (λ (m : ℕ). m + 1) b.2, b.3)); seen = f.seen; feeds = moved_claims o.log o.given g' o.home home' (suc by) (suc by) (omega arith) (λ m less is. kept m less ∙ is) v.feeds f.feeds; gathered = moved_claims o.log o.given g' o.home home' 0 0 (omega arith) (λ m less is. kept m less ∙ is) v.gathered f.gathered; readings = f.readings; watch = f.watch; tallies = f.tallies })
    (record { keyed = (λ _. keyed); baton = (λ q. absurd (off q)); seen = omega arith; feeds = All-cons (Stands o.log g' home' (suc n)) (new_claim v.given) [] claim (All-nil _); gathered = All-nil _; readings = All-nil _; watch = quiet x (length o.log) 0; tallies = All-nil _ })
    (held_prefix views o.seat by v (one_given v) (new_feed v) at refl o.holder)

pub hands_back : (s : SettingsFields) (by : ℕ) (v : View) → v.spent ≡ false → v.baton ≡ true → Splits (Kept s) by v (without_baton v) (baton_of v)
hands_back s by v live has st o at =
    let x = st.words in
    let views = st.views in
    let f = o.fits by v at in
    let b = f.baton has in
    let n : ℕ = length views in
    let says = Stands o.log o.given o.home (suc by) in
    let seen_all : (d : Claim) → says d → says (shown v.list d) = λ d t. record { numbered = t.numbered; placed = t.placed; holds = record { own = t.holds.own; own_seen = subst (λ l. d.own ≡ of_feed d.number l) (sym b.1) t.holds.own; seen = subst (λ l. IsPrefix l o.log) (sym b.1) (prefix_self o.log) } } in
    forked s x views by (without_baton v) (baton_of v) o o.given o.home n (le_refl o.given) o.counted
    (λ k u apart lt t. shift s x o.log o.given o.given o.home o.home o.seat n k k u (le_refl o.given) (λ m less is. is) (λ m less is. is) (λ _ here. absurd (apart (here ∙ sym b.0))) t)
    (record { keyed = (λ _. f.keyed live); baton = (λ q. absurd (off q)); seen = omega arith; feeds = All-map says (shown v.list) v.feeds (All-weaker says (λ d. says (shown v.list d)) seen_all v.feeds f.feeds); gathered = All-nil _; readings = All-nil _; watch = quiet x (length o.log) 0; tallies = All-nil _ })
    (record { keyed = f.keyed; baton = (λ _. (refl, b.1, b.2, b.3)); seen = f.seen; feeds = All-nil _; gathered = f.gathered; readings = f.readings; watch = f.watch; tallies = f.tallies })
    (held_back views by (without_baton v) (baton_of v) has)

pub cuts : (s : SettingsFields) (by : ℕ) (v : View) → v.spent ≡ false → Splits (Kept s) by v (emptied v) v
cuts s by v live st o at =
    let x = st.words in
    let views = st.views in
    let f = o.fits by v at in
    let n : ℕ = length views in
    let home' : ℕ → ℕ = λ m. redirect (suc by) (suc n) (o.home m) in
    let seat' : ℕ = redirect by n o.seat in
    let past : (m : ℕ) → o.home m ≡ 0 → home' m ≡ 0 = λ m is. redirect_miss (suc by) (suc n) (o.home m) (λ q. let z : 0 ≡ suc by = sym is ∙ q in omega arith) ∙ is in
    forked s x views by (emptied v) v o o.given home' seat' (le_refl o.given) o.counted
    (λ k u apart lt t. shift s x o.log o.given o.given o.home home' o.seat seat' k k u (le_refl o.given)
    (λ m less is. redirect_miss (suc by) (suc n) (o.home m) (λ q. apart (let z : suc k ≡ suc by = sym is ∙ q in omega arith)) ∙ is)
    (λ m less is. past m is)
    (λ _ here. (here ∙ sym (redirect_miss by n o.seat (λ q. apart (here ∙ q))), refl)) t)
    (blank s x o.log o.given home' seat' by v (f.keyed live))
    (shift s x o.log o.given o.given o.home home' o.seat seat' by n v (le_refl o.given) (λ m less is. redirect_hit (suc by) (suc n) (o.home m) is) (λ m less is. past m is) (λ _ here. (sym (redirect_hit by n o.seat (sym here)), refl)) f)
    (holder views o.seat by v at o.holder)
  where
    holder : (views : List View) (seat by : ℕ) (v : View) → get_elem? views by ≡ some v → HoldsBaton views seat → HoldsBaton (set views by (emptied v) ++ v ∷ []) (redirect by (length views) seat)
    holder views seat by v at h = dite (ℕ_discrete seat by)
        (λ (e : seat ≡ by).
        let there : get_elem? views by ≡ some h.0 = subst (λ m. get_elem? views m ≡ some h.0) e h.1 in
        let is : v ≡ h.0 = some-injective _ _ (sym at ∙ there) in
        subst (HoldsBaton (set views by (emptied v) ++ v ∷ [])) (sym (redirect_hit by (length views) seat e)) (held_back views by (emptied v) v (ap (λ u. u.baton) is ∙ h.2)))
        (λ (ne : seat ≢ by). subst (HoldsBaton (set views by (emptied v) ++ v ∷ [])) (sym (redirect_miss by (length views) seat ne)) (h.0, at_longer (set views by (emptied v)) (v ∷ []) seat h.0 (set_else views by seat (emptied v) ne ∙ h.1), h.2))

-- the same, by the settings that the pass keeps
pub gives_feed_as : (s : SettingsFields) (by : ℕ) (v : View) → v.spent ≡ false → v.baton ≡ true → v.given < length v.settings.sources → Splits (Kept s) by v (one_given v) (new_feed v)
gives_feed_as s by v live has room st o at = gives_feed s by v live has (subst (λ (k : SettingsFields). v.given < length k.sources) ((o.fits by v at).keyed live) room) st o at
