-- That a pass takes in another keeps the rule.
use Rattle.std.proofs.Common.{◌≡◌, ◌≢◌, ℕ, suc, ◌||◌, Bool, true, false, List, [], ◌∷◌, ◌++◌, length, set, if◌then◌else◌, refl, sym, ap, ◌∙◌, subst, arith, le_refl}
use Rattle.std.specs.Prelude.{All}
use Rattle.std.proofs.lemmas.List.Elements.{All-nil, All-cons, All-append}
use mathlib.Core.Logic.{dite}
use mathlib.Core.Option.{some, some-injective}
use native.Mathlib.Decide.{ℕ_discrete}
use lib.ListN.{get_elem?}
use Rattle.atomic_table.proofs.Lists.{set_here, set_else}
use Rattle.atomic_table.specs.Table.{Joins}
use Rattle.journal_entry.specs.declared.entry.Entry.{Entry}
use Rattle.page_cell.specs.Claims.{IsReading, IsTally}
use Rattle.page_cell.specs.Rule.{Fits, HasBank, HoldsBaton, Kept, roll, Stands}
use Rattle.page_cell.specs.Views.{both, nobody}
use Rattle.page_cell.specs.declared.view.Claim.{Claim}
use Rattle.page_cell.specs.declared.view.View.{View}
use Rattle.page_cell.proofs.Places.{in_range, on_turn, redirect, redirect_hit, redirect_miss}
use Rattle.system_fold.specs.Settings.{SettingsFields}
use Rattle.page_cell.proofs.Turns.{moved_claims, off, quiet, shift}

either_settings : (b : Bool) (k m s : SettingsFields) → k ≡ s → m ≡ s → (if b then m else k) ≡ s
either_settings true k m s p q = q
either_settings false k m s p q = p

-- the baton's part of a pass that takes in another
both_baton : (P : List Entry → ℕ → Type 0) (a b : Bool) (l m : List Entry) (g k : ℕ) → (a || b) ≡ true → (a ≡ true → P l g) → (b ≡ true → P m k) → P (if b then m else l) (if b then k else g)
both_baton P a true l m g k e f h = h refl
both_baton P true false l m g k e f h = f refl
both_baton P false false l m g k e f h = absurd (off e)

or_right : (a : Bool) → (a || true) ≡ true
or_right true = refl
or_right false = refl

pub joins : (s : SettingsFields) (by : ℕ) (v : View) (other : ℕ) (w : View) → v.spent ≡ false → w.spent ≡ false → v.watch.trying ≡ false → Joins (Kept s) by v other w (both v w) nobody
joins s by v other w live live_other still' st o at apart there =
    let x = st.words in
    let views = st.views in
    let j = both v w in
    let at_other : get_elem? views other ≡ some w = sym (set_else views by other j apart) ∙ there in
    let f = o.fits by v at in
    let g = o.fits other w at_other in
    let n : ℕ = length o.log in
    let home' : ℕ → ℕ = λ m. redirect (suc other) 0 (o.home m) in
    let seat' : ℕ = redirect other by o.seat in
    let past : (m : ℕ) → o.home m ≡ 0 → home' m ≡ 0 = λ m is. redirect_miss (suc other) 0 (o.home m) (λ q. let z : 0 ≡ suc other = sym is ∙ q in omega arith) ∙ is in
    let stays : (k : ℕ) → k ≢ other → (m : ℕ) → o.home m ≡ suc k → home' m ≡ suc k = λ k ne m is. redirect_miss (suc other) 0 (o.home m) (λ q. ne (let z : suc k ≡ suc other = sym is ∙ q in omega arith)) ∙ is in
    let sits : (k : ℕ) → k ≢ other → k ≡ o.seat → k ≡ seat' = λ k ne here. here ∙ sym (redirect_miss other by o.seat (λ q. ne (here ∙ q))) in
    let P : List Entry → ℕ → Type 0 = λ l m. (by ≡ seat') × (l ≡ o.log) × (m ≡ o.given) × HasBank x (suc n) [] in
    let none_stored : HasBank x (suc n) [] = λ i lt ten. absurd (omega arith) in
    let moved : (cs : List Claim) (place place' : ℕ) → ((m : ℕ) → o.home m ≡ place → home' m ≡ place') → All (Stands o.log o.given o.home place) cs → All (Stands o.log o.given home' place') cs = λ cs place place' to all. moved_claims o.log o.given o.given o.home home' place place' (le_refl o.given) (λ m _ is. to m is) cs all in
    let a = f.seen in
    let b = g.seen in
    let tally : IsTally n (w.watch.torn, w.watch.greatest) = (let t = g.watch.torn in omega arith, g.watch.most) in
    let fit : Fits s x (roll o.log o.given home' seat') by j = record {
      keyed = (λ _. either_settings w.baton v.settings w.settings s (f.keyed live) (g.keyed live_other));
      baton = (λ q. both_baton P v.baton w.baton v.list w.list v.given w.given q (λ e. let b = f.baton e in (sits by (λ z. apart (sym z)) b.0, b.1, b.2, none_stored)) (λ e. let b = g.baton e in (sym (redirect_hit other by o.seat (sym b.0)), b.1, b.2, none_stored)));
      seen = omega arith;
      feeds = moved v.feeds (suc by) (suc by) (stays by (λ z. apart (sym z))) f.feeds;
      gathered = All-append (Stands o.log o.given home' 0) v.gathered (w.feeds ++ w.gathered) (moved v.gathered 0 0 past f.gathered) (All-append (Stands o.log o.given home' 0) w.feeds w.gathered (moved w.feeds (suc other) 0 (λ m is. redirect_hit (suc other) 0 (o.home m) is) g.feeds) (moved w.gathered 0 0 past g.gathered));
      readings = All-append (IsReading s o.log) v.readings w.readings f.readings g.readings;
      watch = record { most = f.watch.most; torn = f.watch.torn; trying = (λ q. absurd (off (sym still' ∙ q))) };
      tallies = All-append (IsTally n) v.tallies ((w.watch.torn, w.watch.greatest) ∷ w.tallies) f.tallies (All-cons (IsTally n) (w.watch.torn, w.watch.greatest) w.tallies tally g.tallies);
    } in
    let none : Fits s x (roll o.log o.given home' seat') other nobody = record { keyed = (λ q. absurd (off (sym q))); baton = (λ q. absurd (off q)); seen = omega arith; feeds = All-nil _; gathered = All-nil _; readings = All-nil _; watch = quiet x n 0; tallies = All-nil _ } in
    record {
      log = o.log;
      given = o.given;
      home = home';
      seat = seat';
      width = o.width;
      count = o.count;
      page = o.page;
      reading = o.reading;
      bank = o.bank;
      counted = o.counted;
      numbered = o.numbered;
      holder = holder views o.seat by other v w at apart at_other o.holder;
      fits = on_turn (λ k u. Fits s x (roll o.log o.given home' seat') k u) (set views by j) other nobody
          (λ k u ne q. on_turn (λ k u. k ≢ other → Fits s x (roll o.log o.given home' seat') k u) views by j
          (λ k u n e far. shift s x o.log o.given o.given o.home home' o.seat seat' k k u (le_refl o.given) (λ m _ is. stays k far m is) (λ m _ is. past m is) (λ _ here. (sits k far here, refl)) (o.fits k u e))
          (λ _. fit) k u q ne)
          none;
    }
  where
    holder : (views : List View) (seat by other : ℕ) (v w : View) → get_elem? views by ≡ some v → other ≢ by → get_elem? views other ≡ some w → HoldsBaton views seat → HoldsBaton (set (set views by (both v w)) other nobody) (redirect other by seat)
    holder views seat by other v w at apart there h =
        let by_here : get_elem? (set (set views by (both v w)) other nobody) by ≡ some (both v w) = set_else (set views by (both v w)) other by nobody (λ q. apart (sym q)) ∙ set_here views by (both v w) (in_range views by v at) in
        dite (ℕ_discrete seat other)
        (λ (e : seat ≡ other).
        let is : w ≡ h.0 = some-injective _ _ (sym there ∙ subst (λ m. get_elem? views m ≡ some h.0) e h.1) in
        let has : w.baton ≡ true = ap (λ u. u.baton) is ∙ h.2 in
        subst (HoldsBaton (set (set views by (both v w)) other nobody)) (sym (redirect_hit other by seat e)) (both v w, by_here, ap (λ (t : Bool). v.baton || t) has ∙ or_right v.baton))
        (λ (ne : seat ≢ other). subst (HoldsBaton (set (set views by (both v w)) other nobody)) (sym (redirect_miss other by seat ne)) (dite (ℕ_discrete seat by)
        (λ (e : seat ≡ by).
        let is : v ≡ h.0 = some-injective _ _ (sym at ∙ subst (λ m. get_elem? views m ≡ some h.0) e h.1) in
        let has : v.baton ≡ true = ap (λ u. u.baton) is ∙ h.2 in
        subst (HoldsBaton (set (set views by (both v w)) other nobody)) (sym e) (both v w, by_here, ap (λ (t : Bool). t || w.baton) has))
        (λ (far : seat ≢ by). (h.0, set_else (set views by (both v w)) other seat nobody ne ∙ set_else views by seat (both v w) far ∙ h.1, h.2))))
