-- The kinds of store keep the rule.
use Rattle.std.proofs.Common.{◌≡◌, ◌≢◌, ℕ, suc, ◌<◌, true, false, List, [], ◌∷◌, ◌++◌, length, set, refl, sym, ap, ◌∙◌, subst, arith, length-append}
use Rattle.std.specs.Prelude.{All, slice_index_or}
use Rattle.std.proofs.lemmas.List.{get_or-set_same, get_or-set_other}
use Rattle.std.proofs.lemmas.List.Elements.{All-weaker, All-push, All-map, All-nil, All-cons, All-head, All-same}
use mathlib.Core.List.{IsPrefix}
use mathlib.Core.Option.{none, some}
use lib.ListN.{get_elem?}
use Rattle.atomic_table.specs.Table.{step, Allows}
use Rattle.clock_page.specs.Page.{AreWords}
use Rattle.journal_entry.specs.declared.entry.Entry.{Entry}
use Rattle.page_cell.specs.Claims.{IsReading, IsTally}
use Rattle.page_cell.specs.Rule.{bank_word, Fits, HasBank, IsWatch, Kept, Opened, roll, Stands}
use Rattle.page_cell.specs.Steps.{Publishes, Stores}
use Rattle.page_cell.specs.Views.{added, extended, stores}
use Rattle.page_cell.specs.declared.view.Claim.{Claim}
use Rattle.page_cell.specs.declared.view.View.{View}
use Rattle.page_cell.specs.declared.view.Watch.{Watch}
use Rattle.page_cell.proofs.Banks.{bank_counted, bank_kept, bank_stored, count_apart}
use Rattle.page_cell.proofs.Places.{length_of_set, of_other, of_same, on_turn, prefix_more, prefix_self, reading-longer, reading-whole}
use Rattle.system_fold.specs.Page.{page_of}
use Rattle.system_fold.specs.Settings.{SettingsFields}
use Rattle.page_cell.proofs.Turns.{held_set, store_step}

-- a word of the idle bank is stored: what other passes know stays
kept_watch : (ws : List ℕ) (n seen i x : ℕ) (l : Watch) → i < 10 → IsWatch ws n seen l → IsWatch (set ws (bank_word (suc n) i) x) n seen l
kept_watch ws n seen i x l lt h = record { most = h.most; torn = h.torn; trying = (λ q. let t = h.trying q in (t.0, t.1, λ e. bank_kept ws n i x l.loaded lt (t.2 e))) }

pub stores_ok : (k : SettingsFields) (slots by x : ℕ) (v : View) (cs : List (ℕ × ℕ)) (i : ℕ) → v.baton ≡ true → length v.stored < 10 → i ≡ bank_word (suc (length v.list)) (length v.stored)
    → Allows (Kept k) slots by (v, cs) i (λ _. x) (λ _. Stores (step slots i x 0 none) (v, cs) x)
stores_ok k slots by x v cs i has room here = store_step k slots by i x v cs (Stores (step slots i x 0 none) (v, cs) x) (λ ws views o at. (stores x v, go ws views o at, (refl, refl)))
  where
    go : (ws : List ℕ) (views : List View) (o : Opened k ws views) → get_elem? views by ≡ some v → Opened k (set ws i x) (set views by (stores x v))
    go ws views o at =
        let f = o.fits by v at in
        let b = f.baton has in
        let n : ℕ = length o.log in
        let m : ℕ = length v.stored in
        let at_log : i ≡ bank_word (suc n) m = here ∙ ap (λ (l : List Entry). bank_word (suc (length l)) m) b.1 in
        let w = stores x v in
        let ws' = set ws (bank_word (suc n) m) x in
        let fit : Fits k ws' (roll o.log o.given o.home o.seat) by w = record { keyed = f.keyed; baton = (λ _. (b.0, b.1, b.2, bank_stored ws (suc n) m x v.stored o.width refl room b.3)); seen = f.seen; feeds = f.feeds; gathered = f.gathered; readings = f.readings; watch = kept_watch ws n v.seen m x v.watch room f.watch; tallies = f.tallies } in
        let others : (j : ℕ) (u : View) → j ≢ by → get_elem? views j ≡ some u → Fits k ws' (roll o.log o.given o.home o.seat) j u = λ j u apart e.
        let g = o.fits j u e in
        record { keyed = g.keyed; baton = (λ q. absurd (apart ((g.baton q).0 ∙ sym b.0))); seen = g.seen; feeds = g.feeds; gathered = g.gathered; readings = g.readings; watch = kept_watch ws n u.seen m x u.watch room g.watch; tallies = g.tallies } in
        let done : Opened k ws' (set views by w) = record {
          log = o.log;
          given = o.given;
          home = o.home;
          seat = o.seat;
          width = length_of_set ws (bank_word (suc n) m) x ∙ o.width;
          count = get_or-set_other ws (bank_word (suc n) m) 0 x 0 (λ e. count_apart (suc n) m (sym e)) ∙ o.count;
          page = o.page;
          reading = o.reading;
          bank = bank_kept ws n m x o.page room o.bank;
          counted = o.counted;
          numbered = o.numbered;
          holder = held_set views o.seat by v w at refl o.holder;
          fits = on_turn (λ j u. Fits k ws' (roll o.log o.given o.home o.seat) j u) views by w others fit;
        } in
        subst (λ (j : ℕ). Opened k (set ws j x) (set views by w)) (sym at_log) done

-- the count is stored: the list is one longer
counted_watch : (ws : List ℕ) (n seen x : ℕ) (l : Watch) → IsWatch ws n seen l → IsWatch (set ws 0 x) (suc n) seen l
counted_watch ws n seen x l h = record { most = (let m = h.most in omega arith); torn = h.torn; trying = (λ q. let t = h.trying q in let m = h.most in let g = t.1 in (t.0, t.1, λ e. absurd (omega arith))) }

counted_tallies : (n : ℕ) (ts : List (ℕ × ℕ)) → All (IsTally n) ts → All (IsTally (suc n)) ts
counted_tallies n ts all = All-weaker (IsTally n) (IsTally (suc n)) (λ t h. (h.0, let m = h.1 in omega arith)) ts all

claims_other : (log : List Entry) (given : ℕ) (home : ℕ → ℕ) (e : Entry) (place : ℕ) → home e.feed ≢ place → (cs : List Claim) → All (Stands log given home place) cs → All (Stands (log ++ e ∷ []) given home place) cs
claims_other log given home e place other cs all = All-weaker (Stands log given home place) (Stands (log ++ e ∷ []) given home place) (λ c h.
    let ne : e.feed ≢ c.number = λ q. other (ap home q ∙ h.placed) in
    record { numbered = h.numbered; placed = h.placed; holds = record { own = h.holds.own ∙ sym (of_other c.number log e ne); own_seen = h.holds.own_seen; seen = prefix_more c.seen log (e ∷ []) h.holds.seen } }) cs all

readings_more : (s : SettingsFields) (log : List Entry) (e : Entry) (rs : List (ℕ × List ℕ)) → All (IsReading s log) rs → All (IsReading s (log ++ e ∷ [])) rs
readings_more s log e rs all = All-weaker (IsReading s log) (IsReading s (log ++ e ∷ [])) (λ r h. reading-longer s log (e ∷ []) r h) rs all

-- another pass after an entry of this one
grown : (s : SettingsFields) (ws : List ℕ) (x : ℕ) (log : List Entry) (given : ℕ) (home : ℕ → ℕ) (seat by : ℕ) (e : Entry) → home e.feed ≡ suc by → by ≡ seat
    → (k : ℕ) (u : View) → k ≢ by → Fits s ws (roll log given home seat) k u → Fits s (set ws 0 x) (roll (log ++ e ∷ []) given home seat) k u
grown s ws x log given home seat by e mine here k u apart f =
    let len : length (log ++ e ∷ []) ≡ suc (length log) = omega (arith, length-append log (e ∷ [])) in
    record {
      keyed = f.keyed;
      baton = (λ b. absurd (apart ((f.baton b).0 ∙ sym here)));
      seen = (let n = f.seen in omega arith);
      feeds = claims_other log given home e (suc k) (λ q. apart (let z : suc k ≡ suc by = sym q ∙ mine in omega arith)) u.feeds f.feeds;
      gathered = claims_other log given home e 0 (λ q. let z : 0 ≡ suc by = sym q ∙ mine in omega arith) u.gathered f.gathered;
      readings = readings_more s log e u.readings f.readings;
      watch = subst (λ (n : ℕ). IsWatch (set ws 0 x) n u.seen u.watch) (sym len) (counted_watch ws (length log) u.seen x u.watch f.watch);
      tallies = subst (λ (n : ℕ). All (IsTally n) u.tallies) (sym len) (counted_tallies (length log) u.tallies f.tallies);
    }

-- the store of the count
pub adds_ok : (k : SettingsFields) (slots by : ℕ) (v : View) (cs : List (ℕ × ℕ)) (c : Claim) (e : Entry) (x : ℕ) → v.spent ≡ false → v.baton ≡ true → v.feeds ≡ c ∷ [] → e.feed ≡ c.number
    → x ≡ length (v.list ++ e ∷ []) → AreWords v.stored (page_of v.settings (v.list ++ e ∷ []))
    → Allows (Kept k) slots by (v, cs) 0 (λ _. x) (λ _. Publishes e (step slots 0 x 0 none) (v, cs) x)
adds_ok k slots by v cs c e x live has only mine count is = store_step k slots by 0 x v cs (Publishes e (step slots 0 x 0 none) (v, cs) x) go
  where
    go : (ws : List ℕ) (views : List View) → Opened k ws views → get_elem? views by ≡ some v → (w : View) × Opened k (set ws 0 x) (set views by w) × Publishes e (step slots 0 x 0 none) (v, cs) x (w, cs)
    go ws views o at =
        let b = (o.fits by v at).baton has in
        let old : (j : ℕ) (u : View) → get_elem? views j ≡ some u → Fits k ws (roll v.list o.given o.home o.seat) j u = λ j u q. subst (λ l. Fits k ws (roll l o.given o.home o.seat) j u) (sym b.1) (o.fits j u q) in
        let f = old by v at in
        let all = v.list ++ e ∷ [] in
        let len : length all ≡ suc (length v.list) = omega (arith, length-append v.list (e ∷ [])) in
        let ws' = set ws 0 x in
        let w = added e v in
        let st = Stands v.list o.given o.home (suc by) in
        let here : st c = All-head st c [] (All-same st (c ∷ []) v.feeds (sym only) f.feeds) in
        let placed : o.home e.feed ≡ suc by = ap o.home mine ∙ here.placed in
        let each : All (λ (d : Claim). e.feed ≡ d.number) v.feeds = All-same (λ (d : Claim). e.feed ≡ d.number) v.feeds (c ∷ []) only (All-cons (λ (d : Claim). e.feed ≡ d.number) c [] mine (All-nil _)) in
        let more : (d : Claim) → e.feed ≡ d.number → st d → Stands all o.given o.home (suc by) (extended e all d) = λ d q t. record { numbered = t.numbered; placed = t.placed; holds = record { own = ap (λ l. l ++ e ∷ []) t.holds.own ∙ sym (of_same d.number v.list e q); own_seen = ap (λ l. l ++ e ∷ []) t.holds.own ∙ sym (of_same d.number v.list e q); seen = prefix_self all } } in
        let bank : HasBank ws' (length all) v.stored = bank_counted ws (length all) x v.stored (subst (λ (n : ℕ). HasBank ws n v.stored) (ap (λ (l : List Entry). suc (length l)) (sym b.1) ∙ sym len) b.3) in
        let fit : Fits k ws' (roll all o.given o.home o.seat) by w = record {
          keyed = f.keyed;
          baton = (λ _. (b.0, refl, b.2, λ i lt q. absurd (omega arith)));
          seen = (let n = f.seen in omega arith);
          feeds = All-map (Stands all o.given o.home (suc by)) (extended e all) v.feeds (λ j d lt. more (slice_index_or v.feeds j d) (each j d lt) (f.feeds j d lt));
          gathered = claims_other v.list o.given o.home e 0 (λ q. let z : 0 ≡ suc by = sym q ∙ placed in omega arith) v.gathered f.gathered;
          readings = readings_more k v.list e v.readings f.readings;
          watch = subst (λ (n : ℕ). IsWatch ws' n v.seen v.watch) (sym len) (counted_watch ws (length v.list) v.seen x v.watch f.watch);
          tallies = subst (λ (n : ℕ). All (IsTally n) v.tallies) (sym len) (counted_tallies (length v.list) v.tallies f.tallies);
        } in
        let below : e.feed < o.given = subst (λ n. n < o.given) (sym mine) here.numbered in (
          w,
          record {
            log = all;
            given = o.given;
            home = o.home;
            seat = o.seat;
            width = length_of_set ws 0 x ∙ o.width;
            count = get_or-set_same ws 0 x 0 (let q = o.width in omega arith) ∙ count;
            page = v.stored;
            reading = subst (λ (z : SettingsFields). IsReading z all (length all, v.stored)) (f.keyed live) (reading-whole v.settings all v.stored is);
            bank = bank;
            counted = o.counted;
            numbered = All-push (λ (d : Entry). d.feed < o.given) v.list e (subst (λ l. All (λ (d : Entry). d.feed < o.given) l) (sym b.1) o.numbered) below;
            holder = held_set views o.seat by v w at refl o.holder;
            fits = on_turn (λ j u. Fits k ws' (roll all o.given o.home o.seat) j u) views by w (λ j u n q. grown k ws x v.list o.given o.home o.seat by e placed b.0 j u n (old j u q)) fit;
          },
          (refl, refl, All-weaker st (λ (d : Claim). IsPrefix d.seen v.list) (λ d t. t.holds.seen) v.feeds f.feeds),
        )
