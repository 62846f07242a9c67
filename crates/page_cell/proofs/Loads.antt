-- The kinds of load keep the rule.
use Rattle.std.proofs.Common.{◌≡◌, ◌≢◌, ℕ, suc, ◌+◌, ◌<◌, ◌≤◌, Bool, true, false, List, [], ◌∷◌, ◌++◌, length, set, refl, sym, ap, ◌∙◌, subst, arith, true≢false, eq-eqb}
use Rattle.std.specs.Prelude.{All, slice_index, MatchBool, ◌==◌, ◌*◌}
use Rattle.std.proofs.lemmas.Bool.Decides.{nat_tests}
use Rattle.std.proofs.lemmas.List.Elements.{All-weaker, All-push}
use mathlib.Core.Option.{none, some}
use lib.ListN.{get_elem?}
use Rattle.atomic_table.specs.Table.{step, Allows}
use Rattle.clock_page.specs.Page.{AreWords, PageFields}
use Rattle.journal_entry.specs.declared.entry.Entry.{Entry}
use Rattle.page_cell.specs.Claims.{IsReading, IsTrueOf, page_at}
use Rattle.page_cell.specs.Rule.{bank_word, Fits, HasBank, IsWatch, Kept, Opened, roll, Stands}
use Rattle.page_cell.specs.Steps.{Begins, Ends, Holds, Loads, Looks}
use Rattle.page_cell.specs.Views.{begins, fails_at, loads_word, succeeds}
use Rattle.page_cell.specs.declared.view.Claim.{Claim}
use Rattle.page_cell.specs.declared.view.View.{View}
use Rattle.page_cell.proofs.Banks.{bank_loaded, bank_whole, fails_less, fails_more}
use Rattle.page_cell.proofs.Places.{words-ten}
use Rattle.system_fold.specs.Settings.{SettingsFields}
use Rattle.page_cell.proofs.Turns.{load_step, off, turned}

-- the first load of a try
pub begins_ok : (k : SettingsFields) (slots by : ℕ) (v : View) (cs : List (ℕ × ℕ)) → Allows (Kept k) slots by (v, cs) 0 (λ n. n) (Begins (step slots 0 0 0 none) (v, cs))
begins_ok k slots by v cs = load_step k slots by 0 v cs (Begins (step slots 0 0 0 none) (v, cs)) (λ ws views o at.
    let f = o.fits by v at in
    let x : ℕ = slice_index ws 0 in
    let n : ℕ = length o.log in
    let is : x ≡ n = o.count in
    let w = begins x v in
    let m = f.watch.most in
    let seen = f.seen in
    let watch : IsWatch ws n v.seen w.watch = record { most = omega arith; torn = (let t = fails_less v.watch.unfinished v.watch.greatest v.watch.torn v.watch.fails f.watch.torn in omega arith); trying = (λ _. (omega arith, refl, λ e i lt ten. absurd (omega arith))) } in
    let fit : Fits k ws (roll o.log o.given o.home o.seat) by w = record { keyed = f.keyed; baton = f.baton; seen = f.seen; feeds = f.feeds; gathered = f.gathered; readings = f.readings; watch = watch; tallies = f.tallies } in
    (w, turned k ws views by v w o at refl fit, (refl, refl, omega arith)))

-- the load of the next word of the bank of the first count
pub loads_ok : (k : SettingsFields) (slots by : ℕ) (v : View) (cs : List (ℕ × ℕ)) (i : ℕ) → v.watch.trying ≡ true → i ≡ bank_word v.watch.first (length v.watch.loaded) → Allows (Kept k) slots by (v, cs) i (λ n. n) (Loads (step slots i 0 0 none) (v, cs))
loads_ok k slots by v cs i trying here = load_step k slots by i v cs (Loads (step slots i 0 0 none) (v, cs)) (λ ws views o at.
    let f = o.fits by v at in
    let x : ℕ = slice_index ws i in
    let n : ℕ = length o.log in
    let w = loads_word x v in
    let t = f.watch.trying trying in
    let more : v.watch.first ≡ n → HasBank ws n (v.watch.loaded ++ x ∷ []) = λ e.
    subst (λ (j : ℕ). HasBank ws n (v.watch.loaded ++ slice_index ws j ∷ [])) (sym (here ∙ ap (λ (m : ℕ). bank_word m (length v.watch.loaded)) e)) (bank_loaded ws n (length v.watch.loaded) v.watch.loaded refl (t.2 e)) in
    let watch : IsWatch ws n v.seen w.watch = record { most = f.watch.most; torn = f.watch.torn; trying = (λ _. (t.0, t.1, more)) } in
    let fit : Fits k ws (roll o.log o.given o.home o.seat) by w = record { keyed = f.keyed; baton = f.baton; seen = f.seen; feeds = f.feeds; gathered = f.gathered; readings = f.readings; watch = watch; tallies = f.tallies } in
    (w, turned k ws views by v w o at refl fit, (refl, refl)))

-- the second load of the count
pub ends_ok : (k : SettingsFields) (slots by : ℕ) (v : View) (cs : List (ℕ × ℕ)) → v.watch.trying ≡ true → length v.watch.loaded ≡ 10 → Allows (Kept k) slots by (v, cs) 0 (λ n. n) (Ends (step slots 0 0 0 none) (v, cs))
ends_ok k slots by v cs trying ten = load_step k slots by 0 v cs (Ends (step slots 0 0 0 none) (v, cs)) (λ ws views o at. go ws views o at ((slice_index ws 0) == v.watch.first) refl)
  where
    go : (ws : List ℕ) (views : List View) (o : Opened k ws views) → get_elem? views by ≡ some v → (b : Bool) → (slice_index ws 0 == v.watch.first) ≡ b → (w : View) × Opened k ws (set views by w) × Ends (step slots 0 0 0 none) (v, cs) (slice_index ws 0) (w, cs)
    go ws views o at true is =
        let f = o.fits by v at in
        let n : ℕ = length o.log in
        let t = f.watch.trying trying in
        let count = o.count in
        let same : slice_index ws 0 ≡ v.watch.first = grind (arith, nat_tests) in
        let here : v.watch.first ≡ n = sym same ∙ count in
        let whole : v.watch.loaded ≡ o.page = bank_whole ws n v.watch.loaded o.page ten (words-ten o.page _ o.reading.page) (t.2 here) o.bank in
        let w = succeeds v in
        let now : IsReading k o.log (v.watch.first, v.watch.loaded) = subst (λ (r : ℕ × List ℕ). IsReading k o.log r) (λ i. (sym here i, sym whole i)) o.reading in
        let torn = f.watch.torn in
        let most = f.watch.most in
        let watch : IsWatch ws n v.watch.first w.watch = record { most = most; torn = omega arith; trying = (λ q. absurd (off q)) } in
        let fit : Fits k ws (roll o.log o.given o.home o.seat) by w = record { keyed = f.keyed; baton = f.baton; seen = omega arith; feeds = f.feeds; gathered = f.gathered; readings = All-push (IsReading k o.log) v.readings (v.watch.first, v.watch.loaded) f.readings now; watch = watch; tallies = f.tallies } in
        (w, turned k ws views by v w o at refl fit, (refl, subst (λ (b : Bool). MatchBool b ((w ≡ succeeds v) × (v.seen ≤ v.watch.first) × ((p : PageFields) × AreWords v.watch.loaded p)) ((w ≡ fails_at (slice_index ws 0) v) × (v.seen ≤ v.watch.first) × (v.watch.first < slice_index ws 0))) (sym is) (refl, t.0, (page_at k o.log v.watch.first, now.page))))
    go ws views o at false is =
        let f = o.fits by v at in
        let n : ℕ = length o.log in
        let t = f.watch.trying trying in
        let count = o.count in
        let apart : slice_index ws 0 ≢ v.watch.first = λ e. true≢false (sym (eq-eqb (slice_index ws 0) v.watch.first e) ∙ is) in
        let x : ℕ = slice_index ws 0 in
        let most = f.watch.most in
        let great = t.1 in
        let above : v.watch.first < x = omega arith in
        let w = fails_at x v in
        let torn : 4 * v.watch.torn + v.watch.fails ≤ v.watch.first = (let h = f.watch.torn in omega arith) in
        let watch : IsWatch ws n v.seen w.watch = record { most = omega arith; torn = fails_more (v.watch.fails == 3) v.watch.torn v.watch.fails v.watch.first x refl torn above; trying = (λ q. absurd (off q)) } in
        let fit : Fits k ws (roll o.log o.given o.home o.seat) by w = record { keyed = f.keyed; baton = f.baton; seen = f.seen; feeds = f.feeds; gathered = f.gathered; readings = f.readings; watch = watch; tallies = f.tallies } in
        (w, turned k ws views by v w o at refl fit, (refl, subst (λ (b : Bool). MatchBool b ((w ≡ succeeds v) × (v.seen ≤ v.watch.first) × ((p : PageFields) × AreWords v.watch.loaded p)) ((w ≡ fails_at (slice_index ws 0) v) × (v.seen ≤ v.watch.first) × (v.watch.first < slice_index ws 0))) (sym is) (refl, t.0, above)))

truths : (log : List Entry) (given : ℕ) (home : ℕ → ℕ) (place : ℕ) (cs : List Claim) → All (Stands log given home place) cs → All (IsTrueOf log) cs
truths log given home place cs all = All-weaker (Stands log given home place) (IsTrueOf log) (λ c h. h.holds) cs all

-- a load by which the baton's pass learns that what it keeps is true
pub looks_ok : (k : SettingsFields) (slots by i : ℕ) (v : View) (cs : List (ℕ × ℕ)) → v.spent ≡ false → v.baton ≡ true → Allows (Kept k) slots by (v, cs) i (λ n. n) (Looks (step slots i 0 0 none) (v, cs))
looks_ok k slots by i v cs live has = load_step k slots by i v cs (Looks (step slots i 0 0 none) (v, cs)) (λ ws views o at.
    let f = o.fits by v at in
    let is : o.log ≡ v.list = sym (f.baton has).1 in
    let all : (l : List Entry) → o.log ≡ l → Holds (record v { list = l }) = λ l e. subst (λ (l : List Entry). Holds (record v { list = l })) e
    (record { seen = f.seen; feeds = truths o.log o.given o.home (suc by) v.feeds f.feeds; gathered = truths o.log o.given o.home 0 v.gathered f.gathered; readings = subst (λ (s : SettingsFields). All (IsReading s o.log) v.readings) (sym (f.keyed live)) f.readings; tallies = f.tallies }) in
    (v, turned k ws views by v v o at refl f, (refl, refl, all v.list is)))
