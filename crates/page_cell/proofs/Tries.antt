-- The tries of one reading.
use Rattle.std.proofs.Common.{◌≡◌, ℕ, zero, suc, ◌+◌, ◌<◌, ◌≤◌, ◌==◌, Bool, true, false, List, [], ◌∷◌, ◌++◌, length, if◌then◌else◌, refl, sym, ap, ◌∙◌, subst, arith, length-append}
use Rattle.std.specs.Prelude.{All, MatchBool}
use Rattle.std.proofs.lemmas.List.Elements.{All-nil, All-push}
use Rattle.clock_page.specs.Page.{AreWords, IsPage, PageFields, words}
use Rattle.page_cell.specs.declared.view.View.{View}
use Rattle.page_cell.specs.Passes.{IsResting}
use Rattle.page_cell.specs.Readings.{IsRising, ReadsAgain, ReadsPage}
use Rattle.page_cell.specs.Tries.{ReadsOnce, ReportsTry, Tried}
use Rattle.page_cell.specs.Views.{begins, fails_at, succeeds, with_loaded}

pub tried_none : (v : View) → IsResting v → Tried 0 v v
tried_none v r = record { same = refl; trying = r.trying; loads = omega arith; fails = r.fails; torn = refl; unfinished = (λ h. absurd (omega arith)); fresh = (λ _. r.finished); pairs = (λ h. absurd (omega arith)); above = (λ h. absurd (omega arith)); greatest = omega arith }

-- what the call's tries so far gave, as the next first load has it
fails_now : (i : ℕ) (v w : View) → i < 4 → Tried i v w → (if w.watch.unfinished then w.watch.fails else 0) ≡ i
fails_now zero v w lt t = ap (λ (b : Bool). if b then w.watch.fails else 0) (t.fresh refl)
fails_now (suc zero) v w lt t = ap (λ (b : Bool). if b then w.watch.fails else 0) (t.unfinished (omega arith)) ∙ t.fails
fails_now (suc (suc zero)) v w lt t = ap (λ (b : Bool). if b then w.watch.fails else 0) (t.unfinished (omega arith)) ∙ t.fails
fails_now (suc (suc (suc zero))) v w lt t = ap (λ (b : Bool). if b then w.watch.fails else 0) (t.unfinished (omega arith)) ∙ t.fails
fails_now (suc (suc (suc (suc i)))) v w lt t = absurd (omega arith)

abbrev pairs_of : View → List (ℕ × ℕ)
pairs_of w = if w.watch.unfinished then w.watch.pairs else []

pairs_now : (i : ℕ) (v w : View) → i < 4 → Tried i v w → (length (pairs_of w) ≡ i) × All IsRising (pairs_of w)
pairs_now zero v w lt t = subst (λ (b : Bool). (length (if b then w.watch.pairs else []) ≡ 0) × All IsRising (if b then w.watch.pairs else [])) (sym (t.fresh refl)) (refl, All-nil IsRising)
pairs_now (suc zero) v w lt t = subst (λ (b : Bool). (length (if b then w.watch.pairs else []) ≡ 1) × All IsRising (if b then w.watch.pairs else [])) (sym (t.unfinished (omega arith))) (t.pairs (omega arith))
pairs_now (suc (suc zero)) v w lt t = subst (λ (b : Bool). (length (if b then w.watch.pairs else []) ≡ 2) × All IsRising (if b then w.watch.pairs else [])) (sym (t.unfinished (omega arith))) (t.pairs (omega arith))
pairs_now (suc (suc (suc zero))) v w lt t = subst (λ (b : Bool). (length (if b then w.watch.pairs else []) ≡ 3) × All IsRising (if b then w.watch.pairs else [])) (sym (t.unfinished (omega arith))) (t.pairs (omega arith))
pairs_now (suc (suc (suc (suc i)))) v w lt t = absurd (omega arith)

fails_next : (i : ℕ) → i < 4 → (if i == 3 then 0 else i + 1) ≡ (if i + 1 == 4 then 0 else i + 1)
fails_next zero lt = refl
fails_next (suc zero) lt = refl
fails_next (suc (suc zero)) lt = refl
fails_next (suc (suc (suc zero))) lt = refl
fails_next (suc (suc (suc (suc i)))) lt = absurd (omega arith)

torn_next : (i t : ℕ) → i < 4 → (if i == 3 then (if i == 4 then t + 1 else t) + 1 else (if i == 4 then t + 1 else t)) ≡ (if i + 1 == 4 then t + 1 else t)
torn_next zero t lt = refl
torn_next (suc zero) t lt = refl
torn_next (suc (suc zero)) t lt = refl
torn_next (suc (suc (suc zero))) t lt = refl
torn_next (suc (suc (suc (suc i)))) t lt = absurd (omega arith)

unfinished_next : (i : ℕ) → i < 4 → (if i == 3 then false else true) ≡ (if i + 1 == 4 then false else true)
unfinished_next zero lt = refl
unfinished_next (suc zero) lt = refl
unfinished_next (suc (suc zero)) lt = refl
unfinished_next (suc (suc (suc zero))) lt = refl
unfinished_next (suc (suc (suc (suc i)))) lt = absurd (omega arith)

pub tried_more : (i first second : ℕ) (ten : List ℕ) (v w : View) → i < 4 → w.seen ≤ first → first < second → w.watch.greatest ≤ first → Tried i v w → Tried (i + 1) v (fails_at second (with_loaded ten 10 (begins first w)))
tried_more i first second ten v w lt seen up great t =
    let f = fails_now i v w lt t in
    let p = pairs_now i v w lt t in
    let x = fails_at second (with_loaded ten 10 (begins first w)) in
    record {
      same = ap (λ (u : View). record u { watch = x.watch }) t.same;
      trying = refl;
      loads = (let l = t.loads in omega arith);
      fails = ap (λ (n : ℕ). if n == 3 then 0 else n + 1) f ∙ fails_next i lt;
      torn = ap (λ (n : ℕ). if n == 3 then w.watch.torn + 1 else w.watch.torn) f ∙ ap (λ (n : ℕ). if i == 3 then n + 1 else n) t.torn ∙ torn_next i v.watch.torn lt;
      unfinished = (λ _. ap (λ (n : ℕ). if n == 3 then false else true) f ∙ unfinished_next i lt);
      fresh = (λ e. absurd (omega arith));
      pairs = (λ _. (omega (arith, length-append (pairs_of w) ((first, second) ∷ []), p.0), All-push IsRising (pairs_of w) (first, second) p.1 up));
      above = (λ _. let same = ap (λ (u : View). u.seen) t.same in omega arith);
      greatest = (let g = t.greatest in omega arith);
    }

torn_still : (i t : ℕ) → i < 4 → (if i == 4 then t + 1 else t) ≡ t
torn_still zero t lt = refl
torn_still (suc zero) t lt = refl
torn_still (suc (suc zero)) t lt = refl
torn_still (suc (suc (suc zero))) t lt = refl
torn_still (suc (suc (suc (suc i)))) t lt = absurd (omega arith)

pub tried_ok : (i n : ℕ) (ten : List ℕ) (v w : View) → i < 4 → IsResting v → Tried i v w → w.seen ≤ n → w.watch.greatest ≤ n → ((p : PageFields) × AreWords ten p) → ReadsOnce v n ten (succeeds (with_loaded ten 10 (begins n w)))
tried_ok i n ten v w lt r t later great page =
    let x = succeeds (with_loaded ten 10 (begins n w)) in
    record {
      same = ap (λ (u : View). record u { seen = n; readings = u.readings ++ (n, ten) ∷ []; watch = x.watch }) t.same;
      later = subst (λ (u : View). u.seen ≤ n) t.same later;
      page = page;
      rests = record { live = ap (λ (u : View). u.spent) t.same ∙ r.live; trying = refl; fails = refl; finished = refl };
      torn = t.torn ∙ torn_still i v.watch.torn lt;
      greatest = (let g = t.greatest in omega arith);
      loads = (let l = t.loads in let p = pairs_now i v w lt t in omega (arith, length-append (pairs_of w) ((n, n) ∷ []), p.0));
      most = (let p = pairs_now i v w lt t in omega (arith, length-append (pairs_of w) ((n, n) ∷ []), p.0));
      equal = (pairs_of w, refl, (pairs_now i v w lt t).1);
    }

-- the same count twice ends the call
pub try-same : (i first second : ℕ) (ten : List ℕ) (v w x : View) → i < 4 → IsResting v → Tried i v w → w.watch.greatest ≤ first → (second == first) ≡ true → ReportsTry first second ten w x → ReadsOnce v first ten x
try-same i first second ten v w x lt r t great is reported =
    let a = subst (λ (b : Bool). MatchBool b ((x ≡ succeeds (with_loaded ten 10 (begins first w))) × (w.seen ≤ first) × ((p : PageFields) × AreWords ten p)) ((x ≡ fails_at second (with_loaded ten 10 (begins first w))) × (w.seen ≤ first) × (first < second))) is reported in
    subst (ReadsOnce v first ten) (sym a.0) (tried_ok i first ten v w lt r t a.1 great a.2)

-- another count is one failed try more
pub try-other : (i first second : ℕ) (ten : List ℕ) (v w x : View) → i < 4 → Tried i v w → w.watch.greatest ≤ first → (second == first) ≡ false → ReportsTry first second ten w x
    → Tried (i + 1) v x × ((prefix : List (ℕ × ℕ)) × (x.watch.pairs ≡ prefix ++ (first, second) ∷ []))
try-other i first second ten v w x lt t great is reported =
    let a = subst (λ (b : Bool). MatchBool b ((x ≡ succeeds (with_loaded ten 10 (begins first w))) × (w.seen ≤ first) × ((p : PageFields) × AreWords ten p)) ((x ≡ fails_at second (with_loaded ten 10 (begins first w))) × (w.seen ≤ first) × (first < second))) is reported in
    (subst (Tried (i + 1) v) (sym a.0) (tried_more i first second ten v w lt a.1 a.2 great t), (pairs_of w, ap (λ (u : View). u.watch.pairs) a.0))

-- what callers learn of a call that read a page
pub reads-page : (n : ℕ) (p : PageFields) (v w : View) → ReadsOnce v n (words p) w → IsPage p → ReadsPage v w p
reads-page n p v w r page =
    let seen : w.seen ≡ n = ap (λ (u : View). u.seen) r.same in
    record {
      later = subst (λ (m : ℕ). v.seen ≤ m) (sym seen) r.later;
      reading = ap (λ (u : View). u.readings) r.same ∙ ap (λ (m : ℕ). v.readings ++ (m, words p) ∷ []) (sym seen);
      page = page;
      equal = subst (λ (m : ℕ). (prefix : List (ℕ × ℕ)) × (w.watch.pairs ≡ prefix ++ (m, m) ∷ []) × All IsRising prefix) (sym seen) r.equal;
      tries = r.most;
      loads = r.loads;
      torn = r.torn;
      greatest = r.greatest;
    }

-- and of one that didn't
pub reads-again : (first second : ℕ) (v w : View) → Tried 4 v w → ((prefix : List (ℕ × ℕ)) × (w.watch.pairs ≡ prefix ++ (first, second) ∷ [])) → ReadsAgain v w first second
reads-again first second v w t last = record {
  seen = ap (λ (u : View). u.seen) t.same;
  readings = ap (λ (u : View). u.readings) t.same;
  tries = (t.pairs (omega arith)).0;
  rising = (t.pairs (omega arith)).1;
  last = last;
  loads = t.loads;
  torn = t.torn;
  above = t.above (omega arith);
  greatest = t.greatest;
}
