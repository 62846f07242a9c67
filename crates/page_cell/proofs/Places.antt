-- Lists of views, beginnings of lists, the entries of a feed, and the four facts of the page of a beginning.
use Rattle.std.proofs.Common.{◌≡◌, ◌≢◌, ◌⊎◌, ℕ, zero, suc, ◌+◌, ◌<◌, ◌≤◌, ◌==◌, eqb, eq-eqb, ne_eqb, Bool, List, [], ◌∷◌, ◌++◌, length, set, if◌then◌else◌, refl, sym, ap, ◌∙◌, subst, ⊎_elim, inl, inr, arith, append_assoc, length-append}
use Rattle.std.proofs.lemmas.List.{append-nil, map-id, take-append-le, take_all}
use Rattle.std.proofs.lemmas.List.Elements.{filter-append}
use Rattle.std.proofs.lemmas.List.FromFn.{map-range_with_len_more}
use Rattle.std.specs.List.{range_with_len}
use mathlib.Core.Option.{some, some-ne-none, some-injective}
use mathlib.Core.List.{IsPrefix}
use lib.ListN.{get_elem?}
use Rattle.atomic_table.proofs.Lists.{at_set}
use Rattle.clock_page.specs.Page.{AreWords, PageFields, words}
use Rattle.journal_entry.specs.declared.entry.Entry.{Entry}
use Rattle.page_cell.specs.Claims.{IsReading, of_feed, page_at}
use Rattle.system_fold.specs.Page.{page_of}
use Rattle.system_fold.specs.Settings.{SettingsFields}

module _ {A : Type 0} where
  pub in_range : (l : List A) (i : ℕ) (a : A) → get_elem? l i ≡ some a → i < length l
  in_range [] i a e = absurd (some-ne-none a (sym e))
  in_range (x ∷ xs) zero a e = omega arith
  in_range (x ∷ xs) (suc i) a e = let r = in_range xs i a e in omega arith

  pub at_snoc_at : (l : List A) (a b : A) (j : ℕ) → get_elem? (l ++ a ∷ []) j ≡ some b → ((get_elem? l j ≡ some b) × (j < length l)) ⊎ ((j ≡ length l) × (a ≡ b))
  at_snoc_at [] a b zero e = inr (refl, some-injective a b e)
  at_snoc_at [] a b (suc j) e = absurd (some-ne-none b (sym e))
  at_snoc_at (x ∷ xs) a b zero e = inl (e, omega arith)
  at_snoc_at (x ∷ xs) a b (suc j) e = ⊎_elim (λ t. inl (t.0, let r = t.1 in omega arith)) (λ t. inr (ap suc t.0, t.1)) (at_snoc_at xs a b j e)

  -- what holds of each place after one view changed
  pub on_turn : (P : ℕ → A → Type 0) (views : List A) (by : ℕ) (w : A) → ((k : ℕ) (u : A) → k ≢ by → get_elem? views k ≡ some u → P k u) → P by w
      → (k : ℕ) (u : A) → get_elem? (set views by w) k ≡ some u → P k u
  on_turn P views by w others mine k u e =
      ⊎_elim
      (λ (t : (k ≡ by) × (w ≡ u)). subst (λ (y : ℕ × A). P y.0 y.1) (λ i. (sym t.0 i, t.1 i)) mine)
      (λ (t : (k ≢ by) × (get_elem? views k ≡ some u)). others k u t.0 t.1)
      (at_set views by k w u e)

  pub length_of_set : (l : List A) (i : ℕ) (a : A) → length (set l i a) ≡ length l
  length_of_set [] i a = refl
  length_of_set (x ∷ xs) zero a = refl
  length_of_set (x ∷ xs) (suc i) a = ap suc (length_of_set xs i a)

  -- and after a new view came besides
  pub on_fork : (P : ℕ → A → Type 0) (views : List A) (by : ℕ) (left right : A) → ((k : ℕ) (u : A) → k ≢ by → k < length views → get_elem? views k ≡ some u → P k u) → P by left → P (length views) right
      → (k : ℕ) (u : A) → get_elem? (set views by left ++ right ∷ []) k ≡ some u → P k u
  on_fork P views by left right others mine new k u e =
      ⊎_elim
      (λ (t : (get_elem? (set views by left) k ≡ some u) × (k < length (set views by left))). on_turn P views by left (λ j y n at. others j y n (in_range views j y at) at) mine k u t.0)
      (λ (t : (k ≡ length (set views by left)) × (right ≡ u)). subst (λ (y : ℕ × A). P y.0 y.1) (λ i. (sym (t.0 ∙ length_of_set views by left) i, t.1 i)) new)
      (at_snoc_at (set views by left) right u k e)

-- n, but `to` in the place of `from`
abbrev pub redirect : ℕ → ℕ → ℕ → ℕ
redirect from to n = if eqb n from then to else n

pub redirect_hit : (from to n : ℕ) → n ≡ from → redirect from to n ≡ to
redirect_hit from to n e = subst (λ (b : Bool). (if b then to else n) ≡ to) (sym (eq-eqb n from e)) refl

pub redirect_miss : (from to n : ℕ) → n ≢ from → redirect from to n ≡ n
redirect_miss from to n ne = subst (λ (b : Bool). (if b then to else n) ≡ n) (sym (ne_eqb n from ne)) refl

pub prefix_self : {A : Type 0} (xs : List A) → IsPrefix xs xs
prefix_self xs = ([], append-nil xs)

pub prefix_more : {A : Type 0} (xs ys zs : List A) → IsPrefix xs ys → IsPrefix xs (ys ++ zs)
prefix_more xs ys zs p = (p.0 ++ zs, sym (append_assoc xs p.0 zs) ∙ ap (λ w. w ++ zs) p.1)

pub of_same : (n : ℕ) (j : List Entry) (e : Entry) → e.feed ≡ n → of_feed n (j ++ e ∷ []) ≡ of_feed n j ++ e ∷ []
of_same n j e same = filter-append (λ (x : Entry). x.feed == n) j (e ∷ []) ∙ ap (λ (b : Bool). of_feed n j ++ (if b then e ∷ [] else [])) (eq-eqb e.feed n same)

pub of_other : (n : ℕ) (j : List Entry) (e : Entry) → e.feed ≢ n → of_feed n (j ++ e ∷ []) ≡ of_feed n j
of_other n j e other = filter-append (λ (x : Entry). x.feed == n) j (e ∷ []) ∙ ap (λ (b : Bool). of_feed n j ++ (if b then e ∷ [] else [])) (ne_eqb e.feed n other) ∙ append-nil (of_feed n j)

-- the words of a page are ten
pub words-ten : (w : List ℕ) (p : PageFields) → AreWords w p → length w ≡ 10
unfolding words
words-ten w p h = ap length h.words

-- a longer list leaves the page of a beginning
pub page_at-longer : (s : SettingsFields) (log more : List Entry) (n : ℕ) → n ≤ length log → page_at s (log ++ more) n ≡ page_at s log n
unfolding page_at
page_at-longer s log more n le = ap (page_of s) (take-append-le n log more le)

-- the page of the whole list
pub page_at-whole : (s : SettingsFields) (log : List Entry) → page_at s log (length log) ≡ page_of s log
unfolding page_at
page_at-whole s log = ap (page_of s) (take_all (length log) log (omega arith))

pub reading-longer : (s : SettingsFields) (log more : List Entry) (r : ℕ × List ℕ) → IsReading s log r → IsReading s (log ++ more) r
reading-longer s log more r h = record {
  within = (let n = h.within in omega (arith, length-append log more));
  page = subst (AreWords r.1) (sym (page_at-longer s log more r.0 h.within)) h.page;
}

-- the words of the page of the whole list are a reading of all of it
pub reading-whole : (s : SettingsFields) (log : List Entry) (w : List ℕ) → AreWords w (page_of s log) → IsReading s log (length log, w)
reading-whole s log w h = record { within = omega arith; page = subst (AreWords w) (sym (page_at-whole s log)) h }

-- one number more
pub range-more : (n : ℕ) → range_with_len 0 (n + 1) ≡ range_with_len 0 n ++ n ∷ []
range-more n = sym (map-id (range_with_len 0 (n + 1))) ∙ map-range_with_len_more (λ (m : ℕ). m) 0 n n (omega arith) ∙ ap (λ (xs : List ℕ). xs ++ n ∷ []) (map-id (range_with_len 0 n))
