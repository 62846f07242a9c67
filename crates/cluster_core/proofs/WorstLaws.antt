-- The last of the items with the greatest number, and a list without it.
use Rattle.std.proofs.Common.{◌≡◌, ℕ, zero, suc, ◌+◌, ◌<◌, ◌≤◌, Bool, true, false, cond, List, [], ◌∷◌, ◌++◌, length, get_or, take, drop, map, max, refl, sym, ap, ◌∙◌, subst, arith, add-one, length-drop, ◌⊎◌, inl, inr}
use Rattle.std.specs.Prelude.{All, nat_lt, remove, fold, ◌&&◌}
use Rattle.std.specs.List.{list_all, IsLastBest}
use Rattle.std.proofs.lemmas.Bool.{cases_lt, false≢true, le-ltb, lt-ltb, ltb-false, ltb-true}
use Rattle.std.proofs.lemmas.List.{drop_more, get_or-drop, take-append-drop, take_all}
use Rattle.std.proofs.lemmas.List.Elements.{All-cons, All-from_get_or, All-head, All-nil, All-tail, All-weaker}
use Rattle.tick_units.specs.Orders.{greatest}
use Rattle.cluster_core.specs.Clusters.{selection_jitter, greatest_jitter, Discards, IsWorst, without_greatest}
use Rattle.cluster_core.specs.declared.survivor.Survivor.{Survivor}

-- the last of the greatest among this many first items
pub record IsWorstSoFar (number : Survivor → ℕ) (all : List Survivor) (seen place most : ℕ) : Type 0 where
  pub most_is : most ≡ greatest (map number (take seen all))
  pub within : 0 < seen → place < seen
  pub is : 0 < seen → (d : Survivor) → number (get_or all place d) ≡ most
  pub later : (k : ℕ) (d : Survivor) → place < k → k < seen → number (get_or all k d) < most

fold-least : (number : Survivor → ℕ) (xs : List Survivor) (n : ℕ) → n ≤ fold max n (map number xs)
fold-least number [] n = omega arith
fold-least number (x ∷ xs) n = omega (arith, fold-least number xs (max n (number x)))

fold-bounds : (number : Survivor → ℕ) (xs : List Survivor) (n k : ℕ) (d : Survivor) → k < length xs → number (get_or xs k d) ≤ fold max n (map number xs)
fold-bounds number [] n k d within = absurd (omega arith)
fold-bounds number (x ∷ xs) n zero d within = omega (arith, fold-least number xs (max n (number x)))
fold-bounds number (x ∷ xs) n (suc k) d within = fold-bounds number xs (max n (number x)) k d (omega arith)

pub worst-is : (all : List Survivor) (seen place most : ℕ) → 0 < length all → seen ≡ length all → IsWorstSoFar (selection_jitter all) all seen place most → IsWorst all place × (most ≡ greatest_jitter all)
worst-is all seen place most some whole worst =
    let full : take seen all ≡ all = take_all seen all (omega arith) in
    let is : most ≡ greatest_jitter all = worst.most_is ∙ ap (λ xs. greatest (map (selection_jitter all) xs)) full in (
      (
        subst (λ n. place < n) whole (worst.within (omega arith)),
        (λ k d within. let at = worst.is (omega arith) d in let bound = fold-bounds (selection_jitter all) all 0 k d within in le-ltb _ _ (omega arith)),
        (λ k d following within. let at = worst.is (omega arith) d in let less = worst.later k d following (omega arith) in lt-ltb _ _ (omega arith)),
      ),
      is,
    )

-- a list parted at the last of its greatest
record Parts (number : Survivor → ℕ) (all left : List Survivor) : Type 0 where
  prefix : List Survivor
  item : Survivor
  back : List Survivor
  whole : all ≡ prefix ++ item ∷ back
  others : left ≡ prefix ++ back
  most : All (λ x. number x ≤ number item) all
  last : All (λ x. number x < number item) back

all-from : (number : Survivor → ℕ) (n : ℕ) (xs : List Survivor) → All (λ x. number x < n) xs → list_all (λ x. nat_lt (number x) n) xs ≡ true
all-from number n [] below = refl
all-from number n (x ∷ xs) below = rw (lt-ltb (number x) n (All-head (λ x. number x < n) x xs below)) (all-from number n xs (All-tail (λ x. number x < n) x xs below))

-- one that is not less keeps an item from being above all
not_all : (number : Survivor → ℕ) (x y : Survivor) (prefix back : List Survivor) → number y ≤ number x → list_all (λ z. nat_lt (number z) (number y)) (prefix ++ x ∷ back) ≡ false
not_all number x y [] back least = rw (le-ltb (number x) (number y) least) refl
not_all number x y (z ∷ prefix) back least = rw (not_all number x y prefix back least) (and-false (nat_lt (number z) (number y)))
  where
    and-false : (b : Bool) → (b && false) ≡ false
    and-false true = refl
    and-false false = refl

-- so a list that is parted there is without that item
pub without-parts : (number : Survivor → ℕ) (prefix : List Survivor) (item : Survivor) (back : List Survivor) → All (λ x. number x ≤ number item) (prefix ++ item ∷ back) → All (λ x. number x < number item) back → without_greatest number (prefix ++ item ∷ back) ≡ prefix ++ back
without-parts number [] item back most last = rw (all-from number (number item) back last) refl
without-parts number (x ∷ prefix) item back most last =
    rw (not_all number item x prefix back (All-head (λ y. number y ≤ number item) x (prefix ++ item ∷ back) most))
    (ap (λ (xs : List Survivor). x ∷ xs) (without-parts number prefix item back (All-tail (λ y. number y ≤ number item) x (prefix ++ item ∷ back) most) last))

-- only one list comes from a discard
pub discards-is : (all left : List Survivor) → Discards all left → left ≡ without_greatest (selection_jitter all) all
discards-is all left h =
    h.others
    ∙ sym (without-parts (selection_jitter all) h.prefix h.discarded h.back (subst (λ xs. All (λ x. selection_jitter all x ≤ selection_jitter all h.discarded) xs) h.whole h.greatest) h.last)
    ∙ ap (without_greatest (selection_jitter all)) (sym h.whole)

most-at : (number : Survivor → ℕ) (all : List Survivor) (place : ℕ) (e : Survivor) → IsLastBest (λ x y. nat_lt (number y) (number x)) all (length all) place → All (λ x. number x ≤ number (get_or all place e)) all
most-at number all place e worst = All-from_get_or (λ x. number x ≤ number (get_or all place e)) all e (λ k within. ltb-false _ _ (worst.1 k e within))

last-at : (number : Survivor → ℕ) (all : List Survivor) (place : ℕ) (e : Survivor) → IsLastBest (λ x y. nat_lt (number y) (number x)) all (length all) place → All (λ x. number x < number (get_or all place e)) (drop (suc place) all)
last-at number all place e worst = All-from_get_or (λ x. number x < number (get_or all place e)) (drop (suc place) all) e (λ k within.
    let inside : suc place + k < length all = omega (arith, length-drop (suc place) all) in
    subst (λ x. number x < number (get_or all place e)) (sym (get_or-drop (suc place) all k e)) (ltb-true _ _ (worst.2 (suc place + k) e (omega arith) inside)))

-- a list is parted at the place of the last of its greatest
pub discards-at : (all : List Survivor) (place : ℕ) → IsWorst all place → Discards all (remove all place)
discards-at [] place worst = absurd (omega (arith, worst.0))
discards-at (x ∷ xs) place worst = record {
  prefix = take place (x ∷ xs);
  discarded = get_or (x ∷ xs) place x;
  back = drop (suc place) (x ∷ xs);
  whole = sym (take-append-drop place (x ∷ xs)) ∙ ap (λ (ys : List Survivor). take place (x ∷ xs) ++ ys) (drop_more (x ∷ xs) place x worst.0 ∙ ap (λ (n : ℕ). get_or (x ∷ xs) place x ∷ drop n (x ∷ xs)) (add-one place));
  others = refl;
  greatest = most-at (selection_jitter (x ∷ xs)) (x ∷ xs) place x worst;
  last = last-at (selection_jitter (x ∷ xs)) (x ∷ xs) place x worst;
}

-- and there is one from every list with members
and-left : (a b : Bool) → (a && b) ≡ true → a ≡ true
and-left true b h = refl
and-left false b h = absurd (false≢true h)

and-right : (a b : Bool) → (a && b) ≡ true → b ≡ true
and-right true b h = h
and-right false b h = absurd (false≢true h)

below-all : (number : Survivor → ℕ) (n : ℕ) (xs : List Survivor) → list_all (λ x. nat_lt (number x) n) xs ≡ true → All (λ x. number x < n) xs
below-all number n [] passes = All-nil (λ x. number x < n)
below-all number n (x ∷ xs) passes = All-cons (λ y. number y < n) x xs (ltb-true (number x) n (and-left _ _ passes)) (below-all number n xs (and-right _ _ passes))

parts-of : (number : Survivor → ℕ) (x : Survivor) (xs : List Survivor) → Parts number (x ∷ xs) (without_greatest number (x ∷ xs))
parts-of number x [] = record { prefix = []; item = x; back = []; whole = refl; others = refl; most = All-cons (λ y. number y ≤ number x) x [] (omega arith) (All-nil (λ y. number y ≤ number x)); last = All-nil (λ y. number y < number x) }
parts-of number x (y ∷ ys) = by_test (parts-of number y ys) (list_all (λ z. nat_lt (number z) (number x)) (y ∷ ys)) refl
  where
    by_test : Parts number (y ∷ ys) (without_greatest number (y ∷ ys)) → (b : Bool) → list_all (λ z. nat_lt (number z) (number x)) (y ∷ ys) ≡ b → Parts number (x ∷ y ∷ ys) (cond b (y ∷ ys) (x ∷ without_greatest number (y ∷ ys)))
    by_test following true test =
        let below = below-all number (number x) (y ∷ ys) test in
        record {
          prefix = [];
          item = x;
          back = y ∷ ys;
          whole = refl;
          others = refl;
          most = All-cons (λ z. number z ≤ number x) x (y ∷ ys) (omega arith) (All-weaker (λ z. number z < number x) (λ z. number z ≤ number x) (λ z less. omega arith) (y ∷ ys) below);
          last = below;
        }
    by_test following false test = record {
      prefix = x ∷ following.prefix;
      item = following.item;
      back = following.back;
      whole = ap (λ (zs : List Survivor). x ∷ zs) following.whole;
      others = ap (λ (zs : List Survivor). x ∷ zs) following.others;
      most = All-cons (λ z. number z ≤ number following.item) x (y ∷ ys) (by_order (cases_lt (number following.item) (number x))) following.most;
      last = following.last;
    }
      where
        by_order : (number following.item < number x) ⊎ (number x ≤ number following.item) → number x ≤ number following.item
        by_order (inr upto) = upto
        by_order (inl above) = absurd (false≢true (sym test ∙ all-from number (number x) (y ∷ ys) (All-weaker (λ z. number z ≤ number following.item) (λ z. number z < number x) (λ z upto. omega arith) (y ∷ ys) following.most)))

pub discards-some : (all : List Survivor) → 0 < length all → Discards all (without_greatest (selection_jitter all) all)
discards-some [] some = absurd (omega arith)
discards-some (x ∷ xs) some = let p = parts-of (selection_jitter (x ∷ xs)) x xs in record { prefix = p.prefix; discarded = p.item; back = p.back; whole = p.whole; others = p.others; greatest = p.most; last = p.last }
