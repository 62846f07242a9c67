-- Where all intervals contain the greatest lower end and the least upper one, these are the ends that selection finds.
use Rattle.std.proofs.Common.{◌≡◌, ℕ, ◌+◌, ◌*◌, ◌-◌, ◌^◌, ◌<◌, ◌≤◌, Bool, true, false, cond, List, [], ◌∷◌, ℤ, pos, ◌-ℤ◌, ◌≤ℤ◌, refl, sym, ap, ◌∙◌, arith, subst, length, map}
use Rattle.std.specs.Prelude.{All, Option, None, Some, filter, slice_get, fold, int_le, int_lt, nat_le, nat_lt, ◌&&◌}
use Rattle.std.specs.List.{filter_map, range_with_len}
use Rattle.std.proofs.lemmas.Bool.{and_parts, false≢true, le-leb, leb-true, ltb-true}
use Rattle.std.proofs.lemmas.Int.{ints}
use Rattle.std.proofs.lemmas.List.Elements.{All-cons, All-head, All-map, All-nil, All-tail, All-weaker}
use Rattle.std.proofs.lemmas.List.Sums.{count_by-le-length}
use Rattle.tick_units.specs.Orders.{best, better}
use Rattle.select_core.specs.Selection.{are_measured, chime_allowing, chime_between, chime_of, contains, cover, greatest, high_of, is_held, least, low_of, lower, outside, serves, upper}
use Rattle.select_core.specs.declared.chime.Candidate.{Candidate}
use Rattle.select_core.proofs.NarrowLaws.{chime-narrow, count-no, count-yes}
use Rattle.select_core.proofs.SelectionLaws.{first-some}

-- what holds of all holds of the best
best-from : (beats : ℤ → ℤ → Bool) (P : ℤ → Type 0) (xs : List ℤ) (first m : ℤ) → P first → All P xs → fold (better beats) (Some first) xs ≡ Some m → P m
best-from beats P [] first m here all is = subst (λ (o : Option ℤ). holds o) is here
  where
    holds : Option ℤ → Type 0
    holds None = Unit {0}
    holds (Some z) = P z
best-from beats P (x ∷ xs) first m here all is = by_test (beats x first) (best-from beats P xs x m (All-head P x xs all) (All-tail P x xs all)) (best-from beats P xs first m here (All-tail P x xs all)) is
  where
    by_test : (b : Bool) → (fold (better beats) (Some x) xs ≡ Some m → P m) → (fold (better beats) (Some first) xs ≡ Some m → P m) → fold (better beats) (cond b (Some x) (Some first)) xs ≡ Some m → P m
    by_test true won lost found = won found
    by_test false won lost found = lost found

best-holds : (beats : ℤ → ℤ → Bool) (P : ℤ → Type 0) (xs : List ℤ) (m : ℤ) → All P xs → best beats xs ≡ Some m → P m
best-holds beats P [] m all is = absurd (none-some is)
  where
    none-some : None ≡ Some m → ⊥
    none-some e = subst (λ (o : Option ℤ). is_none o) e tt
      where
        is_none : Option ℤ → Type 0
        is_none None = Unit {0}
        is_none (Some z) = ⊥
best-holds beats P (x ∷ xs) m all is = best-from beats P xs x m (All-head P x xs all) (All-tail P x xs all) is

-- none passes the greatest, and the least passes none
greatest-from : (xs : List ℤ) (first m : ℤ) → fold (better (λ x y. int_lt y x)) (Some first) xs ≡ Some m → (first ≤ℤ m) × All (λ x. x ≤ℤ m) xs
greatest-from [] first m is = (best-from (λ x y. int_lt y x) (λ z. first ≤ℤ z) [] first m (omega (arith, ints)) (All-nil (λ z. first ≤ℤ z)) is, All-nil (λ x. x ≤ℤ m))
greatest-from (x ∷ xs) first m is = by_test (int_lt first x) refl (greatest-from xs x m) (greatest-from xs first m) is
  where
    by_test : (b : Bool) → int_lt first x ≡ b → (fold (better (λ x y. int_lt y x)) (Some x) xs ≡ Some m → (x ≤ℤ m) × All (λ x. x ≤ℤ m) xs) → (fold (better (λ x y. int_lt y x)) (Some first) xs ≡ Some m → (first ≤ℤ m) × All (λ x. x ≤ℤ m) xs)
        → fold (better (λ x y. int_lt y x)) (cond b (Some x) (Some first)) xs ≡ Some m → (first ≤ℤ m) × All (λ x. x ≤ℤ m) (x ∷ xs)
    by_test true won further kept found = let h = further found in (chain first x m won h.0, All-cons (λ y. y ≤ℤ m) x xs h.0 h.1)
      where
        chain : (a b c : ℤ) → int_lt a b ≡ true → b ≤ℤ c → a ≤ℤ c
        chain a b c less more = grind (arith, ints)
    by_test false lost further kept found = let h = kept found in (h.0, All-cons (λ y. y ≤ℤ m) x xs (chain first x m lost h.0) h.1)
      where
        chain : (a b c : ℤ) → int_lt a b ≡ false → a ≤ℤ c → b ≤ℤ c
        chain a b c less more = grind (arith, ints)

least-from : (xs : List ℤ) (first m : ℤ) → fold (better int_lt) (Some first) xs ≡ Some m → (m ≤ℤ first) × All (λ x. m ≤ℤ x) xs
least-from [] first m is = (best-from int_lt (λ z. z ≤ℤ first) [] first m (omega (arith, ints)) (All-nil (λ z. z ≤ℤ first)) is, All-nil (λ x. m ≤ℤ x))
least-from (x ∷ xs) first m is = by_test (int_lt x first) refl (least-from xs x m) (least-from xs first m) is
  where
    by_test : (b : Bool) → int_lt x first ≡ b → (fold (better int_lt) (Some x) xs ≡ Some m → (m ≤ℤ x) × All (λ x. m ≤ℤ x) xs) → (fold (better int_lt) (Some first) xs ≡ Some m → (m ≤ℤ first) × All (λ x. m ≤ℤ x) xs)
        → fold (better int_lt) (cond b (Some x) (Some first)) xs ≡ Some m → (m ≤ℤ first) × All (λ x. m ≤ℤ x) (x ∷ xs)
    by_test true won further kept found = let h = further found in (chain x first m won h.0, All-cons (λ y. m ≤ℤ y) x xs h.0 h.1)
      where
        chain : (a b c : ℤ) → int_lt a b ≡ true → c ≤ℤ a → c ≤ℤ b
        chain a b c less more = grind (arith, ints)
    by_test false lost further kept found = let h = kept found in (h.0, All-cons (λ y. m ≤ℤ y) x xs (chain x first m lost h.0) h.1)
      where
        chain : (a b c : ℤ) → int_lt a b ≡ false → c ≤ℤ b → c ≤ℤ a
        chain a b c less more = grind (arith, ints)

greatest-all : (xs : List ℤ) (m : ℤ) → greatest xs ≡ Some m → All (λ x. x ≤ℤ m) xs
greatest-all [] m is = All-nil (λ x. x ≤ℤ m)
greatest-all (x ∷ xs) m is = let h = greatest-from xs x m is in All-cons (λ y. y ≤ℤ m) x xs h.0 h.1

least-all : (xs : List ℤ) (m : ℤ) → least xs ≡ Some m → All (λ x. m ≤ℤ x) xs
least-all [] m is = All-nil (λ x. m ≤ℤ x)
least-all (x ∷ xs) m is = let h = least-from xs x m is in All-cons (λ y. m ≤ℤ y) x xs h.0 h.1

-- where one number alone passes a test, and is there, it is the best of those that pass
same-fold : (beats : ℤ → ℤ → Bool) (m : ℤ) (ys : List ℤ) → All (λ y. y ≡ m) ys → fold (better beats) (Some m) ys ≡ Some m
same-fold beats m [] all = refl
same-fold beats m (y ∷ ys) all =
    ap (λ (z : ℤ). fold (better beats) (cond (beats z m) (Some z) (Some m)) ys) (All-head (λ z. z ≡ m) y ys all) ∙ by_test (beats m m) (same-fold beats m ys (All-tail (λ z. z ≡ m) y ys all))
  where
    by_test : (b : Bool) → fold (better beats) (Some m) ys ≡ Some m → fold (better beats) (cond b (Some m) (Some m)) ys ≡ Some m
    by_test true further = further
    by_test false further = further

passes-only : (p : ℤ → Bool) (m : ℤ) (xs : List ℤ) → All (λ x. p x ≡ true → x ≡ m) xs → All (λ y. y ≡ m) (filter p xs)
passes-only p m [] all = All-nil (λ y. y ≡ m)
passes-only p m (x ∷ xs) all = by_test (p x) refl (passes-only p m xs (All-tail (λ x. p x ≡ true → x ≡ m) x xs all))
  where
    by_test : (b : Bool) → p x ≡ b → All (λ y. y ≡ m) (filter p xs) → All (λ y. y ≡ m) (cond b (x ∷ filter p xs) (filter p xs))
    by_test true passed further = All-cons (λ y. y ≡ m) x (filter p xs) (All-head (λ x. p x ≡ true → x ≡ m) x xs all passed) further
    by_test false failed further = further

none-passes : (p : ℤ → Bool) (xs : List ℤ) → length (filter p xs) ≡ 0 → All (λ x. p x ≡ false) xs
none-passes p [] none = All-nil (λ x. p x ≡ false)
none-passes p (x ∷ xs) none = by_test (p x) refl (none-passes p xs) none
  where
    by_test : (b : Bool) → p x ≡ b → (length (filter p xs) ≡ 0 → All (λ x. p x ≡ false) xs) → length (cond b (x ∷ filter p xs) (filter p xs)) ≡ 0 → All (λ x. p x ≡ false) (x ∷ xs)
    by_test true passed further empty = absurd (omega arith)
    by_test false failed further empty = All-cons (λ x. p x ≡ false) x xs failed (further empty)

only-best : (beats wins : ℤ → ℤ → Bool) (p : ℤ → Bool) (m : ℤ) (xs : List ℤ) → best wins xs ≡ Some m → p m ≡ true → All (λ x. p x ≡ true → x ≡ m) xs → best beats (filter p xs) ≡ Some m
only-best beats wins p m xs there passed only = by_list (filter p xs) (passes-only p m xs only) (none-passes p xs)
  where
    by_list : (ys : List ℤ) → All (λ y. y ≡ m) ys → (length ys ≡ 0 → All (λ x. p x ≡ false) xs) → best beats ys ≡ Some m
    by_list [] all none = absurd (false≢true (sym (best-holds wins (λ x. p x ≡ false) xs m (none refl) there) ∙ passed))
    by_list (y ∷ ys) all none = ap (λ (z : ℤ). fold (better beats) (Some z) ys) (All-head (λ z. z ≡ m) y ys all) ∙ same-fold beats m ys (All-tail (λ z. z ≡ m) y ys all)

-- all intervals contain a point between their lower and their upper ends, and no others do
is-within : (low high x : ℤ) → low ≤ℤ x → x ≤ℤ high → (int_le low x && int_le x high) ≡ true
is-within low high x above below = grind (arith, ints)

within-low : (low high x : ℤ) → (int_le low x && int_le x high) ≡ true → low ≤ℤ x
within-low low high x h = grind (arith, ints)

within-high : (low high x : ℤ) → (int_le low x && int_le x high) ≡ true → x ≤ℤ high
within-high low high x h = grind (arith, ints)

cover-all : (cs : List Candidate) (x : ℤ) → All (λ y. y ≤ℤ x) (map lower cs) → All (λ y. x ≤ℤ y) (map upper cs) → cover cs x ≡ length cs
cover-all [] x lows highs = refl
cover-all (c ∷ cs) x lows highs =
    let here = count-yes (contains x) c cs (is-within (lower c) (upper c) x (All-head (λ y. y ≤ℤ x) (lower c) (map lower cs) lows) (All-head (λ y. x ≤ℤ y) (upper c) (map upper cs) highs)) in
    let further = cover-all cs x (All-tail (λ y. y ≤ℤ x) (lower c) (map lower cs) lows) (All-tail (λ y. x ≤ℤ y) (upper c) (map upper cs) highs) in
    omega arith

contained : (cs : List Candidate) (x : ℤ) → length cs ≤ cover cs x → All (λ c. contains x c ≡ true) cs
contained [] x all = All-nil (λ c. contains x c ≡ true)
contained (c ∷ cs) x all = by_test (contains x c) refl (contained cs x)
  where
    by_test : (b : Bool) → contains x c ≡ b → (length cs ≤ cover cs x → All (λ d. contains x d ≡ true) cs) → All (λ d. contains x d ≡ true) (c ∷ cs)
    by_test true here further = All-cons (λ d. contains x d ≡ true) c cs here (further (omega (arith, count-yes (contains x) c cs here)))
    by_test false here further = absurd (omega (arith, count-no (contains x) c cs here, count_by-le-length (contains x) cs))

held-all : (cs : List Candidate) (x : ℤ) → cover cs x ≡ length cs → is_held cs 0 x ≡ true
held-all cs x whole = le-leb (length cs) (cover cs x + 0) (omega arith)

all-held : (cs : List Candidate) (x : ℤ) → is_held cs 0 x ≡ true → All (λ c. contains x c ≡ true) cs
all-held cs x held = contained cs x (let least = leb-true (length cs) (cover cs x + 0) held in omega arith)

both : (x y : ℤ) → x ≤ℤ y → y ≤ℤ x → x ≡ y
both x y g h = omega (arith, ints)

chain : (x y z : ℤ) → x ≤ℤ y → y ≤ℤ z → x ≤ℤ z
chain x y z g h = omega (arith, ints)

-- the two ends
low-all : (cs : List Candidate) (low high : ℤ) → greatest (map lower cs) ≡ Some low → least (map upper cs) ≡ Some high → low ≤ℤ high → low_of cs 0 ≡ Some low
low-all cs low high low_is high_is ordered =
    let lows = greatest-all (map lower cs) low low_is in
    let highs = All-weaker (λ x. high ≤ℤ x) (λ x. low ≤ℤ x) (λ x above. chain low high x ordered above) (map upper cs) (least-all (map upper cs) high high_is) in
    only-best int_lt (λ x y. int_lt y x) (is_held cs 0) low (map lower cs) low_is (held-all cs low (cover-all cs low lows highs))
    (All-weaker (λ x. x ≤ℤ low) (λ x. is_held cs 0 x ≡ true → x ≡ low) (λ x upto held. both x low upto (best-holds (λ x y. int_lt y x) (λ y. y ≤ℤ x) (map lower cs) low (All-map (λ y. y ≤ℤ x) lower cs (All-weaker (λ c. contains x c ≡ true) (λ c. lower c ≤ℤ x) (λ c h. within-low (lower c) (upper c) x h) cs (all-held cs x held))) low_is)) (map lower cs) lows)

high-all : (cs : List Candidate) (low high : ℤ) → greatest (map lower cs) ≡ Some low → least (map upper cs) ≡ Some high → low ≤ℤ high → high_of cs 0 ≡ Some high
high-all cs low high low_is high_is ordered =
    let highs = least-all (map upper cs) high high_is in
    let lows = All-weaker (λ x. x ≤ℤ low) (λ x. x ≤ℤ high) (λ x below. chain x low high below ordered) (map lower cs) (greatest-all (map lower cs) low low_is) in
    only-best (λ x y. int_lt y x) int_lt (is_held cs 0) high (map upper cs) high_is (held-all cs high (cover-all cs high lows highs))
    (All-weaker (λ x. high ≤ℤ x) (λ x. is_held cs 0 x ≡ true → x ≡ high) (λ x from held. both x high (best-holds int_lt (λ y. x ≤ℤ y) (map upper cs) high (All-map (λ y. x ≤ℤ y) upper cs (All-weaker (λ c. contains x c ≡ true) (λ c. x ≤ℤ upper c) (λ c h. within-high (lower c) (upper c) x h) cs (all-held cs x held))) high_is) from) (map upper cs) highs)

-- so the interval of the two is the one that selection finds
parts-of : (cs : List Candidate) (low high : ℤ) → serves cs 0 low high ≡ true → (0 < length cs) × (low ≤ℤ high)
parts-of cs low high good =
    let parts = and_parts (nat_lt (2 * 0) (length cs)) (int_lt low high) (and_parts (nat_lt (2 * 0) (length cs) && int_lt low high) (nat_le (outside cs low high) 0) good).0 in
    let some = ltb-true (2 * 0) (length cs) parts.0 in
    (omega arith, less low high parts.1)
  where
    less : (x y : ℤ) → int_lt x y ≡ true → x ≤ℤ y
    less x y h = grind (arith, ints)

pub unanimous-chime : (cs : List Candidate) (low high : ℤ) → greatest (map lower cs) ≡ Some low → least (map upper cs) ≡ Some high → serves cs 0 low high ≡ true → chime_of cs ≡ Some (record { low = low; high = high; allowed = 0 })
unanimous-chime cs low high low_is high_is good =
    let parts = parts-of cs low high good in
    let whole : length cs ≡ length cs - 0 = omega arith in
    ap (λ (n : ℕ). slice_get (filter_map (chime_allowing cs) (range_with_len 0 n)) 0) whole
    ∙ first-some (chime_allowing cs) 0 (length cs) (record { low = low; high = high; allowed = 0 }) parts.0
    ((λ i. chime_between cs 0 (low-all cs low high low_is high_is parts.1 i) (high-all cs low high low_is high_is parts.1 i)) ∙ ap (λ (b : Bool). cond b (Some (record { low = low; high = high; allowed = 0 })) None) good)

pub unanimous-narrow : (cs : List Candidate) (low high : ℤ) → are_measured cs ≡ true → greatest (map lower cs) ≡ Some low → least (map upper cs) ≡ Some high → serves cs 0 low high ≡ true → (high -ℤ low) ≤ℤ pos (2 ^ 33)
unanimous-narrow cs low high measured low_is high_is good =
    let parts = parts-of cs low high good in
    chime-narrow cs 0 low high measured good (sym (low-all cs low high low_is high_is parts.1)) (sym (high-all cs low high low_is high_is parts.1))
