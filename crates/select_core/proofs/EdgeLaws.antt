-- Going over the points at which intervals begin, with a count of those that have begun and of those that have ended, finds the edge.
use Rattle.std.proofs.Common.{◌≡◌, ℕ, zero, suc, ◌+◌, ◌-◌, ◌<◌, ◌≤◌, ◌⊎◌, inl, inr, Bool, true, false, not, List, [], ◌∷◌, ℤ, refl, sym, ap, ◌∙◌, arith, subst, length, get_or}
use Rattle.std.specs.Prelude.{None, Some, filter, count_by, int_lt}
use Rattle.std.proofs.lemmas.Bool.{cases_order, leb-true, le-leb, not_from_false, not_from_true, false≢true}
use Rattle.std.proofs.lemmas.List.{get_or-reverse, length-reverse}
use Rattle.select_core.specs.Ends.{begun, edge, ended, is_open, is_sooner, on_the_way}
use Rattle.select_core.specs.Points.{AreAlike, AreUpward}
use Rattle.select_core.specs.declared.ends.Side.{Side}
use Rattle.select_core.specs.declared.ends.Side.TheVariants.{Lower, Upper}
use Rattle.select_core.proofs.AlikeLaws.{alike-filter, alike-reverse, best-alike, best-nowhere, best-passing}
use Rattle.select_core.proofs.NarrowLaws.{count-no, count-yes}
use Rattle.select_core.proofs.PointLaws.{default-free, upward-at}
use Rattle.select_core.proofs.SoonerLaws.{sooner-from-prefix, sooner-never, sooner-same, sooner-to-following}

pub length-way : (from : Side) (points : List ℤ) → length (on_the_way from points) ≡ length points
length-way Lower points = refl
length-way Upper points = length-reverse points

pub way-alike : (from : Side) (points : List ℤ) → AreAlike (on_the_way from points) points
way-alike Lower points = λ test. refl
way-alike Upper points = alike-reverse points

-- no point that is come to later is sooner
pub way-order : (from : Side) (points : List ℤ) (i j : ℕ) (d : ℤ) → AreUpward points → i ≤ j → j < length points → is_sooner from (get_or (on_the_way from points) j d) (get_or (on_the_way from points) i d) ≡ false
way-order Lower points i j d order up below = upward-at points i j d order up below
way-order Upper points i j d order up below =
    (λ k. int_lt (get_or-reverse points i d (omega arith) k) (get_or-reverse points j d below k))
    ∙ upward-at points (length points - 1 - j) (length points - 1 - i) d order (omega arith) (omega arith)

-- counts by places
pub count-prefix : {X : Type 0} (p : X → Bool) (xs : List X) (n : ℕ) → n ≤ length xs → ((k : ℕ) (d : X) → k < n → p (get_or xs k d) ≡ true) → ((k : ℕ) (d : X) → n ≤ k → k < length xs → p (get_or xs k d) ≡ false) → count_by p xs ≡ n
count-prefix p [] n within passed failed = omega arith
count-prefix p (x ∷ xs) zero within passed failed = count-no p x xs (failed 0 x (omega arith) (omega arith)) ∙ count-prefix p xs 0 (omega arith) (λ k d below. absurd (omega arith)) (λ k d past below. failed (suc k) d (omega arith) (omega arith))
count-prefix p (x ∷ xs) (suc n) within passed failed =
    let further = count-prefix p xs n (omega arith) (λ k d below. passed (suc k) d (omega arith)) (λ k d past below. failed (suc k) d (omega arith) (omega arith)) in
    omega (arith, count-yes p x xs (passed 0 x (omega arith)))

count-least : {X : Type 0} (p : X → Bool) (xs : List X) (n : ℕ) → n ≤ length xs → ((k : ℕ) (d : X) → k < n → p (get_or xs k d) ≡ true) → n ≤ count_by p xs
count-least p [] n within passed = omega arith
count-least p (x ∷ xs) zero within passed = omega arith
count-least p (x ∷ xs) (suc n) within passed = let further = count-least p xs n (omega arith) (λ k d below. passed (suc k) d (omega arith)) in omega (arith, count-yes p x xs (passed 0 x (omega arith)))

count-most : {X : Type 0} (p : X → Bool) (xs : List X) (n : ℕ) → ((k : ℕ) (d : X) → n ≤ k → k < length xs → p (get_or xs k d) ≡ false) → count_by p xs ≤ n
count-most p [] n failed = omega arith
count-most p (x ∷ xs) zero failed = let further = count-most p xs 0 (λ k d past below. failed (suc k) d (omega arith) (omega arith)) in omega (arith, count-no p x xs (failed 0 x (omega arith) (omega arith)))
count-most {X} p (x ∷ xs) (suc n) failed = by_test (p x) refl (count-most p xs n (λ k d past below. failed (suc k) d (omega arith) (omega arith)))
  where
    by_test : (b : Bool) → p x ≡ b → count_by p xs ≤ n → count_by p (x ∷ xs) ≤ suc n
    by_test true here further = omega (arith, count-yes p x xs here)
    by_test false here further = omega (arith, count-no p x xs here)

-- an open point that was come to is where the next one is
abbrev pub Waits : Side → List ℤ → List ℤ → ℕ → ℕ → Type 0
Waits from begins ends wanted i = (k : ℕ) (d : ℤ) → k < i → is_open from wanted begins ends (get_or (on_the_way from begins) k d) ≡ true
    → (i < length begins) × (get_or (on_the_way from begins) i d ≡ get_or (on_the_way from begins) k d)

pub waits-first : (from : Side) (begins ends : List ℤ) (wanted : ℕ) → Waits from begins ends wanted 0
waits-first from begins ends wanted = λ k d below open_there. absurd (omega arith)

module _ (from : Side) (begins ends : List ℤ) (wanted : ℕ) (order : AreUpward begins) where
  abbrev way : List ℤ
  way = on_the_way from begins

  abbrev open_at : ℤ → Bool
  open_at x = is_open from wanted begins ends x

  -- this many have begun at least, and where the next one is later no more
  begun-least : (i : ℕ) (d : ℤ) → i < length begins → i + 1 ≤ begun from begins (get_or way i d)
  begun-least i d below =
      let counted = count-least (λ y. not (is_sooner from (get_or way i d) y)) way (i + 1) (omega (arith, length-way from begins))
      (λ k e upto. not_from_false (is_sooner from (get_or way i d) (get_or way k e)) (subst (λ (x : ℤ). is_sooner from x (get_or way k e) ≡ false) (default-free way i e d (omega (arith, length-way from begins))) (way-order from begins k i e order (omega arith) below))) in
      omega (arith, counted, way-alike from begins (λ y. not (is_sooner from (get_or way i d) y)))

  begun-most : (i : ℕ) (d : ℤ) → i < length begins → ((j : ℕ) (e : ℤ) → i + 1 ≤ j → j < length begins → is_sooner from (get_or way i d) (get_or way j e) ≡ true) → begun from begins (get_or way i d) ≤ i + 1
  begun-most i d below later =
      let counted = count-most (λ y. not (is_sooner from (get_or way i d) y)) way (i + 1)
      (λ j e past less. not_from_true (is_sooner from (get_or way i d) (get_or way j e)) (later j e past (omega (arith, length-way from begins)))) in
      omega (arith, counted, way-alike from begins (λ y. not (is_sooner from (get_or way i d) y)))

  -- at a point that is open, where too few were counted, the next one is too
  next-same : (i over : ℕ) (d : ℤ) → i < length begins → over ≡ ended from ends (get_or way i d) → i + 1 < over + wanted → open_at (get_or way i d) ≡ true
      → (i + 1 < length begins) × (get_or way (i + 1) d ≡ get_or way i d)
  next-same i over d below is few open_here = by_next (is_sooner from (get_or way i d) (get_or way (i + 1) d)) refl
    where
      enough : ended from ends (get_or way i d) + wanted ≤ begun from begins (get_or way i d)
      enough = leb-true (ended from ends (get_or way i d) + wanted) (begun from begins (get_or way i d)) open_here

      there : i + 1 < length begins
      there = by_order (cases_order (i + 1) (length begins))
        where
          by_order : (i + 1 ≡ length begins) ⊎ ((i + 1 < length begins) ⊎ (length begins < i + 1)) → i + 1 < length begins
          by_order (inl last) = let most = begun-most i d below (λ j e past less. absurd (omega arith)) in absurd (omega (arith, enough, is, most))
          by_order (inr (inl less)) = less
          by_order (inr (inr more)) = absurd (omega arith)

      by_next : (b : Bool) → is_sooner from (get_or way i d) (get_or way (i + 1) d) ≡ b → (i + 1 < length begins) × (get_or way (i + 1) d ≡ get_or way i d)
      by_next false not_later = (there, sooner-same from (get_or way (i + 1) d) (get_or way i d) (way-order from begins i (i + 1) d order (omega arith) there) not_later)
      by_next true later =
          let most = begun-most i d below (λ j e past less. subst (λ (x : ℤ). is_sooner from (get_or way i d) x ≡ true) (default-free way j d e (omega (arith, length-way from begins)))
          (sooner-to-following from (get_or way i d) (get_or way (i + 1) d) (get_or way j d) later (way-order from begins (i + 1) j d order past less))) in
          absurd (omega (arith, enough, is, most))

  pub waits-next : (i over : ℕ) (at : ℤ) → i < length begins → at ≡ get_or way i at → over ≡ ended from ends at → i + 1 < over + wanted → Waits from begins ends wanted i → Waits from begins ends wanted (i + 1)
  waits-next i over at below here is few waits = λ k d upto open_there. by_order k d open_there (cases_order k i) upto
    where
      at_any : (d : ℤ) → at ≡ get_or way i d
      at_any d = here ∙ default-free way i at d (omega (arith, length-way from begins))

      from_here : (d : ℤ) → open_at (get_or way i d) ≡ true → (i + 1 < length begins) × (get_or way (i + 1) d ≡ get_or way i d)
      from_here d open_here = next-same i over d below (is ∙ ap (ended from ends) (at_any d)) few open_here

      by_order : (k : ℕ) (d : ℤ) → open_at (get_or way k d) ≡ true → (k ≡ i) ⊎ ((k < i) ⊎ (i < k)) → k < i + 1 → (i + 1 < length begins) × (get_or way (i + 1) d ≡ get_or way k d)
      by_order k d open_there (inl same) upto =
          let on = from_here d (subst (λ (n : ℕ). open_at (get_or way n d) ≡ true) same open_there) in
          (on.0, on.1 ∙ ap (λ (n : ℕ). get_or way n d) (sym same))
      by_order k d open_there (inr (inl less)) upto =
          let before = waits k d less open_there in
          let on = from_here d (subst (λ (x : ℤ). open_at x ≡ true) (sym before.1) open_there) in
          (on.0, on.1 ∙ before.1)
      by_order k d open_there (inr (inr more)) upto = absurd (omega arith)

  -- the first at which enough are counted
  pub edge-here : (i over : ℕ) (at : ℤ) → i < length begins → at ≡ get_or way i at → over ≡ ended from ends at → over + wanted ≤ i + 1 → Waits from begins ends wanted i → Some at ≡ edge from wanted begins ends
  edge-here i over at below here is enough waits =
      sym (best-alike from (filter open_at begins) (filter open_at way) (alike-filter open_at begins way (λ test. sym (way-alike from begins test)))
      ∙ best-passing from open_at way i at (omega (arith, length-way from begins)) here open_here no_sooner)
    where
      open_here : open_at at ≡ true
      open_here =
          let begun_here = subst (λ (x : ℤ). i + 1 ≤ begun from begins x) (sym here) (begun-least i at below) in
          le-leb (ended from ends at + wanted) (begun from begins at) (omega (arith, is))

      no_sooner : (j : ℕ) (d : ℤ) → j < length way → open_at (get_or way j d) ≡ true → is_sooner from (get_or way j d) at ≡ false
      no_sooner j d less open_there = by_order (cases_order j i)
        where
          at_any : at ≡ get_or way i d
          at_any = here ∙ default-free way i at d (omega (arith, length-way from begins))

          ahead : i ≤ j → is_sooner from (get_or way j d) at ≡ false
          ahead upto = subst (λ (x : ℤ). is_sooner from (get_or way j d) x ≡ false) (sym at_any) (way-order from begins i j d order upto (omega (arith, length-way from begins)))

          by_order : (j ≡ i) ⊎ ((j < i) ⊎ (i < j)) → is_sooner from (get_or way j d) at ≡ false
          by_order (inl same) = ahead (omega arith)
          by_order (inr (inl before)) = subst (λ (x : ℤ). is_sooner from x at ≡ false) (at_any ∙ (waits j d before open_there).1) (sooner-never from at)
          by_order (inr (inr past)) = ahead (omega arith)

  pub edge-nowhere : (i : ℕ) → length begins ≤ i → Waits from begins ends wanted i → None ≡ edge from wanted begins ends
  edge-nowhere i past waits =
      sym (best-alike from (filter open_at begins) (filter open_at way) (alike-filter open_at begins way (λ test. sym (way-alike from begins test)))
      ∙ best-nowhere from open_at way (λ j d less. by_test j d less (open_at (get_or way j d)) refl))
    where
      by_test : (j : ℕ) (d : ℤ) → j < length way → (b : Bool) → open_at (get_or way j d) ≡ b → open_at (get_or way j d) ≡ false
      by_test j d less false is = is
      by_test j d less true is = absurd (let there = (waits j d (omega (arith, length-way from begins)) is).0 in omega arith)

-- of the points this many are sooner, where those before them are and the next is not
pub passed-is : (from : Side) (points : List ℤ) (n : ℕ) (at : ℤ) → AreUpward points → n ≤ length points
    → ((k : ℕ) (d : ℤ) → k < n → is_sooner from (get_or (on_the_way from points) k d) at ≡ true) → ((d : ℤ) → n < length points → is_sooner from (get_or (on_the_way from points) n d) at ≡ false) → n ≡ ended from points at
passed-is from points n at order within prefix next =
    sym (sym (way-alike from points (λ y. is_sooner from y at))
    ∙ count-prefix (λ y. is_sooner from y at) (on_the_way from points) n (omega (arith, length-way from points)) prefix
    (λ k d past below. by_test k d past (omega (arith, length-way from points)) (is_sooner from (get_or (on_the_way from points) k d) at) refl))
  where
    by_test : (k : ℕ) (d : ℤ) → n ≤ k → k < length points → (b : Bool) → is_sooner from (get_or (on_the_way from points) k d) at ≡ b → is_sooner from (get_or (on_the_way from points) k d) at ≡ false
    by_test k d past below false is = is
    by_test k d past below true is = absurd (false≢true (sym (next d (omega arith)) ∙ sooner-from-prefix from (get_or (on_the_way from points) n d) (get_or (on_the_way from points) k d) at (way-order from points n k d order past below) is))

-- what was passed at a point is passed at each that is come to later
pub passed-later : (from : Side) (begins : List ℤ) (i : ℕ) (at x : ℤ) → AreUpward begins → at ≡ get_or (on_the_way from begins) i at → is_sooner from x at ≡ true
    → (j : ℕ) (e : ℤ) → i ≤ j → j < length begins → is_sooner from x (get_or (on_the_way from begins) j e) ≡ true
passed-later from begins i at x order here passed j e up below =
    sooner-to-following from x at (get_or (on_the_way from begins) j e) passed
    (subst (λ (y : ℤ). is_sooner from (get_or (on_the_way from begins) j e) y ≡ false) (default-free (on_the_way from begins) i e at (omega (arith, length-way from begins)) ∙ sym here) (way-order from begins i j e order up below))

-- one more that is sooner
pub prefix-next : (from : Side) (points : List ℤ) (n : ℕ) (at x : ℤ) → ((k : ℕ) (d : ℤ) → k < n → is_sooner from (get_or (on_the_way from points) k d) at ≡ true) → n < length points → x ≡ get_or (on_the_way from points) n x → is_sooner from x at ≡ true
    → (k : ℕ) (d : ℤ) → k < n + 1 → is_sooner from (get_or (on_the_way from points) k d) at ≡ true
prefix-next from points n at x prefix below here passed = λ k d upto. by_order k d upto (cases_order k n)
  where
    by_order : (k : ℕ) (d : ℤ) → k < n + 1 → (k ≡ n) ⊎ ((k < n) ⊎ (n < k)) → is_sooner from (get_or (on_the_way from points) k d) at ≡ true
    by_order k d upto (inl same) =
        subst (λ (m : ℕ). is_sooner from (get_or (on_the_way from points) m d) at ≡ true) (sym same)
        (subst (λ (y : ℤ). is_sooner from y at ≡ true) (here ∙ default-free (on_the_way from points) n x d (omega (arith, length-way from points))) passed)
    by_order k d upto (inr (inl less)) = prefix k d less
    by_order k d upto (inr (inr more)) = absurd (omega arith)
