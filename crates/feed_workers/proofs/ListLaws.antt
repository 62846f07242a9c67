-- Lists, place by place and side by side.
use Rattle.std.proofs.Common.{◌≡◌, ◌⊎◌, inl, inr, ℕ, zero, suc, ◌+◌, ◌-◌, ◌<◌, ◌≤◌, List, [], ◌∷◌, ◌++◌, take, drop, remove, map, length, refl, sym, ap, ◌∙◌, subst, arith, length-append, append_assoc}
use Rattle.std.specs.List.{range_with_len}
use Rattle.std.specs.Option.{option_to_list}
use Rattle.std.specs.Prelude.{All, IfSome, Option, None, Some, is_some, option_map, get_or, slice_get, slice_set, slice_index_or}
use Rattle.std.proofs.lemmas.List.{append-nil, map-append, length-map, get_or-map, get_or_append_left, get_or-append_right, take_more, set-get_or}
use Rattle.std.proofs.lemmas.Bool.{true≢false}
use Rattle.std.proofs.lemmas.Option.{get_or_from_slice_get}
use Rattle.std.proofs.Math.Seq.{take-length}
use Rattle.std.proofs.lemmas.List.Elements.{All-nil, All-cons, All-head, All-tail, All-push, All-weaker}
use Rattle.feed_workers.specs.Lists.{Both, Each, Pairs, PairsPrefix}
use Rattle.station_values.specs.Station.{leap_feeds}

pub reported_more : {J : Type 0} (seen : J → ℕ) (xs : List J) (i a b : ℕ) (d : J) → i < length xs → a ≤ b → seen (get_or xs i d) ≤ b → All (λ j. seen j ≤ a) (take i xs) → All (λ j. seen j ≤ b) (take (i + 1) xs)
reported_more seen xs i a b d lt le one all =
    subst (All (λ j. seen j ≤ b)) (sym (take_more xs i d lt)) (All-push (λ j. seen j ≤ b) (take i xs) (get_or xs i d) (All-weaker (λ j. seen j ≤ a) (λ j. seen j ≤ b) (λ j h. omega arith) (take i xs) all) one)

pub reported_all : {J : Type 0} (P : J → Type 0) (xs : List J) (i : ℕ) → i ≡ length xs → All P (take i xs) → All P xs
reported_all P xs i e all = subst (All P) (ap (λ n. take n xs) e ∙ take-length xs) all

pub same_set : {J : Type 0} (xs : List J) (i : ℕ) (d x : J) → x ≡ get_or xs i d → slice_set xs i x ≡ xs
same_set xs i d x e = ap (λ y. slice_set xs i y) e ∙ set-get_or xs i d

-- one more of both lists
pub pairs_more : {X Y : Type 0} (belong : X → Y → Type 0) (xs : List X) (ys : List Y) (x : X) (y : Y) → Pairs belong xs ys → belong x y → Pairs belong (xs ++ x ∷ []) (ys ++ y ∷ [])
pairs_more belong [] [] x y p one = (one, tt)
pairs_more belong [] (b ∷ ys) x y p one = absurd p
pairs_more belong (a ∷ xs) [] x y p one = absurd p
pairs_more belong (a ∷ xs) (b ∷ ys) x y p one = (p.0, pairs_more belong xs ys x y p.1 one)

pub prefix_none : {X Y : Type 0} (belong : X → Y → Type 0) (all : List X) (ys : List Y) → ys ≡ [] → PairsPrefix belong all all ys
prefix_none belong all ys none = record { prefix = []; is = refl; pairs = subst (λ l. Pairs belong [] l) (sym none) tt }

pub prefix_more : {X Y : Type 0} (belong : X → Y → Type 0) (all rest more : List X) (ys zs : List Y) (x : X) (y : Y) → rest ≡ x ∷ more → zs ≡ ys ++ y ∷ [] → PairsPrefix belong all rest ys → belong x y → PairsPrefix belong all more zs
prefix_more belong all rest more ys zs x y split pushed p one = record {
  prefix = p.prefix ++ x ∷ [];
  is = append_assoc p.prefix (x ∷ []) more ∙ ap (λ l. p.prefix ++ l) (sym split) ∙ p.is;
  pairs = subst (λ l. Pairs belong (p.prefix ++ x ∷ []) l) (sym pushed) (pairs_more belong p.prefix ys x y p.pairs one);
}

pub prefix_whole : {X Y : Type 0} (belong : X → Y → Type 0) (all rest : List X) (ys : List Y) → rest ≡ [] → PairsPrefix belong all rest ys → Pairs belong all ys
prefix_whole belong all rest ys none p = subst (λ l. Pairs belong l ys) (sym (append-nil p.prefix) ∙ ap (λ l. p.prefix ++ l) (sym none) ∙ p.is) p.pairs

pub pairs_length : {X Y : Type 0} (belong : X → Y → Type 0) (xs : List X) (ys : List Y) → Pairs belong xs ys → length ys ≡ length xs
pairs_length belong [] [] p = refl
pairs_length belong [] (y ∷ ys) p = absurd p
pairs_length belong (x ∷ xs) [] p = absurd p
pairs_length belong (x ∷ xs) (y ∷ ys) p = ap suc (pairs_length belong xs ys p.1)

pub pairs_at : {X Y : Type 0} (belong : X → Y → Type 0) (xs : List X) (ys : List Y) (i : ℕ) (d : X) (e : Y) → Pairs belong xs ys → i < length xs → belong (get_or xs i d) (get_or ys i e)
pairs_at belong [] ys i d e p lt = absurd (omega arith)
pairs_at belong (x ∷ xs) [] i d e p lt = absurd p
pairs_at belong (x ∷ xs) (y ∷ ys) zero d e p lt = p.0
pairs_at belong (x ∷ xs) (y ∷ ys) (suc i) d e p lt = pairs_at belong xs ys i d e p.1 (omega arith)

-- some item of a list that is not empty
pub some_of : {X : Type 0} (xs : List X) (i : ℕ) → i < length xs → X
some_of [] i lt = absurd (omega arith)
some_of (x ∷ xs) i lt = x

pub below_or : (i n : ℕ) → (i < n) ⊎ (n ≤ i)
below_or i zero = inr (omega arith)
below_or zero (suc n) = inl (omega arith)
below_or (suc i) (suc n) = next (below_or i n)
  where
    next : (i < n) ⊎ (n ≤ i) → (suc i < suc n) ⊎ (suc n ≤ suc i)
    next (inl h) = inl (omega arith)
    next (inr h) = inr (omega arith)

pub snoc_view : {X : Type 0} (xs : List X) → (xs ≡ []) ⊎ ((r : List X) × (x : X) × (xs ≡ r ++ x ∷ []))
snoc_view [] = inl refl
snoc_view {X = X} (x ∷ xs) = go (snoc_view xs)
  where
    go : (xs ≡ []) ⊎ ((r : List X) × (y : X) × (xs ≡ r ++ y ∷ [])) → (x ∷ xs ≡ []) ⊎ ((r : List X) × (y : X) × (x ∷ xs ≡ r ++ y ∷ []))
    go (inl e) = inr ([], x, ap (λ l. x ∷ l) e)
    go (inr (r, y, e)) = inr (x ∷ r, y, ap (λ l. x ∷ l) e)

pub last_same : {X : Type 0} (prefix back : List X) (e x : X) → prefix ++ e ∷ [] ≡ back ++ x ∷ [] → e ≡ x
last_same [] [] e x q = ap (λ l. get_or l 0 e) q
last_same [] (b ∷ bs) e x q = absurd (let n = ap length q in omega (arith, length-append bs (x ∷ [])))
last_same (a ∷ cs) [] e x q = absurd (let n = ap length q in omega (arith, length-append cs (e ∷ [])))
last_same (a ∷ cs) (b ∷ bs) e x q = last_same cs bs e x (ap (λ l. drop 1 l) q)

pub all_right : {X : Type 0} (P : X → Type 0) (xs ys : List X) → All P (xs ++ ys) → All P ys
all_right P [] ys h = h
all_right P (x ∷ xs) ys h = all_right P xs ys (All-tail P x (xs ++ ys) h)

pub map_both : {X Y Z : Type 0} (f : Y → Z) (g : X → Y) (xs : List X) → map f (map g xs) ≡ map (λ x. f (g x)) xs
map_both f g [] = refl
map_both f g (x ∷ xs) = ap (λ l. f (g x) ∷ l) (map_both f g xs)

-- the item at a place of two lists, one after the other, each made from another
pub left_at : {X Y Z : Type 0} (f : X → Z) (g : Y → Z) (xs : List X) (ys : List Y) (i : ℕ) (d : X) → i < length xs → get_or (map f xs ++ map g ys) i (f d) ≡ f (get_or xs i d)
left_at f g xs ys i d lt = get_or_append_left (map f xs) (map g ys) (f d) i (omega (arith, lt, length-map xs f)) ∙ get_or-map f xs i d (f d) lt

pub right_at : {X Y Z : Type 0} (f : X → Z) (g : Y → Z) (xs : List X) (ys : List Y) (i : ℕ) (d : Y) → i < length ys → get_or (map f xs ++ map g ys) (length xs + i) (g d) ≡ g (get_or ys i d)
right_at f g xs ys i d lt =
    let m = length xs in
    let back : (m + i) - m ≡ i = omega arith in
    get_or-append_right (map f xs) (map g ys) m (m + i) (g d) (length-map xs f) (omega arith) ∙ ap (λ j. get_or (map g ys) j (g d)) back ∙ get_or-map g ys i d (g d) lt

-- what stays of each stays of all
pub each_map : {J X : Type 0} (f : J → X) (ran : J → J → Type 0) → ((a b : J) → ran a b → f b ≡ f a) → (before now : List J) → Each ran before now → length now ≡ length before → map f now ≡ map f before
each_map f ran keeps [] [] e same = refl
each_map f ran keeps [] (y ∷ ys) e same = absurd (omega (arith, same))
each_map f ran keeps (x ∷ xs) [] e same = absurd (omega (arith, same))
each_map f ran keeps (x ∷ xs) (y ∷ ys) e same =
    ap (λ z. z ∷ map f ys) (keeps x y (e.at 0 x (omega arith))) ∙ ap (λ l. f x ∷ l) (each_map f ran keeps xs ys (record { at = (λ i d lt. e.at (suc i) d (omega (arith, lt))) }) (omega (arith, same)))

pub each_keeps : {J : Type 0} (P : J → Type 0) (ran : J → J → Type 0) → ((a b : J) → ran a b → P a → P b) → (before now : List J) → Each ran before now → length now ≡ length before → All P before → All P now
each_keeps P ran keeps before now each same all = λ i d lt. keeps (get_or before i d) (get_or now i d) (each.at i d (omega (arith, lt, same))) (all i d (omega (arith, lt, same)))

pub pairs_keep : {X Y : Type 0} (P : X → Type 0) (Q : Y → Type 0) (belong : X → Y → Type 0) → ((x : X) (y : Y) → belong x y → P x → Q y) → (xs : List X) (ys : List Y) → Pairs belong xs ys → All P xs → All Q ys
pairs_keep P Q belong keeps [] [] p all = All-nil Q
pairs_keep P Q belong keeps [] (y ∷ ys) p all = absurd p
pairs_keep P Q belong keeps (x ∷ xs) [] p all = absurd p
pairs_keep P Q belong keeps (x ∷ xs) (y ∷ ys) p all = All-cons Q y ys (keeps x y p.0 (All-head P x xs all)) (pairs_keep P Q belong keeps xs ys p.1 (All-tail P x xs all))

-- all of them were taken
pub three_taken : {X : Type 0} (rs ps ls rest two one all : List X) → rs ++ one ≡ all → ps ++ two ≡ one → ls ++ rest ≡ two → length rs + length ps + length ls ≡ length all → rs ++ ps ++ ls ≡ all
three_taken rs ps ls [] two one all e f h n = append_assoc rs ps ls ∙ ap (λ l. rs ++ (ps ++ l)) (sym (append-nil ls) ∙ h) ∙ ap (λ l. rs ++ l) f ∙ e
three_taken rs ps ls (x ∷ rest) two one all e f h n =
    absurd (let a = ap length e in let b = ap length f in let c = ap length h in omega (arith, a, b, c, n, length-append rs one, length-append ps two, length-append ls (x ∷ rest)))

pub length-option-map : {X Y : Type 0} (f : X → Y) (o : Option X) → length (option_to_list (option_map f o)) ≡ length (option_to_list o)
length-option-map f None = refl
length-option-map f (Some x) = refl

pub at-most-one : {X : Type 0} (o : Option X) → length (option_to_list o) ≤ 1
at-most-one None = omega arith
at-most-one (Some x) = omega arith

pub length-is-some : {X Y : Type 0} (o : Option X) (p : Option Y) → is_some o ≡ is_some p → length (option_to_list o) ≡ length (option_to_list p)
length-is-some None None e = refl
length-is-some None (Some y) e = absurd (true≢false (sym e))
length-is-some (Some x) None e = absurd (true≢false e)
length-is-some (Some x) (Some y) e = refl

-- what was said of one that may be there is said of what it became
pub both_keeps : {X Y : Type 0} (P : Y → Type 0) (may : X → Type 0) (ran : X → Y → Type 0) → ((x : X) (y : Y) → ran x y → may x → P y) → (o : Option X) (p : Option Y) → Both ran o p → IfSome o may → All P (option_to_list p)
both_keeps P may ran keeps None None both h = All-nil P
both_keeps P may ran keeps None (Some y) both h = absurd both
both_keeps P may ran keeps (Some x) None both h = absurd both
both_keeps P may ran keeps (Some x) (Some y) both h = All-cons P y [] (keeps x y both h) (All-nil P)

pub leap_feeds-length : (name : Option (List ℕ)) → length (leap_feeds name) ≡ length (option_to_list name)
leap_feeds-length None = refl
leap_feeds-length (Some name) = refl

pub none_left : {X : Type 0} (ps rest all : List X) → ps ++ rest ≡ all → length ps ≡ length all → ps ≡ all
none_left ps [] all e n = sym (append-nil ps) ∙ e
none_left ps (x ∷ rest) all e n = absurd (let a = ap length e in omega (arith, a, n, length-append ps (x ∷ rest)))

-- the first item was removed
pub first_removed : {X : Type 0} (xs : List X) (x : X) → x ≡ slice_index_or xs 0 x → 0 < length xs → xs ≡ x ∷ remove xs 0
first_removed [] x is lt = absurd (omega (arith, lt))
first_removed (y ∷ xs) x is lt = ap (λ z. z ∷ xs) (sym is)

-- the next item of a list after those before it
pub take_one_more : {X : Type 0} (xs ys : List X) (n : ℕ) (x : X) → n < length xs → slice_get xs n ≡ Some x → ys ≡ take n xs → ys ++ x ∷ [] ≡ take (n + 1) xs
take_one_more xs ys n x lt at e = ap (λ l. l ++ x ∷ []) e ∙ ap (λ z. take n xs ++ z ∷ []) (sym (get_or_from_slice_get xs n x x at)) ∙ sym (take_more xs n x lt)

pub reported_whole : {X : Type 0} (xs : List X) (n : ℕ) → n ≡ length xs → take n xs ≡ xs
reported_whole xs n e = ap (λ k. take k xs) e ∙ take-length xs

pub pairs_none : {X Y : Type 0} (belong : X → Y → Type 0) (xs : List X) (ys : List Y) → length xs ≡ 0 → ys ≡ [] → Pairs belong xs ys
pairs_none belong [] ys n e = subst (λ l. Pairs belong [] l) (sym e) tt
pairs_none belong (x ∷ xs) ys n e = absurd (omega (arith, n))

pub pairs_one : {X Y : Type 0} (belong : X → Y → Type 0) (xs : List X) (ys : List Y) (x : X) (y : Y) → length xs ≡ 1 → slice_get xs 0 ≡ Some x → ys ≡ y ∷ [] → belong x y → Pairs belong xs ys
pairs_one belong [] ys x y n at e h = absurd (omega (arith, n))
pairs_one belong (a ∷ []) ys x y n at e h = subst (λ l. Pairs belong (a ∷ []) l) (sym e) (subst (λ z. belong z y) (sym (get_or_from_slice_get (a ∷ []) 0 x x at)) h, tt)
pairs_one belong (a ∷ b ∷ xs) ys x y n at e h = absurd (omega (arith, n))

-- one more was taken from the beginning of a list, and something was made of it
pub moved : {J X : Type 0} (f : J → X) (js ks : List J) (j : J) (xs ys : List X) (x : X) (all : List X) → ks ≡ js ++ j ∷ [] → xs ≡ x ∷ ys → f j ≡ x → map f js ++ xs ≡ all → map f ks ++ ys ≡ all
moved f js ks j xs ys x all pushed split same before =
    ap (λ l. map f l ++ ys) pushed ∙ ap (λ l. l ++ ys) (map-append f js (j ∷ [])) ∙ append_assoc (map f js) (f j ∷ []) ys ∙ ap (λ z. map f js ++ z ∷ ys) same ∙ ap (λ l. map f js ++ l) (sym split) ∙ before

pub all_rest : {X : Type 0} (P : X → Type 0) (xs ys : List X) (x : X) → xs ≡ x ∷ ys → All P xs → All P ys
all_rest P xs ys x split all = All-tail P x ys (subst (All P) split all)

-- one more was put after a list
pub all_pushed : {X : Type 0} (P : X → Type 0) (xs ys : List X) (x : X) → ys ≡ xs ++ x ∷ [] → All P xs → P x → All P ys
all_pushed P xs ys x pushed all one = subst (All P) (sym pushed) (All-push P xs x all one)

-- counting goes on by the next number
counted_more : (first n next : ℕ) → first + n ≡ next → range_with_len first (suc n) ≡ range_with_len first n ++ next ∷ []
counted_more first zero next e = let is : first ≡ next = omega (arith, e) in ap (λ k. k ∷ []) is
counted_more first (suc n) next e = ap (λ l. first ∷ l) (counted_more (first + 1) n next (omega (arith, e)))

-- one more was put after a list that is numbered from 0, with the next number
pub numbered_more : {J : Type 0} (number : J → ℕ) (js ks : List J) (j : J) (n m : ℕ) → ks ≡ js ++ j ∷ [] → number j ≡ n → m ≡ n + 1 → map number js ≡ range_with_len 0 n → map number ks ≡ range_with_len 0 m
numbered_more number js ks j n m pushed is more before =
    let next : suc n ≡ m = omega (arith, more) in
    ap (map number) pushed ∙ map-append number js (j ∷ []) ∙ ap (λ l. l ++ number j ∷ []) before ∙ ap (λ k. range_with_len 0 n ++ k ∷ []) is ∙ sym (counted_more 0 n n (omega arith)) ∙ ap (range_with_len 0) next
