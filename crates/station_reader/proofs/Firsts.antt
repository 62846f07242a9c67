-- What stands first in a list, and the table that a value is.
use Rattle.std.proofs.Common.{◌≡◌, ◌∙◌, ◌||◌, ◌+◌, ◌<◌, ℕ, zero, suc, true, false, Bool, List, [], ◌∷◌, ◌++◌, Option, Some, None, refl, sym, ap, arith, cond, drop, map, find, get_or, length, option_map, slice_get}
use Rattle.std.proofs.lemmas.Bool.{true≢false}
use Rattle.std.proofs.lemmas.Option.{same_Some}
use Rattle.std.specs.List.{list_any}
use Rattle.std.specs.Prelude.{is_some, is_none, if◌then◌else◌}
use Rattle.toml.specs.Data.{Data, Items, Members, array, as_array, as_table, boolean, datetime, float, integer, string, table}
use Rattle.toml.specs.Text.{are_tables}
use Rattle.station_reader.specs.Forms.{table_at, tables_from, tables_in}

pub any-map : {X Y : Type 0} (f : X → Y) (p : Y → Bool) (xs : List X) → list_any p (map f xs) ≡ list_any (λ x. p (f x)) xs
any-map f p [] = refl
any-map f p (x ∷ xs) = ap (λ b. p (f x) || b) (any-map f p xs)

-- ---- the first of two lists

pub first_none : {X : Type 0} (xs : List X) → None ≡ slice_get xs 0 → xs ≡ []
first_none [] e = refl
first_none (x ∷ xs) e = absurd (true≢false (sym (ap is_some e)))

pub first_some : {X : Type 0} (xs ys : List X) (x : X) → slice_get xs 0 ≡ Some x → slice_get (xs ++ ys) 0 ≡ Some x
first_some [] ys x e = absurd (true≢false (sym (ap is_some e)))
first_some (y ∷ xs) ys x e = e

pub first_map : {X Y : Type 0} (f : X → Y) (xs : List X) (x : X) → slice_get xs 0 ≡ Some x → slice_get (map f xs) 0 ≡ Some (f x)
first_map f [] x e = absurd (true≢false (sym (ap is_some e)))
first_map f (y ∷ xs) x e = ap (option_map f) e

-- what stands first in the first of two lists, or in both where it is empty
pub first_here : {X Y : Type 0} (f : X → Y) (xs : List X) (ys : List Y) (x : X) → Some x ≡ slice_get xs 0 → Some (f x) ≡ slice_get (map f xs ++ ys) 0
first_here f xs ys x e = sym (first_some (map f xs) ys (f x) (first_map f xs x (sym e)))

pub first_later : {X Y : Type 0} (f : X → Y) (xs : List X) (ys : List Y) → None ≡ slice_get xs 0 → map f xs ++ ys ≡ ys
first_later f xs ys e = ap (λ zs. map f zs ++ ys) (first_none xs e)

pub first_or : {X Y : Type 0} (f : X → Y) (o : Option X) (xs ys : List Y) → option_map f o ≡ slice_get xs 0 → is_some o ≡ true → option_map f o ≡ slice_get (xs ++ ys) 0
first_or f None xs ys e h = absurd (true≢false (sym h))
first_or f (Some x) xs ys e h = sym (first_some xs ys (f x) (sym e))

pub first_past : {X Y : Type 0} (f : X → Y) (o : Option X) (xs ys : List Y) → option_map f o ≡ slice_get xs 0 → is_some o ≡ false → xs ++ ys ≡ ys
first_past f None xs ys e h = ap (λ zs. zs ++ ys) (first_none xs e)
first_past f (Some x) xs ys e h = absurd (true≢false h)

pub none_of : {X Y : Type 0} (f : X → Y) (o : Option X) (xs : List Y) → option_map f o ≡ slice_get xs 0 → is_some o ≡ false → xs ≡ []
none_of f None xs e h = first_none xs e
none_of f (Some x) xs e h = absurd (true≢false h)

pub empty_map : {X Y : Type 0} (f : X → Y) (xs : List X) (ys : List Y) → map f xs ++ ys ≡ [] → xs ≡ []
empty_map f [] ys e = refl
empty_map f (x ∷ xs) ys e = absurd (true≢false (ap is_none (ap (λ zs. slice_get zs 0) (sym e))))

pub empty_prefix : {X : Type 0} (xs ys : List X) → xs ++ ys ≡ [] → xs ≡ []
empty_prefix [] ys e = refl
empty_prefix (x ∷ xs) ys e = absurd (true≢false (ap is_none (ap (λ zs. slice_get zs 0) (sym e))))

pub empty_back : {X : Type 0} (xs ys : List X) → xs ++ ys ≡ [] → ys ≡ []
empty_back [] ys e = e
empty_back (x ∷ xs) ys e = absurd (true≢false (ap is_none (ap (λ zs. slice_get zs 0) (sym e))))

found_in : {X Y : Type 0} (f : X → Y) (b : Bool) (x : X) (rest : Option X) → option_map f (cond b (Some x) rest) ≡ cond b (Some (f x)) (option_map f rest)
found_in f true x rest = refl
found_in f false x rest = refl

pub find-map : {X Y : Type 0} (f : X → Y) (p : Y → Bool) (xs : List X) → option_map f (find (λ x. p (f x)) xs) ≡ find p (map f xs)
find-map f p [] = refl
find-map f p (x ∷ xs) = found_in f (p (f x)) x (find (λ y. p (f y)) xs) ∙ ap (cond (p (f x)) (Some (f x))) (find-map f p xs)

-- the first that passes from a place on: the item there, or one after it
pub find-here : {X Y : Type 0} (f : X → Y) (p : Y → Bool) (xs : List X) (i : ℕ) (d : X) → i < length xs → p (f (get_or xs i d)) ≡ true → find p (map f (drop i xs)) ≡ Some (f (get_or xs i d))
find-here f p [] i d h e = absurd (omega arith)
find-here f p (x ∷ xs) zero d h e = ap (λ b. cond b (Some (f x)) (find p (map f xs))) e
find-here f p (x ∷ xs) (suc i) d h e = find-here f p xs i d (omega arith) e

pub find-later : {X Y : Type 0} (f : X → Y) (p : Y → Bool) (xs : List X) (i : ℕ) (d : X) → i < length xs → p (f (get_or xs i d)) ≡ false → find p (map f (drop i xs)) ≡ find p (map f (drop (i + 1) xs))
find-later f p [] i d h e = absurd (omega arith)
find-later f p (x ∷ xs) zero d h e = ap (λ b. cond b (Some (f x)) (find p (map f xs))) e
find-later f p (x ∷ xs) (suc i) d h e =
    let next : suc (i + 1) ≡ suc i + 1 = omega arith in
    find-later f p xs i d (omega arith) e ∙ ap (λ n. find p (map f (drop n (x ∷ xs)))) next

-- ---- the table that a value is, and the tables of an array

pub no_table : (place : ℕ) (d : Data) → None ≡ as_table d → table_at place d ≡ []
no_table place (string s) e = refl
no_table place (integer z) e = refl
no_table place (float x) e = refl
no_table place (boolean b) e = refl
no_table place (datetime t) e = refl
no_table place (array ds) e = refl
no_table place (table ms) e = absurd (true≢false (sym (ap is_some e)))

pub some_table : (place : ℕ) (d : Data) (m : Members) → Some m ≡ as_table d → table_at place d ≡ (place, m) ∷ []
some_table place (string s) m e = absurd (true≢false (ap is_some e))
some_table place (integer z) m e = absurd (true≢false (ap is_some e))
some_table place (float x) m e = absurd (true≢false (ap is_some e))
some_table place (boolean b) m e = absurd (true≢false (ap is_some e))
some_table place (datetime t) m e = absurd (true≢false (ap is_some e))
some_table place (array ds) m e = absurd (true≢false (ap is_some e))
some_table place (table ms) m e = ap (λ members. (place, members) ∷ []) (sym (same_Some _ _ e))

pub no_array : (d : Data) → None ≡ as_array d → None ≡ tables_in d
no_array (string s) e = refl
no_array (integer z) e = refl
no_array (float x) e = refl
no_array (boolean b) e = refl
no_array (datetime t) e = refl
no_array (array ds) e = absurd (true≢false (sym (ap is_some e)))
no_array (table ms) e = refl

pub some_array : (d : Data) (ds : Items) → Some ds ≡ as_array d → tables_in d ≡ (if are_tables ds then Some (tables_from 0 ds) else None)
some_array (string s) ds e = absurd (true≢false (ap is_some e))
some_array (integer z) ds e = absurd (true≢false (ap is_some e))
some_array (float x) ds e = absurd (true≢false (ap is_some e))
some_array (boolean b) ds e = absurd (true≢false (ap is_some e))
some_array (datetime t) ds e = absurd (true≢false (ap is_some e))
some_array (array es) ds e = ap (λ xs. if are_tables xs then Some (tables_from 0 xs) else None) (sym (same_Some _ _ e))
some_array (table ms) ds e = absurd (true≢false (ap is_some e))
