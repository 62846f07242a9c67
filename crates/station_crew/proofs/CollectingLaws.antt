-- What a loop keeps that takes workers from a list and puts what each of them leaves after what others left.
use Rattle.std.proofs.Common.{◌≡◌, ℕ, ◌+◌, ◌≤◌, List, [], ◌∷◌, ◌++◌, map, length, refl, sym, ap, ◌∙◌, arith, append_assoc}
use Rattle.std.specs.Prelude.{Option, None, Some}
use Rattle.std.specs.Option.{option_to_list}
use Rattle.std.proofs.lemmas.List.{append-nil}
use Rattle.feed_workers.specs.Lists.{Both}

-- one worker left one thing more
pub left_more : {J X : Type 0} (f : J → X) (xs ys : List X) (js ks : List J) (j : J) (x : X) (all : List X) → ys ≡ xs ++ x ∷ [] → js ≡ j ∷ ks → x ≡ f j → xs ++ map f js ≡ all → ys ++ map f ks ≡ all
left_more f xs ys js ks j x all pushed split same before =
    ap (λ l. l ++ map f ks) pushed ∙ append_assoc xs (x ∷ []) (map f ks) ∙ ap (λ z. xs ++ z ∷ map f ks) same ∙ ap (λ l. xs ++ map f l) (sym split) ∙ before

-- and there is room for what the others leave
pub room_after : {J : Type 0} (js ks : List J) (j : J) (before after room now : ℕ) → js ≡ j ∷ ks → after ≡ before + 1 → now ≡ room → before + length js ≤ room → after + length ks ≤ now
room_after js ks j before after room now split pushed same fits = let one = ap length split in omega (arith, one)

-- all of them left what they had
pub left_all : {J X : Type 0} (f : J → X) (xs ys : List X) (js ks all : List J) → js ≡ [] → ks ≡ all → xs ++ map f js ≡ ys ++ map f ks → xs ≡ ys ++ map f all
left_all f xs ys js ks all none given before = sym (append-nil xs) ∙ ap (λ l. xs ++ map f l) (sym none) ∙ before ∙ ap (λ l. ys ++ map f l) given

-- a worker that ran is still there
pub both_length : {X Y : Type 0} (ran : X → Y → Type 0) (o : Option X) (p : Option Y) → Both ran o p → length (option_to_list p) ≡ length (option_to_list o)
both_length ran None None both = refl
both_length ran None (Some y) both = absurd both
both_length ran (Some x) None both = absurd both
both_length ran (Some x) (Some y) both = refl
