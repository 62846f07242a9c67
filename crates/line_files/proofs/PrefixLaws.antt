-- What was read of a file that reported its bytes is a prefix of them.
use Rattle.std.proofs.Common.{◌≡◌, ℕ, Option, Some, None, List, [], ◌++◌, refl, ap, sym, ◌∙◌, subst, arith}
use Rattle.std.specs.Prelude.{IsSome}
use Rattle.std.proofs.lemmas.List.{append-nil}
use Rattle.std.proofs.lemmas.Bool.{false≢true}
use Rattle.outside_traits.specs.Faults.{Rose, RoseByOne}
use Rattle.outside_traits.specs.States.{Takes, NoneLeft}

-- the bytes read of a file that reported its bytes are a beginning of them
pub prefix_of : (left left_now : Option (List ℕ)) (text bytes : List ℕ) → left ≡ Some text → IsSome left_now → Takes left left_now bytes → (rest : List ℕ) × (left_now ≡ Some rest) × (text ≡ bytes ++ rest)
prefix_of left None text bytes reported reports takes = absurd (false≢true reports)
prefix_of None (Some rest) text bytes reported reports takes = absurd takes
prefix_of (Some left) (Some rest) text bytes reported reports takes = let e : left ≡ text = cc in (rest, refl, sym e ∙ takes)

pub none_left : (left_now : Option (List ℕ)) (rest : List ℕ) → left_now ≡ Some rest → NoneLeft left_now → rest ≡ []
none_left left_now rest e h = subst NoneLeft e h

pub rose_by_one : (before now : ℕ) → RoseByOne before now → Rose before now
rose_by_one before now e = omega arith

pub whole_text : (bytes extra rest text : List ℕ) → text ≡ (bytes ++ extra) ++ rest → extra ≡ [] → rest ≡ [] → text ≡ bytes
whole_text bytes extra rest text e none nothing =
    e ∙ ap (λ (x : List ℕ). (bytes ++ x) ++ rest) none ∙ ap (λ (r : List ℕ). (bytes ++ []) ++ r) nothing ∙ append-nil (bytes ++ []) ∙ append-nil bytes
