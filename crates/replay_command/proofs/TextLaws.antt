-- The room after a text.
use Rattle.std.proofs.Common.{◌≡◌, ◌∙◌, ℕ, ◌+◌, ◌-◌, ◌≤◌, List, drop, sym, ap, arith}
use Rattle.std.proofs.lemmas.List.{drop-drop}

pub drop_on : (a b : ℕ) (xs ys : List ℕ) → a ≤ b → drop a xs ≡ drop a ys → drop b xs ≡ drop b ys
drop_on a b xs ys le e =
    let n : b ≡ a + (b - a) = omega arith in
    ap (λ k. drop k xs) n ∙ sym (drop-drop (b - a) a xs) ∙ ap (drop (b - a)) e ∙ drop-drop (b - a) a ys ∙ sym (ap (λ k. drop k ys) n)
