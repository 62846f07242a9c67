-- The beginning of a piece into which bytes were copied.
use Rattle.std.proofs.Common.{◌≡◌, ℕ, List, ◌++◌, take, length, min, ap, ◌∙◌, arith}
use Rattle.std.proofs.lemmas.List.{take_min, take_all, take-append-le, length-take}

pub copied : (bytes prefix rest : List ℕ) (count : ℕ) → count ≡ min 1024 (length bytes) → prefix ≡ take count bytes → take count (prefix ++ rest) ≡ take 1024 bytes
copied bytes prefix rest count least is =
    let size : length prefix ≡ count = omega (arith, least, ap (λ (l : List ℕ). length l) is, length-take count bytes) in
    take-append-le count prefix rest (omega (arith, size)) ∙ take_all count prefix (omega (arith, size)) ∙ is ∙ ap (λ n. take n bytes) least ∙ take_min 1024 bytes
