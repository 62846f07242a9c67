-- A list that is read from a place on, or whose beginning is written piece after piece.
use Rattle.std.proofs.Common.{◌≡◌, ℕ, zero, suc, ◌+◌, ◌-◌, ◌*◌, ◌%◌, ◌^◌, ◌<◌, ◌≤◌, bit_or, List, [], ◌∷◌, ◌++◌, length, take, drop, set, slice_index, refl, ap, ◌∙◌, arith, add-suc, add-zero, append-nil, length-take, get_or-drop}
use Rattle.std.proofs.lemmas.List.{drop_all}
use Rattle.std.proofs.lemmas.Nat.{or_shifted}
use Rattle.std.proofs.lemmas.Slice.{take-put_mid}
use borrow.Rule.Slice.PartMut.{put_mid, mid_of}
use Rattle.byteorder.specs.Endian.{big_from}
use Rattle.byteorder.specs.Numbers.{big_from-take}

-- the number i places further on
big_from-drop : (i n place : ℕ) (xs : List ℕ) → big_from i n (drop place xs) ≡ big_from (place + i) n xs
big_from-drop i zero place xs = refl
big_from-drop i (suc n) place xs =
    let byte : slice_index (drop place xs) i ≡ slice_index xs (place + i) = get_or-drop place xs i 0 in
    let rest : big_from (suc i) n (drop place xs) ≡ big_from (suc (place + i)) n xs = rw (← add-suc place i) (big_from-drop (suc i) n place xs) in
    rw (byte, rest) refl

-- the number at the beginning of what stands from a place on
pub number_at : (place n : ℕ) (xs : List ℕ) → place + n ≤ length xs → big_from 0 n (take (length xs - place) (drop place xs)) ≡ big_from place n xs
number_at place n xs room = big_from-take 0 n (length xs - place) (drop place xs) (omega arith) ∙ (rw add-zero at (big_from-drop 0 n place xs))

-- where a piece of k places now holds the k numbers of ys, these stand after the beginning
pub prefix_more : (xs ys piece : List ℕ) (start k : ℕ) → start + k ≤ length xs → length ys ≡ k → piece ≡ ys ++ drop k (mid_of start (start + k - start) xs) → take (start + k) (put_mid start (start + k - start) xs piece) ≡ take start xs ++ ys
prefix_more xs ys piece start k room long is =
    let few : length (mid_of start (start + k - start) xs) ≤ k = omega (arith, length-take {A = ℕ}) in
    let whole : piece ≡ ys = is ∙ ap (λ (zs : List ℕ). ys ++ zs) (drop_all k _ few) ∙ append-nil ys in
    take-put_mid start (start + k - start) xs piece (start + k) (omega (arith, ap length whole)) (omega arith) ∙ ap (λ (zs : List ℕ). take start xs ++ zs) whole

-- the first byte, as shifts and `|` make it of its three parts
pub packed : (leap version mode : ℕ) → leap < 4 → version < 8 → mode < 8 → bit_or (bit_or (leap * 64 % 256) (version * 8 % 256)) mode ≡ leap * 64 + version * 8 + mode
packed leap version mode few_leaps few_versions few_modes =
    let high : leap * 64 % 256 ≡ leap * 2 ^ 6 = omega arith in
    let middle : version * 8 % 256 ≡ version * 8 = omega arith in
    let both : bit_or (leap * 2 ^ 6) (version * 8) ≡ leap * 2 ^ 6 + version * 8 = or_shifted leap 6 (version * 8) (omega arith) in
    let eights : leap * 2 ^ 6 + version * 8 ≡ (leap * 8 + version) * 2 ^ 3 = omega arith in
    let all : bit_or ((leap * 8 + version) * 2 ^ 3) mode ≡ (leap * 8 + version) * 2 ^ 3 + mode = or_shifted (leap * 8 + version) 3 mode (omega arith) in
    ap (λ (x : ℕ). bit_or x mode) (ap (λ (x : ℕ). bit_or x (version * 8 % 256)) high ∙ ap (λ (y : ℕ). bit_or (leap * 2 ^ 6) y) middle ∙ both ∙ eights) ∙ all ∙ omega arith

-- four bytes that are set one after the other
pub four_set : (xs : List ℕ) (a b c d : ℕ) → 4 ≤ length xs → take 4 (set (set (set (set xs 0 a) 1 b) 2 c) 3 d) ≡ a ∷ b ∷ c ∷ d ∷ []
four_set [] a b c d long = absurd (omega arith)
four_set (x0 ∷ []) a b c d long = absurd (omega arith)
four_set (x0 ∷ x1 ∷ []) a b c d long = absurd (omega arith)
four_set (x0 ∷ x1 ∷ x2 ∷ []) a b c d long = absurd (omega arith)
four_set (x0 ∷ x1 ∷ x2 ∷ x3 ∷ xs) a b c d long = refl
