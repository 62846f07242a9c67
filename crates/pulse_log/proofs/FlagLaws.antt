-- The flags of a word whose bytes' sums may carry: the lowest of them is right.
use Rattle.std.proofs.Common.{◌≡◌, ℕ, zero, suc, ◌+◌, ◌*◌, ◌/◌, ◌%◌, ◌^◌, ◌<◌, ◌≤◌, false, leb, List, [], ◌∷◌, length, map, get_or, refl, ap, ◌∙◌, arith, inl, inr}
use Rattle.std.proofs.lemmas.Bool.{cases_lt, leb-true, leb-false}
use Rattle.std.proofs.lemmas.List.{length-map}
use Rattle.core.specs.Prelude.{bit_and, bit_or}
use Rattle.core.specs.Dec2flt.Digits.{less_zero}
use Rattle.core.specs.Int.{w64, trailing_zeros}
use Rattle.core.specs.Int.Digits.{AllBelowBase}
use Rattle.core.specs.Slice.Scan.{digits_from, flag_word, little_endian, Flags}
use Rattle.core.proofs.slice.Flagged.{flags, high_flags, or_Bytes, same_flags}
use lib.Bits.{and_le_l, and_le_r, or_add_and, or_lt, xor_lt}
use lib.Lanes.{number_l}
use mir.Syntax.{w8}
use mir.Val.{Fits}
use Rattle.pulse_log.specs.Words.{AreBelowTen}

-- what is carried into a byte where 118 is added to each, and the byte of the sum
carry : (ℕ → ℕ) → ℕ → ℕ
carry y zero = 0
carry y (suc k) = (y k + 118 + carry y k) / 256

sum : (ℕ → ℕ) → ℕ → ℕ
sum y k = (y k + 118 + carry y k) % 256

step : (y : ℕ → ℕ) (k : ℕ) → y k + 118 + carry y k ≡ sum y k + 256 * carry y (suc k)
unfolding carry sum
step y k = omega arith

sum_small : (y : ℕ → ℕ) (k : ℕ) → sum y k < 256
unfolding sum
sum_small y k = omega arith

abbrev eight : ℕ → ℕ → ℕ → ℕ → ℕ → ℕ → ℕ → ℕ → ℕ
eight a b c d e f g h = a + 256 * (b + 256 * (c + 256 * (d + 256 * (e + 256 * (f + 256 * (g + 256 * (h + 256 * 0)))))))

total : (a b c d e f g h a' b' c' d' e' f' g' h' i j k l m n o p : ℕ) →
    a + 118 + 0 ≡ a' + 256 * i → b + 118 + i ≡ b' + 256 * j → c + 118 + j ≡ c' + 256 * k → d + 118 + k ≡ d' + 256 * l →
    e + 118 + l ≡ e' + 256 * m → f + 118 + m ≡ f' + 256 * n → g + 118 + n ≡ g' + 256 * o → h + 118 + o ≡ h' + 256 * p →
    a' < 256 → b' < 256 → c' < 256 → d' < 256 → e' < 256 → f' < 256 → g' < 256 → h' < 256 →
    (eight a b c d e f g h + 0x7676_7676_7676_7676) % 2 ^ 64 ≡ eight a' b' c' d' e' f' g' h'
total a b c d e f g h a' b' c' d' e' f' g' h' i j k l m n o p s1 s2 s3 s4 s5 s6 s7 s8 l1 l2 l3 l4 l5 l6 l7 l8 = omega arith

sums : (y : ℕ → ℕ) → (digits_from y 0 8 + 0x7676_7676_7676_7676) % 2 ^ 64 ≡ digits_from (sum y) 0 8
unfolding carry
sums y =
    total (y 0) (y 1) (y 2) (y 3) (y 4) (y 5) (y 6) (y 7) (sum y 0) (sum y 1) (sum y 2) (sum y 3) (sum y 4) (sum y 5) (sum y 6) (sum y 7)
    (carry y 1) (carry y 2) (carry y 3) (carry y 4) (carry y 5) (carry y 6) (carry y 7) (carry y 8)
    (step y 0) (step y 1) (step y 2) (step y 3) (step y 4) (step y 5) (step y 6) (step y 7)
    (sum_small y 0) (sum_small y 1) (sum_small y 2) (sum_small y 3) (sum_small y 4) (sum_small y 5) (sum_small y 6) (sum_small y 7)

either : (ℕ → ℕ) → ℕ → ℕ
either y k = bit_or (sum y k) (y k)

either_small : (y : ℕ → ℕ) → ((k : ℕ) → y k < 256) → (k : ℕ) → either y k < 256
unfolding either sum
either_small y small k = or_lt 8 (sum y k) (y k) (sum_small y k) (small k)

-- up to the first byte whose eighth bit is set nothing is carried, and each byte is below ten
not_carried : (y : ℕ → ℕ) (c : ℕ) → ((k : ℕ) → k < c → leb 128 (either y k) ≡ false) → (k : ℕ) → k ≤ c → carry y k ≡ 0
unfolding carry either sum
not_carried y c clear zero le = refl
not_carried y c clear (suc k) le =
    let none = not_carried y c clear k (omega arith) in
    let low = leb-false 128 (either y k) (clear k (omega arith)) in
    let both = or_add_and (sum y k) (y k) in
    let left = and_le_l (sum y k) (y k) in
    let right = and_le_r (sum y k) (y k) in
    small_step (y k) (carry y k) (either y k) (bit_and (sum y k) (y k)) none low both left right
  where
    small_step : (b t o a : ℕ) → t ≡ 0 → o < 128 → o + a ≡ (b + 118 + t) % 256 + b → a ≤ (b + 118 + t) % 256 → a ≤ b → (b + 118 + t) / 256 ≡ 0
    small_step b t o a none low both left right = omega arith

below_ten : (y : ℕ → ℕ) (c : ℕ) → ((k : ℕ) → k < c → leb 128 (either y k) ≡ false) → (k : ℕ) → k < c → y k < 10
unfolding carry either sum
below_ten y c clear k lt =
    let none = not_carried y c clear k (omega arith) in
    let low = leb-false 128 (either y k) (clear k lt) in
    let both = or_add_and (sum y k) (y k) in
    let left = and_le_l (sum y k) (y k) in
    let right = and_le_r (sum y k) (y k) in
    small_byte (y k) (carry y k) (either y k) (bit_and (sum y k) (y k)) none low both left right
  where
    small_byte : (b t o a : ℕ) → t ≡ 0 → o < 128 → o + a ≡ (b + 118 + t) % 256 + b → a ≤ (b + 118 + t) % 256 → a ≤ b → b < 10
    small_byte b t o a none low both left right = omega arith

-- eight bytes as a list
abbrev bytes_of : (ℕ → ℕ) → List ℕ
bytes_of f = f 0 ∷ f 1 ∷ f 2 ∷ f 3 ∷ f 4 ∷ f 5 ∷ f 6 ∷ f 7 ∷ []

word_is : (f : ℕ → ℕ) → digits_from f 0 8 ≡ little_endian (bytes_of f) 0
word_is f = omega arith

fit : (f : ℕ → ℕ) → ((k : ℕ) → f k < 256) → (k : ℕ) → Fits w8 (get_or (bytes_of f) k 0)
fit f small zero = record { fits = small 0 }
fit f small (suc zero) = record { fits = small 1 }
fit f small (suc (suc zero)) = record { fits = small 2 }
fit f small (suc (suc (suc zero))) = record { fits = small 3 }
fit f small (suc (suc (suc (suc zero)))) = record { fits = small 4 }
fit f small (suc (suc (suc (suc (suc zero))))) = record { fits = small 5 }
fit f small (suc (suc (suc (suc (suc (suc zero)))))) = record { fits = small 6 }
fit f small (suc (suc (suc (suc (suc (suc (suc zero))))))) = record { fits = small 7 }
fit f small (suc (suc (suc (suc (suc (suc (suc (suc k)))))))) = record { fits = omega arith }

flags_are : (y : ℕ → ℕ) → ((k : ℕ) → y k < 256) → (x : ℕ) → x ≡ digits_from y 0 8 →
    bit_and (bit_or ((x + 0x7676_7676_7676_7676) % 2 ^ 64) x) 0x8080_8080_8080_8080 ≡ flag_word (λ k. leb 128 (either y k))
unfolding either
flags_are y small x is =
    let added : (x + 0x7676_7676_7676_7676) % 2 ^ 64 ≡ digits_from (sum y) 0 8 = ap (λ w. (w + 0x7676_7676_7676_7676) % 2 ^ 64) is ∙ sums y in
    let joined = (λ j. bit_or (added j) (is j)) ∙ or_Bytes (sum y) y (sum_small y) small in
    ap (λ w. bit_and w 0x8080_8080_8080_8080) (joined ∙ word_is (either y)) ∙ high_flags (bytes_of (either y)) (fit (either y) (either_small y small)) 0

pub are_below : (y : ℕ → ℕ) → ((k : ℕ) → y k < 256) → (x m : ℕ) → x ≡ digits_from y 0 8 →
    m ≡ bit_and (bit_or ((x + 0x7676_7676_7676_7676) % 2 ^ 64) x) 0x8080_8080_8080_8080 → AreBelowTen y m
are_below y small x m is m_is =
    let f = flags (λ k. leb 128 (either y k)) 0 m (m_is ∙ flags_are y small x is ∙ same_flags _ _ (λ k. ap (λ j. leb 128 (either y j)) {x = k} {y = 0 + k} (omega arith))) in
    record {
      none = λ e k l. below_ten y 8 (λ j lt. f.none e j (omega arith) (omega arith)) k l;
      before = λ some. let h = f.lowest some in (h.0, below_ten y (trailing_zeros w64 m / 8) (λ j lt. h.1.before j (omega arith) (omega arith)));
    }

-- the lowest of the flags of exactly the bytes from ten on is not before the lowest of such flags
exact : (y : ℕ → ℕ) (m : ℕ) → m ≡ flag_word (λ k. leb 10 (y k)) → Flags (λ k. leb 10 (y k)) 0 m
exact y m is = flags (λ k. leb 10 (y k)) 0 m (is ∙ same_flags _ _ (λ k. ap (λ j. leb 10 (y j)) {x = k} {y = 0 + k} (omega arith)))

pub none_exact : (y : ℕ → ℕ) (m found : ℕ) → m ≡ flag_word (λ k. leb 10 (y k)) → AreBelowTen y found → found ≡ 0 → m ≡ 0
none_exact y zero found is below e = refl
none_exact y (suc m) found is below e = absurd (
    let h = (exact y (suc m) is).lowest (omega arith) in
    let within = h.0 in
    let hit = leb-true 10 (y (0 + trailing_zeros w64 (suc m) / 8)) (h.1.hit (omega arith)) in
    let low = below.none e (0 + trailing_zeros w64 (suc m) / 8) (omega arith) in
    omega (arith, hit, low)
    )

pub before_exact : (y : ℕ → ℕ) (m found length : ℕ) → m ≡ flag_word (λ k. leb 10 (y k)) → AreBelowTen y found → 0 < found → (m ≡ 0 → length ≡ 8) → (0 < m → length ≡ trailing_zeros w64 m / 8) →
    trailing_zeros w64 found / 8 ≤ length
before_exact y zero found length is below some all first = let within = (below.before some).0 in let eight = all refl in omega (arith, within, eight)
before_exact y (suc m) found length is below some all first = elim (cases_lt (trailing_zeros w64 (suc m) / 8) (trailing_zeros w64 found / 8)) [
  | inl lt ↦ absurd (
      let h = (exact y (suc m) is).lowest (omega arith) in
      let hit = leb-true 10 (y (0 + trailing_zeros w64 (suc m) / 8)) (h.1.hit (omega (arith, h.0))) in
      let low = (below.before some).1 (0 + trailing_zeros w64 (suc m) / 8) (omega (arith, lt)) in
      omega (arith, hit, low)
      )
  | inr ge ↦ (let is_first = first (omega arith) in omega (arith, ge, is_first))
]

-- the bytes less the digit 0, by place
abbrev pub lane : List ℕ → ℕ → ℕ
lane bytes k = get_or (map less_zero bytes) k 0

pub lane_small : (bytes : List ℕ) → AllBelowBase 256 bytes → (k : ℕ) → lane bytes k < 256
lane_small [] all k = omega arith
lane_small (x ∷ xs) all zero = xor_lt 8 x 48 all.0 (omega arith)
lane_small (x ∷ xs) all (suc k) = lane_small xs all.1 k

by_place : (ls : List ℕ) → length ls ≡ 8 → number_l 256 ls ≡ digits_from (λ k. get_or ls k 0) 0 8
by_place [] long = absurd (omega arith)
by_place (a ∷ []) long = absurd (omega arith)
by_place (a ∷ b ∷ []) long = absurd (omega arith)
by_place (a ∷ b ∷ c ∷ []) long = absurd (omega arith)
by_place (a ∷ b ∷ c ∷ d ∷ []) long = absurd (omega arith)
by_place (a ∷ b ∷ c ∷ d ∷ e ∷ []) long = absurd (omega arith)
by_place (a ∷ b ∷ c ∷ d ∷ e ∷ f ∷ []) long = absurd (omega arith)
by_place (a ∷ b ∷ c ∷ d ∷ e ∷ f ∷ g ∷ []) long = absurd (omega arith)
by_place (a ∷ b ∷ c ∷ d ∷ e ∷ f ∷ g ∷ h ∷ i ∷ more) long = absurd (omega arith)
by_place (a ∷ b ∷ c ∷ d ∷ e ∷ f ∷ g ∷ h ∷ []) long = omega arith

pub lanes_by_place : (bytes : List ℕ) (x : ℕ) → length bytes ≡ 8 → x ≡ number_l 256 (map less_zero bytes) → x ≡ digits_from (lane bytes) 0 8
lanes_by_place bytes x long is = is ∙ by_place (map less_zero bytes) (length-map bytes less_zero ∙ long)
