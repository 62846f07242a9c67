-- The bits of a word are those of its marks, also with one more mark.
use Rattle.std.proofs.Common.{◌≡◌, ℕ, zero, suc, ◌+◌, ◌*◌, ◌/◌, ◌%◌, ◌^◌, ◌<◌, ◌==◌, Bool, true, false, not, List, [], ◌∷◌, ◌++◌, length, take, get_or, bit_or, refl, sym, ap, ◌∙◌, arith}
use Rattle.std.specs.Prelude.{if◌then◌else◌}
use Rattle.std.specs.Int.{bit_at, from_bool}
use Rattle.std.proofs.lemmas.List.{get_or-take}
use Rattle.std.proofs.lemmas.Nat.{or_comm, or_shifted, shl_whole}
use Rattle.std.proofs.lemmas.Nat.Bits.{bit_at-zero, bit_at_lowest, bit_at-suc}
use Rattle.std.proofs.Math.Nat.{pow-suc}
use Rattle.frame_rules.specs.Fields.{is_one, has_a, has_b, is_set, symbols_of}
use Rattle.tick_units.specs.declared.marks.Mark.{Mark}
use Rattle.tick_units.specs.declared.marks.Symbol.{Symbol}
use Rattle.tick_units.specs.declared.marks.Symbol.TheVariants.{Zero, One, OnlyB, Both, Long, Odd}
use Rattle.frame_rules.specs.Words.{word_of}

abbrev pub worth : Bool → ℕ
worth b = if b then 1 else 0

low : (b : Bool) (w : ℕ) → (worth b + 2 * w) % 2 ≡ worth b
low true w = omega arith
low false w = omega arith

half : (b : Bool) (w : ℕ) → (worth b + 2 * w) / 2 ≡ w
half true w = omega arith
half false w = omega arith

word_bit : (test : Symbol → Bool) (marks : List Mark) (place : ℕ) → test Zero ≡ false → bit_at (word_of test marks) place ≡ worth (test (get_or (symbols_of marks) place Zero))
word_bit test [] place e = bit_at-zero place ∙ rw e refl
word_bit test (mark ∷ marks) zero e = bit_at_lowest (word_of test (mark ∷ marks)) ∙ low (test mark.symbol) (word_of test marks)
word_bit test (mark ∷ marks) (suc place) e = bit_at-suc (word_of test (mark ∷ marks)) place ∙ ap (λ n. bit_at n place) (half (test mark.symbol) (word_of test marks)) ∙ word_bit test marks place e

is_worth : (b : Bool) → (worth b == 1) ≡ b
is_worth true = refl
is_worth false = refl

symbols-take : (n : ℕ) (marks : List Mark) → symbols_of (take n marks) ≡ take n (symbols_of marks)
symbols-take zero marks = refl
symbols-take (suc n) [] = refl
symbols-take (suc n) (mark ∷ marks) = ap (λ symbols. mark.symbol ∷ symbols) (symbols-take n marks)

-- the bit of a place of the first n marks
pub word_at : (test : Symbol → Bool) (n : ℕ) (marks : List Mark) (place : ℕ) → place < n → test Zero ≡ false → (word_of test (take n marks) / 2 ^ place % 2 == 1) ≡ is_set test marks place
word_at test n marks place lt e =
    ap (λ k. k == 1) (word_bit test (take n marks) place e)
    ∙ is_worth (test (get_or (symbols_of (take n marks)) place Zero))
    ∙ ap (λ symbols. test (get_or symbols place Zero)) (symbols-take n marks)
    ∙ ap test (get_or-take n (symbols_of marks) place Zero lt)

pub word_below : (test : Symbol → Bool) (marks : List Mark) → word_of test marks < 2 ^ length marks
word_below test [] = omega arith
word_below test (mark ∷ marks) = below_more (test mark.symbol) (word_of test marks) (length marks) (word_below test marks)
  where
    below_more : (b : Bool) (w n : ℕ) → w < 2 ^ n → worth b + 2 * w < 2 ^ suc n
    below_more true w n h = rw (pow-suc 2 n) (omega arith)
    below_more false w n h = rw (pow-suc 2 n) (omega arith)

word_push : (test : Symbol → Bool) (marks : List Mark) (mark : Mark) → word_of test (marks ++ mark ∷ []) ≡ worth (test mark.symbol) * 2 ^ length marks + word_of test marks
word_push test [] mark = omega arith
word_push test (x ∷ xs) mark = push_more (test mark.symbol) (worth (test x.symbol)) (word_of test xs) (word_of test (xs ++ mark ∷ [])) (length xs) (word_push test xs mark)
  where
    push_more : (b : Bool) (x w more n : ℕ) → more ≡ worth b * 2 ^ n + w → x + 2 * more ≡ worth b * 2 ^ suc n + (x + 2 * w)
    push_more true x w more n h = rw (pow-suc 2 n) (omega arith)
    push_more false x w more n h = omega arith

shifted : (b : Bool) (n : ℕ) → n < 61 → worth b * 2 ^ n % 2 ^ 64 ≡ worth b * 2 ^ n
shifted true n lt = shl_whole 1 1 n 64 (omega arith) (omega arith)
shifted false n lt = omega arith

-- a word with the bit of the next place
pub word_with : (test : Symbol → Bool) (marks : List Mark) (mark : Mark) (word place : ℕ) (b : Bool) → place < 61 → word ≡ word_of test marks → length marks ≡ place → b ≡ test mark.symbol →
    bit_or word (worth b * 2 ^ place % 2 ^ 64) ≡ word_of test (marks ++ mark ∷ [])
word_with test marks mark word place b lt e len bit =
    ap (bit_or word) (shifted b place lt)
    ∙ or_comm word (worth b * 2 ^ place)
    ∙ or_shifted (worth b) place word below
    ∙ rw (bit, e, ← len) (sym (word_push test marks mark))
  where
    below : word < 2 ^ place
    below = rw (e, ← len) (word_below test marks)

-- the bit of DCF77 and WWVB is bit A where bit B is not 1
with_a : (symbol : Symbol) → has_a symbol ≡ true → not (has_b symbol) ≡ is_one symbol
with_a Zero e = cc
with_a One e = refl
with_a OnlyB e = cc
with_a Both e = refl
with_a Long e = cc
with_a Odd e = cc

without_a : (symbol : Symbol) → has_a symbol ≡ false → false ≡ is_one symbol
without_a Zero e = refl
without_a One e = cc
without_a OnlyB e = refl
without_a Both e = cc
without_a Long e = refl
without_a Odd e = refl

pub only_with_a : (marks : List Mark) (place : ℕ) → is_set has_a marks place ≡ true → not (is_set has_b marks place) ≡ is_set is_one marks place
only_with_a marks place e = with_a (get_or (symbols_of marks) place Zero) e

pub only_without_a : (marks : List Mark) (place : ℕ) → is_set has_a marks place ≡ false → false ≡ is_set is_one marks place
only_without_a marks place e = without_a (get_or (symbols_of marks) place Zero) e

-- a bit as a number, in std's word
pub byte_is : (b : Bool) → from_bool b ≡ worth b
byte_is true = refl
byte_is false = refl
