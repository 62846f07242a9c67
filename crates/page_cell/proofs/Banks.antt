-- The words of the two banks, and the sums of failed tries.
use Rattle.std.proofs.Common.{◌≡◌, ◌≢◌, ℕ, suc, ◌+◌, ◌*◌, ◌<◌, ◌≤◌, ◌==◌, Bool, true, false, List, [], ◌∷◌, ◌++◌, length, set, if◌then◌else◌, sym, ◌∙◌, subst, arith, length-append}
use Rattle.std.specs.Prelude.{slice_index}
use Rattle.std.proofs.lemmas.List.{get_or-set_same, get_or-set_other, get_or_append_left, get_or_push, ext_get_or}
use Rattle.page_cell.specs.Rule.{bank_word, HasBank}
use mathlib.Core.Logic.{dite}
use native.Mathlib.Decide.{ℕ_discrete}

pub words_apart : (n i k : ℕ) → i < 10 → k < 10 → bank_word n i ≢ bank_word (suc n) k
words_apart n i k a b e = omega arith

pub same_bank_apart : (n i k : ℕ) → i ≢ k → bank_word n i ≢ bank_word n k
same_bank_apart n i k ne e = ne (omega arith)

pub count_apart : (n i : ℕ) → bank_word n i ≢ 0
count_apart n i e = omega arith

pub bank_under : (n i : ℕ) → i < 10 → bank_word n i < 21
bank_under n i lt = omega arith

-- a store into the other bank
pub bank_kept : (ws : List ℕ) (n k x : ℕ) (xs : List ℕ) → k < 10 → HasBank ws n xs → HasBank (set ws (bank_word (suc n) k) x) n xs
bank_kept ws n k x xs lt h i a ten = get_or-set_other ws (bank_word (suc n) k) (bank_word n i) x 0 (words_apart n i k ten lt) ∙ h i a ten

-- a store of the count
pub bank_counted : (ws : List ℕ) (n x : ℕ) (xs : List ℕ) → HasBank ws n xs → HasBank (set ws 0 x) n xs
bank_counted ws n x xs h i a ten = get_or-set_other ws 0 (bank_word n i) x 0 (count_apart n i) ∙ h i a ten

-- the next word is stored
pub bank_stored : (ws : List ℕ) (n k x : ℕ) (xs : List ℕ) → length ws ≡ 21 → length xs ≡ k → k < 10 → HasBank ws n xs → HasBank (set ws (bank_word n k) x) n (xs ++ x ∷ [])
bank_stored ws n k x xs wide len lt h i a ten = dite (ℕ_discrete i k)
    (λ (e : i ≡ k).
    subst (λ (j : ℕ). slice_index (set ws (bank_word n k) x) (bank_word n j) ≡ slice_index (xs ++ x ∷ []) j) (sym e)
    (get_or-set_same ws (bank_word n k) x 0 (let u = bank_under n k lt in omega arith) ∙ sym (get_or_push xs x 0 k len)))
    (λ (ne : i ≢ k).
    let less : i < length xs = omega (arith, length-append xs (x ∷ [])) in
    get_or-set_other ws (bank_word n k) (bank_word n i) x 0 (same_bank_apart n i k ne) ∙ h i less ten ∙ sym (get_or_append_left xs (x ∷ []) 0 i less))

-- the next word is loaded
pub bank_loaded : (ws : List ℕ) (n k : ℕ) (xs : List ℕ) → length xs ≡ k → HasBank ws n xs → HasBank ws n (xs ++ slice_index ws (bank_word n k) ∷ [])
bank_loaded ws n k xs len h i a ten = dite (ℕ_discrete i k)
    (λ (e : i ≡ k). subst (λ (j : ℕ). slice_index ws (bank_word n j) ≡ slice_index (xs ++ slice_index ws (bank_word n k) ∷ []) j) (sym e) (sym (get_or_push xs (slice_index ws (bank_word n k)) 0 k len)))
    (λ (ne : i ≢ k).
    let less : i < length xs = omega (arith, length-append xs (slice_index ws (bank_word n k) ∷ [])) in
    h i less ten ∙ sym (get_or_append_left xs (slice_index ws (bank_word n k) ∷ []) 0 i less))

pub bank_whole : (ws : List ℕ) (n : ℕ) (xs ys : List ℕ) → length xs ≡ 10 → length ys ≡ 10 → HasBank ws n xs → HasBank ws n ys → xs ≡ ys
bank_whole ws n xs ys a b h g = ext_get_or 0 xs ys (a ∙ sym b) (λ i lt. sym (h i lt (omega arith)) ∙ g i (omega arith) (omega arith))

pub fails_less : (b : Bool) (m t f : ℕ) → 4 * t + f ≤ m → 4 * t + (if b then f else 0) ≤ m
fails_less true m t f h = h
fails_less false m t f h = omega arith

-- one failed try more, or one torn call more
pub fails_more : (b : Bool) (t f c n : ℕ) → (f == 3) ≡ b → 4 * t + f ≤ c → c < n → 4 * (if b then t + 1 else t) + (if b then 0 else f + 1) ≤ n
fails_more true t f c n is h lt = let e : f ≡ 3 = grind (arith, Rattle.std.proofs.lemmas.Bool.Decides.nat_tests) in omega arith
fails_more false t f c n is h lt = omega arith
