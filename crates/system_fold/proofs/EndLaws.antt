-- The least number at which a test holds.
use Rattle.std.proofs.Common.{◌≡◌, ℕ, zero, suc, ◌≤◌, ◌<◌, Bool, true, false, refl, ap, ◌∙◌, arith, cond, ◌⊎◌, inl, inr}
use Rattle.std.proofs.lemmas.Bool.{cases_lt}
use Rattle.system_fold.specs.Ends.{IsLeast, least_below}

fails : (b : Bool) (n k : ℕ) → (b ≡ true → n ≤ k) → k < n → b ≡ false
fails true n k upto below = let above = upto refl in absurd (omega arith)
fails false n k upto below = refl

-- where no number below the limit passes
none-below : (test : ℕ → Bool) (n : ℕ) → ((k : ℕ) → k < n → test k ≡ false) → least_below n test ≡ n
unfolding least_below
none-below test zero none = refl
none-below test (suc n) none =
    let before : least_below n test ≡ n = none-below test n (λ k below. none k (omega arith)) in
    let here : test (least_below n test) ≡ false = ap test before ∙ none n (omega arith) in
    ap (λ (b : Bool). cond b (least_below n test) (suc n)) here

-- the least number, where it is within the limit
pub least-is : (test : ℕ → Bool) (limit n : ℕ) → IsLeast test n → n ≤ limit → least_below limit test ≡ n
unfolding least_below
least-is test zero n least within = omega arith
least-is test (suc limit) n least within = by_place (cases_lt limit n) (λ below. least-is test limit n least below)
  where
    by_place : (limit < n) ⊎ (n ≤ limit) → (n ≤ limit → least_below limit test ≡ n) → least_below (suc limit) test ≡ n
    by_place (inl last) before = none-below test (suc limit) (λ k below. fails (test k) n k (least.least k) (omega arith)) ∙ omega arith
    by_place (inr sooner) before =
        let here : test (least_below limit test) ≡ true = ap test (before sooner) ∙ least.holds in
        ap (λ (b : Bool). cond b (least_below limit test) (suc limit)) here ∙ before sooner
