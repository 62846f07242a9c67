-- How many entries a journal has of those that are due, and which of them.
use Rattle.std.proofs.Common.{◌≡◌, ℕ, zero, suc, ◌+◌, ◌<◌, ◌≤◌, Bool, true, false, Some, List, [], ◌∷◌, ◌++◌, length, take, drop, refl, sym, ap, ◌∙◌, subst, arith}
use Rattle.std.specs.Prelude.{min, nat_lt, slice_get}
use Rattle.std.specs.List.{list_any, range_with_len, sum_by}
use Rattle.std.proofs.lemmas.Bool.Decides.{nat_tests}
use Rattle.std.proofs.lemmas.List.{take-append-drop}
use Rattle.std.proofs.lemmas.List.Sums.{sum_by-cons}
use Rattle.std.proofs.Math.Seq.{take-length}
use mathlib.Core.List.{IsPrefix}
use Rattle.journal_entry.specs.declared.entry.Entry.{Entry}
use Rattle.page_cell.specs.Claims.{of_feed}
use Rattle.feed_workers.specs.Due.{HasDue}

abbrev pub is_so : Bool → Bool
is_so full = full

-- for feeds from this one on: what is due for each, and whether an entry of it found the journal full
abbrev pub HaveDue : ℕ → List Entry → ℕ → List Bool → List (List Entry) → Type 0
HaveDue limit journal feed [] [] = Unit {0}
HaveDue limit journal feed [] (due ∷ dues) = ⊥
HaveDue limit journal feed (full ∷ fulls) [] = ⊥
HaveDue limit journal feed (full ∷ fulls) (due ∷ dues) = HasDue limit journal feed full due × HaveDue limit journal (suc feed) fulls dues

module _ (limit : ℕ) (journal : List Entry) where
  pub have_both : (feed next : ℕ) (fulls others : List Bool) (dues more : List (List Entry)) → next ≡ feed + length dues → HaveDue limit journal feed fulls dues → HaveDue limit journal next others more →
      HaveDue limit journal feed (fulls ++ others) (dues ++ more)
  have_both feed next [] others [] more is h k = subst (λ n. HaveDue limit journal n others more) (is ∙ omega arith) k
  have_both feed next [] others (due ∷ dues) more is h k = absurd h
  have_both feed next (full ∷ fulls) others [] more is h k = absurd h
  have_both feed next (full ∷ fulls) others (due ∷ dues) more is h k = (h.0, have_both (suc feed) next fulls others dues more (is ∙ omega arith) h.1 k)

  -- how many of a list of feeds the journal has
  abbrev held : ℕ → ℕ → ℕ
  held feed count = sum_by (λ f. length (of_feed f journal)) (range_with_len feed count)

  held_more : (feed count : ℕ) → held feed (suc count) ≡ length (of_feed feed journal) + held (suc feed) count
  held_more feed count = sum_by-cons (λ f. length (of_feed f journal)) feed (range_with_len (feed + 1) count) ∙ ap (λ n. length (of_feed feed journal) + held n count) (omega arith)

  take_size : {X : Type 0} (n : ℕ) (xs : List X) → n ≤ length xs → length (take n xs) ≡ n
  take_size n xs le = (let e = ap length (take-append-drop n xs) in sized n xs le)
    where
      sized : {X : Type 0} (n : ℕ) (xs : List X) → n ≤ length xs → length (take n xs) ≡ n
      sized zero xs le = refl
      sized (suc n) [] le = absurd (omega (arith, le))
      sized (suc n) (x ∷ xs) le = ap suc (sized n xs (omega (arith, le)))

  one_size : (feed : ℕ) (full : Bool) (due : List Entry) (h : HasDue limit journal feed full due) → length (of_feed feed journal) ≡ h.count
  one_size feed full due h = ap length h.is ∙ take_size h.count due h.most

  -- no more than are due
  pub at_most : (feed : ℕ) (fulls : List Bool) (dues : List (List Entry)) → HaveDue limit journal feed fulls dues → held feed (length dues) ≤ sum_by length dues
  at_most feed [] [] h = omega arith
  at_most feed [] (due ∷ dues) h = absurd h
  at_most feed (full ∷ fulls) [] h = absurd h
  at_most feed (full ∷ fulls) (due ∷ dues) h =
      let one = one_size feed full due h.0 in
      let most = h.0.most in
      let rest = at_most (suc feed) fulls dues h.1 in
      omega (arith, one, most, rest, held_more feed (length dues), sum_by-cons (λ (l : List Entry). length l) due dues)

  -- all of them, where none found it full
  pub all_kept : (feed : ℕ) (fulls : List Bool) (dues : List (List Entry)) → HaveDue limit journal feed fulls dues → list_any is_so fulls ≡ false → held feed (length dues) ≡ sum_by length dues
  all_kept feed [] [] h none = refl
  all_kept feed [] (due ∷ dues) h none = absurd h
  all_kept feed (full ∷ fulls) [] h none = absurd h
  all_kept feed (true ∷ fulls) (due ∷ dues) h none = absurd (let e : true ≡ false = none in cc)
  all_kept feed (false ∷ fulls) (due ∷ dues) h none =
      let one = one_size feed false due h.0 in
      let whole = h.0.whole refl in
      let rest = all_kept (suc feed) fulls dues h.1 none in
      omega (arith, one, whole, rest, held_more feed (length dues), sum_by-cons (λ (l : List Entry). length l) due dues)

  -- fewer, where one did: then the journal is full
  pub some_lost : (feed : ℕ) (fulls : List Bool) (dues : List (List Entry)) → HaveDue limit journal feed fulls dues → list_any is_so fulls ≡ true → (held feed (length dues) < sum_by length dues) × (length journal ≡ limit)
  some_lost feed [] [] h some = absurd (let e : false ≡ true = some in cc)
  some_lost feed [] (due ∷ dues) h some = absurd h
  some_lost feed (full ∷ fulls) [] h some = absurd h
  some_lost feed (true ∷ fulls) (due ∷ dues) h some =
      let one = one_size feed true due h.0 in
      let lost = (h.0.lost refl).0 in
      let rest = at_most (suc feed) fulls dues h.1 in
      (omega (arith, one, lost, rest, held_more feed (length dues), sum_by-cons (λ (l : List Entry). length l) due dues), (h.0.lost refl).1)
  some_lost feed (false ∷ fulls) (due ∷ dues) h some =
      let one = one_size feed false due h.0 in
      let most = h.0.most in
      let rest = some_lost (suc feed) fulls dues h.1 some in
      let less = rest.0 in
      (omega (arith, one, most, less, held_more feed (length dues), sum_by-cons (λ (l : List Entry). length l) due dues), rest.1)

  -- of each feed the journal has a beginning of what is due
  pub beginnings : (first : ℕ) (fulls : List Bool) (dues : List (List Entry)) → HaveDue limit journal first fulls dues → (feed : ℕ) (due : List Entry) → slice_get dues feed ≡ Some due →
      IsPrefix (of_feed (first + feed) journal) due
  beginnings first [] [] h feed due at = absurd cc
  beginnings first [] (one ∷ dues) h feed due at = absurd h
  beginnings first (full ∷ fulls) [] h feed due at = absurd h
  beginnings first (full ∷ fulls) (one ∷ dues) h zero due at =
      let same : one ≡ due = cc in
      let number : first + 0 ≡ first = omega arith in
      (drop h.0.count due, ap (λ n. of_feed n journal ++ drop h.0.count due) number ∙ ap (λ l. l ++ drop h.0.count due) (h.0.is ∙ ap (take h.0.count) same) ∙ take-append-drop h.0.count due)
  beginnings first (full ∷ fulls) (one ∷ dues) h (suc feed) due at =
      let number : first + suc feed ≡ suc first + feed = omega arith in
      subst (λ n. IsPrefix (of_feed n journal) due) (sym number) (beginnings (suc first) fulls dues h.1 feed due at)

  -- and all of it, where none found the journal full
  pub wholes : (first : ℕ) (fulls : List Bool) (dues : List (List Entry)) → HaveDue limit journal first fulls dues → list_any is_so fulls ≡ false → (feed : ℕ) (due : List Entry) → slice_get dues feed ≡ Some due →
      of_feed (first + feed) journal ≡ due
  wholes first [] [] h none feed due at = absurd cc
  wholes first [] (one ∷ dues) h none feed due at = absurd h
  wholes first (full ∷ fulls) [] h none feed due at = absurd h
  wholes first (true ∷ fulls) (one ∷ dues) h none feed due at = absurd (let e : true ≡ false = none in cc)
  wholes first (false ∷ fulls) (one ∷ dues) h none zero due at =
      let same : one ≡ due = cc in
      let number : first + 0 ≡ first = omega arith in
      ap (λ n. of_feed n journal) number ∙ h.0.is ∙ ap (λ n. take n one) (h.0.whole refl) ∙ take-length one ∙ same
  wholes first (false ∷ fulls) (one ∷ dues) h none (suc feed) due at =
      let number : first + suc feed ≡ suc first + feed = omega arith in
      ap (λ n. of_feed n journal) number ∙ wholes (suc first) fulls dues h.1 none feed due at

  -- the journal is as long as what is due in all, or is full; and it is full exactly where more is due
  module _ (fulls : List Bool) (dues : List (List Entry)) (h : HaveDue limit journal 0 fulls dues) (within : length journal ≤ limit) (counted : length journal ≡ held 0 (length dues)) where
    pub is_lost : nat_lt limit (sum_by length dues) ≡ list_any is_so fulls
    is_lost = by (list_any is_so fulls) refl
      where
        by : (b : Bool) → list_any is_so fulls ≡ b → nat_lt limit (sum_by length dues) ≡ b
        by true some = (let less = (some_lost 0 fulls dues h some).0 in let most = (some_lost 0 fulls dues h some).1 in grind (arith, nat_tests))
        by false none = (let all = all_kept 0 fulls dues h none in grind (arith, nat_tests))

    pub is_counted : length journal ≡ min (sum_by length dues) limit
    is_counted = by (list_any is_so fulls) refl
      where
        by : (b : Bool) → list_any is_so fulls ≡ b → length journal ≡ min (sum_by length dues) limit
        by true some = (let less = (some_lost 0 fulls dues h some).0 in let most = (some_lost 0 fulls dues h some).1 in omega (arith, less, most, counted))
        by false none = (let all = all_kept 0 fulls dues h none in omega (arith, all, within, counted))

    pub none_lost : sum_by length dues ≤ limit → list_any is_so fulls ≡ false
    none_lost le = by (list_any is_so fulls) refl
      where
        by : (b : Bool) → list_any is_so fulls ≡ b → list_any is_so fulls ≡ false
        by true some = absurd (let less = (some_lost 0 fulls dues h some).0 in let most = (some_lost 0 fulls dues h some).1 in omega (arith, less, most, counted, le))
        by false none = none
