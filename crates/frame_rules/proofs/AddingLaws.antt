-- What one more mark does to the numbers of a segment.
use Rattle.std.specs.Prelude.{◌==◌, min, if◌then◌else◌}
use Rattle.std.proofs.Common.{◌≡◌, ℕ, suc, ◌+◌, ◌<◌, ◌≤◌, Bool, true, false, not, ◌&&◌, ◌||◌, Option, Some, None, List, [], ◌∷◌, ◌++◌, length, take, drop, refl, ap, sym, ◌∙◌, arith}
use Rattle.std.specs.List.{last_or}
use Rattle.std.proofs.lemmas.Bool.Decides.{nat_tests}
use Rattle.std.proofs.lemmas.List.{length-append, take_all, take-append-le, drop-append-le, drop_all}
use Rattle.std.proofs.lemmas.List.Folds.{list_any-append}
use Rattle.frame_rules.specs.Fields.{has_a, has_b}
use Rattle.tick_units.specs.Marks.{is_between, is_long}
use Rattle.frame_rules.specs.Rules.{starts_of, are_spaced, is_odd, has_odd_symbol}
use Rattle.tick_units.specs.declared.marks.Mark.{Mark}
use Rattle.tick_units.specs.declared.marks.Symbol.{Symbol}
use Rattle.frame_rules.specs.MarkRules.{breaks_spacing, breaks_spacing_to, breaks_width}
use Rattle.frame_rules.specs.Words.{is_near, has_long, last_of, word_of, HasMarks}
use Rattle.frame_rules.specs.declared.frame.Frame.{Frame}

or_false : (b : Bool) → (b || false) ≡ b
or_false true = refl
or_false false = refl

and_true : (b : Bool) → (b && true) ≡ b
and_true true = refl
and_true false = refl

and_assoc : (a b c : Bool) → ((a && b) && c) ≡ (a && (b && c))
and_assoc true b c = refl
and_assoc false b c = refl

not_and : (a b : Bool) → not (a && b) ≡ (not a || not b)
not_and true b = refl
not_and false b = refl

pub last_push : {A : Type 0} (before : Option A) (items : List A) (item : A) → last_or before (items ++ item ∷ []) ≡ Some item
last_push before [] item = refl
last_push before (x ∷ xs) item = last_push (Some x) xs item

-- one more start is next to the last one alone
spaced_after : (x : Mark) (xs : List Mark) (start : ℕ) → are_spaced (starts_of (x ∷ xs) ++ start ∷ []) ≡ (are_spaced (starts_of (x ∷ xs)) && is_near (last_or (Some x) xs) start)
spaced_after x [] start = and_true (is_between (x.at + 900000) (x.at + 1100000) start)
spaced_after x (y ∷ ys) start =
    let near = is_between (x.at + 900000) (x.at + 1100000) y.at in
    ap (λ b. near && b) (spaced_after y ys start) ∙ sym (and_assoc near (are_spaced (starts_of (y ∷ ys))) (is_near (last_or (Some y) ys) start))

spaced_to : (marks : List Mark) (start : ℕ) → are_spaced (starts_of marks ++ start ∷ []) ≡ (are_spaced (starts_of marks) && is_near (last_or None marks) start)
spaced_to [] start = refl
spaced_to (x ∷ xs) start = spaced_after x xs start

starts_push : (marks : List Mark) (mark : Mark) → starts_of (marks ++ mark ∷ []) ≡ starts_of marks ++ mark.at ∷ []
starts_push [] mark = refl
starts_push (x ∷ xs) mark = ap (λ starts. x.at ∷ starts) (starts_push xs mark)

pub spacing_to : (marks : List Mark) (close : ℕ) → breaks_spacing_to marks close ≡ (breaks_spacing marks || not (is_near (last_or None marks) close))
spacing_to marks close = ap not (spaced_to marks close) ∙ not_and (are_spaced (starts_of marks)) (is_near (last_or None marks) close)

spacing_push : (marks : List Mark) (mark : Mark) → breaks_spacing (marks ++ mark ∷ []) ≡ (breaks_spacing marks || not (is_near (last_or None marks) mark.at))
spacing_push marks mark = ap (λ starts. not (are_spaced starts)) (starts_push marks mark) ∙ spacing_to marks mark.at

width_push : (marks : List Mark) (mark : Mark) → has_odd_symbol (marks ++ mark ∷ []) ≡ (has_odd_symbol marks || is_odd mark.symbol)
width_push marks mark = list_any-append (λ (m : Mark). is_odd m.symbol) marks (mark ∷ []) ∙ ap (λ b. has_odd_symbol marks || b) (or_false (is_odd mark.symbol))

long_push : (marks : List Mark) (mark : Mark) → has_long (marks ++ mark ∷ []) ≡ (has_long marks || is_long mark.symbol)
long_push marks mark = list_any-append (λ (m : Mark). is_long m.symbol) marks (mark ∷ []) ∙ ap (λ b. has_long marks || b) (or_false (is_long mark.symbol))

-- what a function does that puts one more bit to a word that has this many
abbrev pub Puts : ℕ → ℕ → ℕ → Bool → Type 0
Puts count word now bit = (test : Symbol → Bool) (marks : List Mark) (mark : Mark) → word ≡ word_of test marks → length marks ≡ count → bit ≡ test mark.symbol → now ≡ word_of test (marks ++ mark ∷ [])

-- a frame that has room for the bits of one more mark
module _ {C : Type 0} (frame : Frame C) (marks : List Mark) (mark : Mark) (h : HasMarks frame marks) (lt : frame.count < 61) where
  length_is : length marks ≡ frame.count
  length_is = omega (arith, h.count)

  length_now : length (marks ++ mark ∷ []) ≡ frame.count + 1
  length_now = omega (arith, length_is, length-append marks (mark ∷ []))

  pub count_kept : frame.count + 1 ≡ min (length (marks ++ mark ∷ [])) 61
  count_kept = omega (arith, length_now)

  pub word_kept : (test : Symbol → Bool) (word now : ℕ) (bit : Bool) → word ≡ word_of test (take 61 marks) → Puts frame.count word now bit → bit ≡ test mark.symbol → now ≡ word_of test (take 61 (marks ++ mark ∷ []))
  word_kept test word now bit before puts is =
      puts test marks mark (before ∙ ap (word_of test) (take_all 61 marks (omega (arith, length_is)))) length_is is
      ∙ ap (word_of test) (sym (take_all 61 (marks ++ mark ∷ []) (omega (arith, length_now))))

  pub after_kept : frame.long_after ≡ has_long (drop 61 (marks ++ mark ∷ []))
  after_kept =
      let before : drop 61 marks ≡ [] = drop_all 61 marks (omega (arith, length_is)) in
      let now : drop 61 (marks ++ mark ∷ []) ≡ [] = drop_all 61 (marks ++ mark ∷ []) (omega (arith, length_now)) in
      h.long_after ∙ ap has_long before ∙ ap has_long (sym now)

-- a frame that has the bits of 61 marks
module _ {C : Type 0} (frame : Frame C) (marks : List Mark) (mark : Mark) (h : HasMarks frame marks) (le : 61 ≤ frame.count) where
  full : 61 ≤ length marks
  full = omega (arith, h.count)

  pub count_full : frame.count ≡ min (length (marks ++ mark ∷ [])) 61
  count_full = omega (arith, h.count, length-append marks (mark ∷ []))

  pub word_full : (test : Symbol → Bool) (word : ℕ) → word ≡ word_of test (take 61 marks) → word ≡ word_of test (take 61 (marks ++ mark ∷ []))
  word_full test word before = before ∙ ap (word_of test) (sym (take-append-le 61 marks (mark ∷ []) full))

  pub after_full : (later : Bool) → later ≡ (frame.long_after || is_long mark.symbol) → later ≡ has_long (drop 61 (marks ++ mark ∷ []))
  after_full later e = e ∙ ap (λ b. b || is_long mark.symbol) h.long_after ∙ sym (ap has_long (drop-append-le 61 marks (mark ∷ []) full) ∙ long_push (drop 61 marks) mark)

-- whatever the count
module _ {C : Type 0} (frame : Frame C) (marks : List Mark) (mark : Mark) (h : HasMarks frame marks) where
  pub spacing_added : (last : Option Mark) (far now : Bool) → last ≡ last_or None marks → far ≡ not (is_near last mark.at) → now ≡ (frame.spacing_broken || far) → now ≡ breaks_spacing (marks ++ mark ∷ [])
  spacing_added last far now is e f = f ∙ ap (λ b. frame.spacing_broken || b) (e ∙ ap (λ o. not (is_near o mark.at)) is) ∙ rw h.spacing (sym (spacing_push marks mark))

  pub width_added : (odd now : Bool) → odd ≡ is_odd mark.symbol → now ≡ (frame.width_broken || odd) → now ≡ breaks_width (marks ++ mark ∷ [])
  width_added odd now e f = f ∙ ap (λ b. frame.width_broken || b) e ∙ rw h.width (sym (width_push marks mark))

-- a count is not 0 after a mark
some_count : (count n : ℕ) → count ≡ min (suc n) 61 → (count == 0) ≡ false
some_count count n e = grind (arith, nat_tests)

pub last_added : (count : ℕ) (marks : List Mark) (mark : Mark) → count ≡ min (length (marks ++ mark ∷ [])) 61 → (if count == 0 then None else Some mark) ≡ last_or None (marks ++ mark ∷ [])
last_added count marks mark e =
    let longer : length (marks ++ mark ∷ []) ≡ suc (length marks) = omega (arith, length-append marks (mark ∷ [])) in
    let some = some_count count (length marks) (e ∙ ap (λ n. min n 61) longer) in
    rw some (sym (last_push None marks mark))

-- a count is 0 where there is no mark
pub last_is : {C : Type 0} (frame : Frame C) (marks : List Mark) → HasMarks frame marks → (frame.count == 0) ≡ true → None ≡ last_or None marks
last_is frame marks h e = rw e at h.last

pub last_is_some : {C : Type 0} (frame : Frame C) (marks : List Mark) → HasMarks frame marks → (frame.count == 0) ≡ false → Some (record { at = frame.last_at; symbol = frame.last_symbol }) ≡ last_or None marks
last_is_some frame marks h e = rw e at h.last

-- whether the last mark and the closing one are a second apart
pub spacing_closed : {C : Type 0} (frame : Frame C) (marks : List Mark) (last : Option Mark) (close : ℕ) → HasMarks frame marks → last ≡ last_or None marks → (frame.spacing_broken || not (is_near last close)) ≡ breaks_spacing_to marks close
spacing_closed frame marks last close h is = rw (h.spacing, is) (sym (spacing_to marks close))
