-- How far the taking of a piece has come, and how it goes on.
use Rattle.std.proofs.Common.{◌≡◌, ◌==◌, ◌≤◌, ℕ, true, length, arith, Option, None, Some, List, [], ◌∷◌, ◌++◌, Err, take, drop, refl, ap, sym, ◌∙◌, subst, append_assoc}
use Rattle.std.proofs.lemmas.List.{append-nil, take-append-drop}
use Rattle.std.proofs.lemmas.Bool.{true≢false}
use Rattle.std.proofs.lemmas.Bool.Decides.{nat_tests}
use Rattle.outside_traits.specs.States.{SinkState}
use Rattle.line_files.specs.declared.reading.Stop.{Stop}
use Rattle.line_files.specs.declared.reading.Stop.TheVariants.{BadLine, WriteFault}
use Rattle.line_files.specs.Taking.{Holds, Says, TakesAll, MeetsBad, Stops, StopsTaking, Gives, IsGiven, given as text_of, bad_of}
use Rattle.outside_traits.specs.Writing.{WritesAll, WritesPrefix}
use Rattle.outside_traits.proofs.WritingLaws.{writes_more}

-- of all these bytes this rest is still to be taken; the text of those before it is written
pub record IsTakenSoFar (holds : Holds) (start out : SinkState) (all rest : List ℕ) : Type 0 where
  pub prefix : List ℕ
  pub is : prefix ++ rest ≡ all
  pub text : List ℕ
  pub held : holds prefix text None
  pub written : WritesAll start out text

module _ (start out : SinkState) (all rest : List ℕ) (before : Holds) (h : IsTakenSoFar before start out all rest) where
  cut_at : (count : ℕ) → (h.prefix ++ take count rest) ++ drop count rest ≡ all
  cut_at count = append_assoc h.prefix (take count rest) (drop count rest) ∙ ap (λ (t : List ℕ). h.prefix ++ t) (take-append-drop count rest) ∙ h.is

  -- this many bytes more, whose text is written
  pub taken_on : (holds : Holds) (now : SinkState) (count : ℕ) (text : List ℕ) (bad : Option ℕ) →
      holds (h.prefix ++ take count rest) (h.text ++ text) bad → bad ≡ None → WritesAll out now text → IsTakenSoFar holds start now all (drop count rest)
  taken_on holds now count text bad held none written = record {
    prefix = h.prefix ++ take count rest;
    is = cut_at count;
    text = h.text ++ text;
    held = subst (λ (b : Option ℕ). holds (h.prefix ++ take count rest) (h.text ++ text) b) none held;
    written = writes_more start out now h.text text h.written written;
  }

  pub taken_bad : (holds : Holds) (now : SinkState) (count number : ℕ) (text : List ℕ) (bad : Option ℕ) →
      holds (h.prefix ++ take count rest) (h.text ++ text) bad → bad ≡ Some number → WritesAll out now text → MeetsBad holds number start now all
  taken_bad holds now count number text bad held is written = record {
    prefix = h.prefix ++ take count rest;
    later = drop count rest;
    all = cut_at count;
    text = h.text ++ text;
    held = subst (λ (b : Option ℕ). holds (h.prefix ++ take count rest) (h.text ++ text) b) is held;
    written = writes_more start out now h.text text h.written written;
  }

  rest_again : (count : ℕ) → take count rest ++ drop count rest ≡ rest
  rest_again count = take-append-drop count rest

  pub taken_stopped : (says : Says) → says h.prefix h.text → (now : SinkState) (count : ℕ) → length rest ≤ 512 →
      (text : List ℕ) → says (h.prefix ++ take count rest) (h.text ++ text) → WritesPrefix out now text → Stops says start now all
  taken_stopped says said now count room text adds written = record {
    earlier = h.prefix;
    next = take count rest;
    later = drop count rest;
    all = ap (λ (t : List ℕ). h.prefix ++ t) (rest_again count) ∙ h.is;
    near = (let len = ap length (rest_again count) in omega arith);
    text = h.text;
    said = said;
    between = out;
    whole = h.written;
    more = text;
    adds = adds;
    failed = written;
  }

-- a given text takes it on, or stops it
module _ (start out : SinkState) (all rest : List ℕ) (before : Holds) (h : IsTakenSoFar before start out all rest) where
  pub stopped_at : (holds : Holds) (says : Says) → ((b t : List ℕ) → holds b t None → says b t) → says h.prefix h.text → (now : SinkState) (count : ℕ) → length rest ≤ 512 →
      (gives : Gives) (line : List ℕ) → holds (h.prefix ++ take count rest) (h.text ++ text_of gives line) (bad_of gives) →
      (stop : Stop) → IsGiven (Err stop) gives line out now → StopsTaking holds says start now stop all
  stopped_at holds says all_said said now count room gives line held (BadLine number) written =
      taken_bad start out all rest before h holds now count number (text_of gives line) (bad_of gives) held written.0 written.1
  stopped_at holds says all_said said now count room gives line held WriteFault written =
      let longer = h.prefix ++ take count rest in
      let texts = h.text ++ text_of gives line in
      taken_stopped start out all rest before h says said now count room (text_of gives line) (all_said longer texts (subst (λ (b : Option ℕ). holds longer texts b) written.0 held)) written.1

-- nothing is left
pub taken_whole : (holds : Holds) (start out : SinkState) (all rest : List ℕ) → IsTakenSoFar holds start out all rest → rest ≡ [] → TakesAll holds start out all
taken_whole holds start out all rest h none =
    let same : h.prefix ≡ all = sym (append-nil h.prefix) ∙ ap (λ (t : List ℕ). h.prefix ++ t) (sym none) ∙ h.is in
    record { text = h.text; held = subst (λ (b : List ℕ). holds b h.text None) same h.held; written = h.written }

pub none_of : (rest : List ℕ) → true ≡ (length rest == 0) → rest ≡ []
none_of [] e = refl
none_of (x ∷ rest) e = absurd (true≢false (e ∙ grind (arith, nat_tests)))

-- what holds of two values holds of equal ones
pub of_equals : {A B : Type 0} (P : A → B → Type 0) (a a_now : A) (b b_now : B) → P a b → a ≡ a_now → b ≡ b_now → P a_now b_now
of_equals P a a_now b b_now h same_a same_b = subst (λ x. P x b_now) same_a (subst (λ y. P a y) same_b h)
