-- Lists whose items are reported one by one, by their places.
use Rattle.std.proofs.Common.{◌≡◌, ℕ, zero, suc, ◌+◌, ◌<◌, Option, List, [], ◌∷◌, ◌++◌, drop, length, refl, sym, ap, ◌∙◌, subst, arith, append_assoc}
use Rattle.std.specs.Prelude.{IsSome, Some, get_or, slice_get}
use Rattle.std.specs.Option.{option_to_list}
use Rattle.std.proofs.lemmas.List.{append-nil}
use Rattle.outside_traits.specs.States.{SinkState}
use Rattle.journal_entry.specs.Texts.{spaced}
use Rattle.station_report.specs.Crewing.{HasLeast}
use Rattle.station_report.specs.Headline.{each_cause, each_text}
use Rattle.outside_traits.specs.Writing.{WritesAll, WritesPrefix}
use Rattle.command_ends.specs.declared.ending.Ending.{Ending}
use Rattle.outside_traits.proofs.WritingLaws.{prefix_of_more, writes_prefix, writes_more}

pub drop_one : {X : Type 0} (xs : List X) (i : ℕ) (d : X) → i < length xs → drop i xs ≡ get_or xs i d ∷ drop (i + 1) xs
drop_one [] i d lt = absurd (omega (arith, lt))
drop_one (x ∷ xs) zero d lt = refl
drop_one (x ∷ xs) (suc i) d lt =
    let next : suc i + 1 ≡ suc (i + 1) = omega arith in
    drop_one xs i d (omega (arith, lt)) ∙ ap (λ n. get_or xs i d ∷ drop n (x ∷ xs)) (sym next)

pub none_later : {X : Type 0} (xs : List X) (i : ℕ) → i ≡ length xs → drop i xs ≡ []
none_later [] i e = ap (λ n. drop n []) e
none_later (x ∷ xs) zero e = absurd (omega (arith, e))
none_later (x ∷ xs) (suc i) e = none_later xs i (omega (arith, e))

-- this much of a text was written, and this is still to come
pub record HasWritten (out out_now : SinkState) (whole rest : List ℕ) : Type 0 where
  pub prefix : List ℕ
  pub is : whole ≡ prefix ++ rest
  pub written : WritesAll out out_now prefix

pub written_none : (out : SinkState) (whole : List ℕ) → WritesAll out out [] → HasWritten out out whole whole
written_none out whole none = record { prefix = []; is = refl; written = none }

-- the next piece was written
pub written_more : (a b c : SinkState) (whole rest piece more : List ℕ) → rest ≡ piece ++ more → HasWritten a b whole rest → WritesAll b c piece → HasWritten a c whole more
written_more a b c whole rest piece more split h k = record {
  prefix = h.prefix ++ piece;
  is = h.is ∙ ap (λ t. h.prefix ++ t) split ∙ sym (append_assoc h.prefix piece more);
  written = writes_more a b c h.prefix piece h.written k;
}

-- a write of it failed
pub written_prefix : (a b c : SinkState) (whole rest piece more : List ℕ) → rest ≡ piece ++ more → HasWritten a b whole rest → WritesPrefix b c piece → WritesPrefix a c whole
written_prefix a b c whole rest piece more split h k =
    let longer = writes_prefix a b c h.prefix piece h.written k in
    prefix_of_more a c (h.prefix ++ piece) whole (more, h.is ∙ ap (λ t. h.prefix ++ t) split ∙ sym (append_assoc h.prefix piece more)) longer

-- nothing is left to write
pub written_all : (a b : SinkState) (whole rest : List ℕ) → rest ≡ [] → HasWritten a b whole rest → WritesAll a b whole
written_all a b whole rest none h = subst (λ t. WritesAll a b t) (sym (h.is ∙ ap (λ t. h.prefix ++ t) none ∙ append-nil h.prefix)) h.written

-- the texts of the items from a place on
pub text_split : {X : Type 0} (text : ℕ → X → List ℕ) (place : ℕ) (xs : List X) (i : ℕ) (d : X) → i < length xs → each_text text place (drop i xs) ≡ text place (get_or xs i d) ++ each_text text (suc place) (drop (i + 1) xs)
text_split text place xs i d lt = ap (each_text text place) (drop_one xs i d lt)

-- the causes of these so far, and of those that are still to come
pub record HasLooked {X : Type 0} (cause : ℕ → X → Option Ending) (all : List Ending) (place : ℕ) (rest : List X) (whole : List Ending) (found : Option Ending) : Type 0 where
  pub prefix : List Ending
  pub is : whole ≡ prefix ++ each_cause cause place rest
  pub least : HasLeast (all ++ prefix) found

pub looked_none : {X : Type 0} (cause : ℕ → X → Option Ending) (all : List Ending) (place : ℕ) (xs : List X) (found : Option Ending) → HasLeast all found → HasLooked cause all place xs (each_cause cause place xs) found
looked_none cause all place xs found h = record { prefix = []; is = refl; least = subst (λ l. HasLeast l found) (sym (append-nil all)) h }

pub looked_more : {X : Type 0} (cause : ℕ → X → Option Ending) (all whole : List Ending) (place next : ℕ) (xs : List X) (i : ℕ) (d : X) (found now : Option Ending) (one : Option Ending) → next ≡ suc place → i < length xs → one ≡ cause place (get_or xs i d) →
    ((before : List Ending) → HasLeast before found → HasLeast (before ++ option_to_list one) now) → HasLooked cause all place (drop i xs) whole found → HasLooked cause all next (drop (i + 1) xs) whole now
looked_more cause all whole place next xs i d found now one on lt is step h = record {
  prefix = h.prefix ++ option_to_list one;
  is = h.is ∙ ap (λ l. h.prefix ++ each_cause cause place l) (drop_one xs i d lt) ∙ ap (λ o. h.prefix ++ (option_to_list o ++ each_cause cause (suc place) (drop (i + 1) xs))) (sym is)
      ∙ ap (λ n. h.prefix ++ (option_to_list one ++ each_cause cause n (drop (i + 1) xs))) (sym on) ∙ sym (append_assoc h.prefix (option_to_list one) (each_cause cause next (drop (i + 1) xs)));
  least = subst (λ l. HasLeast l now) (append_assoc all h.prefix (option_to_list one)) (step (all ++ h.prefix) h.least);
}

pub looked_all : {X : Type 0} (cause : ℕ → X → Option Ending) (all whole : List Ending) (place : ℕ) (rest : List X) (found : Option Ending) → rest ≡ [] → HasLooked cause all place rest whole found → HasLeast (all ++ whole) found
looked_all cause all whole place rest found none h =
    subst (λ l. HasLeast (all ++ l) found) (sym (h.is ∙ ap (λ l. h.prefix ++ each_cause cause place l) none ∙ append-nil h.prefix)) h.least

-- a text that was put together piece by piece
pub back : (w v u x y : List ℕ) → u ≡ v ++ y → v ≡ w ++ x → u ≡ w ++ (x ++ y)
back w v u x y h k = h ∙ ap (λ l. l ++ y) k ∙ append_assoc w x y

-- an item that stands at a place
pub some_at : {X : Type 0} (xs : List X) (i : ℕ) → i < length xs → IsSome (slice_get xs i)
some_at [] i lt = absurd (omega (arith, lt))
some_at (x ∷ xs) zero lt = refl
some_at (x ∷ xs) (suc i) lt = some_at xs i (omega (arith, lt))

pub drop_got : {X : Type 0} (xs : List X) (i : ℕ) (x : X) → slice_get xs i ≡ Some x → drop i xs ≡ x ∷ drop (i + 1) xs
drop_got [] i x at = absurd cc
drop_got (y ∷ xs) zero x at = (let same : y ≡ x = cc in ap (λ z. z ∷ xs) same)
drop_got (y ∷ xs) (suc i) x at =
    let next : suc i + 1 ≡ suc (i + 1) = omega arith in
    drop_got xs i x at ∙ ap (λ n. x ∷ drop n (y ∷ xs)) (sym next)

-- a text that nothing stands before
pub from_none : (w u x : List ℕ) → u ≡ w ++ x → w ≡ [] → u ≡ x
from_none w u x h none = h ∙ ap (λ l. l ++ x) none

-- fields, each after a space, with a text at their end
abbrev pub run_on : List (List ℕ) → List ℕ → List ℕ
run_on [] end = end
run_on (field ∷ fields) end = (32 ∷ field) ++ run_on fields end

pub run_on-spaced : (fields : List (List ℕ)) (end : List ℕ) → run_on fields end ≡ spaced fields ++ end
run_on-spaced [] end = refl
run_on-spaced (field ∷ fields) end = ap (λ l. (32 ∷ field) ++ l) (run_on-spaced fields end) ∙ sym (append_assoc (32 ∷ field) (spaced fields) end)
