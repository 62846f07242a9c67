-- An entry is known by its word, and a word by its fourth letter.
use Rattle.std.proofs.Common.{◌≡◌, ℕ, ◌^◌, ◌<◌, Bool, true, false, List, [], ◌∷◌, get_or, drop, codes, refl, ap, sym, ◌∙◌, arith}
use Rattle.std.specs.Cmp.Lexicographic.{pointwise}
use Rattle.std.specs.Prelude.{nat_eq}
use Rattle.std.proofs.lemmas.Bool.{both_ways}
use Rattle.std.proofs.lemmas.Slice.Eq.{bytes_eq-Decides}
use Rattle.tick_units.specs.declared.verdicts.Kind.TheVariants.{Verdict, Lone, Differs, Refused}
use Rattle.tick_units.specs.declared.sample.Sample.{Sample as TimeSample}
use Rattle.journal_entry.specs.Entries.{IsSample, IsWhat}
use Rattle.journal_entry.specs.Reading.{has_space}
use Rattle.journal_entry.specs.Texts.{what_fields}
use Rattle.journal_entry.specs.declared.entry.What.{What}
use Rattle.journal_entry.specs.declared.entry.What.TheVariants.{Heard, Sample, Declined, Notice}

abbrev pub word_of : What → List ℕ
word_of w = get_or (what_fields w) 0 []

abbrev pub numbers_of : What → List (List ℕ)
numbers_of w = drop 1 (what_fields w)

pub word_first : (w : What) → what_fields w ≡ word_of w ∷ numbers_of w
word_first (Heard (Verdict second leap_at)) = refl
word_first (Heard (Lone second)) = refl
word_first (Heard (Differs before now apart)) = refl
word_first (Heard (Refused rule)) = refl
word_first (Sample s) = refl
word_first (Declined code) = refl
word_first (Notice leap_at) = refl

pub no_space_in_word : (w : What) → has_space (word_of w) ≡ false
no_space_in_word (Heard (Verdict second leap_at)) = refl
no_space_in_word (Heard (Lone second)) = refl
no_space_in_word (Heard (Differs before now apart)) = refl
no_space_in_word (Heard (Refused rule)) = refl
no_space_in_word (Sample s) = refl
no_space_in_word (Declined code) = refl
no_space_in_word (Notice leap_at) = refl

-- a word that was read and found to be this one
pub same_word : (read : List ℕ) (w : What) (word : List ℕ) (same : Bool) → same ≡ pointwise nat_eq read word → same ≡ true → read ≡ word_of w → word_of w ≡ word
same_word read w word same is found e = sym e ∙ (bytes_eq-Decides read word).0 (sym is ∙ found)

-- and one that was found to be another
pub other_word : (read : List ℕ) (w : What) (word : List ℕ) (same : Bool) → same ≡ pointwise nat_eq read word → same ≡ false → read ≡ word_of w → word_of w ≡ word → ⊥
other_word read w word same is missed e there = both_ways same missed (is ∙ (bytes_eq-Decides read word).1 (e ∙ there))

-- what holds of each verdict holds of each entry with that word; and so of the other words
pub of_verdict : (P : What → Type 0) (w : What) → IsWhat w → word_of w ≡ codes "verdict" → ((second leap_at : ℕ) → second < 2 ^ 64 → leap_at < 2 ^ 64 → P (Heard (Verdict second leap_at))) → P w
of_verdict P (Heard (Verdict second leap_at)) ok word each = each second leap_at ok.0 ok.1
of_verdict P _ ok word each = (let letter = ap (λ (t : List ℕ). get_or t 3 0) word in absurd (omega arith))

pub of_lone : (P : What → Type 0) (w : What) → IsWhat w → word_of w ≡ codes "lone" → ((second : ℕ) → second < 2 ^ 64 → P (Heard (Lone second))) → P w
of_lone P (Heard (Lone second)) ok word each = each second ok
of_lone P _ ok word each = (let letter = ap (λ (t : List ℕ). get_or t 3 0) word in absurd (omega arith))

pub of_differs : (P : What → Type 0) (w : What) → IsWhat w → word_of w ≡ codes "differs" → ((before now apart : ℕ) → before < 2 ^ 64 → now < 2 ^ 64 → apart < 2 ^ 64 → P (Heard (Differs before now apart))) → P w
of_differs P (Heard (Differs before now apart)) ok word each = each before now apart ok.0 ok.1 ok.2
of_differs P _ ok word each = (let letter = ap (λ (t : List ℕ). get_or t 3 0) word in absurd (omega arith))

pub of_refused : (P : What → Type 0) (w : What) → IsWhat w → word_of w ≡ codes "refused" → ((rule : ℕ) → rule < 2 ^ 8 → P (Heard (Refused rule))) → P w
of_refused P (Heard (Refused rule)) ok word each = each rule ok
of_refused P _ ok word each = (let letter = ap (λ (t : List ℕ). get_or t 3 0) word in absurd (omega arith))

pub of_sample : (P : What → Type 0) (w : What) → IsWhat w → word_of w ≡ codes "sample" → ((s : TimeSample) → IsSample s → P (Sample s)) → P w
of_sample P (Sample s) ok word each = each s ok
of_sample P (Heard (Verdict second leap_at)) ok word each = (let letter = ap (λ (t : List ℕ). get_or t 3 0) word in absurd (omega arith))
of_sample P _ ok word each = (let letter = ap (λ (t : List ℕ). get_or t 3 0) word in absurd (omega arith))

pub of_declined : (P : What → Type 0) (w : What) → IsWhat w → word_of w ≡ codes "declined" → ((code : ℕ) → code < 2 ^ 8 → P (Declined code)) → P w
of_declined P (Declined code) ok word each = each code ok
of_declined P (Heard (Verdict second leap_at)) ok word each = (let letter = ap (λ (t : List ℕ). get_or t 3 0) word in absurd (omega arith))
of_declined P _ ok word each = (let letter = ap (λ (t : List ℕ). get_or t 3 0) word in absurd (omega arith))

pub of_notice : (P : What → Type 0) (w : What) → IsWhat w → word_of w ≡ codes "notice" → ((leap_at : ℕ) → leap_at < 2 ^ 64 → P (Notice leap_at)) → P w
of_notice P (Notice leap_at) ok word each = each leap_at ok
of_notice P (Heard (Verdict second leap_at)) ok word each = (let letter = ap (λ (t : List ℕ). get_or t 3 0) word in absurd (omega arith))
of_notice P _ ok word each = (let letter = ap (λ (t : List ℕ). get_or t 3 0) word in absurd (omega arith))

-- each entry has one of the words
pub one_of_words : (w : What) → (word_of w ≡ codes "verdict" → ⊥) → (word_of w ≡ codes "lone" → ⊥) → (word_of w ≡ codes "differs" → ⊥) → (word_of w ≡ codes "refused" → ⊥)
    → (word_of w ≡ codes "sample" → ⊥) → (word_of w ≡ codes "declined" → ⊥) → (word_of w ≡ codes "notice" → ⊥) → ⊥
one_of_words (Heard (Verdict second leap_at)) verdict lone differs refused sample declined notice = verdict refl
one_of_words (Heard (Lone second)) verdict lone differs refused sample declined notice = lone refl
one_of_words (Heard (Differs before now apart)) verdict lone differs refused sample declined notice = differs refl
one_of_words (Heard (Refused rule)) verdict lone differs refused sample declined notice = refused refl
one_of_words (Sample s) verdict lone differs refused sample declined notice = sample refl
one_of_words (Declined code) verdict lone differs refused sample declined notice = declined refl
one_of_words (Notice leap_at) verdict lone differs refused sample declined notice = notice refl
