-- One word more, and the first bad text.
use Rattle.std.proofs.Common.{◌≡◌, ℕ, ◌+◌, ◌<◌, ◌≤◌, List, [], ◌∷◌, ◌++◌, length, take, drop, get_or, sym, ap, subst, ◌∙◌, arith}
use Rattle.std.proofs.lemmas.List.{take_more, drop_more, take_all}
use Rattle.service_links.specs.declared.word.Word.{Word}
use Rattle.service_links.specs.declared.word.Fault.{Fault}
use Rattle.service_links.specs.Words.{AreWords, Follows, IsBad, IsFirstBad}

-- words stay words with one more that may follow them
pub and_one : (before : List Word) (texts : List (List ℕ)) (all : List Word) (word : Word) (text : List ℕ) → AreWords before texts all → Follows all word text → AreWords before (texts ++ (text ∷ [])) (all ++ (word ∷ []))
and_one before [] all word text h f = (word, subst (λ ws. Follows ws word text) h f, ap (λ ws. ws ++ (word ∷ [])) h)
and_one before (x ∷ texts) all word text h f = (h.0, h.1, and_one (before ++ (h.0 ∷ [])) texts all word text h.2 f)

-- the same of the next one of all texts; `texts` are those, and `all` what they are called elsewhere
pub next_word : (before : List Word) (all texts : List (List ℕ)) (place : ℕ) (words : List Word) (word : Word) (text : List ℕ) → all ≡ texts → (place < length texts) × (text ≡ get_or texts place text) → AreWords before (take place all) words → Follows words word text → AreWords before (take (place + 1) all) (words ++ (word ∷ []))
next_word before all texts place words word text same at h f =
    let h2 = subst (λ ts. AreWords before (take place ts) words) same h in
    subst (λ ts. AreWords before ts (words ++ (word ∷ []))) (sym (ap (λ ts. take (place + 1) ts) same ∙ (take_more texts place text at.0 ∙ ap (λ t. take place texts ++ (t ∷ [])) (sym at.1)))) (and_one before (take place texts) words word text h2 f)

-- the next text is the first bad one
pub next_bad : (before : List Word) (all texts : List (List ℕ)) (place : ℕ) (words : List Word) (text : List ℕ) (fault : Fault) → all ≡ texts → (place < length texts) × (text ≡ get_or texts place text) → AreWords before (take place all) words → IsBad words text fault → IsFirstBad before all text fault
next_bad before all texts place words text fault same at h bad = record {
  place = place;
  words = words;
  valid = h;
  later = drop (place + 1) texts;
  stands = ap (λ ts. drop place ts) same ∙ (drop_more texts place text at.0 ∙ ap (λ t. t ∷ drop (place + 1) texts) (sym at.1));
  is = bad;
}

-- no text is left
pub all_words : (before : List Word) (all texts : List (List ℕ)) (place : ℕ) (words : List Word) → all ≡ texts → place ≡ length texts → AreWords before (take place all) words → AreWords before all words
all_words before all texts place words same end h =
    let whole : length all ≤ place = subst (λ n. length all ≤ n) (ap (λ ts. length ts) same ∙ sym end) (omega arith) in
    subst (λ ts. AreWords before ts words) (take_all place all whole) h
