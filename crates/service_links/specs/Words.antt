-- The words of `RADIO_NTPD_SERVICE`, by which a supervisor says how a run begins, ends and asks. A number is in decimal, without
-- leading zeros. All of it is this project's own.
use Rattle.std.specs.Prelude.{◌≡◌, ◌≢◌, ◌==◌, ◌||◌, ◌≤◌, ℕ, Bool, true, false, Option, None, Some, List, [], ◌∷◌, ◌++◌, codes, decimal, take, drop, length, if◌then◌else◌}
use Rattle.std.specs.List.{list_any, slice_split}
use Rattle.service_links.specs.declared.word.Word.{Word}
use Rattle.service_links.specs.declared.word.Word.TheVariants.{Socket, Ask, Go, End, Pace}
use Rattle.service_links.specs.declared.word.Fault.{Fault}
use Rattle.service_links.specs.declared.word.Fault.TheVariants.{Unknown, Twice}

-- the text of a word: its name, an equals sign, and its number
abbrev pub text_of : Word → List ℕ
text_of (Socket n) = codes "socket=" ++ decimal n
text_of (Ask n) = codes "ask=" ++ decimal n
text_of (Go n) = codes "go=" ++ decimal n
text_of (End n) = codes "end=" ++ decimal n
text_of (Pace n) = codes "pace=" ++ decimal n

-- a number of a descriptor; those below 3 are of the standard streams
abbrev pub IsDescriptor : ℕ → Type 0
IsDescriptor n = (3 ≤ n) × (n ≤ 65535)

-- a word whose number is in range
abbrev pub IsWord : Word → Type 0
IsWord (Socket n) = IsDescriptor n
IsWord (Ask n) = IsDescriptor n
IsWord (Go n) = IsDescriptor n
IsWord (End n) = IsDescriptor n
IsWord (Pace n) = n ≤ 65535

-- the number of the descriptor that a word names
abbrev pub descriptor_of : Word → Option ℕ
descriptor_of (Socket n) = Some n
descriptor_of (Ask n) = Some n
descriptor_of (Go n) = Some n
descriptor_of (End n) = Some n
descriptor_of (Pace n) = None

abbrev pub is_same : Option ℕ → Option ℕ → Bool
is_same None other = false
is_same (Some n) None = false
is_same (Some n) (Some m) = n == m

-- words of one name; each name but that of a socket stands at most once
abbrev pub is_twice : Word → Word → Bool
is_twice (Ask n) (Ask m) = true
is_twice (Go n) (Go m) = true
is_twice (End n) (End m) = true
is_twice (Pace n) (Pace m) = true
is_twice other word = false

-- no word has the number of another, and none stands twice
abbrev pub excludes : Word → Word → Bool
excludes other word = is_twice other word || is_same (descriptor_of other) (descriptor_of word)

abbrev pub is_excluded : List Word → Word → Bool
is_excluded words word = list_any (λ other. excludes other word) words

-- a word that may follow others, with its text
pub record Follows (words : List Word) (word : Word) (text : List ℕ) : Type 0 where
  pub valid : IsWord word
  pub is : text ≡ text_of word
  pub free : is_excluded words word ≡ false

-- a text that is no word, or that of one which an earlier word excludes
abbrev pub IsBad : List Word → List ℕ → Fault → Type 0
IsBad words text Unknown = (word : Word) → IsWord word → text ≢ text_of word
IsBad words text Twice = (word : Word) × IsWord word × (text ≡ text_of word) × (is_excluded words word ≡ true)

-- the texts between spaces; an empty text has none
abbrev pub texts_in : List ℕ → List (List ℕ)
texts_in text = if length text == 0 then [] else slice_split (λ b. b == 32) text

-- texts that are words, each of which may follow those before it; all words, with those before the first text
abbrev pub AreWords : List Word → List (List ℕ) → List Word → Type 0
AreWords before [] all = all ≡ before
AreWords before (text ∷ texts) all = (word : Word) × Follows before word text × AreWords (before ++ (word ∷ [])) texts all

-- the first bad one of texts: those before it are words
pub record IsFirstBad (before : List Word) (texts : List (List ℕ)) (bad : List ℕ) (fault : Fault) : Type 0 where
  pub place : ℕ
  pub words : List Word
  pub valid : AreWords before (take place texts) words
  pub later : List (List ℕ)
  pub stands : drop place texts ≡ bad ∷ later
  pub is : IsBad words bad fault
