-- An entry with its number in the journal and the rate of the page after it, and its one text. The form is this project's own;
-- a rate is bounded as in RFC 5905, appendix A.1.1 (MAXFREQ, 500 parts per million).
use Rattle.std.specs.Prelude.{◌≡◌, ℕ, ◌<◌, ◌≤◌, ◌^◌, Bool, true, nat_le, List, [], ◌∷◌, ◌++◌, codes, decimal, ℤ, unsigned_abs}
use Rattle.std.specs.Fmt.{signed_decimal}
use Rattle.tick_units.specs.Units.{most_rate}
use Rattle.journal_entry.specs.Entries.{IsEntry}
use Rattle.journal_entry.specs.Texts.{spaced, text_of}
use Rattle.journal_entry.specs.declared.numbered.Numbered.{Numbered}

-- at most 500 parts per million either way, in units of 2^-32
abbrev pub is_rate : ℤ → Bool
is_rate rate = nat_le (unsigned_abs rate) most_rate

-- its number, which counts from 1, and its rate
pub record IsNumbered (n : Numbered) : Type 0 where
  pub least : 1 ≤ n.length
  pub length : n.length < 2 ^ 64
  pub rate : is_rate n.rate ≡ true
  pub entry : IsEntry n.entry

-- a word that says that this is the second form of a line, the two numbers, and the text of the entry
abbrev pub numbered_text : Numbered → List ℕ
numbered_text n = codes "j2" ++ spaced (decimal n.length ∷ signed_decimal n.rate ∷ text_of n.entry ∷ [])

-- a text is this numbered entry's
pub record IsNumberedTextOf (text : List ℕ) (n : Numbered) : Type 0 where
  pub numbered : IsNumbered n
  pub is : text ≡ numbered_text n
