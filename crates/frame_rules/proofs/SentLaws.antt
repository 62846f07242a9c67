-- What makes a log of a code plan readable: facts of how it is read and how it is sent. The crate of each plan proves them, once.
use Rattle.std.proofs.Common.{◌≡◌, ℕ, ◌+◌, ◌*◌, ◌<◌, ◌≤◌, ◌==◌, ◌&&◌, Bool, true, false, not, None, Some, List, [], ◌∷◌, length, map, refl}
use Rattle.std.specs.Prelude.{◌⊎◌, if◌then◌else◌}
use Rattle.std.specs.List.{list_all}
use Rattle.std.proofs.lemmas.Bool.{and_parts}
use Rattle.std.proofs.lemmas.List.{length-set}
use Rattle.frame_rules.specs.Codes.{Code}
use Rattle.frame_rules.specs.Digits.{bit_symbol}
use Rattle.frame_rules.specs.Fields.{symbols_of}
use Rattle.frame_rules.specs.Sendings.{Sending, damaged_if}
use Rattle.tick_units.specs.Marks.{is_between}
use Rattle.tick_units.specs.declared.marks.Mark.{Mark}
use Rattle.tick_units.specs.declared.marks.Reduction.{Reduction}
use Rattle.tick_units.specs.declared.marks.Symbol.{Symbol}
use Rattle.tick_units.specs.declared.marks.Symbol.TheVariants.{Zero, One, OnlyB, Both, Long, Odd}
use Rattle.tick_units.specs.declared.verdicts.Coded.{Coded}

-- ---- what is written

-- a test of every symbol
abbrev pub every : (Symbol → Bool) → Bool
every test = list_all test (Zero ∷ One ∷ OnlyB ∷ Both ∷ Long ∷ Odd ∷ [])

pub every_one : (test : Symbol → Bool) → every test ≡ true → (symbol : Symbol) → test symbol ≡ true
every_one test e = of_each
  where
    rest : (x : Symbol) (xs : List Symbol) → list_all test (x ∷ xs) ≡ true → (test x ≡ true) × (list_all test xs ≡ true)
    rest x xs h = and_parts (test x) (list_all test xs) h

    zero_on : (test Zero ≡ true) × (list_all test (One ∷ OnlyB ∷ Both ∷ Long ∷ Odd ∷ []) ≡ true)
    zero_on = rest Zero (One ∷ OnlyB ∷ Both ∷ Long ∷ Odd ∷ []) e

    one_on : (test One ≡ true) × (list_all test (OnlyB ∷ Both ∷ Long ∷ Odd ∷ []) ≡ true)
    one_on = rest One (OnlyB ∷ Both ∷ Long ∷ Odd ∷ []) zero_on.1

    b_on : (test OnlyB ≡ true) × (list_all test (Both ∷ Long ∷ Odd ∷ []) ≡ true)
    b_on = rest OnlyB (Both ∷ Long ∷ Odd ∷ []) one_on.1

    both_on : (test Both ≡ true) × (list_all test (Long ∷ Odd ∷ []) ≡ true)
    both_on = rest Both (Long ∷ Odd ∷ []) b_on.1

    long_on : (test Long ≡ true) × (list_all test (Odd ∷ []) ≡ true)
    long_on = rest Long (Odd ∷ []) both_on.1

    of_each : (symbol : Symbol) → test symbol ≡ true
    of_each Zero = zero_on.0
    of_each One = one_on.0
    of_each OnlyB = b_on.0
    of_each Both = both_on.0
    of_each Long = long_on.0
    of_each Odd = (rest Odd [] long_on.1).0

-- a line of a log can have this width
abbrev pub can_stand : ℕ → Bool
can_stand width = is_between 1 2000000 width

-- its widths can stand in a log, and its seconds have room in it
pub record FitsLog (sending : Sending) : Type 0 where
  pub widths : every (λ symbol. can_stand (sending.width symbol)) ≡ true
  pub minute : (c : Coded) → length (sending.spelt c) ≤ 60
  pub opening : sending.opening_index + length sending.opening ≤ 2
  pub closing : length sending.closing ≤ 2

-- ---- what is read of it

-- the mark that is read of a second with this symbol, whose reduction starts here
abbrev pub read_of : Code → Sending → Symbol → Symbol
read_of code sending symbol = code.symbol (sending.width symbol)

abbrev pub sent_mark : Code → Sending → ℕ → Symbol → Mark
sent_mark code sending at symbol = record { at = at; symbol = read_of code sending symbol }

-- a symbol that has one reduction
abbrev pub is_alone : Symbol → Bool
is_alone OnlyB = false
is_alone Zero = true
is_alone One = true
is_alone Both = true
is_alone Long = true
is_alone Odd = true

pub alone_bit : (bit : Bool) → is_alone (bit_symbol bit) ≡ true
alone_bit true = refl
alone_bit false = refl

pub damaged_count : (damaged : Bool) (symbols : List Symbol) → length (damaged_if damaged symbols) ≡ length symbols
damaged_count true symbols = length-set symbols 30 Odd
damaged_count false symbols = refl

-- how minutes follow one another
pub record Shape : Type 0 where
  -- how many seconds of a minute have a mark, and how many seconds after the last of them the next minute begins
  pub marked : ℕ
  pub gap : ℕ
  -- what begins a minute, and what ends it
  pub begins : Symbol → Bool
  pub ends : Symbol → Bool
  -- a second of this symbol begins a minute, directly after one of that symbol
  pub steps : Symbol → Symbol → Bool

-- none of these does, of which the first stands after that symbol
abbrev pub is_calm : Shape → Symbol → List Symbol → Bool
is_calm shape before [] = true
is_calm shape before (symbol ∷ more) = not (shape.steps before symbol) && is_calm shape symbol more

-- the last of these symbols
abbrev pub last_symbol : Symbol → List Symbol → Symbol
last_symbol symbol [] = symbol
last_symbol symbol (next ∷ more) = last_symbol next more

-- the symbols of a minute, of which only the first begins one
pub record IsMinute (shape : Shape) (symbols : List Symbol) : Type 0 where
  pub head : Symbol
  pub tail : List Symbol
  pub is : symbols ≡ head ∷ tail
  pub begins_it : shape.begins head ≡ true
  pub calm : is_calm shape head tail ≡ true
  pub ends_it : shape.ends (last_symbol head tail) ≡ true
  pub alone : list_all is_alone symbols ≡ true
  pub count : length symbols ≡ shape.marked

-- nothing stands before the first minute, since a mark is seen by itself to begin one
pub record OpensAlone (code : Code) (sending : Sending) (shape : Shape) : Type 0 where
  pub none : sending.opening ≡ []
  pub begins : (at : ℕ) (head : Symbol) → shape.begins head ≡ true → code.begins_minute None (sent_mark code sending at head) ≡ true

-- the end of a minute stands before it, and is not seen to begin one
pub record OpensAfter (code : Code) (sending : Sending) (shape : Shape) : Type 0 where
  pub last : Symbol
  pub one : sending.opening ≡ last ∷ []
  pub far : sending.opening_index + shape.gap ≡ 2
  pub alone : is_alone last ≡ true
  pub ends_it : shape.ends last ≡ true
  pub calm : (at : ℕ) → code.begins_minute None (sent_mark code sending at last) ≡ false

-- a mark that begins a minute closes the last one; one more follows where only the reduction after a mark shows that it is whole
pub record Closes (code : Code) (sending : Sending) (shape : Shape) : Type 0 where
  pub head : Symbol
  pub after : Symbol
  pub is : sending.closing ≡ head ∷ (if code.has_parts then after ∷ [] else [])
  pub begins_it : shape.begins head ≡ true
  pub head_alone : is_alone head ≡ true
  pub after_alone : is_alone after ≡ true

-- Starts are in microseconds, and each is up to 2 ms late.
pub record ReadsBack (code : Code) (sending : Sending) : Type 0 where
  pub shape : Shape
  pub most : shape.marked ≤ 60
  pub whole : shape.marked + shape.gap ≡ 61
  -- reductions of two seconds are not the parts of one
  pub apart : (r next : Reduction) → r.at + 250000 < next.at → code.are_parts r next ≡ false
  -- a second later
  pub steps : (at next : ℕ) (a b : Symbol) → next ≤ at + 1002000 → code.begins_minute (Some (sent_mark code sending at a)) (sent_mark code sending next b) ≡ shape.steps a b
  -- from the end of a minute to the next
  pub leads : (at next : ℕ) (last head : Symbol) → at + shape.gap * 1000000 ≤ next + 2000 → next ≤ at + shape.gap * 1000000 + 2000 → shape.ends last ≡ true → shape.begins head ≡ true
      → code.begins_minute (Some (sent_mark code sending at last)) (sent_mark code sending next head) ≡ true
  pub opening : OpensAlone code sending shape ⊎ OpensAfter code sending shape
  pub closing : Closes code sending shape
  -- minutes that announce no leap second, and have none
  pub minute : (damaged : Bool) (c : Coded) → c.leap_at ≡ 0 → (c.leap_at == c.minute) ≡ false → IsMinute shape (damaged_if damaged (sending.spelt c))
  pub no_leap : (damaged : Bool) (c : Coded) (marks : List Mark) → c.leap_at ≡ 0 → symbols_of marks ≡ map (read_of code sending) (damaged_if damaged (sending.spelt c)) → (code.coded marks).leap_at ≡ 0
