-- The page, which says how the server computes the time, and its ten words of 64 bits. Its fields are those that an answer takes
-- from the server's variables (RFC 5905, section 9.2); how they are packed is this project's own.
use Rattle.std.specs.Prelude.{◌≡◌, ℕ, ◌+◌, ◌*◌, ◌^◌, ◌<◌, Bool, false, List, [], ◌∷◌, ℤ, pos, neg_ℤ, ◌≤ℤ◌, ◌<ℤ◌, unsigned_abs}
use Rattle.std.specs.Int.{from_bool, int_rem_euclid}
use Rattle.tick_units.specs.Units.{IsRate, floor_div}
use Rattle.tick_units.specs.declared.stamp.Short.{Short}
use Rattle.tick_units.specs.declared.stamp.Stamp.{Stamp}

-- what a page says
pub record PageFields : Type 0 where
  pub length : ℕ
  pub sync : Bool
  pub stratum : ℕ
  pub refid : ℕ
  pub offset : ℤ
  pub anchor : ℕ
  pub until : ℕ
  pub root_delay : Short
  pub root_disp : Short
  pub reftime : Stamp
  pub leap_at : ℕ
  pub rate : ℤ

-- the reference ID of a server that is not synchronised, `INIT`
abbrev pub init_id : ℕ
init_id = 0x494e4954

-- the root dispersion where nothing is known, 16 s (MAXDISP)
abbrev pub unknown_dispersion : ℕ
unknown_dispersion = 0x00100000

-- the page of this many entries at a moment, where the server does not know the time
abbrev pub unsynchronised : ℕ → ℕ → PageFields
unsynchronised length anchor = record {
  length = length;
  sync = false;
  stratum = 0;
  refid = init_id;
  offset = pos 0;
  anchor = anchor;
  until = 0;
  root_delay = record { 0 = 0 };
  root_disp = record { 0 = unknown_dispersion };
  reftime = record { 0 = 0 };
  leap_at = 0;
  rate = pos 0;
}

-- what holds of every page: its offset is not negative, and its rate is within the bound. Where it is not synchronised, it says
-- nothing more than that.
pub record IsSound (p : PageFields) : Type 0 where
  pub offset : pos 0 ≤ℤ p.offset
  pub rate : IsRate p.rate
  pub unsynchronised : p.sync ≡ false → p ≡ unsynchronised p.length p.anchor

-- the same, with the ranges of the fields
pub record IsPage (p : PageFields) : Type 0 where
  pub sound : IsSound p
  pub length : p.length < 2 ^ 64
  pub stratum : p.stratum < 2 ^ 8
  pub refid : p.refid < 2 ^ 32
  pub offset : p.offset <ℤ pos (2 ^ 70)
  pub anchor : p.anchor < 2 ^ 50
  pub until : p.until < 2 ^ 64
  pub root_delay : p.root_delay.0 < 2 ^ 32
  pub root_disp : p.root_disp.0 < 2 ^ 32
  pub reftime : p.reftime.0 < 2 ^ 64
  pub leap_at : p.leap_at < 2 ^ 64

-- a number that may be negative in a word: modulo 2^64
abbrev pub word_of : ℤ → ℕ
word_of z = unsigned_abs (int_rem_euclid z (pos (2 ^ 64)))

-- the ten words of a page
unfoldable pub words : PageFields → List ℕ
words p =
    p.length
    ∷ (from_bool p.sync * 2 ^ 40 + p.stratum * 2 ^ 32 + p.refid)
    ∷ word_of p.offset
    ∷ p.anchor
    ∷ p.until
    ∷ (p.root_delay.0 * 2 ^ 32 + p.root_disp.0)
    ∷ p.reftime.0
    ∷ p.leap_at
    ∷ unsigned_abs (floor_div p.offset (2 ^ 64))
    ∷ word_of p.rate
    ∷ []

-- these words are the page's
pub record AreWords (w : List ℕ) (p : PageFields) : Type 0 where
  pub page : IsPage p
  pub words : w ≡ words p
