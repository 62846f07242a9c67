-- When a page ends. Its root dispersion grows with the drift of the host's counter (PHI of RFC 5905, section 4). The page is not
-- trusted from the moment at which it is above the operator's bound. This bound is this project's own.
use Rattle.std.specs.Prelude.{◌≡◌, ℕ, zero, suc, ◌+◌, ◌*◌, ◌^◌, ◌≤◌, Bool, true, nat_lt, if◌then◌else◌}
use Rattle.tick_units.specs.Units.{phi}

-- the root dispersion of a page this many microseconds after it was made; a short has 65536 units of 2^-32 s
abbrev pub dispersion_after : ℕ → ℕ → ℕ
dispersion_after root_disp microseconds = root_disp * 65536 + phi microseconds

-- whether it is above the bound by then
abbrev pub is_above : ℕ → ℕ → ℕ → Bool
is_above bound root_disp microseconds = nat_lt bound (dispersion_after root_disp microseconds)

-- the least number at which a test holds, of those below a limit, and the limit where it holds at none of them
unfoldable pub least_below : ℕ → (ℕ → Bool) → ℕ
least_below zero test = 0
least_below (suc n) test = if test (least_below n test) then least_below n test else suc n

-- for how many microseconds a page is trusted: the least number after which it is above the bound; a bound of at most 16 s lasts
-- for less than 2^41 microseconds, which are 25 days
abbrev pub lasts : ℕ → ℕ → ℕ
lasts bound root_disp = least_below (2 ^ 41) (is_above bound root_disp)

-- a number is the least at which a test holds
pub record IsLeast (test : ℕ → Bool) (n : ℕ) : Type 0 where
  pub holds : test n ≡ true
  pub least : (k : ℕ) → test k ≡ true → n ≤ k
