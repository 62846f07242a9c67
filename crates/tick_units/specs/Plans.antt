-- The two names of a code plan: its keyword, which is this project's own, and its reference ID (RFC 5905, section 7.3).
use Rattle.std.specs.Prelude.{ℕ, Option, List, [], ◌∷◌, find, codes}
use Rattle.std.specs.Str.{bytes_eq}
use Rattle.tick_units.specs.declared.marks.Plan.{Plan}
use Rattle.tick_units.specs.declared.marks.Plan.TheVariants.{Dcf, Msf, Wwvb}

abbrev pub word_of : Plan → List ℕ
word_of Dcf = codes "dcf"
word_of Msf = codes "msf"
word_of Wwvb = codes "wwvb"

abbrev pub plans : List Plan
plans = Dcf ∷ Msf ∷ Wwvb ∷ []

-- the plan that has this name
abbrev pub plan_of : List ℕ → Option Plan
plan_of word = find (λ plan. bytes_eq word (word_of plan)) plans

-- the letters DCF and a zero, MSF and a zero, WWVB, the first of them in the highest of four bytes
abbrev pub reference_id_of : Plan → ℕ
reference_id_of Dcf = 0x44434600
reference_id_of Msf = 0x4d534600
reference_id_of Wwvb = 0x57575642
