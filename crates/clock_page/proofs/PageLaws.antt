-- A page and its words: which page it is follows from the words.
use Rattle.std.proofs.Common.{◌≡◌, ℕ, ◌+◌, ◌-◌, ◌*◌, ◌/◌, ◌%◌, ◌^◌, ◌<◌, ◌≤◌, Bool, true, false, List, [], ◌∷◌, length, slice_index, ℤ, pos, negsuc, ◌≤ℤ◌, ◌<ℤ◌, refl, sym, ap, ◌∙◌, arith, subst, unsigned_abs}
use Rattle.std.specs.Int.{from_bool}
use Rattle.std.proofs.lemmas.Int.{ints}
use Rattle.tick_units.specs.Units.{IsRate, floor_div}
use Rattle.clock_page.specs.Page.{AreWords, PageFields, unsynchronised, word_of, words}

-- the high word of a span that is not negative
pub high_word : (z : ℤ) → pos 0 ≤ℤ z → unsigned_abs z / 2 ^ 64 ≡ unsigned_abs (floor_div z (2 ^ 64))
high_word (pos n) least = refl
high_word (negsuc n) least = absurd (omega (arith, ints))

-- such a span from its two words
two_words : (z : ℤ) → pos 0 ≤ℤ z → z ≡ pos (unsigned_abs (floor_div z (2 ^ 64)) * 2 ^ 64 + word_of z)
two_words (pos n) least = ap pos (omega arith)
two_words (negsuc n) least = absurd (omega (arith, ints))

high_word-below : (z : ℤ) → pos 0 ≤ℤ z → z <ℤ pos (2 ^ 70) → unsigned_abs (floor_div z (2 ^ 64)) < 64
high_word-below (pos n) least most = let small : n < 2 ^ 70 = omega (arith, ints) in omega arith
high_word-below (negsuc n) least most = absurd (omega (arith, ints))

-- each word by its place
record EachWord (w : List ℕ) (p : PageFields) : Type 0 where
  length : p.length ≡ slice_index w 0
  state : from_bool p.sync * 2 ^ 40 + p.stratum * 2 ^ 32 + p.refid ≡ slice_index w 1
  low : word_of p.offset ≡ slice_index w 2
  anchor : p.anchor ≡ slice_index w 3
  until : p.until ≡ slice_index w 4
  root : p.root_delay.0 * 2 ^ 32 + p.root_disp.0 ≡ slice_index w 5
  reftime : p.reftime.0 ≡ slice_index w 6
  leap_at : p.leap_at ≡ slice_index w 7
  high : unsigned_abs (floor_div p.offset (2 ^ 64)) ≡ slice_index w 8
  rate : word_of p.rate ≡ slice_index w 9

each_word : (w : List ℕ) (p : PageFields) → AreWords w p → EachWord w p
unfolding words
each_word w p h =
    let at = λ (i : ℕ). ap (λ (l : List ℕ). slice_index l i) (sym h.words) in
    record { length = at 0; state = at 1; low = at 2; anchor = at 3; until = at 4; root = at 5; reftime = at 6; leap_at = at 7; high = at 8; rate = at 9 }

-- the moment and the high word are in range
pub anchor-below : (w : List ℕ) (p : PageFields) → AreWords w p → slice_index w 3 < 2 ^ 50
anchor-below w p h = let e = each_word w p h in let below = h.page.anchor in omega arith

pub high-below : (w : List ℕ) (p : PageFields) → AreWords w p → slice_index w 8 < 64
high-below w p h = let e = each_word w p h in let below = high_word-below p.offset h.page.sound.offset h.page.offset in omega arith

-- the word of a rate, which is within its bound, and is its one rate's
rate_word : (rate : ℤ) → IsRate rate → (2147483 < word_of rate → 2 ^ 64 - 2147483 ≤ word_of rate)
rate_word (pos n) bounded above = let most = bounded.most in absurd (omega (arith, ints))
rate_word (negsuc n) bounded above = let least = bounded.least in let few : n < 2147483 = omega (arith, ints) in omega arith

pub rate-within : (w : List ℕ) (p : PageFields) → AreWords w p → 2147483 < slice_index w 9 → 2 ^ 64 - 2147483 ≤ slice_index w 9
rate-within w p h above =
    let e = each_word w p h in
    let within = rate_word p.rate h.page.sound.rate (subst (λ n. 2147483 < n) (sym e.rate) above) in
    subst (λ n. 2 ^ 64 - 2147483 ≤ n) e.rate within

one_rate : (x y : ℤ) → IsRate x → IsRate y → word_of x ≡ word_of y → x ≡ y
one_rate (pos a) (pos b) g h same = let most = g.most in let most_too = h.most in let few : a ≤ 2147483 = omega (arith, ints) in let few_too : b ≤ 2147483 = omega (arith, ints) in ap pos (omega arith)
one_rate (pos a) (negsuc b) g h same = let most = g.most in let least = h.least in let few : a ≤ 2147483 = omega (arith, ints) in let few_too : b < 2147483 = omega (arith, ints) in absurd (omega arith)
one_rate (negsuc a) (pos b) g h same = let least = g.least in let most = h.most in let few : a < 2147483 = omega (arith, ints) in let few_too : b ≤ 2147483 = omega (arith, ints) in absurd (omega arith)
one_rate (negsuc a) (negsuc b) g h same = let least = g.least in let least_too = h.least in let few : a < 2147483 = omega (arith, ints) in let few_too : b < 2147483 = omega (arith, ints) in ap negsuc (omega arith)

pub rate-is : (w : List ℕ) (p : PageFields) (rate : ℤ) → AreWords w p → IsRate rate → slice_index w 9 ≡ word_of rate → rate ≡ p.rate
rate-is w p rate h bounded is = one_rate rate p.rate bounded h.page.sound.rate (sym is ∙ sym (each_word w p h).rate)

-- whether it is synchronised, and its stratum, in the half of a word
bit-small : (b : Bool) → from_bool b ≤ 1
bit-small true = omega arith
bit-small false = omega arith

pub state-below : (w : List ℕ) (p : PageFields) → AreWords w p → slice_index w 1 / 2 ^ 32 < 512
state-below w p h =
    let e = each_word w p h in
    let bit = bit-small p.sync in
    let stratum = h.page.stratum in
    let refid = h.page.refid in
    omega arith

-- the words of a page that is not synchronised
state-unsynced : (w : List ℕ) (p : PageFields) → AreWords w p → p.sync ≡ false → slice_index w 1 / 2 ^ 32 < 256
state-unsynced w p h off =
    let e = each_word w p h in
    let bit = ap from_bool off in
    let stratum = h.page.stratum in
    let refid = h.page.refid in
    omega arith

state-synced : (w : List ℕ) (p : PageFields) → AreWords w p → p.sync ≡ true → (slice_index w 1 / 2 ^ 32 ≡ 256 + p.stratum) × (slice_index w 1 % 2 ^ 32 ≡ p.refid)
state-synced w p h on =
    let e = each_word w p h in
    let bit = ap from_bool on in
    let stratum = h.page.stratum in
    let refid = h.page.refid in
    (omega arith, omega arith)

-- the synchronised page of a rate that ten words can be those of
abbrev pub spelled : List ℕ → ℤ → PageFields
spelled w rate = record {
  length = slice_index w 0;
  sync = true;
  stratum = slice_index w 1 / 2 ^ 32 % 256;
  refid = slice_index w 1 % 2 ^ 32;
  offset = pos (slice_index w 8 * 2 ^ 64 + slice_index w 2);
  anchor = slice_index w 3;
  until = slice_index w 4;
  root_delay = record { 0 = slice_index w 5 / 2 ^ 32 };
  root_disp = record { 0 = slice_index w 5 % 2 ^ 32 };
  reftime = record { 0 = slice_index w 6 };
  leap_at = slice_index w 7;
  rate = rate;
}

pub unsynced-page : (w : List ℕ) (p : PageFields) → AreWords w p → slice_index w 1 / 2 ^ 32 < 256 → p ≡ unsynchronised (slice_index w 0) (slice_index w 3)
unsynced-page w p h few = by_bit p.sync refl
  where
    by_bit : (b : Bool) → p.sync ≡ b → p ≡ unsynchronised (slice_index w 0) (slice_index w 3)
    by_bit true on = absurd (omega (arith, (state-synced w p h on).0))
    by_bit false off = let e = each_word w p h in h.page.sound.unsynchronised off ∙ (λ i. unsynchronised (e.length i) (e.anchor i))

pub synced-page : (w : List ℕ) (p : PageFields) → AreWords w p → 256 ≤ slice_index w 1 / 2 ^ 32 → p ≡ spelled w p.rate
synced-page w p h many = by_bit p.sync refl
  where
    by_bit : (b : Bool) → p.sync ≡ b → p ≡ spelled w p.rate
    by_bit false off = absurd (omega (arith, state-unsynced w p h off))
    by_bit true on =
        let e = each_word w p h in
        let state = state-synced w p h on in
        let few = h.page.stratum in
        let disp = h.page.root_disp in
        let stratum : p.stratum ≡ slice_index w 1 / 2 ^ 32 % 256 = omega arith in
        let delay : p.root_delay.0 ≡ slice_index w 5 / 2 ^ 32 = omega arith in
        let dispersion : p.root_disp.0 ≡ slice_index w 5 % 2 ^ 32 = omega arith in
        let offset = two_words p.offset h.page.sound.offset ∙ (λ i. pos (e.high i * 2 ^ 64 + e.low i)) in
        λ i. record {
          length = e.length i;
          sync = on i;
          stratum = stratum i;
          refid = sym state.1 i;
          offset = offset i;
          anchor = e.anchor i;
          until = e.until i;
          root_delay = record { 0 = delay i };
          root_disp = record { 0 = dispersion i };
          reftime = record { 0 = e.reftime i };
          leap_at = e.leap_at i;
          rate = p.rate;
        }

-- ten words one by one
ten : (w : List ℕ) → length w ≡ 10 → w ≡ slice_index w 0 ∷ slice_index w 1 ∷ slice_index w 2 ∷ slice_index w 3 ∷ slice_index w 4 ∷ slice_index w 5 ∷ slice_index w 6 ∷ slice_index w 7 ∷ slice_index w 8 ∷ slice_index w 9 ∷ []
ten [] long = absurd (omega arith)
ten (a ∷ []) long = absurd (omega arith)
ten (a ∷ b ∷ []) long = absurd (omega arith)
ten (a ∷ b ∷ c ∷ []) long = absurd (omega arith)
ten (a ∷ b ∷ c ∷ d ∷ []) long = absurd (omega arith)
ten (a ∷ b ∷ c ∷ d ∷ e ∷ []) long = absurd (omega arith)
ten (a ∷ b ∷ c ∷ d ∷ e ∷ f ∷ []) long = absurd (omega arith)
ten (a ∷ b ∷ c ∷ d ∷ e ∷ f ∷ g ∷ []) long = absurd (omega arith)
ten (a ∷ b ∷ c ∷ d ∷ e ∷ f ∷ g ∷ h ∷ []) long = absurd (omega arith)
ten (a ∷ b ∷ c ∷ d ∷ e ∷ f ∷ g ∷ h ∷ i ∷ []) long = absurd (omega arith)
ten (a ∷ b ∷ c ∷ d ∷ e ∷ f ∷ g ∷ h ∷ i ∷ j ∷ []) long = refl
ten (a ∷ b ∷ c ∷ d ∷ e ∷ f ∷ g ∷ h ∷ i ∷ j ∷ k ∷ more) long = absurd (omega arith)

-- ten words in which each number is within its range
pub record AreInRange (w : List ℕ) (rate : ℤ) : Type 0 where
  pub long : length w ≡ 10
  pub entries : slice_index w 0 < 2 ^ 64
  pub synced : 256 ≤ slice_index w 1 / 2 ^ 32
  pub stratum : slice_index w 1 / 2 ^ 32 < 512
  pub low : slice_index w 2 < 2 ^ 64
  pub anchor : slice_index w 3 < 2 ^ 50
  pub until : slice_index w 4 < 2 ^ 64
  pub root_delay : slice_index w 5 / 2 ^ 32 < 2 ^ 32
  pub reftime : slice_index w 6 < 2 ^ 64
  pub leap_at : slice_index w 7 < 2 ^ 64
  pub high : slice_index w 8 < 64
  pub bound : IsRate rate
  pub slewed : slice_index w 9 ≡ word_of rate

-- they are those of the page that they spell
pub spelled-are_words : (w : List ℕ) (rate : ℤ) → AreInRange w rate → AreWords w (spelled w rate)
unfolding words
spelled-are_words w rate r =
    let synced = r.synced in
    let stratum = r.stratum in
    let low = r.low in
    let high = r.high in
    let state : slice_index w 1 ≡ 1 * 2 ^ 40 + slice_index w 1 / 2 ^ 32 % 256 * 2 ^ 32 + slice_index w 1 % 2 ^ 32 = omega arith in
    let low_word : slice_index w 2 ≡ (slice_index w 8 * 2 ^ 64 + slice_index w 2) % 2 ^ 64 = omega arith in
    let high_half : slice_index w 8 ≡ (slice_index w 8 * 2 ^ 64 + slice_index w 2) / 2 ^ 64 = omega arith in
    let root : slice_index w 5 ≡ slice_index w 5 / 2 ^ 32 * 2 ^ 32 + slice_index w 5 % 2 ^ 32 = omega arith in
    let few : slice_index w 8 * 2 ^ 64 + slice_index w 2 < 2 ^ 70 = omega arith in
    record {
      page = record {
        sound = record { offset = omega (arith, ints); rate = r.bound; unsynchronised = λ off. absurd (let never : true ≡ false = off in cc) };
        length = r.entries;
        stratum = omega arith;
        refid = omega arith;
        offset = omega (arith, ints);
        anchor = r.anchor;
        until = r.until;
        root_delay = r.root_delay;
        root_disp = omega arith;
        reftime = r.reftime;
        leap_at = r.leap_at;
      };
      words = ten w r.long ∙ (λ i. slice_index w 0 ∷ state i ∷ low_word i ∷ slice_index w 3 ∷ slice_index w 4 ∷ root i ∷ slice_index w 6 ∷ slice_index w 7 ∷ high_half i ∷ r.slewed i ∷ []);
    }
