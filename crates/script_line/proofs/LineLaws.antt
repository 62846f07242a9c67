-- A text is at most one line's, and a line is never too long to be cut out of a script.
use Rattle.std.proofs.Common.{◌≡◌, ℕ, ◌+◌, ◌^◌, ◌<◌, ◌≤◌, true, false, eqb, leb, ◌&&◌, List, [], ◌∷◌, length, get_or, drop, decimal, refl, ap, sym, ◌∙◌, arith, inl, inr}
use Rattle.std.specs.List.{list_all}
use Rattle.std.proofs.lemmas.Bool.{and_parts, or_cases, or_from, leb-true, ne_eqb}
use Rattle.std.proofs.lemmas.Fmt.{length-decimal-le}
use Rattle.hex.specs.Hex.{encode_lower, lower_digits}
use Rattle.hex.proofs.HexLemmas.{length-encode_with}
use Rattle.journal_entry.specs.Texts.{spaced}
use Rattle.journal_entry.specs.Reading.{has_space}
use Rattle.journal_entry.proofs.LengthLaws.{moment_length, spaced_more}
use Rattle.journal_entry.proofs.SameLaws.{fields_same, number_same}
use Rattle.tick_units.specs.Years.{end_of_supported}
use Rattle.tick_units.specs.declared.marks.Reduction.{Reduction}
use Rattle.script_line.specs.Datagrams.{IsDatagram, bytes_said, is_small_digit}
use Rattle.script_line.specs.Texts.{IsLine, IsReduction, AreMoments, IsTextOf, text_of}
use Rattle.script_line.specs.declared.line.ScriptLine.{ScriptLine}
use Rattle.script_line.specs.declared.line.ScriptLine.TheVariants.{Pulse, Ask, Answer, Swap, Request, Leap}
use Rattle.script_line.proofs.DatagramLaws.{said_bytes, small_text}

no_space_in_digit : (c : ℕ) → is_small_digit c ≡ true → eqb c 32 ≡ false
no_space_in_digit c small = ne_eqb c 32 (λ e. elim (or_cases (leb 48 c && leb c 57) (leb 97 c && leb c 102) small) [
  | inl ten ↦ (let least = leb-true 48 c (and_parts (leb 48 c) (leb c 57) ten).0 in omega arith)
  | inr six ↦ (let least = leb-true 97 c (and_parts (leb 97 c) (leb c 102) six).0 in omega arith)
])

no_space_in_digits : (digits : List ℕ) → list_all is_small_digit digits ≡ true → has_space digits ≡ false
no_space_in_digits [] small = refl
no_space_in_digits (c ∷ digits) small =
    let parts = and_parts (is_small_digit c) (list_all is_small_digit digits) small in
    or_from (eqb c 32) (has_space digits) (no_space_in_digit c parts.0) (no_space_in_digits digits parts.1)

datagram_same : (bytes others : List ℕ) → IsDatagram bytes → IsDatagram others → spaced (encode_lower bytes ∷ []) ≡ spaced (encode_lower others ∷ []) → bytes ≡ others
datagram_same bytes others a b e =
    let both = fields_same (encode_lower bytes) (encode_lower others) [] [] (no_space_in_digits (encode_lower bytes) (small_text bytes a.each)) (no_space_in_digits (encode_lower others) (small_text others b.each)) (ap (drop 1) e) in
    sym (said_bytes bytes a.each) ∙ ap bytes_said both.first ∙ said_bytes others b.each

pulse_same : (feed other : ℕ) (r s : Reduction) → feed < 2 ^ 32 → other < 2 ^ 32 → IsReduction r → IsReduction s → text_of (Pulse feed r) ≡ text_of (Pulse other s) → Pulse feed r ≡ Pulse other s
pulse_same feed other r s small_r small_s a b e =
    let at_r = a.at in
    let at_s = b.at in
    let most_r = a.most in
    let most_s = b.most in
    let feed_is = number_same feed other (decimal r.at ∷ decimal r.width ∷ []) (decimal s.at ∷ decimal s.width ∷ []) (omega arith) (omega arith) (ap (drop 5) e) in
    let at_is = number_same r.at s.at (decimal r.width ∷ []) (decimal s.width ∷ []) (omega arith) (omega arith) feed_is.rest in
    let width_is = number_same r.width s.width [] [] (omega arith) (omega arith) at_is.rest in
    λ i. Pulse (feed_is.number i) (record { at = at_is.number i; width = width_is.number i })

request_same : (n m arrived came sent gone : ℕ) (bytes others : List ℕ) → n < 8 → m < 8 → AreMoments arrived sent → AreMoments came gone → IsDatagram bytes → IsDatagram others →
    text_of (Request n arrived sent bytes) ≡ text_of (Request m came gone others) → Request n arrived sent bytes ≡ Request m came gone others
request_same n m arrived came sent gone bytes others small_n small_m a b x y e =
    let order_a = a.order in
    let order_b = b.order in
    let below_a = a.below in
    let below_b = b.below in
    let number_is = number_same n m (decimal arrived ∷ decimal sent ∷ encode_lower bytes ∷ []) (decimal came ∷ decimal gone ∷ encode_lower others ∷ []) (omega arith) (omega arith) (ap (drop 7) e) in
    let arrived_is = number_same arrived came (decimal sent ∷ encode_lower bytes ∷ []) (decimal gone ∷ encode_lower others ∷ []) (omega arith) (omega arith) number_is.rest in
    let sent_is = number_same sent gone (encode_lower bytes ∷ []) (encode_lower others ∷ []) (omega arith) (omega arith) arrived_is.rest in
    let bytes_are = datagram_same bytes others x y sent_is.rest in
    λ i. Request (number_is.number i) (arrived_is.number i) (sent_is.number i) (bytes_are i)

ask_same : (feed other at moment : ℕ) → feed < 2 ^ 32 → other < 2 ^ 32 → at < 2 ^ 50 → moment < 2 ^ 50 → text_of (Ask feed at) ≡ text_of (Ask other moment) → Ask feed at ≡ Ask other moment
ask_same feed other at moment a b c d e =
    let feed_is = number_same feed other (decimal at ∷ []) (decimal moment ∷ []) (omega arith) (omega arith) (ap (drop 3) e) in
    let at_is = number_same at moment [] [] (omega arith) (omega arith) feed_is.rest in
    λ i. Ask (feed_is.number i) (at_is.number i)

answer_same : (feed other at moment : ℕ) (bytes others : List ℕ) → feed < 2 ^ 32 → other < 2 ^ 32 → at < 2 ^ 50 → moment < 2 ^ 50 → IsDatagram bytes → IsDatagram others →
    text_of (Answer feed at bytes) ≡ text_of (Answer other moment others) → Answer feed at bytes ≡ Answer other moment others
answer_same feed other at moment bytes others a b c d x y e =
    let feed_is = number_same feed other (decimal at ∷ encode_lower bytes ∷ []) (decimal moment ∷ encode_lower others ∷ []) (omega arith) (omega arith) (ap (drop 6) e) in
    let at_is = number_same at moment (encode_lower bytes ∷ []) (encode_lower others ∷ []) (omega arith) (omega arith) feed_is.rest in
    let bytes_are = datagram_same bytes others x y at_is.rest in
    λ i. Answer (feed_is.number i) (at_is.number i) (bytes_are i)

swap_same : (feed other : ℕ) → feed < 2 ^ 32 → other < 2 ^ 32 → text_of (Swap feed) ≡ text_of (Swap other) → Swap feed ≡ Swap other
swap_same feed other a b e = (let feed_is = number_same feed other [] [] (omega arith) (omega arith) (ap (drop 4) e) in λ i. Swap (feed_is.number i))

leap_same : (feed other at moment leap_at leap : ℕ) → feed < 2 ^ 32 → other < 2 ^ 32 → at < 2 ^ 50 → moment < 2 ^ 50 → leap_at < end_of_supported → leap < end_of_supported →
    text_of (Leap feed at leap_at) ≡ text_of (Leap other moment leap) → Leap feed at leap_at ≡ Leap other moment leap
leap_same feed other at moment leap_at leap a b c d x y e =
    let feed_is = number_same feed other (decimal at ∷ decimal leap_at ∷ []) (decimal moment ∷ decimal leap ∷ []) (omega arith) (omega arith) (ap (drop 4) e) in
    let at_is = number_same at moment (decimal leap_at ∷ []) (decimal leap ∷ []) (omega arith) (omega arith) feed_is.rest in
    let leap_is = number_same leap_at leap [] [] (omega arith) (omega arith) at_is.rest in
    λ i. Leap (feed_is.number i) (at_is.number i) (leap_is.number i)

-- the sum of the first two letters, which differs from word to word
abbrev letters_in : List ℕ → ℕ
letters_in text = get_or text 0 0 + get_or text 1 0

lines_same : (line other : ScriptLine) → IsLine line → IsLine other → text_of line ≡ text_of other → line ≡ other
lines_same (Pulse feed r) (Pulse other s) a b e = pulse_same feed other r s a.0 b.0 a.1 b.1 e
lines_same (Pulse feed r) (Ask other moment) a b e = (let letters = ap letters_in e in absurd (omega arith))
lines_same (Pulse feed r) (Answer other moment others) a b e = (let letters = ap letters_in e in absurd (omega arith))
lines_same (Pulse feed r) (Swap other) a b e = (let letters = ap letters_in e in absurd (omega arith))
lines_same (Pulse feed r) (Request m came gone others) a b e = (let letters = ap letters_in e in absurd (omega arith))
lines_same (Pulse feed r) (Leap other moment leap) a b e = (let letters = ap letters_in e in absurd (omega arith))
lines_same (Ask feed at) (Pulse other s) a b e = (let letters = ap letters_in e in absurd (omega arith))
lines_same (Ask feed at) (Ask other moment) a b e = ask_same feed other at moment a.0 b.0 a.1 b.1 e
lines_same (Ask feed at) (Answer other moment others) a b e = (let letters = ap letters_in e in absurd (omega arith))
lines_same (Ask feed at) (Swap other) a b e = (let letters = ap letters_in e in absurd (omega arith))
lines_same (Ask feed at) (Request m came gone others) a b e = (let letters = ap letters_in e in absurd (omega arith))
lines_same (Ask feed at) (Leap other moment leap) a b e = (let letters = ap letters_in e in absurd (omega arith))
lines_same (Answer feed at bytes) (Pulse other s) a b e = (let letters = ap letters_in e in absurd (omega arith))
lines_same (Answer feed at bytes) (Ask other moment) a b e = (let letters = ap letters_in e in absurd (omega arith))
lines_same (Answer feed at bytes) (Answer other moment others) a b e = answer_same feed other at moment bytes others a.0 b.0 a.1 b.1 a.2 b.2 e
lines_same (Answer feed at bytes) (Swap other) a b e = (let letters = ap letters_in e in absurd (omega arith))
lines_same (Answer feed at bytes) (Request m came gone others) a b e = (let letters = ap letters_in e in absurd (omega arith))
lines_same (Answer feed at bytes) (Leap other moment leap) a b e = (let letters = ap letters_in e in absurd (omega arith))
lines_same (Swap feed) (Pulse other s) a b e = (let letters = ap letters_in e in absurd (omega arith))
lines_same (Swap feed) (Ask other moment) a b e = (let letters = ap letters_in e in absurd (omega arith))
lines_same (Swap feed) (Answer other moment others) a b e = (let letters = ap letters_in e in absurd (omega arith))
lines_same (Swap feed) (Swap other) a b e = swap_same feed other a b e
lines_same (Swap feed) (Request m came gone others) a b e = (let letters = ap letters_in e in absurd (omega arith))
lines_same (Swap feed) (Leap other moment leap) a b e = (let letters = ap letters_in e in absurd (omega arith))
lines_same (Request n arrived sent bytes) (Pulse other s) a b e = (let letters = ap letters_in e in absurd (omega arith))
lines_same (Request n arrived sent bytes) (Ask other moment) a b e = (let letters = ap letters_in e in absurd (omega arith))
lines_same (Request n arrived sent bytes) (Answer other moment others) a b e = (let letters = ap letters_in e in absurd (omega arith))
lines_same (Request n arrived sent bytes) (Swap other) a b e = (let letters = ap letters_in e in absurd (omega arith))
lines_same (Request n arrived sent bytes) (Request m came gone others) a b e = request_same n m arrived came sent gone bytes others a.0 b.0 a.1 b.1 a.2 b.2 e
lines_same (Request n arrived sent bytes) (Leap other moment leap) a b e = (let letters = ap letters_in e in absurd (omega arith))
lines_same (Leap feed at leap_at) (Pulse other s) a b e = (let letters = ap letters_in e in absurd (omega arith))
lines_same (Leap feed at leap_at) (Ask other moment) a b e = (let letters = ap letters_in e in absurd (omega arith))
lines_same (Leap feed at leap_at) (Answer other moment others) a b e = (let letters = ap letters_in e in absurd (omega arith))
lines_same (Leap feed at leap_at) (Swap other) a b e = (let letters = ap letters_in e in absurd (omega arith))
lines_same (Leap feed at leap_at) (Request m came gone others) a b e = (let letters = ap letters_in e in absurd (omega arith))
lines_same (Leap feed at leap_at) (Leap other moment leap) a b e = leap_same feed other at moment leap_at leap a.0 b.0 a.1 b.1 a.2 b.2 e

-- a text is at most one line's
pub one_line : (text : List ℕ) (line other : ScriptLine) → IsTextOf text line → IsTextOf text other → line ≡ other
one_line text line other a b = lines_same line other a.valid b.valid (sym a.is ∙ b.is)

feed_length : (n : ℕ) → n < 2 ^ 32 → length (decimal n) ≤ 10
feed_length n small = length-decimal-le 10 n (omega arith) (omega arith) (omega arith)

second_length : (n : ℕ) → n < end_of_supported → length (decimal n) ≤ 10
second_length n reported = length-decimal-le 10 n (omega arith) (omega arith) (omega arith)

datagram_length : (bytes : List ℕ) → IsDatagram bytes → length (encode_lower bytes) ≤ 2048
datagram_length bytes h = (let most = h.most in omega (arith, length-encode_with lower_digits bytes))

-- a line has less than 4096 bytes
pub short_line : (line : ScriptLine) → IsLine line → length (text_of line) < 4096
short_line (Pulse feed r) h =
    let most = h.1.most in
    let a = spaced_more (decimal feed) (decimal r.at ∷ decimal r.width ∷ []) in
    let b = spaced_more (decimal r.at) (decimal r.width ∷ []) in
    let c = spaced_more (decimal r.width) [] in
    let x = feed_length feed h.0 in
    let y = moment_length r.at h.1.at in
    let z = feed_length r.width (omega arith) in
    omega arith
short_line (Ask feed at) h =
    let a = spaced_more (decimal feed) (decimal at ∷ []) in
    let b = spaced_more (decimal at) [] in
    let x = feed_length feed h.0 in
    let y = moment_length at h.1 in
    omega arith
short_line (Answer feed at bytes) h =
    let a = spaced_more (decimal feed) (decimal at ∷ encode_lower bytes ∷ []) in
    let b = spaced_more (decimal at) (encode_lower bytes ∷ []) in
    let c = spaced_more (encode_lower bytes) [] in
    let x = feed_length feed h.0 in
    let y = moment_length at h.1 in
    let z = datagram_length bytes h.2 in
    omega arith
short_line (Swap feed) h =
    let a = spaced_more (decimal feed) [] in
    let x = feed_length feed h in
    omega arith
short_line (Request n arrived sent bytes) h =
    let order = h.1.order in
    let below = h.1.below in
    let few = h.0 in
    let a = spaced_more (decimal n) (decimal arrived ∷ decimal sent ∷ encode_lower bytes ∷ []) in
    let b = spaced_more (decimal arrived) (decimal sent ∷ encode_lower bytes ∷ []) in
    let c = spaced_more (decimal sent) (encode_lower bytes ∷ []) in
    let d = spaced_more (encode_lower bytes) [] in
    let w = feed_length n (omega arith) in
    let x = moment_length arrived (omega arith) in
    let y = moment_length sent below in
    let z = datagram_length bytes h.2 in
    omega arith
short_line (Leap feed at leap_at) h =
    let reported = h.2 in
    let a = spaced_more (decimal feed) (decimal at ∷ decimal leap_at ∷ []) in
    let b = spaced_more (decimal at) (decimal leap_at ∷ []) in
    let c = spaced_more (decimal leap_at) [] in
    let x = feed_length feed h.0 in
    let y = moment_length at h.1 in
    let z = second_length leap_at reported in
    omega arith
