-- A text is at most one line's of a journal.
use Rattle.std.proofs.Common.{◌≡◌, ℕ, suc, ◌^◌, ◌<◌, true, false, eqb, List, [], ◌∷◌, ◌++◌, length, get_or, drop, decimal, ℤ, pos, negsuc, unsigned_abs, refl, ap, subst, sym, ◌∙◌, arith}
use Rattle.std.specs.Char.{digit_value}
use Rattle.std.specs.Fmt.{signed_decimal}
use Rattle.std.specs.List.{starts_with}
use Rattle.std.specs.Int.{w32, from_be_bytes, to_be_bytes}
use Rattle.std.proofs.lemmas.Bool.{both_ways, eq-eqb, or_parts}
use Rattle.std.proofs.lemmas.Fmt.{decimal_is_IsNumeral_wide}
use Rattle.std.proofs.lemmas.Nat.{from_be_bytes-to_be_bytes_4}
use Rattle.tick_units.specs.declared.verdicts.Kind.TheVariants.{Verdict, Lone, Differs, Refused}
use Rattle.tick_units.specs.declared.sample.Sample.{Sample as TimeSample}
use Rattle.journal_entry.specs.Entries.{IsEntry, IsSample, IsWhat}
use Rattle.journal_entry.specs.Lines.{IsLineText}
use Rattle.journal_entry.specs.Numbers.{IsNumberedTextOf}
use Rattle.journal_entry.specs.Reading.{entry_fields, has_space}
use Rattle.journal_entry.specs.Texts.{IsTextOf, address_text, sample_fields, spaced, what_fields}
use Rattle.journal_entry.specs.declared.entry.Entry.{Entry}
use Rattle.journal_entry.specs.declared.entry.What.{What}
use Rattle.journal_entry.specs.declared.entry.What.TheVariants.{Heard, Sample, Declined, Notice}
use Rattle.journal_entry.specs.declared.line.JournalLine.{JournalLine}
use Rattle.journal_entry.specs.declared.line.JournalLine.TheVariants.{Bare, Numbered}
use Rattle.journal_entry.specs.declared.numbered.Numbered.{Numbered as NumberedEntry}
use Rattle.journal_entry.proofs.AddressLaws.{decodes, no_space_in_address}
use Rattle.journal_entry.proofs.DigitLaws.{all_say, digit_of, no_space, no_space_in_span}
use Rattle.journal_entry.proofs.FormLaws.{no_number}
use Rattle.journal_entry.proofs.NumberLaws.{number_fields, rate_fits, text_is}
use Rattle.journal_entry.proofs.WordLaws.{word_of, numbers_of, word_first, no_space_in_word, of_verdict, of_lone, of_differs, of_refused, of_sample, of_declined, of_notice}

-- two texts with one space between each two fields have the same first field and the same others
pub record AreSame (x y : List ℕ) (fields others : List (List ℕ)) : Type 0 where
  pub first : x ≡ y
  pub rest : spaced fields ≡ spaced others

no_text_there : (c : ℕ) (text : List ℕ) (fields : List (List ℕ)) → eqb c 32 ≡ false → spaced fields ≡ c ∷ text → ⊥
no_text_there c text [] plain e = (let len = ap length e in omega arith)
no_text_there c text (field ∷ fields) plain e = both_ways (eqb c 32) plain (eq-eqb c 32 (sym (ap (λ (t : List ℕ). get_or t 0 0) e)))

pub fields_same : (x y : List ℕ) (fields others : List (List ℕ)) → has_space x ≡ false → has_space y ≡ false → x ++ spaced fields ≡ y ++ spaced others → AreSame x y fields others
fields_same [] [] fields others px py e = record { first = refl; rest = e }
fields_same [] (d ∷ y) fields others px py e = absurd (no_text_there d (y ++ spaced others) fields (or_parts (eqb d 32) (has_space y) py).0 e)
fields_same (c ∷ x) [] fields others px py e = absurd (no_text_there c (x ++ spaced fields) others (or_parts (eqb c 32) (has_space x) px).0 (sym e))
fields_same (c ∷ x) (d ∷ y) fields others px py e =
    let head : c ≡ d = ap (λ (t : List ℕ). get_or t 0 0) e in
    let more = fields_same x y fields others (or_parts (eqb c 32) (has_space x) px).1 (or_parts (eqb d 32) (has_space y) py).1 (ap (drop 1) e) in
    record { first = (λ i. head i ∷ more.first i); rest = more.rest }

-- a number, and what stands after it
pub record IsSame (n m : ℕ) (fields others : List (List ℕ)) : Type 0 where
  pub number : n ≡ m
  pub rest : spaced fields ≡ spaced others

pub number_same : (n m : ℕ) (fields others : List (List ℕ)) → n < 2 ^ 70 → m < 2 ^ 70 → spaced (decimal n ∷ fields) ≡ spaced (decimal m ∷ others) → IsSame n m fields others
number_same n m fields others small_n small_m e =
    let both = fields_same (decimal n) (decimal m) fields others (no_space n (omega arith)) (no_space m (omega arith)) (ap (drop 1) e) in
    record { number = sym (all_say (decimal m) n (omega arith) (sym both.first)) ∙ all_say (decimal m) m (omega arith) refl; rest = both.rest }

-- a number with or without a sign
no_sign : (m n : ℕ) → m < 2 ^ 70 → decimal m ≡ 45 ∷ decimal n → ⊥
no_sign m n small e =
    let some = (decimal_is_IsNumeral_wide m (omega arith)).0.0 in
    let digit = digit_of (decimal m) 0 m (get_or (decimal m) 0 0) small refl some refl in
    let sign : get_or (decimal m) 0 0 ≡ 45 = ap (λ (t : List ℕ). get_or t 0 0) e in
    let none : digit_value 45 < 10 = subst (λ b. digit_value b < 10) sign digit in
    absurd (omega arith)

digits_same : (m n : ℕ) → m < 2 ^ 70 → n < 2 ^ 70 → decimal m ≡ decimal n → m ≡ n
digits_same m n a b e = sym (all_say (decimal n) m a (sym e)) ∙ all_say (decimal n) n b refl

signed_same : (y z : ℤ) → unsigned_abs y < 2 ^ 70 → unsigned_abs z < 2 ^ 70 → signed_decimal y ≡ signed_decimal z → y ≡ z
signed_same (pos m) (pos n) a b e = ap pos (digits_same m n a b e)
signed_same (pos m) (negsuc n) a b e = absurd (no_sign m (suc n) a e)
signed_same (negsuc m) (pos n) a b e = absurd (no_sign n (suc m) b (sym e))
signed_same (negsuc m) (negsuc n) a b e = let same = digits_same (suc m) (suc n) a b (ap (drop 1) e) in ap negsuc (omega arith)

-- a span, and what stands after it
record IsSameSpan (y z : ℤ) (fields others : List (List ℕ)) : Type 0 where
  span : y ≡ z
  rest : spaced fields ≡ spaced others

span_same : (y z : ℤ) (fields others : List (List ℕ)) → unsigned_abs y < 2 ^ 70 → unsigned_abs z < 2 ^ 70 → spaced (signed_decimal y ∷ fields) ≡ spaced (signed_decimal z ∷ others) → IsSameSpan y z fields others
span_same y z fields others a b e =
    let both = fields_same (signed_decimal y) (signed_decimal z) fields others (no_space_in_span y a) (no_space_in_span z b) (ap (drop 1) e) in
    record { span = signed_same y z a b both.first; rest = both.rest }

addresses_same : (m n : ℕ) → m < 2 ^ 32 → n < 2 ^ 32 → address_text m ≡ address_text n → m ≡ n
addresses_same m n a b e =
    let one = decodes (address_text n) m (sym e) in
    let other = decodes (address_text n) n refl in
    let bytes : to_be_bytes w32 m ≡ to_be_bytes w32 n = cc in
    sym (from_be_bytes-to_be_bytes_4 m a) ∙ ap (from_be_bytes w32) bytes ∙ from_be_bytes-to_be_bytes_4 n b

address_same : (m n : ℕ) (fields others : List (List ℕ)) → m < 2 ^ 32 → n < 2 ^ 32 → spaced (address_text m ∷ fields) ≡ spaced (address_text n ∷ others) → IsSame m n fields others
address_same m n fields others a b e =
    let both = fields_same (address_text m) (address_text n) fields others (no_space_in_address m) (no_space_in_address n) (ap (drop 1) e) in
    record { number = addresses_same m n a b both.first; rest = both.rest }

sample_same : (s t : TimeSample) → IsSample s → IsSample t → spaced (sample_fields s) ≡ spaced (sample_fields t) → s ≡ t
sample_same s t a b e =
    let last_s = decimal s.root_disp.0 ∷ [] in
    let last_t = decimal t.root_disp.0 ∷ [] in
    let server_s = address_text s.address ∷ decimal s.root_delay.0 ∷ last_s in
    let server_t = address_text t.address ∷ decimal t.root_delay.0 ∷ last_t in
    let stratum_s = decimal s.stratum ∷ server_s in
    let stratum_t = decimal t.stratum ∷ server_t in
    let offset = span_same s.offset t.offset (signed_decimal s.delay ∷ signed_decimal s.dispersion ∷ stratum_s) (signed_decimal t.delay ∷ signed_decimal t.dispersion ∷ stratum_t) a.offset b.offset e in
    let delay = span_same s.delay t.delay (signed_decimal s.dispersion ∷ stratum_s) (signed_decimal t.dispersion ∷ stratum_t) a.delay b.delay offset.rest in
    let dispersion = span_same s.dispersion t.dispersion stratum_s stratum_t a.dispersion b.dispersion delay.rest in
    let small_s = a.stratum in
    let small_t = b.stratum in
    let stratum = number_same s.stratum t.stratum server_s server_t (omega arith) (omega arith) dispersion.rest in
    let address = address_same s.address t.address (decimal s.root_delay.0 ∷ last_s) (decimal t.root_delay.0 ∷ last_t) a.address b.address stratum.rest in
    let delay_s = a.root_delay in
    let delay_t = b.root_delay in
    let root_delay = number_same s.root_delay.0 t.root_delay.0 last_s last_t (omega arith) (omega arith) address.rest in
    let disp_s = a.root_disp in
    let disp_t = b.root_disp in
    let root_disp = number_same s.root_disp.0 t.root_disp.0 [] [] (omega arith) (omega arith) root_delay.rest in
    λ i. record {
      offset = offset.span i;
      delay = delay.span i;
      dispersion = dispersion.span i;
      stratum = stratum.number i;
      address = address.number i;
      root_delay = record { 0 = root_delay.number i };
      root_disp = record { 0 = root_disp.number i };
    }

-- two numbers of 64 bits are the last fields, or one is
one_number : (n m : ℕ) → n < 2 ^ 64 → m < 2 ^ 64 → spaced (decimal n ∷ []) ≡ spaced (decimal m ∷ []) → n ≡ m
one_number n m a b e = (number_same n m [] [] (omega arith) (omega arith) e).number

numbers_same : (w : What) → IsWhat w → (v : What) → IsWhat v → word_of v ≡ word_of w → spaced (numbers_of w) ≡ spaced (numbers_of v) → w ≡ v
numbers_same (Heard (Verdict second leap_at)) a v b word = of_verdict (λ v. spaced (decimal second ∷ decimal leap_at ∷ []) ≡ spaced (numbers_of v) → Heard (Verdict second leap_at) ≡ v) v b word
    (λ other leap c d e. let one = number_same second other (decimal leap_at ∷ []) (decimal leap ∷ []) (let small = a.0 in omega arith) (omega arith) e in
    λ i. Heard (Verdict (one.number i) (one_number leap_at leap a.1 d one.rest i)))
numbers_same (Heard (Lone second)) a v b word = of_lone (λ v. spaced (decimal second ∷ []) ≡ spaced (numbers_of v) → Heard (Lone second) ≡ v) v b word
    (λ other c e. ap (λ n. Heard (Lone n)) (one_number second other a c e))
numbers_same (Heard (Differs before now apart)) a v b word = of_differs (λ v. spaced (decimal before ∷ decimal now ∷ decimal apart ∷ []) ≡ spaced (numbers_of v) → Heard (Differs before now apart) ≡ v) v b word
    (λ x y z c d f e. let one = number_same before x (decimal now ∷ decimal apart ∷ []) (decimal y ∷ decimal z ∷ []) (let small = a.0 in omega arith) (omega arith) e in
    let two = number_same now y (decimal apart ∷ []) (decimal z ∷ []) (let small = a.1 in omega arith) (omega arith) one.rest in
    λ i. Heard (Differs (one.number i) (two.number i) (one_number apart z a.2 f two.rest i)))
numbers_same (Heard (Refused rule)) a v b word = of_refused (λ v. spaced (decimal rule ∷ []) ≡ spaced (numbers_of v) → Heard (Refused rule) ≡ v) v b word
    (λ other c e. ap (λ n. Heard (Refused n)) (one_number rule other (omega arith) (omega arith) e))
numbers_same (Sample s) a v b word = of_sample (λ v. spaced (sample_fields s) ≡ spaced (numbers_of v) → Sample s ≡ v) v b word (λ t c e. ap Sample (sample_same s t a c e))
numbers_same (Declined code) a v b word = of_declined (λ v. spaced (decimal code ∷ []) ≡ spaced (numbers_of v) → Declined code ≡ v) v b word
    (λ other c e. ap Declined (one_number code other (omega arith) (omega arith) e))
numbers_same (Notice leap_at) a v b word = of_notice (λ v. spaced (decimal leap_at ∷ []) ≡ spaced (numbers_of v) → Notice leap_at ≡ v) v b word
    (λ other c e. ap Notice (one_number leap_at other a c e))

what_same : (w v : What) → IsWhat w → IsWhat v → spaced (what_fields w) ≡ spaced (what_fields v) → w ≡ v
what_same w v a b e =
    let fields = ap spaced (sym (word_first w)) ∙ e ∙ ap spaced (word_first v) in
    let both = fields_same (word_of w) (word_of v) (numbers_of w) (numbers_of v) (no_space_in_word w) (no_space_in_word v) (ap (drop 1) fields) in
    numbers_same w a v b (sym both.first) both.rest

entry_same : (x y : Entry) → IsEntry x → IsEntry y → spaced (entry_fields x) ≡ spaced (entry_fields y) → x ≡ y
entry_same x y a b e =
    let feed_x = a.feed in
    let feed_y = b.feed in
    let feed = number_same x.feed y.feed (decimal x.at ∷ what_fields x.what) (decimal y.at ∷ what_fields y.what) (omega arith) (omega arith) e in
    let at_x = a.at in
    let at_y = b.at in
    let at = number_same x.at y.at (what_fields x.what) (what_fields y.what) (omega arith) (omega arith) feed.rest in
    let what = what_same x.what y.what a.what b.what at.rest in
    λ i. record { feed = feed.number i; at = at.number i; what = what i }

bare_same : (text : List ℕ) (x y : Entry) → IsTextOf text x → IsTextOf text y → x ≡ y
bare_same text x y a b = entry_same x y a.entry b.entry (ap (λ (t : List ℕ). 32 ∷ t) (sym a.is ∙ b.is))

numbered_same : (text : List ℕ) (x y : NumberedEntry) → IsNumberedTextOf text x → IsNumberedTextOf text y → x ≡ y
numbered_same text x y a b =
    let fields : spaced (number_fields x) ≡ spaced (number_fields y) = ap (drop 2) (sym (text_is x) ∙ sym a.is ∙ b.is ∙ text_is y) in
    let length_x = a.numbered.length in
    let length_y = b.numbered.length in
    let number = number_same x.length y.length (signed_decimal x.rate ∷ entry_fields x.entry) (signed_decimal y.rate ∷ entry_fields y.entry) (omega arith) (omega arith) fields in
    let small_x = rate_fits x.rate a.numbered.rate in
    let small_y = rate_fits y.rate b.numbered.rate in
    let rate = span_same x.rate y.rate (entry_fields x.entry) (entry_fields y.entry) (omega arith) (omega arith) number.rest in
    let entry = entry_same x.entry y.entry a.numbered.entry b.numbered.entry rate.rest in
    λ i. record { length = number.number i; rate = rate.span i; entry = entry i }

-- a bare line's text and a numbered one's differ in their first byte
begins_with_j : (n : NumberedEntry) (text : List ℕ) → IsNumberedTextOf text n → text ≡ 106 ∷ 50 ∷ spaced (number_fields n)
begins_with_j n text h = h.is ∙ text_is n

pub same_line : (text : List ℕ) (x y : JournalLine) → IsLineText text x → IsLineText text y → x ≡ y
same_line text (Bare x) (Bare y) a b = ap Bare (bare_same text x y a b)
same_line text (Bare x) (Numbered y) a b = absurd (no_number text x a (subst (λ (t : List ℕ). starts_with eqb t (106 ∷ 50 ∷ []) ≡ true) (sym (begins_with_j y text b)) refl))
same_line text (Numbered x) (Bare y) a b = absurd (no_number text y b (subst (λ (t : List ℕ). starts_with eqb t (106 ∷ 50 ∷ []) ≡ true) (sym (begins_with_j x text a)) refl))
same_line text (Numbered x) (Numbered y) a b = ap Numbered (numbered_same text x y a b)
