-- The lines and reductions of a log, with one more byte, and with any that come after.
use Rattle.std.proofs.Common.{◌≡◌, ℕ, ◌+◌, ◌<◌, ◌≤◌, Bool, true, false, cond, eqb, ltb, leb, Option, Some, None, List, [], ◌∷◌, ◌++◌, length, map, refl, ap, sym, ◌∙◌, inl, inr, ◌⊎◌, arith, append_assoc}
use Rattle.std.specs.Option.{option_to_list}
use Rattle.std.proofs.lemmas.Bool.{cases_Bool, lt-ltb, le-ltb, ltb-true, ltb-false, le-leb, lt-leb, leb-true, leb-false}
use Rattle.std.proofs.lemmas.List.{length_push, append-nil, map_push, length-map}
use Rattle.tick_units.specs.Log.{Lines, lines_of, with_byte, reduction_of, pulses, bad_line}
use Rattle.tick_units.specs.declared.marks.Reduction.{Reduction}
use Rattle.pulse_log.specs.Reading.{least_after}
use Rattle.pulse_log.proofs.LineLaws.{long_line}
use Rattle.pulse_log.proofs.ValidLaws.{at_least, at_least_none, at_least_some, valid_push, valid_stop, valid_le}

-- the lines with a byte at the end, which is a line feed or not
abbrev add_by : Bool → ℕ → Lines → Lines
add_by true byte lines = record { complete = lines.complete ++ lines.unfinished ∷ []; unfinished = [] }
add_by false byte lines = record { complete = lines.complete; unfinished = lines.unfinished ++ byte ∷ [] }

with_add : (feed : Bool) (x byte : ℕ) (complete : List (List ℕ)) (unfinished : List ℕ) →
    with_byte x (add_by feed byte (record { complete = complete; unfinished = unfinished })) ≡ add_by feed byte (with_byte x (record { complete = complete; unfinished = unfinished }))
with_add true x byte [] unfinished = refl
with_add true x byte (line ∷ lines) unfinished = refl
with_add false x byte [] unfinished = refl
with_add false x byte (line ∷ lines) unfinished = refl

abbrev new_line : Lines → Lines
new_line lines = record { complete = [] ∷ lines.complete; unfinished = lines.unfinished }

line_add : (feed : Bool) (byte : ℕ) (lines : Lines) → new_line (add_by feed byte lines) ≡ add_by feed byte (new_line lines)
line_add true byte lines = refl
line_add false byte lines = refl

one_byte : (feed : Bool) (byte : ℕ) → cond feed (record { complete = [] ∷ []; unfinished = [] }) (record { complete = []; unfinished = byte ∷ [] }) ≡ add_by feed byte (record { complete = []; unfinished = [] })
one_byte true byte = refl
one_byte false byte = refl

pub lines_push : (bytes : List ℕ) (byte : ℕ) → lines_of (bytes ++ byte ∷ []) ≡ add_by (eqb byte 10) byte (lines_of bytes)
lines_push [] byte = one_byte (eqb byte 10) byte
lines_push (x ∷ xs) byte =
    let more = lines_push xs byte in
    let lines = lines_of xs in
    elim (eqb x 10) as (λ t. cond t (new_line (lines_of (xs ++ byte ∷ []))) (with_byte x (lines_of (xs ++ byte ∷ []))) ≡ add_by (eqb byte 10) byte (cond t (new_line (lines_of xs)) (with_byte x (lines_of xs)))) [
      | true ↦ ap new_line more ∙ line_add (eqb byte 10) byte lines
      | false ↦ ap (with_byte x) more ∙ with_add (eqb byte 10) x byte lines.complete lines.unfinished
    ]

pub lines_more : (bytes : List ℕ) (byte : ℕ) → eqb byte 10 ≡ false → lines_of (bytes ++ byte ∷ []) ≡ record { complete = (lines_of bytes).complete; unfinished = (lines_of bytes).unfinished ++ byte ∷ [] }
lines_more bytes byte other = lines_push bytes byte ∙ rw other refl

pub lines_end : (bytes : List ℕ) (byte : ℕ) → eqb byte 10 ≡ true → lines_of (bytes ++ byte ∷ []) ≡ record { complete = (lines_of bytes).complete ++ (lines_of bytes).unfinished ∷ []; unfinished = [] }
lines_end bytes byte feed = lines_push bytes byte ∙ rw feed refl

-- what the complete lines say, with one more of them
says_push : (lines : List (List ℕ)) (line : List ℕ) → map reduction_of (lines ++ line ∷ []) ≡ map reduction_of lines ++ reduction_of line ∷ []
says_push lines line = map_push reduction_of lines line

pub pulses_more : (bytes : List ℕ) (byte : ℕ) → eqb byte 10 ≡ false → pulses (bytes ++ byte ∷ []) ≡ pulses bytes
pulses_more bytes byte other = rw (lines_more bytes byte other) refl

complete_more : (bytes : List ℕ) (byte : ℕ) → eqb byte 10 ≡ false → length (lines_of (bytes ++ byte ∷ [])).complete ≡ length (lines_of bytes).complete
complete_more bytes byte other = rw (lines_more bytes byte other) refl

pub complete_end : (bytes : List ℕ) (byte : ℕ) → eqb byte 10 ≡ true → length (lines_of (bytes ++ byte ∷ [])).complete ≡ length (lines_of bytes).complete + 1
complete_end bytes byte feed = rw (lines_end bytes byte feed) (length_push (lines_of bytes).complete (lines_of bytes).unfinished)

unfinished_more : (bytes : List ℕ) (byte : ℕ) → eqb byte 10 ≡ false → length (lines_of (bytes ++ byte ∷ [])).unfinished ≡ length (lines_of bytes).unfinished + 1
unfinished_more bytes byte other = rw (lines_more bytes byte other) (length_push (lines_of bytes).unfinished byte)

unfinished_end : (bytes : List ℕ) (byte : ℕ) → eqb byte 10 ≡ true → length (lines_of (bytes ++ byte ∷ [])).unfinished ≡ 0
unfinished_end bytes byte feed = rw (lines_end bytes byte feed) refl

pulses_end : (bytes : List ℕ) (byte : ℕ) → eqb byte 10 ≡ true → length (pulses bytes) ≡ length (lines_of bytes).complete →
    pulses (bytes ++ byte ∷ []) ≡ pulses bytes ++ option_to_list (at_least (least_after (pulses bytes)) (reduction_of (lines_of bytes).unfinished))
pulses_end bytes byte feed good =
    let says = map reduction_of (lines_of bytes).complete in
    let len = length-map (lines_of bytes).complete reduction_of in
    rw (lines_end bytes byte feed, says_push (lines_of bytes).complete (lines_of bytes).unfinished) (valid_push says (reduction_of (lines_of bytes).unfinished) (omega arith))

pulses_stop : (bytes : List ℕ) (byte : ℕ) → eqb byte 10 ≡ true → length (pulses bytes) < length (lines_of bytes).complete → pulses (bytes ++ byte ∷ []) ≡ pulses bytes
pulses_stop bytes byte feed bad =
    let says = map reduction_of (lines_of bytes).complete in
    let len = length-map (lines_of bytes).complete reduction_of in
    rw (lines_end bytes byte feed, says_push (lines_of bytes).complete (lines_of bytes).unfinished) (valid_stop says (reduction_of (lines_of bytes).unfinished) (omega arith))

pub pulses_le : (bytes : List ℕ) → length (pulses bytes) ≤ length (lines_of bytes).complete
pulses_le bytes =
    let le = valid_le (map reduction_of (lines_of bytes).complete) in
    let len = length-map (lines_of bytes).complete reduction_of in
    omega arith

-- a log with a bad line among its complete ones
bad_short : (bytes : List ℕ) → length (pulses bytes) < length (lines_of bytes).complete → bad_line bytes ≡ Some (length (pulses bytes) + 1)
bad_short bytes lt = rw (lt-ltb (length (pulses bytes)) (length (lines_of bytes).complete) lt) refl

-- a log whose unfinished line is bad
bad_long : (bytes : List ℕ) → length (lines_of bytes).complete ≤ length (pulses bytes) → 32 ≤ length (lines_of bytes).unfinished → bad_line bytes ≡ Some (length (lines_of bytes).complete + 1)
bad_long bytes le long = rw (le-ltb (length (pulses bytes)) (length (lines_of bytes).complete) le, le-leb 32 (length (lines_of bytes).unfinished) long) refl

-- a log with no bad line
bad_none : (bytes : List ℕ) → length (pulses bytes) ≡ length (lines_of bytes).complete → length (lines_of bytes).unfinished < 32 → bad_line bytes ≡ None
bad_none bytes good short = rw (le-ltb (length (pulses bytes)) (length (lines_of bytes).complete) (omega arith), lt-leb 32 (length (lines_of bytes).unfinished) short) refl

pub record IsGood (bytes : List ℕ) : Type 0 where
  pub lines : length (pulses bytes) ≡ length (lines_of bytes).complete
  pub short : length (lines_of bytes).unfinished < 32

split_none : (p c u : ℕ) → cond (ltb p c) (Some (p + 1)) (cond (leb 32 u) (Some (c + 1)) None) ≡ None → (c ≤ p) × (u < 32)
split_none p c u e = elim (cases_Bool (ltb p c)) [
  | inl lt ↦ (let e' : ◌≡◌ {A = Option ℕ} (Some (p + 1)) None = rw lt at e in cc)
  | inr ge ↦ elim (cases_Bool (leb 32 u)) [
    | inl long ↦ (let e' : ◌≡◌ {A = Option ℕ} (Some (c + 1)) None = rw (ge, long) at e in cc)
    | inr short ↦ (ltb-false p c ge, leb-false 32 u short)
  ]
]

-- its complete lines are all valid, and its unfinished one is short
pub good_of : (bytes : List ℕ) → bad_line bytes ≡ None → IsGood bytes
good_of bytes e =
    let parts = split_none (length (pulses bytes)) (length (lines_of bytes).complete) (length (lines_of bytes).unfinished) e in
    let le = pulses_le bytes in
    record { lines = omega arith; short = parts.1 }

-- what a log of no bad line becomes where its line goes on
pub good_more : (bytes : List ℕ) (byte : ℕ) → eqb byte 10 ≡ false → IsGood bytes → length (lines_of bytes).unfinished < 31 → bad_line (bytes ++ byte ∷ []) ≡ None
good_more bytes byte other good short =
    let lines = good.lines in
    let same = ap length (pulses_more bytes byte other) in
    let complete = complete_more bytes byte other in
    let longer = unfinished_more bytes byte other in
    bad_none (bytes ++ byte ∷ []) (omega arith) (omega arith)

-- where its line ends and is not valid
pub bad_end : (bytes : List ℕ) (byte : ℕ) → eqb byte 10 ≡ true → length (pulses bytes) ≡ length (lines_of bytes).complete →
    at_least (least_after (pulses bytes)) (reduction_of (lines_of bytes).unfinished) ≡ None →
    (bad_line (bytes ++ byte ∷ []) ≡ Some (length (lines_of bytes).complete + 1)) × (pulses (bytes ++ byte ∷ []) ≡ pulses bytes)
bad_end bytes byte feed good none =
    let same : pulses (bytes ++ byte ∷ []) ≡ pulses bytes = pulses_end bytes byte feed good ∙ rw none (append-nil (pulses bytes)) in
    let len = ap length same in
    let more = complete_end bytes byte feed in
    (bad_short (bytes ++ byte ∷ []) (omega arith) ∙ ap (λ (n : ℕ). Some (n + 1)) (len ∙ good), same)

-- where its line reaches 32 bytes
pub bad_reach : (bytes : List ℕ) (byte : ℕ) → eqb byte 10 ≡ false → length (pulses bytes) ≡ length (lines_of bytes).complete → 31 ≤ length (lines_of bytes).unfinished →
    (bad_line (bytes ++ byte ∷ []) ≡ Some (length (lines_of bytes).complete + 1)) × (pulses (bytes ++ byte ∷ []) ≡ pulses bytes)
bad_reach bytes byte other good long =
    let same = pulses_more bytes byte other in
    let len = ap length same in
    let lines = complete_more bytes byte other in
    let more = unfinished_more bytes byte other in
    (bad_long (bytes ++ byte ∷ []) (omega arith) (omega arith) ∙ ap (λ (n : ℕ). Some (n + 1)) lines, same)

-- where its line ends and is valid
pub record GoesOn (bytes : List ℕ) (byte : ℕ) (r : Reduction) : Type 0 where
  pub good : bad_line (bytes ++ byte ∷ []) ≡ None
  pub pulses : pulses (bytes ++ byte ∷ []) ≡ pulses bytes ++ r ∷ []

pub good_end : (bytes : List ℕ) (byte : ℕ) (r : Reduction) → eqb byte 10 ≡ true → IsGood bytes →
    reduction_of (lines_of bytes).unfinished ≡ Some r → least_after (pulses bytes) ≤ r.at → GoesOn bytes byte r
good_end bytes byte r feed good line le =
    let lines = good.lines in
    let longer : pulses (bytes ++ byte ∷ []) ≡ pulses bytes ++ r ∷ [] =
    pulses_end bytes byte feed lines
    ∙ ap (λ (o : Option Reduction). pulses bytes ++ option_to_list (at_least (least_after (pulses bytes)) o)) line
    ∙ ap (λ (o : Option Reduction). pulses bytes ++ option_to_list o) (at_least_some (least_after (pulses bytes)) r le) in
    let count = ap length longer ∙ length_push (pulses bytes) r in
    let complete = complete_end bytes byte feed in
    let empty = unfinished_end bytes byte feed in
    record { good = bad_none (bytes ++ byte ∷ []) (omega arith) (omega arith); pulses = longer }

-- the bad line stays whatever comes after it
bad_split : (p c u n : ℕ) → cond (ltb p c) (Some (p + 1)) (cond (leb 32 u) (Some (c + 1)) None) ≡ Some n → ((p < c) × (n ≡ p + 1)) ⊎ ((c ≤ p) × (32 ≤ u) × (n ≡ c + 1))
bad_split p c u n e = elim (cases_Bool (ltb p c)) [
  | inl lt ↦ (let e' : Some (p + 1) ≡ Some n = rw lt at e in inl (ltb-true p c lt, cc))
  | inr ge ↦ elim (cases_Bool (leb 32 u)) [
    | inl long ↦ (let e' : Some (c + 1) ≡ Some n = rw (ge, long) at e in inr (ltb-false p c ge, leb-true 32 u long, cc))
    | inr short ↦ (let e' : ◌≡◌ {A = Option ℕ} None (Some n) = rw (ge, short) at e in cc)
  ]
]

stays_short : (bytes : List ℕ) (byte : ℕ) → length (pulses bytes) < length (lines_of bytes).complete →
    (bad_line (bytes ++ byte ∷ []) ≡ Some (length (pulses bytes) + 1)) × (pulses (bytes ++ byte ∷ []) ≡ pulses bytes)
stays_short bytes byte lt = elim (cases_Bool (eqb byte 10)) [
  | inl feed ↦ (let same = pulses_stop bytes byte feed lt in
      let len = ap length same in
      let more = complete_end bytes byte feed in
      (bad_short (bytes ++ byte ∷ []) (omega arith) ∙ ap (λ (n : ℕ). Some (n + 1)) len, same))
  | inr other ↦ (let same = pulses_more bytes byte other in
      let len = ap length same in
      let lines = complete_more bytes byte other in
      (bad_short (bytes ++ byte ∷ []) (omega arith) ∙ ap (λ (n : ℕ). Some (n + 1)) len, same))
]

stays_long : (bytes : List ℕ) (byte : ℕ) → length (lines_of bytes).complete ≤ length (pulses bytes) → 32 ≤ length (lines_of bytes).unfinished →
    (bad_line (bytes ++ byte ∷ []) ≡ Some (length (lines_of bytes).complete + 1)) × (pulses (bytes ++ byte ∷ []) ≡ pulses bytes)
stays_long bytes byte ge long =
    let le = pulses_le bytes in
    let good : length (pulses bytes) ≡ length (lines_of bytes).complete = omega arith in
    elim (cases_Bool (eqb byte 10)) [
      | inl feed ↦ bad_end bytes byte feed good (at_least_none _ _ (long_line (lines_of bytes).unfinished long))
      | inr other ↦ bad_reach bytes byte other good (omega arith)
    ]

pub bad_stays_one : (bytes : List ℕ) (byte n : ℕ) → bad_line bytes ≡ Some n → (bad_line (bytes ++ byte ∷ []) ≡ Some n) × (pulses (bytes ++ byte ∷ []) ≡ pulses bytes)
bad_stays_one bytes byte n e = elim (bad_split (length (pulses bytes)) (length (lines_of bytes).complete) (length (lines_of bytes).unfinished) n e) [
  | inl h ↦ (let next = stays_short bytes byte h.0 in (next.0 ∙ ap (λ (k : ℕ). Some k) (sym h.1), next.1))
  | inr h ↦ (let next = stays_long bytes byte h.0 h.1 in (next.0 ∙ ap (λ (k : ℕ). Some k) (sym h.2), next.1))
]

pub bad_stays : (bytes more : List ℕ) (n : ℕ) → bad_line bytes ≡ Some n → (bad_line (bytes ++ more) ≡ Some n) × (pulses (bytes ++ more) ≡ pulses bytes)
bad_stays bytes [] n e = rw (append-nil bytes) (e, refl)
bad_stays bytes (byte ∷ more) n e =
    let one = bad_stays_one bytes byte n e in
    let rest = bad_stays (bytes ++ byte ∷ []) more n one.0 in
    let regroup : (bytes ++ byte ∷ []) ++ more ≡ bytes ++ byte ∷ more = append_assoc bytes (byte ∷ []) more in
    (ap bad_line (sym regroup) ∙ rest.0, ap pulses (sym regroup) ∙ rest.1 ∙ one.1)

-- the reductions of a longer log begin with those of the shorter one
abbrev pub BeginsWith : List Reduction → List Reduction → Type 0
BeginsWith longer shorter = (rest : List Reduction) × (longer ≡ shorter ++ rest)

grow_end : (bytes : List ℕ) (byte : ℕ) → eqb byte 10 ≡ true → BeginsWith (pulses (bytes ++ byte ∷ [])) (pulses bytes)
grow_end bytes byte feed = elim (cases_Bool (ltb (length (pulses bytes)) (length (lines_of bytes).complete))) [
  | inl lt ↦ ([], pulses_stop bytes byte feed (ltb-true _ _ lt) ∙ sym (append-nil (pulses bytes)))
  | inr ge ↦ (let le = pulses_le bytes in
      let least = ltb-false (length (pulses bytes)) (length (lines_of bytes).complete) ge in
      (option_to_list (at_least (least_after (pulses bytes)) (reduction_of (lines_of bytes).unfinished)), pulses_end bytes byte feed (omega arith)))
]

pulses_grow_one : (bytes : List ℕ) (byte : ℕ) → BeginsWith (pulses (bytes ++ byte ∷ [])) (pulses bytes)
pulses_grow_one bytes byte = elim (cases_Bool (eqb byte 10)) [
  | inl feed ↦ grow_end bytes byte feed
  | inr other ↦ ([], pulses_more bytes byte other ∙ sym (append-nil (pulses bytes)))
]

pub pulses_grow : (bytes more : List ℕ) → (rest : List Reduction) × (pulses (bytes ++ more) ≡ pulses bytes ++ rest)
pulses_grow bytes [] = ([], ap pulses (append-nil bytes) ∙ sym (append-nil (pulses bytes)))
pulses_grow bytes (byte ∷ more) =
    let one = pulses_grow_one bytes byte in
    let rest = pulses_grow (bytes ++ byte ∷ []) more in
    let regroup : (bytes ++ byte ∷ []) ++ more ≡ bytes ++ byte ∷ more = append_assoc bytes (byte ∷ []) more in
    (one.0 ++ rest.0, ap pulses (sym regroup) ∙ rest.1 ∙ ap (λ (rs : List Reduction). rs ++ rest.0) one.1 ∙ append_assoc (pulses bytes) one.0 rest.0)

-- a log with a bad line at its end was bad before, or became so at some byte: a beginning of a log without one has none
bad_or_not : (o : Option ℕ) (bytes more : List ℕ) → bad_line bytes ≡ o → bad_line (bytes ++ more) ≡ None → bad_line bytes ≡ None
bad_or_not None bytes more e none = e
bad_or_not (Some n) bytes more e none = (let stays = bad_stays bytes more n e in cc)

pub prefix_good : (bytes more : List ℕ) → bad_line (bytes ++ more) ≡ None → bad_line bytes ≡ None
prefix_good bytes more none = bad_or_not (bad_line bytes) bytes more refl none
