-- The bounds of a station's values, and of a station that has not too many rows.
use Rattle.std.proofs.Common.{◌≡◌, ◌∙◌, ◌<◌, ◌≤◌, ℕ, zero, suc, pos, negsuc, Bool, true, false, List, [], ◌∷◌, Option, Some, None, All, cond, map, find, get_or, length, nat_le, nat_lt, refl, sym, ap, arith, unwrap_or, if◌then◌else◌}
use Rattle.std.specs.Prelude.{◌&&◌, ◌++◌, is_none, is_some, not}
use Rattle.std.specs.List.{list_all}
use Rattle.std.proofs.lemmas.Bool.{and_parts, not-true, true≢false}
use Rattle.std.proofs.lemmas.Bool.Decides.{nat_tests}
use Rattle.toml.specs.Data.{Data, Members, array, boolean, datetime, float, integer, string, table}
use Rattle.tick_units.specs.Plans.{plans}
use Rattle.tick_units.specs.declared.marks.Plan.{Plan}
use Rattle.packet_auth.specs.Keys.{AreApart}
use Rattle.station_reader.specs.Faults.{counts_of, counts_of_others, is_bad, is_missing, is_wrong, plan_radios}
use Rattle.station_reader.specs.Forms.{Text, has_form, is_secret, is_visible, number_at, read_or, secret_in, tables_at, whole_in, whole_of}
use Rattle.station_reader.specs.Rows.{delay_row, id_row, radio_of, radio_row, secret_row}
use Rattle.station_values.specs.Station.{AreWithin, IsStation, RadioFields, StationFields, feed_count, plan_count}
use Rattle.station_reader.specs.Values.{station_of}
use Rattle.toml.specs.Data.{get_member}
use Rattle.tick_units.proofs.PlanLaws.{each}

pub record IsFrom (least most n : ℕ) : Type 0 where
  pub low : least ≤ n
  pub high : n ≤ most

tested : (least most default n : ℕ) (b : Bool) → IsFrom least most default → b ≡ (nat_le least n && nat_le n most) → IsFrom least most (unwrap_or (if b then Some n else None) default)
tested least most default n true d e =
    let (low, high) = and_parts (nat_le least n) (nat_le n most) (sym e) in
    record { low = grind (arith, nat_tests, low); high = grind (arith, nat_tests, high) }
tested least most default n false d e = d

whole_is : (least most default : ℕ) (d : Data) → IsFrom least most default → IsFrom least most (unwrap_or (whole_in least most d) default)
whole_is least most default (integer (pos n)) d = tested least most default n (nat_le least n && nat_le n most) d refl
whole_is least most default (integer (negsuc n)) d = d
whole_is least most default (string s) d = d
whole_is least most default (float x) d = d
whole_is least most default (boolean b) d = d
whole_is least most default (datetime t) d = d
whole_is least most default (array ds) d = d
whole_is least most default (table ms) d = d

-- a number that is read is in its range
pub read_is : (least most default : ℕ) (value : Option Data) → IsFrom least most default → IsFrom least most (read_or default (whole_in least most) value)
read_is least most default None d = d
read_is least most default (Some v) d = whole_is least most default v d

delay_at : (tables : List (ℕ × Members)) (k : ℕ) (d : RadioFields) → k < length (map (λ t. radio_of t.1) tables) → (get_or (map (λ t. radio_of t.1) tables) k d).delay ≤ 100000
delay_at [] k d h = absurd (omega arith)
delay_at (t ∷ ts) zero d h = (read_is 0 100000 0 (get_member delay_row.key t.1) (record { low = omega arith; high = omega arith })).high
delay_at (t ∷ ts) (suc k) d h = delay_at ts k d (omega arith)

delays : (tables : List (ℕ × Members)) → All (λ r. r.delay ≤ 100000) (map (λ t. radio_of t.1) tables)
delays tables = λ k d h. delay_at tables k d h

-- the counts of a station, none of which is above its bound
none_found : {X : Type 0} (b : Bool) (x : X) (rest : Option X) → None ≡ cond b (Some x) rest → (b ≡ false) × (None ≡ rest)
none_found true x rest e = absurd (true≢false (sym (ap is_some e)))
none_found false x rest e = (refl, e)

-- the same of items that are counted one by one
none_of : {X Y : Type 0} (test : X → Bool) (counted : Y → X) (ys : List Y) (rest : List X) → None ≡ find test (map counted ys ++ rest)
    → (list_all (λ y. not (test (counted y))) ys ≡ true) × (None ≡ find test rest)
none_of test counted [] rest e = (refl, e)
none_of test counted (y ∷ ys) rest e =
    let (here, later) = none_found (test (counted y)) (counted y) (find test (map counted ys ++ rest)) e in
    let (others, after) = none_of test counted ys rest later in
    (ap (λ b. not b && list_all (λ z. not (test (counted z))) ys) here ∙ others, after)

pub record IsWithin (s : StationFields) : Type 0 where
  pub sources : feed_count s ≤ 16
  pub each_plan : (plan : Plan) → plan_count plan s.radios ≤ 4
  pub ports : length s.links ≤ 8
  pub keys : length s.keys ≤ 8
  pub nets : length s.deny ≤ 16

at_most : (most n : ℕ) → nat_lt most n ≡ false → n ≤ most
at_most most n e = grind (arith, nat_tests)

pub within : (s : StationFields) → None ≡ find (λ c. nat_lt c.most c.count) (counts_of s) → IsWithin s
within s e =
    let (a, e1) = none_found _ _ _ e in
    let (ps, e2) = none_of (λ c. nat_lt c.most c.count) (plan_radios s.radios) plans (counts_of_others s) e1 in
    let (l, e3) = none_found _ _ _ e2 in
    let (k, e4) = none_found _ _ _ e3 in
    let (n, e5) = none_found _ _ _ e4 in
    record {
      sources = at_most _ _ a;
      each_plan = λ plan. at_most 4 (plan_count plan s.radios) (not-true (nat_lt 4 (plan_count plan s.radios)) (each (λ p. not (nat_lt 4 (plan_count p s.radios))) ps plan));
      ports = at_most _ _ l;
      keys = at_most _ _ k;
      nets = at_most _ _ n;
    }

pub station_bounds : (m : Members) → IsWithin (station_of m) → AreWithin (station_of m).top → AreApart (station_of m).keys → IsStation (station_of m)
station_bounds m w top apart = record {
  sources = w.sources;
  plans = w.each_plan;
  ports = w.ports;
  keys = w.keys;
  apart = apart;
  delays = delays (tables_at radio_row m);
  top = top;
  nets = w.nets;
}

-- ---- the values of a key, where none of them is a fault

id_test : (n : ℕ) (b : Bool) → b ≡ (nat_le 1 n && nat_le n 4294967295) → not (is_some (if b then Some n else None)) ≡ false → 0 < unwrap_or (if b then Some n else None) 0
id_test n true e w = let (low, _high) = and_parts (nat_le 1 n) (nat_le n 4294967295) (sym e) in grind (arith, nat_tests, low)
id_test n false e w = absurd (true≢false w)

id_in : (d : Data) → not (has_form id_row.form d) ≡ false → 0 < unwrap_or (whole_of id_row.form d) 0
id_in (integer (pos n)) w = id_test n (nat_le 1 n && nat_le n 4294967295) refl w
id_in (integer (negsuc n)) w = absurd (true≢false w)
id_in (string s) w = absurd (true≢false w)
id_in (float x) w = absurd (true≢false w)
id_in (boolean b) w = absurd (true≢false w)
id_in (datetime t) w = absurd (true≢false w)
id_in (array ds) w = absurd (true≢false w)
id_in (table ms) w = absurd (true≢false w)

id_of : (v : Option Data) → is_none v ≡ false → is_wrong id_row.form v ≡ false → 0 < read_or 0 (whole_of id_row.form) v
id_of None h w = absurd (true≢false h)
id_of (Some d) h w = id_in d w

pub id_is : (m : Members) → is_missing m id_row ≡ false → is_bad m id_row ≡ false → 0 < number_at id_row m
id_is m here right = id_of (get_member id_row.key m) here right

secret_test : (s : Text) (b : Bool) → b ≡ is_secret s → not (is_some (if b then Some s else None)) ≡ false → IsFrom 1 32 (length (unwrap_or (if b then Some s else None) []))
secret_test s true e w =
    let (sized, _visible) = and_parts (nat_le 1 (length s) && nat_le (length s) 32) (list_all is_visible s) (sym e) in
    let (low, high) = and_parts (nat_le 1 (length s)) (nat_le (length s) 32) sized in
    record { low = grind (arith, nat_tests, low); high = grind (arith, nat_tests, high) }
secret_test s false e w = absurd (true≢false w)

secret_of_data : (d : Data) → not (has_form secret_row.form d) ≡ false → IsFrom 1 32 (length (unwrap_or (secret_in d) []))
secret_of_data (string s) w = secret_test s (is_secret s) refl w
secret_of_data (integer n) w = absurd (true≢false w)
secret_of_data (float x) w = absurd (true≢false w)
secret_of_data (boolean b) w = absurd (true≢false w)
secret_of_data (datetime t) w = absurd (true≢false w)
secret_of_data (array ds) w = absurd (true≢false w)
secret_of_data (table ms) w = absurd (true≢false w)

secret_of : (v : Option Data) → is_none v ≡ false → is_wrong secret_row.form v ≡ false → IsFrom 1 32 (length (read_or [] secret_in v))
secret_of None h w = absurd (true≢false h)
secret_of (Some d) h w = secret_of_data d w

pub secret_is : (m : Members) → is_missing m secret_row ≡ false → is_bad m secret_row ≡ false → IsFrom 1 32 (length (read_or [] secret_in (get_member secret_row.key m)))
secret_is m here right = secret_of (get_member secret_row.key m) here right
