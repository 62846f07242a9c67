-- The faults of the tables of a document, and of a document, in their order.
use Rattle.std.proofs.Common.{◌≡◌, ◌∙◌, ℕ, Bool, true, false, List, [], ◌∷◌, ◌++◌, Some, refl, sym, ap, cond, filter, find, inl, inr, map, slice_get}
use Rattle.std.proofs.lemmas.Bool.{cases_Bool}
use Rattle.std.proofs.lemmas.List.Concat.{flat_map-append}
use Rattle.toml.specs.Data.{Members}
use Rattle.station_reader.specs.Faults.{Fault, IsDocument, IsFirst, Refuses, Sheet, bad_in, bad_in_keys, bad_of_clients, bad_range, bad_values, client_sheets, faults_of, item_sheets, keys_at, missing_in, missing_key, rows_of, sheets, sheets_of, top_sheet, unknown_in, unknown_key}
use Rattle.station_reader.specs.Finding.{AllGood, IsGood}
use Rattle.station_reader.specs.Forms.{Row, Text, tables_at}
use Rattle.station_reader.specs.Rows.{deny_row, key_row, link_row, radio_row, server_row, top_rows}
use Rattle.station_reader.specs.declared.fault.StationFault.{StationFault}
use Rattle.station_reader.specs.declared.fault.StationFault.TheVariants as fault
use Rattle.station_reader.specs.declared.keys.Part.TheVariants as part
use Rattle.station_reader.proofs.Firsts.{empty_back, empty_prefix, empty_map, first_map, first_some}
use Rattle.station_reader.proofs.GoodTables.{all_good, all_good_keys}

pub keys_at-two : (kind : List Row → Members → List Text) (xs ys : List Sheet) → keys_at kind (xs ++ ys) ≡ keys_at kind xs ++ keys_at kind ys
keys_at-two kind xs ys = flat_map-append _ xs ys

-- the keys of each array
abbrev pub keys_of_radios : (List Row → Members → List Text) → Members → List Text
keys_of_radios kind m = keys_at kind (sheets part.Radio (tables_at radio_row m))

abbrev pub keys_of_servers : (List Row → Members → List Text) → Members → List Text
keys_of_servers kind m = keys_at kind (sheets part.Server (tables_at server_row m))

abbrev pub keys_of_links : (List Row → Members → List Text) → Members → List Text
keys_of_links kind m = keys_at kind (sheets part.Link (tables_at link_row m))

abbrev pub keys_of_keys : (List Row → Members → List Text) → Members → List Text
keys_of_keys kind m = keys_at kind (sheets part.Key (tables_at key_row m))

abbrev pub keys_of_nets : (List Row → Members → List Text) → Members → List Text
keys_of_nets kind m = keys_at kind (sheets part.Deny (tables_at deny_row m))

pub keys_of_items : (kind : List Row → Members → List Text) (m : Members) → keys_at kind (item_sheets m) ≡ keys_of_radios kind m ++ (keys_of_servers kind m ++ keys_of_links kind m)
keys_of_items kind m =
    keys_at-two kind (sheets part.Radio (tables_at radio_row m)) (sheets part.Server (tables_at server_row m) ++ sheets part.Link (tables_at link_row m))
    ∙ ap (λ ks. keys_of_radios kind m ++ ks) (keys_at-two kind (sheets part.Server (tables_at server_row m)) (sheets part.Link (tables_at link_row m)))

pub keys_of_all : (kind : List Row → Members → List Text) (m : Members) → keys_at kind (sheets_of m) ≡ keys_at kind (top_sheet m ∷ item_sheets m) ++ keys_at kind (client_sheets m)
keys_of_all kind m = keys_at-two kind (top_sheet m ∷ item_sheets m) (client_sheets m)

pub keys_of_clients : (kind : List Row → Members → List Text) (m : Members) → keys_at kind (client_sheets m) ≡ keys_of_keys kind m ++ keys_of_nets kind m
keys_of_clients kind m = keys_at-two kind (sheets part.Key (tables_at key_row m)) (sheets part.Deny (tables_at deny_row m))

-- no table of an array has such a key
pub record None_in (kind : List Row → Members → List Text) (m : Members) : Type 0 where
  pub radios : keys_of_radios kind m ≡ []
  pub servers : keys_of_servers kind m ≡ []
  pub links : keys_of_links kind m ≡ []

none_in : (kind : List Row → Members → List Text) (m : Members) → keys_at kind (top_sheet m ∷ item_sheets m) ≡ [] → None_in kind m
none_in kind m h =
    let items = sym (keys_of_items kind m) ∙ empty_back (map (λ k. k) (kind top_rows m)) (keys_at kind (item_sheets m)) h in
    let later = empty_back (keys_of_radios kind m) (keys_of_servers kind m ++ keys_of_links kind m) items in
    record {
      radios = empty_prefix (keys_of_radios kind m) (keys_of_servers kind m ++ keys_of_links kind m) items;
      servers = empty_prefix (keys_of_servers kind m) (keys_of_links kind m) later;
      links = empty_back (keys_of_servers kind m) (keys_of_links kind m) later;
    }

-- a document that lacks no key and has no bad value
pub good : (m : Members) → keys_at missing_in (sheets_of m) ≡ [] → bad_values m ≡ [] → IsGood m
good m missing bad =
    let all = sym (keys_of_all missing_in m) ∙ missing in
    let there = none_in missing_in m (empty_prefix (keys_at missing_in (top_sheet m ∷ item_sheets m)) (keys_at missing_in (client_sheets m)) all) in
    let clients = sym (keys_of_clients missing_in m) ∙ empty_back (keys_at missing_in (top_sheet m ∷ item_sheets m)) (keys_at missing_in (client_sheets m)) all in
    let right = none_in bad_in m (empty_prefix (keys_at bad_in (top_sheet m ∷ item_sheets m)) (bad_of_clients m) bad) in
    let of_clients = empty_back (keys_at bad_in (top_sheet m ∷ item_sheets m)) (bad_of_clients m) bad in
    record {
      radios = all_good part.Radio (tables_at radio_row m) there.radios right.radios;
      servers = all_good part.Server (tables_at server_row m) there.servers right.servers;
      links = all_good part.Link (tables_at link_row m) there.links right.links;
      keys = all_good_keys [] (tables_at key_row m) (empty_prefix (keys_of_keys missing_in m) (keys_of_nets missing_in m) clients) (empty_prefix (bad_in_keys [] (tables_at key_row m)) (keys_of_nets bad_in m) of_clients);
      deny = all_good part.Deny (tables_at deny_row m) (empty_back (keys_of_keys missing_in m) (keys_of_nets missing_in m) clients) (empty_back (bad_in_keys [] (tables_at key_row m)) (keys_of_nets bad_in m) of_clients);
    }

pub no_bad_key : (m : Members) → bad_values m ≡ [] → bad_in_keys [] (tables_at key_row m) ≡ []
no_bad_key m bad = empty_prefix (bad_in_keys [] (tables_at key_row m)) (keys_of_nets bad_in m) (empty_back (keys_at bad_in (top_sheet m ∷ item_sheets m)) (bad_of_clients m) bad)

-- ---- the faults of a document

abbrev pub unknowns : Members → List Text
unknowns m = keys_at unknown_in (sheets_of m)

abbrev pub missings : Members → List Text
missings m = keys_at missing_in (sheets_of m)

abbrev pub bads : Members → List Text
bads m = bad_values m

-- faults of four kinds in their order
abbrev pub in_order : List Text → List Text → List Text → List Fault → List Fault
in_order u m b e = map unknown_key u ++ (map missing_key m ++ (map bad_range b ++ e))

pub missing_first : (u m b : List Text) (e : List Fault) (k : Text) → u ≡ [] → slice_get m 0 ≡ Some k → slice_get (in_order u m b e) 0 ≡ Some (missing_key k)
missing_first u m b e k no_u h =
    ap (λ us. slice_get (in_order us m b e) 0) no_u ∙ first_some (map missing_key m) (map bad_range b ++ e) (missing_key k) (first_map missing_key m k h)

pub range_first : (u m b : List Text) (e : List Fault) (k : Text) → u ≡ [] → m ≡ [] → slice_get b 0 ≡ Some k → slice_get (in_order u m b e) 0 ≡ Some (bad_range k)
range_first u m b e k no_u no_m h =
    ap (λ us. slice_get (in_order us m b e) 0) no_u ∙ ap (λ ms. slice_get (in_order [] ms b e) 0) no_m
    ∙ first_some (map bad_range b) e (bad_range k) (first_map bad_range b k h)

pub excess_first : (u m b : List Text) (e : List Fault) → u ≡ [] → m ≡ [] → b ≡ [] → in_order u m b e ≡ e
excess_first u m b e no_u no_m no_b = ap (λ us. in_order us m b e) no_u ∙ ap (λ ms. in_order [] ms b e) no_m ∙ ap (λ bs. in_order [] [] bs e) no_b

-- ---- the first that passes

kept : {X : Type 0} (p : X → Bool) (x : X) (xs : List X) → p x ≡ true → filter p (x ∷ xs) ≡ x ∷ filter p xs
kept p x xs h = rw h refl

left_out : {X : Type 0} (p : X → Bool) (x : X) (xs : List X) → p x ≡ false → filter p (x ∷ xs) ≡ filter p xs
left_out p x xs h = rw h refl

pub first_passing : {X : Type 0} (p : X → Bool) (xs : List X) → slice_get (filter p xs) 0 ≡ find p xs
first_passing p [] = refl
first_passing p (x ∷ xs) = elim (cases_Bool (p x)) [
  | inl h ↦ ap (λ ys. slice_get ys 0) (kept p x xs h) ∙ sym (ap (λ b. cond b (Some x) (find p xs)) h)
  | inr h ↦ ap (λ ys. slice_get ys 0) (left_out p x xs h) ∙ first_passing p xs ∙ sym (ap (λ b. cond b (Some x) (find p xs)) h)
]

-- ---- the answer

pub refuses : (bytes : List ℕ) (top : Members) (f : StationFault) → IsDocument bytes top → IsFirst (faults_of top) f → Refuses bytes f
refuses bytes top fault.Memory d h = tt
refuses bytes top fault.NotToml d h = absurd h
refuses bytes top (fault.UnknownKey key) d h = (top, d, h)
refuses bytes top (fault.Missing key) d h = (top, d, h)
refuses bytes top (fault.Range key) d h = (top, d, h)
refuses bytes top (fault.TooMany key count) d h = (top, d, h)
