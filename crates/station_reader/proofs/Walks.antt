-- A walk over the values of an array.
use Rattle.std.proofs.Common.{◌≡◌, ◌∙◌, ◌+◌, ◌<◌, ◌≤◌, ℕ, List, [], ◌∷◌, ◌++◌, refl, sym, ap, subst, map, drop, length, get_or, append_assoc}
use Rattle.std.specs.Bool.{⊤}
use Rattle.std.proofs.lemmas.List.{append-nil, drop_all, map-append}
use Rattle.std.proofs.lemmas.List.Concat.{flat_map-append}
use Rattle.toml.specs.Data.{Data, Items, Members, array, boolean, datetime, float, integer, string, table}
use Rattle.toml.specs.View.{items_view, view}
use Rattle.toml.specs.declared.value.Value.{Value}
use Rattle.toml.proofs.Views.{items_view-drop}
use Rattle.station_reader.specs.Faults.{keys_at, sheets}
use Rattle.station_reader.specs.Finding.{AllGood}
use Rattle.station_reader.specs.Forms.{Row, Text, table_at, tables_from}
use Rattle.station_reader.specs.declared.keys.Part.{Part}

pub keys_at-append : (kind : List Row → Members → List Text) (part : Part) (xs ys : List (ℕ × Members)) → keys_at kind (sheets part (xs ++ ys)) ≡ keys_at kind (sheets part xs) ++ keys_at kind (sheets part ys)
keys_at-append kind part xs ys = ap (keys_at kind) (map-append _ xs ys) ∙ flat_map-append _ (sheets part xs) (sheets part ys)

-- the tables from a place on
pub rest_from : (items : List Value) (i : ℕ) (d : Value) → i < length items
    → tables_from i (items_view (drop i items)) ≡ table_at i (view (get_or items i d)) ++ tables_from (i + 1) (items_view (drop (i + 1) items))
rest_from items i d h = ap (tables_from i) (items_view-drop items i d h)

-- ---- what tables say does not rest on their places

-- the members of the tables
pub record Says {F : Type 0} (rows : List Row) (row_of : Members → F) (done : List F) (rest all : List (ℕ × Members)) : Type 0 where
  pub good : AllGood rows rest
  pub said : done ++ map (λ t. row_of t.1) rest ≡ map (λ t. row_of t.1) all

good_parts : (rows : List Row) (xs ys : List (ℕ × Members)) → AllGood rows (xs ++ ys) → AllGood rows xs × AllGood rows ys
good_parts rows [] ys h = (tt, h)
good_parts rows (x ∷ xs) ys h =
    let (here, later) = good_parts rows xs ys h.1 in
    ((h.0, here), later)

good_at : (rows : List Row) (i : ℕ) (d : Data) → AllGood rows (table_at i d) → AllGood rows (table_at 0 d)
good_at rows i (string s) h = tt
good_at rows i (integer z) h = tt
good_at rows i (float x) h = tt
good_at rows i (boolean b) h = tt
good_at rows i (datetime t) h = tt
good_at rows i (array ds) h = tt
good_at rows i (table ms) h = h

module _ {F : Type 0} (rows : List Row) (row_of : Members → F) where
  said_at : (i : ℕ) (d : Data) → map (λ t. row_of t.1) (table_at 0 d) ≡ map (λ t. row_of t.1) (table_at i d)
  said_at i (string s) = refl
  said_at i (integer z) = refl
  said_at i (float x) = refl
  said_at i (boolean b) = refl
  said_at i (datetime t) = refl
  said_at i (array ds) = refl
  said_at i (table ms) = refl

  pub says_first : (done : List F) (all : List (ℕ × Members)) → done ≡ [] → AllGood rows all → Says rows row_of done all all
  says_first done all none good = record { good = good; said = ap (λ xs. xs ++ map (λ t. row_of t.1) all) none }

  -- the value at a place, and those after it
  pub says_here : (done : List F) (items : List Value) (i : ℕ) (here : Value) (all : List (ℕ × Members)) → i < length items → here ≡ get_or items i here
      → Says rows row_of done (tables_from i (items_view (drop i items))) all → AllGood rows (table_at 0 (view here))
  says_here done items i here all h e s =
      let parts = good_parts rows (table_at i (view (get_or items i here))) (tables_from (i + 1) (items_view (drop (i + 1) items))) (subst (AllGood rows) (rest_from items i here h) s.good) in
      subst (λ v. AllGood rows (table_at 0 (view v))) (sym e) (good_at rows i (view (get_or items i here)) parts.0)

  pub says_next : (done more : List F) (items : List Value) (i : ℕ) (here : Value) (all : List (ℕ × Members)) → i < length items → here ≡ get_or items i here
      → Says rows row_of done (tables_from i (items_view (drop i items))) all → more ≡ done ++ map (λ t. row_of t.1) (table_at 0 (view here))
      → Says rows row_of more (tables_from (i + 1) (items_view (drop (i + 1) items))) all
  says_next done more items i here all h e s added =
      let first = table_at i (view (get_or items i here)) in
      let rest = tables_from (i + 1) (items_view (drop (i + 1) items)) in
      let whole = rest_from items i here h in
      record {
        good = (good_parts rows first rest (subst (AllGood rows) whole s.good)).1;
        said = ap (λ xs. xs ++ map (λ t. row_of t.1) rest) (added ∙ ap (λ v. done ++ map (λ t. row_of t.1) (table_at 0 (view v))) e ∙ ap (λ xs. done ++ xs) (said_at i (view (get_or items i here))))
            ∙ append_assoc done (map (λ t. row_of t.1) first) (map (λ t. row_of t.1) rest)
            ∙ ap (λ xs. done ++ xs) (sym (map-append (λ t. row_of t.1) first rest) ∙ sym (ap (map (λ t. row_of t.1)) whole))
            ∙ s.said;
      }

  pub says_end : (done : List F) (items : List Value) (i : ℕ) (all : List (ℕ × Members)) → length items ≤ i → Says rows row_of done (tables_from i (items_view (drop i items))) all → done ≡ map (λ t. row_of t.1) all
  says_end done items i all h s =
      sym (append-nil done) ∙ sym (ap (λ vs. done ++ map (λ t. row_of t.1) (tables_from i (items_view vs))) (drop_all i items h)) ∙ s.said
