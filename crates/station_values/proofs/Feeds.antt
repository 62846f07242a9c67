-- The sources of a station's settings: radios, then servers, and the leap second file last.
use Rattle.std.proofs.Common.{◌≡◌, ◌∙◌, ℕ, List, [], ◌∷◌, ◌++◌, Option, refl, ap, map}
use Rattle.system_fold.specs.declared.settings.SourceKind.{SourceKind}
use Rattle.station_values.specs.KeptStation.{radio_kept, server_fields}
use Rattle.station_values.specs.Station.{kind_of_radio, kind_of_server, leap_feeds}
use Rattle.station_values.specs.declared.station.Radio.{Radio}
use Rattle.station_values.specs.declared.station.ServerRow.{ServerRow}

map_twice : {X Y Z : Type 0} (g : Y → Z) (f : X → Y) (xs : List X) → map (λ x. g (f x)) xs ≡ map g (map f xs)
map_twice g f [] = refl
map_twice g f (x ∷ xs) = ap (λ ys. g (f x) ∷ ys) (map_twice g f xs)

pub sources_are : (none some more all : List SourceKind) (radios kept : List Radio) (servers rows : List ServerRow) (name : Option (List ℕ)) → none ≡ []
    → some ≡ none ++ map (λ r. kind_of_radio (radio_kept r)) radios → radios ≡ kept
    → more ≡ some ++ map (λ s. kind_of_server (server_fields s)) servers → servers ≡ rows
    → all ≡ more ++ leap_feeds name
    → all ≡ map kind_of_radio (map radio_kept kept) ++ map kind_of_server (map server_fields rows) ++ leap_feeds name
sources_are none some more all radios kept servers rows name e0 e1 r e2 s e3 =
    e3 ∙ ap (λ xs. xs ++ leap_feeds name) (e2
    ∙ ap (λ xs. xs ++ map (λ s. kind_of_server (server_fields s)) servers) (e1 ∙ ap (λ xs. xs ++ map (λ r. kind_of_radio (radio_kept r)) radios) e0 ∙ ap (map (λ r. kind_of_radio (radio_kept r))) r ∙ map_twice kind_of_radio radio_kept kept)
    ∙ ap (λ xs. map kind_of_radio (map radio_kept kept) ++ xs) (ap (map (λ s. kind_of_server (server_fields s))) s ∙ map_twice kind_of_server server_fields rows))
