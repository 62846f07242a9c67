-- Words that name no leap second: what is not looked at for them.
use Rattle.std.proofs.Common.{◌≡◌, ℕ, zero, suc, max, Bool, true, false, List, [], ◌∷◌, refl, ap, ◌∙◌, set}
use Rattle.std.specs.Prelude.{Option, None, Some, map, fold, ◌&&◌, ◌||◌, ◌==◌, nat_lt, if◌then◌else◌}
use Rattle.std.specs.List.{filter_map, cons_option, list_all}
use Rattle.tick_units.specs.Orders.{best}
use Rattle.system_fold.specs.Leaps.{leap_of, moment_of, passed_by, passed_among, ahead_of, armed_among}
use Rattle.system_fold.specs.Silence.{names_none}
use Rattle.system_fold.specs.declared.leaps.Leap.{Leap}
use Rattle.system_fold.specs.declared.leaps.Verdict.{Verdict}
use Rattle.system_fold.specs.declared.leaps.Word.{Word}
use Rattle.system_fold.specs.declared.leaps.Word.TheVariants.{Verified, Announced}

first : (a b : Bool) → (a && b) ≡ true → a ≡ true
first true b h = refl
first false b h = h

rest : (a b : Bool) → (a && b) ≡ true → b ≡ true
rest true b h = h
rest false true h = refl
rest false false h = h

both : (a b : Bool) → a ≡ true → b ≡ true → (a && b) ≡ true
both true b h i = i
both false b h i = h

-- a word that names none
pub silent-none : (last : Option Verdict) (word : Option Word) → names_none word ≡ true → leap_of last word ≡ None
silent-none last None h = refl
silent-none last (Some (Verified at second leap_at)) h = by_test (leap_at == 0) (record { moment = moment_of at second leap_at; leap_at = leap_at }) h
  where
    by_test : (b : Bool) (leap : Leap) → b ≡ true → (if b then None else Some leap) ≡ None
    by_test b leap h = ap (λ (c : Bool). if c then None else Some leap) h
silent-none None (Some (Announced leap_at)) h = refl
silent-none (Some v) (Some (Announced leap_at)) h = by_test (leap_at == 0) (record { moment = moment_of v.at v.second leap_at; leap_at = leap_at }) h
  where
    by_test : (b : Bool) (leap : Leap) → b ≡ true → (if b || nat_lt leap_at v.second then None else Some leap) ≡ None
    by_test b leap h = ap (λ (c : Bool). if c || nat_lt leap_at v.second then None else Some leap) h

-- the greatest moment that has passed, of words that name none
pub passed-silent : (now : ℕ) (last : Option Verdict) (words : List (Option Word)) → list_all names_none words ≡ true → passed_among now last words ≡ 0
passed-silent now last [] h = refl
passed-silent now last (word ∷ words) h =
    ap (λ (o : Option Leap). fold max (max 0 (passed_by now o)) (map (λ w. passed_by now (leap_of last w)) words)) (silent-none last word (first (names_none word) (list_all names_none words) h))
    ∙ passed-silent now last words (rest (names_none word) (list_all names_none words) h)

-- the leap second that is armed, of words that name none
pub armed-silent : (now : ℕ) (last : Option Verdict) (words : List (Option Word)) → list_all names_none words ≡ true → armed_among now last words ≡ None
armed-silent now last [] h = refl
armed-silent now last (word ∷ words) h =
    ap (λ (o : Option Leap). best (λ y x. nat_lt y.moment x.moment) (cons_option (ahead_of now o) (filter_map (λ w. ahead_of now (leap_of last w)) words))) (silent-none last word (first (names_none word) (list_all names_none words) h))
    ∙ armed-silent now last words (rest (names_none word) (list_all names_none words) h)

-- one word in another's place
pub silent-set : (words : List (Option Word)) (i : ℕ) (word : Option Word) → list_all names_none words ≡ true → names_none word ≡ true → list_all names_none (set words i word) ≡ true
silent-set [] i word h one = h
silent-set (w ∷ ws) zero word h one = both (names_none word) (list_all names_none ws) one (rest (names_none w) (list_all names_none ws) h)
silent-set (w ∷ ws) (suc i) word h one =
    both (names_none w) (list_all names_none (set ws i word)) (first (names_none w) (list_all names_none ws) h) (silent-set ws i word (rest (names_none w) (list_all names_none ws) h) one)
