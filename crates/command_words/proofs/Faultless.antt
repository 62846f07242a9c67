-- Arguments without a fault ask for a command.
use Rattle.std.proofs.Common.{◌≡◌, ◌∙◌, ℕ, ◌<◌, ◌≤◌, ◌^◌, Bool, true, false, not, ◌||◌, eqb, List, [], ◌∷◌, Option, Some, None, Ok, Err, decimal, find, get_or, length, refl, sym, ap, subst, inl, inr, arith, bytes_eq, codes, is_some}
use Rattle.std.specs.Prelude.{nat_le}
use Rattle.std.specs.List.{list_all, list_any}
use Rattle.std.specs.Str.{all_ascii_digits}
use Rattle.std.specs.Str.Parse.{digits_value}
use Rattle.std.proofs.lemmas.Bool.{and_parts, cases_Bool, eqb-false, eqb-true, leb-true, ltb-true, not-true, or_cases, true≢false}
use Rattle.std.proofs.lemmas.Fmt.{decimal-digits_value}
use Rattle.std.proofs.lemmas.Str.Parse.{IsNumeralModel, numerals_by_value, tells_all_ascii_digits}
use Rattle.tick_units.specs.Log.{is_number as is_whole}
use Rattle.tick_units.specs.Plans.{plan_of, word_of}
use Rattle.tick_units.specs.declared.marks.Plan.{Plan}
use Rattle.tick_units.specs.declared.marks.Plan.TheVariants.{Dcf, Msf, Wwvb}
use Rattle.command_words.specs.CommandLine.{IsOnce, Text, is_value, value_of}
use Rattle.command_words.specs.Commands.{AskFor, Asked, IsNumber, IsSeed, Says, decode, drill, is_of, migrate, name_of, replay, row_of, serve}
use Rattle.command_words.specs.Faults.{Part, Reading, Shape, Wrong, command_fault, fault_in, fault_of, first_of, is_any, is_given, is_good, is_number, decode_shape, drill_shape, migrate_shape, names_option, need_fault, one_fault, option_fault, or_else, parts_fault, read_after, replay_shape, serve_shape, shape_of, shapes, texts_with, values_fault, words_fault}
use Rattle.command_words.specs.Matches.{option_names}
use Rattle.command_words.proofs.LineLaws.{command_of, given_of, lined}
use Rattle.command_words.proofs.Names.{itself, same_text}
use Rattle.command_words.proofs.Parts.{given_in, words_in}
use Rattle.command_words.proofs.ReadParts.{are_parts, has_value}
use Rattle.command_words.proofs.Values.{are_known}

-- ---- numbers

own : IsNumeralModel (λ ds. all_ascii_digits ds ≡ true) (digits_value 10)
own = numerals_by_value _ tells_all_ascii_digits

first_digit : (first len : ℕ) → (not (eqb first 48) || eqb len 1) ≡ true → first ≡ 48 → len ≡ 1
first_digit first len e nought = elim (or_cases (not (eqb first 48)) (eqb len 1) e) [
  | inl other ↦ absurd (eqb-false first 48 (not-true (eqb first 48) other) nought)
  | inr one ↦ eqb-true len 1 one
]

text_is : (text : Text) → digits_value 10 text < 2 ^ 64 → is_whole text ≡ true → text ≡ decimal (digits_value 10 text)
text_is text small whole =
    let prefix = and_parts _ _ whole in
    let digits = and_parts (all_ascii_digits text) _ prefix.0 in
    sym (decimal-digits_value own text digits.0 (ltb-true 0 (length text) digits.1) (first_digit (get_or text 0 0) (length text) prefix.1) small)

pub record Number (least most : ℕ) (text : Text) : Type 0 where
  pub value : ℕ
  pub said : text ≡ decimal value
  pub least_is : least ≤ value
  pub most_is : value ≤ most

number : (least most : ℕ) (text : Text) → most < 2 ^ 60 → is_number least most text ≡ true → Number least most text
number least most text small good = elim (cases_Bool (is_whole text)) [
  | inr other ↦ (let none : is_number least most text ≡ false = rw other refl in absurd (true≢false (sym good ∙ none)))
  | inl whole ↦ elim (cases_Bool (nat_le (digits_value 10 text) most)) [
    | inr far ↦ (let none : is_number least most text ≡ false = rw (whole, far) refl in absurd (true≢false (sym good ∙ none)))
    | inl near ↦
        let is : is_number least most text ≡ nat_le least (digits_value 10 text) = rw (whole, near) refl in
        let within = leb-true (digits_value 10 text) most near in
        record {
          value = digits_value 10 text;
          said = text_is text (omega arith) whole;
          least_is = leb-true least (digits_value 10 text) (sym is ∙ good);
          most_is = within;
        }
  ]
]

pub record Planned (text : Text) : Type 0 where
  pub plan : Plan
  pub said : text ≡ word_of plan

planned : (text : Text) → is_some (plan_of text) ≡ true → Planned text
planned text good = elim (cases_Bool (bytes_eq text (word_of Dcf))) [
  | inl dcf ↦ record { plan = Dcf; said = same_text text (word_of Dcf) dcf }
  | inr no_dcf ↦ elim (cases_Bool (bytes_eq text (word_of Msf))) [
    | inl msf ↦ record { plan = Msf; said = same_text text (word_of Msf) msf }
    | inr no_msf ↦ elim (cases_Bool (bytes_eq text (word_of Wwvb))) [
      | inl wwvb ↦ record { plan = Wwvb; said = same_text text (word_of Wwvb) wwvb }
      | inr no_wwvb ↦ (let none : is_some (plan_of text) ≡ false = rw (no_dcf, no_msf, no_wwvb) refl in absurd (true≢false (sym good ∙ none)))
    ]
  ]
]

-- ---- an option without a fault

pub data Right (c : Shape) (name : Text) (texts : List Text) : Type 0 where
  absent : texts ≡ [] → Right c name texts
  given : (text : Text) → texts ≡ text ∷ [] → list_any (bytes_eq name) c.row ≡ true → is_good name text ≡ true → Right c name texts

right : (c : Shape) (name : Text) (texts : List Text) → values_fault c name texts ≡ None → Right c name texts
right c name [] e = absent refl
right c name (text ∷ []) e = elim (cases_Bool (list_any (bytes_eq name) c.row)) [
  | inr off ↦ (let x = ap is_some (rw off at e) in absurd (true≢false x))
  | inl on ↦ elim (cases_Bool (is_good name text)) [
    | inl good ↦ given text refl on good
    | inr bad ↦ (let x = ap is_some (rw (on, bad) at e) in absurd (true≢false x))
  ]
]
right c name (text ∷ again ∷ more) e = absurd (true≢false (ap is_some e))

right_later : (c : Shape) (name text : Text) (more : List Text) → Right c name (text ∷ more) → Right c name more
right_later c name text more (absent e) = absurd (true≢false (ap is_any e))
right_later c name text more (given one e on good) = absent (let same : more ≡ [] = cc in same)

abbrev pub Each : Shape → List Part → Type 0
Each c ps = (name : Text) → names_option name ≡ true → Right c name (texts_with (Some name) ps)

each_later : (c : Shape) (p : Part) (ps : List Part) → Each c (p ∷ ps) → Each c ps
each_later c (None, text) ps each name k = each name k
each_later c (Some option, text) ps each name k = elim (cases_Bool (bytes_eq option name)) [
  | inl same ↦
      let list : texts_with (Some name) ((Some option, text) ∷ ps) ≡ text ∷ texts_with (Some name) ps = rw same refl in
      right_later c name text (texts_with (Some name) ps) (subst (Right c name) list (each name k))
  | inr other ↦
      let list : texts_with (Some name) ((Some option, text) ∷ ps) ≡ texts_with (Some name) ps = rw other refl in
      subst (Right c name) list (each name k)
]

-- ---- the options of parts

abbrev pub first : List Text → Option Text
first [] = None
first (text ∷ more) = Some text

value_first : (name : Text) (ps : List Part) → value_of name (given_in ps) ≡ first (texts_with (Some name) ps)
value_first name [] = refl
value_first name ((None, text) ∷ ps) = value_first name ps
value_first name ((Some option, text) ∷ ps) = elim (cases_Bool (bytes_eq option name)) [
  | inl same ↦ rw same refl
  | inr other ↦ rw other (value_first name ps)
]

none_after : (c : Shape) (name text : Text) (more : List Text) → Right c name (text ∷ more) → more ≡ []
none_after c name text more (absent e) = absurd (true≢false (ap is_any e))
none_after c name text more (given one e on good) = cc

in_row : (c : Shape) (name text : Text) (more : List Text) → Right c name (text ∷ more) → list_any (bytes_eq name) c.row ≡ true
in_row c name text more (absent e) = absurd (true≢false (ap is_any e))
in_row c name text more (given one e on good) = on

of_first : (c : Shape) (name text : Text) (ps : List Part) → Each c ((Some name, text) ∷ ps) → names_option name ≡ true → Right c name (text ∷ texts_with (Some name) ps)
of_first c name text ps each k =
    let list : texts_with (Some name) ((Some name, text) ∷ ps) ≡ text ∷ texts_with (Some name) ps = rw (itself name) refl in
    subst (Right c name) list (each name k)

once : (c : Shape) (ps : List Part) → are_known ps ≡ true → Each c ps → IsOnce (given_in ps)
once c [] k each = tt
once c ((None, text) ∷ ps) k each = once c ps k (each_later c (None, text) ps each)
once c ((Some name, text) ∷ ps) k each =
    let here = and_parts (names_option name) (are_known ps) k in (
      value_first name ps ∙ ap first (none_after c name text (texts_with (Some name) ps) (of_first c name text ps each here.0)),
      once c ps here.1 (each_later c (Some name, text) ps each),
    )

valid : (c : Shape) (ps : List Part) → are_known ps ≡ true → list_all has_value (given_in ps) ≡ true → Each c ps → list_all (is_of c.row) (given_in ps) ≡ true
valid c [] k v each = refl
valid c ((None, text) ∷ ps) k v each = valid c ps k v (each_later c (None, text) ps each)
valid c ((Some name, text) ∷ ps) k v each =
    let here = and_parts (names_option name) (are_known ps) k in
    let value = and_parts (is_value text) (list_all has_value (given_in ps)) v in
    rw (in_row c name text (texts_with (Some name) ps) (of_first c name text ps each here.0), value.0) (valid c ps here.1 value.1 (each_later c (Some name, text) ps each))

words_same : (ps : List Part) → texts_with None ps ≡ words_in ps
words_same [] = refl
words_same ((None, text) ∷ ps) = ap (λ ws. text ∷ ws) (words_same ps)
words_same ((Some name, text) ∷ ps) = words_same ps

-- ---- what the values of options say

pub record Has (c : Shape) (name : Text) (ps : List Part) : Type 0 where
  pub text : Text
  pub value : value_of name (given_in ps) ≡ Some text
  pub good : is_good name text ≡ true

has : (c : Shape) (name : Text) (ps : List Part) → is_given ps name ≡ true → Right c name (texts_with (Some name) ps) → Has c name ps
has c name ps some (absent e) = absurd (true≢false (sym some ∙ ap is_any e))
has c name ps some (given text e on good) = record { text = text; value = value_first name ps ∙ ap first e; good = good }

pub record Counts (default least most : ℕ) (name : Text) (ps : List Part) : Type 0 where
  pub value : ℕ
  pub says : IsNumber default least most (value_of name (given_in ps)) value

counts : (default least most : ℕ) (c : Shape) (name : Text) (ps : List Part) → most < 2 ^ 60 → ((text : Text) → is_good name text ≡ is_number least most text)
    → Right c name (texts_with (Some name) ps) → Counts default least most name ps
counts default least most c name ps small by (absent e) = record {
  value = default;
  says = subst (λ o. IsNumber default least most o default) (sym (value_first name ps ∙ ap first e)) refl;
}
counts default least most c name ps small by (given text e on good) =
    let n = number least most text small (sym (by text) ∙ good) in
    record {
      value = n.value;
      says = subst (λ o. IsNumber default least most o n.value) (sym (value_first name ps ∙ ap first e)) (n.said, n.least_is, n.most_is);
    }

-- a command of this name, with this row of options, that the parts ask for
pub record Names (c : Shape) (ps : List Part) : Type 0 where
  pub asks : Asked
  pub name : name_of asks ≡ c.name
  pub row : row_of asks ≡ c.row
  pub says : Says (λ name. value_of name (given_in ps)) asks

abbrev Need : Shape → List Part → Type 0
Need c ps = (name : Text) → list_any (λ other. bytes_eq other name) c.needs ≡ true → is_given ps name ≡ true

abbrev Named : List Part → Shape → Type 0
Named ps c = Each c ps → Need c ps → Names c ps

value : (c : Shape) (name : Text) (ps : List Part) → Each c ps → Need c ps → names_option name ≡ true → list_any (λ other. bytes_eq other name) c.needs ≡ true → Has c name ps
value c name ps each need k n = has c name ps (need name n) (each name k)

of_decode : (ps : List Part) → Named ps decode_shape
of_decode ps each need =
    let plan = value _ (codes "plan") ps each need refl refl in
    let log = value _ (codes "log") ps each need refl refl in
    let p = planned plan.text plan.good in
    record { asks = decode p.plan log.text; name = refl; row = refl; says = (plan.value ∙ ap Some p.said, log.value) }

of_replay : (ps : List Part) → Named ps replay_shape
of_replay ps each need =
    let station = value _ (codes "station") ps each need refl refl in
    let script = value _ (codes "script") ps each need refl refl in
    let limit = counts 1048576 1 4194304 _ (codes "limit") ps (omega arith) (λ text. refl) (each (codes "limit") refl) in
    record { asks = replay station.text script.text limit.value; name = refl; row = refl; says = (station.value, script.value, limit.says) }

of_serve : (ps : List Part) → Named ps serve_shape
of_serve ps each need =
    let station = value _ (codes "station") ps each need refl refl in
    let during = counts 16 0 1000000 _ (codes "during") ps (omega arith) (λ text. refl) (each (codes "during") refl) in
    let after = counts 0 0 1000000 _ (codes "after") ps (omega arith) (λ text. refl) (each (codes "after") refl) in
    let limit = counts 1048576 1 4194304 _ (codes "limit") ps (omega arith) (λ text. refl) (each (codes "limit") refl) in
    record { asks = serve station.text during.value after.value limit.value; name = refl; row = refl; says = (station.value, during.says, after.says, limit.says) }

of_drill : (ps : List Part) → Named ps drill_shape
of_drill ps each need =
    let seed = value _ (codes "seed") ps each need refl refl in
    let limit = counts 1048576 1 4194304 _ (codes "limit") ps (omega arith) (λ text. refl) (each (codes "limit") refl) in
    let n = number 0 4294967295 seed.text (omega arith) seed.good in
    record { asks = drill n.value limit.value; name = refl; row = refl; says = (subst (λ o. IsSeed o n.value) (sym seed.value) (n.said, n.most_is), limit.says) }

of_migrate : (ps : List Part) → Named ps migrate_shape
of_migrate ps each need =
    let station = value _ (codes "station") ps each need refl refl in
    let journal = value _ (codes "journal") ps each need refl refl in
    record { asks = migrate station.text journal.text; name = refl; row = refl; says = (station.value, journal.value) }

abbrev Every : (Shape → Type 0) → List Shape → Type 0
Every P [] = Unit {0}
Every P (c ∷ cs) = P c × Every P cs

each_named : (ps : List Part) → Every (Named ps) shapes
each_named ps = (of_decode ps, (of_replay ps, (of_serve ps, (of_drill ps, (of_migrate ps, tt)))))

-- ---- the fault of parts

found : (p : Shape → Bool) (P : Shape → Type 0) (xs : List Shape) (c : Shape) → Every P xs → find p xs ≡ Some c → (p c ≡ true) × P c
found p P [] c all e = absurd (true≢false (sym (ap is_some e)))
found p P (x ∷ xs) c all e = elim (cases_Bool (p x)) [
  | inl so ↦
      let same : x ≡ c = (let h : Some x ≡ Some c = rw so at e in cc) in
      (subst (λ t. p t ≡ true) same so, subst P same all.0)
  | inr other ↦ found p P xs c all.1 (rw other at e)
]

or_none : (a b : Option Wrong) → or_else a b ≡ None → (a ≡ None) × (b ≡ None)
or_none None b e = (refl, e)
or_none (Some fault) b e = absurd (true≢false (ap is_some e))

no_first : (f : Text → Option Wrong) (names : List Text) (name : Text) → first_of f names ≡ None → list_any (λ other. bytes_eq other name) names ≡ true → f name ≡ None
no_first f [] name e h = absurd (true≢false (sym h))
no_first f (other ∷ more) name e h =
    let parts = or_none (f other) (first_of f more) e in
    elim (or_cases (bytes_eq other name) (list_any (λ o. bytes_eq o name) more) h) [
      | inl same ↦ subst (λ t. f t ≡ None) (same_text other name same) parts.0
      | inr later ↦ no_first f more name parts.1 later
    ]

needed : (ps : List Part) (c : Shape) (name : Text) → need_fault ps c name ≡ None → is_given ps name ≡ true
needed ps c name e = elim (cases_Bool (is_given ps name)) [
  | inl so ↦ so
  | inr other ↦ (let x = ap is_some (rw other at e) in absurd (true≢false x))
]

pub record OneWord (ps : List Part) : Type 0 where
  pub word : Text
  pub shape : Shape
  pub words : texts_with None ps ≡ word ∷ []
  pub is : shape_of word ≡ Some shape
  pub right : command_fault ps shape ≡ None

one_word : (ps : List Part) (texts : List Text) → texts_with None ps ≡ texts → words_fault ps texts ≡ None → OneWord ps
one_word ps [] are e = absurd (true≢false (ap is_some e))
one_word ps (word ∷ []) are e = by (shape_of word) refl e
  where
    by : (o : Option Shape) → shape_of word ≡ o → one_fault ps word o ≡ None → OneWord ps
    by None is none = absurd (true≢false (ap is_some none))
    by (Some c) is none = record { word = word; shape = c; words = are; is = is; right = none }
one_word ps (word ∷ second ∷ more) are e = absurd (true≢false (ap is_some e))

of_parts : (ps : List Part) → parts_fault ps ≡ None → OneWord ps
of_parts [] e = absurd (true≢false (ap is_some e))
of_parts (p ∷ ps) e = one_word (p ∷ ps) (texts_with None (p ∷ ps)) refl e

pub record Asks (texts : List Text) : Type 0 where
  pub command : Asked
  pub ask : AskFor texts command

asks : (texts : List Text) (ps : List Part) → read_after None texts ≡ Ok ps → parts_fault ps ≡ None → Asks texts
asks texts ps read none =
    let are = are_parts texts ps read in
    let h = lined texts ps are.parts in
    let o = of_parts ps none in
    let faults = or_none (first_of (option_fault ps o.shape) option_names) (first_of (need_fault ps o.shape) o.shape.needs) o.right in
    let each : Each o.shape ps = λ name k. right o.shape name (texts_with (Some name) ps) (no_first (option_fault ps o.shape) option_names name faults.0 k) in
    let need : Need o.shape ps = λ name k. needed ps o.shape name (no_first (need_fault ps o.shape) o.shape.needs name faults.1 k) in
    let f = found (λ c. bytes_eq o.word c.name) (Named ps) shapes o.shape (each_named ps) o.is in
    let n = f.1 each need in
    let given_is = ap given_in (sym h.parts) ∙ given_of h.line in
    let words_are = ap words_in (sym h.parts) ∙ command_of h.line in
    record {
      command = n.asks;
      ask = record {
        line = h.line;
        spelt = h.spelt;
        command = sym words_are ∙ sym (words_same ps) ∙ o.words ∙ ap (λ w. w ∷ []) (same_text o.word o.shape.name f.0 ∙ sym n.name);
        once = subst IsOnce given_is (once o.shape ps are.known each);
        valid = subst (λ g. list_all (is_of (row_of n.asks)) g ≡ true) given_is
            (subst (λ row. list_all (is_of row) (given_in ps) ≡ true) (sym n.row) (valid o.shape ps are.known are.valued each));
        says = subst (λ g. Says (λ name. value_of name g) n.asks) given_is n.says;
      };
    }

pub faultless : (texts : List Text) → fault_of texts ≡ None → Asks texts
faultless texts none = by (read_after None texts) refl none
  where
    by : (r : Reading) → read_after None texts ≡ r → fault_in r ≡ None → Asks texts
    by (Err fault) read e = absurd (true≢false (ap is_some e))
    by (Ok ps) read e = asks texts ps read e
