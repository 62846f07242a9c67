-- What the search leaves open of `read::numbered_candidate`.
use Rattle.std.proofs.Common.{◌≡◌, ◌∷◌, [], Some, refl, ◌∙◌, rules}
use Rattle.std.specs.Fmt.{signed_decimal}
use Rattle.std.specs.Int.{w32}
use Rattle.std.proofs.lemmas.Int.{to_z-of_z}
use Rattle.journal_entry.specs.Reading.{entry_fields}
use Rattle.journal_entry.proofs.NumberLaws.{fields_of, number_fields, rate_fits}
use Rattle.journal_entry.proofs.read.numbered_candidate.Goals as goal

pub returns-in_err-entry : goal.returns-in_err-entry
returns-in_err-entry c = λ n h.
    let version = c.next-version.ensures (106 ∷ 50 ∷ []) (number_fields n) refl (fields_of c.new-fields.result c.args.text.now n c.new-fields.ensures h) in
    let length = c.next_u64-length.ensures n.length (signed_decimal n.rate ∷ entry_fields n.entry) h.numbered.length version.1 in
    let rate = c.next_rate-rate.ensures n.rate (entry_fields n.entry) (rate_fits n.rate h.numbered.rate) length.1 in
    let entry = c.read_fields.ensures n.entry h.numbered.entry rate.1 in
    let none = c.in_err-entry.was in
    cc

pub returns : goal.returns
returns c = λ n h.
    let version = c.next-version.ensures (106 ∷ 50 ∷ []) (number_fields n) refl (fields_of c.new-fields.result c.args.text.now n c.new-fields.ensures h) in
    let length = c.next_u64-length.ensures n.length (signed_decimal n.rate ∷ entry_fields n.entry) h.numbered.length version.1 in
    let rate = c.next_rate-rate.ensures n.rate (entry_fields n.entry) (rate_fits n.rate h.numbered.rate) length.1 in
    let entry = c.read_fields.ensures n.entry h.numbered.entry rate.1 in
    let entry_is : c.in_ok-entry.entry ≡ n.entry = cc (entry, c.in_ok-entry.was) in
    let rate_is = to_z-of_z w32 c.next_rate-rate.result (search rules) ∙ rate.0 in
    λ i. Some (record { length = length.0 i; rate = rate_is i; entry = entry_is i })
