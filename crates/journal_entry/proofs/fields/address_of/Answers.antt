-- What the search leaves open of `fields::address_of`.
use Rattle.std.proofs.Common.{ap, ◌∙◌}
use Rattle.std.specs.Int.{w32, from_be_bytes}
use Rattle.std.proofs.lemmas.Nat.{from_be_bytes-to_be_bytes_4}
use Rattle.journal_entry.proofs.AddressLaws.{decodes}
use Rattle.journal_entry.proofs.fields.address_of.Goals as goal

pub returns : goal.returns
returns c = λ n small e.
    let value = rw (decodes c.args.digits.now n e) at c.decode_to_slice.ensures.value in
    c.from_be_bytes.ensures ∙ ap (from_be_bytes w32) value.1 ∙ from_be_bytes-to_be_bytes_4 n small
