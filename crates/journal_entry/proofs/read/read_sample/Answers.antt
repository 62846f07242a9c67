-- What the search leaves open of `read::read_sample`.
use Rattle.std.proofs.Common.{[], ◌∷◌, decimal}
use Rattle.std.specs.Fmt.{signed_decimal}
use Rattle.journal_entry.specs.Texts.{address_text}
use Rattle.journal_entry.proofs.read.read_sample.Goals as goal

pub returns : goal.returns
returns c = λ s ok h.
    let last = decimal s.root_disp.0 ∷ [] in
    let roots = decimal s.root_delay.0 ∷ last in
    let server = address_text s.address ∷ roots in
    let stratum_on = decimal s.stratum ∷ server in
    let dispersion_on = signed_decimal s.dispersion ∷ stratum_on in
    let offset = c.next_span.ensures s.offset (signed_decimal s.delay ∷ dispersion_on) ok.offset h in
    let delay = c.next_span-2.ensures s.delay dispersion_on ok.delay offset.1 in
    let dispersion = c.next_span-3.ensures s.dispersion stratum_on ok.dispersion delay.1 in
    let stratum = c.next_u8.ensures s.stratum server ok.stratum dispersion.1 in
    let address = c.next_address.ensures s.address roots ok.address stratum.1 in
    let root_delay = c.next_u32.ensures s.root_delay.0 last ok.root_delay address.1 in
    let root_disp = c.next_u32-2.ensures s.root_disp.0 [] ok.root_disp root_delay.1 in
    λ i. record {
      offset = offset.0 i;
      delay = delay.0 i;
      dispersion = dispersion.0 i;
      stratum = stratum.0 i;
      address = address.0 i;
      root_delay = record { 0 = root_delay.0 i };
      root_disp = record { 0 = root_disp.0 i };
    }
