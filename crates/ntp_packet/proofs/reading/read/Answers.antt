-- What the search leaves open of `reading::read`.
use Rattle.std.proofs.Common.{◌≡◌, ◌/◌, ◌%◌, ◌∙◌, slice_index, bit_and, w8, to_z, of_z, rules}
use Rattle.std.proofs.lemmas.Int.{to_z-of_z}
use Rattle.std.proofs.lemmas.Nat.{and_mask}
use Rattle.ntp_packet.specs.Layout.{fields}
use Rattle.ntp_packet.proofs.reading.read.Goals as goal

pub returns-clause-fields : goal.returns-clause-fields
unfolding fields
returns-clause-fields c =
    let bytes = c.args.bytes.now in
    let version : bit_and (slice_index bytes 0 / 8) 7 ≡ slice_index bytes 0 / 8 % 8 = and_mask (slice_index bytes 0 / 8) 3 in
    let mode : bit_and (slice_index bytes 0) 7 ≡ slice_index bytes 0 % 8 = and_mask (slice_index bytes 0) 3 in
    let poll : to_z w8 (of_z w8 c.cast_signed.result) ≡ to_z w8 (slice_index bytes 2) = to_z-of_z w8 c.cast_signed.result (search rules) ∙ c.cast_signed.ensures in
    let precision : to_z w8 (of_z w8 c.cast_signed-2.result) ≡ to_z w8 (slice_index bytes 3) = to_z-of_z w8 c.cast_signed-2.result (search rules) ∙ c.cast_signed-2.ensures in
    λ i. record {
      leap = slice_index bytes 0 / 64;
      version = version i;
      mode = mode i;
      stratum = slice_index bytes 1;
      poll = poll i;
      precision = precision i;
      root_delay = record { 0 = c.u32_at.ensures i };
      root_disp = record { 0 = c.u32_at-2.ensures i };
      refid = c.u32_at-3.ensures i;
      reference = record { 0 = c.u64_at.ensures i };
      origin = record { 0 = c.u64_at-2.ensures i };
      receive = record { 0 = c.u64_at-3.ensures i };
      transmit = record { 0 = c.u64_at-4.ensures i };
    }
