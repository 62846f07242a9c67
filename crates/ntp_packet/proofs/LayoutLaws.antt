-- The fields that the bytes of a header spell are those of the header.
use Rattle.std.proofs.Common.{◌≡◌, ◌+◌, ◌*◌, ◌/◌, ◌%◌, ◌^◌, ◌<◌, [], FitsSigned, arith}
use Rattle.std.specs.Int.{w8}
use Rattle.std.proofs.lemmas.Int.{to_z-of_z}
use Rattle.byteorder.specs.Numbers.{big_number-reads_back}
use Rattle.ntp_packet.specs.Layout.{IsHeader, layout, fields}
use Rattle.ntp_packet.specs.declared.header.Header.{Header}

-- each field is in the range of its type, and the three parts of the first byte fit there
pub record InRange (h : Header) : Type 0 where
  pub first : IsHeader h
  pub poll : FitsSigned w8 h.poll
  pub precision : FitsSigned w8 h.precision
  pub root_delay : h.root_delay.0 < 2 ^ 32
  pub root_disp : h.root_disp.0 < 2 ^ 32
  pub refid : h.refid < 2 ^ 32
  pub reference : h.reference.0 < 2 ^ 64
  pub origin : h.origin.0 < 2 ^ 64
  pub receive : h.receive.0 < 2 ^ 64
  pub transmit : h.transmit.0 < 2 ^ 64

pub fields-layout : (h : Header) → InRange h → fields (layout h) ≡ h
unfolding fields layout
fields-layout h r =
    let leap : (h.leap * 64 + h.version * 8 + h.mode) / 64 ≡ h.leap = omega arith in
    let version : (h.leap * 64 + h.version * 8 + h.mode) / 8 % 8 ≡ h.version = omega arith in
    let mode : (h.leap * 64 + h.version * 8 + h.mode) % 8 ≡ h.mode = omega arith in
    let poll = to_z-of_z w8 h.poll r.poll in
    let precision = to_z-of_z w8 h.precision r.precision in
    let root_delay = big_number-reads_back 4 h.root_delay.0 [] r.root_delay in
    let root_disp = big_number-reads_back 4 h.root_disp.0 [] r.root_disp in
    let refid = big_number-reads_back 4 h.refid [] r.refid in
    let reference = big_number-reads_back 8 h.reference.0 [] r.reference in
    let origin = big_number-reads_back 8 h.origin.0 [] r.origin in
    let receive = big_number-reads_back 8 h.receive.0 [] r.receive in
    let transmit = big_number-reads_back 8 h.transmit.0 [] r.transmit in
    λ i. record {
      leap = leap i;
      version = version i;
      mode = mode i;
      stratum = h.stratum;
      poll = poll i;
      precision = precision i;
      root_delay = record { 0 = root_delay i };
      root_disp = record { 0 = root_disp i };
      refid = refid i;
      reference = record { 0 = reference i };
      origin = record { 0 = origin i };
      receive = record { 0 = receive i };
      transmit = record { 0 = transmit i };
    }
