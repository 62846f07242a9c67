-- What the search leaves open of `writing::write`.
use Rattle.std.proofs.Common.{◌≡◌, ℕ, List, [], ◌∷◌, ◌++◌, sym, ap, ◌∙◌, arith, rules}
use Rattle.std.specs.Int.{w8, cast_unsigned}
use Rattle.std.proofs.lemmas.Int.{to_z-of_z}
use Rattle.std.proofs.lemmas.List.{take_all}
use Rattle.byteorder.specs.Endian.{big_bytes}
use Rattle.ntp_packet.specs.Layout.{layout, fields}
use Rattle.ntp_packet.proofs.LayoutLaws.{fields-layout}
use Rattle.ntp_packet.proofs.Pieces.{packed, four_set}
use Rattle.ntp_packet.proofs.writing.write.Goals as goal

-- one piece more after those that stand
more : {start now : List ℕ} (piece known : List ℕ) → now ≡ start ++ piece → start ≡ known → now ≡ known ++ piece
more piece known is stands = is ∙ ap (λ (xs : List ℕ). xs ++ piece) stands

spelled : (c : goal.After-put_u64-4) → c.put_u64-4.new.out ≡ layout c.args.header.now
unfolding layout
spelled c =
    let h = c.args.header.now in
    let byte = packed h.leap h.version h.mode c.requires.leap c.requires.version c.requires.mode in
    let poll = c.cast_unsigned.ensures ∙ ap (cast_unsigned w8) (to_z-of_z w8 h.poll (search rules)) in
    let precision = c.cast_unsigned-2.ensures ∙ ap (cast_unsigned w8) (to_z-of_z w8 h.precision (search rules)) in
    let four = four_set c.args.out.now _ h.stratum c.cast_unsigned.result c.cast_unsigned-2.result (omega arith) in
    let first = four ∙ (λ i. byte i ∷ h.stratum ∷ poll i ∷ precision i ∷ []) in
    let root_delay = more (big_bytes 4 h.root_delay.0) _ c.put_u32.ensures.piece first in
    let root_disp = more (big_bytes 4 h.root_disp.0) _ c.put_u32-2.ensures.piece root_delay in
    let refid = more (big_bytes 4 h.refid) _ c.put_u32-3.ensures.piece root_disp in
    let reference = more (big_bytes 8 h.reference.0) _ c.put_u64.ensures.piece refid in
    let origin = more (big_bytes 8 h.origin.0) _ c.put_u64-2.ensures.piece reference in
    let receive = more (big_bytes 8 h.receive.0) _ c.put_u64-3.ensures.piece origin in
    let transmit = more (big_bytes 8 h.transmit.0) _ c.put_u64-4.ensures.piece receive in
    sym (take_all 48 c.put_u64-4.new.out (omega (arith, c.put_u64-4.array_long))) ∙ transmit

pub returns-clause-bytes : goal.returns-clause-bytes
returns-clause-bytes c = spelled c

pub returns-clause-reads_back : goal.returns-clause-reads_back
returns-clause-reads_back c =
    ap fields (spelled c) ∙ fields-layout c.args.header.now (record {
      first = record { leap = c.requires.leap; version = c.requires.version; mode = c.requires.mode };
      poll = search rules;
      precision = search rules;
      root_delay = c.put_u32.ensures.fits;
      root_disp = c.put_u32-2.ensures.fits;
      refid = c.put_u32-3.ensures.fits;
      reference = c.put_u64.ensures.fits;
      origin = c.put_u64-2.ensures.fits;
      receive = c.put_u64-3.ensures.fits;
      transmit = c.put_u64-4.ensures.fits;
    })
