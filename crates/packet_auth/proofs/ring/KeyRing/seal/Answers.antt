use Rattle.std.proofs.Common.{◌≡◌, ◌++◌, ◌∙◌, List, ℕ, [], length, take, drop, sym, ap, arith, length-drop, append-nil}
use borrow.Rule.Slice.PartMut.{post_of}
use Rattle.std.proofs.Math.Seq.{take-append_seam}
use Rattle.std.proofs.lemmas.List.{drop_all}
use Rattle.byteorder.specs.Endian.{big_bytes}
use Rattle.packet_auth.specs.Digests.{authentic, digest, sealed}
use Rattle.packet_auth.specs.Keys.{keys_of, secret_of}
use Rattle.packet_auth.proofs.KeyLaws.{has_id-kept}
use Rattle.packet_auth.proofs.SealLaws.{sealed-reads_back}
use Rattle.packet_auth.proofs.ring.KeyRing.seal.Goals as goal

pub digest_by-digest-requires : goal.digest_by-digest-requires
digest_by-digest-requires c = rw c.keys.ensures (sym (has_id-kept (take c.args.self.now.count c.args.self.now.keys) c.args.id) ∙ c.requires)

-- what was written, piece by piece
spelled : (c : goal.After-copy_from_slice-2) → take 52 c.put_id.new.out ++ (c.copy_from_slice-2.new.self ++ post_of 52 16 c.put_id.new.out) ≡ sealed (keys_of c.args.self.now) c.args.id c.args.header.now
spelled c =
    let header = c.args.header.now in
    let made = digest (secret_of c.args.id (keys_of c.args.self.now)) header in
    let long : length header ≡ 48 = omega (arith) in
    let first : take 48 (c.copy_from_slice.new.self ++ drop 48 c.args.out.now) ≡ header = rw c.copy_from_slice.ensures.after (rw long at (take-append_seam header (drop 48 c.args.out.now))) in
    let prefix : take 52 c.put_id.new.out ≡ header ++ big_bytes 4 c.args.id = c.put_id.ensures.piece ∙ ap (λ (xs : List ℕ). xs ++ big_bytes 4 c.args.id) first in
    let last : post_of 52 16 c.put_id.new.out ≡ [] = drop_all 16 (drop 52 c.put_id.new.out) (omega (arith, c.put_id.array_long, length-drop 52 c.put_id.new.out)) in
    let digested : c.copy_from_slice-2.new.self ≡ made = c.copy_from_slice-2.ensures.after ∙ rw c.keys.ensures at c.digest_by-digest.ensures.digest in
    let later : c.copy_from_slice-2.new.self ++ post_of 52 16 c.put_id.new.out ≡ made = ap (λ (xs : List ℕ). c.copy_from_slice-2.new.self ++ xs) last ∙ append-nil _ ∙ digested in
    ap (λ (xs : List ℕ). xs ++ (c.copy_from_slice-2.new.self ++ post_of 52 16 c.put_id.new.out)) prefix ∙ ap (λ (xs : List ℕ). (header ++ big_bytes 4 c.args.id) ++ xs) later

pub returns-clause-bytes : goal.returns-clause-bytes
returns-clause-bytes c = spelled c

pub returns-clause-reads_back : goal.returns-clause-reads_back
returns-clause-reads_back c =
    let long : length c.args.header.now ≡ 48 = omega (arith) in
    ap (authentic (keys_of c.args.self.now)) (spelled c) ∙ sealed-reads_back (keys_of c.args.self.now) c.args.id c.args.header.now long c.put_id.ensures.fits c.requires
