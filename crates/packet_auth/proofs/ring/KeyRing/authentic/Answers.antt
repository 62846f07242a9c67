use Rattle.std.proofs.Common.{rules, ◌≡◌, ◌==◌, ◌&&◌, ◌∙◌, true, length, ap, bytes_eq, subst, sym, map}
use Rattle.std.specs.List.{list_any}
use Rattle.packet_auth.specs.Digests.{authentic, digest}
use Rattle.packet_auth.specs.Keys.{has_id, key_fields, keys_of}
use Rattle.std.specs.Prelude.{IfSome}
use Rattle.packet_auth.proofs.KeyLaws.{IsParted, authentic-by, authentic-known}
use Rattle.packet_auth.proofs.ring.KeyRing.authentic.Goals as goal

pub returns-clause-value : goal.returns-clause-value
returns-clause-value c =
    let long : length c.args.datagram.now ≡ 68 = search rules in
    let parted : IsParted c.args.datagram.now c.split_at.result.0.now c.split_at-2.result.0.now c.split_at-2.result.1.now = record { long = long; header = c.split_at.ensures.front; name = rw c.split_at.ensures.back at c.split_at-2.ensures.front; claimed = rw c.split_at.ensures.back at c.split_at-2.ensures.back } in
    let reported : c.vouches.result ≡ list_any (λ key. (key_fields key).id == c.read_u32-id.result && bytes_eq (digest (key_fields key).secret c.split_at.result.0.now) c.split_at-2.result.1.now) c.keys.result.now = c.vouches.ensures.found in
    c.then_some.ensures ∙ sym (ap (λ keys. authentic (map key_fields keys) c.args.datagram.now) (sym c.keys.ensures) ∙ authentic-by c.keys.result.now c.args.datagram.now _ _ _ c.read_u32-id.result c.vouches.result parted c.read_u32-id.ensures reported)

pub returns-clause-known : goal.returns-clause-known
returns-clause-known c = subst (λ o. IfSome o (λ id. has_id id (keys_of c.args.self.now) ≡ true)) (sym (returns-clause-value c)) (authentic-known (keys_of c.args.self.now) c.args.datagram.now)
