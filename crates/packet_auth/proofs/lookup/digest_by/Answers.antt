use Rattle.std.proofs.Common.{◌≡◌, ◌∙◌, true, false, ap, sym, is_some, List, ℕ, arith, if◌then◌else◌}
use Rattle.packet_auth.specs.Digests.{digest}
use Rattle.packet_auth.proofs.KeyLaws.{one-found, secret-found}
use Rattle.packet_auth.proofs.lookup.digest_by.Goals as goal

pub unreachable-requires : goal.unreachable-requires
unreachable-requires c =
    let none : false ≡ true = ap is_some c.in-None.ensures ∙ one-found c.args.keys.now c.args.id c.requires in
    let apart : ◌≡◌ {A = ℕ} 0 1 = ap (λ b. if b then 1 else 0) none in
    omega (arith, apart)

pub returns-clause-digest : goal.returns-clause-digest
returns-clause-digest c = c.digest.ensures.digest ∙ ap (λ (secret : List ℕ). digest secret c.args.header.now) (sym (secret-found c.args.keys.now c.args.id c.in-Some.key.now (sym c.in-Some.ensures)))
