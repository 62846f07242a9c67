-- What the search leaves open of `spread::spread_by`.
use Rattle.std.proofs.Common.{◌≡◌, ◌+◌, ◌*◌, ℕ, subst, sym, arith, length, sum_by}
use Rattle.tick_units.specs.Units.{square}
use Rattle.cluster_core.proofs.SpreadLaws.{spread-is}
use Rattle.cluster_core.proofs.spread.spread_by.Goals as goal

-- what is taken away, and what is left, are the whole
whole : (c : goal.After-abs_diff-apart) → sum_by (λ y. square y.offset c.args.x.now.offset) c.args.all.now + 2 * (c.abs_diff-apart.result * c.args.sums.now.sum) ≡ length c.args.all.now * (c.abs_diff-apart.result * c.abs_diff-apart.result) + c.args.sums.now.squares
whole c =
    let away = sym c.abs_diff-apart.ensures in
    subst (λ (n : ℕ). sum_by (λ y. square y.offset c.args.x.now.offset) c.args.all.now + 2 * (n * c.args.sums.now.sum) ≡ length c.args.all.now * (n * n) + c.args.sums.now.squares) away
    (spread-is c.args.sums.now c.args.all.now c.args.x.now c.requires.kept c.requires.member)

pub overflow_sub-result : goal.overflow_sub-result
overflow_sub-result c = omega (arith, whole c)

pub returns : goal.returns
returns c = omega (arith, whole c)
