-- What the search leaves open of `times::grown_long`.
use Rattle.std.proofs.Common.{◌≡◌, ◌+ℤ◌, ◌*ℤ◌, ◌/◌, ◌%◌, ◌^◌, pos, ◌∙◌, ap, sym, arith, to_z, of_z}
use Rattle.std.specs.Int.{w32, w64}
use Rattle.std.proofs.lemmas.Int.{ints}
use Rattle.tick_units.specs.Units.{floor_div}
use Rattle.clock_page.proofs.SlewLaws.{grown-parts}
use Rattle.clock_page.proofs.times.grown_long.Goals as goal

pub returns-clause-value : goal.returns-clause-value
returns-clause-value c =
    let rate : to_z w32 (of_z w32 c.args.rate) ≡ c.args.rate = omega (arith, ints) in
    let seconds : c.times-seconds.result ≡ c.args.rate *ℤ pos (c.args.passed / 10 ^ 6) = c.times-seconds.ensures.value ∙ ap (λ z. z *ℤ pos (c.args.passed / 10 ^ 6)) rate in
    let product : c.times.result ≡ c.args.rate *ℤ pos (c.args.passed % 10 ^ 6) = c.times.ensures.value ∙ ap (λ z. z *ℤ pos (c.args.passed % 10 ^ 6)) rate in
    let small = c.times.ensures.small in
    let same : to_z w64 (of_z w64 c.times.result) ≡ c.times.result = omega (arith, ints) in
    let rest : c.millionths.result ≡ floor_div (c.args.rate *ℤ pos (c.args.passed % 10 ^ 6)) (10 ^ 6) = c.millionths.ensures.value ∙ ap (λ z. floor_div z (10 ^ 6)) (same ∙ product) in
    let first_small = c.times-seconds.ensures.small in
    let rest_small = c.millionths.ensures.small in
    let sum : to_z w64 (of_z w64 (to_z w64 (of_z w64 c.times-seconds.result) +ℤ to_z w64 (of_z w64 c.millionths.result))) ≡ c.times-seconds.result +ℤ c.millionths.result = omega (arith, ints) in
    sum ∙ (λ i. seconds i +ℤ rest i) ∙ sym (grown-parts c.args.rate c.args.passed)
