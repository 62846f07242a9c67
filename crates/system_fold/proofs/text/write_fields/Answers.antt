-- What the search leaves open of `text::write_fields`.
use Rattle.std.proofs.Common.{◌≡◌, ◌≤◌, ◌∷◌, ℕ, ℤ, arith, to_z, of_z, decimal, length, subst, sym}
use Rattle.std.specs.Fmt.{signed_decimal}
use Rattle.std.specs.Int.{w32}
use Rattle.std.proofs.lemmas.Int.{ints}
use Rattle.clock_page.specs.Page.{PageFields}
use Rattle.journal_entry.specs.Writing.{Adds, AddsFields}
use Rattle.journal_entry.proofs.WritingLaws.{adds_last, adds_then}
use Rattle.system_fold.specs.PageText.{page_fields}
use Rattle.system_fold.proofs.LengthLaws.{bit_length, offset_length}
use Rattle.system_fold.proofs.text.write_fields.Goals as goal

pub returns-clause-text : goal.returns-clause-text
returns-clause-text c =
    let bit = subst (λ (n : ℕ). Adds c.number.new.self c.number-2.new.self (32 ∷ decimal n)) c.from.ensures c.number-2.ensures.text in
    let same : to_z w32 (of_z w32 c.p.inside.rate) ≡ c.p.inside.rate = let least = c.p.invariant.rate.least in let most = c.p.invariant.rate.most in omega (arith, ints) in
    let rate = subst (λ (z : ℤ). Adds c.number-7.new.self c.rate.new.self (32 ∷ signed_decimal z)) same c.rate.ensures.text in
    let later = adds_then c.number-4.ensures.text (adds_then c.number-5.ensures.text (adds_then c.number-6.ensures.text (adds_then c.stamp.ensures.text (adds_then c.number-7.ensures.text (adds_last rate))))) in
    subst (λ (p : PageFields). AddsFields c.args.text.now c.rate.new.self (page_fields p)) c.p.view_is
    (adds_then c.number.ensures.text (adds_then bit (adds_then c.number-3.ensures.text (adds_then c.address.ensures.text (adds_then c.span.ensures.text (adds_then c.moment.ensures.text later))))))

pub returns-clause-short : goal.returns-clause-short
returns-clause-short c =
    let bit : length (decimal c.from.result) ≤ 1 = subst (λ (n : ℕ). length (decimal n) ≤ 1) (sym c.from.ensures) (bit_length c.p.inside.sync) in
    let bit_grown = c.number-2.ensures.text.length in
    let offset = offset_length c.p.inside.offset c.p.invariant.offset c.span.ensures.small in
    let offset_grown = c.span.ensures.text.length in
    omega arith
