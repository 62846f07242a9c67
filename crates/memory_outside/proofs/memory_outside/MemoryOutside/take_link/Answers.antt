-- What the search leaves open of `memory_outside::MemoryOutside::take_link`.
use Rattle.std.proofs.Common.{rules, ◌≡◌, ◌∙◌, Option, Some, None, refl, ap}
use Rattle.std.specs.Prelude.{slice_get, unwrap_or}
use Rattle.memory_outside.specs.declared.memory_link.MemoryLink.{MemoryLink}
use Rattle.memory_outside.proofs.PlaceLaws.{set_same}
use Rattle.memory_outside.proofs.memory_outside.MemoryOutside.take_link.Goals as goal

pub returns-in-None-clause-taken : goal.returns-in-None-clause-taken
returns-in-None-clause-taken g c =
    let none : Option MemoryLink = None in
    let there : slice_get c.args.self.now.links.items c.args.self.now.next ≡ Some none = search rules in
    record {
      none = ap (λ (o : Option (Option MemoryLink)). unwrap_or o none) there;
      others = c.take_at.ensures.taken ∙ set_same c.args.self.now.links.items c.args.self.now.next none there;
      next_is = refl;
    }
