-- What the search leaves open of `fields::Fields::next`.
use Rattle.std.proofs.Common.{ℕ, List, sym, subst, ◌∙◌, ◌∷◌}
use Rattle.journal_entry.specs.Reading.{HasFields}
use Rattle.journal_entry.proofs.FieldLaws.{ends_at, ends_last}
use Rattle.journal_entry.proofs.fields.Fields.next.Goals as goal

pub returns-in-Some : goal.returns-in-Some
returns-in-Some c = λ field fields none h.
    ends_at c.self.inside.rest.now field fields c.in-Some.place none (subst (λ (t : List ℕ). HasFields t (field ∷ fields)) (sym c.self.view_is) h) (sym c.first_space.ensures ∙ c.in-Some.is)

pub returns-in-None : goal.returns-in-None
returns-in-None c = λ field fields none h.
    ends_last c.self.inside.rest.now field fields none (subst (λ (t : List ℕ). HasFields t (field ∷ fields)) (sym c.self.view_is) h) (sym c.first_space.ensures ∙ c.in-None.is)
