-- A text written after another, and what is said of an error.
use Rattle.std.proofs.Common.{ℕ, List, ◌++◌, ap, sym, ◌∙◌, subst, append_assoc, refl}
use Rattle.std.specs.Prelude.{Result, Ok, Err, OnErr}
use Rattle.outside_traits.specs.Faults.{RoseByOne}
use Rattle.outside_traits.specs.States.{SinkState}
use Rattle.outside_traits.proofs.StateLaws.{Adds-more}
use Rattle.outside_traits.specs.Writing.{IsPrefixOf, WritesAll, WritesPrefix}

-- a text, and then another
pub writes_more : (a b c : SinkState) (x y : List ℕ) → WritesAll a b x → WritesAll b c y → WritesAll a c (x ++ y)
writes_more a b c x y h k = (Adds-more a.held b.held c.held x y h.0 k.0, k.1 ∙ h.1)

-- a text, and then a beginning of another
pub writes_prefix : (a b c : SinkState) (x y : List ℕ) → WritesAll a b x → WritesPrefix b c y → WritesPrefix a c (x ++ y)
writes_prefix a b c x y h k = (
  x ++ k.0,
  (k.1.0, ap (λ (t : List ℕ). x ++ t) k.1.1 ∙ sym (append_assoc x k.0 k.1.0)),
  Adds-more a.held b.held c.held x k.0 h.0 k.2,
  subst (λ (n : ℕ). RoseByOne n c.faults) h.1 k.3,
)

-- a beginning of a text is one of a longer text
pub prefix_of_more : (a b : SinkState) (x y : List ℕ) → IsPrefixOf x y → WritesPrefix a b x → WritesPrefix a b y
prefix_of_more a b x y more h = (
  h.0,
  (h.1.0 ++ more.0, more.1 ∙ ap (λ (t : List ℕ). t ++ more.0) h.1.1 ∙ append_assoc h.0 h.1.0 more.0),
  h.2,
  h.3,
)

-- a write failed in the first of two texts
pub prefix_of_both : (a b : SinkState) (x y : List ℕ) → WritesPrefix a b x → WritesPrefix a b (x ++ y)
prefix_of_both a b x y h = prefix_of_more a b x (x ++ y) (y, refl) h

-- what holds in any case holds of an error
pub on_err : {T E P : Type 0} (r : Result T E) → P → OnErr r P
on_err (Ok value) p = tt
on_err (Err error) p = p

pub on_err_by : {T E P Q : Type 0} (r : Result T E) → (P → Q) → OnErr r P → OnErr r Q
on_err_by (Ok value) f h = tt
on_err_by (Err error) f h = f h
