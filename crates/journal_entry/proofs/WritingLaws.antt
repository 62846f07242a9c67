-- Pieces that are added one after the other.
use Rattle.std.proofs.Common.{◌≡◌, ℕ, ◌+◌, ◌-◌, ◌≤◌, List, [], ◌∷◌, ◌++◌, drop, drop-drop, ap, sym, subst, ◌∙◌, append_assoc, arith}
use Rattle.std.proofs.lemmas.List.{length-append, append-nil}
use Rattle.journal_entry.specs.Texts.{spaced}
use Rattle.journal_entry.specs.Writing.{text_in, Adds, AddsFields}
use Rattle.journal_entry.specs.declared.writer.TextWriter.{TextWriter}

-- what a list is past a place, it is past a later one
drop_later : (xs ys : List ℕ) (i j : ℕ) → i ≤ j → drop i xs ≡ drop i ys → drop j xs ≡ drop j ys
drop_later xs ys i j within e =
    let there : i + (j - i) ≡ j = omega arith in
    ap (λ k. drop k xs) (sym there) ∙ sym (drop-drop (j - i) i xs) ∙ ap (drop (j - i)) e ∙ drop-drop (j - i) i ys ∙ ap (λ k. drop k ys) there

pub adds_both : (a b c : TextWriter) (first second : List ℕ) → Adds a b first → Adds b c second → Adds a c (first ++ second)
adds_both a b c first second h k = record {
  room = k.room ∙ h.room;
  length = (let one = h.length in let two = k.length in omega (arith, length-append first second));
  text = k.text ∙ ap (λ (t : List ℕ). t ++ second) h.text ∙ append_assoc (text_in a) first second;
  rest = (let one = h.length in let two = k.length in k.rest ∙ drop_later b.out.now a.out.now b.length c.length (omega arith) h.rest);
}

-- a last field
pub adds_last : {a b : TextWriter} {field : List ℕ} → Adds a b (32 ∷ field) → AddsFields a b (field ∷ [])
adds_last {a} {b} {field} h = record { adds = subst (λ (t : List ℕ). Adds a b (32 ∷ t)) (sym (append-nil field)) h }

-- a field that others follow
pub adds_then : {a b c : TextWriter} {field : List ℕ} {fields : List (List ℕ)} → Adds a b (32 ∷ field) → AddsFields b c fields → AddsFields a c (field ∷ fields)
adds_then {a} {b} {c} {field} {fields} h k = record { adds = adds_both a b c (32 ∷ field) (spaced fields) h k.adds }
