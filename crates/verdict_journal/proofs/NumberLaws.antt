-- The lines of a journal.
use Rattle.std.proofs.Common.{◌≡◌, ℕ, suc, ◌+◌, ◌<◌, List, [], ◌∷◌, ◌++◌, length, map, refl, sym, ap, ◌∙◌, arith, length-append}
use Rattle.std.specs.Prelude.{slice_get}
use Rattle.std.specs.List.{enumerate_from}
use Rattle.std.specs.Option.{option_map}
use Rattle.std.proofs.lemmas.List.{map-append}
use Rattle.std.proofs.lemmas.Option.{slice_get-map}
use Rattle.journal_entry.specs.declared.entry.Entry.{Entry}
use Rattle.journal_entry.specs.declared.numbered.Numbered.{Numbered}
use Rattle.page_cell.proofs.Places.{page_at-longer, page_at-whole}
use Rattle.page_cell.specs.Claims.{page_at}
use Rattle.system_fold.proofs.FitLaws.{enumerate-append}
use Rattle.system_fold.specs.Page.{page_of}
use Rattle.system_fold.specs.Settings.{SettingsFields}
use Rattle.verdict_journal.specs.Journals.{numbered_of}

abbrev line : SettingsFields → List Entry → ℕ × Entry → Numbered
line s journal k = record { length = k.0 + 1; rate = (page_at s journal (k.0 + 1)).rate; entry = k.1 }

-- two ways to number that agree up to the end
enumerated-as : {X Y : Type 0} (f g : ℕ × X → Y) (a : ℕ) (xs : List X) → ((k : ℕ) (x : X) → k < a + length xs → f (k, x) ≡ g (k, x)) → map f (enumerate_from a xs) ≡ map g (enumerate_from a xs)
enumerated-as f g a [] same = refl
enumerated-as {X} {Y} f g a (x ∷ xs) same = λ i. same a x (omega arith) i ∷ enumerated-as f g (a + 1) xs (λ k y lt. same k y (omega arith)) i

-- one entry more is one line more
pub numbered-push : (s : SettingsFields) (journal : List Entry) (e : Entry) → numbered_of s (journal ++ e ∷ []) ≡ numbered_of s journal ++ record { length = length journal + 1; rate = (page_of s (journal ++ e ∷ [])).rate; entry = e } ∷ []
numbered-push s journal e =
    let all = journal ++ e ∷ [] in
    let n : ℕ = length journal in
    let longer : (k : ℕ) (x : Entry) → k < 0 + n → line s all (k, x) ≡ line s journal (k, x) = λ k x lt i. record { length = k + 1; rate = (page_at-longer s journal (e ∷ []) (k + 1) (omega arith) i).rate; entry = x } in
    let whole : page_at s all (n + 1) ≡ page_of s all = ap (page_at s all) (omega (arith, length-append journal (e ∷ []))) ∙ page_at-whole s all in
    let from : 0 + n ≡ n = omega arith in
    ap (map (line s all)) (enumerate-append 0 journal (e ∷ []) ∙ (λ i. enumerate_from 0 journal ++ enumerate_from (from i) (e ∷ [])))
    ∙ map-append (line s all) (enumerate_from 0 journal) (enumerate_from n (e ∷ []))
    ∙ (λ i. enumerated-as (line s all) (line s journal) 0 journal longer i ++ record { length = n + 1; rate = (whole i).rate; entry = e } ∷ [])

pub numbered-length : (s : SettingsFields) (journal : List Entry) → length (numbered_of s journal) ≡ length journal
numbered-length s journal = enumerated-length (line s journal) 0 journal
  where
    enumerated-length : {X Y : Type 0} (f : ℕ × X → Y) (a : ℕ) (xs : List X) → length (map f (enumerate_from a xs)) ≡ length xs
    enumerated-length f a [] = refl
    enumerated-length f a (x ∷ xs) = ap (λ (n : ℕ). suc n) (enumerated-length f (a + 1) xs)

-- a line has the entry of its place
pub numbered-entry : (s : SettingsFields) (journal : List Entry) (i : ℕ) → slice_get journal i ≡ option_map (λ (n : Numbered). n.entry) (slice_get (numbered_of s journal) i)
numbered-entry s journal i = ap (λ (es : List Entry). slice_get es i) (sym (entries 0 journal)) ∙ slice_get-map (λ (n : Numbered). n.entry) (numbered_of s journal) i
  where
    entries : (a : ℕ) (xs : List Entry) → map (λ (n : Numbered). n.entry) (map (line s journal) (enumerate_from a xs)) ≡ xs
    entries a [] = refl
    entries a (x ∷ xs) = ap (λ (ys : List Entry). x ∷ ys) (entries (a + 1) xs)
