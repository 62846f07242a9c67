-- A file that is within the limit, reports its bytes and does not fail is read whole.
use Rattle.std.proofs.Common.{◌≡◌, ◌≤◌, ℕ, Option, Some, List, [], ◌++◌, length, refl, ap, sym, ◌∙◌, subst, arith}
use Rattle.std.proofs.lemmas.List.{append-nil, length-append}
use Rattle.outside_traits.specs.Faults.{Rose}
use Rattle.outside_traits.specs.States.{SourceState, Takes, NoneLeft}
use Rattle.outside_traits.proofs.FaultLaws.{Rose-one}
use Rattle.file_reader.specs.Ends.{EndsReading}
use Rattle.file_reader.specs.declared.reader.FileEnd.{FileEnd}
use Rattle.file_reader.specs.declared.reader.FileEnd.TheVariants.{Whole, Fault, TooLong}

-- what was taken is the beginning of what was reported
pub taken_prefix : (before now : Option (List ℕ)) (bytes text left : List ℕ) → Takes before now bytes → before ≡ Some text → now ≡ Some left → text ≡ bytes ++ left
taken_prefix before now bytes text left taken were are =
    subst (λ b. Takes b (Some left) bytes) were (subst (λ n. Takes before n bytes) are taken)

pub whole_file : (end : FileEnd) (limit : ℕ) (file file_now : SourceState) (bytes text left : List ℕ) → EndsReading end limit file file_now bytes →
    file.left ≡ Some text → file_now.left ≡ Some left → (Rose file.faults file_now.faults → ⊥) → length text ≤ limit → (end ≡ Whole) × (bytes ≡ text)
whole_file Whole limit file file_now bytes text left ends were are no_fault fits =
    let prefix = taken_prefix file.left file_now.left (bytes ++ ends.extra) text left ends.taken were are in
    let none : left ≡ [] = subst NoneLeft are ends.cause.1 in
    (refl, sym (prefix ∙ ap (λ l. (bytes ++ ends.extra) ++ l) none ∙ append-nil (bytes ++ ends.extra) ∙ ap (λ l. bytes ++ l) ends.cause.0 ∙ append-nil bytes))
whole_file Fault limit file file_now bytes text left ends were are no_fault fits =
    absurd (no_fault (Rose-one file.faults file_now.faults ends.cause.1))
whole_file TooLong limit file file_now bytes text left ends were are no_fault fits =
    let prefix = taken_prefix file.left file_now.left (bytes ++ ends.extra) text left ends.taken were are in
    let size = ap (λ (l : List ℕ). length l) prefix in
    let parts = length-append (bytes ++ ends.extra) left in
    let most = length-append bytes ends.extra in
    absurd (omega (arith, size, parts, most, fits, ends.cause.0, ends.cause.1))
