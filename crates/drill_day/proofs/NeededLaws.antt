-- Where a leap second is named, the order of the feeds counts: a Notice is computed from the last Verdict of any feed.
use Rattle.std.proofs.Common.{◌≡◌, ◌≢◌, ℕ, ◌==◌, Bool, true, false, List, [], ◌∷◌, if◌then◌else◌, refl, ap, arith}
use Rattle.std.specs.Prelude.{Option, None, Some}
use Rattle.std.proofs.lemmas.Bool.Decides.{nat_tests}
use Rattle.tick_units.specs.declared.verdicts.Kind.TheVariants.{Verdict}
use Rattle.journal_entry.specs.declared.entry.Entry.{Entry}
use Rattle.journal_entry.specs.declared.entry.What.TheVariants.{Heard, Notice}
use Rattle.drill_day.specs.Orders.{KeepsFeeds}
use Rattle.page_cell.specs.Claims.{of_feed}
use Rattle.system_fold.specs.Leaps.{armed_of}
use Rattle.system_fold.specs.declared.leaps.Leap.{Leap}

-- two entries of two feeds may stand in either order
pub keeps-swap : (d e : Entry) (journal : List Entry) → d.feed ≢ e.feed → KeepsFeeds (d ∷ e ∷ journal) (e ∷ d ∷ journal)
keeps-swap d e journal apart feed = by_tests (d.feed == feed) (e.feed == feed) refl refl
  where
    by_tests : (one two : Bool) → (d.feed == feed) ≡ one → (e.feed == feed) ≡ two
        → (if one then d ∷ (if two then e ∷ of_feed feed journal else of_feed feed journal) else (if two then e ∷ of_feed feed journal else of_feed feed journal))
        ≡ (if two then e ∷ (if one then d ∷ of_feed feed journal else of_feed feed journal) else (if one then d ∷ of_feed feed journal else of_feed feed journal))
    by_tests true true here there = absurd (apart (grind (arith, nat_tests)))
    by_tests true false here there = refl
    by_tests false true here there = refl
    by_tests false false here there = refl

-- the minute before a leap second, as two radios gave it one microsecond apart, and the Notice of a leap second file
abbrev early : Entry
early = record { feed = 1; at = 100000000; what = Heard (Verdict 3692217540 0) }

abbrev late : Entry
late = record { feed = 2; at = 100000001; what = Heard (Verdict 3692217540 0) }

abbrev notice : Entry
notice = record { feed = 0; at = 50000000; what = Notice 3692217600 }

abbrev moment_or : ℕ → Option Leap → ℕ
moment_or other None = other
moment_or other (Some leap) = leap.moment

-- the two orders arm it at two moments
pub order-counts : (a : List Entry) × (b : List Entry) × KeepsFeeds a b × (armed_of a ≢ armed_of b)
order-counts = (early ∷ late ∷ notice ∷ [], late ∷ early ∷ notice ∷ [], keeps-swap early late (notice ∷ []) (λ same. one_two same), λ same. moments (ap (moment_or 0) same))
  where
    one_two : ◌≡◌ {A = ℕ} 1 2 → ⊥
    one_two same = omega (arith, same)

    moments : ◌≡◌ {A = ℕ} 160000001 160000000 → ⊥
    moments same = omega (arith, same)
