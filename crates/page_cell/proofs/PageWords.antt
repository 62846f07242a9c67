-- Which page was read: ten words are those of one page.
use Rattle.std.proofs.Common.{◌≡◌, ℕ, ◌/◌, ◌^◌, ◌<◌, ◌≤◌, List, slice_index, take, refl, sym, ap, ◌∙◌, arith}
use native.Mathlib.Decide.{dec_le}
use Rattle.clock_page.specs.Page.{AreWords, IsPage, PageFields, word_of, words}
use Rattle.clock_page.proofs.PageLaws.{rate-is, spelled, synced-page, unsynced-page}
use Rattle.journal_entry.specs.declared.entry.Entry.{Entry}
use Rattle.page_cell.specs.Claims.{IsReading, page_at}
use Rattle.system_fold.specs.Page.{page_of}
use Rattle.system_fold.specs.Settings.{SettingsFields}

ninth : (w : List ℕ) (p : PageFields) → AreWords w p → slice_index w 9 ≡ word_of p.rate
unfolding words
ninth w p h = ap (λ (l : List ℕ). slice_index l 9) h.words

pub same-page : (w : List ℕ) (p q : PageFields) → AreWords w p → AreWords w q → p ≡ q
same-page w p q h g = by_state (dec_le 256 (slice_index w 1 / 2 ^ 32))
  where
    rate : p.rate ≡ q.rate
    rate = sym (rate-is w p q.rate h g.page.sound.rate (ninth w q g))

    by_state : Dec (256 ≤ slice_index w 1 / 2 ^ 32) → p ≡ q
    by_state (yes many) = synced-page w p h many ∙ ap (spelled w) rate ∙ sym (synced-page w q g many)
    by_state (no few) =
        let less : slice_index w 1 / 2 ^ 32 < 256 = omega arith in
        unsynced-page w p h less ∙ sym (unsynced-page w q g less)

-- the page that a reading has is the page of this many entries
pub reading-page : (s : SettingsFields) (log : List Entry) (n : ℕ) (p : PageFields) → IsReading s log (n, words p) → IsPage p → p ≡ page_of s (take n log)
unfolding page_at
reading-page s log n p h page = same-page (words p) p (page_at s log n) (record { page = page; words = refl }) h.page
