-- What the search leaves open of `read::read_fields`.
use Rattle.std.proofs.Common.{◌≡◌, ◌∷◌, Some, decimal}
use Rattle.journal_entry.specs.Texts.{what_fields}
use Rattle.journal_entry.proofs.read.read_fields.Goals as goal

pub returns-in_err-at : goal.returns-in_err-at
returns-in_err-at c = λ e ok h.
    let feed = c.next_u32-feed.ensures e.feed (decimal e.at ∷ what_fields e.what) ok.feed h in
    let at = c.next_moment.ensures e.at (what_fields e.what) ok.at feed.1 in
    let none = c.in_err-at.was in
    cc

pub returns-in_err-what : goal.returns-in_err-what
returns-in_err-what c = λ e ok h.
    let feed = c.next_u32-feed.ensures e.feed (decimal e.at ∷ what_fields e.what) ok.feed h in
    let at = c.next_moment.ensures e.at (what_fields e.what) ok.at feed.1 in
    let what = c.read_what.ensures e.what ok.what at.1 in
    let none = c.in_err-what.was in
    cc

pub returns : goal.returns
returns c = λ e ok h.
    let feed = c.next_u32-feed.ensures e.feed (decimal e.at ∷ what_fields e.what) ok.feed h in
    let at = c.next_moment.ensures e.at (what_fields e.what) ok.at feed.1 in
    let what = c.read_what.ensures e.what ok.what at.1 in
    let at_is : c.in_ok-at.at ≡ e.at = cc (at.0, c.in_ok-at.was) in
    let what_is : c.in_ok-what.what ≡ e.what = cc (what, c.in_ok-what.was) in
    λ i. Some (record { feed = feed.0 i; at = at_is i; what = what_is i })
