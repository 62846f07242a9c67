-- The candidates that stand while sources come and go: one for each feed, in the order of the feeds.
use Rattle.std.specs.Prelude.{ℕ, not, ◌==◌, nat_lt, List, ◌∷◌, ◌++◌, filter}
use Rattle.select_core.specs.declared.chime.Candidate.{Candidate}

-- those of the other feeds
abbrev pub others : ℕ → List Candidate → List Candidate
others feed candidates = filter (λ c. not (c.feed == feed)) candidates

-- those of lesser feeds, and those of greater ones
abbrev pub before : ℕ → List Candidate → List Candidate
before feed candidates = filter (λ c. nat_lt c.feed feed) candidates

abbrev pub after : ℕ → List Candidate → List Candidate
after feed candidates = filter (λ c. nat_lt feed c.feed) candidates

-- a feed's new candidate stands between them
abbrev pub with_candidate : Candidate → List Candidate → List Candidate
with_candidate c candidates = before c.feed candidates ++ c ∷ after c.feed candidates
