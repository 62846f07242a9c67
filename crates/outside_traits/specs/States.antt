-- What a source has left, what a sink holds and the events of a link, where they report it, and how often they have failed. What
-- an object reports after a call it reported before the call too. The rules of the calls are those of Rust's `Read` and `Write`.
use Rattle.std.specs.Prelude.{◌≡◌, ℕ, ◌<◌, Option, None, Some, List, [], ◌++◌, length, take, Result, MatchResult}
use Rattle.outside_traits.specs.declared.outside.Address.{Address}

-- a source at one moment: the bytes that are left, where they are known, and its count of faults
pub record SourceState : Type 0 where
  pub left : Option (List ℕ)
  pub faults : ℕ

-- a sink at one moment: the bytes that it holds, where they are known, and its count of faults
pub record SinkState : Type 0 where
  pub held : Option (List ℕ)
  pub faults : ℕ

-- an event of a link. A datagram came, with its sender, its moment and its bytes. Nothing came for a while, or nothing will come
-- any more. The link gave a moment. A datagram went out, with its receiver and its bytes. Moments are in microseconds.
pub data NetEvent : Type 0 where
  Came : Address → ℕ → List ℕ → NetEvent
  Silent : NetEvent
  Ended : NetEvent
  Timed : ℕ → NetEvent
  Went : Address → List ℕ → NetEvent

-- a link at one moment: its events so far, where they are known, the last moment or arrival, and its count of faults. No later
-- moment lies below the last one.
pub record LinkState : Type 0 where
  pub events : Option (List NetEvent)
  pub latest : ℕ
  pub faults : ℕ

-- the bytes left were these bytes and those left now
abbrev pub Takes : Option (List ℕ) → Option (List ℕ) → List ℕ → Type 0
Takes before None bytes = Unit {0}
Takes None (Some now) bytes = ⊥
Takes (Some before) (Some now) bytes = before ≡ bytes ++ now

-- the list now is the list before with these at its end
abbrev pub Adds : {T : Type 0} → Option (List T) → Option (List T) → List T → Type 0
Adds before None more = Unit {0}
Adds None (Some now) more = ⊥
Adds (Some before) (Some now) more = now ≡ before ++ more

-- no byte is left
abbrev pub NoneLeft : Option (List ℕ) → Type 0
NoneLeft None = Unit {0}
NoneLeft (Some left) = left ≡ []

-- a read took the next bytes and put them at the beginning of the piece. It took none only at the end, or where it failed.
abbrev pub Reads : {E : Type 0} → SourceState → SourceState → Result ℕ E → List ℕ → Type 0
Reads before now result piece = MatchResult result
    (λ n. Takes before.left now.left (take n piece) × (n ≡ 0 → 0 < length piece → NoneLeft now.left))
    (λ _. Takes before.left now.left [])

-- a write added the first bytes of the piece, or none where it failed
abbrev pub Writes : {E : Type 0} → SinkState → SinkState → Result ℕ E → List ℕ → Type 0
Writes before now result piece = MatchResult result (λ n. Adds before.held now.held (take n piece)) (λ _. Adds before.held now.held [])
