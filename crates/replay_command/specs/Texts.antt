-- The text that a script's lines write. The form is this project's own.
use Rattle.std.specs.Prelude.{ℕ, Bool, true, false, List, [], ◌∷◌, ◌++◌, codes}
use Rattle.hex.specs.Hex.{encode_lower}
use Rattle.journal_entry.specs.Numbers.{numbered_text}
use Rattle.reply_core.specs.declared.dropped.Dropped.{Dropped as WhyDropped}
use Rattle.reply_core.specs.declared.dropped.Dropped.TheVariants.{Short, Version, Mode}
use Rattle.station_values.specs.Station.{StationFields}
use Rattle.replay_command.specs.Replay.{Played, each_after, outcome}
use Rattle.replay_command.specs.declared.outcome.Outcome.{Outcome}
use Rattle.replay_command.specs.declared.outcome.Outcome.TheVariants.{Nothing, Kept, Asked, Replied, Dropped}

abbrev pub dropped_text : WhyDropped → List ℕ
dropped_text Short = codes "drop short"
dropped_text Version = codes "drop version"
dropped_text Mode = codes "drop mode"

-- the end of a reply's line, with a line of its own after it where the client was not kept
abbrev pub reply_end : Bool → List ℕ
reply_end true = 10 ∷ []
reply_end false = 10 ∷ codes "unkept" ++ 10 ∷ []

-- a line with its line feed, and nothing where the line gives nothing
abbrev pub outcome_text : Outcome → List ℕ
outcome_text Nothing = []
outcome_text (Kept n) = numbered_text n ++ 10 ∷ []
outcome_text (Asked bytes) = codes "asked " ++ encode_lower bytes ++ 10 ∷ []
outcome_text (Replied bytes was_kept) = codes "reply " ++ encode_lower bytes ++ reply_end was_kept
outcome_text (Dropped why) = dropped_text why ++ 10 ∷ []

-- what all lines of a script write, one after the other
abbrev pub replay_text : StationFields → ℕ → List Played → List ℕ
replay_text station limit played = each_after (λ before p. outcome_text (outcome station limit before p)) [] played
