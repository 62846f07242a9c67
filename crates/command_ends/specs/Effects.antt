-- The effect of a command: what the outside and the output reported before it and after it, and its status. All of it is this
-- project's own.
use Rattle.std.specs.Prelude.{List, ℕ}
use Rattle.outside_traits.specs.States.{SinkState}
use Rattle.outside_traits.specs.Openings.{OutsideState}
use Rattle.command_ends.specs.Writing.{Answers}
use Rattle.command_ends.specs.declared.ending.status.Status.{Status}

-- what the outside and the sink reported before a command and after it, and its status
pub record Effect : Type 0 where
  pub outside : OutsideState
  pub outside_now : OutsideState
  pub out : SinkState
  pub out_now : SinkState
  pub status : Status

abbrev pub effect_of : OutsideState → OutsideState → SinkState → SinkState → Status → Effect
effect_of outside outside_now out out_now status = record { outside = outside; outside_now = outside_now; out = out; out_now = out_now; status = status }

-- the command wrote this text and ended with this status; or a write failed, and that is its status
abbrev pub EndsWith : Effect → Status → List ℕ → Type 0
EndsWith effect status text = Answers status effect.status effect.out effect.out_now text
