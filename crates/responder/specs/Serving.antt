-- What a call of `serve` does, by its turns, and why it ends. All of it is this project's own.
use Rattle.std.specs.Prelude.{◌≡◌, ℕ, ◌+◌, ◌≤◌, ◌<◌, ◌⊎◌, List, [], ◌∷◌, ◌++◌, All, length, map}
use Rattle.std.specs.List.{flat_map, sum_by}
use Rattle.outside_traits.specs.Faults.{RoseByOne}
use Rattle.outside_traits.specs.States.{Adds}
use Rattle.kiss_gate.specs.declared.judged.Judged.{Judged}
use Rattle.responder.specs.Desks.{Desk}
use Rattle.responder.specs.Turns.{Turn, Request, Reading, events_of, readings_of, IsRead, AreTurns, GoesOn, answered_of, dropped_of, torn_of, kissed_of, unkept_of, Rises, kept}
use Rattle.responder.specs.Turns.Turn.{Last, Unsent}
use Rattle.responder.specs.declared.served.Served.{Served}
use Rattle.responder.specs.declared.served.End.{End}
use Rattle.responder.specs.declared.served.End.TheVariants.{Count, LinkEnd, LinkFault}

-- These turns were taken at a desk, whose keys stay, and whose gate of clients goes from turn to turn: the link's events are theirs, in
-- order, and the pass has their readings, in order, each of a page, whose lengths never fall. This many more of its calls answered Again
-- as turns left their datagram; where there was one, something was published beyond what the pass had seen.
pub record Took (before now : Desk) (turns : List Turn) : Type 0 where
  pub keys : now.keys ≡ before.keys
  pub events : Adds before.link.events now.link.events (flat_map events_of turns)
  pub valid : AreTurns before.keys before.gate turns now.gate
  pub readings : now.view.readings ≡ before.view.readings ++ map kept (flat_map readings_of turns)
  pub pages : All IsRead (flat_map readings_of turns)
  pub rising : Rises before.view.seen (flat_map readings_of turns) now.view.seen
  pub torn : now.view.watch.torn ≡ before.view.watch.torn + sum_by torn_of turns
  pub greatest : before.view.watch.greatest ≤ now.view.watch.greatest
  pub above : 0 < sum_by torn_of turns → before.view.seen < now.view.watch.greatest

-- the last of the turns that a fault of the link ended: a datagram that was not answered, where the sending failed; none, where the
-- hearing failed
abbrev pub IsFaulty : List Turn → Type 0
IsFaulty last = (last ≡ []) ⊎ ((request : Request) × (reading : Reading) × (judged : Judged) × (sent : ℕ) × (reply : List ℕ) × (last ≡ Unsent request reading judged sent reply ∷ []))

-- Count: as many hearings as were asked for. LinkEnd: the last turn is the link's end. LinkFault: one call of the link failed, the last
-- one. Before either of these there were fewer turns than hearings asked for, and after each of them another may come
abbrev pub EndsBy : ℕ → ℕ → ℕ → List Turn → End → Type 0
EndsBy budget faults faults_now turns Count = All GoesOn turns × (length turns ≡ budget) × (faults_now ≡ faults)
EndsBy budget faults faults_now turns LinkEnd = (prefix : List Turn) × (turns ≡ prefix ++ Last ∷ []) × All GoesOn prefix × (length prefix < budget) × (faults_now ≡ faults)
EndsBy budget faults faults_now turns LinkFault =
    (prefix : List Turn) × (last : List Turn) × (turns ≡ prefix ++ last) × All GoesOn prefix × IsFaulty last × (length prefix < budget) × RoseByOne faults faults_now

-- what a call of `serve` did
pub record Serves (before now : Desk) (budget : ℕ) (served : Served) : Type 0 where
  pub turns : List Turn
  pub took : Took before now turns
  pub most : length turns ≤ budget
  pub ends : EndsBy budget before.link.faults now.link.faults turns served.end
  pub answered : served.answered ≡ sum_by answered_of turns
  pub dropped : served.dropped ≡ sum_by dropped_of turns
  pub again : served.again ≡ sum_by torn_of turns
  pub kissed : served.kissed ≡ sum_by kissed_of turns
  pub unkept : served.unkept ≡ sum_by unkept_of turns
