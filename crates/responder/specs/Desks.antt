-- What decides a responder's answers: its keys, its gate of clients, its link and what its pass has seen. All of it is this project's
-- own.
use Rattle.std.specs.Prelude.{◌≡◌, ℕ, List}
use Rattle.outside_traits.specs.States.{LinkState}
use Rattle.kiss_gate.specs.Gates.{Gate}
use Rattle.packet_auth.specs.Keys.{KeyFields, keys_of}
use Rattle.page_cell.specs.declared.view.View.{View}
use Rattle.responder.specs.declared.state.Responder.{Responder}

-- what answers clients: the station's keys, the gate of clients, the link at one moment, and what the reader's pass knows
pub record Desk : Type 0 where
  pub keys : List KeyFields
  pub gate : Gate
  pub link : LinkState
  pub view : View

-- a responder's, by what its link reports
abbrev pub desk_of : {L : Type 0} → (L → LinkState) → Responder L → Desk
desk_of state r = record { keys = keys_of r.keys; gate = r.clients; link = state r.link; view = r.pass.view }

-- it is still the responder of its link's opening, its cell, its number and its keys
pub record IsSame {L : Type 0} (opening : L → ℕ) (before now : Responder L) : Type 0 where
  pub link : opening now.link ≡ opening before.link
  pub table : now.pass.table ≡ before.pass.table
  pub same : now.number ≡ before.number
  pub keys : now.keys ≡ before.keys
