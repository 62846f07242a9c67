-- Scaffolding, which contracts use: the state of a code plan's receiver, by all reductions that it has received.
use Rattle.std.specs.Prelude.{◌≡◌}
use Rattle.tick_units.specs.declared.marks.Plan.{Plan}
use Rattle.frame_rules.specs.Codes.{Code}
use Rattle.second_marks.specs.Marker.{HoldsBack}
use Rattle.second_marks.specs.Marks.{marks_by}
use Rattle.minute_pair.specs.Pairing.{HasPairedBy}
use Rattle.radio_receiver.specs.Histories.{History, least_after}
use Rattle.radio_receiver.specs.declared.receivers.PlanReceiver.{PlanReceiver}

pub record Receives {C : Type 0} (which : Plan) (code : Code) (receiver : PlanReceiver C) (h : History) : Type 0 where
  pub plan_is : h.plan ≡ which
  pub held : HoldsBack code receiver.held h.reductions
  pub paired : HasPairedBy code receiver.pairing (marks_by code h.reductions)
  pub delay : receiver.delay_us ≡ h.delay
  pub least : receiver.least_start ≡ least_after h.reductions
