-- The code plan of a name, and how it is sent. What each is stands in its own crate.
use Rattle.tick_units.specs.declared.marks.Plan.{Plan}
use Rattle.tick_units.specs.declared.marks.Plan.TheVariants.{Dcf, Msf, Wwvb}
use Rattle.frame_rules.specs.Codes.{Code}
use Rattle.frame_rules.specs.Sendings.{Sending}
use Rattle.plan_dcf.specs.Code.{dcf_code}
use Rattle.plan_dcf.specs.Sending.{dcf_sending}
use Rattle.plan_msf.specs.Code.{msf_code}
use Rattle.plan_msf.specs.Sending.{msf_sending}
use Rattle.plan_wwvb.specs.Code.{wwvb_code}
use Rattle.plan_wwvb.specs.Sending.{wwvb_sending}

abbrev pub code_of : Plan → Code
code_of Dcf = dcf_code
code_of Msf = msf_code
code_of Wwvb = wwvb_code

abbrev pub sending_of : Plan → Sending
sending_of Dcf = dcf_sending
sending_of Msf = msf_sending
sending_of Wwvb = wwvb_sending
