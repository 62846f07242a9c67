-- A made log of each plan can be written, and is read back.
use Rattle.code_plans.specs.Codes.{code_of, sending_of}
use Rattle.frame_rules.proofs.SentLaws.{FitsLog, ReadsBack}
use Rattle.plan_dcf.proofs.Sent.{fits as dcf_fits, reads as dcf_reads}
use Rattle.plan_msf.proofs.Sent.{fits as msf_fits, reads as msf_reads}
use Rattle.plan_wwvb.proofs.Sent.{fits as wwvb_fits, reads as wwvb_reads}
use Rattle.tick_units.specs.declared.marks.Plan.{Plan}
use Rattle.tick_units.specs.declared.marks.Plan.TheVariants.{Dcf, Msf, Wwvb}

pub fits : (plan : Plan) → FitsLog (sending_of plan)
fits Dcf = dcf_fits
fits Msf = msf_fits
fits Wwvb = wwvb_fits

pub reads : (plan : Plan) → ReadsBack (code_of plan) (sending_of plan)
reads Dcf = dcf_reads
reads Msf = msf_reads
reads Wwvb = wwvb_reads
