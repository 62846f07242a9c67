-- What the search leaves open of `serve::make_equipment`.
use Rattle.station_report.proofs.RunOfLaws.{blank_receivers}
use Rattle.radio_engine.proofs.serve.make_equipment.Goals as goal

pub returns-clause-receivers : goal.returns-clause-receivers
returns-clause-receivers g c = blank_receivers _ _ _ _ c.in_ok-fit_radios.ensures.fitted c.in_ok-fit_radios.ensures.blank
