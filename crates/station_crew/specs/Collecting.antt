-- Scaffolding: what each worker has, and gives back.
use Rattle.std.specs.Prelude.{ℕ, Option, List, ◌++◌, map}
use Rattle.std.specs.Option.{option_to_list}
use Rattle.page_cell.specs.Passes.{Known, KnownReader}
use Rattle.station_values.specs.Station.{ServerFields}
use Rattle.station_crew.specs.declared.jobs.LeapJob.{LeapJob}
use Rattle.station_crew.specs.declared.jobs.PollJob.{PollJob}
use Rattle.station_crew.specs.declared.jobs.RadioJob.{RadioJob}
use Rattle.station_crew.specs.declared.jobs.ServeJob.{ServeJob}

abbrev pub log_of : {L X : Type 0} {F : X → Type 0} → RadioJob L X F → L
log_of j = j.worker.log

abbrev pub radio_pass : {L X : Type 0} {F : X → Type 0} → RadioJob L X F → Known
radio_pass j = j.worker.pass

abbrev pub server_link : {T : Type 0} → PollJob T → T
server_link j = j.worker.link

abbrev pub server_of : {T : Type 0} → PollJob T → ServerFields
server_of j = record { address = j.worker.server; polls = j.worker.polls }

abbrev pub poll_pass : {T : Type 0} → PollJob T → Known
poll_pass j = j.worker.pass

abbrev pub file_of : {L : Type 0} → LeapJob L → L
file_of j = j.worker.log

abbrev pub leap_pass : {L : Type 0} → LeapJob L → Known
leap_pass j = j.worker.pass

-- the passes of all feeds, by their numbers
abbrev pub passes_of : {L T X : Type 0} {F : X → Type 0} → List (RadioJob L X F) → List (PollJob T) → Option (LeapJob L) → List Known
passes_of radios pollers leap = map radio_pass radios ++ map poll_pass pollers ++ map leap_pass (option_to_list leap)

abbrev pub link_of : {T : Type 0} → ServeJob T → T
link_of j = j.responder.link

abbrev pub number_of : {T : Type 0} → ServeJob T → ℕ
number_of j = j.responder.number

abbrev pub serve_pass : {T : Type 0} → ServeJob T → KnownReader
serve_pass j = j.responder.pass
