-- Scaffolding: what all workers of a station do.
use Rattle.std.specs.Prelude.{◌≡◌, ◌≤◌, ℕ, List, [], All, None, IfSome, map, option_map, vec_capacity, vec_len}
use Rattle.std.specs.List.{range_with_len}
use Rattle.atomic_table.specs.Seated.{TableId}
use Rattle.kiss_gate.specs.Gates.{Gate}
use Rattle.packet_auth.specs.Keys.{keys_of}
use Rattle.page_cell.specs.Passes.{Known, KnownReader}
use Rattle.radio_receiver.specs.Boxes.{Boxed}
use Rattle.radio_receiver.specs.Histories.{History}
use Rattle.station_values.specs.Station.{StationFields, gate_of}
use Rattle.station_crew.specs.Jobs.{IsAssigned}
use Rattle.station_crew.specs.Collecting.{file_of, link_of, log_of, number_of, passes_of, server_link, server_of}
use Rattle.feed_workers.specs.Lists.{Pairs}
use Rattle.feed_workers.specs.declared.crew.Work.{Work}
use Rattle.station_crew.specs.declared.crew.Crew.{Crew}
use Rattle.station_crew.specs.declared.crew.Reserved.{Reserved}
use Rattle.station_gear.specs.declared.gear.Gear.{Gear}

-- a reader's pass of this cell that has seen and read nothing
pub record IsNewReader (table : TableId) (r : KnownReader) : Type 0 where
  pub table_is : r.table ≡ table
  pub unseen : r.view.seen ≡ 0
  pub unread : r.view.readings ≡ []
  pub untorn : r.view.watch.torn ≡ 0

-- room for the workers of this many radios, servers and links
pub record HasRoomFor {L T X : Type 0} {F : X → Type 0} (of_radios of_servers of_links : ℕ) (crew : Crew L T X F) : Type 0 where
  pub no_radios : crew.radios.items ≡ []
  pub no_pollers : crew.pollers.items ≡ []
  pub no_leap : crew.leap ≡ None
  pub no_responders : crew.responders.items ≡ []
  pub radios : of_radios ≤ vec_capacity crew.radios
  pub pollers : of_servers ≤ vec_capacity crew.pollers
  pub responders : of_links ≤ vec_capacity crew.responders

-- it has no log and no link, and room for this many
pub record HasRoomForGear {L T : Type 0} (of_radios of_servers of_links : ℕ) (gear : Gear L T) : Type 0 where
  pub no_logs : gear.logs.items ≡ []
  pub no_leap : gear.leap ≡ None
  pub no_servers : gear.servers.items ≡ []
  pub no_links : gear.links.items ≡ []
  pub logs : of_radios ≤ vec_capacity gear.logs
  pub servers : of_servers ≤ vec_capacity gear.servers
  pub links : of_links ≤ vec_capacity gear.links

-- room for what is said of the workers
pub record HasRoomForWork (of_radios of_servers of_links : ℕ) (work : Work) : Type 0 where
  pub no_radios : work.radios.items ≡ []
  pub no_servers : work.servers.items ≡ []
  pub no_leap : work.leap ≡ None
  pub no_links : work.links.items ≡ []
  pub radios : of_radios ≤ vec_capacity work.radios
  pub servers : of_servers ≤ vec_capacity work.servers
  pub links : of_links ≤ vec_capacity work.links

-- room for the workers and what they did, and this gate once for each link
pub record HasRoom {L T X : Type 0} {F : X → Type 0} (gate : Gate) (of_radios of_servers of_links : ℕ) (room : Reserved L T X F) : Type 0 where
  pub crew : HasRoomFor of_radios of_servers of_links room.crew
  pub work : HasRoomForWork of_radios of_servers of_links room.work
  pub gates : vec_len room.gates ≡ of_links
  pub alike : All (λ g. g ≡ gate) room.gates.items

-- each worker has its receiver, its log or its link, and its server, in the station's order, and the leap second file's begins at the station's first moment; the responders are numbered from 0, and have the station's keys and a gate of its own each
pub record CrewAssigned {L T X : Type 0} {F : X → Type 0} (stands : Boxed X F → History → Type 0) (least : Boxed X F → ℕ) (station : StationFields) (receivers : List (Boxed X F)) (gear : Gear L T) (crew : Crew L T X F) : Type 0 where
  pub receivers_are : Pairs (IsAssigned stands least) receivers crew.radios.items
  pub logs : map log_of crew.radios.items ≡ gear.logs.items
  pub servers : map server_link crew.pollers.items ≡ gear.servers.items
  pub asked : map server_of crew.pollers.items ≡ station.servers
  pub file : option_map file_of crew.leap ≡ gear.leap
  pub begins : IfSome crew.leap (λ j. j.worker.start ≡ station.top.start)
  pub links : map link_of crew.responders.items ≡ gear.links.items
  pub numbered : map number_of crew.responders.items ≡ range_with_len 0 (vec_len gear.links)
  pub unserved : All (λ j. j.work.second ≡ None) crew.responders.items
  pub keyed : All (λ j. keys_of j.responder.keys ≡ station.keys) crew.responders.items
  pub gated : All (λ j. j.responder.clients ≡ gate_of station) crew.responders.items

-- the feeds' workers of a crew gave back these logs and links and these passes, and did this
pub record FeedsCollected {L T X : Type 0} {F : X → Type 0} (crew : Crew L T X F) (gear : Gear L T) (work : Work) (feeds : List Known) : Type 0 where
  pub logs : gear.logs.items ≡ map log_of crew.radios.items
  pub servers : gear.servers.items ≡ map server_link crew.pollers.items
  pub file : gear.leap ≡ option_map file_of crew.leap
  pub log_works : work.radios.items ≡ map (λ j. j.work) crew.radios.items
  pub poll_works : work.servers.items ≡ map (λ j. j.work) crew.pollers.items
  pub leap_work : work.leap ≡ option_map (λ j. j.work) crew.leap
  pub feeds_are : feeds ≡ passes_of crew.radios.items crew.pollers.items crew.leap

-- room for what this many responders leave
pub record HasRoomForServed {L T : Type 0} (of_links : ℕ) (gear : Gear L T) (work : Work) : Type 0 where
  pub no_links : gear.links.items ≡ []
  pub no_works : work.links.items ≡ []
  pub links : of_links ≤ vec_capacity gear.links
  pub works : of_links ≤ vec_capacity work.links
