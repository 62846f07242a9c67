-- The passes of all feeds, place by place.
use Rattle.std.proofs.Common.{◌≡◌, ℕ, ◌+◌, ◌-◌, ◌<◌, List, [], ◌∷◌, ◌++◌, map, length, ap, ◌∙◌, arith, length-append}
use Rattle.std.specs.Prelude.{Option, Some, get_or}
use Rattle.std.specs.Option.{option_to_list}
use Rattle.std.proofs.lemmas.List.{length-map, get_or_append_left, get_or-append_right}
use Rattle.page_cell.specs.Passes.{Known}
use Rattle.feed_workers.proofs.ListLaws.{left_at, right_at}
use Rattle.station_crew.specs.Collecting.{leap_pass, passes_of, poll_pass, radio_pass}
use Rattle.station_crew.specs.declared.jobs.LeapJob.{LeapJob}
use Rattle.station_crew.specs.declared.jobs.PollJob.{PollJob}
use Rattle.station_crew.specs.declared.jobs.RadioJob.{RadioJob}

module _ {L T X : Type 0} {F : X → Type 0} (radios : List (RadioJob L X F)) (pollers : List (PollJob T)) where
  others_length : length (map radio_pass radios ++ map poll_pass pollers) ≡ length radios + length pollers
  others_length = length-append (map radio_pass radios) (map poll_pass pollers) ∙ (omega (arith, length-map radios radio_pass, length-map pollers poll_pass))

  pub feeds_length : (leap : Option (LeapJob L)) → length (passes_of radios pollers leap) ≡ length radios + length pollers + length (option_to_list leap)
  feeds_length leap = length-append (map radio_pass radios ++ map poll_pass pollers) (map leap_pass (option_to_list leap)) ∙ (omega (arith, others_length, length-map (option_to_list leap) leap_pass))

  pub radio_at : (leap : Option (LeapJob L)) (i : ℕ) (d : RadioJob L X F) → i < length radios → get_or (passes_of radios pollers leap) i (radio_pass d) ≡ radio_pass (get_or radios i d)
  radio_at leap i d lt =
      get_or_append_left (map radio_pass radios ++ map poll_pass pollers) (map leap_pass (option_to_list leap)) (radio_pass d) i (omega (arith, lt, others_length)) ∙ left_at radio_pass poll_pass radios pollers i d lt

  pub poller_at : (leap : Option (LeapJob L)) (i : ℕ) (d : PollJob T) → i < length pollers → get_or (passes_of radios pollers leap) (length radios + i) (poll_pass d) ≡ poll_pass (get_or pollers i d)
  poller_at leap i d lt =
      get_or_append_left (map radio_pass radios ++ map poll_pass pollers) (map leap_pass (option_to_list leap)) (poll_pass d) (length radios + i) (omega (arith, lt, others_length)) ∙ right_at radio_pass poll_pass radios pollers i d lt

  pub leap_at : (job : LeapJob L) (d : Known) → get_or (passes_of radios pollers (Some job)) (length radios + length pollers) d ≡ leap_pass job
  leap_at job d =
      let n = length radios + length pollers in
      let none : n - n ≡ 0 = omega arith in
      get_or-append_right (map radio_pass radios ++ map poll_pass pollers) (leap_pass job ∷ []) n n d others_length (omega arith) ∙ ap (λ i. get_or (leap_pass job ∷ []) i d) none
