-- What closing reports of each feed.
use Rattle.std.proofs.Common.{◌≡◌, ◌⊎◌, inl, inr, ℕ, ◌+◌, ◌-◌, ◌==◌, ◌<◌, ◌≤◌, List, [], ◌∷◌, ◌++◌, take, map, length, refl, sym, ap, ◌∙◌, subst, arith, length-append, append_assoc}
use Rattle.std.specs.Prelude.{Option, Some, None, All, IfSome, get_or, option_map}
use Rattle.std.specs.Option.{option_to_list}
use Rattle.std.specs.List.{range_with_len}
use Rattle.std.proofs.lemmas.List.{length-map, get_or-map}
use Rattle.std.proofs.lemmas.List.Elements.{All-append, All-head, All-map, filter-append}
use Rattle.std.proofs.lemmas.List.FromFn.{get_or-map-range_with_len, length-map-range_with_len}
use mathlib.Core.List.{IsPrefix}
use Rattle.atomic_table.specs.Seated.{TableId}
use Rattle.outside_traits.specs.States.{SourceState, LinkState}
use Rattle.feed_workers.specs.Keeping.{Keeps, Share, share_of}
use Rattle.feed_workers.specs.Leaps.{due_leap}
use Rattle.feed_workers.specs.Polls.{due_link}
use Rattle.journal_entry.specs.declared.entry.Entry.{Entry}
use Rattle.radio_receiver.specs.Decoding.{HasDecoded}
use Rattle.radio_receiver.specs.Due.{due_log}
use Rattle.page_cell.proofs.Places.{of_same}
use Rattle.page_cell.specs.Claims.{IsTrueOf, of_feed}
use Rattle.page_cell.specs.Passes.{Known, claim_of}
use Rattle.page_cell.specs.Views.{new_claim}
use Rattle.page_cell.specs.declared.view.Claim.{Claim}
use Rattle.radio_receiver.specs.Boxes.{Boxed}
use Rattle.radio_receiver.specs.Histories.{History}
use Rattle.station_values.specs.Station.{RadioFields, ServerFields}
use Rattle.feed_workers.proofs.ListLaws.{all_right, below_or, both_keeps, each_keeps, each_map, last_same, map_both, pairs_at, pairs_length, snoc_view, some_of}
use Rattle.station_crew.proofs.PassLaws.{feeds_length, leap_at, poller_at, radio_at}
use Rattle.feed_workers.specs.Due.{HasDue}
use Rattle.station_crew.specs.Jobs.{IsAssigned, LeapRan, MayReceive, MayNotice, MayPoll, PollRan, RadioRan}
use Rattle.station_crew.specs.Collecting.{file_of, leap_pass, log_of, passes_of, poll_pass, radio_pass, server_link, server_of}
use Rattle.feed_workers.specs.Lists.{Both, Each, Pairs}
use Rattle.feed_workers.specs.Served.{AreBlank, AsksServer, ReadsRadio, IsBlank, LeapServed, NoticesLeaps, RadiosServed, ServersServed, column_of, seen}
use Rattle.station_crew.specs.declared.jobs.LeapJob.{LeapJob}
use Rattle.station_crew.specs.declared.jobs.PollJob.{PollJob}
use Rattle.station_crew.specs.declared.jobs.RadioJob.{RadioJob}
use Rattle.system_fold.specs.Settings.{IsKept}

prefix_length : {X : Type 0} (xs ys : List X) → IsPrefix xs ys → length xs ≤ length ys
prefix_length xs ys p = let e = ap length p.1 in omega (arith, e, length-append xs p.0)

-- what was kept of a feed's entries is what the journal has of it
due_of : (share : Share) (f : ℕ) (due j : List Entry) → share.begun.number ≡ f → share.begun.own ≡ [] → Keeps share due → IsTrueOf j share.claim → length j ≤ share.limit → HasDue share.limit j f share.full due
due_of share f due j number own k t le = record {
  count = k.count;
  most = k.most;
  is = ap (λ n. of_feed n j) (sym (k.number ∙ number)) ∙ sym t.own ∙ k.own ∙ ap (λ l. l ++ take k.count due) own;
  whole = k.whole;
  lost = (λ e. ((k.lost e).0, let s = (k.lost e).1 in let p = prefix_length share.claim.seen j t.seen in omega (arith, s, p, le)));
}

reads_radio : {L X : Type 0} {F : X → Type 0} (stands : Boxed X F → History → Type 0) (state : L → SourceState) (opening : L → ℕ) (limit : ℕ) (radio : RadioFields) (a b : RadioJob L X F) (j : List Entry) (f : ℕ)
    → claim_of a.worker.pass.view ≡ new_claim f → HasDecoded stands a.worker.decoder (claim_of a.worker.pass.view).number radio.plan radio.delay []
    → RadioRan stands state opening limit a b → IsTrueOf j (claim_of b.worker.pass.view) → length j ≤ limit → ReadsRadio radio (column_of f limit j) (state a.worker.log) (state b.worker.log) b.work
reads_radio stands state opening limit radio a b j f is start r t le =
    let runs = r.runs radio.plan radio.delay start in
    let number = ap (λ (c : Claim). c.number) is in
    let share = share_of (claim_of a.worker.pass.view) b.worker.pass limit b.work.full in
    record {
      bytes = runs.bytes;
      ends = runs.ends;
      due = due_of share f (due_log f radio.plan radio.delay runs.bytes) j number (ap (λ (c : Claim). c.own) is) (subst (λ n. Keeps share (due_log n radio.plan radio.delay runs.bytes)) number runs.kept) t le;
    }

asks_server : {T : Type 0} (state : T → LinkState) (opening : T → ℕ) (limit : ℕ) (a b : PollJob T) (j : List Entry) (f : ℕ)
    → claim_of a.worker.pass.view ≡ new_claim f → PollRan state opening limit a b → IsTrueOf j (claim_of b.worker.pass.view) → length j ≤ limit → AsksServer (server_of a) (column_of f limit j) (state a.worker.link) (state b.worker.link) b.work
asks_server state opening limit a b j f is r t le =
    let number = ap (λ (c : Claim). c.number) is in
    let share = share_of (claim_of a.worker.pass.view) b.worker.pass limit b.work.full in
    record {
      events = r.runs.events;
      reported = r.runs.reported;
      ends = r.runs.ends;
      due = due_of share f (due_link f a.worker.server r.runs.events) j number (ap (λ (c : Claim). c.own) is) (subst (λ n. Keeps share (due_link n a.worker.server r.runs.events)) number r.runs.kept) t le;
    }

notices_leaps : {L : Type 0} (state : L → SourceState) (opening : L → ℕ) (limit : ℕ) (a b : LeapJob L) (j : List Entry) (f start : ℕ) → a.worker.start ≡ start
    → claim_of a.worker.pass.view ≡ new_claim f → LeapRan state opening limit a b → IsTrueOf j (claim_of b.worker.pass.view) → length j ≤ limit
    → NoticesLeaps start (column_of f limit j) (state a.worker.log) (state b.worker.log) b.work
notices_leaps state opening limit a b j f start begins is r t le =
    let number = ap (λ (c : Claim). c.number) is in
    let share = share_of (claim_of a.worker.pass.view) b.worker.pass limit b.work.full in
    record {
      bytes = r.runs.bytes;
      whole = r.runs.whole;
      ends = r.runs.ends;
      due = due_of share f (due_leap f start r.runs.whole r.runs.bytes) j number (ap (λ (c : Claim). c.own) is)
          (subst (λ n. Keeps share (due_leap n start r.runs.whole r.runs.bytes)) number
          (subst (λ n. Keeps share (due_leap share.begun.number n r.runs.whole r.runs.bytes)) begins r.runs.kept)) t le;
    }

-- the claim of the feed at a place
claim_at : (feeds : List Known) (k i : ℕ) (d : Known) → map (λ f. claim_of f.view) feeds ≡ map new_claim (range_with_len 0 k) → i < length feeds → claim_of (get_or feeds i d).view ≡ new_claim i
claim_at feeds k i d e lt =
    let n = ap length e in
    let ltk : i < k = omega (arith, n, lt, length-map feeds (λ (f : Known). claim_of f.view), length-map-range_with_len new_claim 0 k) in
    sym (get_or-map (λ (f : Known). claim_of f.view) feeds i d (claim_of d.view) lt) ∙ ap (λ l. get_or l i (claim_of d.view)) e ∙ get_or-map-range_with_len new_claim 0 k i i (claim_of d.view) ltk (omega arith)

module _ {L T X : Type 0} {F : X → Type 0} where
  radio_claim : (radios : List (RadioJob L X F)) (pollers : List (PollJob T)) (leap : Option (LeapJob L)) (k i : ℕ) (d : RadioJob L X F) → map (λ f. claim_of f.view) (passes_of radios pollers leap) ≡ map new_claim (range_with_len 0 k) → i < length radios
      → claim_of (get_or radios i d).worker.pass.view ≡ new_claim i
  radio_claim radios pollers leap k i d e lt = ap (λ (f : Known). claim_of f.view) (sym (radio_at radios pollers leap i d lt)) ∙ claim_at (passes_of radios pollers leap) k i (radio_pass d) e (omega (arith, lt, feeds_length radios pollers leap))

  poller_claim : (radios : List (RadioJob L X F)) (pollers : List (PollJob T)) (leap : Option (LeapJob L)) (k i : ℕ) (d : PollJob T) → map (λ f. claim_of f.view) (passes_of radios pollers leap) ≡ map new_claim (range_with_len 0 k) → i < length pollers
      → claim_of (get_or pollers i d).worker.pass.view ≡ new_claim (length radios + i)
  poller_claim radios pollers leap k i d e lt = ap (λ (f : Known). claim_of f.view) (sym (poller_at radios pollers leap i d lt)) ∙ claim_at (passes_of radios pollers leap) k (length radios + i) (poll_pass d) e (omega (arith, lt, feeds_length radios pollers leap))

  leap_claim : (radios : List (RadioJob L X F)) (pollers : List (PollJob T)) (job : LeapJob L) (k : ℕ) → map (λ f. claim_of f.view) (passes_of radios pollers (Some job)) ≡ map new_claim (range_with_len 0 k)
      → claim_of job.worker.pass.view ≡ new_claim (length radios + length pollers)
  leap_claim radios pollers job k e = ap (λ (f : Known). claim_of f.view) (sym (leap_at radios pollers job (leap_pass job))) ∙ claim_at (passes_of radios pollers (Some job)) k (length radios + length pollers) (leap_pass job) e (omega (arith, feeds_length radios pollers (Some job)))

  module _ {stands : Boxed X F → History → Type 0} (log_state : L → SourceState) (log_opening : L → ℕ) (state : T → LinkState) (opening : T → ℕ) (limit k : ℕ) (j : List Entry)
      (cs bs : List (RadioJob L X F)) (ps qs : List (PollJob T)) (l m : Option (LeapJob L)) (claims : map (λ f. claim_of f.view) (passes_of cs ps l) ≡ map new_claim (range_with_len 0 k))
      (ran : Each (RadioRan stands log_state log_opening limit) cs bs) (same : length bs ≡ length cs) (polled : Each (PollRan state opening limit) ps qs) (same' : length qs ≡ length ps)
      (noticed : Both (LeapRan log_state log_opening limit) l m) (all : All (λ f. IsTrueOf j (claim_of f.view)) (passes_of bs qs m)) where
    true_radio : (i : ℕ) (d : RadioJob L X F) → i < length bs → IsTrueOf j (claim_of (get_or bs i d).worker.pass.view)
    true_radio i d lt = subst (λ (f : Known). IsTrueOf j (claim_of f.view)) (radio_at bs qs m i d lt) (all i (radio_pass d) (omega (arith, lt, feeds_length bs qs m)))

    true_poller : (i : ℕ) (d : PollJob T) → i < length qs → IsTrueOf j (claim_of (get_or qs i d).worker.pass.view)
    true_poller i d lt = subst (λ (f : Known). IsTrueOf j (claim_of f.view)) (poller_at bs qs m i d lt) (all (length bs + i) (poll_pass d) (omega (arith, lt, feeds_length bs qs m)))

    pub radios_served : (least : Boxed X F → ℕ) (radios : List RadioFields) (receivers : List (Boxed X F)) → AreBlank stands least radios receivers → Pairs (IsAssigned stands least) receivers cs → length j ≤ limit
        → RadiosServed (seen log_state log_opening) radios (column_of 0 limit j) (map log_of cs) (map log_of bs) (map (λ x. x.work) bs)
    radios_served least radios receivers blank assigned le = record {
      openings = map_both log_opening log_of bs ∙ each_map (λ (x : RadioJob L X F). log_opening x.worker.log) (RadioRan stands log_state log_opening limit) (λ a b r. r.log) cs bs ran same ∙ sym (map_both log_opening log_of cs);
      count = length-map bs (λ x. x.work) ∙ same ∙ sym (length-map cs log_of);
      at = (λ i radio a b work lt'.
          let lt : i < length cs = omega (arith, lt', length-map cs log_of) in
          let ltb : i < length bs = omega (arith, lt, same) in
          let ltr : i < length receivers = omega (arith, lt, pairs_length (IsAssigned stands least) receivers cs assigned) in
          let ltf : i < length radios = omega (arith, ltr, pairs_length (IsBlank stands least) radios receivers blank) in
          let d = some_of cs i lt in
          let e = some_of receivers i ltr in
          let w = pairs_at (IsAssigned stands least) receivers cs i e d assigned ltr in
          let v = pairs_at (IsBlank stands least) radios receivers i radio e blank ltf in
          let r = get_or radios i radio in
          let from_none : i ≡ 0 + i = omega arith in
          subst (λ x. ReadsRadio r (column_of (0 + i) limit j) (log_state x) (log_state (get_or (map log_of bs) i b)) (get_or (map (λ y. y.work) bs) i work)) (sym (get_or-map log_of cs i d a lt))
          (subst (λ x. ReadsRadio r (column_of (0 + i) limit j) (log_state (get_or cs i d).worker.log) (log_state x) (get_or (map (λ y. y.work) bs) i work)) (sym (get_or-map log_of bs i d b ltb))
          (subst (λ x. ReadsRadio r (column_of (0 + i) limit j) (log_state (get_or cs i d).worker.log) (log_state (get_or bs i d).worker.log) x) (sym (get_or-map (λ y. y.work) bs i d work ltb))
          (reads_radio stands log_state log_opening limit r (get_or cs i d) (get_or bs i d) j (0 + i) (subst (λ n. claim_of (get_or cs i d).worker.pass.view ≡ new_claim n) from_none (radio_claim cs ps l k i d claims lt)) (w.start r.plan r.delay v.stands_for) (ran.at i d lt) (true_radio i d ltb) le))));
    }

    pub servers_served : (servers : List ServerFields) → map server_of ps ≡ servers → length j ≤ limit
        → ServersServed (seen state opening) servers (column_of (length cs) limit j) (map server_link ps) (map server_link qs) (map (λ x. x.work) qs)
    servers_served servers are le = record {
      openings = map_both opening server_link qs ∙ each_map (λ (x : PollJob T). opening x.worker.link) (PollRan state opening limit) (λ a b r. r.link) ps qs polled same' ∙ sym (map_both opening server_link ps);
      count = length-map qs (λ x. x.work) ∙ same' ∙ sym (length-map ps server_link);
      at = (λ i server a b work lt'.
          let lt : i < length ps = omega (arith, lt', length-map ps server_link) in
          let ltb : i < length qs = omega (arith, lt, same') in
          let d = some_of ps i lt in
          let s : server_of (get_or ps i d) ≡ get_or servers i server = sym (get_or-map server_of ps i d server lt) ∙ ap (λ xs. get_or xs i server) are in
          subst (λ x. AsksServer (get_or servers i server) (column_of (length cs + i) limit j) (state x) (state (get_or (map server_link qs) i b)) (get_or (map (λ y. y.work) qs) i work)) (sym (get_or-map server_link ps i d a lt))
          (subst (λ x. AsksServer (get_or servers i server) (column_of (length cs + i) limit j) (state (get_or ps i d).worker.link) (state x) (get_or (map (λ y. y.work) qs) i work)) (sym (get_or-map server_link qs i d b ltb))
          (subst (λ x. AsksServer (get_or servers i server) (column_of (length cs + i) limit j) (state (get_or ps i d).worker.link) (state (get_or qs i d).worker.link) x) (sym (get_or-map (λ y. y.work) qs i d work ltb))
          (subst (λ x. AsksServer x (column_of (length cs + i) limit j) (state (get_or ps i d).worker.link) (state (get_or qs i d).worker.link) (get_or qs i d).work) s
          (asks_server state opening limit (get_or ps i d) (get_or qs i d) j (length cs + i) (poller_claim cs ps l k i d claims lt) (polled.at i d lt) (true_poller i d ltb) le)))));
    }

    pub leap_served : (start : ℕ) → IfSome l (λ x. x.worker.start ≡ start) → length j ≤ limit
        → LeapServed (seen log_state log_opening) start (column_of (length cs + length ps) limit j) (option_map file_of l) (option_map file_of m) (option_map (λ x. x.work) m)
    leap_served start begins le = served l m claims noticed all begins
      where
        served : (x y : Option (LeapJob L)) → map (λ f. claim_of f.view) (passes_of cs ps x) ≡ map new_claim (range_with_len 0 k) → Both (LeapRan log_state log_opening limit) x y
            → All (λ f. IsTrueOf j (claim_of f.view)) (passes_of bs qs y) → IfSome x (λ z. z.worker.start ≡ start)
            → LeapServed (seen log_state log_opening) start (column_of (length cs + length ps) limit j) (option_map file_of x) (option_map file_of y) (option_map (λ z. z.work) y)
        served None None reported both true_of at = tt
        served None (Some y) reported both true_of at = absurd both
        served (Some x) None reported both true_of at = absurd both
        served (Some x) (Some y) reported both true_of at =
            let it : IsTrueOf j (claim_of y.worker.pass.view) = subst (λ (f : Known). IsTrueOf j (claim_of f.view)) (leap_at bs qs y (leap_pass y)) (true_of (length bs + length qs) (leap_pass y) (omega (arith, feeds_length bs qs (Some y)))) in
            (both.log, notices_leaps log_state log_opening limit x y j (length cs + length ps) start at (leap_claim cs ps x k reported) both it le)

    -- the feed of the last entry has seen the whole journal
    last_seen : (prefix : List Entry) (e : Entry) (c : Claim) → j ≡ prefix ++ e ∷ [] → c.number ≡ e.feed → IsTrueOf j c → length j ≤ length c.seen
    last_seen prefix e c is number t = go (snoc_view t.seen.0)
      where
        go : (t.seen.0 ≡ []) ⊎ ((r : List Entry) × (x : Entry) × (t.seen.0 ≡ r ++ x ∷ [])) → length j ≤ length c.seen
        go (inl none) = let a = ap length t.seen.1 in let b = ap length none in omega (arith, a, b, length-append c.seen t.seen.0)
        go (inr (r, x, some)) =
            let whole : j ≡ (c.seen ++ r) ++ x ∷ [] = sym t.seen.1 ∙ ap (λ l. c.seen ++ l) some ∙ sym (append_assoc c.seen r (x ∷ [])) in
            let one : e ≡ x = last_same prefix (c.seen ++ r) e x (sym is ∙ whole) in
            let more : of_feed c.number j ≡ of_feed c.number (c.seen ++ r) ++ x ∷ [] = ap (λ l. of_feed c.number l) whole ∙ of_same c.number (c.seen ++ r) x (sym (number ∙ ap (λ (y : Entry). y.feed) one)) in
            let n = ap length (sym more ∙ sym t.own ∙ t.own_seen) in
            absurd (omega (arith, n, ap length (filter-append (λ (y : Entry). y.feed == c.number) c.seen r), length-append (of_feed c.number c.seen) (of_feed c.number r), length-append (of_feed c.number (c.seen ++ r)) (x ∷ [])))

    -- who has seen what all feeds have seen has seen the journal
    pub seen_all : All (IsKept k) j → (n : ℕ) → All (λ f. length (claim_of f.view).seen ≤ n) (passes_of bs qs m) → length j ≤ n
    seen_all valid n seen = go (snoc_view j)
      where
        count_is : length cs + length ps + length (option_to_list l) ≡ k
        count_is = let e = ap length claims in omega (arith, e, feeds_length cs ps l, length-map (passes_of cs ps l) (λ (f : Known). claim_of f.view), length-map-range_with_len new_claim 0 k)

        of_radio : (prefix : List Entry) (e : Entry) → j ≡ prefix ++ e ∷ [] → e.feed < length bs → length j ≤ n
        of_radio prefix e is lt =
            let d = some_of bs e.feed lt in
            let ltc : e.feed < length cs = omega (arith, lt, same) in
            let number = (ran.at e.feed d ltc).feed ∙ ap (λ (z : Claim). z.number) (radio_claim cs ps l k e.feed d claims ltc) in
            let a = last_seen prefix e (claim_of (get_or bs e.feed d).worker.pass.view) is number (true_radio e.feed d lt) in
            let b = subst (λ (f : Known). length (claim_of f.view).seen ≤ n) (radio_at bs qs m e.feed d lt) (seen e.feed (radio_pass d) (omega (arith, lt, feeds_length bs qs m))) in
            omega (arith, a, b)

        of_poller : (prefix : List Entry) (e : Entry) (i : ℕ) → j ≡ prefix ++ e ∷ [] → e.feed ≡ length cs + i → i < length qs → length j ≤ n
        of_poller prefix e i is at lt =
            let d = some_of qs i lt in
            let ltc : i < length ps = omega (arith, lt, same') in
            let number = (polled.at i d ltc).feed ∙ ap (λ (z : Claim). z.number) (poller_claim cs ps l k i d claims ltc) ∙ sym at in
            let a = last_seen prefix e (claim_of (get_or qs i d).worker.pass.view) is number (true_poller i d lt) in
            let b = subst (λ (f : Known). length (claim_of f.view).seen ≤ n) (poller_at bs qs m i d lt) (seen (length bs + i) (poll_pass d) (omega (arith, lt, feeds_length bs qs m))) in
            omega (arith, a, b)

        of_leap : (prefix : List Entry) (e : Entry) → j ≡ prefix ++ e ∷ [] → length cs + length ps ≤ e.feed → (x y : Option (LeapJob L)) → e.feed < length cs + length ps + length (option_to_list x)
            → map (λ f. claim_of f.view) (passes_of cs ps x) ≡ map new_claim (range_with_len 0 k) → Both (LeapRan log_state log_opening limit) x y
            → All (λ f. IsTrueOf j (claim_of f.view)) (passes_of bs qs y) → All (λ f. length (claim_of f.view).seen ≤ n) (passes_of bs qs y) → length j ≤ n
        of_leap prefix e is ge None y lt reported both true_of saw = absurd (omega (arith, ge, lt))
        of_leap prefix e is ge (Some x) None lt reported both true_of saw = absurd both
        of_leap prefix e is ge (Some x) (Some y) lt reported both true_of saw =
            let at : e.feed ≡ length cs + length ps = omega (arith, ge, lt) in
            let within : length bs + length qs < length (passes_of bs qs (Some y)) = omega (arith, feeds_length bs qs (Some y)) in
            let number = both.feed ∙ ap (λ (z : Claim). z.number) (leap_claim cs ps x k reported) ∙ sym at in
            let it : IsTrueOf j (claim_of y.worker.pass.view) = subst (λ (f : Known). IsTrueOf j (claim_of f.view)) (leap_at bs qs y (leap_pass y)) (true_of (length bs + length qs) (leap_pass y) within) in
            let a = last_seen prefix e (claim_of y.worker.pass.view) is number it in
            let b = subst (λ (f : Known). length (claim_of f.view).seen ≤ n) (leap_at bs qs y (leap_pass y)) (saw (length bs + length qs) (leap_pass y) within) in
            omega (arith, a, b)

        later : (prefix : List Entry) (e : Entry) → j ≡ prefix ++ e ∷ [] → e.feed < k → length bs ≤ e.feed → (e.feed < length cs + length ps) ⊎ (length cs + length ps ≤ e.feed) → length j ≤ n
        later prefix e is counted ge (inl lt) = of_poller prefix e (e.feed - length bs) is (omega (arith, same, ge)) (omega (arith, same, same', ge, lt))
        later prefix e is counted ge (inr past) = of_leap prefix e is past l m (omega (arith, counted, count_is)) claims noticed all seen

        placed : (prefix : List Entry) (e : Entry) → j ≡ prefix ++ e ∷ [] → e.feed < k → (e.feed < length bs) ⊎ (length bs ≤ e.feed) → length j ≤ n
        placed prefix e is counted (inl lt) = of_radio prefix e is lt
        placed prefix e is counted (inr ge) = later prefix e is counted ge (below_or e.feed (length cs + length ps))

        go : (j ≡ []) ⊎ ((r : List Entry) × (x : Entry) × (j ≡ r ++ x ∷ [])) → length j ≤ n
        go (inl none) = let e = ap length none in omega (arith, e)
        go (inr (prefix, e, is)) =
            let kept = All-head (IsKept k) e [] (all_right (IsKept k) prefix (e ∷ []) (subst (All (IsKept k)) is valid)) in
            placed prefix e is kept.valid.feed (below_or e.feed (length bs))

module _ {L T X : Type 0} {F : X → Type 0} (table : TableId) (k : ℕ) (cs : List (RadioJob L X F)) (ps : List (PollJob T)) (l : Option (LeapJob L))
    (claims : map (λ f. claim_of f.view) (passes_of cs ps l) ≡ map new_claim (range_with_len 0 k)) (tables : All (λ f. f.table ≡ table) (passes_of cs ps l)) where
  feed_count : length cs + length ps + length (option_to_list l) ≡ k
  feed_count = let e = ap length claims in omega (arith, e, feeds_length cs ps l, length-map (passes_of cs ps l) (λ (f : Known). claim_of f.view), length-map-range_with_len new_claim 0 k)

  -- a radio's worker that was manned may run
  pub may_receive : (stands : Boxed X F → History → Type 0) (least : Boxed X F → ℕ) (receivers : List (Boxed X F)) → Pairs (IsAssigned stands least) receivers cs → All (MayReceive least table k) cs
  may_receive stands least receivers assigned = λ i d lt.
      let e = some_of receivers i (omega (arith, lt, pairs_length (IsAssigned stands least) receivers cs assigned)) in
      let h = pairs_at (IsAssigned stands least) receivers cs i e d assigned (omega (arith, lt, pairs_length (IsAssigned stands least) receivers cs assigned)) in
      let number = ap (λ (c : Claim). c.number) (radio_claim cs ps l k i d claims lt) in
      record {
        ready = h.ready;
        pass = record {
          table_is = ap (λ (f : Known). f.table) (sym (radio_at cs ps l i d lt)) ∙ tables i (radio_pass d) (omega (arith, lt, feeds_length cs ps l));
          feed_is = sym h.feed;
          source = (let f = h.feed in omega (arith, f, number, lt, feed_count));
        };
        feed = h.feed;
      }

  -- so may a server's
  pub may_poll : All (MayPoll table k) ps
  may_poll = λ i d lt.
      let number = ap (λ (c : Claim). c.number) (poller_claim cs ps l k i d claims lt) in
      record {
        pass = record {
          table_is = ap (λ (f : Known). f.table) (sym (poller_at cs ps l i d lt)) ∙ tables (length cs + i) (poll_pass d) (omega (arith, lt, feeds_length cs ps l));
          feed_is = refl;
          source = omega (arith, number, lt, feed_count);
        };
      }

  -- and that of the leap second file
  pub may_notice : IfSome l (MayNotice table k)
  may_notice = may l claims tables feed_count
    where
      may : (x : Option (LeapJob L)) → map (λ f. claim_of f.view) (passes_of cs ps x) ≡ map new_claim (range_with_len 0 k) → All (λ f. f.table ≡ table) (passes_of cs ps x)
          → length cs + length ps + length (option_to_list x) ≡ k → IfSome x (MayNotice table k)
      may None reported of counted = tt
      may (Some x) reported of counted =
          let number = ap (λ (c : Claim). c.number) (leap_claim cs ps x k reported) in
          record {
            pass = record {
              table_is = ap (λ (f : Known). f.table) (sym (leap_at cs ps x (leap_pass x))) ∙ of (length cs + length ps) (leap_pass x) (omega (arith, feeds_length cs ps (Some x)));
              feed_is = refl;
              source = omega (arith, number, counted);
            };
          }

  -- through the first phase the passes of the feeds stay those of the cell
  pub feeds_keep : (stands : Boxed X F → History → Type 0) (log_state : L → SourceState) (log_opening : L → ℕ) (state : T → LinkState) (opening : T → ℕ) (limit : ℕ) (bs : List (RadioJob L X F)) (qs : List (PollJob T)) (m : Option (LeapJob L))
      → Each (RadioRan stands log_state log_opening limit) cs bs → length bs ≡ length cs → Each (PollRan state opening limit) ps qs → length qs ≡ length ps → Both (LeapRan log_state log_opening limit) l m
      → All (λ f. f.table ≡ table) (passes_of bs qs m)
  feeds_keep stands log_state log_opening state opening limit bs qs m ran same polled same' noticed =
      let P : Known → Type 0 = λ f. f.table ≡ table in
      let hear : All (λ (x : RadioJob L X F). x.worker.pass.table ≡ table) cs = λ i d lt. ap (λ (f : Known). f.table) (sym (radio_at cs ps l i d lt)) ∙ tables i (radio_pass d) (omega (arith, lt, feeds_length cs ps l)) in
      let one = each_keeps (λ x. x.worker.pass.table ≡ table) (RadioRan stands log_state log_opening limit) (λ a b z h. z.table ∙ h) cs bs ran same hear in
      let two = each_keeps (λ x. x.worker.pass.table ≡ table) (PollRan state opening limit) (λ a b z h. z.table ∙ h) ps qs polled same' (λ i d lt. (may_poll i d lt).pass.table_is) in
      let three = both_keeps (λ x. x.worker.pass.table ≡ table) (MayNotice table k) (LeapRan log_state log_opening limit) (λ a b z h. z.table ∙ h.pass.table_is) l m noticed may_notice in
      All-append P (map radio_pass bs ++ map poll_pass qs) (map leap_pass (option_to_list m)) (All-append P (map radio_pass bs) (map poll_pass qs) (All-map P radio_pass bs one) (All-map P poll_pass qs two)) (All-map P leap_pass (option_to_list m) three)
