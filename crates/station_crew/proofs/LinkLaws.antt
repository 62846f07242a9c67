-- What closing reports of each link that the station serves on.
use Rattle.std.proofs.Common.{◌≡◌, ℕ, zero, suc, ◌<◌, ◌≤◌, List, [], ◌∷◌, ◌++◌, None, Bool, true, false, map, length, refl, sym, ap, ◌∙◌, subst, arith}
use Rattle.std.specs.Prelude.{All, get_or}
use Rattle.std.specs.List.{flat_map, sum_by}
use Rattle.std.proofs.lemmas.Bool.{true≢false}
use Rattle.std.proofs.lemmas.Grind.{flat_map-append}
use Rattle.std.proofs.lemmas.List.{length-map, get_or-map, map-append, append-nil}
use Rattle.std.proofs.lemmas.List.Elements.{All-nil, All-append, All-cons, All-head, All-tail, All-weaker}
use Rattle.atomic_table.specs.Seated.{TableId}
use Rattle.outside_traits.proofs.StateLaws.{Adds-none}
use Rattle.outside_traits.specs.States.{LinkState}
use Rattle.journal_entry.specs.declared.entry.Entry.{Entry}
use Rattle.kiss_gate.specs.Gates.{Gate}
use Rattle.packet_auth.specs.Keys.{KeyFields, keys_of}
use Rattle.packet_auth.specs.declared.ring.KeyRing.{KeyRing}
use Rattle.page_cell.proofs.PageWords.{reading-page}
use Rattle.page_cell.specs.Claims.{IsReading}
use Rattle.page_cell.specs.Passes.{Known, KnownReader}
use Rattle.page_cell.specs.declared.view.View.{View}
use Rattle.responder.proofs.TurnLaws.{rises_both, took_none, turns_both}
use Rattle.responder.specs.Desks.{Desk, desk_of}
use Rattle.responder.specs.Serving.{Serves, Took}
use Rattle.responder.specs.Turns.{Turn, Reading, readings_of, IsRead, AreTurns, torn_of, Rises, kept}
use Rattle.responder.specs.declared.served.End.{End}
use Rattle.responder.specs.declared.served.End.TheVariants.{Count, LinkEnd, LinkFault}
use Rattle.responder.specs.declared.served.Served.{Served}
use Rattle.feed_workers.proofs.ListLaws.{all_right, each_map, map_both, some_of}
use Rattle.station_crew.specs.Crews.{IsNewReader}
use Rattle.station_crew.specs.Collecting.{link_of, serve_pass}
use Rattle.station_crew.specs.Jobs.{HasServed, HasServedAgain}
use Rattle.feed_workers.specs.Lists.{Each}
use Rattle.feed_workers.specs.Served.{HasSecond, IsReadOf, LinksServed, ServesLink, ServesPhase, Service, seen}
use Rattle.station_crew.specs.Informing.{HasSeenAll, HasServedTwice, WasInformed}
use Rattle.station_crew.specs.declared.jobs.ServeJob.{ServeJob}
use Rattle.feed_workers.specs.declared.crew.Budget.{Budget}
use Rattle.feed_workers.specs.declared.crew.LinkWork.{LinkWork}
use Rattle.system_fold.specs.Settings.{SettingsFields}
use Rattle.verdict_journal.specs.Journals.{HasRead}

read_of : (s : SettingsFields) (j : List Entry) (r : Reading) → IsReading s j (kept r) → IsRead r → IsReadOf s j r
read_of s j r h page = record { within = h.within; page = reading-page s j r.length r.page h page }

reads_of : (s : SettingsFields) (j : List Entry) (rs : List Reading) → All (IsReading s j) (map kept rs) → All IsRead rs → All (IsReadOf s j) rs
reads_of s j [] h pages = All-nil (IsReadOf s j)
reads_of s j (r ∷ rs) h pages = All-cons (IsReadOf s j) r rs (read_of s j r (All-head (IsReading s j) (kept r) (map kept rs) h) (All-head IsRead r rs pages))
    (reads_of s j rs (All-tail (IsReading s j) (kept r) (map kept rs) h) (All-tail IsRead r rs pages))

rises_from : (n m k : ℕ) (r : Reading) (rs : List Reading) → n ≤ m → Rises m (r ∷ rs) k → Rises n (r ∷ rs) k
rises_from n m k r rs le p = (let h = p.0 in omega (arith, h, le), p.1)

rises_gap : (n m m' k : ℕ) (rs qs : List Reading) → Rises n rs m → m ≤ m' → Rises m' qs k → (z : ℕ) × Rises n (rs ++ qs) z
rises_gap n m m' k rs [] p le q = (m, subst (λ l. Rises n l m) (sym (append-nil rs)) p)
rises_gap n m m' k rs (r ∷ qs) p le q = (k, rises_both n m k rs (r ∷ qs) p (rises_from m m' k r qs le q))

rises_all : (n k : ℕ) (rs : List Reading) → Rises n rs k → All (λ r. n ≤ r.length) rs
rises_all n k [] p = All-nil (λ r. n ≤ r.length)
rises_all n k (r ∷ rs) p = All-cons (λ q. n ≤ q.length) r rs p.0 (All-weaker (λ q. r.length ≤ q.length) (λ q. n ≤ q.length) (λ q h. let g = p.0 in omega (arith, g, h)) rs (rises_all r.length k rs p.1))

both_bounds : (s : SettingsFields) (j : List Entry) (n : ℕ) (rs : List Reading) → length j ≤ n → All (λ r. n ≤ r.length) rs → All (IsReadOf s j) rs → All (λ r. r.length ≡ length j) rs
both_bounds s j n [] le p q = All-nil (λ r. r.length ≡ length j)
both_bounds s j n (r ∷ rs) le p q = All-cons (λ x. x.length ≡ length j) r rs (let a = All-head (λ x. n ≤ x.length) r rs p in let b = (All-head (IsReadOf s j) r rs q).within in omega (arith, a, b, le)) (both_bounds s j n rs le (All-tail (λ x. n ≤ x.length) r rs p) (All-tail (IsReadOf s j) r rs q))

none_or : (n : ℕ) → ((0 < n) → ⊥) → n ≡ 0
none_or zero f = refl
none_or (suc n) f = absurd (f (omega arith))

is_count : End → Bool
is_count Count = true
is_count LinkEnd = false
is_count LinkFault = false

phase_of : (before now : Desk) (budget : ℕ) (served : Served) (r : Serves before now budget served) → ServesPhase budget before.link now.link served r.turns
phase_of before now budget served r = record {
  events = r.took.events;
  most = r.most;
  ends = r.ends;
  counts = record { answered = r.answered; dropped = r.dropped; again = r.again; kissed = r.kissed; unkept = r.unkept };
}

abbrev by_parts : List KeyFields → Gate → SettingsFields → List Entry → Budget → Service
by_parts keys gate settings journal budget = record { keys = keys; gate = gate; settings = settings; journal = journal; during = budget.during; after = budget.after }

-- the turns of a link by what its responder did in both phases, and by what the journal reports of its pass
serves_link : {T : Type 0} (state : T → LinkState) (opening : T → ℕ) (keys : List KeyFields) (gate : Gate) (s : SettingsFields) (j : List Entry) (budget : Budget) (feeds : List Known) (a b : ServeJob T)
    → a.responder.pass.view.seen ≡ 0 → a.responder.pass.view.readings ≡ [] → a.responder.pass.view.watch.torn ≡ 0 → a.work.second ≡ None
    → keys_of a.responder.keys ≡ keys → a.responder.clients ≡ gate → ((r : KnownReader) → HasSeenAll feeds r → length j ≤ r.view.seen)
    → HasServedTwice state opening budget feeds a b → HasRead s j b.responder.pass.view → ServesLink (by_parts keys gate s j budget) (state a.responder.link) (state b.responder.link) b.work
unfolding is_count
serves_link {T = T} state opening keys gate s j budget feeds a b unseen unread untorn none keyed gated bound t h = go t.informed.work.first.end refl
  where
    first : List Turn
    first = t.served.serves.turns

    p : Took (desk_of state a.responder) (desk_of state t.between.responder) first
    p = t.served.serves.took

    valid_first : AreTurns keys gate first t.between.responder.clients
    valid_first = subst (λ z. AreTurns keys z first t.between.responder.clients) gated (subst (λ ks. AreTurns ks a.responder.clients first t.between.responder.clients) keyed p.valid)

    informed_keys : keys_of t.informed.responder.keys ≡ keys
    informed_keys = ap keys_of (t.learnt.keys ∙ t.served.same.keys) ∙ keyed

    link_is : state t.informed.responder.link ≡ state t.between.responder.link
    link_is = ap state t.learnt.link

    informed : Desk
    informed = desk_of state t.informed.responder

    -- the desk at the end, with the gate that the turns of the second phase left
    left_with : Gate → Desk
    left_with last_gate = record (desk_of state b.responder) { gate = last_gate }

    v : View
    v = t.informed.responder.pass.view

    le : length j ≤ v.seen
    le = bound t.informed.responder.pass t.learnt.seen

    first_is : b.work.first ≡ t.between.work.first
    first_is = t.again.first ∙ ap (λ (z : LinkWork). z.first) t.learnt.work

    end_is : t.informed.work.first.end ≡ b.work.first.end
    end_is = ap (λ (z : Served). z.end) (sym t.again.first)

    readings_reported : v.readings ≡ map kept (flat_map readings_of first)
    readings_reported = t.learnt.learnt.readings ∙ p.readings ∙ ap (λ l. l ++ map kept (flat_map readings_of first)) unread

    rises : Rises 0 (flat_map readings_of first) t.between.responder.pass.view.seen
    rises = subst (λ n. Rises n (flat_map readings_of first) t.between.responder.pass.view.seen) unseen p.rising

    torn_informed : v.watch.torn ≡ sum_by torn_of first
    torn_informed = ap (λ w. w.torn) t.learnt.learnt.watch ∙ p.torn ∙ (let z = untorn in omega (arith, z))

    gone : (second : List Turn) (last_gate : Gate) → Took informed (left_with last_gate) second → HasSecond budget.after (state t.between.responder.link) (state b.responder.link) b.work second
        → ServesLink (by_parts keys gate s j budget) (state a.responder.link) (state b.responder.link) b.work
    gone second last_gate q ends =
        let whole : b.responder.pass.view.readings ≡ map kept (flat_map readings_of (first ++ second)) = q.readings ∙ ap (λ l. l ++ map kept (flat_map readings_of second)) readings_reported ∙ sym (map-append kept (flat_map readings_of first) (flat_map readings_of second)) ∙ ap (λ l. map kept l) (sym (flat_map-append readings_of first second)) in
        let pages = reads_of s j (flat_map readings_of (first ++ second)) (subst (All (IsReading s j)) whole h.readings)
        (subst (All IsRead) (sym (flat_map-append readings_of first second)) (All-append IsRead (flat_map readings_of first) (flat_map readings_of second) p.pages q.pages)) in
        let gap = rises_gap 0 _ v.seen _ (flat_map readings_of first) (flat_map readings_of second) rises t.learnt.learnt.seen q.rising in
        let back = all_right (IsReadOf s j) (flat_map readings_of first) (flat_map readings_of second) (subst (All (IsReadOf s j)) (flat_map-append readings_of first second) pages) in
        let great = h.tally.1 in
        let few = h.tally.0 in
        let quiet : sum_by torn_of second ≡ 0 = none_or (sum_by torn_of second) (λ some. let up = q.above some in omega (arith, up, le, great)) in
        record {
          first = first;
          second = second;
          between = state t.between.responder.link;
          first_phase = subst (λ z. ServesPhase budget.during (state a.responder.link) (state t.between.responder.link) z first) (sym first_is) (phase_of (desk_of state a.responder) (desk_of state t.between.responder) budget.during t.between.work.first t.served.serves);
          second_phase = ends;
          gate_now = last_gate;
          valid = turns_both keys gate t.between.responder.clients last_gate first second valid_first (subst (λ z. AreTurns keys z second last_gate) t.learnt.clients (subst (λ ks. AreTurns ks t.informed.responder.clients second last_gate) informed_keys q.valid));
          pages = pages;
          last = gap.0;
          rising = subst (λ l. Rises 0 l gap.0) (sym (flat_map-append readings_of first second)) gap.1;
          whole = both_bounds s j v.seen (flat_map readings_of second) le (rises_all v.seen _ (flat_map readings_of second) q.rising) back;
          none_again = quiet;
          few_again = (let e = q.torn in let f = torn_informed in omega (arith, quiet, e, f, few, great));
        }

    not_count : (e : End) → is_count e ≡ false → t.informed.work.first.end ≡ e → ServesLink (by_parts keys gate s j budget) (state a.responder.link) (state b.responder.link) b.work
    not_count e f is =
        let n = t.again.not (λ c. true≢false (ap is_count (sym c ∙ is) ∙ f)) in
        gone [] t.informed.responder.clients (subst (λ (z : KeyRing). Took informed (record informed { keys = keys_of z; link = state b.responder.link; view = b.responder.pass.view }) []) (sym t.again.same.keys)
        (subst (λ (z : T). Took informed (record informed { link = state z; view = b.responder.pass.view }) []) (sym n.1) (subst (λ (z : KnownReader). Took informed (record informed { view = z.view }) []) (sym n.2) (took_none informed informed.link (Adds-none informed.link.events)))))
        (record {
          served = (λ c. absurd (true≢false (ap is_count (sym c ∙ sym end_is ∙ is) ∙ f)));
          not = (λ _. (n.0 ∙ ap (λ (z : LinkWork). z.second) t.learnt.work ∙ t.served.second ∙ none, ap state n.1 ∙ link_is, refl));
        })

    go : (e : End) → t.informed.work.first.end ≡ e → ServesLink (by_parts keys gate s j budget) (state a.responder.link) (state b.responder.link) b.work
    go Count is =
        let r = t.again.again is in
        gone r.2.turns b.responder.clients r.2.took (record {
          served = (λ _. (r.0, r.1, subst (λ (z : LinkState). ServesPhase budget.after z (state b.responder.link) r.0 r.2.turns) link_is (phase_of informed (desk_of state b.responder) budget.after r.0 r.2)));
          not = (λ c. absurd (c (sym end_is ∙ is)));
        })
    go LinkEnd is = not_count LinkEnd refl is
    go LinkFault is = not_count LinkFault refl is

-- the passes of responders that are new are those of the cell
pub readers_are : {T : Type 0} (table : TableId) (xs : List (ServeJob T)) → All (IsNewReader table) (map serve_pass xs) → All (λ x. x.responder.pass.table ≡ table) xs
readers_are table xs new = λ i d lt. (subst (IsNewReader table) (get_or-map serve_pass xs i d (serve_pass d) lt) (new i (serve_pass d) (omega (arith, lt, length-map xs serve_pass)))).table_is

-- the responders have served in both phases
pub served_twice : {T : Type 0} (state : T → LinkState) (opening : T → ℕ) (budget : Budget) (feeds : List Known) (xs ys zs ws : List (ServeJob T))
    → Each (HasServed state opening budget.during) xs ys → length ys ≡ length xs → Each (WasInformed feeds) ys zs → length zs ≡ length ys → Each (HasServedAgain state opening budget.after) zs ws → Each (HasServedTwice state opening budget feeds) xs ws
served_twice state opening budget feeds xs ys zs ws first same informed count second = record {
  at = (λ i d lt.
      let lt1 : i < length ys = omega (arith, lt, same) in
      let lt2 : i < length zs = omega (arith, lt1, count) in
      record {
        between = get_or ys i d;
        informed = get_or zs i d;
        served = first.at i d lt;
        learnt = informed.at i d lt1;
        again = second.at i d lt2;
      });
}

pub links_served : {T : Type 0} (state : T → LinkState) (opening : T → ℕ) (keys : List KeyFields) (gate : Gate) (s : SettingsFields) (j : List Entry) (budget : Budget) (table : TableId) (feeds : List Known) (xs ys : List (ServeJob T))
    → Each (HasServedTwice state opening budget feeds) xs ys → length ys ≡ length xs → All (IsNewReader table) (map serve_pass xs) → All (λ x. x.work.second ≡ None) xs → All (λ x. keys_of x.responder.keys ≡ keys) xs → All (λ x. x.responder.clients ≡ gate) xs
    → All (λ r. HasRead s j r.view) (map serve_pass ys) → ((r : KnownReader) → HasSeenAll feeds r → length j ≤ r.view.seen)
    → LinksServed (seen state opening) (by_parts keys gate s j budget) (map link_of xs) (map link_of ys) (map (λ x. x.work) ys)
links_served {T = T} state opening keys gate s j budget table feeds xs ys served same new none keyed gated read bound = record {
  openings = map_both opening link_of ys ∙ each_map (λ (x : ServeJob T). opening x.responder.link) (HasServedTwice state opening budget feeds) (λ a b t. t.again.same.link ∙ ap opening t.learnt.link ∙ t.served.same.link) xs ys served same ∙ sym (map_both opening link_of xs);
  count = length-map ys (λ x. x.work) ∙ same ∙ sym (length-map xs link_of);
  at = (λ i a b work lt'.
      let lt : i < length xs = omega (arith, lt', length-map xs link_of) in
      let ltb : i < length ys = omega (arith, lt, same) in
      let d = some_of xs i lt in
      let f = subst (IsNewReader table) (get_or-map serve_pass xs i d (serve_pass d) lt) (new i (serve_pass d) (omega (arith, lt, length-map xs serve_pass))) in
      let r = subst (λ (r : KnownReader). HasRead s j r.view) (get_or-map serve_pass ys i d (serve_pass d) ltb) (read i (serve_pass d) (omega (arith, ltb, length-map ys serve_pass))) in
      subst (λ x. ServesLink (by_parts keys gate s j budget) (state x) (state (get_or (map link_of ys) i b)) (get_or (map (λ y. y.work) ys) i work)) (sym (get_or-map link_of xs i d a lt))
      (subst (λ x. ServesLink (by_parts keys gate s j budget) (state (get_or xs i d).responder.link) (state x) (get_or (map (λ y. y.work) ys) i work)) (sym (get_or-map link_of ys i d b ltb))
      (subst (λ x. ServesLink (by_parts keys gate s j budget) (state (get_or xs i d).responder.link) (state (get_or ys i d).responder.link) x) (sym (get_or-map (λ y. y.work) ys i d work ltb))
      (serves_link state opening keys gate s j budget feeds (get_or xs i d) (get_or ys i d) f.unseen f.unread f.untorn (none i d lt) (keyed i d lt) (gated i d lt) bound (served.at i d lt) r))));
}
