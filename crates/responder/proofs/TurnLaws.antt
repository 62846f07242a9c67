-- Turns, put one after another.
use Rattle.std.proofs.Common.{◌≡◌, ◌⊎◌, inl, inr, ℕ, zero, suc, ◌+◌, ◌<◌, ◌≤◌, List, [], ◌∷◌, ◌++◌, map, length, refl, sym, ap, ◌∙◌, subst, arith, length-append}
use Rattle.std.specs.Prelude.{All, Bool, true, false}
use Rattle.std.specs.Bool.{OnFalse, OnTrue}
use Rattle.std.specs.List.{flat_map, sum_by}
use Rattle.std.proofs.lemmas.Grind.{flat_map-append}
use Rattle.std.proofs.lemmas.List.{map-append, append-nil, append_assoc}
use Rattle.std.proofs.lemmas.List.Sums.{sum_by-append, sum_by_push}
use Rattle.std.proofs.lemmas.List.Elements.{All-nil, All-append, All-cons}
use Rattle.clock_page.specs.Page.{IsPage, PageFields, words}
use Rattle.outside_traits.specs.States.{NetEvent}
use Rattle.outside_traits.specs.States.{LinkState, Adds}
use Rattle.outside_traits.proofs.StateLaws.{Adds-none, Adds-more}
use Rattle.kiss_gate.specs.Gates.{Gate}
use Rattle.packet_auth.specs.Keys.{KeyFields}
use Rattle.page_cell.specs.declared.view.View.{View}
use Rattle.responder.specs.Desks.{Desk}
use Rattle.responder.specs.Turns.{Turn, Request, Reading, events_of, readings_of, IsRead, IsTurn, AreTurns, GoesOn, gate_with, passed, refused, lost, answered_of, dropped_of, torn_of, kissed_of, unkept_of, Rises, kept, came}
use Rattle.responder.specs.Turns.Turn.{Still, Last, Answered, Dropped, Torn, Unsent}
use Rattle.outside_traits.specs.Faults.{RoseByOne}
use Rattle.reply_core.specs.declared.code.Code.{Code}
use Rattle.reply_core.specs.declared.code.Code.TheVariants.{Pass, Deny, Rate}
use Rattle.responder.specs.declared.served.Served.{Served}
use Rattle.responder.specs.declared.served.End.{End}
use Rattle.responder.specs.declared.served.End.TheVariants.{Count, LinkEnd, LinkFault}
use Rattle.responder.specs.Serving.{Took, EndsBy, Serves}
use Rattle.responder.specs.Steps.{TookOne, with_judged, with_sent, counted, counted_all, Goes, IsLast, Stops, StopsUnsent, Serving}

pub rises_both : (n m k : ℕ) (rs qs : List Reading) → Rises n rs m → Rises m qs k → Rises n (rs ++ qs) k
rises_both n m k [] qs p q = subst (λ i. Rises i qs k) (sym p) q
rises_both n m k (r ∷ rs) qs p q = (p.0, rises_both r.length m k rs qs p.1 q)

pub rises_le : (n m : ℕ) (rs : List Reading) → Rises n rs m → n ≤ m
rises_le n m [] p = omega arith
rises_le n m (r ∷ rs) p = let q = rises_le r.length m rs p.1 in let h = p.0 in omega arith

-- turns after turns, from gate to gate
pub turns_both : (keys : List KeyFields) (A B C : Gate) (ts us : List Turn) → AreTurns keys A ts B → AreTurns keys B us C → AreTurns keys A (ts ++ us) C
turns_both keys A B C [] us p q = subst (λ z. AreTurns keys z us C) (sym p) q
turns_both keys A B C (t ∷ ts) us p q = (p.0, turns_both keys (gate_with A t) B C ts us p.1 q)

none_or_some : (n : ℕ) → (n ≡ 0) ⊎ (0 < n)
none_or_some zero = inl refl
none_or_some (suc n) = inr (omega arith)

pub took_none : (a : Desk) (now : LinkState) → Adds a.link.events now.events [] → Took a (record a { link = now }) []
took_none a now e = record { keys = refl; events = e; valid = refl; readings = sym (append-nil a.view.readings); pages = All-nil IsRead; rising = refl; torn = omega arith; greatest = omega arith; above = (λ h. absurd (omega arith)) }

pub took_one : (a b : Desk) (t : Turn) → TookOne a b [] t → Took a b (t ∷ [])
took_one a b t o = record {
  keys = o.keys;
  events = subst (λ l. Adds a.link.events b.link.events l) (sym o.split ∙ sym (append-nil (events_of t))) o.events;
  valid = (o.valid, sym o.stepped);
  readings = o.readings ∙ ap (λ l. a.view.readings ++ map kept l) (sym (append-nil (readings_of t)));
  pages = subst (λ l. All IsRead l) (sym (append-nil (readings_of t))) o.pages;
  rising = subst (λ l. Rises a.view.seen l b.view.seen) (sym (append-nil (readings_of t))) o.rising;
  torn = (let e = o.torn in omega arith);
  greatest = o.greatest;
  above = (λ h. o.above (omega arith));
}

pub took_both : (a b c : Desk) (ts us : List Turn) → Took a b ts → Took b c us → Took a c (ts ++ us)
took_both a b c ts us p q =
    record {
      keys = q.keys ∙ p.keys;
      events = subst (λ l. Adds a.link.events c.link.events l) (sym (flat_map-append events_of ts us)) (Adds-more a.link.events b.link.events c.link.events (flat_map events_of ts) (flat_map events_of us) p.events q.events);
      valid = turns_both a.keys a.gate b.gate c.gate ts us p.valid (subst (λ ks. AreTurns ks b.gate us c.gate) p.keys q.valid);
      readings = q.readings ∙ ap (λ l. l ++ map kept (flat_map readings_of us)) p.readings ∙ append_assoc a.view.readings (map kept (flat_map readings_of ts)) (map kept (flat_map readings_of us)) ∙ ap (λ l. a.view.readings ++ l) (sym (map-append kept (flat_map readings_of ts) (flat_map readings_of us)) ∙ ap (λ l. map kept l) (sym (flat_map-append readings_of ts us)));
      pages = subst (λ l. All IsRead l) (sym (flat_map-append readings_of ts us)) (All-append IsRead (flat_map readings_of ts) (flat_map readings_of us) p.pages q.pages);
      rising = subst (λ l. Rises a.view.seen l c.view.seen) (sym (flat_map-append readings_of ts us)) (rises_both a.view.seen b.view.seen c.view.seen (flat_map readings_of ts) (flat_map readings_of us) p.rising q.rising);
      torn = (let e = p.torn in let f = q.torn in omega (arith, sum_by-append torn_of ts us));
      greatest = (let e = p.greatest in let f = q.greatest in omega arith);
      above = (λ h. above_one h (none_or_some (sum_by torn_of ts)));
    }
  where
    above_one : 0 < sum_by torn_of (ts ++ us) → (sum_by torn_of ts ≡ 0) ⊎ (0 < sum_by torn_of ts) → a.view.seen < c.view.watch.greatest
    above_one h (inl z) = let le = rises_le a.view.seen b.view.seen (flat_map readings_of ts) p.rising in let f = q.above (omega (arith, sum_by-append torn_of ts us)) in omega arith
    above_one h (inr s) = let f = p.above s in let g = q.greatest in omega arith

-- a datagram's turn, of which the hearing was past, whole
pub with_past : (a b : Desk) (heard : LinkState) (past : List NetEvent) (t : Turn) → Adds a.link.events heard.events past → TookOne (record a { link = heard }) b past t → TookOne a b [] t
with_past a b heard past t reported o = record {
  keys = o.keys;
  more = events_of t;
  split = refl;
  events = subst (λ l. Adds a.link.events b.link.events l) (sym o.split) (Adds-more a.link.events heard.events b.link.events past o.more reported o.events);
  valid = o.valid;
  stepped = o.stepped;
  readings = o.readings;
  pages = o.pages;
  rising = o.rising;
  torn = o.torn;
  greatest = o.greatest;
  above = o.above;
}

pub serving_none : (a : Desk) (s : Served) → s.answered ≡ 0 → s.dropped ≡ 0 → s.again ≡ 0 → s.kissed ≡ 0 → s.unkept ≡ 0 → s.end ≡ Count → Serving a a 0 s
serving_none a s e f g k u h = record { turns = []; took = took_none a a.link (Adds-none a.link.events); go = All-nil GoesOn; length = refl; faults = refl; answered = e; dropped = f; again = g; kissed = k; unkept = u; end = h; most = (omega arith, omega arith, omega arith, omega arith, omega arith) }

-- what was counted of some turns, after what was counted before
record Counts (answered dropped again kissed unkept : ℕ) (s r : Served) : Type 0 where
  pub by_answered : r.answered ≡ s.answered + answered
  pub by_dropped : r.dropped ≡ s.dropped + dropped
  pub by_again : r.again ≡ s.again + again
  pub by_kissed : r.kissed ≡ s.kissed + kissed
  pub by_unkept : r.unkept ≡ s.unkept + unkept
  pub same_end : r.end ≡ s.end

counts_judged : (kept : Bool) (s : Served) → Counts 0 0 0 0 (lost kept) s (with_judged kept s)
counts_judged true s = record { by_answered = omega arith; by_dropped = omega arith; by_again = omega arith; by_kissed = omega arith; by_unkept = omega arith; same_end = refl }
counts_judged false s = record { by_answered = omega arith; by_dropped = omega arith; by_again = omega arith; by_kissed = omega arith; by_unkept = omega arith; same_end = refl }

counts_sent : (code : Code) (s : Served) → Counts (passed code) 0 0 (refused code) 0 s (with_sent code s)
counts_sent Pass s = record { by_answered = omega arith; by_dropped = omega arith; by_again = omega arith; by_kissed = omega arith; by_unkept = omega arith; same_end = refl }
counts_sent Deny s = record { by_answered = omega arith; by_dropped = omega arith; by_again = omega arith; by_kissed = omega arith; by_unkept = omega arith; same_end = refl }
counts_sent Rate s = record { by_answered = omega arith; by_dropped = omega arith; by_again = omega arith; by_kissed = omega arith; by_unkept = omega arith; same_end = refl }

counts_none : (s : Served) → Counts 0 0 0 0 0 s s
counts_none s = record { by_answered = omega arith; by_dropped = omega arith; by_again = omega arith; by_kissed = omega arith; by_unkept = omega arith; same_end = refl }

sum_first : (f : Turn → ℕ) (t : Turn) (ts : List Turn) → sum_by f (t ∷ ts) ≡ f t + sum_by f ts
sum_first f t ts = omega (arith, sum_by-append f (t ∷ []) ts)

CountsTurn : Turn → Served → Served → Type 0
CountsTurn t s r = Counts (answered_of t) (dropped_of t) (torn_of t) (kissed_of t) (unkept_of t) s r

counts_one : (t : Turn) (s : Served) → CountsTurn t s (counted t s)
unfolding CountsTurn
counts_one Still s = counts_none s
counts_one Last s = counts_none s
counts_one (Answered d r j m reply) s =
    let x = counts_judged j.kept s in
    let y = counts_sent j.code (with_judged j.kept s) in
    record {
      by_answered = (let a = x.by_answered in let b = y.by_answered in omega (arith, a, b));
      by_dropped = (let a = x.by_dropped in let b = y.by_dropped in omega (arith, a, b));
      by_again = (let a = x.by_again in let b = y.by_again in omega (arith, a, b));
      by_kissed = (let a = x.by_kissed in let b = y.by_kissed in omega (arith, a, b));
      by_unkept = (let a = x.by_unkept in let b = y.by_unkept in omega (arith, a, b));
      same_end = y.same_end ∙ x.same_end;
    }
counts_one (Dropped d r m) s = record { by_answered = omega arith; by_dropped = omega arith; by_again = omega arith; by_kissed = omega arith; by_unkept = omega arith; same_end = refl }
counts_one (Torn d) s = record { by_answered = omega arith; by_dropped = omega arith; by_again = omega arith; by_kissed = omega arith; by_unkept = omega arith; same_end = refl }
counts_one (Unsent d r j m reply) s = counts_judged j.kept s

counts_all : (ts : List Turn) (s : Served) → Counts (sum_by answered_of ts) (sum_by dropped_of ts) (sum_by torn_of ts) (sum_by kissed_of ts) (sum_by unkept_of ts) s (counted_all ts s)
unfolding CountsTurn
counts_all [] s = counts_none s
counts_all (t ∷ ts) s =
    let x = counts_one t s in
    let y = counts_all ts (counted t s) in
    record {
      by_answered = (let a = x.by_answered in let b = y.by_answered in omega (arith, a, b, sum_first answered_of t ts));
      by_dropped = (let a = x.by_dropped in let b = y.by_dropped in omega (arith, a, b, sum_first dropped_of t ts));
      by_again = (let a = x.by_again in let b = y.by_again in omega (arith, a, b, sum_first torn_of t ts));
      by_kissed = (let a = x.by_kissed in let b = y.by_kissed in omega (arith, a, b, sum_first kissed_of t ts));
      by_unkept = (let a = x.by_unkept in let b = y.by_unkept in omega (arith, a, b, sum_first unkept_of t ts));
      same_end = y.same_end ∙ x.same_end;
    }

-- a turn counts once at most for each
most_passed : (code : Code) → (passed code ≤ 1) × (refused code ≤ 1)
most_passed Pass = (omega arith, omega arith)
most_passed Deny = (omega arith, omega arith)
most_passed Rate = (omega arith, omega arith)

most_lost : (kept : Bool) → lost kept ≤ 1
most_lost true = omega arith
most_lost false = omega arith

most_of : (t : Turn) → (answered_of t ≤ 1) × (dropped_of t ≤ 1) × (torn_of t ≤ 1) × (kissed_of t ≤ 1) × (unkept_of t ≤ 1)
most_of Still = (omega arith, omega arith, omega arith, omega arith, omega arith)
most_of Last = (omega arith, omega arith, omega arith, omega arith, omega arith)
most_of (Answered d r j m reply) = ((most_passed j.code).0, omega arith, omega arith, (most_passed j.code).1, most_lost j.kept)
most_of (Dropped d r m) = (omega arith, omega arith, omega arith, omega arith, omega arith)
most_of (Torn d) = (omega arith, omega arith, omega arith, omega arith, omega arith)
most_of (Unsent d r j m reply) = (omega arith, omega arith, omega arith, omega arith, most_lost j.kept)

most_more : (n m k i : ℕ) → m ≤ n → i ≤ 1 → k ≡ m + i → k ≤ n + 1
most_more n m k i a b e = omega (arith, a, b, e)

pub serving_more : (a b c : Desk) (n : ℕ) (s r : Served) → Serving a b n s → Goes b c [] s r → Serving a c (n + 1) r
unfolding CountsTurn
serving_more a b c n s r p g =
    let most = p.most in
    let one = most_of g.turn in
    let k = subst (λ z. CountsTurn g.turn s z) (sym g.counted) (counts_one g.turn s) in
    record {
      turns = p.turns ++ g.turn ∷ [];
      took = took_both a b c p.turns (g.turn ∷ []) p.took (took_one b c g.turn g.took);
      go = All-append GoesOn p.turns (g.turn ∷ []) p.go (All-cons GoesOn g.turn [] g.goes (All-nil GoesOn));
      length = (let l = p.length in omega (arith, length-append p.turns (g.turn ∷ [])));
      faults = g.faults ∙ p.faults;
      answered = k.by_answered ∙ ap (λ k. k + answered_of g.turn) p.answered ∙ sym (sum_by_push answered_of p.turns g.turn);
      dropped = k.by_dropped ∙ ap (λ k. k + dropped_of g.turn) p.dropped ∙ sym (sum_by_push dropped_of p.turns g.turn);
      again = k.by_again ∙ ap (λ k. k + torn_of g.turn) p.again ∙ sym (sum_by_push torn_of p.turns g.turn);
      kissed = k.by_kissed ∙ ap (λ k. k + kissed_of g.turn) p.kissed ∙ sym (sum_by_push kissed_of p.turns g.turn);
      unkept = k.by_unkept ∙ ap (λ k. k + unkept_of g.turn) p.unkept ∙ sym (sum_by_push unkept_of p.turns g.turn);
      end = k.same_end ∙ p.end;
      most = (
        most_more n s.answered r.answered (answered_of g.turn) most.0 one.0 k.by_answered,
        most_more n s.dropped r.dropped (dropped_of g.turn) most.1 one.1 k.by_dropped,
        most_more n s.again r.again (torn_of g.turn) most.2 one.2 k.by_again,
        most_more n s.kissed r.kissed (kissed_of g.turn) most.3 one.3 k.by_kissed,
        most_more n s.unkept r.unkept (unkept_of g.turn) most.4 one.4 k.by_unkept,
      );
    }

pub serves_all : (a b : Desk) (n : ℕ) (s : Served) → Serving a b n s → Serves a b n s
serves_all a b n s p = record {
  turns = p.turns;
  took = p.took;
  most = (let l = p.length in omega arith);
  ends = subst (λ e. EndsBy n a.link.faults b.link.faults p.turns e) (sym p.end) (p.go, p.length, p.faults);
  answered = p.answered;
  dropped = p.dropped;
  again = p.again;
  kissed = p.kissed;
  unkept = p.unkept;
}

last_count : (before now : ℕ) (us : List Turn) (e : End) → IsLast before now us e → length us ≤ 1
last_count before now us Count l = absurd l
last_count before now us LinkEnd l = subst (λ q. length q ≤ 1) (sym l.0) (omega arith)
last_count before now us LinkFault (inl e, rose) = subst (λ q. length q ≤ 1) (sym e) (omega arith)
last_count before now us LinkFault (inr (d, r, j, s, reply, e), rose) = subst (λ q. length q ≤ 1) (sym e) (omega arith)

ends_by : (n before mid now : ℕ) (ts us : List Turn) (e : End) → All GoesOn ts → length ts < n → mid ≡ before → IsLast mid now us e → EndsBy n before now (ts ++ us) e
ends_by n before mid now ts us Count go lt same l = absurd l
ends_by n before mid now ts us LinkEnd go lt same l = (ts, ap (λ q. ts ++ q) l.0, go, lt, l.1 ∙ same)
ends_by n before mid now ts us LinkFault go lt same l = (ts, us, refl, go, l.0, lt, subst (λ m. RoseByOne m now) same l.1)

sum_more : (f : Turn → ℕ) (ts us : List Turn) (s r : ℕ) → r ≡ s + sum_by f us → s ≡ sum_by f ts → r ≡ sum_by f (ts ++ us)
sum_more f ts us s r e g = omega (arith, e, g, sum_by-append f ts us)

pub serves_some : (a b c : Desk) (i n : ℕ) (s r : Served) → i < n → Serving a b i s → Stops b c s r → Serves a c n r
serves_some a b c i n s r lt p q =
    let one = last_count b.link.faults c.link.faults q.turns r.end q.last in
    let k = counts_all q.turns s in
    record {
      turns = p.turns ++ q.turns;
      took = took_both a b c p.turns q.turns p.took q.took;
      most = (let l = p.length in omega (arith, l, one, length-append p.turns q.turns));
      ends = ends_by n a.link.faults b.link.faults c.link.faults p.turns q.turns r.end p.go (let l = p.length in omega (arith, l, lt)) p.faults q.last;
      answered = sum_more answered_of p.turns q.turns s.answered r.answered (ap (λ (z : Served). z.answered) q.counted ∙ k.by_answered) p.answered;
      dropped = sum_more dropped_of p.turns q.turns s.dropped r.dropped (ap (λ (z : Served). z.dropped) q.counted ∙ k.by_dropped) p.dropped;
      again = sum_more torn_of p.turns q.turns s.again r.again (ap (λ (z : Served). z.again) q.counted ∙ k.by_again) p.again;
      kissed = sum_more kissed_of p.turns q.turns s.kissed r.kissed (ap (λ (z : Served). z.kissed) q.counted ∙ k.by_kissed) p.kissed;
      unkept = sum_more unkept_of p.turns q.turns s.unkept r.unkept (ap (λ (z : Served). z.unkept) q.counted ∙ k.by_unkept) p.unkept;
    }

-- a datagram for which the pass read no page
pub torn_goes : (a : Desk) (w : View) (d : Request) (s : Served) → w.watch.torn ≡ a.view.watch.torn + 1 → w.seen ≡ a.view.seen → w.readings ≡ a.view.readings → a.view.seen < w.watch.greatest → a.view.watch.greatest ≤ w.watch.greatest
    → Goes a (record a { view = w }) (came d ∷ []) s (counted (Torn d) s)
torn_goes a w d s one seen same above more = record {
  turn = Torn d;
  took = record { keys = refl; more = []; split = refl; events = Adds-none a.link.events; valid = tt; stepped = refl; readings = same ∙ sym (append-nil a.view.readings); pages = All-nil IsRead; rising = sym seen; torn = one; greatest = more; above = (λ _. above) };
  goes = refl;
  counted = refl;
  faults = refl;
}

-- a datagram for which the pass read a page
pub read_one : (a b : Desk) (t : Turn) (d : Request) (p : PageFields) (more : List NetEvent) → b.keys ≡ a.keys → events_of t ≡ came d ∷ more → readings_of t ≡ record { length = b.view.seen; page = p } ∷ [] → torn_of t ≡ 0 → IsTurn a.keys a.gate t → b.gate ≡ gate_with a.gate t → Adds a.link.events b.link.events more
    → b.view.watch.torn ≡ a.view.watch.torn → a.view.seen ≤ b.view.seen → b.view.readings ≡ a.view.readings ++ (b.view.seen, words p) ∷ [] → IsPage p → a.view.watch.greatest ≤ b.view.watch.greatest → TookOne a b (came d ∷ []) t
read_one a b t d p more keys split read none valid stepped reported torn later readings page great = record {
  keys = keys;
  more = more;
  split = split;
  events = reported;
  valid = valid;
  stepped = stepped;
  readings = readings ∙ ap (λ l. a.view.readings ++ map kept l) (sym read);
  pages = subst (λ l. All IsRead l) (sym read) (All-cons IsRead (record { length = b.view.seen; page = p }) [] page (All-nil IsRead));
  rising = subst (λ l. Rises a.view.seen l b.view.seen) (sym read) (later, refl);
  torn = omega arith;
  greatest = great;
  above = (λ h. absurd (omega arith));
}

-- a datagram's turn, with its hearing
pub whole_goes : (a b : Desk) (heard : LinkState) (past : List NetEvent) (s r : Served) → Adds a.link.events heard.events past → heard.faults ≡ a.link.faults → Goes (record a { link = heard }) b past s r → Goes a b [] s r
whole_goes a b heard past s r reported same g = record {
  turn = g.turn;
  took = with_past a b heard past g.turn reported g.took;
  goes = g.goes;
  counted = g.counted;
  faults = g.faults ∙ same;
}

pub whole_unsent : (a b : Desk) (heard : LinkState) (past : List NetEvent) (s r : Served) → Adds a.link.events heard.events past → heard.faults ≡ a.link.faults → StopsUnsent (record a { link = heard }) b past s r → Stops a b s r
whole_unsent a b heard past s r reported same g =
    let turn = Unsent g.request g.reading g.judged g.moment g.reply in
    let end = ap (λ (z : Served). z.end) g.counted in
    record {
      turns = turn ∷ [];
      took = took_one a b turn (with_past a b heard past turn reported g.took);
      last = subst (λ e. IsLast a.link.faults b.link.faults (turn ∷ []) e) (sym end) (inr (g.request, g.reading, g.judged, g.moment, g.reply, refl), subst (λ n. RoseByOne n b.link.faults) same g.rose);
      counted = g.counted ∙ ap (λ e. record (with_judged g.judged.kept s) { end = e }) (sym end);
    }

pub on_false : (b : Bool) (P Q : Type 0) → (P → Q) → OnFalse b P → OnFalse b Q
on_false true P Q f h = h
on_false false P Q f h = f h

pub on_true : (b : Bool) (P Q : Type 0) → (P → Q) → OnTrue b P → OnTrue b Q
on_true true P Q f h = f h
on_true false P Q f h = h
