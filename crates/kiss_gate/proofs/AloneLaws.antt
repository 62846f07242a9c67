-- While no client is dropped, each has in the table what it would have alone.
use Rattle.std.proofs.Common.{◌≡◌, ℕ, zero, suc, ◌+◌, ◌≤◌, ◌<◌, ◌==◌, ◌&&◌, Bool, true, false, List, [], ◌∷◌, length, take, Option, Some, None, is_some, nat_eq, nat_lt, if◌then◌else◌, refl, sym, ap, subst, ◌∙◌, ◌⊎◌, inl, inr, arith, length-take}
use Rattle.std.specs.List.{list_any}
use Rattle.std.specs.Map.{lookup, remove_entry}
use Rattle.std.proofs.lemmas.Bool.{cases_Bool, eqb-true}
use Rattle.std.proofs.lemmas.List.{take_all}
use Rattle.reply_core.specs.declared.code.Code.{Code}
use Rattle.reply_core.specs.declared.code.Code.TheVariants.{Pass, Deny, Rate}
use Rattle.kiss_gate.specs.Nets.{is_denied}
use Rattle.kiss_gate.specs.Gates.{Gate, with_table}
use Rattle.kiss_gate.specs.Clients.{code_by, code_of, in_front, table_after}
use Rattle.kiss_gate.specs.Histories.{Request, gate_after, senders, only, code_alone}
use Rattle.kiss_gate.proofs.TableLaws.{Table, one_left}

-- the moment that a client has after a request, by the one that it had
abbrev moment_by : Code → ℕ → ℕ → Option ℕ → Option ℕ
moment_by Deny gap at last = last
moment_by Rate gap at last = last
moment_by Pass gap at last = if gap == 0 then last else Some at

-- the moment that a client has, if none is ever dropped
abbrev moment_of : Gate → ℕ → List Request → Option ℕ
moment_of gate q [] = None
moment_of gate q (r ∷ older) = if nat_eq q r.ip
    then moment_by (code_by (is_denied r.ip gate.denied) gate.gap r.at (moment_of gate q older)) gate.gap r.at (moment_of gate q older)
    else moment_of gate q older

-- another client's pair doesn't matter
other_removed : (q ip : ℕ) (es : Table) → nat_eq q ip ≡ false → lookup (nat_eq q) (remove_entry (nat_eq ip) es) ≡ lookup (nat_eq q) es
other_removed q ip [] apart = refl
other_removed q ip (e ∷ es) apart = elim (cases_Bool (nat_eq ip e.0)) [
  | inl same ↦
      let key : ip ≡ e.0 = eqb-true ip e.0 same in
      let not_here : nat_eq q e.0 ≡ false = ap (nat_eq q) (sym key) ∙ apart in
      rw (same, not_here) refl
  | inr other ↦ elim (cases_Bool (nat_eq q e.0)) [
    | inl here ↦ rw (other, here) refl
    | inr not_here ↦ rw (other, not_here) (other_removed q ip es apart)
  ]
]

none_left : (ip : ℕ) (es : Table) → length (remove_entry (nat_eq ip) es) ≤ length es
none_left ip [] = omega arith
none_left ip (e ∷ es) = elim (cases_Bool (nat_eq ip e.0)) [
  | inl same ↦ rw same (omega arith)
  | inr other ↦ let rest = none_left ip es in rw other (omega arith)
]

-- what a client has in the table after a request of one, if none is dropped
own : (q : ℕ) (gate : Gate) (ip at : ℕ) (code : Code) → nat_eq q ip ≡ true → 0 < gate.clients →
    lookup (nat_eq q) (table_after code gate ip at) ≡ moment_by code gate.gap at (lookup (nat_eq q) gate.table)
own q gate ip at Deny same some = refl
own q gate ip at Rate same some = by (lookup (nat_eq ip) gate.table) (ap (λ k. lookup (nat_eq k) gate.table) (eqb-true q ip same))
  where
    by : (o : Option ℕ) → lookup (nat_eq q) gate.table ≡ o → lookup (nat_eq q) (in_front ip o gate.table) ≡ lookup (nat_eq q) gate.table
    by None h = refl
    by (Some last) h = rw same (sym h)
own q gate ip at Pass same some = elim (cases_Bool (gate.gap == 0)) [
  | inl off ↦ rw off refl
  | inr on ↦ rw on (by gate.clients some)
]
  where
    by : (n : ℕ) → 0 < n → lookup (nat_eq q) (take n ((ip, at) ∷ remove_entry (nat_eq ip) gate.table)) ≡ Some at
    by zero none = absurd (omega arith)
    by (suc n) some' = rw same refl

-- what another client has, where there is room
others : (q : ℕ) (gate : Gate) (ip at : ℕ) (code : Code) → nat_eq q ip ≡ false → (code ≡ Pass → (gate.gap == 0) ≡ false → length (remove_entry (nat_eq ip) gate.table) < gate.clients) →
    lookup (nat_eq q) (table_after code gate ip at) ≡ lookup (nat_eq q) gate.table
others q gate ip at Deny apart room = refl
others q gate ip at Rate apart room = by (lookup (nat_eq ip) gate.table)
  where
    by : (o : Option ℕ) → lookup (nat_eq q) (in_front ip o gate.table) ≡ lookup (nat_eq q) gate.table
    by None = refl
    by (Some last) = rw apart (other_removed q ip gate.table apart)
others q gate ip at Pass apart room = elim (cases_Bool (gate.gap == 0)) [
  | inl off ↦ rw off refl
  | inr on ↦
      let less = room refl on in
      let all : take gate.clients ((ip, at) ∷ remove_entry (nat_eq ip) gate.table) ≡ (ip, at) ∷ remove_entry (nat_eq ip) gate.table = take_all gate.clients _ (omega arith) in
      rw (on, all, apart) (other_removed q ip gate.table apart)
]

-- how many clients are in the table afterwards
count_after : (gate : Gate) (ip at n : ℕ) (code : Code) → length gate.table ≤ n → (code ≡ Pass → (gate.gap == 0) ≡ false → length (remove_entry (nat_eq ip) gate.table) + 1 ≤ n) → length (table_after code gate ip at) ≤ n
count_after gate ip at n Deny few grows = few
count_after gate ip at n Rate few grows = by (lookup (nat_eq ip) gate.table) refl
  where
    by : (o : Option ℕ) → lookup (nat_eq ip) gate.table ≡ o → length (in_front ip o gate.table) ≤ n
    by None h = few
    by (Some last) h = omega (arith, one_left ip gate.table (ap is_some h))
count_after gate ip at n Pass few grows = elim (cases_Bool (gate.gap == 0)) [
  | inl off ↦ rw off few
  | inr on ↦ let more = grows refl on in rw on (omega (arith, length-take {A = ℕ × ℕ}))
]

-- only a client that is not denied passes
not_denied : (denied : Bool) (gap at : ℕ) (last : Option ℕ) → code_by denied gap at last ≡ Pass → denied ≡ false
not_denied true gap at last h = cc
not_denied false gap at last h = refl

fewer_before : (r : Request) (older : List Request) → length (senders older) ≤ length (senders (r ∷ older))
fewer_before r older = elim (cases_Bool (list_any (nat_eq r.ip) (senders older))) [
  | inl known ↦ rw known (omega arith)
  | inr new ↦ rw new (omega arith)
]

some_sender : (r : Request) (older : List Request) → 1 ≤ length (senders (r ∷ older))
some_sender r older = elim (cases_Bool (list_any (nat_eq r.ip) (senders older))) [
  | inl known ↦ rw known (by (senders older) known)
  | inr new ↦ rw new (omega arith)
]
  where
    by : (ids : List ℕ) → list_any (nat_eq r.ip) ids ≡ true → 1 ≤ length ids
    by [] h = cc
    by (id ∷ ids) h = omega arith

-- a client that is not denied and has been judged has a moment
stays_some : (gap at : ℕ) (last : Option ℕ) → (gap == 0) ≡ false → is_some (moment_by (code_by false gap at last) gap at last) ≡ true
stays_some gap at None on = elim (cases_Bool (nat_lt 0 gap)) [
  | inl positive ↦ rw (positive, on) refl
  | inr none ↦ rw (none, on) refl
]
stays_some gap at (Some last) on = elim (cases_Bool (nat_lt 0 gap && nat_lt at (last + gap))) [
  | inl soon ↦ rw soon refl
  | inr late ↦ rw (late, on) refl
]

known_moment : (gate : Gate) (q : ℕ) (rs : List Request) → is_denied q gate.denied ≡ false → (gate.gap == 0) ≡ false → list_any (nat_eq q) (senders rs) ≡ true → is_some (moment_of gate q rs) ≡ true
known_moment gate q [] served on h = cc
known_moment gate q (r ∷ older) served on h = elim (cases_Bool (nat_eq q r.ip)) [
  | inl same ↦
      let key = eqb-true q r.ip same in
      let free : is_denied r.ip gate.denied ≡ false = ap (λ k. is_denied k gate.denied) (sym key) ∙ served in
      rw (same, free) (stays_some gate.gap r.at (moment_of gate q older) on)
  | inr other ↦ rw other (known_moment gate q older served on (elim (cases_Bool (list_any (nat_eq r.ip) (senders older))) [
    | inl known ↦ rw known at h
    | inr new ↦ rw (new, other) at h
  ]))
]

-- the table has each client's moment, and no more clients than were senders
record Keeps (gate : Gate) (table : Table) (rs : List Request) : Type 0 where
  few : length table ≤ length (senders rs)
  each : (q : ℕ) → lookup (nat_eq q) table ≡ moment_of gate q rs

step : (gate : Gate) (table : Table) (r : Request) (older : List Request) → Keeps gate table older → length (senders (r ∷ older)) ≤ gate.clients →
    Keeps gate (table_after (code_of (with_table gate table) r.ip r.at) (with_table gate table) r.ip r.at) (r ∷ older)
step gate table r older k room =
    let here = with_table gate table in
    let code = code_of here r.ip r.at in
    let less = fewer_before r older in
    let few = k.few in
    let some = some_sender r older in
    record {
      few = count_after here r.ip r.at (length (senders (r ∷ older))) code (omega arith) (λ passes on. grows passes on);
      each = λ q. elim (cases_Bool (nat_eq q r.ip)) [
        | inl same ↦
            let key = eqb-true q r.ip same in
            let had : lookup (nat_eq r.ip) table ≡ moment_of gate q older = ap (λ i. lookup (nat_eq i) table) (sym key) ∙ k.each q in
            rw same (own q here r.ip r.at code same (omega arith) ∙ (λ i. moment_by (code_by (is_denied r.ip gate.denied) gate.gap r.at (had i)) gate.gap r.at (k.each q i)))
        | inr apart ↦ rw apart (others q here r.ip r.at code apart (λ passes on. let more = grows passes on in omega arith) ∙ k.each q)
      ];
    }
  where
    grows : code_of (with_table gate table) r.ip r.at ≡ Pass → (gate.gap == 0) ≡ false → length (remove_entry (nat_eq r.ip) table) + 1 ≤ length (senders (r ∷ older))
    grows passes on =
        let served = not_denied (is_denied r.ip gate.denied) gate.gap r.at (lookup (nat_eq r.ip) table) passes in
        let few = k.few in
        let less = fewer_before r older in
        elim (cases_Bool (is_some (lookup (nat_eq r.ip) table))) [
          | inl there ↦ omega (arith, one_left r.ip table there)
          | inr not_there ↦ elim (cases_Bool (list_any (nat_eq r.ip) (senders older))) [
            | inl judged ↦ absurd (let has = ap is_some (k.each r.ip) ∙ known_moment gate r.ip older served on judged in let never : true ≡ false = sym has ∙ not_there in cc)
            | inr new ↦ rw new (omega (arith, none_left r.ip table))
          ]
        ]

-- the rules stay
pub same_rules : (gate : Gate) (rs : List Request) → gate_after gate rs ≡ with_table gate (gate_after gate rs).table
same_rules gate [] = refl
same_rules gate (r ∷ older) = ap (λ g. with_table g (gate_after gate (r ∷ older)).table) (same_rules gate older)

keeps : (gate : Gate) (rs : List Request) → length (senders rs) ≤ gate.clients → Keeps gate (gate_after gate rs).table rs
keeps gate [] room = record { few = omega arith; each = λ q. refl }
keeps gate (r ∷ older) room =
    let before = keeps gate older (omega (arith, fewer_before r older)) in
    subst (λ g. Keeps gate (table_after (code_of g r.ip r.at) g r.ip r.at) (r ∷ older)) (sym (same_rules gate older)) (step gate (gate_after gate older).table r older before room)

-- one sender alone
one_sender : (q : ℕ) (rs : List Request) → (length (senders (only q rs)) ≤ 1) × ((list_any (nat_eq q) (senders (only q rs)) ≡ true) ⊎ (senders (only q rs) ≡ []))
one_sender q [] = (omega arith, inr refl)
one_sender q (r ∷ older) = elim (cases_Bool (nat_eq q r.ip)) [
  | inl same ↦
      let key = eqb-true q r.ip same in
      let rest = one_sender q older in
      elim rest.1 [
        | inl known ↦ let there : list_any (nat_eq r.ip) (senders (only q older)) ≡ true = ap (λ k. list_any (nat_eq k) (senders (only q older))) (sym key) ∙ known in rw (same, there) (rest.0, inl known)
        | inr none ↦ rw (same, none, same) (omega arith, inl refl)
      ]
  | inr other ↦ rw other (one_sender q older)
]

same_moment : (gate : Gate) (q : ℕ) (rs : List Request) → moment_of gate q (only q rs) ≡ moment_of gate q rs
same_moment gate q [] = refl
same_moment gate q (r ∷ older) = elim (cases_Bool (nat_eq q r.ip)) [
  | inl same ↦ rw (same, same) (ap (λ m. moment_by (code_by (is_denied r.ip gate.denied) gate.gap r.at m) gate.gap r.at m) (same_moment gate q older))
  | inr other ↦ rw other (same_moment gate q older)
]

-- the code is the one that the sender would get alone
pub alone : (gate : Gate) (rs : List Request) (ip at : ℕ) → gate ≡ gate_after gate rs → length (senders (record { ip = ip; at = at } ∷ rs)) ≤ gate.clients → code_of gate ip at ≡ code_alone gate rs ip at
alone gate rs ip at is room =
    let r : Request = record { ip = ip; at = at } in
    let some = some_sender r rs in
    let all = keeps gate rs (omega (arith, fewer_before r rs)) in
    let one = keeps gate (only ip rs) (omega (arith, (one_sender ip rs).0)) in
    let here : lookup (nat_eq ip) gate.table ≡ moment_of gate ip rs = ap (λ g. lookup (nat_eq ip) g.table) is ∙ all.each ip in
    let there : lookup (nat_eq ip) (gate_after gate (only ip rs)).table ≡ moment_of gate ip rs = one.each ip ∙ same_moment gate ip rs in
    ap (code_by (is_denied ip gate.denied) gate.gap at) (here ∙ sym there) ∙ sym (ap (λ g. code_of g ip at) (same_rules gate (only ip rs)))
