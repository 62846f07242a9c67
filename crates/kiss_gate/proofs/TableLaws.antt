-- What the cache of the clients does to the table, in the words of the gate.
use Rattle.std.proofs.Common.{◌≡◌, ℕ, zero, suc, ◌+◌, ◌-◌, ◌≤◌, ◌<◌, List, [], ◌∷◌, length, take, Option, Some, None, is_some, nat_eq, nat_lt, true, if◌then◌else◌, refl, sym, ap, ◌∙◌, inl, inr, arith}
use Rattle.std.proofs.lemmas.Bool.{cases_Bool, eqb-true}
use Rattle.std.proofs.lemmas.List.{take_all}
use Rattle.std.specs.Cmp.{nat_eq_equiv}
use Rattle.std.specs.Option.{option_map, option_map_or}
use Rattle.std.specs.Map.{lookup, lookup_entry, remove_entry, set_value}
use Rattle.lru.specs.LruCache.{LruCache, promoted, put_entries}
use Rattle.lru.proofs.CallerLemmas.{Contains-lookup_entry}
use Rattle.reply_core.specs.declared.code.Code.{Code}
use Rattle.reply_core.specs.declared.code.Code.TheVariants.{Pass, Rate}
use Rattle.kiss_gate.specs.Clients.{in_front, is_soon}

abbrev pub Table : Type 0
Table = List (ℕ × ℕ)

lookup-entry : (ip : ℕ) (es : Table) → lookup (nat_eq ip) es ≡ option_map (λ e. e.1) (lookup_entry (nat_eq ip) es)
lookup-entry ip [] = refl
lookup-entry ip (e ∷ es) = elim (cases_Bool (nat_eq ip e.0)) [
  | inl same ↦ rw same refl
  | inr other ↦ rw other (lookup-entry ip es)
]

entry_key : (ip : ℕ) (es : Table) (e : ℕ × ℕ) → lookup_entry (nat_eq ip) es ≡ Some e → ip ≡ e.0
entry_key ip es e h = eqb-true ip e.0 (Contains-lookup_entry (nat_eq ip) es e h).1

-- without a client's pair there is one less
pub length-removed : (ip : ℕ) (es : Table) (e : ℕ × ℕ) → lookup_entry (nat_eq ip) es ≡ Some e → length (remove_entry (nat_eq ip) es) + 1 ≡ length es
length-removed ip [] e h = cc
length-removed ip (f ∷ es) e h = elim (cases_Bool (nat_eq ip f.0)) [
  | inl same ↦ rw same (omega arith)
  | inr other ↦ let rest = length-removed ip es e (rw other at h) in rw other (omega arith)
]

pub removed-none : (ip : ℕ) (es : Table) → lookup_entry (nat_eq ip) es ≡ None → remove_entry (nat_eq ip) es ≡ es
removed-none ip [] h = refl
removed-none ip (f ∷ es) h = elim (cases_Bool (nat_eq ip f.0)) [
  | inl same ↦ (let never = rw same at h in cc)
  | inr other ↦ rw other (ap (λ (l : Table). f ∷ l) (removed-none ip es (rw other at h)))
]

promoted-by : (ip : ℕ) (es : Table) (o : Option (ℕ × ℕ)) → lookup_entry (nat_eq ip) es ≡ o → option_map_or (λ e. e ∷ remove_entry (nat_eq ip) es) o es ≡ in_front ip (option_map (λ e. e.1) o) es
promoted-by ip es None h = refl
promoted-by ip es (Some e) h = ap (λ (k : ℕ). (k, e.1) ∷ remove_entry (nat_eq ip) es) (sym (entry_key ip es e h))

-- `promote` brings the client's pair to the beginning
pub promoted-in_front : (ip : ℕ) (es : Table) → promoted (nat_eq ip) es ≡ in_front ip (lookup (nat_eq ip) es) es
promoted-in_front ip es = promoted-by ip es (lookup_entry (nat_eq ip) es) refl ∙ ap (λ o. in_front ip o es) (sym (lookup-entry ip es))

put-by : (ip at cap : ℕ) (es : Table) (o : Option (ℕ × ℕ)) → length es ≤ cap → 0 < cap → lookup_entry (nat_eq ip) es ≡ o →
    option_map_or (λ e. (e.0, at) ∷ remove_entry (nat_eq ip) es) o ((ip, at) ∷ take (cap - 1) es) ≡ take cap ((ip, at) ∷ remove_entry (nat_eq ip) es)
put-by ip at zero es o within some h = absurd (omega arith)
put-by ip at (suc n) es None within some h = let one : suc n - 1 ≡ n = omega arith in rw one (ap (λ (l : Table). (ip, at) ∷ take n l) (sym (removed-none ip es h)))
put-by ip at (suc n) es (Some e) within some h =
    let less = length-removed ip es e h in
    let all : take n (remove_entry (nat_eq ip) es) ≡ remove_entry (nat_eq ip) es = take_all n (remove_entry (nat_eq ip) es) (omega arith) in
    let key = entry_key ip es e h in
    ap (λ (k : ℕ). (k, at) ∷ remove_entry (nat_eq ip) es) (sym key) ∙ ap (λ (l : Table). (ip, at) ∷ l) (sym all)

-- `put` puts it there with a new moment
pub put-in_front : (c : LruCache ℕ ℕ) (ip at : ℕ) → length c.entries ≤ c.cap → 0 < c.cap → put_entries nat_eq c ip at ≡ take c.cap ((ip, at) ∷ remove_entry (nat_eq ip) c.entries)
put-in_front c ip at within some = put-by ip at c.cap c.entries (lookup_entry (nat_eq ip) c.entries) within some refl

pub one_left : (ip : ℕ) (es : Table) → is_some (lookup (nat_eq ip) es) ≡ true → length (remove_entry (nat_eq ip) es) + 1 ≡ length es
one_left ip [] h = cc
one_left ip (e ∷ es) h = elim (cases_Bool (nat_eq ip e.0)) [
  | inl same ↦ rw same (omega arith)
  | inr other ↦ let rest = one_left ip es (rw other at h) in rw other (omega arith)
]

-- a moment that is written through `get_mut` stands at the beginning
pub set-in_front : (ip last at : ℕ) (es : Table) → Some last ≡ lookup (nat_eq ip) es → set_value (nat_eq ip) (promoted (nat_eq ip) es) at ≡ (ip, at) ∷ remove_entry (nat_eq ip) es
set-in_front ip last at es found =
    ap (λ l. set_value (nat_eq ip) l at) (promoted-in_front ip es ∙ ap (λ o. in_front ip o es) (sym found)) ∙ rw (nat_eq_equiv.refl ip) refl

-- a known client leaves room for all others
pub all-kept : (ip last at cap : ℕ) (es : Table) → length es ≤ cap → Some last ≡ lookup (nat_eq ip) es → (ip, at) ∷ remove_entry (nat_eq ip) es ≡ take cap ((ip, at) ∷ remove_entry (nat_eq ip) es)
all-kept ip last at cap es within found =
    let less = one_left ip es (ap is_some (sym found)) in sym (take_all cap ((ip, at) ∷ remove_entry (nat_eq ip) es) (omega arith))

-- the moment that stays where the code is `Rate`, and the one that takes its place where it is `Pass`
pub stays : (gap at last new : ℕ) (code : Code) → code ≡ (if is_soon gap at (Some last) then Rate else Pass) → new ≡ (if is_soon gap at (Some last) then last else at) → Some code ≡ Some Rate → new ≡ last
stays gap at last new code is moment rate = elim (cases_Bool (nat_lt at (last + gap))) [
  | inl soon ↦ rw soon at moment
  | inr late ↦ (let pass = rw late at is in cc)
]

pub renews : (gap at last new : ℕ) (code : Code) → code ≡ (if is_soon gap at (Some last) then Rate else Pass) → new ≡ (if is_soon gap at (Some last) then last else at) → Some code ≡ Some Pass → new ≡ at
renews gap at last new code is moment pass = elim (cases_Bool (nat_lt at (last + gap))) [
  | inl soon ↦ (let rate = rw soon at is in cc)
  | inr late ↦ rw late at moment
]
