-- What the steps share: a load, a store, and a pass that changes while the words and the list stay.
use Rattle.std.proofs.Common.{◌≡◌, ◌≢◌, ℕ, zero, suc, ◌<◌, ◌≤◌, true, false, List, [], ◌∷◌, length, set, refl, sym, ap, ◌∙◌, subst, arith, true≢false}
use Rattle.std.specs.Prelude.{All, slice_index}
use Rattle.std.proofs.lemmas.List.Elements.{All-weaker, All-nil}
use mathlib.Core.Logic.{dite}
use mathlib.Core.Option.{some, some-ne-none, some-injective}
use native.Mathlib.Decide.{ℕ_discrete}
use lib.ListN.{get_elem?}
use lib.Seq.{set-get_or}
use Rattle.atomic_table.proofs.Lists.{set_here, set_else}
use Rattle.atomic_table.specs.Table.{Me, keeps, Allows}
use Rattle.journal_entry.specs.declared.entry.Entry.{Entry}
use Rattle.page_cell.specs.Claims.{IsReading}
use Rattle.page_cell.specs.Rule.{Fits, HasBank, HoldsBaton, IsWatch, Kept, Opened, roll, Stands}
use Rattle.page_cell.specs.Views.{opened_by, still}
use Rattle.page_cell.specs.declared.view.Claim.{Claim}
use Rattle.page_cell.specs.declared.view.View.{View}
use Rattle.page_cell.proofs.Places.{in_range, on_turn}
use Rattle.system_fold.specs.Settings.{SettingsFields}

pub off : false ≡ true → ⊥
off e = true≢false (sym e)

-- what a load owes, without the table's own words
pub load_step : (k : SettingsFields) (slots id i : ℕ) (v : View) (cs : List (ℕ × ℕ)) (reported : ℕ → Me ℕ View → Type 0)
    → ((ws : List ℕ) (views : List View) → Opened k ws views → get_elem? views id ≡ some v → (w : View) × Opened k ws (set views id w) × reported (slice_index ws i) (w, cs))
    → Allows (Kept k) slots id (v, cs) i (λ n. n) reported
load_step k slots id i v cs reported f s h len at lt =
    let t = f s.words s.views h at in
    (t.0, keeps, tt, subst (λ (ws : List ℕ). Opened k ws (set s.views id t.0)) (sym (set-get_or s.words i 0)) t.1, t.2)

pub store_step : (k : SettingsFields) (slots id i x : ℕ) (v : View) (cs : List (ℕ × ℕ)) (reported : Me ℕ View → Type 0)
    → ((ws : List ℕ) (views : List View) → Opened k ws views → get_elem? views id ≡ some v → (w : View) × Opened k (set ws i x) (set views id w) × reported (w, cs))
    → Allows (Kept k) slots id (v, cs) i (λ _. x) (λ _. reported)
store_step k slots id i x v cs reported f s h len at lt =
    let t = f s.words s.views h at in
    (t.0, keeps, tt, t.1, t.2)

pub moved_claims : (log : List Entry) (given given' : ℕ) (home home' : ℕ → ℕ) (place place' : ℕ) → given ≤ given' → ((n : ℕ) → n < given → home n ≡ place → home' n ≡ place') → (cs : List Claim) → All (Stands log given home place) cs → All (Stands log given' home' place') cs
moved_claims log given given' home home' place place' le to cs all = All-weaker (Stands log given home place) (Stands log given' home' place') (λ c h. record { numbered = (let n = h.numbered in omega arith); placed = to c.number h.numbered h.placed; holds = h.holds }) cs all

-- what the rule says of a pass, where places or the baton move
pub shift : (s : SettingsFields) (ws : List ℕ) (log : List Entry) (given given' : ℕ) (home home' : ℕ → ℕ) (seat seat' by by' : ℕ) (v : View) → given ≤ given' → ((n : ℕ) → n < given → home n ≡ suc by → home' n ≡ suc by') → ((n : ℕ) → n < given → home n ≡ 0 → home' n ≡ 0) → (v.baton ≡ true → by ≡ seat → (by' ≡ seat') × (given ≡ given'))
    → Fits s ws (roll log given home seat) by v → Fits s ws (roll log given' home' seat') by' v
shift s ws log given given' home home' seat seat' by by' v le own gone held h = record {
  keyed = h.keyed;
  baton = (λ b. let k = h.baton b in let m = held b k.0 in (m.0, k.1, k.2 ∙ m.1, k.3));
  seen = h.seen;
  feeds = moved_claims log given given' home home' (suc by) (suc by') le own v.feeds h.feeds;
  gathered = moved_claims log given given' home home' 0 0 le gone v.gathered h.gathered;
  readings = h.readings;
  watch = h.watch;
  tallies = h.tallies;
}

pub held_set : (views : List View) (seat by : ℕ) (v w : View) → get_elem? views by ≡ some v → w.baton ≡ v.baton → HoldsBaton views seat → HoldsBaton (set views by w) seat
held_set views seat by v w at same h = dite (ℕ_discrete seat by)
    (λ (e : seat ≡ by).
    let there : get_elem? views by ≡ some h.0 = subst (λ n. get_elem? views n ≡ some h.0) e h.1 in
    let is : v ≡ h.0 = some-injective _ _ (sym at ∙ there) in
    (w, subst (λ n. get_elem? (set views by w) n ≡ some w) (sym e) (set_here views by w (in_range views by v at)), same ∙ ap (λ u. u.baton) is ∙ h.2))
    (λ (ne : seat ≢ by). (h.0, set_else views by seat w ne ∙ h.1, h.2))

-- a step that leaves the words and the list as they are
pub turned : (s : SettingsFields) (x : List ℕ) (views : List View) (by : ℕ) (v w : View) (o : Opened s x views) → get_elem? views by ≡ some v → w.baton ≡ v.baton → Fits s x (roll o.log o.given o.home o.seat) by w → Opened s x (set views by w)
turned s x views by v w o at same fit = record {
  log = o.log;
  given = o.given;
  home = o.home;
  seat = o.seat;
  width = o.width;
  count = o.count;
  page = o.page;
  reading = o.reading;
  bank = o.bank;
  counted = o.counted;
  numbered = o.numbered;
  holder = held_set views o.seat by v w at same o.holder;
  fits = on_turn (λ k u. Fits s x (roll o.log o.given o.home o.seat) k u) views by w (λ k u n e. o.fits k u e) fit;
}

pub quiet : (ws : List ℕ) (n seen : ℕ) → IsWatch ws n seen still
quiet ws n seen = record { most = omega arith; torn = omega arith; trying = (λ q. absurd (off q)) }

-- the table at its start
pub starts : (s : SettingsFields) (ws page : List ℕ) → length ws ≡ 21 → slice_index ws 0 ≡ 0 → IsReading s [] (0, page) → HasBank ws 0 page → Opened s ws (opened_by s ∷ [])
starts s ws page wide zeroth reading bank = record { log = []; given = 0; home = (λ _. 0); seat = 0; page = page; width = wide; count = zeroth; reading = reading; bank = bank; counted = omega arith; numbered = All-nil _; holder = (opened_by s, refl, refl); fits = alone }
  where
    alone : (k : ℕ) (u : View) → get_elem? (opened_by s ∷ []) k ≡ some u → Fits s ws (roll [] 0 (λ _. 0) 0) k u
    alone zero u e = subst (Fits s ws (roll [] 0 (λ _. 0) 0) zero) (some-injective _ _ e) (record { keyed = (λ _. refl); baton = (λ _. (refl, refl, refl, λ i lt ten. absurd (omega arith))); seen = omega arith; feeds = All-nil _; gathered = All-nil _; readings = All-nil _; watch = quiet ws 0 0; tallies = All-nil _ })
    alone (suc k) u e = absurd (some-ne-none u (sym e))
