-- Lists of steps, as a loop takes them one by one.
use Rattle.std.proofs.Common.{◌≡◌, ℕ, suc, ◌+◌, ◌<◌, ◌≤◌, List, [], ◌∷◌, ◌++◌, drop, take, length, get_or, refl, sym, ap, ◌∙◌, subst, arith, append_assoc}
use Rattle.std.specs.Prelude.{None}
use Rattle.std.proofs.Math.Seq.{drop-cons}
use Rattle.std.proofs.lemmas.List.{take-append-drop, take_all, take_more}
use Rattle.station_world.specs.Machine.{IsChained, MayCome, Rises, Station, after, reason, refusal_of}
use Rattle.station_world.specs.Runs.{AreTaken, MayRun, StopsAt, after_all}
use Rattle.station_world.specs.declared.step.Step.{Step}
use Rattle.station_world.specs.declared.step.StepRefusal.{StepRefusal}
use Rattle.station_world.proofs.StepLaws.{rises_self}

-- one step more at the end
pub after_all-push : (s : Station) (xs : List Step) (x : Step) → after_all s (xs ++ x ∷ []) ≡ after (after_all s xs) x
after_all-push s [] x = refl
after_all-push s (y ∷ ys) x = after_all-push (after s y) ys x

pub taken-push : (s : Station) (xs : List Step) (x : Step) → AreTaken s xs → refusal_of (after_all s xs) x ≡ None → AreTaken s (xs ++ x ∷ [])
taken-push s [] x h free = (free, tt)
taken-push s (y ∷ ys) x h free = (h.0, taken-push (after s y) ys x h.1 free)

pub rises_on : (s t u : Station) → Rises s t → Rises t u → Rises s u
rises_on s t u h g = record {
  settings = g.settings ∙ h.settings;
  journal = (h.journal.0 ++ g.journal.0, sym (append_assoc s.journal h.journal.0 g.journal.0) ∙ ap (λ l. l ++ g.journal.0) h.journal.1 ∙ g.journal.1);
  published = (let a = h.published in let b = g.published in omega arith);
  readers = g.readers ∙ h.readers;
  seen = (λ k lt. let a = h.seen k lt in let r = h.readers in let b = g.seen k (omega arith) in omega arith);
}

-- what a loop over the steps keeps: the first i of them were taken, and the rest may come
pub record RunsOn (s : Station) (steps : List Step) (i : ℕ) (t : Station) : Type 0 where
  pub state : t ≡ after_all s (take i steps)
  pub taken : AreTaken s (take i steps)
  pub rises : Rises s t
  pub may : MayRun t (drop i steps)
  pub chained : IsChained t

pub runs-none : (s : Station) (steps : List Step) → IsChained s → MayRun s steps → RunsOn s steps 0 s
runs-none s steps chained may = record { state = refl; taken = tt; rises = rises_self s; may = may; chained = chained }

drop-here : (steps : List Step) (i : ℕ) (x : Step) → i < length steps → x ≡ get_or steps i x → drop i steps ≡ x ∷ drop (i + 1) steps
drop-here steps i x lt here = drop-cons steps i x lt ∙ (λ k. sym here k ∷ drop (next k) steps)
  where
    next : suc i ≡ i + 1
    next = omega arith

-- the next step may come
pub may-first : (s t : Station) (steps : List Step) (i : ℕ) (x : Step) → i < length steps → x ≡ get_or steps i x → RunsOn s steps i t → MayCome t x
may-first s t steps i x lt here h = (subst (MayRun t) (drop-here steps i x lt here) h.may).0

-- it is taken
pub runs-more : (s t u : Station) (steps : List Step) (i : ℕ) (x : Step) → i < length steps → x ≡ get_or steps i x → RunsOn s steps i t → refusal_of t x ≡ None → u ≡ after t x → Rises t u → IsChained u → RunsOn s steps (i + 1) u
runs-more s t u steps i x lt here h free is rises chained =
    let more : take (i + 1) steps ≡ take i steps ++ x ∷ [] = take_more steps i x lt ∙ ap (λ (y : Step). take i steps ++ y ∷ []) (sym here) in
    record {
      state = is ∙ ap (λ (v : Station). after v x) h.state ∙ sym (after_all-push s (take i steps) x) ∙ ap (after_all s) (sym more);
      taken = subst (AreTaken s) (sym more) (taken-push s (take i steps) x h.taken (subst (λ (v : Station). refusal_of v x ≡ None) h.state free));
      rises = rises_on s t u h.rises rises;
      may = subst (λ (v : Station). MayRun v (drop (i + 1) steps)) (sym is) ((subst (MayRun t) (drop-here steps i x lt here) h.may).1 free);
      chained = chained;
    }

-- it is refused
pub stops-here : (s t u : Station) (steps : List Step) (i : ℕ) (x : Step) (r : StepRefusal) → i < length steps → x ≡ get_or steps i x → RunsOn s steps i t → refusal_of t x ≡ reason r → u ≡ t → StopsAt s steps r u
stops-here s t u steps i x r lt here h why is = record {
  prefix = take i steps;
  stop = x;
  rest = drop (i + 1) steps;
  steps_are = sym (take-append-drop i steps) ∙ ap (λ (l : List Step). take i steps ++ l) (drop-here steps i x lt here);
  taken = h.taken;
  state = is ∙ h.state;
  refused = subst (λ (v : Station). refusal_of v x ≡ reason r) (sym is) why;
}

-- all are taken
pub runs-all : (s t : Station) (steps : List Step) (i : ℕ) → length steps ≤ i → RunsOn s steps i t → AreTaken s steps × (t ≡ after_all s steps)
runs-all s t steps i le h =
    let whole : take i steps ≡ steps = take_all i steps le in
    (subst (AreTaken s) whole h.taken, h.state ∙ ap (after_all s) whole)
