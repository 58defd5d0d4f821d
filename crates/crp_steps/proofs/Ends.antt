-- What holds after any events, and what follows where everything is closed.
use Rattle.std.proofs.Common.{◌≡◌, ℕ, zero, suc, ◌<◌, ◌≤◌, inl, inr, ⊎_elim, List, [], ◌∷◌, length, map, replicate, Contains, Some, slice_get, sum_by, refl, sym, ap, ◌∙◌, subst, arith}
use Rattle.std.proofs.lemmas.List.Sums.{sum_by-cons}
use Rattle.std.proofs.lemmas.Option.{same_Some}
use Rattle.crp_plan.specs.declared.moves.Move.{Move}
use Rattle.crp_plan.specs.Bay.{Problem, IsProblem, IsPlan, relocations, path_of, cap}
use Rattle.crp_plan.proofs.Covered.{relocations-path, at_start}
use Rattle.crp_plan.proofs.Buried.{below_cap}
use Rattle.crp_bay.proofs.Members.{not_in_nil, in_head, in_tail}
use Rattle.crp_tree.specs.Trees.{least}
use Rattle.crp_tree.proofs.Lists.{in_map, from_map, least_under}
use Rattle.crp_steps.specs.declared.event.Event.{Event}
use Rattle.crp_steps.specs.Worlds.{Rules, AreRules, Worker, Leaf, World, IsStart, fresh, fresh_workers, begin, least_leaf}
use Rattle.crp_steps.specs.Events.{Come}
use Rattle.crp_steps.specs.Covered.{Has, Waits, SomeRefused, LeadsSomewhere, IsKeptWorld, IsClosedWorld, ShowsFewest, IsReachedWorld}
use Rattle.crp_steps.proofs.Changed.{in_one}
use Rattle.crp_steps.proofs.Followed.{come_kept}

pub start_low : (p : Problem) (start : ℕ) → IsProblem p → IsStart p start → start ≤ cap p
start_low p start ok s = ⊎_elim
    (λ m. let plan = m.1 in let e = m.2 in omega (arith, below_cap p plan.0 ok plan.1, relocations-path plan.0, ap length plan.2))
    (λ e. omega arith)
    s

none_granted : (start n : ℕ) → sum_by (λ (v : Worker). v.view.granted) (replicate n (fresh start [])) ≡ 0
none_granted start zero = refl
none_granted start (suc n) = omega (arith, sum_by-cons (λ (v : Worker). v.view.granted) (fresh start []) (replicate n (fresh start [])), none_granted start n)

none_refused : (start n : ℕ) → sum_by (λ (v : Worker). v.view.refused) (replicate n (fresh start [])) ≡ 0
none_refused start zero = refl
none_refused start (suc n) = omega (arith, sum_by-cons (λ (v : Worker). v.view.refused) (fresh start []) (replicate n (fresh start [])), none_refused start n)

replicate_at : {X : Type 0} (n k : ℕ) (x y : X) → slice_get (replicate n x) k ≡ Some y → x ≡ y
replicate_at zero k x y e = cc
replicate_at (suc n) zero x y e = same_Some x y e
replicate_at (suc n) (suc k) x y e = replicate_at n k x y e

-- each worker is fresh as it begins
fresh_at : (P : Worker → Type 0) (start n k : ℕ) (v : Worker) → P (fresh start ([] ∷ [])) → P (fresh start []) → slice_get (fresh_workers start (suc n)) k ≡ Some v → P v
fresh_at P start n zero v first others e = subst P (same_Some _ v e) first
fresh_at P start n (suc k) v first others e = subst P (replicate_at n k (fresh start []) v e) others

pub begins_kept : (rules : Rules) (workers : ℕ) → 1 ≤ workers → IsKeptWorld (begin rules workers)
begins_kept rules zero some = absurd (omega arith)
begins_kept rules (suc n) some = record {
  covered = λ moves plan. inr (record {
    path = [];
    begins = (path_of moves, refl);
    waits = record { index = 0; worker = fresh rules.start ([] ∷ []); is_there = refl; has = inl (in_head [] []) };
  });
  limit_is = inl refl;
  not_above = omega arith;
  seen = λ k v e. fresh_at (λ (u : Worker). rules.start ≤ u.view.seen) rules.start n k v (omega arith) (omega arith) e;
  leaves_high = λ l i. absurd (not_in_nil l i);
  offers_high = λ o i. absurd (not_in_nil o i);
  granted = omega (arith, sum_by-cons (λ (v : Worker). v.view.granted) (fresh rules.start ([] ∷ [])) (replicate n (fresh rules.start [])), none_granted rules.start n);
  refused = omega (arith, sum_by-cons (λ (v : Worker). v.view.refused) (fresh rules.start ([] ∷ [])) (replicate n (fresh rules.start [])), none_refused rules.start n);
  once = λ k v e. fresh_at (λ (u : Worker). u.view.refused ≤ 1) rules.start n k v (omega arith) (omega arith) e;
  paths = λ k v e. fresh_at (λ u. (path : List ℕ) → Has u path → LeadsSomewhere rules.problem path) rules.start n k v
      (λ path has. ⊎_elim (λ d. subst (LeadsSomewhere rules.problem) (in_one [] path d) (at_start rules.problem)) (λ i. absurd (not_in_nil path i)) has)
      (λ path has. ⊎_elim (λ d. absurd (not_in_nil path d)) (λ i. absurd (not_in_nil path i)) has)
      e;
  names = λ k v e. fresh_at (λ (u : Worker). (path : List ℕ) → Contains u.deque path → length path ≤ rules.split) rules.start n k v
      (λ path d. subst (λ (x : List ℕ). length x ≤ rules.split) (in_one [] path d) (omega arith))
      (λ path d. absurd (not_in_nil path d))
      e;
}

pub kept : (rules : Rules) (workers : ℕ) (events : List Event) (w : World) → AreRules rules → 1 ≤ workers → Come events (begin rules workers) w → (w.rules ≡ rules) × IsKeptWorld w
kept rules workers events w are some come = come_kept events (begin rules workers) w are.is_problem (start_low rules.problem rules.start are.is_problem are.is_start) (begins_kept rules workers some) come

pub reached_kept : (w : World) → IsReachedWorld w → IsKeptWorld w
reached_kept w r = (kept w.rules r.workers r.events w r.rules r.some r.come).1

none_waits : (w : World) (path : List ℕ) → IsClosedWorld w → Waits w path → ⊥
none_waits w path c s =
    let e = c s.index s.worker s.is_there in
    ⊎_elim
    (λ i. not_in_nil path (subst (λ l. Contains l path) e.0 i))
    (λ i. not_in_nil path (subst (λ l. Contains l path) e.1 i))
    s.has

least_over : (most : ℕ) (values : List ℕ) (f : ℕ) → f ≤ most → ((v : ℕ) → Contains values v → f ≤ v) → f ≤ least most values
least_over most [] f le h = le
least_over most (v ∷ values) f le h =
    let a = h v (in_head v values) in
    let b = least_over most values f le (λ w c. h w (in_tail v values w c)) in
    omega arith

bound : (w : World) (moves : List Move) → IsKeptWorld w → IsClosedWorld w → IsPlan w.rules.problem moves → least_leaf w ≤ relocations moves
bound w moves h closed plan = ⊎_elim
    (λ l. let low = l.low in omega (arith, least_under (cap w.rules.problem) (map (λ (x : Leaf). x.value) w.leaves) (l.leaf).value (in_map (λ (x : Leaf). x.value) w.leaves l.leaf l.closed)))
    (λ g. absurd (none_waits w g.path closed g.waits))
    (h.covered moves plan)

above : (w : World) → w.rules.start ≤ cap w.rules.problem → IsKeptWorld w → ¬ SomeRefused w → w.limit ≤ least_leaf w
above w low h none = least_over (cap w.rules.problem) (map (λ (x : Leaf). x.value) w.leaves) w.limit
    (let b = h.not_above in omega arith)
    (λ v i. let x = from_map (λ (y : Leaf). y.value) w.leaves v i in let q = x.2 in ⊎_elim (λ b. omega arith) (λ some. absurd (none some)) (h.leaves_high x.0 x.1))

-- the limit of a plan is that plan's relocations
reached_limit : (w : World) → IsStart w.rules.problem w.rules.start → IsKeptWorld w → w.limit < cap w.rules.problem → (moves : List Move) × IsPlan w.rules.problem moves × (relocations moves ≡ w.limit)
reached_limit w is_start h lt = ⊎_elim
    (λ e. ⊎_elim
    (λ m. let plan = m.1 in (plan.0, plan.1, relocations-path plan.0 ∙ ap length plan.2 ∙ m.2 ∙ sym e))
    (λ c. absurd (omega arith))
    is_start)
    (λ o. let plan = o.is_plan in (plan.0, plan.1, relocations-path plan.0 ∙ ap length plan.2 ∙ o.size))
    h.limit_is

pub shows : (w : World) → AreRules w.rules → IsKeptWorld w → IsClosedWorld w → ShowsFewest w
shows w are h closed =
    let low = start_low w.rules.problem w.rules.start are.is_problem are.is_start in
    record {
      bound = λ moves plan. bound w moves h closed plan;
      leaves = λ none. above w low h none;
      best = λ none lt. record {
        reached = reached_limit w are.is_start h lt;
        least = λ moves plan. let a = above w low h none in let b = bound w moves h closed plan in omega arith;
      };
      no_plan = λ none e moves plan.
          let a = above w low h none in
          let b = bound w moves h closed plan in
          let c = below_cap w.rules.problem moves are.is_problem plan in
          absurd (omega arith);
    }

pub shown : (rules : Rules) (workers : ℕ) (events : List Event) (w : World) → AreRules rules → 1 ≤ workers → Come events (begin rules workers) w → IsClosedWorld w → ShowsFewest w
shown rules workers events w are some come closed =
    let k = kept rules workers events w are some come in
    shows w (subst AreRules (sym k.0) are) k.1 closed

pub reached_shows : (held w : World) → held ≡ w → IsReachedWorld held → IsClosedWorld held → ShowsFewest w
reached_shows held w e r closed = subst ShowsFewest e (shows held r.rules (reached_kept held r) closed)
