-- Each event keeps what holds.
use Rattle.std.proofs.Common.{◌≡◌, ℕ, ◌+◌, ◌<◌, ◌≤◌, min, ◌⊎◌, inl, inr, ⊎_elim, Bool, true, false, cond, nat_lt, List, [], ◌∷◌, ◌++◌, length, Contains, Some, slice_get, slice_set, refl, sym, ap, ◌∙◌, subst, arith, append_assoc, length-append}
use Rattle.std.proofs.lemmas.Option.{same_Some}
use Rattle.std.proofs.lemmas.List.Elements.{Contains-append_left, Contains-append_right, Contains-append_cases, Contains-push}
use Rattle.std.proofs.lemmas.Bool.{cases_eq, cases_lt, cases_Bool, ltb-true, ltb-false}
use Rattle.crp_plan.specs.declared.moves.Move.{Move}
use Rattle.crp_plan.specs.Bay.{Problem, IsProblem, Position, IsPlan, IsAt, relocations, path_of, cap}
use Rattle.crp_plan.proofs.Lists.{get_put_same, get_put_other}
use Rattle.crp_plan.proofs.Covered.{branch, from_at, at_sound, relocations-path}
use Rattle.crp_plan.proofs.Steps.{plan_at}
use Rattle.crp_bay.specs.Positions.{targets, child}
use Rattle.crp_bay.proofs.Members.{not_in_nil, in_head, in_tail, in_cons_cases}
use Rattle.crp_bay.proofs.Walked.{every_target, target_goes_on}
use Rattle.crp_bounds.proofs.Floors.{cut_floor}
use Rattle.crp_thinned.proofs.Thinning.{shown_bounds}
use Rattle.crp_tree.specs.Trees.{Begins}
use Rattle.crp_steps.specs.declared.event.Bound.{Bound}
use Rattle.crp_steps.specs.declared.event.Bound.TheVariants.{Blocking, LookAhead, Reasons}
use Rattle.crp_steps.specs.declared.event.Kind.{Kind}
use Rattle.crp_steps.specs.declared.event.Kind.TheVariants.{See, Take, Steal, Claim, Try, Put, Leaf as CloseLeaf, Offer, Finish}
use Rattle.crp_steps.specs.declared.event.Event.{Event}
use Rattle.crp_steps.specs.Worlds.{Worker, Leaf, Offered, World, IsWorker, with_worker}
use Rattle.crp_steps.specs.Events.{Steps, Sees, Takes, Steals, IsCurrent, children, closed_if_dead, Claims, Tries, Puts, HoldsAt, value_of, Closes, Offers, Finishes, LeadsBy, Come}
use Rattle.crp_steps.specs.Covered.{Has, SomeRefused, LeadsSomewhere, IsKeptWorld}
use Rattle.crp_steps.proofs.Changed.{in_one, in_pushed, changed, Rest, rest_of, kept_of, Change, rest_kept, covered_kept}

-- a change of one worker alone, whose claims stay
pub rest_mild : (w : World) (k : ℕ) (v v' : Worker) → Rest w → IsWorker w k v → w.limit ≤ v'.view.seen → v'.view.refused ≡ v.view.refused → v'.view.granted ≡ v.view.granted →
    ((path : List ℕ) → Has v' path → Has v path ⊎ LeadsSomewhere w.rules.problem path) → ((path : List ℕ) → Contains v'.deque path → Contains v.deque path ⊎ (length path ≤ w.rules.split)) → Rest (with_worker w k v')
rest_mild w k v v' r was sees refused granted paths names = rest_kept w k v v' w.limit w.spent w.leaves w.offered r (record {
  was = was;
  falls = omega arith;
  limit_is = ⊎_elim (λ e. inl e) (λ o. inr (record { offer = o.offer; offered = o.offered; size = o.size; is_plan = o.is_plan })) r.limit_is;
  sees = sees;
  refuses = omega arith;
  leaves_high = λ l i. inl i;
  offers_high = λ o i. inl i;
  granted = omega arith;
  refused = omega arith;
  once = let a = r.once k v was in omega arith;
  paths = paths;
  names = names;
})

-- and whose paths are the same, though they may lie elsewhere
plain : (w : World) (k : ℕ) (v v' : Worker) → IsKeptWorld w → IsWorker w k v → w.limit ≤ v'.view.seen → v'.view.refused ≡ v.view.refused → v'.view.granted ≡ v.view.granted →
    ((path : List ℕ) → Has v path → Has v' path) → ((path : List ℕ) → Has v' path → Has v path) → ((path : List ℕ) → Contains v'.deque path → Contains v.deque path ⊎ (length path ≤ w.rules.split)) →
    IsKeptWorld (with_worker w k v')
plain w k v v' h was sees refused granted keeps back names =
    kept_of (with_worker w k v') (rest_mild w k v v' (rest_of w h) was sees refused granted (λ path has. inl (back path has)) names)
    (λ moves plan. covered_kept w (with_worker w k v') k v v' moves (h.covered moves plan) was refl (λ l i. i) (λ path has b. inr (path, keeps path has, b)))

see_kept : (k : ℕ) (w next : World) → IsKeptWorld w → Sees k w next → IsKeptWorld next
see_kept k w next h r =
    let v = r.worker in
    subst IsKeptWorld (sym r.after) (plain w k v (record v { view = record v.view { seen = w.limit } }) h r.acts (omega arith) refl refl (λ path has. has) (λ path has. has) (λ path has. inl has))

take_kept : (k : ℕ) (w next : World) → IsKeptWorld w → Steps Takes k w next → IsKeptWorld next
take_kept k w next h r =
    let v = r.worker in
    subst IsKeptWorld (sym (r.after ∙ ap (with_worker w k) r.own.after)) (plain w k v (record v { deque = r.own.others; hand = v.hand ++ r.own.name ∷ []; has_task = true }) h r.acts (h.seen k v r.acts) refl refl
    (λ path has. ⊎_elim
    (λ d. ⊎_elim (λ d'. inl d') (λ q. inr (subst (Contains (v.hand ++ r.own.name ∷ [])) q (Contains-push v.hand r.own.name))) (in_pushed r.own.others r.own.name path (subst (λ l. Contains l path) r.own.is_last d)))
    (λ i. inr (Contains-append_left v.hand (r.own.name ∷ []) path i))
    has)
    (λ path has. ⊎_elim
    (λ d. inl (back path d))
    (λ i. ⊎_elim (λ i'. inr i') (λ q. inl (subst (λ l. Contains l path) (sym r.own.is_last) (subst (Contains (r.own.others ++ r.own.name ∷ [])) q (Contains-push r.own.others r.own.name)))) (in_pushed v.hand r.own.name path i))
    has)
    (λ path d. inl (back path d)))
  where
    back : (path : List ℕ) → Contains r.own.others path → Contains r.worker.deque path
    back path d = subst (λ l. Contains l path) (sym r.own.is_last) (Contains-append_left r.own.others (r.own.name ∷ []) path d)

put_kept : (k index : ℕ) (w next : World) → IsKeptWorld w → Steps (Puts w.rules.split index) k w next → IsKeptWorld next
put_kept k index w next h r =
    let v = r.worker in
    subst IsKeptWorld (sym (r.after ∙ ap (with_worker w k) r.own.after)) (plain w k v (record v { deque = v.deque ++ r.own.path ∷ []; hand = r.own.before ++ r.own.behind }) h r.acts (h.seen k v r.acts) refl refl
    (λ path has. ⊎_elim
    (λ d. inl (Contains-append_left v.deque (r.own.path ∷ []) path d))
    (λ i. ⊎_elim
    (λ b. inr (Contains-append_left r.own.before r.own.behind path b))
    (λ rest. ⊎_elim
    (λ q. inl (subst (Contains (v.deque ++ r.own.path ∷ [])) q (Contains-push v.deque r.own.path)))
    (λ b. inr (Contains-append_right r.own.before r.own.behind path b))
    (in_cons_cases r.own.path r.own.behind path rest))
    (Contains-append_cases r.own.before (r.own.path ∷ r.own.behind) path (subst (λ l. Contains l path) r.own.in_hand i)))
    has)
    (λ path has. ⊎_elim
    (λ d. ⊎_elim (λ d'. inl d') (λ q. inr (subst (Contains v.hand) q (from r.own.path (Contains-append_right r.own.before (r.own.path ∷ r.own.behind) r.own.path (in_head r.own.path r.own.behind))))) (in_pushed v.deque r.own.path path d))
    (λ i. ⊎_elim
    (λ b. inr (from path (Contains-append_left r.own.before (r.own.path ∷ r.own.behind) path b)))
    (λ b. inr (from path (Contains-append_right r.own.before (r.own.path ∷ r.own.behind) path (in_tail r.own.path r.own.behind path b))))
    (Contains-append_cases r.own.before r.own.behind path i))
    has)
    (λ path d. ⊎_elim (λ d'. inl d') (λ q. inr (subst (λ (x : List ℕ). length x ≤ w.rules.split) q r.own.short)) (in_pushed v.deque r.own.path path d)))
  where
    from : (path : List ℕ) → Contains (r.own.before ++ r.own.path ∷ r.own.behind) path → Contains r.worker.hand path
    from path i = subst (λ l. Contains l path) (sym r.own.in_hand) i

finish_kept : (k : ℕ) (w next : World) → IsKeptWorld w → Steps Finishes k w next → IsKeptWorld next
finish_kept k w next h r =
    let v = r.worker in
    subst IsKeptWorld (sym (r.after ∙ ap (with_worker w k) r.own.after)) (plain w k v (record v { has_task = false }) h r.acts (h.seen k v r.acts) refl refl (λ path has. has) (λ path has. has) (λ path has. inl has))

steal_kept : (k victim : ℕ) (w next : World) → IsKeptWorld w → Steals k victim w next → IsKeptWorld next
steal_kept k victim w next h r =
    let v = r.worker in
    let u = r.robbed in
    let u' : Worker = record u { deque = r.others } in
    let v' : Worker = record v { hand = v.hand ++ r.name ∷ []; has_task = true } in
    let mid : World = with_worker w victim u' in
    let was' : IsWorker mid k v = get_put_other w.workers victim k u' (λ q. r.another (sym q)) ∙ r.acts in
    let here : slice_get (slice_set mid.workers k v') k ≡ Some v' = get_put_same mid.workers k v v' was' in
    let there : slice_get (slice_set mid.workers k v') victim ≡ Some u' = get_put_other mid.workers k victim v' r.another ∙ get_put_same w.workers victim u u' r.is_there in
    subst IsKeptWorld (sym r.after) (kept_of (with_worker mid k v')
    (rest_mild mid k v v'
    (rest_mild w victim u u' (rest_of w h) r.is_there (h.seen victim u r.is_there) refl refl (λ path has. inl (⊎_elim (λ d. inl (left path d)) (λ i. inr i) has)) (λ path d. inl (left path d)))
    was' (h.seen k v r.acts) refl refl
    (λ path has. ⊎_elim
    (λ d. inl (inl d))
    (λ i. ⊎_elim (λ i'. inl (inr i')) (λ q. inr (subst (LeadsSomewhere w.rules.problem) q (h.paths victim u r.is_there r.name (inl stolen')))) (in_pushed v.hand r.name path i))
    has)
    (λ path d. inl d))
    (λ moves plan. ⊎_elim
    (λ l. inl (record { leaf = l.leaf; closed = l.closed; begins = l.begins; low = l.low }))
    (λ g. let s = g.waits in
    ⊎_elim
    (λ q.
    let same : s.worker ≡ v = same_Some s.worker v (sym s.is_there ∙ ap (slice_get w.workers) q ∙ r.acts) in
    inr (record {
      path = g.path;
      begins = g.begins;
      waits = record { index = k; worker = v'; is_there = here; has = ⊎_elim (λ d. inl d) (λ i. inr (Contains-append_left v.hand (r.name ∷ []) g.path i)) (subst (λ x. Has x g.path) same s.has) };
    }))
    (λ nk. ⊎_elim
    (λ q.
    let same : s.worker ≡ u = same_Some s.worker u (sym s.is_there ∙ ap (slice_get w.workers) q ∙ r.is_there) in
    ⊎_elim
    (λ d. ⊎_elim
    (λ n. inr (record { path = g.path; begins = g.begins; waits = record { index = k; worker = v'; is_there = here; has = inr (subst (Contains (v.hand ++ r.name ∷ [])) n (Contains-push v.hand r.name)) } }))
    (λ t. inr (record { path = g.path; begins = g.begins; waits = record { index = victim; worker = u'; is_there = there; has = inl t } }))
    (in_cons_cases r.name r.others g.path (subst (λ l. Contains l g.path) r.is_first d)))
    (λ i. inr (record { path = g.path; begins = g.begins; waits = record { index = victim; worker = u'; is_there = there; has = inr i } }))
    (subst (λ x. Has x g.path) same s.has))
    (λ nv. inr (record {
      path = g.path;
      begins = g.begins;
      waits = record { index = s.index; worker = s.worker; has = s.has; is_there = get_put_other mid.workers k s.index v' nk ∙ get_put_other w.workers victim s.index u' nv ∙ s.is_there };
    }))
    (cases_eq s.index victim))
    (cases_eq s.index k))
    (h.covered moves plan)))
  where
    left : (path : List ℕ) → Contains r.others path → Contains r.robbed.deque path
    left path d = subst (λ l. Contains l path) (sym r.is_first) (in_tail r.name r.others path d)

    stolen' : Contains r.robbed.deque r.name
    stolen' = subst (λ l. Contains l r.name) (sym r.is_first) (in_head r.name r.others)

in_children : (path rows : List ℕ) (row : ℕ) → Contains rows row → Contains (children path rows) (path ++ row ∷ [])
in_children path [] row c = absurd (not_in_nil row c)
in_children path (r ∷ rows) row c = ⊎_elim
    (λ q. subst (λ x. Contains (children path rows ++ (path ++ r ∷ []) ∷ []) (path ++ x ∷ [])) q (Contains-push (children path rows) (path ++ r ∷ [])))
    (λ c'. Contains-append_left (children path rows) ((path ++ r ∷ []) ∷ []) (path ++ row ∷ []) (in_children path rows row c'))
    (in_cons_cases r rows row c)

-- each child goes on by one of the rows
from_children : (path rows : List ℕ) (x : List ℕ) → Contains (children path rows) x → (row : ℕ) × Contains rows row × (path ++ row ∷ [] ≡ x)
from_children path [] x c = absurd (not_in_nil x c)
from_children path (row ∷ rows) x c = ⊎_elim
    (λ c'. let t = from_children path rows x c' in (t.0, in_tail row rows t.0 t.1, t.2))
    (λ q. (row, in_head row rows, q))
    (in_pushed (children path rows) (path ++ row ∷ []) x c)

dead_value : (p : Problem) (path rows : List ℕ) (l : Leaf) → Contains (closed_if_dead p path rows) l → l.value ≡ cap p
dead_value p path [] l c = sym (ap (λ (x : Leaf). x.value) (in_one (record { path = path; value = cap p }) l c))
dead_value p path (row ∷ rows) l c = absurd (not_in_nil l c)

granted_kept : (w : World) (k : ℕ) (v : Worker) (others : List (List ℕ)) (path : List ℕ) (s : Position) → IsProblem w.rules.problem → w.rules.start ≤ cap w.rules.problem → IsKeptWorld w → IsWorker w k v →
    IsCurrent w.rules.problem v others path s → v.view.refused ≡ 0 → s.next ≤ s.ordered → w.spent < w.rules.budget →
    IsKeptWorld (changed w k (record v { hand = others ++ children path (targets s); view = record v.view { granted = v.view.granted + 1 } }) w.limit (w.spent + 1) (w.leaves ++ closed_if_dead w.rules.problem path (targets s)) w.offered)
granted_kept w k v others path s ok low h was cur never unfinished lt =
    let p : Problem = w.rules.problem in
    let v' : Worker = record v { hand = others ++ children path (targets s); view = record v.view { granted = v.view.granted + 1 } } in
    let more : List Leaf = w.leaves ++ closed_if_dead p path (targets s) in
    let next : World = changed w k v' w.limit (w.spent + 1) more w.offered in
    let change : Change w k v v' w.limit (w.spent + 1) more w.offered = record {
      was = was;
      falls = omega arith;
      limit_is = ⊎_elim (λ e. inl e) (λ o. inr (record { offer = o.offer; offered = o.offered; size = o.size; is_plan = o.is_plan })) h.limit_is;
      sees = h.seen k v was;
      refuses = omega arith;
      leaves_high = λ l i. ⊎_elim (λ old. inl old) (λ new. inr (inl (let q = dead_value p path (targets s) l new in let b = h.not_above in omega arith)))
          (Contains-append_cases w.leaves (closed_if_dead p path (targets s)) l i);
      offers_high = λ o i. inl i;
      granted = omega arith;
      refused = omega arith;
      once = omega arith;
      paths = λ x has. ⊎_elim
          (λ d. inl (inl d))
          (λ i. ⊎_elim
          (λ i'. inl (inr (subst (λ l. Contains l x) (sym cur.is_last) (Contains-append_left others (path ∷ []) x i'))))
          (λ c. let t = from_children path (targets s) x c in inr (subst (LeadsSomewhere p) t.2 (child s t.0, target_goes_on p path s t.0 ok cur.is_at t.1)))
          (Contains-append_cases others (children path (targets s)) x i))
          has;
      names = λ x d. inl d;
    } in
    kept_of next (rest_kept w k v v' w.limit (w.spent + 1) more w.offered (rest_of w h) change)
    (λ moves plan. covered_kept w next k v v' moves (h.covered moves plan) was refl (λ l i. Contains-append_left w.leaves (closed_if_dead p path (targets s)) l i)
    (λ x has b. ⊎_elim
    (λ d. inr (x, inl d, b))
    (λ i. ⊎_elim
    (λ i'. inr (x, inr (Contains-append_left others (children path (targets s)) x i'), b))
    (λ q.
    let b' : Begins (path_of moves) path = subst (Begins (path_of moves)) (sym q) b in
    let g = branch p path b'.0 s moves ok cur.is_at unfinished plan b'.1 in
    let t = g.3 in
    let c = (every_target p path s g.0 t.0 ok cur.is_at t.1).0 in
    inr (
      path ++ g.0 ∷ [],
      inr (Contains-append_right others (children path (targets s)) (path ++ g.0 ∷ []) (in_children path (targets s) g.0 c)),
      (g.1, b'.1 ∙ ap (λ l. path ++ l) g.2 ∙ sym (append_assoc path (g.0 ∷ []) g.1)),
    ))
    (in_pushed others path x (subst (λ l. Contains l x) cur.is_last i)))
    has))

-- a claim that leaves the hand as it is, after which the worker has so many granted and refused
counted_kept : (w : World) (k : ℕ) (v : Worker) (granted refused : ℕ) → IsKeptWorld w → IsWorker w k v → v.view.refused ≤ refused → refused ≤ 1 →
    granted + min w.spent w.rules.budget ≡ v.view.granted + min (w.spent + 1) w.rules.budget →
    (refused + min (w.spent + 1) w.rules.budget) + w.spent ≡ (v.view.refused + min w.spent w.rules.budget) + (w.spent + 1) →
    IsKeptWorld (changed w k (record v { view = record v.view { granted = granted; refused = refused } }) w.limit (w.spent + 1) w.leaves w.offered)
counted_kept w k v granted refused h was more once grants refuses =
    let v' : Worker = record v { view = record v.view { granted = granted; refused = refused } } in
    let next : World = changed w k v' w.limit (w.spent + 1) w.leaves w.offered in
    let change : Change w k v v' w.limit (w.spent + 1) w.leaves w.offered = record {
      was = was;
      falls = omega arith;
      limit_is = ⊎_elim (λ e. inl e) (λ o. inr (record { offer = o.offer; offered = o.offered; size = o.size; is_plan = o.is_plan })) h.limit_is;
      sees = h.seen k v was;
      refuses = more;
      leaves_high = λ l i. inl i;
      offers_high = λ o i. inl i;
      granted = grants;
      refused = refuses;
      once = once;
      paths = λ x has. inl has;
      names = λ x d. inl d;
    } in
    kept_of next (rest_kept w k v v' w.limit (w.spent + 1) w.leaves w.offered (rest_of w h) change)
    (λ moves plan. covered_kept w next k v v' moves (h.covered moves plan) was refl (λ l i. i) (λ x has b. inr (x, has, b)))

refused_kept : (w : World) (k : ℕ) (v : Worker) → IsKeptWorld w → IsWorker w k v → v.view.refused ≡ 0 → w.rules.budget ≤ w.spent →
    IsKeptWorld (changed w k (record v { view = record v.view { refused = v.view.refused + 1 } }) w.limit (w.spent + 1) w.leaves w.offered)
refused_kept w k v h was never le = counted_kept w k v (v.view).granted (v.view.refused + 1) h was (omega arith) (omega arith) (omega arith) (omega arith)

tried_kept : (w : World) (k : ℕ) (v : Worker) → IsKeptWorld w → IsWorker w k v → v.view.refused ≡ 0 → w.spent < w.rules.budget →
    IsKeptWorld (changed w k (record v { view = record v.view { granted = v.view.granted + 1 } }) w.limit (w.spent + 1) w.leaves w.offered)
tried_kept w k v h was never lt = counted_kept w k v (v.view.granted + 1) (v.view).refused h was (omega arith) (omega arith) (omega arith) (omega arith)

-- what the claim of a thinned branch leads to, by whether it is granted
abbrev tried : Bool → World → ℕ → Worker → World
tried granted w k v =
    changed w k (record v { view = cond granted (record v.view { granted = v.view.granted + 1 }) (record v.view { refused = v.view.refused + 1 }) }) w.limit (w.spent + 1) w.leaves w.offered

try_kept : (k : ℕ) (w next : World) → IsKeptWorld w → Tries k w next → IsKeptWorld next
try_kept k w next h r =
    let v = r.worker in
    subst IsKeptWorld (sym r.after) (⊎_elim
    (λ t. subst (λ b. IsKeptWorld (tried b w k v)) (sym t) (tried_kept w k v h r.acts r.never_refused (ltb-true w.spent w.rules.budget t)))
    (λ f. subst (λ b. IsKeptWorld (tried b w k v)) (sym f) (refused_kept w k v h r.acts r.never_refused (ltb-false w.spent w.rules.budget f)))
    (cases_Bool (nat_lt w.spent w.rules.budget)))

-- what a claim leads to, by whether it is granted
abbrev claimed : Bool → World → ℕ → Worker → List (List ℕ) → List ℕ → Position → World
claimed granted w k v others path s = cond granted
    (changed w k (record v { hand = others ++ children path (targets s); view = cond granted (record v.view { granted = v.view.granted + 1 }) (record v.view { refused = v.view.refused + 1 }) }) w.limit (w.spent + 1) (w.leaves ++ closed_if_dead w.rules.problem path (targets s)) w.offered)
    (tried granted w k v)

claim_kept : (k : ℕ) (w next : World) → IsProblem w.rules.problem → w.rules.start ≤ cap w.rules.problem → IsKeptWorld w → Claims k w next → IsKeptWorld next
claim_kept k w next ok low h r =
    let v = r.worker in
    subst IsKeptWorld (sym r.after) (⊎_elim
    (λ t. subst (λ b. IsKeptWorld (claimed b w k v r.others r.path r.place)) (sym t) (granted_kept w k v r.others r.path r.place ok low h r.acts r.current r.never_refused r.unfinished (ltb-true w.spent w.rules.budget t)))
    (λ f. subst (λ b. IsKeptWorld (claimed b w k v r.others r.path r.place)) (sym f) (refused_kept w k v h r.acts r.never_refused (ltb-false w.spent w.rules.budget f)))
    (cases_Bool (nat_lt w.spent w.rules.budget)))

value_low : (p : Problem) (bound : Bound) (path more : List ℕ) (s : Position) (moves : List Move) → IsProblem p → IsAt p path s → HoldsAt bound s → IsPlan p moves → path_of moves ≡ path ++ more → value_of bound path s ≤ relocations moves
value_low p Blocking path more s moves ok here holds plan e = (cut_floor p path more s moves ok here plan e).1
value_low p LookAhead path more s moves ok here holds plan e = (cut_floor p path more s moves ok here plan e).0
value_low p (Reasons number text) path more s moves ok here holds plan e =
    let r = from_at p path more s moves ok here plan e in
    let sizes : relocations moves ≡ length path + relocations r.0 =
    relocations-path moves ∙ ap length e ∙ length-append path more ∙ ap (λ n. length path + n) (sym (relocations-path r.0 ∙ ap length r.2)) in
    let enough = holds.reaches in
    omega (arith, shown_bounds s holds.tree r.0 (at_sound p path s ok here) here.no_take holds.fits (plan.0, r.1, plan.2))

leaf_kept : (k : ℕ) (bound : Bound) (w next : World) → IsProblem w.rules.problem → IsKeptWorld w → Closes k bound w next → IsKeptWorld next
leaf_kept k bound w next ok h r =
    let p : Problem = w.rules.problem in
    let v = r.worker in
    let value : ℕ = value_of bound r.path r.place in
    let new : Leaf = record { path = r.path; value = value } in
    let v' : Worker = record v { hand = r.others } in
    let to : World = changed w k v' w.limit w.spent (w.leaves ++ new ∷ []) w.offered in
    let high : (w.limit ≤ value) ⊎ SomeRefused to = ⊎_elim
    (λ a. inl (let c = h.seen k v r.acts in omega arith))
    (λ o. ⊎_elim
    (λ a. inr (record { index = k; worker = v'; is_there = get_put_same w.workers k v v' r.acts; refused = a }))
    (λ a. inl (let c = h.offers_high (record { worker = k; path = r.path }) a.1 in omega arith))
    o)
    r.may in
    let change : Change w k v v' w.limit w.spent (w.leaves ++ new ∷ []) w.offered = record {
      was = r.acts;
      falls = omega arith;
      limit_is = ⊎_elim (λ e. inl e) (λ o. inr (record { offer = o.offer; offered = o.offered; size = o.size; is_plan = o.is_plan })) h.limit_is;
      sees = h.seen k v r.acts;
      refuses = omega arith;
      leaves_high = λ l i. ⊎_elim (λ old. inl old) (λ one. inr (subst (λ (x : Leaf). (w.limit ≤ x.value) ⊎ SomeRefused to) one high)) (in_pushed w.leaves new l i);
      offers_high = λ o i. inl i;
      granted = refl;
      refused = refl;
      once = h.once k v r.acts;
      paths = λ x has. inl (⊎_elim (λ d. inl d) (λ i. let cur = r.current in inr (subst (λ l. Contains l x) (sym cur.is_last) (Contains-append_left r.others (r.path ∷ []) x i))) has);
      names = λ x d. inl d;
    } in
    subst IsKeptWorld (sym r.after) (kept_of to (rest_kept w k v v' w.limit w.spent (w.leaves ++ new ∷ []) w.offered (rest_of w h) change)
    (λ moves plan. covered_kept w to k v v' moves (h.covered moves plan) r.acts refl (λ l i. Contains-append_left w.leaves (new ∷ []) l i)
    (λ x has b. ⊎_elim
    (λ d. inr (x, inl d, b))
    (λ i. let cur = r.current in ⊎_elim
    (λ i'. inr (x, inr i', b))
    (λ q.
    let b' : Begins (path_of moves) r.path = subst (Begins (path_of moves)) (sym q) b in
    inl (record { leaf = new; closed = Contains-push w.leaves new; begins = b'; low = value_low p bound r.path b'.0 r.place moves ok cur.is_at r.holds plan b'.1 }))
    (in_pushed r.others r.path x (subst (λ l. Contains l x) cur.is_last i)))
    has)))

offer_kept : (k : ℕ) (w next : World) → IsProblem w.rules.problem → IsKeptWorld w → Offers k w next → IsKeptWorld next
offer_kept k w next ok h r =
    let p : Problem = w.rules.problem in
    let v = r.worker in
    let n : ℕ = length r.path in
    let cur = r.current in
    let new : Offered = record { worker = k; path = r.path } in
    let v' : Worker = record v { view = record v.view { seen = min w.limit n; mine = min v.view.mine n } } in
    let to : World = changed w k v' (min w.limit n) w.spent w.leaves (w.offered ++ new ∷ []) in
    let change : Change w k v v' (min w.limit n) w.spent w.leaves (w.offered ++ new ∷ []) = record {
      was = r.acts;
      falls = omega arith;
      limit_is = ⊎_elim
          (λ less. inr (record { offer = new; offered = Contains-push w.offered new; size = omega arith; is_plan = plan_at p r.path r.place cur.is_at r.finished }))
          (λ le. ⊎_elim
          (λ q. inl (omega arith))
          (λ o. inr (let z = o.size in record { offer = o.offer; offered = Contains-append_left w.offered (new ∷ []) o.offer o.offered; size = omega arith; is_plan = o.is_plan }))
          h.limit_is)
          (cases_lt n w.limit);
      sees = omega arith;
      refuses = omega arith;
      leaves_high = λ l i. inl i;
      offers_high = λ o i. ⊎_elim (λ old. inl old) (λ one. inr (let q : n ≡ length o.path = ap (λ (x : Offered). length x.path) one in omega arith)) (in_pushed w.offered new o i);
      granted = refl;
      refused = refl;
      once = h.once k v r.acts;
      paths = λ x has. inl has;
      names = λ x d. inl d;
    } in
    subst IsKeptWorld (sym r.after) (kept_of to (rest_kept w k v v' (min w.limit n) w.spent w.leaves (w.offered ++ new ∷ []) (rest_of w h) change)
    (λ moves plan. covered_kept w to k v v' moves (h.covered moves plan) r.acts refl (λ l i. i) (λ x has b. inr (x, has, b))))

leads_by_kept : (k : ℕ) (kind : Kind) (w next : World) → IsProblem w.rules.problem → w.rules.start ≤ cap w.rules.problem → IsKeptWorld w → LeadsBy k kind w next → IsKeptWorld next
leads_by_kept k See w next ok low h r = see_kept k w next h r
leads_by_kept k Take w next ok low h r = take_kept k w next h r
leads_by_kept k (Steal victim) w next ok low h r = steal_kept k victim w next h r
leads_by_kept k Claim w next ok low h r = claim_kept k w next ok low h r
leads_by_kept k Try w next ok low h r = try_kept k w next h r
leads_by_kept k (Put index) w next ok low h r = put_kept k index w next h r
leads_by_kept k (CloseLeaf bound) w next ok low h r = leaf_kept k bound w next ok h r
leads_by_kept k Offer w next ok low h r = offer_kept k w next ok h r
leads_by_kept k Finish w next ok low h r = finish_kept k w next h r

-- the rules stay
pub same_rules : (k : ℕ) (kind : Kind) (w next : World) → LeadsBy k kind w next → next.rules ≡ w.rules
same_rules k See w next r = ap (λ (x : World). x.rules) r.after
same_rules k Take w next r = ap (λ (x : World). x.rules) r.after
same_rules k (Steal victim) w next r = ap (λ (x : World). x.rules) r.after
same_rules k Claim w next r = ap (λ (x : World). x.rules) r.after ∙ ⊎_elim
    (λ t. ap (λ b. (claimed b w k r.worker r.others r.path r.place).rules) t)
    (λ f. ap (λ b. (claimed b w k r.worker r.others r.path r.place).rules) f)
    (cases_Bool (nat_lt w.spent w.rules.budget))
same_rules k Try w next r = ap (λ (x : World). x.rules) r.after
same_rules k (Put index) w next r = ap (λ (x : World). x.rules) r.after
same_rules k (CloseLeaf bound) w next r = ap (λ (x : World). x.rules) r.after
same_rules k Offer w next r = ap (λ (x : World). x.rules) r.after
same_rules k Finish w next r = ap (λ (x : World). x.rules) r.after

pub come_kept : (events : List Event) (w last : World) → IsProblem w.rules.problem → w.rules.start ≤ cap w.rules.problem → IsKeptWorld w → Come events w last → (last.rules ≡ w.rules) × IsKeptWorld last
come_kept [] w last ok low h e = (ap (λ (x : World). x.rules) e, subst IsKeptWorld (sym e) h)
come_kept (event ∷ events) w last ok low h c = ⊎_elim
    (λ r.
    let s : (c.0).rules ≡ w.rules = same_rules event.worker event.kind w c.0 r in
    let t = come_kept events c.0 last (subst (λ x. IsProblem x.problem) (sym s) ok) (subst (λ x. x.start ≤ cap x.problem) (sym s) low) (leads_by_kept event.worker event.kind w c.0 ok low h r) c.2 in
    (t.0 ∙ s, t.1))
    (λ n.
    let s : (c.0).rules ≡ w.rules = ap (λ (x : World). x.rules) n.1 in
    let t = come_kept events c.0 last (subst (λ x. IsProblem x.problem) (sym s) ok) (subst (λ x. x.start ≤ cap x.problem) (sym s) low) (subst IsKeptWorld (sym n.1) h) c.2 in
    (t.0 ∙ s, t.1))
    c.1
