-- What the code does is what the events do.
use Rattle.std.proofs.Common.{◌≡◌, ◌≢◌, ℕ, zero, suc, ◌<◌, ◌≤◌, Bool, true, false, cond, ◌==◌, List, [], ◌∷◌, ◌++◌, length, Contains, Option, Some, None, slice_get, slice_set, get_or, refl, sym, ap, ◌∙◌, subst, arith, length-append}
use Rattle.std.proofs.lemmas.Option.{same_Some, slice_get_read, slice_get_within}
use Rattle.std.proofs.lemmas.List.{length-set, append-nil}
use Rattle.crp_plan.specs.declared.running.Words.{Words}
use Rattle.crp_plan.specs.Bay.{Problem, IsProblem, Position, IsAt, IsFinished}
use Rattle.crp_plan.specs.Running.{after_offer, after_claim, is_granted}
use Rattle.crp_plan.proofs.Steps.{short_path}
use Rattle.crp_plan.proofs.Lists.{get_put_same, get_put_other}
use Rattle.crp_bay.specs.Positions.{at, targets, child}
use Rattle.crp_bay.proofs.Members.{in_head}
use Rattle.crp_bay.proofs.Walked.{at_reads, target_goes_on}
use Rattle.crp_steps.specs.declared.event.Bound.{Bound}
use Rattle.crp_steps.specs.declared.event.Kind.{Kind}
use Rattle.crp_steps.specs.declared.event.Kind.TheVariants.{See, Take, Steal, Claim, Try, Put, Leaf as CloseLeaf, Offer, Finish}
use Rattle.crp_steps.specs.declared.event.Stopped.{Stopped}
use Rattle.crp_steps.specs.declared.event.Stopped.TheVariants.{NotNow, Memory}
use Rattle.crp_steps.specs.Worlds.{Worker, Leaf, World, IsWorker, with_worker}
use Rattle.crp_steps.specs.Events.{words_of, after_words, children, closed_if_dead, Steps, Takes, Steals, branched, Claims, Tries, Puts, Closes, Offers, MayClose, HoldsAt, value_of, LeadsBy}
use Rattle.crp_steps.specs.Own.{IsStopped, HoldsCurrent, BranchesAt}
use Rattle.crp_steps.proofs.One.{last_parts, same_worker, same_current}

-- a worker is there where there are so many
pub worker_there : (w : World) (k : ℕ) → k < length w.workers → (v : Worker) × IsWorker w k v
worker_there w k lt = at_least w.workers k lt
  where
    at_least : (ws : List Worker) (k : ℕ) → k < length ws → (v : Worker) × (slice_get ws k ≡ Some v)
    at_least [] k lt = absurd (omega arith)
    at_least (v ∷ ws) zero lt = (v, refl)
    at_least (v ∷ ws) (suc k) lt = at_least ws k (omega arith)

-- the worker that was read
pub is_worker : (w : World) (items : List Worker) (k : ℕ) (v : Worker) → items ≡ w.workers → k < length w.workers → v ≡ get_or items k v → IsWorker w k v
is_worker w items k v e lt read = ap (λ l. slice_get l k) (sym e) ∙ slice_get_read items (length w.workers) k v (sym (ap length e)) lt read

-- a step that concerns the worker alone is allowed where the worker can take it
pub steps_may : (step : Worker → Worker → Type 0) (w : World) (k : ℕ) (v : Worker) → IsWorker w k v → ((next : Worker) × step v next) → (next : World) × Steps step k w next
steps_may step w k v was some = (with_worker w k some.0, record { worker = v; acts = was; changed = some.0; own = some.1; after = refl })

pub steps_not : (step : Worker → Worker → Type 0) (w : World) (k : ℕ) (v : Worker) → IsWorker w k v → ((next : Worker) → step v next → ⊥) → (next : World) → Steps step k w next → ⊥
steps_not step w k v was none next r = none r.changed (subst (λ x. step x r.changed) (same_worker w k r.worker v r.acts was) r.own)

-- and stops where the worker's own does
pub steps_stopped : (step : Worker → Worker → Type 0) (w : World) (k : ℕ) (v : Worker) → IsWorker w k v → (why : Stopped) → IsStopped (step v) why → IsStopped (Steps step k w) why
steps_stopped step w k v was NotNow none = steps_not step w k v was none
steps_stopped step w k v was Memory some = steps_may step w k v was some

-- a list that is not empty ends with its last
pub ends_with : {X : Type 0} (xs : List X) → (length xs == 0) ≡ false → (others : List X) × (last : X) × (xs ≡ others ++ last ∷ [])
ends_with [] some = cc
ends_with (x ∷ xs) some = from x xs
  where
    from : {X : Type 0} (x : X) (xs : List X) → (others : List X) × (last : X) × (x ∷ xs ≡ others ++ last ∷ [])
    from x [] = ([], x, refl)
    from x (y ∷ xs) = let t = from y xs in (x ∷ t.0, t.1, ap (λ l. x ∷ l) t.2)

pub can_take : (v : Worker) → v.has_task ≡ false → (length v.deque == 0) ≡ false → (next : Worker) × Takes v next
can_take v idle some =
    let t = ends_with v.deque some in
    (record v { deque = t.0; hand = v.hand ++ t.1 ∷ []; has_task = true }, record { no_task = idle; others = t.0; name = t.1; is_last = t.2; after = refl })

pub can_put : (split index : ℕ) (v : Worker) (path : List ℕ) → index < length v.hand → path ≡ get_or v.hand index path → length path ≤ split → (next : Worker) × Puts split index v next
can_put split index v path lt is short =
    let t = parted v.hand index path lt is in
    (record v { deque = v.deque ++ path ∷ []; hand = t.0 ++ t.1 }, record { before = t.0; path = path; behind = t.1; in_hand = t.2; at_index = t.3; short = short; after = refl })
  where
    parted : {X : Type 0} (xs : List X) (i : ℕ) (x : X) → i < length xs → x ≡ get_or xs i x → (before : List X) × (behind : List X) × (xs ≡ before ++ x ∷ behind) × (length before ≡ i)
    parted [] i x lt e = absurd (omega arith)
    parted (y ∷ xs) zero x lt e = ([], xs, ap (λ v. v ∷ xs) (sym e), refl)
    parted (y ∷ xs) (suc i) x lt e = let t = parted xs i x (omega arith) e in (y ∷ t.0, t.1, ap (λ l. y ∷ l) t.2, ap suc t.3)

-- the current path of a worker is one
pub same_holds : (w : World) (k : ℕ) (path path' : List ℕ) (s s' : Position) → IsProblem w.rules.problem → HoldsCurrent w k path s → HoldsCurrent w k path' s' → (path ≡ path') × (s ≡ s')
same_holds w k path path' s s' ok a b =
    let e = same_worker w k a.worker b.worker a.acts b.acts in
    let r = same_current w.rules.problem a.worker b.worker a.others b.others path path' s s' ok e a.current b.current in
    (r.1, r.2)

pub holds_none : (w : World) (k : ℕ) (v : Worker) (path path' : List ℕ) (s' : Position) (o : Option Position) → IsProblem w.rules.problem → IsWorker w k v → ((others : List (List ℕ)) × (v.hand ≡ others ++ path ∷ [])) →
    o ≡ None → o ≡ at w.rules.problem path → HoldsCurrent w k path' s' → ⊥
holds_none w k v path path' s' o ok was ends none is h =
    let e = same_worker w k h.worker v h.acts was in
    let cur = h.current in
    let r = last_parts h.others ends.0 path' path (sym cur.is_last ∙ ap (λ (x : Worker). x.hand) e ∙ ends.1) in
    let reads : at w.rules.problem path ≡ Some s' = at_reads w.rules.problem path s' ok (subst (λ l. IsAt w.rules.problem l s') r.1 cur.is_at) in
    let f : None ≡ Some s' = sym none ∙ is ∙ reads in
    cc

-- two places of a list may be written in either order
set_swap : {X : Type 0} (xs : List X) (i j : ℕ) (x y : X) → i ≢ j → slice_set (slice_set xs i x) j y ≡ slice_set (slice_set xs j y) i x
set_swap [] i j x y ne = refl
set_swap (z ∷ xs) zero zero x y ne = absurd (ne refl)
set_swap (z ∷ xs) zero (suc j) x y ne = refl
set_swap (z ∷ xs) (suc i) zero x y ne = refl
set_swap (z ∷ xs) (suc i) (suc j) x y ne = ap (λ l. z ∷ l) (set_swap xs i j x y (λ e. ne (ap suc e)))

pub steals : (w : World) (k victim : ℕ) (v u v' u' : Worker) (name : List ℕ) → IsWorker w k v → IsWorker w victim u → victim ≢ k → v.has_task ≡ false → ((others : List (List ℕ)) × (u.deque ≡ name ∷ others)) →
    v' ≡ record v { hand = v.hand ++ name ∷ []; has_task = true } → ((first : List ℕ) (others : List (List ℕ)) → u.deque ≡ first ∷ others → u' ≡ record u { deque = others }) →
    Steals k victim w (record w { workers = slice_set (slice_set w.workers k v') victim u' })
steals w k victim v u v' u' name was wasu ne idle first got lost = record {
  worker = v;
  acts = was;
  no_task = idle;
  another = ne;
  robbed = u;
  is_there = wasu;
  name = name;
  others = first.0;
  is_first = first.1;
  after =
      ap (λ (l : List Worker). record w { workers = l }) (set_swap w.workers k victim v' u' (λ e. ne (sym e)))
      ∙ ap (λ (x : Worker). record w { workers = slice_set (slice_set w.workers victim x) k v' }) (lost name first.0 first.1)
      ∙ ap (λ (x : Worker). record w { workers = slice_set (slice_set w.workers victim (record u { deque = first.0 })) k x }) got;
}

pub can_steal : (w : World) (k victim : ℕ) (v u : Worker) (name : List ℕ) → IsWorker w k v → IsWorker w victim u → victim ≢ k → v.has_task ≡ false → ((others : List (List ℕ)) × (u.deque ≡ name ∷ others)) → (next : World) × Steals k victim w next
can_steal w k victim v u name was wasu ne idle first = (
  with_worker (with_worker w victim (record u { deque = first.0 })) k (record v { hand = v.hand ++ name ∷ []; has_task = true }),
  record { worker = v; acts = was; no_task = idle; another = ne; robbed = u; is_there = wasu; name = name; others = first.0; is_first = first.1; after = refl },
)

-- of another worker than the one written, what is read is what was there
pub read_other : (w : World) (k victim : ℕ) (v' u u2 : Worker) → victim < length w.workers → victim ≢ k → u ≡ get_or w.workers victim u → u2 ≡ get_or (slice_set w.workers k v') victim u2 → u ≡ u2
read_other w k victim v' u u2 lt ne e e2 =
    let a : slice_get w.workers victim ≡ Some u = slice_get_read w.workers (length w.workers) victim u refl lt e in
    let b : slice_get (slice_set w.workers k v') victim ≡ Some u2 = slice_get_read (slice_set w.workers k v') (length w.workers) victim u2 (sym (length-set w.workers k v')) lt e2 in
    same_Some u u2 (sym a ∙ sym (get_put_other w.workers k victim v' ne) ∙ b)

pub offers_not : (w : World) (k : ℕ) (path : List ℕ) (s : Position) → IsProblem w.rules.problem → HoldsCurrent w k path s → (IsFinished s → ⊥) → (next : World) → Offers k w next → ⊥
offers_not w k path s ok h open' next r =
    let e = same_holds w k r.path path r.place s ok (record { worker = r.worker; acts = r.acts; others = r.others; current = r.current }) h in
    open' (subst IsFinished e.1 r.finished)

pub offers : (w mid next : World) (k : ℕ) (path : List ℕ) (s : Position) (n : ℕ) (old new : Words) → HoldsCurrent w k path s → IsFinished s → n ≡ length path →
    mid ≡ record w { offered = w.offered ++ (record { worker = k; path = path }) ∷ [] } →
    ((worker : Worker) → IsWorker w k worker → old ≡ words_of w worker) → new ≡ after_offer n old → ((worker : Worker) → IsWorker mid k worker → next ≡ after_words mid k worker new) → Offers k w next
offers w mid next k path s n old new h end size is_mid olds news met = record {
  worker = h.worker;
  acts = h.acts;
  others = h.others;
  path = path;
  place = s;
  current = h.current;
  finished = end;
  after =
      met h.worker (subst (λ (x : World). IsWorker x k h.worker) (sym is_mid) h.acts)
      ∙ ap (λ (x : World). after_words x k h.worker new) is_mid
      ∙ ap (after_words (record w { offered = w.offered ++ (record { worker = k; path = path }) ∷ [] }) k h.worker)
      (news ∙ ap (after_offer n) (olds h.worker h.acts) ∙ ap (λ m. after_offer m (words_of w h.worker)) size);
}

pub can_offer : (w : World) (k : ℕ) (path : List ℕ) (s : Position) → HoldsCurrent w k path s → IsFinished s → (next : World) × Offers k w next
can_offer w k path s h end = (
  record (after_words w k h.worker (after_offer (length path) (words_of w h.worker))) { offered = w.offered ++ (record { worker = k; path = path }) ∷ [] },
  record { worker = h.worker; acts = h.acts; others = h.others; path = path; place = s; current = h.current; finished = end; after = refl },
)

pub closes_not : (w : World) (k : ℕ) (bound : Bound) (path : List ℕ) (s : Position) (value : ℕ) → IsProblem w.rules.problem → HoldsCurrent w k path s → value ≡ value_of bound path s →
    ((worker : Worker) → IsWorker w k worker → MayClose w k worker (record { path = path; value = value }) s → ⊥) → (next : World) → Closes k bound w next → ⊥
closes_not w k bound path s value ok h is none next r =
    let e = same_holds w k r.path path r.place s ok (record { worker = r.worker; acts = r.acts; others = r.others; current = r.current }) h in
    let one : MayClose w k r.worker (record { path = path; value = value_of bound path r.place }) r.place = subst (λ l. MayClose w k r.worker (record { path = l; value = value_of bound l r.place }) r.place) e.0 r.may in
    let two : MayClose w k r.worker (record { path = path; value = value_of bound path s }) s = subst (λ x. MayClose w k r.worker (record { path = path; value = value_of bound path x }) x) e.1 one in
    none r.worker r.acts (subst (λ n. MayClose w k r.worker (record { path = path; value = n }) s) (sym is) two)

-- no bound closes a path where it does not hold
pub closes_not_held : (w : World) (k : ℕ) (bound : Bound) (path : List ℕ) (s : Position) → IsProblem w.rules.problem → HoldsCurrent w k path s → (HoldsAt bound s → ⊥) → (next : World) → Closes k bound w next → ⊥
closes_not_held w k bound path s ok h none next r =
    let e = same_holds w k r.path path r.place s ok (record { worker = r.worker; acts = r.acts; others = r.others; current = r.current }) h in
    none (subst (HoldsAt bound) e.1 r.holds)

pub can_close : (w : World) (k : ℕ) (bound : Bound) (path : List ℕ) (s : Position) (value : ℕ) → HoldsCurrent w k path s → HoldsAt bound s → value ≡ value_of bound path s →
    ((worker : Worker) → IsWorker w k worker → MayClose w k worker (record { path = path; value = value }) s) → (next : World) × Closes k bound w next
can_close w k bound path s value h holds is may = (
  record (with_worker w k (record h.worker { hand = h.others })) { leaves = w.leaves ++ (record { path = path; value = value_of bound path s }) ∷ [] },
  record {
    worker = h.worker;
    acts = h.acts;
    others = h.others;
    path = path;
    place = s;
    current = h.current;
    holds = holds;
    may = subst (λ n. MayClose w k h.worker (record { path = path; value = n }) s) is (may h.worker h.acts);
    after = refl;
  },
)

-- a path that goes on has room for one more row
pub has_room : (p : Problem) (path rows : List ℕ) (s : Position) → IsProblem p → IsAt p path s → rows ≡ targets s → (length rows == 0) ≡ false → length path < 672
has_room p path [] s ok here e some = cc
has_room p path (row ∷ rows) s ok here e some =
    let t : IsAt p (path ++ row ∷ []) (child s row) = target_goes_on p path s row ok here (subst (λ l. Contains l row) e (in_head row rows)) in
    omega (arith, short_path p (path ++ row ∷ []) (child s row) ok t, length-append path (row ∷ []))

pub claims_not_finished : (w : World) (k : ℕ) (path : List ℕ) (s : Position) → IsProblem w.rules.problem → HoldsCurrent w k path s → IsFinished s → (next : World) → Claims k w next → ⊥
claims_not_finished w k path s ok h end next r =
    let e = same_holds w k r.path path r.place s ok (record { worker = r.worker; acts = r.acts; others = r.others; current = r.current }) h in
    let u : s.next ≤ s.ordered = subst (λ (x : Position). x.next ≤ x.ordered) e.1 r.unfinished in
    omega arith

pub claims_refused : (w next : World) (k : ℕ) (path : List ℕ) (s : Position) (old new : Words) (answer : Bool) → HoldsCurrent w k path s → s.next ≤ s.ordered → old.view.refused ≡ 0 →
    ((worker : Worker) → IsWorker w k worker → old ≡ words_of w worker) → answer ≡ is_granted w.rules.budget old → answer ≡ false → new ≡ after_claim w.rules.budget old →
    ((worker : Worker) → IsWorker w k worker → next ≡ after_words w k worker new) → Claims k w next
claims_refused w next k path s old new answer h unfinished never olds is denied news met =
    let o = olds h.worker h.acts in
    let g : is_granted w.rules.budget (words_of w h.worker) ≡ false = ap (is_granted w.rules.budget) (sym o) ∙ sym is ∙ denied in
    record {
      worker = h.worker;
      acts = h.acts;
      never_refused = sym (ap (λ (x : Words). x.view.refused) o) ∙ never;
      others = h.others;
      path = path;
      place = s;
      current = h.current;
      unfinished = unfinished;
      after = met h.worker h.acts ∙ ap (after_words w k h.worker) (news ∙ ap (after_claim w.rules.budget) o)
          ∙ ap (λ b. cond b (branched w k h.worker h.others path s) (after_words w k h.worker (after_claim w.rules.budget (words_of w h.worker)))) (sym g);
    }

pub claims_granted : (w mid next : World) (k : ℕ) (path : List ℕ) (s : Position) (old new : Words) (answer : Bool) → HoldsCurrent w k path s → s.next ≤ s.ordered → old.view.refused ≡ 0 →
    ((worker : Worker) → IsWorker w k worker → old ≡ words_of w worker) → answer ≡ is_granted w.rules.budget old → answer ≡ true → new ≡ after_claim w.rules.budget old →
    BranchesAt k path s w mid → ((worker : Worker) → IsWorker mid k worker → next ≡ after_words mid k worker new) → Claims k w next
claims_granted w mid next k path s old new answer h unfinished never olds is allowed news branches met =
    let o = olds h.worker h.acts in
    let cur = h.current in
    let g : is_granted w.rules.budget (words_of w h.worker) ≡ true = ap (is_granted w.rules.budget) (sym o) ∙ sym is ∙ allowed in
    let v' : Worker = record h.worker { hand = h.others ++ children path (targets s) } in
    let list : List Leaf = w.leaves ++ closed_if_dead w.rules.problem path (targets s) in
    let e : mid ≡ record (with_worker w k v') { leaves = list } = branches h.worker h.others h.acts cur.is_last in
    let here : IsWorker (record (with_worker w k v') { leaves = list }) k v' = get_put_same w.workers k h.worker v' h.acts in
    let x : Words = after_claim w.rules.budget (words_of w h.worker) in
    record {
      worker = h.worker;
      acts = h.acts;
      never_refused = sym (ap (λ (y : Words). y.view.refused) o) ∙ never;
      others = h.others;
      path = path;
      place = s;
      current = h.current;
      unfinished = unfinished;
      after = met v' (subst (λ (y : World). IsWorker y k v') (sym e) here)
          ∙ ap (λ (y : World). after_words y k v' new) e
          ∙ ap (after_words (record (with_worker w k v') { leaves = list }) k v') (news ∙ ap (after_claim w.rules.budget) o)
          ∙ ap (λ (l : List Worker). record w { limit = x.limit; spent = x.spent; leaves = list; workers = l }) (set_twice w.workers k v' (record v' { view = x.view }))
          ∙ ap (λ b. cond b (branched w k h.worker h.others path s) (after_words w k h.worker x)) (sym g);
    }
  where
    set_twice : {X : Type 0} (xs : List X) (i : ℕ) (a b : X) → slice_set (slice_set xs i a) i b ≡ slice_set xs i b
    set_twice [] i a b = refl
    set_twice (z ∷ xs) zero a b = refl
    set_twice (z ∷ xs) (suc i) a b = ap (λ l. z ∷ l) (set_twice xs i a b)

pub can_claim : (w : World) (k : ℕ) (path : List ℕ) (s : Position) (old : Words) → HoldsCurrent w k path s → s.next ≤ s.ordered → old.view.refused ≡ 0 → ((worker : Worker) → IsWorker w k worker → old ≡ words_of w worker) → (next : World) × Claims k w next
can_claim w k path s old h unfinished never olds = (
  cond (is_granted w.rules.budget (words_of w h.worker)) (branched w k h.worker h.others path s) (after_words w k h.worker (after_claim w.rules.budget (words_of w h.worker))),
  record {
    worker = h.worker;
    acts = h.acts;
    never_refused = sym (ap (λ (x : Words). x.view.refused) (olds h.worker h.acts)) ∙ never;
    others = h.others;
    path = path;
    place = s;
    current = h.current;
    unfinished = unfinished;
    after = refl;
  },
)

-- a thinned branch is claimed
pub tries : (w next : World) (k : ℕ) (path : List ℕ) (s : Position) (old new : Words) → HoldsCurrent w k path s → s.next ≤ s.ordered → old.view.refused ≡ 0 → ((worker : Worker) → IsWorker w k worker → old ≡ words_of w worker) →
    new ≡ after_claim w.rules.budget old → ((worker : Worker) → IsWorker w k worker → next ≡ after_words w k worker new) → Tries k w next
tries w next k path s old new h unfinished never olds news met =
    let o = olds h.worker h.acts in
    record {
      worker = h.worker;
      acts = h.acts;
      never_refused = sym (ap (λ (x : Words). x.view.refused) o) ∙ never;
      others = h.others;
      path = path;
      place = s;
      current = h.current;
      unfinished = unfinished;
      after = met h.worker h.acts ∙ ap (after_words w k h.worker) (news ∙ ap (after_claim w.rules.budget) o);
    }

-- a thinned branch may be claimed just where an expansion may
pub try_as_claim : (w : World) (k : ℕ) (next : World) → Tries k w next → (other : World) × Claims k w other
try_as_claim w k next r =
    (_, record { worker = r.worker; acts = r.acts; never_refused = r.never_refused; others = r.others; path = r.path; place = r.place; current = r.current; unfinished = r.unfinished; after = refl })

pub claim_as_try : (w : World) (k : ℕ) (next : World) → Claims k w next → (other : World) × Tries k w other
claim_as_try w k next r =
    (_, record { worker = r.worker; acts = r.acts; never_refused = r.never_refused; others = r.others; path = r.path; place = r.place; current = r.current; unfinished = r.unfinished; after = refl })

-- nobody acts by a number that is not there
pub nobody : (w : World) (k : ℕ) (kind : Kind) (next : World) → length w.workers ≤ k → LeadsBy k kind w next → ⊥
nobody w k See next le r = let lt = slice_get_within w.workers k r.worker r.acts in omega arith
nobody w k Take next le r = let lt = slice_get_within w.workers k r.worker r.acts in omega arith
nobody w k (Steal victim) next le r = let lt = slice_get_within w.workers k r.worker r.acts in omega arith
nobody w k Claim next le r = let lt = slice_get_within w.workers k r.worker r.acts in omega arith
nobody w k Try next le r = let lt = slice_get_within w.workers k r.worker r.acts in omega arith
nobody w k (Put index) next le r = let lt = slice_get_within w.workers k r.worker r.acts in omega arith
nobody w k (CloseLeaf bound) next le r = let lt = slice_get_within w.workers k r.worker r.acts in omega arith
nobody w k Offer next le r = let lt = slice_get_within w.workers k r.worker r.acts in omega arith
nobody w k Finish next le r = let lt = slice_get_within w.workers k r.worker r.acts in omega arith

-- no test has both outcomes
pub both : (b : Bool) → b ≡ true → b ≡ false → ⊥
both b t f = cc

-- a path that goes on branches
pub branches_on : (w : World) (k : ℕ) (v v' : Worker) (path rows : List ℕ) (s : Position) → IsWorker w k v → rows ≡ targets s → (length rows == 0) ≡ false →
    ((others : List (List ℕ)) (last : List ℕ) → v.hand ≡ others ++ last ∷ [] → v' ≡ record v { hand = others ++ children path rows }) → BranchesAt k path s w (with_worker w k v')
branches_on w k v v' path rows s was e some made worker others acts hand =
    let same = same_worker w k worker v acts was in
    let mine : v.hand ≡ others ++ path ∷ [] = sym (ap (λ (x : Worker). x.hand) same) ∙ hand in
    ap (λ x. with_worker w k x) (made others path mine)
    ∙ ap (λ (x : Worker). with_worker w k (record x { hand = others ++ children path rows })) (sym same)
    ∙ ap (λ (l : List Leaf). record (with_worker w k (record worker { hand = others ++ children path rows })) { leaves = l }) (none_closed w.rules.problem path rows w.leaves some)
    ∙ ap (λ l. record (with_worker w k (record worker { hand = others ++ children path l })) { leaves = w.leaves ++ closed_if_dead w.rules.problem path l }) e
  where
    none_closed : (p : Problem) (path rows : List ℕ) (leaves : List Leaf) → (length rows == 0) ≡ false → leaves ≡ leaves ++ closed_if_dead p path rows
    none_closed p path [] leaves some = cc
    none_closed p path (row ∷ rows) leaves some = sym (append-nil leaves)

-- a change of one worker leaves as many
pub as_many : (w next : World) (k : ℕ) (v : Worker) (leaves : List Leaf) → next ≡ record (with_worker w k v) { leaves = leaves } → length next.workers ≡ length w.workers
as_many w next k v leaves e = ap (λ (x : World). length x.workers) e ∙ length-set w.workers k v

-- the same, from what is read and written
pub stolen : (w : World) (k victim : ℕ) (v v2 u u2 v' u' : Worker) (name : List ℕ) → k < length w.workers → victim < length w.workers → victim ≢ k →
    v ≡ get_or w.workers k v → v2 ≡ get_or w.workers k v2 → u ≡ get_or w.workers victim u → u2 ≡ get_or (slice_set w.workers k v') victim u2 →
    v.has_task ≡ false → ((others : List (List ℕ)) × (u.deque ≡ name ∷ others)) →
    v' ≡ record v2 { hand = v2.hand ++ name ∷ []; has_task = true } → ((first : List ℕ) (others : List (List ℕ)) → u2.deque ≡ first ∷ others → u' ≡ record u2 { deque = others }) →
    Steals k victim w (record w { workers = slice_set (slice_set w.workers k v') victim u' })
stolen w k victim v v2 u u2 v' u' name there victim_there ne e e2 f f2 idle first got lost =
    let was = is_worker w w.workers k v refl there e in
    let was2 = is_worker w w.workers k v2 refl there e2 in
    let same : v2 ≡ v = same_worker w k v2 v was2 was in
    let same' : u2 ≡ u = sym (read_other w k victim v' u u2 victim_there ne f f2) in
    steals w k victim v u v' u' name was (is_worker w w.workers victim u refl victim_there f) ne idle first
    (got ∙ ap (λ (x : Worker). record x { hand = x.hand ++ name ∷ []; has_task = true }) same)
    (subst (λ (x : Worker). (start : List ℕ) (others : List (List ℕ)) → x.deque ≡ start ∷ others → u' ≡ record x { deque = others }) same' lost)
