-- An event leads to one world at most.
use Rattle.std.proofs.Common.{◌≡◌, ℕ, ◌+◌, ◌⊎◌, ⊎_elim, cond, List, [], ◌∷◌, ◌++◌, length, refl, sym, ap, ◌∙◌, subst, arith, length-append}
use Rattle.std.proofs.lemmas.Option.{same_Some}
use Rattle.crp_plan.specs.Bay.{Problem, IsProblem, Position, IsAt}
use Rattle.crp_plan.specs.Running.{after_see, after_offer, after_claim, is_granted}
use Rattle.crp_plan.proofs.Paths.{same_at}
use Rattle.crp_steps.specs.declared.event.Bound.{Bound}
use Rattle.crp_steps.specs.declared.event.Kind.{Kind}
use Rattle.crp_steps.specs.declared.event.Kind.TheVariants.{See, Take, Steal, Claim, Try, Put, Leaf as CloseLeaf, Offer, Finish}
use Rattle.crp_steps.specs.declared.event.Event.{Event}
use Rattle.crp_steps.specs.Worlds.{Worker, World, IsWorker, with_worker}
use Rattle.crp_steps.specs.Events.{words_of, after_words, Steps, Sees, Takes, Steals, IsCurrent, branched, Claims, Tries, Puts, value_of, Closes, Offers, Finishes, LeadsBy, Leads, Comes, Come}
use Rattle.crp_steps.proofs.Followed.{same_rules}

-- a list ends in one way
pub last_parts : {X : Type 0} (a b : List X) (x y : X) → a ++ x ∷ [] ≡ b ++ y ∷ [] → (a ≡ b) × (x ≡ y)
last_parts [] [] x y e = (refl, cc)
last_parts [] (b ∷ bs) x y e = absurd (omega (arith, ap length e, length-append bs (y ∷ [])))
last_parts (a ∷ as') [] x y e = absurd (omega (arith, ap length e, length-append as' (x ∷ [])))
last_parts (a ∷ as') (b ∷ bs) x y e =
    let t : as' ++ x ∷ [] ≡ bs ++ y ∷ [] = cc in
    let h : a ≡ b = cc in
    let r = last_parts as' bs x y t in
    let q : as' ≡ bs = r.0 in
    (cc, r.1)

-- a list is parted at an index in one way
pub index_parts : {X : Type 0} (a b : List X) (x y : X) (c d : List X) → length a ≡ length b → a ++ x ∷ c ≡ b ++ y ∷ d → (a ≡ b) × (x ≡ y) × (c ≡ d)
index_parts [] [] x y c d n e = (refl, cc, cc)
index_parts [] (b ∷ bs) x y c d n e = absurd (omega arith)
index_parts (a ∷ as') [] x y c d n e = absurd (omega arith)
index_parts (a ∷ as') (b ∷ bs) x y c d n e =
    let t : as' ++ x ∷ c ≡ bs ++ y ∷ d = cc in
    let h : a ≡ b = cc in
    let r = index_parts as' bs x y c d (omega arith) t in
    let q : as' ≡ bs = r.0 in
    (cc, r.1, r.2)

pub same_worker : (w : World) (k : ℕ) (v v' : Worker) → IsWorker w k v → IsWorker w k v' → v ≡ v'
same_worker w k v v' a b = same_Some v v' (sym a ∙ b)

pub same_current : (p : Problem) (v v' : Worker) (others others' : List (List ℕ)) (path path' : List ℕ) (s s' : Position) → IsProblem p → v ≡ v' → IsCurrent p v others path s → IsCurrent p v' others' path' s' →
    (others ≡ others') × (path ≡ path') × (s ≡ s')
same_current p v v' others others' path path' s s' ok e a b =
    let r = last_parts others others' path path' (sym a.is_last ∙ ap (λ (x : Worker). x.hand) e ∙ b.is_last) in
    (r.0, r.1, same_at p path' s s' ok (subst (λ l. IsAt p l s) r.1 a.is_at) b.is_at)

one_see : (k : ℕ) (w next other : World) → Sees k w next → Sees k w other → next ≡ other
one_see k w next other a b = a.after ∙ ap (λ v. after_words w k v (after_see (words_of w v))) (same_worker w k a.worker b.worker a.acts b.acts) ∙ sym b.after

one_steps : (step : Worker → Worker → Type 0) → ((v next other : Worker) → step v next → step v other → next ≡ other) → (k : ℕ) (w next other : World) → Steps step k w next → Steps step k w other → next ≡ other
one_steps step one k w next other a b =
    let e = same_worker w k a.worker b.worker a.acts b.acts in
    a.after ∙ ap (with_worker w k) (one b.worker a.changed b.changed (subst (λ x. step x a.changed) e a.own) b.own) ∙ sym b.after

one_take : (v next other : Worker) → Takes v next → Takes v other → next ≡ other
one_take v next other a b =
    let r = last_parts a.others b.others a.name b.name (sym a.is_last ∙ b.is_last) in
    a.after ∙ (λ i. record v { deque = r.0 i; hand = v.hand ++ r.1 i ∷ []; has_task = Rattle.std.proofs.Common.true }) ∙ sym b.after

abbrev stole : World → ℕ → ℕ → Worker → Worker → List (List ℕ) → List ℕ → World
stole w k victim v u others name = with_worker (with_worker w victim (record u { deque = others })) k (record v { hand = v.hand ++ name ∷ []; has_task = Rattle.std.proofs.Common.true })

first_parts : {X : Type 0} (x y : X) (c d : List X) → x ∷ c ≡ y ∷ d → (x ≡ y) × (c ≡ d)
first_parts x y c d e = (cc, cc)

one_steal : (k victim : ℕ) (w next other : World) → Steals k victim w next → Steals k victim w other → next ≡ other
one_steal k victim w next other a b =
    let e = same_worker w k a.worker b.worker a.acts b.acts in
    let f = same_worker w victim a.robbed b.robbed a.is_there b.is_there in
    let r = first_parts a.name b.name a.others b.others (sym a.is_first ∙ ap (λ (x : Worker). x.deque) f ∙ b.is_first) in
    a.after ∙ ap (λ v. stole w k victim v a.robbed a.others a.name) e ∙ ap (λ u. stole w k victim b.worker u a.others a.name) f
    ∙ ap (λ o. stole w k victim b.worker b.robbed o a.name) r.1 ∙ ap (stole w k victim b.worker b.robbed b.others) r.0 ∙ sym b.after

abbrev claimed : World → ℕ → Worker → List (List ℕ) → List ℕ → Position → World
claimed w k v others path s = cond (is_granted w.rules.budget (words_of w v)) (branched w k v others path s) (after_words w k v (after_claim w.rules.budget (words_of w v)))

one_claim : (k : ℕ) (w next other : World) → IsProblem w.rules.problem → Claims k w next → Claims k w other → next ≡ other
one_claim k w next other ok a b =
    let e = same_worker w k a.worker b.worker a.acts b.acts in
    let r = same_current w.rules.problem a.worker b.worker a.others b.others a.path b.path a.place b.place ok e a.current b.current in
    a.after ∙ ap (λ v. claimed w k v a.others a.path a.place) e ∙ ap (λ o. claimed w k b.worker o a.path a.place) r.0
    ∙ ap (λ x. claimed w k b.worker b.others x a.place) r.1 ∙ ap (claimed w k b.worker b.others b.path) r.2 ∙ sym b.after

one_try : (k : ℕ) (w next other : World) → Tries k w next → Tries k w other → next ≡ other
one_try k w next other a b =
    a.after ∙ ap (λ v. after_words w k v (after_claim w.rules.budget (words_of w v))) (same_worker w k a.worker b.worker a.acts b.acts) ∙ sym b.after

one_put : (split index : ℕ) (v next other : Worker) → Puts split index v next → Puts split index v other → next ≡ other
one_put split index v next other a b =
    let r = index_parts a.before b.before a.path b.path a.behind b.behind (a.at_index ∙ sym b.at_index) (sym a.in_hand ∙ b.in_hand) in
    a.after ∙ (λ i. record v { deque = v.deque ++ r.1 i ∷ []; hand = r.0 i ++ r.2 i }) ∙ sym b.after

abbrev closed : World → ℕ → Bound → Worker → List (List ℕ) → List ℕ → Position → World
closed w k bound v others path s = record (with_worker w k (record v { hand = others })) { leaves = w.leaves ++ (record { path = path; value = value_of bound path s }) ∷ [] }

one_leaf : (k : ℕ) (bound : Bound) (w next other : World) → IsProblem w.rules.problem → Closes k bound w next → Closes k bound w other → next ≡ other
one_leaf k bound w next other ok a b =
    let e = same_worker w k a.worker b.worker a.acts b.acts in
    let r = same_current w.rules.problem a.worker b.worker a.others b.others a.path b.path a.place b.place ok e a.current b.current in
    a.after ∙ ap (λ v. closed w k bound v a.others a.path a.place) e ∙ ap (λ o. closed w k bound b.worker o a.path a.place) r.0
    ∙ ap (λ x. closed w k bound b.worker b.others x a.place) r.1 ∙ ap (closed w k bound b.worker b.others b.path) r.2 ∙ sym b.after

abbrev offered : World → ℕ → Worker → List ℕ → World
offered w k v path = record (after_words w k v (after_offer (length path) (words_of w v))) { offered = w.offered ++ (record { worker = k; path = path }) ∷ [] }

one_offer : (k : ℕ) (w next other : World) → IsProblem w.rules.problem → Offers k w next → Offers k w other → next ≡ other
one_offer k w next other ok a b =
    let e = same_worker w k a.worker b.worker a.acts b.acts in
    let r = same_current w.rules.problem a.worker b.worker a.others b.others a.path b.path a.place b.place ok e a.current b.current in
    a.after ∙ ap (λ v. offered w k v a.path) e ∙ ap (offered w k b.worker) r.1 ∙ sym b.after

one_by : (k : ℕ) (kind : Kind) (w next other : World) → IsProblem w.rules.problem → LeadsBy k kind w next → LeadsBy k kind w other → next ≡ other
one_by k See w next other ok a b = one_see k w next other a b
one_by k Take w next other ok a b = one_steps Takes one_take k w next other a b
one_by k (Steal victim) w next other ok a b = one_steal k victim w next other a b
one_by k Claim w next other ok a b = one_claim k w next other ok a b
one_by k Try w next other ok a b = one_try k w next other a b
one_by k (Put index) w next other ok a b = one_steps (Puts w.rules.split index) (one_put w.rules.split index) k w next other a b
one_by k (CloseLeaf bound) w next other ok a b = one_leaf k bound w next other ok a b
one_by k Offer w next other ok a b = one_offer k w next other ok a b
one_by k Finish w next other ok a b = one_steps Finishes (λ v n o c d. c.after ∙ sym d.after) k w next other a b

pub one_event : (event : Event) (w next other : World) → IsProblem w.rules.problem → Leads event w next → Leads event w other → next ≡ other
one_event event w next other ok a b = one_by event.worker event.kind w next other ok a b

one_comes : (event : Event) (w next other : World) → IsProblem w.rules.problem → Comes event w next → Comes event w other → next ≡ other
one_comes event w next other ok a b = ⊎_elim
    (λ x. ⊎_elim (λ y. one_event event w next other ok x y) (λ n. absurd (n.0 next x)) b)
    (λ n. ⊎_elim (λ y. absurd (n.0 other y)) (λ m. n.1 ∙ sym m.1) b)
    a

pub comes_rules : (event : Event) (w next : World) → Comes event w next → next.rules ≡ w.rules
comes_rules event w next a = ⊎_elim (λ x. same_rules event.worker event.kind w next x) (λ n. ap (λ (x : World). x.rules) n.1) a

pub one_list : (events : List Event) (w last other : World) → IsProblem w.rules.problem → Come events w last → Come events w other → last ≡ other
one_list [] w last other ok a b = a ∙ sym b
one_list (event ∷ events) w last other ok a b =
    let e : b.0 ≡ a.0 = sym (one_comes event w a.0 b.0 ok a.1 b.1) in
    one_list events a.0 last other (subst (λ x. IsProblem x.problem) (sym (comes_rules event w a.0 a.1)) ok) a.2 (subst (λ x. Come events x other) e b.2)

-- one more event
pub come_one : (events : List Event) (event : Event) (w mid next : World) → Come events w mid → Comes event mid next → Come (events ++ event ∷ []) w next
come_one [] event w mid next a b = (next, subst (λ x. Comes event x next) a b, refl)
come_one (first ∷ events) event w mid next a b = (a.0, a.1, come_one events event a.0 mid next a.2 b)
