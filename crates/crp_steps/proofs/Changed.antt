-- What one worker's change keeps.
use Rattle.std.proofs.Common.{◌≡◌, ℕ, ◌+◌, ◌<◌, ◌≤◌, min, ◌⊎◌, inl, inr, ⊎_elim, List, [], ◌∷◌, ◌++◌, length, Contains, Some, slice_get, slice_set, sum_by, refl, sym, ap, ◌∙◌, subst, arith}
use Rattle.std.proofs.lemmas.Option.{same_Some}
use Rattle.std.proofs.lemmas.Bool.{cases_eq}
use Rattle.std.proofs.lemmas.List.Elements.{Contains-append_cases}
use Rattle.crp_plan.specs.declared.moves.Move.{Move}
use Rattle.crp_plan.specs.Bay.{IsPlan, path_of}
use Rattle.crp_plan.proofs.Lists.{sum_put, get_put_same, get_put_other}
use Rattle.crp_bay.proofs.Members.{not_in_nil, in_cons_cases}
use Rattle.crp_tree.specs.Trees.{Begins}
use Rattle.crp_steps.specs.Worlds.{Worker, Leaf, Offered, World, IsWorker}
use Rattle.crp_steps.specs.Covered.{Has, GoesByLeaf, IsCovered, WasOffered, SomeRefused, LeadsSomewhere, IsKeptWorld}

-- the one member of a list of one
pub in_one : {X : Type 0} (x y : X) → Contains (x ∷ []) y → x ≡ y
in_one x y c = ⊎_elim (λ e. e) (λ c'. absurd (not_in_nil y c')) (in_cons_cases x [] y c)

-- a member of a list with one more behind
pub in_pushed : {X : Type 0} (xs : List X) (x y : X) → Contains (xs ++ x ∷ []) y → Contains xs y ⊎ (x ≡ y)
in_pushed xs x y c = ⊎_elim (λ old. inl old) (λ new. inr (in_one x y new)) (Contains-append_cases xs (x ∷ []) y c)

-- the world after one worker's change
abbrev pub changed : World → ℕ → Worker → ℕ → ℕ → List Leaf → List Offered → World
changed w k v limit spent leaves offered = record { rules = w.rules; limit = limit; spent = spent; workers = slice_set w.workers k v; leaves = leaves; offered = offered }

-- what is kept besides coverage
pub record Rest (w : World) : Type 0 where
  pub limit_is : (w.limit ≡ w.rules.start) ⊎ WasOffered w w.limit
  pub not_above : w.limit ≤ w.rules.start
  pub seen : (k : ℕ) (worker : Worker) → IsWorker w k worker → w.limit ≤ worker.view.seen
  pub leaves_high : (leaf : Leaf) → Contains w.leaves leaf → (w.limit ≤ leaf.value) ⊎ SomeRefused w
  pub offers_high : (offer : Offered) → Contains w.offered offer → w.limit ≤ length offer.path
  pub granted : sum_by (λ (worker : Worker). worker.view.granted) w.workers ≡ min w.spent w.rules.budget
  pub refused : sum_by (λ (worker : Worker). worker.view.refused) w.workers + min w.spent w.rules.budget ≡ w.spent
  pub once : (k : ℕ) (worker : Worker) → IsWorker w k worker → worker.view.refused ≤ 1
  pub paths : (k : ℕ) (worker : Worker) → IsWorker w k worker → (path : List ℕ) → Has worker path → LeadsSomewhere w.rules.problem path
  pub names : (k : ℕ) (worker : Worker) → IsWorker w k worker → (path : List ℕ) → Contains worker.deque path → length path ≤ w.rules.split

pub rest_of : (w : World) → IsKeptWorld w → Rest w
rest_of w h = record {
  limit_is = h.limit_is;
  not_above = h.not_above;
  seen = h.seen;
  leaves_high = h.leaves_high;
  offers_high = h.offers_high;
  granted = h.granted;
  refused = h.refused;
  once = h.once;
  paths = h.paths;
  names = h.names;
}

pub kept_of : (w : World) → Rest w → ((moves : List Move) → IsPlan w.rules.problem moves → IsCovered w moves) → IsKeptWorld w
kept_of w r covered = record {
  covered = covered;
  limit_is = r.limit_is;
  not_above = r.not_above;
  seen = r.seen;
  leaves_high = r.leaves_high;
  offers_high = r.offers_high;
  granted = r.granted;
  refused = r.refused;
  once = r.once;
  paths = r.paths;
  names = r.names;
}

-- one worker's change, and what it does to the rest of the world
pub record Change (w : World) (k : ℕ) (v v' : Worker) (limit spent : ℕ) (leaves : List Leaf) (offered : List Offered) : Type 0 where
  pub was : IsWorker w k v
  pub falls : limit ≤ w.limit
  pub limit_is : (limit ≡ w.rules.start) ⊎ WasOffered (changed w k v' limit spent leaves offered) limit
  pub sees : limit ≤ v'.view.seen
  pub refuses : v.view.refused ≤ v'.view.refused
  pub leaves_high : (leaf : Leaf) → Contains leaves leaf → Contains w.leaves leaf ⊎ ((limit ≤ leaf.value) ⊎ SomeRefused (changed w k v' limit spent leaves offered))
  pub offers_high : (offer : Offered) → Contains offered offer → Contains w.offered offer ⊎ (limit ≤ length offer.path)
  pub granted : v'.view.granted + min w.spent w.rules.budget ≡ v.view.granted + min spent w.rules.budget
  pub refused : (v'.view.refused + min spent w.rules.budget) + w.spent ≡ (v.view.refused + min w.spent w.rules.budget) + spent
  pub once : v'.view.refused ≤ 1
  pub paths : (path : List ℕ) → Has v' path → Has v path ⊎ LeadsSomewhere w.rules.problem path
  pub names : (path : List ℕ) → Contains v'.deque path → Contains v.deque path ⊎ (length path ≤ w.rules.split)

-- the worker at an index after the change
pub at_put : (ws : List Worker) (k j : ℕ) (v v' u : Worker) → slice_get ws k ≡ Some v → slice_get (slice_set ws k v') j ≡ Some u → ((j ≡ k) × (v' ≡ u)) ⊎ (slice_get ws j ≡ Some u)
at_put ws k j v v' u was e = ⊎_elim
    (λ q. inl (q, same_Some v' u (sym (get_put_same ws k v v' was) ∙ ap (slice_get (slice_set ws k v')) (sym q) ∙ e)))
    (λ ne. inr (sym (get_put_other ws k j v' ne) ∙ e))
    (cases_eq j k)

-- who was refused stays refused
pub stays_refused : (w next : World) (k : ℕ) (v v' : Worker) → IsWorker w k v → next.workers ≡ slice_set w.workers k v' → v.view.refused ≤ v'.view.refused → SomeRefused w → SomeRefused next
stays_refused w next k v v' was puts more s = ⊎_elim
    (λ q.
    let same : s.worker ≡ v = same_Some s.worker v (sym s.is_there ∙ ap (slice_get w.workers) q ∙ was) in
    let low : 0 < v.view.refused = subst (λ (x : Worker). 0 < x.view.refused) same s.refused in
    record { index = k; worker = v'; is_there = ap (λ ws. slice_get ws k) puts ∙ get_put_same w.workers k v v' was; refused = omega arith })
    (λ ne. record { index = s.index; worker = s.worker; is_there = ap (λ ws. slice_get ws s.index) puts ∙ get_put_other w.workers k s.index v' ne ∙ s.is_there; refused = s.refused })
    (cases_eq s.index k)

pub rest_kept : (w : World) (k : ℕ) (v v' : Worker) (limit spent : ℕ) (leaves : List Leaf) (offered : List Offered) → Rest w → Change w k v v' limit spent leaves offered → Rest (changed w k v' limit spent leaves offered)
rest_kept w k v v' limit spent leaves offered r c = record {
  limit_is = c.limit_is;
  not_above = let a = r.not_above in let b = c.falls in omega arith;
  seen = λ j u e. ⊎_elim
      (λ q. let s = c.sees in subst (λ (x : Worker). limit ≤ x.view.seen) q.1 s)
      (λ old. let s = r.seen j u old in let b = c.falls in omega arith)
      (at_put w.workers k j v v' u c.was e);
  leaves_high = λ l i. ⊎_elim
      (λ old. ⊎_elim (λ s. inl (let b = c.falls in omega arith)) (λ some. inr (stays_refused w (changed w k v' limit spent leaves offered) k v v' c.was refl c.refuses some)) (r.leaves_high l old))
      (λ new. new)
      (c.leaves_high l i);
  offers_high = λ o i. ⊎_elim
      (λ old. let s = r.offers_high o old in let b = c.falls in omega arith)
      (λ new. new)
      (c.offers_high o i);
  granted = cancel _ _ _ _ _ _ (sum_put (λ (u : Worker). u.view.granted) w.workers k v v' c.was) r.granted c.granted;
  refused = balance _ _ _ _ _ _ _ _ (sum_put (λ (u : Worker). u.view.refused) w.workers k v v' c.was) r.refused c.refused;
  once = λ j u e. ⊎_elim
      (λ q. let s = c.once in subst (λ (x : Worker). x.view.refused ≤ 1) q.1 s)
      (λ old. r.once j u old)
      (at_put w.workers k j v v' u c.was e);
  paths = λ j u e path has. ⊎_elim
      (λ q. ⊎_elim (λ old. r.paths k v c.was path old) (λ new. new) (c.paths path (subst (λ x. Has x path) (sym q.1) has)))
      (λ old. r.paths j u old path has)
      (at_put w.workers k j v v' u c.was e);
  names = λ j u e path has. ⊎_elim
      (λ q. ⊎_elim (λ old. r.names k v c.was path old) (λ new. new) (c.names path (subst (λ (x : Worker). Contains x.deque path) (sym q.1) has)))
      (λ old. r.names j u old path has)
      (at_put w.workers k j v v' u c.was e);
}
  where
    cancel : (s s' a b m m' : ℕ) → s' + a ≡ s + b → s ≡ m → b + m ≡ a + m' → s' ≡ m'
    cancel s s' a b m m' e g h = omega arith

    balance : (s s' a b m m' n n' : ℕ) → s' + a ≡ s + b → s + m ≡ n → (b + m') + n ≡ (a + m) + n' → s' + m' ≡ n'
    balance s s' a b m m' n n' e g h = omega arith

-- coverage after one worker's change
pub covered_kept : (w next : World) (k : ℕ) (v v' : Worker) (moves : List Move) → IsCovered w moves → IsWorker w k v → next.workers ≡ slice_set w.workers k v' →
    ((l : Leaf) → Contains w.leaves l → Contains next.leaves l) →
    ((path : List ℕ) → Has v path → Begins (path_of moves) path → GoesByLeaf next moves ⊎ ((longer : List ℕ) × Has v' longer × Begins (path_of moves) longer)) →
    IsCovered next moves
covered_kept w next k v v' moves covered was puts more moved = ⊎_elim
    (λ l. inl (record { leaf = l.leaf; closed = more l.leaf l.closed; begins = l.begins; low = l.low }))
    (λ g. let s = g.waits in ⊎_elim
    (λ q.
    let same : s.worker ≡ v = same_Some s.worker v (sym s.is_there ∙ ap (slice_get w.workers) q ∙ was) in
    ⊎_elim
    (λ l. inl l)
    (λ n. inr (record { path = n.0; waits = record { index = k; worker = v'; is_there = ap (λ ws. slice_get ws k) puts ∙ get_put_same w.workers k v v' was; has = n.1 }; begins = n.2 }))
    (moved g.path (subst (λ u. Has u g.path) same s.has) g.begins))
    (λ ne. inr (record { path = g.path; waits = record { index = s.index; worker = s.worker; is_there = ap (λ ws. slice_get ws s.index) puts ∙ get_put_other w.workers k s.index v' ne ∙ s.is_there; has = s.has }; begins = g.begins }))
    (cases_eq s.index k))
    covered
