-- An accepted claim is so.
use Rattle.std.proofs.Common.{◌≡◌, ℕ, zero, suc, ◌+◌, ◌<◌, ◌≤◌, inl, inr, ⊎_elim, List, [], ◌++◌, length, Contains, All, Some, unwrap_or, option_map, refl, sym, ap, ◌∙◌, subst, arith}
use Rattle.std.proofs.lemmas.List.Elements.{All-contains}
use Rattle.crp_plan.specs.declared.moves.Move.{Move}
use Rattle.crp_plan.specs.Bay.{Problem, IsProblem, Position, IsAt, IsPlan, IsBest, relocations, path_of, cap}
use Rattle.crp_plan.specs.Faults.{IsPlanPath}
use Rattle.crp_bay.proofs.Walked.{at_reads}
use Rattle.crp_plan.proofs.Covered.{relocations-path}
use Rattle.crp_plan.proofs.Buried.{below_cap}
use Rattle.crp_tree.specs.Trees.{nodes, given_names, Begins, HasAtLeast, Shows}
use Rattle.crp_tree.specs.Claims.{Part, IsPart, nodes_in, given_by, names, IsNeeded, Claimed, IsAccepted}
use Rattle.crp_tree.proofs.Shown.{shows}
use Rattle.crp_tree.proofs.Nodes.{given_longer}
use Rattle.crp_tree.proofs.Givers.{begins_short}
use Rattle.crp_tree.proofs.Lists.{from_map, in_flat_map, some_or_none}

-- a part's nodes are those of its tree at the position of its name
pub nodes_are : (p : Problem) (part : Part) (s : Position) → IsProblem p → IsAt p part.name s → nodes_in p part ≡ nodes part.name s part.tree
nodes_are p part s ok a = ap (λ o. unwrap_or (option_map (λ t. nodes part.name t part.tree) o) []) (at_reads p part.name s ok a)

-- the names that a part gives are longer than its own
part_longer : (p : Problem) (part : Part) (g : List ℕ) → IsProblem p → IsPart p part → Contains (given_by p part) g → length part.name < length g
part_longer p part g ok is c =
    let shape = is.shape in
    given_longer part.name is.place part.tree g shape.not_given (subst (λ l. Contains (given_names l) g) (nodes_are p part is.place ok is.is_at) c)

-- a part shows a floor that none of its cuts is below
part_shows : (p : Problem) (part : Part) (f : ℕ) → IsProblem p → IsPart p part → HasAtLeast f (nodes_in p part) → f ≤ cap p → Shows p part.name (given_by p part) f
part_shows p part f ok is high le =
    let same = nodes_are p part is.place ok is.is_at in
    subst (λ l. Shows p part.name (given_names l) f) (sym same) (shows p part.name is.place part.tree f ok is.is_at is.shape (subst (HasAtLeast f) same high) le)

-- parts of a problem, with one for each name that is needed; the plan has f relocations or more where it passes one of them and goes through none of the names that it gives
pub record Family (p : Problem) (parts : List Part) (f : ℕ) (moves : List Move) : Type 0 where
  pub is_problem : IsProblem p
  pub each : All (IsPart p) parts
  pub shown : (x : Part) → Contains parts x → Begins (path_of moves) x.name → ((g : List ℕ) → Contains (given_by p x) g → Begins (path_of moves) g → ⊥) → f ≤ relocations moves
  pub needed : (name : List ℕ) → IsNeeded p parts name → Contains (names parts) name

-- a plan that passes one of the parts has at least the floor
passed : (p : Problem) (parts : List Part) (f : ℕ) (moves : List Move) → Family p parts f moves → (more : ℕ) (x : Part) → Contains parts x → Begins (path_of moves) x.name →
    length (path_of moves) < length x.name + more → f ≤ relocations moves
passed p parts f moves family zero x c b enough = absurd (omega (arith, begins_short (path_of moves) x.name b))
passed p parts f moves family (suc more) x c b enough = ⊎_elim
    (λ r.
    let y = from_map (λ (y : Part). y.name) parts r.0 (family.needed r.0 (inr (in_flat_map (given_by p) parts x r.0 c r.1))) in
    passed p parts f moves family more y.0 y.1 (subst (Begins (path_of moves)) (sym y.2) r.2)
    (omega (arith, part_longer p x r.0 family.is_problem (All-contains (IsPart p) parts x family.each c) r.1, ap length y.2)))
    (λ none. family.shown x c b none)
    (some_or_none (path_of moves) (given_by p x))

-- so it has, since it passes the root
pub covered : (p : Problem) (parts : List Part) (f : ℕ) (moves : List Move) → Family p parts f moves → f ≤ relocations moves
covered p parts f moves family =
    let top = from_map (λ (y : Part). y.name) parts [] (family.needed [] (inl refl)) in
    passed p parts f moves family (suc (length (path_of moves))) top.0 top.1 (path_of moves, ap (λ l. l ++ path_of moves) (sym top.2)) (omega arith)

-- where all parts show one floor no plan has fewer relocations
pub floor_covers : (p : Problem) (parts : List Part) (f : ℕ) (moves : List Move) → IsProblem p → All (IsPart p) parts → All (λ part. Shows p part.name (given_by p part) f) parts →
    ((name : List ℕ) → IsNeeded p parts name → Contains (names parts) name) → IsPlan p moves → f ≤ relocations moves
floor_covers p parts f moves ok each shown needed plan =
    covered p parts f moves (record {
      is_problem = ok;
      each = each;
      shown = λ x c b none. All-contains (λ (part : Part). Shows p part.name (given_by p part) f) parts x shown c moves plan b none;
      needed = needed;
    })

-- no plan has fewer relocations than the bound
pub bounded : (claim : Claimed) (moves : List Move) → IsAccepted claim → IsPlan claim.problem moves → claim.lower ≤ relocations moves
bounded claim moves ok plan =
    floor_covers claim.problem claim.parts claim.lower moves ok.is_problem ok.each_part
    (λ k d lt. part_shows claim.problem _ claim.lower ok.is_problem (ok.each_part k d lt) (ok.each_cut k d lt) ok.within_cap)
    (λ name. (ok.as_needed name).1) plan

-- at the cap there is no plan
pub no_plan_at_cap : (claim : Claimed) (moves : List Move) → IsAccepted claim → claim.lower ≡ cap claim.problem → IsPlan claim.problem moves → ⊥
no_plan_at_cap claim moves ok e plan = omega (arith, bounded claim moves ok plan, below_cap claim.problem moves ok.is_problem plan)

-- a plan that meets the bound is a best one
pub best : (claim : Claimed) (rows : List ℕ) → IsAccepted claim → claim.plan ≡ Some rows → length rows ≡ claim.lower → IsBest claim.problem claim.lower
best claim rows ok e n =
    let given : IsPlanPath claim.problem rows = rw e at ok.plan_is in
    record {
      reached = (given.0, given.1, relocations-path given.0 ∙ ap length given.2 ∙ n);
      least = λ moves plan. bounded claim moves ok plan;
    }
