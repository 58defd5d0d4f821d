-- The path that follows the greedy rule from the start.
use Rattle.std.proofs.Common.{◌≡◌, ℕ, suc, ◌<◌, ◌≤◌, ◌⊎◌, inl, inr, ⊎_elim, List, [], ◌∷◌, ◌++◌, length, Contains, refl, sym, ap, ◌∙◌, subst, arith, append_assoc, append-nil, length-append}
use Rattle.std.proofs.lemmas.Bool.{cases_lt}
use Rattle.crp_plan.specs.Bay.{Problem, IsProblem, start, Position, IsAt, IsFinished}
use Rattle.crp_plan.specs.Faults.{IsPlanPath}
use Rattle.crp_plan.proofs.Paths.{same_at, no_take_at_end}
use Rattle.crp_plan.proofs.Covered.{branch, ended}
use Rattle.crp_bay.specs.Positions.{targets, child, settled}
use Rattle.crp_bay.proofs.Members.{not_in_nil}
use Rattle.crp_bay.proofs.Reaching.{reached_next}
use Rattle.crp_bay.proofs.Walked.{begins_at, target_goes_on}
use Rattle.crp_search.specs.Greedy.{IsGreedyRow, IsGreedyPath}
use Rattle.crp_search.proofs.Choice.{one_row}

-- what stands in a list with one more at its end stands before that, or is the last
pub push_split : (path : List ℕ) (row : ℕ) (front : List ℕ) (x : ℕ) (rest : List ℕ) → path ++ row ∷ [] ≡ front ++ x ∷ rest → ((front ≡ path) × (x ≡ row)) ⊎ ((more : List ℕ) × (path ≡ front ++ x ∷ more))
push_split [] row [] x rest e = inl (refl, cc)
push_split [] row (f ∷ front) x rest e = absurd (omega (arith, ap length e, length-append front (x ∷ rest)))
push_split (y ∷ path) row [] x rest e = inr (path, cc)
push_split (y ∷ path) row (f ∷ front) x rest e =
    let same : y ≡ f = cc in let tails : path ++ row ∷ [] ≡ front ++ x ∷ rest = cc in
    ⊎_elim (λ k. inl (ap (λ l. f ∷ l) k.0 ∙ ap (λ z. z ∷ path) (sym same), k.1)) (λ k. inr (k.0, ap (λ l. y ∷ l) k.1 ∙ ap (λ z. z ∷ (front ++ x ∷ k.0)) same)) (push_split path row front x rest tails)

-- a position that is not finished has a container that is to leave
pub unfinished : (p : Problem) (path : List ℕ) (s : Position) → IsProblem p → IsAt p path s → (IsFinished s → ⊥) → s.next ≤ s.ordered
unfinished p path s is a open' =
    let within = (reached_next s (record { problem = p; path = path; is_problem = is; is_at = a })).1 in
    ⊎_elim (λ (l : s.next < suc s.ordered). omega arith) (λ (ge : suc s.ordered ≤ s.next). let end : s.next ≡ suc s.ordered = omega (arith, within) in absurd (open' end)) (cases_lt s.next (suc s.ordered))

-- where the position at a path is finished, the path is a plan's
pub complete : (p : Problem) (path : List ℕ) (s : Position) → IsAt p path s → IsFinished s → IsPlanPath p path
complete p path s a end = (a.moves, (s, a.runs, end), a.by_path)

-- and the position at a plan's path is finished
pub completed : (p : Problem) (path : List ℕ) (s : Position) → IsProblem p → IsAt p path s → IsPlanPath p path → IsFinished s
completed p path s is a plan =
    let end : Position = plan.1.0 in
    let b : IsAt p path end = record { moves = plan.0; runs = plan.1.1; by_path = plan.2; no_take = no_take_at_end end plan.1.2 } in
    subst IsFinished (same_at p path end s is b a) plan.1.2

-- a path each of whose rows is the greedy one, with its position; and each greedy plan begins with it
pub record IsGreedyFront (p : Problem) (path : List ℕ) (s : Position) : Type 0 where
  pub at : IsAt p path s
  pub each_row : (front : List ℕ) (row : ℕ) (rest : List ℕ) (before : Position) → path ≡ front ++ row ∷ rest → IsAt p front before → IsGreedyRow p before row
  pub begins : (other : List ℕ) → IsGreedyPath p other → (rest : List ℕ) × (other ≡ path ++ rest)

-- the empty path is one
pub front_begins : (p : Problem) (s : Position) → IsAt p [] s → IsGreedyFront p [] s
front_begins p s a = record {
  at = a;
  each_row = λ front row rest before e b. absurd (omega (arith, ap length e, length-append front (row ∷ rest)));
  begins = λ other g. (other, refl);
}

-- how a greedy plan goes on from an unfinished position on its path
pub goes_greedily : (p : Problem) (path rest : List ℕ) (s : Position) → IsProblem p → IsAt p path s → s.next ≤ s.ordered → IsGreedyPath p (path ++ rest) → (row : ℕ) × (after : List ℕ) × (rest ≡ row ∷ after) × IsGreedyRow p s row
goes_greedily p path rest s is a open' g =
    let b = branch p path rest s g.plan.0 is a open' g.plan.1 g.plan.2 in
    (b.0, b.1, b.2, g.each_row path b.0 b.1 s (ap (λ l. path ++ l) b.2) a)

-- it goes on by the greedy row
pub front_grows : (p : Problem) (path : List ℕ) (row : ℕ) (s t : Position) → IsProblem p → IsGreedyFront p path s → s.next ≤ s.ordered → IsGreedyRow p s row → IsAt p (path ++ row ∷ []) t → IsGreedyFront p (path ++ row ∷ []) t
front_grows p path row s t is f open' greedy a = record {
  at = a;
  each_row = λ front x rest before e b. ⊎_elim
      (λ (k : (front ≡ path) × (x ≡ row)).
      let same : before ≡ s = same_at p path before s is (subst (λ l. IsAt p l before) k.0 b) f.at in
      subst (λ v. IsGreedyRow p v x) (sym same) (subst (IsGreedyRow p s) (sym k.1) greedy))
      (λ (k : (more : List ℕ) × (path ≡ front ++ x ∷ more)). f.each_row front x k.0 before k.1 b)
      (push_split path row front x rest e);
  begins = λ other g.
      let k = f.begins other g in
      let on = goes_greedily p path k.0 s is f.at open' (subst (IsGreedyPath p) k.1 g) in
      let same : on.0 ≡ row = one_row p s on.0 row on.3 greedy in
      (on.1, k.1 ∙ ap (λ l. path ++ l) (on.2 ∙ ap (λ r. r ∷ on.1) same) ∙ sym (append_assoc path (row ∷ []) on.1));
}

-- at a finished position it is the greedy plan
pub front_ends : (p : Problem) (path : List ℕ) (s : Position) → IsGreedyFront p path s → IsFinished s → IsGreedyPath p path
front_ends p path s f end = record { plan = complete p path s f.at end; each_row = f.each_row }

-- where no relocation is legal there is none
pub front_stops : (p : Problem) (path : List ℕ) (s : Position) → IsProblem p → IsGreedyFront p path s → s.next ≤ s.ordered → targets s ≡ [] → (other : List ℕ) → IsGreedyPath p other → ⊥
front_stops p path s is f open' none other g =
    let k = f.begins other g in
    let on = goes_greedily p path k.0 s is f.at open' (subst (IsGreedyPath p) k.1 g) in
    not_in_nil on.0 (subst (λ l. Contains l on.0) none on.3.legal)

-- two greedy plans that begin alike go on alike
same_rest : (p : Problem) (front rest other : List ℕ) (s : Position) → IsProblem p → IsAt p front s → IsGreedyPath p (front ++ rest) → IsGreedyPath p (front ++ other) → rest ≡ other
same_rest p front [] other s is a g h =
    let end : IsFinished s = completed p front s is a (subst (IsPlanPath p) (append-nil front) g.plan) in
    sym (ended p front other s h.plan.0 is a end h.plan.1 h.plan.2)
same_rest p front (row ∷ rest) [] s is a g h =
    let end : IsFinished s = completed p front s is a (subst (IsPlanPath p) (append-nil front) h.plan) in
    ended p front (row ∷ rest) s g.plan.0 is a end g.plan.1 g.plan.2
same_rest p front (row ∷ rest) (x ∷ other) s is a g h =
    let here : IsGreedyRow p s row = g.each_row front row rest s refl a in
    let same : x ≡ row = one_row p s x row (h.each_row front x other s refl a) here in
    let h' : IsGreedyPath p (front ++ row ∷ other) = subst (λ r. IsGreedyPath p (front ++ r ∷ other)) same h in
    let tails : rest ≡ other = same_rest p (front ++ row ∷ []) rest other (child s row) is (target_goes_on p front s row is a here.legal)
    (subst (IsGreedyPath p) (sym (append_assoc front (row ∷ []) rest)) g) (subst (IsGreedyPath p) (sym (append_assoc front (row ∷ []) other)) h') in
    ap (λ l. row ∷ l) tails ∙ ap (λ r. r ∷ other) (sym same)

-- there is one greedy plan at most
pub same_greedy : (p : Problem) (path other : List ℕ) → IsProblem p → IsGreedyPath p path → IsGreedyPath p other → path ≡ other
same_greedy p path other is g h = same_rest p [] path other (settled (start p)) is (begins_at p is) g h
