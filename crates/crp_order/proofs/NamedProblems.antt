-- Where the names of a yard fit a line, so do those of its problems.
use Rattle.std.proofs.Common.{◌≡◌, ℕ, Bool, true, false, cond, List, [], ◌∷◌, map, refl, sym, subst}
use Rattle.std.specs.Prelude.{◌||◌, filter, not}
use Rattle.std.specs.List.{AllByRecursion}
use Rattle.std.specs.Str.{bytes_eq}
use Rattle.std.proofs.lemmas.Bool.{false≢true}
use Rattle.crp_sizes.specs.Sizes.{YardSizes}
use Rattle.crp_yard.specs.Inventory.{Inventory, StackedBay, is_among}
use Rattle.crp_yard.specs.Naming.{FitsLine, IsNamedBay}
use Rattle.crp_yard.proofs.NamedBays.{all_both}
use Rattle.crp_order.specs.BayProblems.{standing, leaving, staying, ranked, problems_of, bay_problem_of, is_called, IsNamedProblem}
use Rattle.crp_order.proofs.Once.{same}

-- what holds of all holds of those that pass a test
kept : {X : Type 0} (P : X → Type 0) (test : X → Bool) (xs : List X) → AllByRecursion P xs → AllByRecursion P (filter test xs)
kept P test [] all = tt
kept P test (x ∷ xs) all = by (test x) (kept P test xs all.1)
  where
    by : (t : Bool) → AllByRecursion P (filter test xs) → AllByRecursion P (cond t (x ∷ filter test xs) (filter test xs))
    by true more = (all.0, more)
    by false more = more

-- what holds of each that passes a test holds of all of those
passing : {X : Type 0} (P : X → Type 0) (test : X → Bool) (xs : List X) → ((x : X) → test x ≡ true → P x) → AllByRecursion P (filter test xs)
passing P test [] each = tt
passing P test (x ∷ xs) each = by (test x) refl (passing P test xs each)
  where
    by : (t : Bool) → test x ≡ t → AllByRecursion P (filter test xs) → AllByRecursion P (cond t (x ∷ filter test xs) (filter test xs))
    by true e more = (each x e, more)
    by false e more = more

-- a name that is among names that fit fits
among_fits : (names : List (List ℕ)) (name : List ℕ) → AllByRecursion FitsLine names → is_among names name ≡ true → FitsLine name
among_fits [] name fit e = absurd (false≢true e)
among_fits (other ∷ names) name fit e = by (bytes_eq name other) refl e (λ later. among_fits names name fit.1 later)
  where
    by : (t : Bool) → bytes_eq name other ≡ t → (t || is_among names name) ≡ true → (is_among names name ≡ true → FitsLine name) → FitsLine name
    by true same_as h later = subst FitsLine (sym (same name other same_as)) fit.0
    by false apart h later = later h

ranked_fit : (sequence : List (List ℕ)) (stacks : List (List (List ℕ))) → AllByRecursion FitsLine (standing stacks) → AllByRecursion FitsLine (ranked sequence stacks)
ranked_fit sequence stacks fit =
    all_both FitsLine (leaving sequence stacks) (staying sequence stacks)
    (passing FitsLine (is_among (standing stacks)) sequence (λ name e. among_fits (standing stacks) name fit e))
    (kept FitsLine (λ name. not (is_among sequence name)) (standing stacks) fit)

all_named : (sizes : YardSizes) (sequence : List (List ℕ)) (bays : List StackedBay) → AllByRecursion IsNamedBay bays → AllByRecursion IsNamedProblem (map (bay_problem_of sizes sequence) bays)
all_named sizes sequence [] named = tt
all_named sizes sequence (bay ∷ bays) all =
    let first = all.0 in
    (record { bay = first.name; names = ranked_fit sequence bay.1 first.containers }, all_named sizes sequence bays all.1)

pub problems_named : (yard : Inventory) (sequence : List (List ℕ)) → AllByRecursion IsNamedBay yard.bays → AllByRecursion IsNamedProblem (problems_of yard sequence)
problems_named yard sequence named =
    all_named yard.sizes sequence (filter (is_called sequence) yard.bays) (kept IsNamedBay (is_called sequence) yard.bays named)
