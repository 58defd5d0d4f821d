-- The shorter of the greedy plan and another.
use Rattle.std.proofs.Common.{◌≡◌, ℕ, Bool, true, false, ⊎_elim, if◌then◌else◌, List, length, Option, None, Some, IfSome, IfNone, sym, ap, subst, arith}
use Rattle.std.specs.Prelude.{nat_lt}
use Rattle.std.proofs.lemmas.Bool.{cases_Bool}
use Rattle.std.proofs.lemmas.Bool.Decides.{nat_tests}
use Rattle.crp_plan.specs.Bay.{Problem, IsProblem}
use Rattle.crp_plan.specs.Plans.{ProblemPath}
use Rattle.crp_search.specs.Greedy.{IsGreedyPath}
use Rattle.crp_search.specs.Beam.{IsNoLonger, shorter}
use Rattle.crp_search.proofs.Greedily.{same_greedy}

-- the greedy plan has no more relocations than itself
greedy_no_longer : (p : Problem) (path : List ℕ) → IsProblem p → IsGreedyPath p path → IsNoLonger p path
greedy_no_longer p path is g greedy h = omega (arith, ap length (same_greedy p path greedy is g h))

-- so has the shorter of it and another
pub shorter_no_longer : (p : Problem) (first other : Option ProblemPath) → IsProblem p → IfSome first (λ plan. IsGreedyPath p plan.path) →
    IfNone first ((path : List ℕ) → IsGreedyPath p path → ⊥) → IfSome (shorter first other) (λ plan. IsNoLonger p plan.path)
shorter_no_longer p None None is g none = tt
shorter_no_longer p None (Some other) is g none = λ greedy h. absurd (none greedy h)
shorter_no_longer p (Some plan) None is g none = greedy_no_longer p plan.path is g
shorter_no_longer p (Some plan) (Some other) is g none =
    let P : Option ProblemPath → Type 0 = λ found. IfSome found (λ plan. IsNoLonger p plan.path) in
    let own : IsNoLonger p plan.path = greedy_no_longer p plan.path is g in
    ⊎_elim
    (λ (less : nat_lt (length other.path) (length plan.path) ≡ true). subst (λ (b : Bool). P (if b then Some other else Some plan)) (sym less)
    (λ greedy h. grind (arith, nat_tests, less, own greedy h)))
    (λ (more : nat_lt (length other.path) (length plan.path) ≡ false). subst (λ (b : Bool). P (if b then Some other else Some plan)) (sym more) own)
    (cases_Bool (nat_lt (length other.path) (length plan.path)))
