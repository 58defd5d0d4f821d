use Rattle.std.proofs.Common.{◌≡◌, ℕ, List, [], ◌∷◌, ◌++◌, length, sym, ap, ◌∙◌, subst, arith, length-append, lit<}
use Rattle.crp_plan.specs.Bay.{IsAt, IsFinished}
use Rattle.crp_plan.specs.Plans.{ProblemPath}
use Rattle.crp_plan.proofs.Steps.{short_path}
use Rattle.crp_search.specs.Greedy.{IsGreedyPath}
use Rattle.crp_search.proofs.Greedily.{IsGreedyFront, unfinished, front_begins, front_grows, front_ends, front_stops}
use Rattle.crp_search.proofs.greedy.first_plan.Goals as goal

pub loop-position-init : goal.loop-position-init
loop-position-init c =
    subst (λ l. IsGreedyFront c.args.problem.now l c.start-position.result.place) (sym c.new-path.ensures) (front_begins c.args.problem.now c.start-position.result.place c.start-position.ensures.at)

pub returns-in_err-row-clause-none : goal.returns-in_err-row-clause-none
returns-in_err-row-clause-none c = rw c.from_residual.ensures (λ path g. front_stops c.args.problem.now c.loop-position.path.items c.loop-position.position.place c.start-position.ensures.problem c.loop-position.invariant
    (unfinished c.args.problem.now c.loop-position.path.items c.loop-position.position.place c.start-position.ensures.problem c.loop-position.invariant.at (λ end. let yes = c.is_done.ensures.done.1 end in let test = c.loop-position-test.true in cc))
    c.in_err-row.ensures.none path g)

pub push-requires : goal.push-requires
push-requires c =
    let path : List ℕ = c.loop-position.path.items in
    let on : IsAt c.args.problem.now (path ++ c.in_ok-row.row ∷ []) c.in-Some.child.place = c.in-Some.ensures.at c.args.problem.now path c.start-position.ensures.problem c.loop-position.invariant.at in
    (lit< tt, omega (arith, short_path c.args.problem.now (path ++ c.in_ok-row.row ∷ []) c.in-Some.child.place c.start-position.ensures.problem on, length-append path (c.in_ok-row.row ∷ [])))

pub loop-position-smaller : goal.loop-position-smaller
loop-position-smaller c =
    let path : List ℕ = c.loop-position.path.items in
    let on : IsAt c.args.problem.now (path ++ c.in_ok-row.row ∷ []) c.in-Some.child.place = c.in-Some.ensures.at c.args.problem.now path c.start-position.ensures.problem c.loop-position.invariant.at in
    omega (arith, short_path c.args.problem.now (path ++ c.in_ok-row.row ∷ []) c.in-Some.child.place c.start-position.ensures.problem on, length-append path (c.in_ok-row.row ∷ []), ap length c.push.ensures.items)

pub loop-position-preserved : goal.loop-position-preserved
loop-position-preserved c =
    let path : List ℕ = c.loop-position.path.items in
    let on : IsAt c.args.problem.now (path ++ c.in_ok-row.row ∷ []) c.in-Some.child.place = c.in-Some.ensures.at c.args.problem.now path c.start-position.ensures.problem c.loop-position.invariant.at in
    subst (λ l. IsGreedyFront c.args.problem.now l c.in-Some.child.place) (sym c.push.ensures.items)
    (front_grows c.args.problem.now path c.in_ok-row.row c.loop-position.position.place c.in-Some.child.place c.start-position.ensures.problem c.loop-position.invariant
    (unfinished c.args.problem.now path c.loop-position.position.place c.start-position.ensures.problem c.loop-position.invariant.at (λ end. let yes = c.is_done.ensures.done.1 end in let test = c.loop-position-test.true in cc))
    c.in_ok-row.ensures.chosen on)

pub returns-clause-greedy : goal.returns-clause-greedy
returns-clause-greedy c =
    let end : IsFinished c.loop-position.position.place = c.is_done.ensures.done.0 c.loop-position-test.false in
    let greedy : IsGreedyPath c.args.problem.now c.loop-position.path.items = front_ends c.args.problem.now c.loop-position.path.items c.loop-position.position.place c.loop-position.invariant end in
    let path : c.in-Ok.plan.path ≡ c.loop-position.path.items = ap (λ (r : ProblemPath). r.path) c.in-Ok.ensures.value ∙ c.as_slice.ensures.value in
    subst (IsGreedyPath c.args.problem.now) (sym path) greedy
