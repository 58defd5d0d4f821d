use Rattle.std.proofs.Common.{◌≡◌, ℕ, ◌<◌, ◌≤◌, ⊎_elim, Bool, true, false, List, sym, ap, subst, refl, arith}
use Rattle.std.proofs.lemmas.Bool.{cases_lt}
use Rattle.crp_plan.specs.Bay.{Problem, IsProblem, Position, IsAt, IsFinished}
use Rattle.crp_plan.proofs.Steps.{short_path}
use Rattle.crp_bay.specs.Back.{PlaceAndTrail}
use Rattle.crp_bounds.specs.Bounds.{blocking, look_ahead}
use Rattle.crp_bay.specs.Reached.{IsReached}
use Rattle.crp_tree.specs.Mark.{B, L, R, X}
use Rattle.crp_tree.proofs.Reasoned.{closes_spelled}
use Rattle.crp_search.proofs.Greedily.{complete, unfinished}
use Rattle.crp_search.proofs.Closing.{closed_b, closed_l, closed_r}
use Rattle.crp_search.proofs.walking.close_below.Goals as goal

pub take_plan-requires-clause-plan : goal.take_plan-requires-clause-plan
take_plan-requires-clause-plan g c = complete c.args.problem.now c.args.path.now c.args.place.now.place c.requires.path (subst (λ (v : PlaceAndTrail). IsFinished v.place) c.position.ensures (c.is_done.ensures.done.0 c.if-is_done.true))

pub returns-then-is_done-clause-closes : goal.returns-then-is_done-clause-closes
returns-then-is_done-clause-closes g c =
    rw c.cut.ensures (record { met = λ rows _. c.take_plan.ensures.met rows c.args.place.now.place; closed = closed_b c.args.floor c.args.low c.args.path.now c.args.place.now.place _ c.requires.low; ended = tt })

pub reaching_cut-requires : goal.reaching_cut-requires
reaching_cut-requires g c = short_path c.args.problem.now c.args.path.now c.args.place.now.place c.requires.is_problem c.requires.path

pub refused_cut-requires-clause-length : goal.refused_cut-requires-clause-length
refused_cut-requires-clause-length g c = short_path c.args.problem.now c.args.path.now c.args.place.now.place c.requires.is_problem c.requires.path

pub overflow_add-length : goal.overflow_add-length
overflow_add-length g c =
    let few = short_path c.args.problem.now c.args.path.now c.args.place.now.place c.requires.is_problem c.requires.path in
    let shown = rw c.in-Closed.is at c.in_ok-go_on.ensures.shown in
    let low = shown.1 in
    let same = c.from-in-Closed.ensures in
    omega arith

-- the node is not finished
still_open : (p : Problem) (path : List ℕ) (s done : Position) (test : Bool) → IsProblem p → IsAt p path s → done ≡ s → test ≡ false → (IsFinished done → test ≡ true) → s.next ≤ s.ordered
still_open p path s done test is at here not_yet ends = unfinished p path s is at (λ end. let yes = ends (subst IsFinished (sym here) end) in absurd (cc))

pub returns-in-Granted-clause-closes : goal.returns-in-Granted-clause-closes
returns-in-Granted-clause-closes g c =
    let path = c.args.path.now in
    let place = c.args.place.now.place in
    let open' = still_open c.args.problem.now path place _ _ c.requires.is_problem c.requires.path (ap (λ (v : PlaceAndTrail). v.place) c.position.ensures) c.if-is_done.false c.is_done.ensures.done.1 in
    let below = c.in_default.ensures.below in
    let bar = c.requires.bar.1 in
    let met = rw c.in-Granted.is at c.in_ok-go_on.ensures.met in
    rw c.requires.problem (record { met = λ rows _. met rows (record { path = path; place = place; mark = X }) open' (refl, omega arith); closed = tt; ended = tt })

pub returns-in-Closed-clause-closes : goal.returns-in-Closed-clause-closes
returns-in-Closed-clause-closes g c =
    let path = c.args.path.now in
    let place = c.args.place.now.place in
    let text = g.S.Seek.text c.go_on.new.self in
    let bound = c.in-Closed.bound in
    let shown = rw (c.in-Closed.is, c.position-2.ensures) at c.in_ok-go_on.ensures.shown in
    let need = shown.0 in
    let length' = c.from.ensures in
    let low = c.requires.low in
    let less = c.requires.bar.0 in
    let bar = c.requires.bar.1 in
    let reached : IsReached place = record { problem = c.args.problem.now; path = path; is_problem = c.requires.is_problem; is_at = c.requires.path } in
    let met = rw c.in-Closed.is at c.in_ok-go_on.ensures.met in
    rw (c.cut-in-Closed.ensures, c.requires.problem) (record {
      met = λ rows _. met rows (record { path = path; place = place; mark = R bound text }) shown.2 (refl, omega arith, λ ahead. absurd (cc));
      closed = closed_r c.args.floor _ bound path place text (closes_spelled place bound text reached shown.1 shown.2) (let same = c.from-in-Closed.ensures in omega arith);
      ended = tt;
    })

pub returns-in-Refused-clause-closes : goal.returns-in-Refused-clause-closes
returns-in-Refused-clause-closes g c =
    let path = c.args.path.now in
    let place = c.args.place.now.place in
    let open' = still_open c.args.problem.now path place _ _ c.requires.is_problem c.requires.path (ap (λ (v : PlaceAndTrail). v.place) c.position.ensures) c.if-is_done.false c.is_done.ensures.done.1 in
    let below = c.in_default.ensures.below in
    let low = c.requires.low in
    let less = c.requires.bar.0 in
    let bar = c.requires.bar.1 in
    let met = rw c.in-Refused.is at c.in_ok-go_on.ensures.met in
    ⊎_elim
    (λ (lt : blocking place < look_ahead place). rw (c.refused_cut.ensures.higher (λ e. omega arith), c.requires.problem)
    (record { met = λ rows _. met rows (record { path = path; place = place; mark = L }) tt (refl, omega arith, open', λ ahead. (omega arith, lt)); closed = closed_l c.args.floor _ path place _ (omega arith); ended = tt }))
    (λ (le : look_ahead place ≤ blocking place). rw (c.refused_cut.ensures.equal (omega arith), c.requires.problem)
    (record { met = λ rows _. met rows (record { path = path; place = place; mark = B }) tt (refl, omega arith, open', λ ahead. absurd (cc)); closed = closed_b c.args.floor _ path place _ (omega arith); ended = tt }))
    (cases_lt (blocking place) (look_ahead place))
