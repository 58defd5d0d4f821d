use Rattle.std.proofs.Common.{[], ◌∷◌, refl, arith}
use Rattle.std.proofs.lemmas.Result.{err_from_is_err_and}
use Rattle.crp_plan.proofs.Steps.{short_path}
use Rattle.crp_bay.specs.Positions.{child}
use Rattle.crp_bay.specs.Reached.{IsReached}
use Rattle.crp_bay.proofs.Reaching.{can_from_target}
use Rattle.crp_bounds.proofs.Leasts.{few_blocked}
use Rattle.crp_tree.specs.Mark.{B}
use Rattle.crp_tree.specs.Trees.{Node}
use Rattle.crp_search.specs.Limits.{dealt}
use Rattle.crp_search.proofs.SoFar.{met_cut, none_granted}
use Rattle.crp_search.proofs.Closing.{held_b, closed_b, closes_from}
use Rattle.crp_search.proofs.walking.close_child.Goals as goal

pub overflow_cast-below : goal.overflow_cast-below
overflow_cast-below g c = let few = short_path c.args.problem.now c.args.path.now (child c.args.place.now.place c.args.row) c.requires.is_problem c.requires.path in omega arith

pub blocking_after-requires-clause-legal : goal.blocking_after-requires-clause-legal
blocking_after-requires-clause-legal g c = can_from_target c.args.place.now.place c.args.row c.requires.row

pub push_legal-requires-clause-legal : goal.push_legal-requires-clause-legal
push_legal-requires-clause-legal g c = can_from_target c.args.place.now.place c.args.row c.requires.row

pub overflow_add-below : goal.overflow_add-below
overflow_add-below g c = let few = short_path c.args.problem.now c.args.path.now (child c.args.place.now.place c.args.row) c.requires.is_problem c.requires.path in
    let is : IsReached (child c.args.place.now.place c.args.row) = record { problem = c.args.problem.now; path = c.args.path.now; is_problem = c.requires.is_problem; is_at = c.requires.path } in
    let low = few_blocked (child c.args.place.now.place c.args.row) is in let e = c.blocking_after.ensures in omega arith

pub returns-then-from-bar-clause-closes : goal.returns-then-from-bar-clause-closes
returns-then-from-bar-clause-closes g c =
    let p = c.args.problem.now in
    let next = child c.args.place.now.place c.args.row in
    let seen = dealt (g.L.Limit.view c.enough-bar.new.limit) (g.L.Limit.puts c.enough-bar.new.limit) in
    let node : Node = record { path = c.args.path.now; place = next; mark = B } in
    rw c.cut.ensures (record {
      met = λ rows _. g.met.S.Seek.onward p rows _ _ _ _ _ _ [] (node ∷ []) (c.enough-bar.ensures.met p rows)
          (g.met.S.Seek.one p rows c.enough-bar.new.self seen seen node (met_cut rows 0 seen seen node refl tt (none_granted 0 seen.view.granted seen.view.granted refl) refl) refl (held_b _ c.args.path.now next (omega arith)));
      closed = closed_b c.args.floor _ c.args.path.now next _ (omega arith);
      ended = tt;
    })

pub close_below-requires-clause-ready : goal.close_below-requires-clause-ready
close_below-requires-clause-ready g c = g.met.S.Seek.still c.args.problem.now 0 _ _ _ _ _ (c.enough-bar.ensures.met c.args.problem.now 0) c.requires.ready

pub returns-in_err-found-clause-closes : goal.returns-in_err-found-clause-closes
returns-in_err-found-clause-closes g c =
    let p = c.args.problem.now in
    let e = err_from_is_err_and c.from_residual.result c.from_residual.ensures.1 in
    rw (e.1, e.2) (closes_from 0 _ (rw c.push_legal.ensures at c.in_err-found.ensures.closes)
    (λ rows met later. g.met.S.Seek.onward p rows _ _ _ _ _ _ [] met (c.enough-bar.ensures.met p rows) later)
    (λ rows end later. g.met.S.Seek.ended p rows _ _ _ _ _ _ [] [] end (c.enough-bar.ensures.met p rows) later))

pub returns-then-is_some-clause-closes : goal.returns-then-is_some-clause-closes
returns-then-is_some-clause-closes g c =
    let p = c.args.problem.now in
    closes_from 0 _ (rw c.push_legal.ensures at c.in_ok-found.ensures.closes)
    (λ rows met later. g.met.S.Seek.onward p rows _ _ _ _ _ _ [] met (c.enough-bar.ensures.met p rows) later)
    (λ rows end later. g.met.S.Seek.ended p rows _ _ _ _ _ _ [] [] end (c.enough-bar.ensures.met p rows) later)

pub returns-else-is_some-clause-closes : goal.returns-else-is_some-clause-closes
returns-else-is_some-clause-closes g c =
    let p = c.args.problem.now in
    closes_from 0 _ (rw c.push_legal.ensures at c.in_ok-found.ensures.closes)
    (λ rows met later. g.met.S.Seek.onward p rows _ _ _ _ _ _ [] met (c.enough-bar.ensures.met p rows) later)
    (λ rows end later. g.met.S.Seek.ended p rows _ _ _ _ _ _ [] [] end (c.enough-bar.ensures.met p rows) later)
