use Rattle.std.proofs.Common.{[], ◌∷◌, refl, arith}
use Rattle.crp_plan.proofs.Steps.{short_path}
use Rattle.crp_tree.specs.Mark.{B}
use Rattle.crp_tree.specs.Trees.{Node}
use Rattle.crp_search.specs.Limits.{dealt}
use Rattle.crp_search.proofs.SoFar.{met_cut, none_granted}
use Rattle.crp_search.proofs.Closing.{held_b, closed_b, closes_from}
use Rattle.crp_search.proofs.walking.close.Goals as goal

pub overflow_cast-low : goal.overflow_cast-low
overflow_cast-low g c = let few = short_path c.args.problem.now c.args.path.now c.args.place.now.place c.requires.is_problem c.requires.path in omega arith

pub overflow_add-low : goal.overflow_add-low
overflow_add-low g c = let few = short_path c.args.problem.now c.args.path.now c.args.place.now.place c.requires.is_problem c.requires.path in let b = c.blocking.ensures.few in omega arith

pub returns-then-from-bar-clause-closes : goal.returns-then-from-bar-clause-closes
returns-then-from-bar-clause-closes g c =
    let p = c.args.problem.now in
    let seen = dealt (g.L.Limit.view c.enough-bar.new.limit) (g.L.Limit.puts c.enough-bar.new.limit) in
    let node : Node = record { path = c.args.path.now; place = c.args.place.now.place; mark = B } in
    rw c.cut.ensures (record {
      met = λ rows _. g.met.S.Seek.onward p rows _ _ _ _ _ _ [] (node ∷ []) (c.enough-bar.ensures.met p rows)
          (g.met.S.Seek.one p rows c.enough-bar.new.self seen seen node (met_cut rows 0 seen seen node refl tt (none_granted 0 seen.view.granted seen.view.granted refl) refl) refl (held_b _ c.args.path.now c.args.place.now.place (omega arith)));
      closed = closed_b c.args.floor _ c.args.path.now c.args.place.now.place _ (omega arith);
      ended = tt;
    })

pub close_below-requires-clause-ready : goal.close_below-requires-clause-ready
close_below-requires-clause-ready g c = g.met.S.Seek.still c.args.problem.now 0 _ _ _ _ _ (c.enough-bar.ensures.met c.args.problem.now 0) c.requires.ready

pub returns-clause-closes : goal.returns-clause-closes
returns-clause-closes g c =
    let p = c.args.problem.now in
    closes_from 0 _ c.close_below.ensures.closes
    (λ rows met later. g.met.S.Seek.onward p rows _ _ _ _ _ _ [] met (c.enough-bar.ensures.met p rows) later)
    (λ rows end later. g.met.S.Seek.ended p rows _ _ _ _ _ _ [] [] end (c.enough-bar.ensures.met p rows) later)
