use Rattle.std.proofs.Common.{◌≡◌, ◌∙◌, ◌≤◌, Some, length, map, ap, subst, arith}
use Rattle.crp_follow.specs.Followed.{BayFollowed}
use Rattle.crp_follow.specs.Stated.{moves_of}
use Rattle.crp_follow.specs.Table.{leaves_at}
use Rattle.crp_follow.specs.Views.{taken_as}
use Rattle.crp_picture.specs.Cells.{step_of}
use Rattle.crp_picture.proofs.Leaving.{few_steps, step_found}
use Rattle.crp_picture.proofs.drawn.DrawnBay.step_of.Goals as goal

pub returns-in-Some-clause-among : goal.returns-in-Some-clause-among
returns-in-Some-clause-among c =
    let moves = c.self.inside.followed.now.stated.moves.items in
    let name = c.args.name.now in
    let same : c.in-Some.step ≡ step_of (moves_of moves) name =
    step_found moves (map taken_as c.self.inside.takes.items) name (Some c.in-Some.step) c.self.invariant (c.in-Some.ensures ∙ ap (λ l. leaves_at (map taken_as l) name) c.deref.ensures.value) in
    let few = few_steps moves name in
    subst (λ (b : BayFollowed). c.in-Some.step ≤ length b.stated.moves) c.self.view_is (omega (arith, same, few))
