use Rattle.std.proofs.Common.{◌∙◌, ◌++◌, ◌∷◌, [], length, map, refl, ap}
use Rattle.std.proofs.lemmas.Option.{slice_get_read}
use Rattle.std.proofs.lemmas.List.{map-append}
use Rattle.crp_follow.specs.Stated.{moves_of}
use Rattle.crp_picture.specs.Views.{cell_as}
use Rattle.crp_picture.proofs.Rowwise.{row_longer}
use Rattle.crp_picture.proofs.cells.add_row.Goals as goal

pub loop-i-preserved : goal.loop-i-preserved
loop-i-preserved c =
    let stack = c.args.stack.now in
    let at = slice_get_read stack (length stack) c.loop-i.i c.index-stack-i.result refl c.loop-i-test.true c.index-stack-i.is in
    row_longer (moves_of c.args.bay.now.stated.moves) c.args.row stack c.loop-i.i c.index-stack-i.result (map cell_as c.args.cells.now.items) (map cell_as c.loop-i.cells.items) _ at c.loop-i.invariant
    (ap (map cell_as) c.in_ok-push.ensures.items ∙ map-append cell_as c.loop-i.cells.items (c.cell_on.result ∷ []) ∙ ap (λ x. map cell_as c.loop-i.cells.items ++ x ∷ []) c.cell_on.ensures)
