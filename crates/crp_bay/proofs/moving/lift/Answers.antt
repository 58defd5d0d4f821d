use Rattle.std.proofs.Common.{[], sym, ap, ◌∙◌, set}
use Rattle.crp_bay.specs.Positions.{top, without_top}
use Rattle.crp_bay.proofs.Tops.{top_push, without_push, any_default}
use Rattle.crp_bay.proofs.moving.lift.Goals as goal

pub returns-clause-value : goal.returns-clause-value
returns-clause-value c =
    sym (ap top (any_default c.args.stacks.now c.args.row [] c.index-stacks-row.result c.requires.there ∙ c.pop.ensures) ∙ top_push c.pop.new.self c.pop.result)

pub returns-clause-rest : goal.returns-clause-rest
returns-clause-rest c =
    ap (set c.args.stacks.now c.args.row)
    (sym (ap without_top (any_default c.args.stacks.now c.args.row [] c.index-stacks-row.result c.requires.there ∙ c.pop.ensures) ∙ without_push c.pop.new.self c.pop.result))
