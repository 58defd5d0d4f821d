use Rattle.std.proofs.Common.{[], get_or, length, sym, ap, ◌∙◌, set, length-set}
use Rattle.crp_bay.specs.Positions.{top, without_top}
use Rattle.crp_bay.proofs.Tops.{top_push, without_push, any_default}
use Rattle.crp_bay.proofs.Pushing.{refill_whole}
use Rattle.crp_thinning.proofs.moving.lift.Goals as goal
use Rattle.crp_thinning.proofs.moving.lift.Goals.{Start}

pub returns-clause-value : goal.returns-clause-value
returns-clause-value c =
    sym (ap top (any_default c.args.stacks.now.items c.args.row [] c.index-as_mut_slice-row.result c.requires.there ∙ sym (ap (λ l. get_or l c.args.row c.index-as_mut_slice-row.result) c.as_mut_slice.ensures.value) ∙ c.pop.ensures) ∙ top_push c.pop.new.self c.pop.result)

pub returns-clause-rest : goal.returns-clause-rest
returns-clause-rest c =
    refill_whole c.args.stacks.now.items (set c.as_mut_slice.result.now c.args.row c.pop.new.self) (length-set c.as_mut_slice.result.now c.args.row c.pop.new.self ∙ ap length c.as_mut_slice.ensures.value)
    ∙ ap (λ l. set l c.args.row c.pop.new.self) c.as_mut_slice.ensures.value
    ∙ ap (set c.args.stacks.now.items c.args.row)
    (sym (ap without_top (any_default c.args.stacks.now.items c.args.row [] c.index-as_mut_slice-row.result c.requires.there ∙ sym (ap (λ l. get_or l c.args.row c.index-as_mut_slice-row.result) c.as_mut_slice.ensures.value) ∙ c.pop.ensures) ∙ without_push c.pop.new.self c.pop.result))
